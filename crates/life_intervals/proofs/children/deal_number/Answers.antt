use Rattle.std.proofs.Common.{◌≡◌, ◌<◌, ◌-◌, ℕ, ap, ap₂, arith, subst, sym, ◌∙◌}
use Rattle.philox_seeds.specs.SeedTree.{deal_seed}
use Rattle.id_permutation.specs.Order.{Arrangement, number_at}
use Rattle.schema_plan.specs.declared.ready.ReadyColumn.{ReadyColumn}
use Rattle.schema_plan.specs.declared.ready.ReadyReference.{ReadyReference}
use Rattle.schema_facts.specs.Dictionaries.{Project}
use Rattle.schema_facts.specs.Layout.{layout_of}
use Rattle.schema_facts.specs.References.{Reference, reference_at}
use Rattle.life_intervals.specs.declared.window.CandidateWindow.{CandidateWindow}
use Rattle.life_intervals.specs.Children.{IsCandidate, candidate_count, deal_number}
use Rattle.life_intervals.specs.CohortParents.{reference_by, window_by}
use Rattle.life_intervals.specs.Generator.{table_of}
use Rattle.life_intervals.specs.References.{deal_of}
use Rattle.life_intervals.proofs.ChildLemmas.{HasReference-some, IsRead, IsRead-columns}
use Rattle.life_intervals.proofs.CohortParentLemmas.{parent_below}
use Rattle.life_intervals.proofs.children.deal_number.Goals as goal

pub of_cohort-window-requires-clause-parent : goal.of_cohort-window-requires-clause-parent
of_cohort-window-requires-clause-parent g c =
    let plan : Project = c.args.plan.now in
    let has = HasReference-some (reference_at (table_of plan c.args.table) c.args.column) c.requires.reference in
    let read = IsRead-columns plan c.args.table c.args.column c.columns.result.now c.index-columns-column.result c.in-Reference.reference has.reference c.columns.ensures.columns c.index-columns-column.is
    (ap (λ (held : ReadyColumn). held.kind) c.index-columns-column.is ∙ c.in-Reference.is) has.is in
    parent_below plan c.schema-limits.ensures.limits c.args.table c.args.column c.in-Reference.reference c.requires.table read.of

pub overflow_sub-parent : goal.overflow_sub-parent
overflow_sub-parent g c =
    let plan : Project = c.args.plan.now in
    let has = HasReference-some (reference_at (table_of plan c.args.table) c.args.column) c.requires.reference in
    let read = IsRead-columns plan c.args.table c.args.column c.columns.result.now c.index-columns-column.result c.in-Reference.reference has.reference c.columns.ensures.columns c.index-columns-column.is
    (ap (λ (held : ReadyColumn). held.kind) c.index-columns-column.is ∙ c.in-Reference.is) has.is in
    let candidate = subst (λ (r : Reference). IsCandidate plan r c.args.unit c.args.parent) (sym read.same) (c.requires.parent has.reference has.is) in
    omega (arith, candidate.begun, ap (λ (w : CandidateWindow). w.first) c.of_cohort-window.ensures)

pub unplace-requires : goal.unplace-requires
unplace-requires g c =
    let plan : Project = c.args.plan.now in
    let has = HasReference-some (reference_at (table_of plan c.args.table) c.args.column) c.requires.reference in
    let read = IsRead-columns plan c.args.table c.args.column c.columns.result.now c.index-columns-column.result c.in-Reference.reference has.reference c.columns.ensures.columns c.index-columns-column.is
    (ap (λ (held : ReadyColumn). held.kind) c.index-columns-column.is ∙ c.in-Reference.is) has.is in
    let candidate = subst (λ (r : Reference). IsCandidate plan r c.args.unit c.args.parent) (sym read.same) (c.requires.parent has.reference has.is) in
    omega (
      arith,
      candidate.begun,
      candidate.born,
      ap (λ (w : CandidateWindow). w.first) c.of_cohort-window.ensures,
      ap (λ (o : Arrangement). o.size) (c.by_rounds.ensures ∙ c.wanted_deal.ensures),
    )

pub returns-clause-number : goal.returns-clause-number
returns-clause-number g c = λ reference at.
    let plan : Project = c.args.plan.now in
    let ready : ReadyReference = c.in-Reference.reference in
    let read : IsRead plan c.args.table c.args.column ready reference =
    IsRead-columns plan c.args.table c.args.column c.columns.result.now c.index-columns-column.result ready reference c.columns.ensures.columns c.index-columns-column.is
    (ap (λ (held : ReadyColumn). held.kind) c.index-columns-column.is ∙ c.in-Reference.is) at in
    let candidate = subst (λ (r : Reference). IsCandidate plan r c.args.unit c.args.parent) (sym read.same) (c.requires.parent reference at) in
    let window : CandidateWindow = window_by plan ready c.args.unit in
    let many : window.count ≡ candidate_count plan (reference_by c.args.column ready) c.args.unit = omega (arith, candidate.begun, candidate.born) in
    let dealt : ℕ → ℕ = λ count. number_at (deal_of ready.drawn (deal_seed (layout_of plan).seed c.args.table c.args.column c.args.unit) count) (c.args.parent - window.first) in
    c.unplace.ensures.exact
    ∙ ap₂ (λ (o : Arrangement) (w : CandidateWindow). number_at o (c.args.parent - w.first)) (c.by_rounds.ensures ∙ c.wanted_deal.ensures) c.of_cohort-window.ensures
    ∙ ap dealt many
    ∙ ap (λ (r : Reference). deal_number plan c.args.table r c.args.unit c.args.parent) read.same

pub returns-clause-below : goal.returns-clause-below
returns-clause-below g c = λ reference at.
    let plan : Project = c.args.plan.now in
    let ready : ReadyReference = c.in-Reference.reference in
    let read : IsRead plan c.args.table c.args.column ready reference =
    IsRead-columns plan c.args.table c.args.column c.columns.result.now c.index-columns-column.result ready reference c.columns.ensures.columns c.index-columns-column.is
    (ap (λ (held : ReadyColumn). held.kind) c.index-columns-column.is ∙ c.in-Reference.is) at in
    let candidate = subst (λ (r : Reference). IsCandidate plan r c.args.unit c.args.parent) (sym read.same) (c.requires.parent reference at) in
    subst (λ (r : Reference). c.unplace.result < candidate_count plan r c.args.unit) read.same
    (omega (
      arith,
      candidate.begun,
      candidate.born,
      c.unplace.ensures.below,
      ap (λ (o : Arrangement). o.size) (c.by_rounds.ensures ∙ c.wanted_deal.ensures),
    ))
