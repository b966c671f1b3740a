use Rattle.std.proofs.Common.{◌≡◌, ◌<◌, ℕ, length, Some, ap, arith, subst, ◌∙◌, sym}
use Rattle.schema_plan.specs.declared.ready.ReadyColumn.{ReadyColumn}
use Rattle.schema_facts.specs.Dictionaries.{Project}
use Rattle.schema_facts.specs.Layout.{layout_of}
use Rattle.schema_plan.specs.Ready.{ready_columns}
use Rattle.schema_facts.specs.References.{Reference, reference_at}
use Rattle.life_intervals.specs.CohortParents.{reference_by}
use Rattle.life_intervals.specs.Found.{IsFound}
use Rattle.life_intervals.specs.Generator.{generator_of, last_unit, rows_in_all, table_of}
use Rattle.life_intervals.specs.Intervals.{parent_of}
use Rattle.cohort_sizes.proofs.CohortLemmas.{born_count-le}
use Rattle.life_intervals.proofs.CohortParentLemmas.{length-ready_columns, ready_is, reference_from_columns}
use Rattle.life_intervals.proofs.FoundLemmas.{found-parent}
use Rattle.life_intervals.proofs.ReferenceLemmas.{reference_at-within}
use Rattle.life_intervals.proofs.rows.Rows.parent.Goals as goal
use Rattle.life_intervals.proofs.rows.Rows.parent.Goals.{After-found_parent}

-- the reference of the column is the one that is ready
reference_is : (g : _) (c : After-found_parent g) (reference : Reference) → reference_at (table_of c.args.self.now c.args.table) c.args.column ≡ Some reference → reference_by c.args.column c.in-Reference.reference ≡ reference
reference_is g c reference is =
    let plan : Project = c.args.self.now in
    let columns : c.columns.result.now ≡ ready_columns (layout_of plan) c.args.table =
    c.columns.ensures.columns ∙ ap (λ (p : Project). ready_columns (layout_of p) c.args.table) c.plan.ensures in
    let within : c.args.column < length c.columns.result.now =
    omega (arith, reference_at-within (table_of plan c.args.table) c.args.column reference is, ap length columns, length-ready_columns plan c.args.table) in
    let of = reference_from_columns plan c.args.table c.args.column c.columns.result.now c.index-columns-column.result c.in-Reference.reference columns within c.index-columns-column.is
    (ap (λ (ready : ReadyColumn). ready.kind) c.index-columns-column.is ∙ c.in-Reference.is) in
    let same : Some (reference_by c.args.column c.in-Reference.reference) ≡ Some reference = sym (ready_is plan c.args.table c.args.column c.in-Reference.reference of).is ∙ is in
    cc

pub returns-clause-parent : goal.returns-clause-parent
returns-clause-parent g c = λ reference is.
    let plan : Project = c.args.self.now in
    let row = c.find-row.result in
    let found : IsFound plan c.args.table row = subst (λ (p : Project). IsFound p c.args.table row) c.plan-2.ensures c.find-row.ensures.found in
    c.found_parent.ensures.parent
    ∙ found-parent plan c.args.table row found (last_unit plan) found.born c.args.column c.in-Reference.reference
    ∙ ap (parent_of (generator_of plan) c.args.table (last_unit plan) row.ordinal) (reference_is g c reference is)
    ∙ ap (λ (j : ℕ). parent_of (generator_of plan) c.args.table (last_unit plan) j reference) c.find-row.ensures.ordinal

pub returns-clause-within : goal.returns-clause-within
returns-clause-within g c = λ reference is.
    let plan : Project = c.args.self.now in
    let row = c.find-row.result in
    let found : IsFound plan c.args.table row = subst (λ (p : Project). IsFound p c.args.table row) c.plan-2.ensures c.find-row.ensures.found in
    subst (λ (r : Reference). c.found_parent.result < rows_in_all plan r.parent) (reference_is g c reference is)
    (omega (arith, c.found_parent.ensures.born, born_count-le (table_of plan c.in-Reference.reference.parent).births row.born (last_unit plan) found.born))
