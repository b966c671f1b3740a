use Rattle.std.proofs.Common.{◌≡◌, ◌<◌, ◌≤◌, ℕ, Option, length, Some, None, ap, arith, subst, sym, ◌∙◌}
use Rattle.std.specs.Prelude.{IfSome}
use Rattle.schema_plan.specs.declared.ready.ReadyColumn.{ReadyColumn}
use Rattle.schema_facts.specs.Dictionaries.{Project}
use Rattle.schema_facts.specs.Layout.{layout_of}
use Rattle.schema_plan.specs.Limits.{IsInLimits}
use Rattle.schema_plan.specs.Ready.{ready_columns}
use Rattle.schema_facts.specs.References.{Reference, reference_at}
use Rattle.life_intervals.specs.declared.found.FoundRow.{FoundRow}
use Rattle.life_intervals.specs.CohortParents.{IsReferenceOf, held_cost, reference_by}
use Rattle.life_intervals.specs.Found.{IsFound}
use Rattle.life_intervals.specs.Generator.{generator_of, last_unit, rows_in_all, table_of}
use Rattle.life_intervals.specs.Intervals.{held_parent}
use Rattle.cohort_sizes.proofs.CohortLemmas.{born_count-le}
use Rattle.life_intervals.proofs.CohortParentLemmas.{length-ready_columns, ready_is, reference_from_columns}
use Rattle.life_intervals.proofs.FoundLemmas.{found-early, found-held}
use Rattle.life_intervals.proofs.ReferenceLemmas.{reference_at-within}
use Rattle.life_intervals.proofs.rows.Rows.held_parent.Goals as goal
use Rattle.life_intervals.proofs.rows.Rows.held_parent.Goals.{After-found_held_parent}

pub find-row-requires-clause-row : goal.find-row-requires-clause-row
find-row-requires-clause-row g c =
    subst (λ (p : Project). c.args.j < rows_in_all p c.args.table) (sym c.plan-3.ensures)
    (omega (arith, c.requires.born, born_count-le (table_of c.args.self.now c.args.table).births c.args.t (last_unit c.args.self.now) c.requires.unit))

-- the reference of the column is the one that is ready
is_ready : (g : _) (c : After-found_held_parent g) (reference : Reference) → reference_at (table_of c.args.self.now c.args.table) c.args.column ≡ Some reference →
    IsReferenceOf c.args.self.now c.args.table c.args.column c.in-Reference.reference
is_ready g c reference is =
    let plan : Project = c.args.self.now in
    let columns : c.columns.result.now ≡ ready_columns (layout_of plan) c.args.table =
    c.columns.ensures.columns ∙ ap (λ (p : Project). ready_columns (layout_of p) c.args.table) c.plan-2.ensures in
    let within : c.args.column < length c.columns.result.now =
    omega (arith, reference_at-within (table_of plan c.args.table) c.args.column reference is, ap length columns, length-ready_columns plan c.args.table) in
    reference_from_columns plan c.args.table c.args.column c.columns.result.now c.index-columns-column.result c.in-Reference.reference columns within c.index-columns-column.is
    (ap (λ (ready : ReadyColumn). ready.kind) c.index-columns-column.is ∙ c.in-Reference.is)

reference_is : (g : _) (c : After-found_held_parent g) (reference : Reference) → reference_at (table_of c.args.self.now c.args.table) c.args.column ≡ Some reference → reference_by c.args.column c.in-Reference.reference ≡ reference
reference_is g c reference is =
    let same : Some (reference_by c.args.column c.in-Reference.reference) ≡ Some reference =
    sym (ready_is c.args.self.now c.args.table c.args.column c.in-Reference.reference (is_ready g c reference is)).is ∙ is in
    cc

found : (g : _) (c : After-found_held_parent g) → IsFound c.args.self.now c.args.table c.find-row.result
found g c = subst (λ (p : Project). IsFound p c.args.table c.find-row.result) c.plan-3.ensures c.find-row.ensures.found

pub returns-clause-held : goal.returns-clause-held
returns-clause-held g c = λ reference is.
    let plan : Project = c.args.self.now in
    let row : FoundRow = c.find-row.result in
    let limits : IsInLimits plan = subst IsInLimits c.plan.ensures c.schema-sound.ensures.limits in
    c.found_held_parent.ensures.held
    ∙ found-held plan c.args.table row (found g c) limits c.requires.table c.args.t (found-early plan c.args.table c.args.t c.args.j row (found g c) c.find-row.ensures.ordinal c.requires.unit c.requires.born)
    c.requires.unit c.args.column c.in-Reference.reference (is_ready g c reference is)
    ∙ ap (held_parent (generator_of plan) c.args.table c.args.t row.ordinal) (reference_is g c reference is)
    ∙ ap (λ (j : ℕ). held_parent (generator_of plan) c.args.table c.args.t j reference) c.find-row.ensures.ordinal

some_within : (o : Option ℕ) (a b : ℕ) → a ≤ b → IfSome o (λ parent. parent < a) → IfSome o (λ parent. parent < b)
some_within None a b within below = tt
some_within (Some parent) a b within below = omega (arith, within, below)

pub returns-clause-within : goal.returns-clause-within
returns-clause-within g c = λ reference is.
    let plan : Project = c.args.self.now in
    let parent : ℕ = c.in-Reference.reference.parent in
    subst (λ (r : Reference). IfSome c.found_held_parent.result (λ p. p < rows_in_all plan r.parent)) (reference_is g c reference is)
    (some_within c.found_held_parent.result _ _ (born_count-le (table_of plan parent).births c.find-row.result.born (last_unit plan) (found g c).born) c.found_held_parent.ensures.born)

pub returns-clause-steps : goal.returns-clause-steps
returns-clause-steps g c = λ reference is.
    omega (arith, c.found_held_parent.ensures.steps, ap (held_cost (layout_of c.args.self.now).tables) (reference_is g c reference is))
