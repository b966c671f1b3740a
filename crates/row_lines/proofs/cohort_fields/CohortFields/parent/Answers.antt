use Rattle.std.proofs.Common.{◌<◌, ℕ, ap, subst, ◌∙◌}
use Rattle.cohort_sizes.specs.Births.{born_count}
use Rattle.life_intervals.specs.CohortParents.{parent_in, reference_by}
use Rattle.life_intervals.specs.Generator.{table_of}
use Rattle.life_intervals.proofs.CohortParentLemmas.{limits_of}
use Rattle.row_lines.specs.CohortLines.{LinesOf}
use Rattle.row_lines.proofs.CohortFieldLemmas.{AreFieldsOf-view}
use Rattle.row_lines.proofs.cohort_fields.CohortFields.parent.Goals as goal

pub returns-clause-parent : goal.returns-clause-parent
returns-clause-parent g c =
    c.found_parent.ensures.parent
    ∙ ap (λ (index : ℕ). parent_in (record { plan = c.self.inside.rows.now; table = c.self.inside.table; unit = c.found-row.result.born }) index (reference_by c.args.column c.args.reference.now)) c.found-row.ensures.index
    ∙ ap (λ (born : ℕ). parent_in (record { plan = c.self.inside.rows.now; table = c.self.inside.table; unit = born }) c.args.index (reference_by c.args.column c.args.reference.now)) c.found-row.ensures.born
    ∙ ap (λ (of : LinesOf). parent_in (record { plan = of.plan; table = of.table; unit = c.args.self.now.born }) c.args.index (reference_by c.args.column c.args.reference.now)) c.self.view_is

pub returns-clause-born : goal.returns-clause-born
returns-clause-born g c =
    subst (λ (born : ℕ). c.found_parent.result < born_count (table_of c.args.self.now.plan c.args.reference.now.parent).births born) c.found-row.ensures.born
    (subst (λ (of : LinesOf). c.found_parent.result < born_count (table_of of.plan c.args.reference.now.parent).births c.found-row.result.born) c.self.view_is c.found_parent.ensures.born)

pub returns-clause-table : goal.returns-clause-table
returns-clause-table g c =
    let known = AreFieldsOf-view _ c.args.self.now c.self.inside.columns.now c.self.inside.first c.self.view_is c.self.invariant in
    (limits_of c.args.self.now.plan known.sound c.args.self.now.table c.args.column c.args.reference.now known.table c.requires.reference).earlier
