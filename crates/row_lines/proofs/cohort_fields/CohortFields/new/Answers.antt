use Rattle.std.proofs.Common.{ap, subst, ◌∙◌}
use Rattle.cohort_sizes.specs.Births.{first_ordinal}
use Rattle.schema_facts.specs.Dictionaries.{Project}
use Rattle.schema_facts.specs.Layout.{layout_of}
use Rattle.schema_plan.specs.Limits.{IsInLimits, IsTableInLimits}
use Rattle.schema_plan.specs.Ready.{ready_columns}
use Rattle.life_intervals.specs.Generator.{last_unit, table_of}
use Rattle.row_lines.proofs.cohort_fields.CohortFields.new.Goals as goal

pub invariant_of-result : goal.invariant_of-result
invariant_of-result c = record {
  columns_are = c.columns.ensures.columns ∙ ap (λ (plan : Project). ready_columns (layout_of plan) c.args.table) c.plan-plan.ensures;
  first_is = c.cohort.ensures.first ∙ ap (λ (plan : Project). first_ordinal (table_of plan c.args.table).births c.args.born) c.plan-plan.ensures;
  sound = subst IsInLimits c.plan-plan.ensures c.schema-limits.ensures.limits;
  limits = subst (λ (plan : Project). IsTableInLimits (last_unit plan) (table_of plan c.args.table)) c.plan-plan.ensures c.columns.ensures.limits;
  table = c.requires.table;
  born = c.requires.born;
  unit = c.requires.unit;
}
