use Rattle.std.proofs.Common.{ap, subst, ◌∙◌}
use Rattle.schema_facts.specs.Dictionaries.{Project}
use Rattle.schema_facts.specs.Layout.{layout_of}
use Rattle.schema_plan.specs.Limits.{IsInLimits, IsTableInLimits}
use Rattle.schema_plan.specs.Ready.{ready_columns}
use Rattle.life_intervals.specs.Generator.{last_unit, table_of}
use Rattle.row_lines.proofs.cohort_lines.CohortLines.new.Goals as goal

pub invariant_of-result : goal.invariant_of-result
invariant_of-result c = record {
  columns_are = c.columns.ensures.columns ∙ ap (λ (plan : Project). ready_columns (layout_of plan) c.args.table) c.plan-plan.ensures;
  fields_are = c.new.ensures;
  sound = subst IsInLimits c.plan-plan.ensures c.schema-sound.ensures.limits;
  limits = subst (λ (plan : Project). IsTableInLimits (last_unit plan) (table_of plan c.args.table)) c.plan-plan.ensures c.columns.ensures.limits;
  delimiter = c.delimiter.ensures ∙ ap (λ (plan : Project). (layout_of plan).delimiter) c.plan-plan.ensures;
  table = c.requires.table;
  born = c.requires.born;
  unit = c.requires.unit;
}
