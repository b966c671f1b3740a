use Rattle.std.proofs.Common.{ℕ, List, ap, map, ◌∙◌}
use Rattle.schema_model.specs.declared.table.Schema.{Schema}
use Rattle.schema_model.specs.declared.table.Table.{Table}
use Rattle.schema_facts.specs.declared.facts.TableFacts.{TableFacts}
use Rattle.schema_facts.specs.Capped.{capped_column}
use Rattle.schema_facts.specs.ColumnFacts.{column_facts, facts_of_columns}
use Rattle.schema_plan.specs.Beside.{facts_beside}
use Rattle.schema_facts.specs.Layout.{layout_of, table_layout, table_layouts}
use Rattle.schema_plan.proofs.BesideLemmas.{all_facts}
use Rattle.schema_plan.proofs.plan.Plan.facts_beside.Goals as goal

pub returns : goal.returns
unfolding facts_beside
returns c =
    let project = c.args.self.now in
    let table = c.args.table.now in
    let known = column_facts (layout_of project) in
    let facts = λ (units : ℕ) (tables : List Table). map capped_column (facts_of_columns units (table_layouts project.dictionaries tables) known (table_layout project.dictionaries tables table)) in
    c.facts_of_columns.ensures project.dictionaries known
    (ap (map (λ (facts : TableFacts). facts.columns)) c.facts.ensures ∙ all_facts project c.schema.ensures.limits.table_limit)
    ∙ ap (λ (units : ℕ). facts units c.as_slice-tables.result.now) c.units.ensures
    ∙ ap (facts (layout_of project).units) (c.as_slice-tables.ensures ∙ ap (λ (schema : Schema). schema.tables) c.schema.ensures.value)
