use Rattle.std.proofs.Common.{◌∙◌, ap, sym, map, sum_by}
use Rattle.schema_facts.specs.declared.facts.TableFacts.{TableFacts}
use Rattle.schema_facts.specs.Capped.{capped}
use Rattle.schema_facts.specs.Layout.{column_layout, kind_layout, part_layout}
use Rattle.schema_facts.specs.Lineage.{null_cost_of_field, null_cost_of_part}
use Rattle.schema_facts.proofs.null_costs.null_cost_of_field.Goals as goal

pub returns-in-Template : goal.returns-in-Template
returns-in-Template c = λ dictionaries.
    let tables = c.args.tables.now in
    let columns = c.args.columns.now in
    let earlier = map (λ (facts : TableFacts). facts.lineage) c.args.earlier.now in
    let layouts = map (column_layout dictionaries tables columns) columns in
    c.null_cost_of_parts.ensures dictionaries
    ∙ ap (λ parts. capped (sum_by (null_cost_of_part earlier layouts) (map (part_layout columns) parts))) c.as_slice.ensures
    ∙ ap (λ kind. capped (null_cost_of_field earlier layouts (kind_layout dictionaries tables columns kind))) (sym c.in-Template.is)
