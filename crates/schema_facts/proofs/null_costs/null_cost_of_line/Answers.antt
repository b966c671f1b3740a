use Rattle.std.proofs.Common.{◌∙◌, ◌+◌, ap, sym, map, sum_by}
use Rattle.std.proofs.lemmas.List.{take_all}
use Rattle.std.proofs.lemmas.List.Folds.{fold-map}
use Rattle.schema_model.specs.declared.column.Column.{Column}
use Rattle.schema_facts.specs.declared.facts.TableFacts.{TableFacts}
use Rattle.schema_facts.specs.Capped.{capped}
use Rattle.schema_facts.specs.Layout.{ColumnLayout, column_layout, kind_layout}
use Rattle.schema_facts.specs.Lineage.{null_cost_of_field}
use Rattle.schema_facts.proofs.Capping.{capped_sum_more}
use Rattle.schema_facts.proofs.null_costs.null_cost_of_line.Goals as goal

pub loop-column-preserved : goal.loop-column-preserved
loop-column-preserved c = λ dictionaries.
    let tables = c.args.tables.now in
    let columns = c.args.columns.now in
    let cost = λ (column : Column). null_cost_of_field (map (λ (facts : TableFacts). facts.lineage) c.args.earlier.now) (map (column_layout dictionaries tables columns) columns) (kind_layout dictionaries tables columns column.kind) in
    c.saturating_add-cost.ensures
    ∙ ap (λ n. capped (c.loop-column.cost + n)) (c.null_cost_of_field.ensures dictionaries ∙ ap (λ (column : Column). capped (cost column)) c.column-item.is)
    ∙ capped_sum_more cost columns c.loop-column.column-index c.column-item.result c.loop-column.cost c.loop-column-test.true (c.loop-column.invariant dictionaries)

pub returns : goal.returns
returns c = λ dictionaries.
    let tables = c.args.tables.now in
    let columns = c.args.columns.now in
    let layouts = map (column_layout dictionaries tables columns) columns in
    let cost = λ (column : ColumnLayout). null_cost_of_field (map (λ (facts : TableFacts). facts.lineage) c.args.earlier.now) layouts column.kind in
    c.loop-column.invariant dictionaries
    ∙ ap (λ some. capped (sum_by (λ (column : Column). cost (column_layout dictionaries tables columns column)) some)) (take_all c.loop-column.column-index columns c.loop-column-test.false)
    ∙ ap capped (sym (fold-map (λ total (column : ColumnLayout). total + cost column) (column_layout dictionaries tables columns) 0 columns))
