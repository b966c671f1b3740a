use Rattle.std.proofs.Common.{◌∙◌, ◌+◌, ap, map, sum_by, sym}
use Rattle.std.proofs.lemmas.List.{take_all}
use Rattle.std.proofs.lemmas.List.Folds.{fold-map}
use Rattle.schema_model.specs.declared.column.Column.{Column}
use Rattle.schema_facts.specs.Capped.{capped}
use Rattle.schema_facts.specs.FieldSizes.{size_of}
use Rattle.schema_facts.specs.Layout.{ColumnLayout, column_layout, kind_layout, table_layouts}
use Rattle.schema_facts.proofs.Capping.{capped_sum_more, capped-add_one}
use Rattle.schema_facts.proofs.facts.line_size.Goals as goal

pub loop-column-preserved : goal.loop-column-preserved
loop-column-preserved c =
    let dictionaries = c.args.dictionaries.now in
    let tables = c.args.tables.now in
    let columns = c.args.columns.now in
    let size = λ (column : Column). size_of c.args.delimiter (table_layouts dictionaries tables) (map (column_layout dictionaries tables columns) columns) (kind_layout dictionaries tables columns column.kind) in
    c.saturating_add-size.ensures
    ∙ ap (λ n. capped (c.loop-column.size + n)) (c.saturating_add.ensures ∙ ap (λ n. capped (n + 1)) (c.size_of-taken.ensures ∙ ap (λ (column : Column). capped (size column)) c.column-item.is) ∙ capped-add_one _)
    ∙ capped_sum_more (λ column. size column + 1) columns c.loop-column.column-index c.column-item.result c.loop-column.size c.loop-column-test.true c.loop-column.invariant

pub returns : goal.returns
returns c =
    let dictionaries = c.args.dictionaries.now in
    let tables = c.args.tables.now in
    let columns = c.args.columns.now in
    let of = λ (column : ColumnLayout). size_of c.args.delimiter (table_layouts dictionaries tables) (map (column_layout dictionaries tables columns) columns) column.kind in
    let made = column_layout dictionaries tables columns in
    c.loop-column.invariant
    ∙ ap (λ all. capped (sum_by (λ column. of (made column) + 1) all)) (take_all c.loop-column.column-index columns c.loop-column-test.false)
    ∙ ap capped (sym (fold-map (λ total size. total + (size + 1)) of 0 (map made columns)
    ∙ fold-map (λ total (column : ColumnLayout). total + (of column + 1)) made 0 columns))
