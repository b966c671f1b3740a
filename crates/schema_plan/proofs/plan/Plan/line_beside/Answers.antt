use Rattle.std.proofs.Common.{ℕ, List, ap, map, ◌∙◌}
use Rattle.schema_model.specs.declared.table.Schema.{Schema}
use Rattle.schema_model.specs.declared.table.Table.{Table}
use Rattle.schema_plan.specs.Beside.{line_beside}
use Rattle.schema_facts.specs.Capped.{capped}
use Rattle.schema_facts.specs.FieldSizes.{field_sizes}
use Rattle.schema_facts.specs.Layout.{column_layout, layout_of, table_layouts}
use Rattle.schema_facts.specs.TableFacts.{line_size}
use Rattle.schema_plan.proofs.plan.Plan.line_beside.Goals as goal

pub returns : goal.returns
unfolding line_beside
returns c =
    let dictionaries = c.args.dictionaries.now in
    let columns = c.args.columns.now in
    let size = λ (delimiter : ℕ) (tables : List Table). capped (line_size (field_sizes delimiter (table_layouts dictionaries tables) (map (column_layout dictionaries tables columns) columns))) in
    c.line_size.ensures
    ∙ ap (λ (delimiter : ℕ). size delimiter c.as_slice-tables.result.now) c.delimiter.ensures
    ∙ ap (size (layout_of c.args.self.now).delimiter) (c.as_slice-tables.ensures ∙ ap (λ (schema : Schema). schema.tables) c.schema.ensures.value)
