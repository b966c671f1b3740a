use Rattle.std.proofs.Common.{◌∙◌, ap, map, sym}
use Rattle.schema_facts.specs.Capped.{capped}
use Rattle.schema_facts.specs.FieldSizes.{size_in_table, size_of_parts}
use Rattle.schema_facts.specs.Layout.{column_layout, kind_layout, part_layout}
use Rattle.schema_facts.proofs.field_sizes.size_in_table.Goals as goal

pub returns-in-Template : goal.returns-in-Template
returns-in-Template c = λ tables.
    let dictionaries = c.args.dictionaries.now in
    let columns = c.args.columns.now in
    let layouts = map (column_layout dictionaries tables columns) columns in
    c.size_of_parts.ensures tables
    ∙ ap (λ parts. capped (size_of_parts c.args.delimiter layouts (map (part_layout columns) parts))) c.as_slice.ensures
    ∙ ap (λ kind. capped (size_in_table c.args.delimiter layouts (kind_layout dictionaries tables columns kind))) (sym c.in-Template.is)
