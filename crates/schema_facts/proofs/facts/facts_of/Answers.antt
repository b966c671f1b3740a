use Rattle.std.proofs.Common.{◌∙◌, ◌+◌, ap, map, rules, w64}
use Rattle.std.proofs.lemmas.Int.{to_z-of_z}
use mir.Val.{SFits}
use Rattle.schema_facts.specs.Counts.{count}
use Rattle.schema_facts.specs.Capped.{capped, capped_column}
use Rattle.schema_facts.specs.ColumnFacts.{facts_of_columns}
use Rattle.schema_facts.specs.Dictionaries.{project_of}
use Rattle.schema_facts.specs.FieldSizes.{field_sizes}
use Rattle.schema_facts.specs.Layout.{column_layout, keys_of, layout_of, table_layout, table_layouts}
use Rattle.schema_facts.specs.Lineage.{one_if}
use Rattle.schema_facts.specs.TableFacts.{line_size}
use Rattle.schema_facts.proofs.FactsLemmas.{columns_are, facts_are, lineage_is, bool_byte-is}
use Rattle.schema_facts.proofs.facts.facts_of.Goals as goal

pub returns : goal.returns
returns c =
    let schema = c.args.schema.now in
    let dictionaries = c.args.dictionaries.now in
    let project = project_of schema dictionaries in
    let place = c.args.place in
    let table = c.index-tables-place.result in
    let lineage = c.lineage_of-lineage.result in
    let columns = c.facts_of_columns-columns.result in
    let same = c.as_slice-tables.ensures in
    let units_fit : SFits w64 schema.units = search rules in
    let is = rw same at c.index-tables-place.is in
    let line = c.line_size.ensures
    ∙ ap (λ delimiter. capped (line_size (field_sizes delimiter (table_layouts dictionaries c.as_slice-tables.result.now) (map (column_layout dictionaries c.as_slice-tables.result.now c.as_slice-2.result.now) c.as_slice-2.result.now)))) c.delimiter_byte.ensures
    ∙ ap (λ own. capped (line_size (field_sizes (layout_of project).delimiter (table_layouts dictionaries c.as_slice-tables.result.now) (map (column_layout dictionaries c.as_slice-tables.result.now own) own)))) c.as_slice-2.ensures
    ∙ ap (λ tables. capped (line_size (field_sizes (layout_of project).delimiter (table_layouts dictionaries tables) (map (column_layout dictionaries tables table.columns) table.columns)))) same in
    facts_are project place table c.keys_of.result lineage columns c.from.result c.sum_of_costs.result c.line_size.result c.saturating_add-2.result
    c.requires.place is (c.keys_of.ensures ∙ ap keys_of c.as_slice.ensures)
    (lineage_is project place table c.args.earlier.now lineage c.requires.place is c.requires.earlier (rw same at (c.lineage_of-lineage.ensures dictionaries)))
    (columns_are project place table c.args.earlier.now columns c.requires.place is c.requires.earlier (λ given premise.
    c.facts_of_columns-columns.ensures dictionaries given premise
    ∙ ap (λ units. map capped_column (facts_of_columns units (table_layouts dictionaries c.as_slice-tables.result.now) given (table_layout dictionaries c.as_slice-tables.result.now table))) (c.count.ensures ∙ ap count (to_z-of_z w64 schema.units units_fit))
    ∙ ap (λ tables. map capped_column (facts_of_columns (layout_of project).units (table_layouts dictionaries tables) given (table_layout dictionaries tables table))) same))
    (c.from.ensures ∙ bool_byte-is c.is_some.result ∙ ap one_if c.is_some.ensures)
    c.sum_of_costs.ensures
    line
    (c.saturating_add-2.ensures
    ∙ ap (λ n. capped (n + c.saturating_add.result)) c.saturating_add-death.ensures
    ∙ ap (λ n. capped (capped (lineage.death_cost + 1) + n))
    (c.saturating_add.ensures
    ∙ ap (λ n. capped (n + c.saturating_add-fields.result)) c.saturating_add-change.ensures
    ∙ ap (λ n. capped (capped (lineage.loss_cost + c.from.result) + n)) c.saturating_add-fields.ensures))
