use Rattle.std.proofs.Common.{◌∙◌, ◌+◌, ap, map, sym}
use Rattle.std.proofs.lemmas.List.{take_all}
use Rattle.std.proofs.lemmas.List.Folds.{fold-map}
use Rattle.schema_model.specs.declared.column.Part.{Part}
use Rattle.schema_facts.specs.Capped.{capped}
use Rattle.schema_facts.specs.FieldSizes.{or_null, size_of_part}
use Rattle.schema_facts.specs.Layout.{PartLayout, column_layout, part_layout}
use Rattle.std.specs.List.{sum_by}
use Rattle.schema_facts.proofs.Capping.{capped_sum_more}
use Rattle.schema_facts.proofs.SizeLemmas.{or_null-capped}
use Rattle.schema_facts.proofs.field_sizes.size_of_parts.Goals as goal

pub loop-part-preserved : goal.loop-part-preserved
loop-part-preserved c = λ tables.
    let columns = c.args.columns.now in
    let size = λ (part : Part). size_of_part c.args.delimiter (map (column_layout c.args.dictionaries.now tables columns) columns) (part_layout columns part) in
    c.saturating_add-size.ensures
    ∙ ap (λ n. capped (c.loop-part.size + n)) (c.size_of_part.ensures tables ∙ ap (λ (part : Part). capped (size part)) c.part-item.is)
    ∙ capped_sum_more size c.args.parts.now c.loop-part.part-index c.part-item.result c.loop-part.size c.loop-part-test.true (c.loop-part.invariant tables)

pub returns : goal.returns
returns c = λ tables.
    let columns = c.args.columns.now in
    let of = λ (part : PartLayout). size_of_part c.args.delimiter (map (column_layout c.args.dictionaries.now tables columns) columns) part in
    let parts = c.args.parts.now in
    c.or_null.ensures
    ∙ ap or_null (c.loop-part.invariant tables
    ∙ ap (λ ps. capped (sum_by (λ (part : Part). of (part_layout columns part)) ps)) (take_all c.loop-part.part-index parts c.loop-part-test.false)
    ∙ ap capped (sym (fold-map (λ total (part : PartLayout). total + of part) (part_layout columns) 0 parts)))
    ∙ or_null-capped (sum_by of (map (part_layout columns) parts))
