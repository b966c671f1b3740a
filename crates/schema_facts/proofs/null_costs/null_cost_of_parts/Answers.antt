use Rattle.std.proofs.Common.{◌∙◌, ◌+◌, ap, sym, map, sum_by}
use Rattle.std.proofs.lemmas.List.{take_all}
use Rattle.std.proofs.lemmas.List.Folds.{fold-map}
use Rattle.schema_model.specs.declared.column.Part.{Part}
use Rattle.schema_facts.specs.declared.facts.TableFacts.{TableFacts}
use Rattle.schema_facts.specs.Capped.{capped}
use Rattle.schema_facts.specs.Layout.{PartLayout, column_layout, part_layout}
use Rattle.schema_facts.specs.Lineage.{null_cost_of_part}
use Rattle.schema_facts.proofs.Capping.{capped_sum_next}
use Rattle.schema_facts.proofs.null_costs.null_cost_of_parts.Goals as goal

pub loop-part-preserved : goal.loop-part-preserved
loop-part-preserved c = λ dictionaries.
    let columns = c.args.columns.now in
    let cost = λ (part : Part). null_cost_of_part (map (λ (facts : TableFacts). facts.lineage) c.args.earlier.now) (map (column_layout dictionaries c.args.tables.now columns) columns) (part_layout columns part) in
    c.saturating_add-cost.ensures
    ∙ ap (λ n. capped (c.loop-part.cost + n)) (c.null_cost_of_part.ensures dictionaries ∙ ap cost c.part-item.is)
    ∙ capped_sum_next cost c.args.parts.now c.loop-part.part-index c.part-item.result c.loop-part.cost c.loop-part-test.true (c.loop-part.invariant dictionaries)

pub returns : goal.returns
returns c = λ dictionaries.
    let columns = c.args.columns.now in
    let cost = λ (part : PartLayout). null_cost_of_part (map (λ (facts : TableFacts). facts.lineage) c.args.earlier.now) (map (column_layout dictionaries c.args.tables.now columns) columns) part in
    c.loop-part.invariant dictionaries
    ∙ ap (λ parts. capped (sum_by (λ (part : Part). cost (part_layout columns part)) parts)) (take_all c.loop-part.part-index c.args.parts.now c.loop-part-test.false)
    ∙ ap capped (sym (fold-map (λ total (part : PartLayout). total + cost part) (part_layout columns) 0 c.args.parts.now))
