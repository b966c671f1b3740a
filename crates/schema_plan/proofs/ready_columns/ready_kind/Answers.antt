use Rattle.std.proofs.Common.{map, sym, ap, ◌∙◌}
use Rattle.schema_model.specs.declared.column.Leaf.{Leaf}
use Rattle.schema_model.specs.declared.column.Part.{Part}
use Rattle.schema_plan.specs.declared.ready.ReadyKind.TheVariants.{Case, Template}
use Rattle.schema_facts.specs.Layout.{kind_layout, leaf_layout, part_layout}
use Rattle.schema_plan.specs.Ready.{ready_kind, ready_leaf, ready_part}
use Rattle.schema_facts.proofs.Lists.{map-map}
use Rattle.schema_plan.proofs.ready_columns.ready_kind.Goals as goal

pub returns-in_ok-parts-in-Template : goal.returns-in_ok-parts-in-Template
returns-in_ok-parts-in-Template c =
    let delimiter = c.args.lexicon.now.delimiter in
    let dictionaries = c.args.lexicon.now.dictionaries in
    let columns = c.args.columns.now in
    ap Template
    (rw c.delimiter.ensures at c.in_ok-parts-in-Template.ensures
    ∙ ap (map (λ (part : Part). ready_part delimiter (part_layout columns part))) c.as_slice.ensures
    ∙ sym (map-map (ready_part delimiter) (part_layout columns) c.in-Template.parts))
    ∙ ap (λ kind. ready_kind delimiter (kind_layout dictionaries c.args.tables.now columns kind)) (sym c.in-Template.is)

pub returns-in_ok-branches-in-Case : goal.returns-in_ok-branches-in-Case
returns-in_ok-branches-in-Case c =
    let delimiter = c.args.lexicon.now.delimiter in
    let dictionaries = c.args.lexicon.now.dictionaries in
    let columns = c.args.columns.now in
    ap (Case c.place_of_column-on.result)
    (c.in_ok-branches-in-Case.ensures
    ∙ ap (map (λ (leaf : Leaf). ready_leaf delimiter (leaf_layout dictionaries leaf))) c.as_slice-in-Case.ensures
    ∙ sym (map-map (ready_leaf delimiter) (leaf_layout dictionaries) c.in-Case.branches))
    ∙ ap (λ on. Case on (map (ready_leaf delimiter) (map (leaf_layout dictionaries) c.in-Case.branches))) c.place_of_column-on.ensures.place
    ∙ ap (λ kind. ready_kind delimiter (kind_layout dictionaries c.args.tables.now columns kind)) (sym c.in-Case.is)

pub returns-in-Lookup : goal.returns-in-Lookup
returns-in-Lookup c =
    c.ready_lookup.ensures c.args.lexicon.now.delimiter c.args.lexicon.now.dictionaries
    ∙ ap (λ kind. ready_kind c.args.lexicon.now.delimiter (kind_layout c.args.lexicon.now.dictionaries c.args.tables.now c.args.columns.now kind)) (sym c.in-Lookup.is)
