use Rattle.std.specs.Prelude.{IfSome}
use Rattle.std.proofs.Common.{◌≡◌, ◌++◌, ℕ, List, true, get_or, max, length, ap, subst, sym, ◌∙◌, arith}
use Rattle.philox_seeds.specs.SeedTree.{draw}
use Rattle.row_text.specs.Fields.{field_text}
use Rattle.schema_plan.specs.declared.ready.ReadyColumn.{ReadyColumn}
use Rattle.schema_plan.specs.declared.ready.ReadyKind.{ReadyKind}
use Rattle.schema_plan.specs.declared.ready.ReadyKind.TheVariants.{Drawn}
use Rattle.schema_plan.specs.declared.ready.ReadyLeaf.{ReadyLeaf}
use Rattle.schema_facts.specs.Layout.{column_at, layout_of, table_at}
use Rattle.schema_plan.specs.Limits.{IsTableInLimits}
use Rattle.schema_plan.specs.Ready.{ready_columns}
use Rattle.draw_values.specs.declared.items.ItemizedField.{ItemizedField}
use Rattle.draw_values.specs.declared.values.RowAt.{RowAt}
use Rattle.draw_values.specs.Items.{itemized_field, items_or_null, kind_count, kind_items}
use Rattle.draw_values.specs.ReadyValues.{ready_kind_size}
use Rattle.draw_values.specs.Runs.{IsReadyDrawn, RunColumnOf, is_itemized, ready_at, with_behind}
use Rattle.draw_values.specs.Values.{size_at, value_at}
use Rattle.draw_values.proofs.FieldLemmas.{IsKeptField, size_at-kept}
use Rattle.draw_values.proofs.ItemFieldLemmas.{counted, itemized_field-by, itemized_leaf, itemized_text, kept_itemized}
use Rattle.draw_values.proofs.RunLemmas.{drawn_is_ready, own_ready}
use Rattle.draw_values.proofs.run_column.RunColumn.put_itemized.Goals as goal
use Rattle.draw_values.proofs.run_column.RunColumn.put_itemized.Goals.{After-index-columns-self}

own_is : (c : After-index-columns-self) → c.index-columns-self.result ≡ ready_at c.args.plan.now c.args.self.now.table c.args.self.now.column
own_is c =
    own_ready c.args.plan.now c.args.self.now c.columns-columns.result.now c.index-columns-self.result c.self.inside.table c.self.inside.column c.requires.column c.columns-columns.ensures.columns
    (ap (λ (r : RunColumnOf). r.table) c.self.view_is) (ap (λ (r : RunColumnOf). r.column) c.self.view_is) c.index-columns-self.is

itemized : (c : After-index-columns-self) → is_itemized c.index-columns-self.result.kind ≡ true
itemized c =
    ap (λ (found : ReadyColumn). is_itemized found.kind) (own_is c)
    ∙ sym (ap (λ (r : RunColumnOf). r.itemized) c.requires.column.is)
    ∙ c.requires.itemized

kept : (c : After-index-columns-self) → IsKeptField (layout_of c.args.plan.now) c.args.self.now.table c.args.self.now.column c.args.self.now.column c.index-columns-self.result c.index-columns-self.result
kept c =
    let limits : IsTableInLimits (layout_of c.args.plan.now).units (table_at (layout_of c.args.plan.now).tables c.args.self.now.table) =
    subst (λ (table : ℕ). IsTableInLimits (layout_of c.args.plan.now).units (table_at (layout_of c.args.plan.now).tables table)) (ap (λ (r : RunColumnOf). r.table) c.self.view_is) c.columns-columns.ensures.limits in
    kept_itemized c.args.plan.now c.args.self.now c.columns-columns.result.now c.index-columns-self.result (layout_of c.args.plan.now).units c.requires.column
    (c.columns-columns.ensures.columns ∙ ap (ready_columns (layout_of c.args.plan.now)) (ap (λ (r : RunColumnOf). r.table) c.self.view_is)) limits
    (c.index-columns-self.is ∙ ap (λ (place : ℕ). get_or c.columns-columns.result.now place c.index-columns-self.result) (ap (λ (r : RunColumnOf). r.column) c.self.view_is)) (own_is c) (itemized c)

drawn : (c : After-index-columns-self) → (leaf : ReadyLeaf) × (c.index-columns-self.result.kind ≡ Drawn leaf)
drawn c = itemized_leaf c.index-columns-self.result.kind (itemized c)

size_is : (c : After-index-columns-self) → size_at (layout_of c.args.plan.now) c.args.self.now.table c.args.self.now.column ≡ max 2 (ready_kind_size c.index-columns-self.result.kind)
size_is c = size_at-kept (layout_of c.args.plan.now) c.args.self.now.table c.args.self.now.column c.args.self.now.column c.index-columns-self.result c.index-columns-self.result (kept c)

text_is : (c : After-index-columns-self) (at : RowAt) → c.args.field ≡ itemized_field c.args.plan.now c.args.self.now at →
    kind_items c.index-columns-self.result.kind (draw c.args.field.seed) c.args.field.count ≡ field_text (layout_of c.args.plan.now).delimiter (value_at (layout_of c.args.plan.now) c.args.self.now.table c.args.self.now.column at)
text_is c at is =
    let leaf : ReadyLeaf = (drawn c).0 in
    let kind_is = (drawn c).1 in
    ap (λ (held : ReadyKind). kind_items held (draw c.args.field.seed) c.args.field.count) kind_is
    ∙ ap (λ (field : ItemizedField). items_or_null leaf (draw field.seed) field.count) is
    ∙ itemized_text c.args.plan.now c.args.self.now c.index-columns-self.result leaf at c.requires.column (kept c) (own_is c) kind_is
    (ap is_itemized (sym kind_is) ∙ itemized c)

pub put_itemized-requires-clause-ready : goal.put_itemized-requires-clause-ready
put_itemized-requires-clause-ready c =
    let at : After-index-columns-self = (goal.at.put_itemized-requires-clause-ready c).After-index-columns-self in
    let columns = (table_at (layout_of c.args.plan.now).tables c.args.self.now.table).columns in
    let limits : IsTableInLimits (layout_of c.args.plan.now).units (table_at (layout_of c.args.plan.now).tables c.args.self.now.table) =
    subst (λ (table : ℕ). IsTableInLimits (layout_of c.args.plan.now).units (table_at (layout_of c.args.plan.now).tables table)) (ap (λ (r : RunColumnOf). r.table) c.self.view_is) c.columns-columns.ensures.limits in
    subst (λ (found : ReadyColumn). IsReadyDrawn found.kind) (sym (own_is at))
    (drawn_is_ready (layout_of c.args.plan.now).delimiter columns c.args.self.now.column (column_at columns c.args.self.now.column).kind (limits.kinds c.args.self.now.column c.requires.column.column_within))

pub put_itemized-requires-clause-itemized : goal.put_itemized-requires-clause-itemized
put_itemized-requires-clause-itemized c = itemized (goal.at.put_itemized-requires-clause-itemized c).After-index-columns-self

pub put_itemized-requires-clause-count : goal.put_itemized-requires-clause-count
put_itemized-requires-clause-count c =
    let at : After-index-columns-self = (goal.at.put_itemized-requires-clause-count c).After-index-columns-self in
    let own : ReadyColumn = c.index-columns-self.result in
    subst (λ (field : ItemizedField). IfSome field.count (λ count. (number : ℕ) × (count ≡ kind_count own.kind number)))
    (sym (c.requires.field.1 ∙ itemized_field-by c.args.plan.now c.args.self.now own c.requires.field.0 (own_is at)))
    (counted own (itemized_field c.args.plan.now c.args.self.now c.requires.field.0).seed)

pub put_itemized-requires-clause-room : goal.put_itemized-requires-clause-room
put_itemized-requires-clause-room c = omega (arith, c.requires.room, size_is (goal.at.put_itemized-requires-clause-room c).After-index-columns-self)

pub returns-clause-text : goal.returns-clause-text
returns-clause-text c = λ at is.
    let here : After-index-columns-self = (goal.at.returns-clause-text c).After-index-columns-self in
    c.put_itemized.ensures.text
    ∙ ap (λ (behind : ℕ). record { text = c.args.page.now.text ++ with_behind behind (kind_items c.index-columns-self.result.kind (draw c.args.field.seed) c.args.field.count); room = c.args.page.now.room }) (ap (λ (r : RunColumnOf). r.behind) c.self.view_is)
    ∙ ap (λ (text : List ℕ). record { text = c.args.page.now.text ++ with_behind c.args.self.now.behind text; room = c.args.page.now.room }) (text_is here at is)

pub returns-clause-size : goal.returns-clause-size
returns-clause-size c = λ at is.
    let here : After-index-columns-self = (goal.at.returns-clause-size c).After-index-columns-self in
    omega (arith, ap (length {A = ℕ}) (text_is here at is), size_is here, c.put_itemized.ensures.size)
