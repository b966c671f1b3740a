-- A field of several items, by what is drawn of it before these.
use Rattle.std.proofs.Common.{◌≡◌, ℕ, Bool, true, false, List, if◌then◌else◌, get_or, Option, None, Some, ap, sym, ◌∙◌, refl}
use Rattle.std.specs.Prelude.{IfSome}
use Rattle.philox_seeds.specs.SeedTree.{column_seed, draw, row_seed, table_seed, unit_seed}
use Rattle.row_text.specs.Fields.{field_text}
use Rattle.schema_plan.specs.declared.ready.ReadyColumn.{ReadyColumn}
use Rattle.schema_plan.specs.declared.ready.ReadyKind.{ReadyKind}
use Rattle.schema_plan.specs.declared.ready.ReadyKind.TheVariants as kind
use Rattle.schema_plan.specs.declared.ready.ReadyLeaf.{ReadyLeaf}
use Rattle.schema_facts.specs.Dictionaries.{Project}
use Rattle.schema_facts.specs.Layout.{KindLayout, key_kind, born_kind, changed_kind, leaf_kind, template_kind, case_kind, reference_kind, lookup_kind, list_kind, unit_date_kind, after_kind, sum_kind, product_kind, column_at, layout_of, table_at}
use Rattle.schema_plan.specs.Limits.{IsTableInLimits}
use Rattle.schema_plan.specs.Ready.{ready_columns, ready_kind}
use Rattle.draw_values.specs.declared.values.RowAt.{RowAt}
use Rattle.draw_values.specs.Items.{item_count, item_texts, itemized_by, itemized_field, items_or_null, kind_count}
use Rattle.draw_values.specs.ReadyValues.{chooser_of, ready_held_entry, ready_text, ready_value}
use Rattle.draw_values.specs.Runs.{IsRunColumn, RunColumnOf, is_itemized, is_itemized_leaf, ready_at}
use Rattle.draw_values.specs.Values.{Draws, draws_at, is_null, is_own, unless_null, value_at}
use Rattle.draw_values.proofs.FieldLemmas.{IsKeptField, kept_field, value_at-kept}
use Rattle.draw_values.proofs.ItemLemmas.{ready_text-items}
use Rattle.draw_values.proofs.RunLemmas.{field_text-kept, or_null}

-- ---- the kinds of such columns

itemized_own : (delimiter : ℕ) (held : KindLayout) → is_itemized (ready_kind delimiter held) ≡ true → is_own held ≡ true
itemized_own delimiter key_kind itemized = itemized
itemized_own delimiter born_kind itemized = refl
itemized_own delimiter changed_kind itemized = refl
itemized_own delimiter (leaf_kind drawn) itemized = refl
itemized_own delimiter (template_kind parts) itemized = itemized
itemized_own delimiter (case_kind on branches) itemized = absurd (cc)
itemized_own delimiter (reference_kind parent window spread nulls drawn) itemized = itemized
itemized_own delimiter (lookup_kind via parent name) itemized = itemized
itemized_own delimiter (list_kind words) itemized = refl
itemized_own delimiter (unit_date_kind changed start step) itemized = refl
itemized_own delimiter (after_kind of lo hi) itemized = itemized
itemized_own delimiter (sum_kind of) itemized = itemized
itemized_own delimiter (product_kind of) itemized = itemized

itemized_chooser : (place : ℕ) (held : ReadyKind) → is_itemized held ≡ true → place ≡ chooser_of place held
itemized_chooser place kind.Key itemized = refl
itemized_chooser place kind.Born itemized = refl
itemized_chooser place kind.Changed itemized = refl
itemized_chooser place (kind.Drawn drawn) itemized = refl
itemized_chooser place (kind.Template parts) itemized = refl
itemized_chooser place (kind.Case on branches) itemized = absurd (cc)
itemized_chooser place (kind.Reference reference) itemized = refl
itemized_chooser place (kind.Lookup lookup) itemized = refl
itemized_chooser place (kind.List list) itemized = refl
itemized_chooser place (kind.UnitDate date) itemized = refl
itemized_chooser place (kind.After after) itemized = refl
itemized_chooser place (kind.Sum of) itemized = refl
itemized_chooser place (kind.Product of) itemized = refl

-- the column that is kept for one
pub kept_itemized : (plan : Project) (run : RunColumnOf) (kept : List ReadyColumn) (column : ReadyColumn) (units : ℕ) → IsRunColumn plan run → kept ≡ ready_columns (layout_of plan) run.table →
    IsTableInLimits units (table_at (layout_of plan).tables run.table) → column ≡ get_or kept run.column column → column ≡ ready_at plan run.table run.column → is_itemized column.kind ≡ true →
    IsKeptField (layout_of plan) run.table run.column run.column column column
kept_itemized plan run kept column units of kept_is limits at is itemized =
    let held : KindLayout = (column_at (table_at (layout_of plan).tables run.table).columns run.column).kind in
    let own : is_own held ≡ true = itemized_own (layout_of plan).delimiter held (ap (λ (found : ReadyColumn). is_itemized found.kind) (sym is) ∙ itemized) in
    kept_field (layout_of plan) run.table run.column run.column units kept column column kept_is limits of.column_within own at (itemized_chooser run.column column.kind itemized) at

-- ---- its fields

-- the seed of a row's field, and the draws
abbrev seed_at : RunColumnOf → Bool → RowAt → ℕ
seed_at run changes at = row_seed (unit_seed run.seed (if changes then at.changed else at.born)) at.ordinal

draws_of_row : (plan : Project) (run : RunColumnOf) (column : ReadyColumn) (at : RowAt) → IsRunColumn plan run → column ≡ ready_at plan run.table run.column →
    draw (seed_at run column.changes at) ≡ draws_at (layout_of plan) run.table at run.column
draws_of_row plan run column at of is =
    ap (λ (seed : ℕ). draw (row_seed (unit_seed seed (if column.changes then at.changed else at.born)) at.ordinal)) (ap (λ (r : RunColumnOf). r.seed) of.is)
    ∙ ap (λ (found : ReadyColumn). draw (row_seed (unit_seed (column_seed (table_seed (layout_of plan).seed run.table) run.column) (if found.changes then at.changed else at.born)) at.ordinal)) is

-- null or so many items
held_items : (null : Bool) (drawn : ReadyLeaf) (draws : Draws) (count : ℕ) (text : List ℕ) → text ≡ item_texts drawn draws 0 count →
    items_or_null drawn draws (if null then None else Some count) ≡ or_null (if null then None else Some text)
held_items true drawn draws count text is = refl
held_items false drawn draws count text is = sym is

-- what the items of a field are is what is written for it
pub itemized_text : (plan : Project) (run : RunColumnOf) (column : ReadyColumn) (drawn : ReadyLeaf) (at : RowAt) → IsRunColumn plan run →
    IsKeptField (layout_of plan) run.table run.column run.column column column → column ≡ ready_at plan run.table run.column → column.kind ≡ kind.Drawn drawn → is_itemized_leaf drawn ≡ true →
    items_or_null drawn (draw (itemized_field plan run at).seed) (itemized_field plan run at).count ≡ field_text (layout_of plan).delimiter (value_at (layout_of plan) run.table run.column at)
itemized_text plan run column drawn at of kept is kind_is itemized =
    let draws : Draws = draw (seed_at run column.changes at) in
    let drawn_at = draws_of_row plan run column at of is in
    let entry : Option ℕ = ready_held_entry column draws in
    let field = value_at-kept (layout_of plan) run.table run.column run.column column column kept at at draws draws refl drawn_at drawn_at in
    ap (λ (found : ReadyColumn). items_or_null drawn (draw (seed_at run found.changes at)) (itemized_by found (seed_at run found.changes at)).count) (sym is)
    ∙ ap (λ (held : ReadyKind). items_or_null drawn draws (unless_null column.null draws (Some (kind_count held (draws 1))))) kind_is
    ∙ held_items (is_null column.null draws) drawn draws (item_count drawn (draws 1)) (ready_text drawn draws) (ready_text-items drawn draws itemized)
    ∙ ap (λ (held : ReadyKind). or_null (unless_null column.null draws (ready_value at entry draws held))) (sym kind_is)
    ∙ sym (field_text-kept (layout_of plan).delimiter (value_at (layout_of plan) run.table run.column at) _ field)

-- ---- a column by itself

-- one of several items is drawn
pub itemized_leaf : (held : ReadyKind) → is_itemized held ≡ true → (drawn : ReadyLeaf) × (held ≡ kind.Drawn drawn)
itemized_leaf (kind.Drawn drawn) itemized = (drawn, refl)
itemized_leaf _ itemized = absurd (cc)

-- what is drawn before the items, by the ready column
pub itemized_field-by : (plan : Project) (run : RunColumnOf) (column : ReadyColumn) (at : RowAt) → column ≡ ready_at plan run.table run.column →
    itemized_field plan run at ≡ itemized_by column (itemized_field plan run at).seed
itemized_field-by plan run column at is = ap (λ (found : ReadyColumn). itemized_by found (itemized_field plan run at).seed) (sym is)

-- so many items as a draw gives, where the field isn't null
pub counted : (column : ReadyColumn) (seed : ℕ) → IfSome (itemized_by column seed).count (λ count. (number : ℕ) × (count ≡ kind_count column.kind number))
counted column seed = by_null (is_null column.null (draw seed))
  where
    by_null : (null : Bool) → IfSome (if null then None else Some (kind_count column.kind (draw seed 1))) (λ count. (number : ℕ) × (count ≡ kind_count column.kind number))
    by_null true = tt
    by_null false = (draw seed 1, refl)
