-- Fields of several items, as characters or words, over a run of rows: what is drawn of them before the items, and then these.
use Rattle.std.specs.Prelude.{ℕ, ◌+◌, ◌%◌, ◌==◌, List, [], ◌∷◌, ◌++◌, Bool, true, false, Option, Some, None, codes, flat_map, if◌then◌else◌, length, slice_index_or}
use Rattle.std.specs.List.{range_with_len}
use Rattle.philox_seeds.specs.SeedTree.{draw, row_seed, unit_seed}
use Rattle.row_text.specs.Fields.{field_text}
use Rattle.schema_plan.specs.declared.ready.ReadyColumn.{ReadyColumn}
use Rattle.schema_plan.specs.declared.ready.ReadyKind.{ReadyKind}
use Rattle.schema_plan.specs.declared.ready.ReadyKind.TheVariants as kind
use Rattle.schema_plan.specs.declared.ready.ReadyLeaf.{ReadyLeaf}
use Rattle.schema_plan.specs.declared.ready.ReadyLeaf.TheVariants as leaf
use Rattle.schema_facts.specs.Dictionaries.{Project}
use Rattle.schema_facts.specs.Layout.{layout_of}
use Rattle.draw_values.specs.declared.items.ItemizedField.{ItemizedField}
use Rattle.draw_values.specs.declared.values.RowAt.{RowAt}
use Rattle.draw_values.specs.Runs.{RunColumnOf, items_of, ready_at, with_behind}
use Rattle.draw_values.specs.Values.{Draws, chosen_group, unless_null, value_at}

-- how many items a draw gives a value of several
abbrev pub item_count : ReadyLeaf → ℕ → ℕ
item_count (leaf.Chars lo lengths characters count) number = lo + number % lengths
item_count (leaf.Words lo lengths words) number = lo + number % lengths
item_count _ number = 0

-- the same of what a column holds
abbrev pub kind_count : ReadyKind → ℕ → ℕ
kind_count (kind.Drawn drawn) number = item_count drawn number
kind_count _ number = 0

-- the place, among the items, of the one that a draw chooses
abbrev pub item_place : ReadyLeaf → ℕ → ℕ
item_place (leaf.Chars lo lengths characters count) number = number % length characters
item_place (leaf.Words lo lengths words) number = chosen_group words.weights number
item_place _ number = 0

-- whether a space stands between two items
abbrev pub is_spaced : ReadyLeaf → Bool
is_spaced (leaf.Words lo lengths words) = true
is_spaced _ = false

-- what stands before the item at a place of the value: nothing before the first
abbrev pub space_before : Bool → ℕ → List ℕ
space_before spaced place = if spaced then (if place == 0 then [] else 32 ∷ []) else []

-- the item at a place of the value, with what stands before it. Each is chosen by a draw of its own, the first by draw 2
abbrev pub item_text : ReadyLeaf → Draws → ℕ → List ℕ
item_text drawn draw place =
    space_before (is_spaced drawn) place ++ slice_index_or (items_of drawn) (item_place drawn (draw (2 + place))) []

-- so many items from a first place on
abbrev pub item_texts : ReadyLeaf → Draws → ℕ → ℕ → List ℕ
item_texts drawn draw first count = flat_map (item_text drawn draw) (range_with_len first count)

-- so many items from the first on, or a null field
abbrev pub items_or_null : ReadyLeaf → Draws → Option ℕ → List ℕ
items_or_null drawn draw None = codes "\\N"
items_or_null drawn draw (Some count) = item_texts drawn draw 0 count

-- the same of what a column holds
abbrev pub kind_items : ReadyKind → Draws → Option ℕ → List ℕ
kind_items (kind.Drawn drawn) draw count = items_or_null drawn draw count
kind_items _ draw count = []

-- what is drawn of a field with the seed of its row before the items: how many they are, None where the field is null
abbrev pub itemized_by : ReadyColumn → ℕ → ItemizedField
itemized_by column seed =
    record { seed = seed; count = unless_null column.null (draw seed) (Some (kind_count column.kind (draw seed 1))) }

-- the same of the field of a row in a column that is prepared for runs
abbrev pub itemized_field : Project → RunColumnOf → RowAt → ItemizedField
itemized_field plan run at =
    itemized_by (ready_at plan run.table run.column)
    (row_seed (unit_seed run.seed (if (ready_at plan run.table run.column).changes then at.changed else at.born)) at.ordinal)

-- what is written for the field, with the byte after it
abbrev pub field_behind : Project → RunColumnOf → RowAt → List ℕ
field_behind plan run at =
    with_behind run.behind (field_text (layout_of plan).delimiter (value_at (layout_of plan) run.table run.column at))
