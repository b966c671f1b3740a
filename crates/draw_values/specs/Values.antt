-- What fields hold that need no other row: the units of their row, and what is drawn for them.
use Rattle.std.specs.Prelude.{ℕ, ℤ, pos, ◌+◌, ◌-◌, ◌*◌, ◌%◌, ◌+ℤ◌, List, [], Option, Some, None, Bool, true, false, decimal, encode_utf8, flat_map, if◌then◌else◌, length, map, nat_lt, slice_index, slice_index_or, sum}
use Rattle.std.specs.Fmt.{signed_decimal}
use Rattle.std.specs.List.{join_with_byte, range_with_len}
use Rattle.std.specs.Option.{option_and_then}
use Rattle.std.specs.Str.{chars}
use Rattle.dictionaries.specs.WordList.{WordList}
use Rattle.philox_seeds.specs.SeedTree.{field_draw}
use Rattle.weight_tables.specs.Harmonic.{harmonic_weights}
use Rattle.weight_tables.specs.Weights.{selected}
use Rattle.row_text.specs.Fields.{escaped_text}
use Rattle.schema_facts.specs.Choices.{choices}
use Rattle.schema_facts.specs.FieldSizes.{size_of}
use Rattle.schema_facts.specs.Layout.{LeafLayout, int_leaf, fixed_leaf, date_leaf, pick_leaf, skew_leaf, dict_leaf, words_leaf, chars_leaf, uuid_leaf, KindLayout, key_kind, born_kind, changed_kind, leaf_kind, template_kind, case_kind, reference_kind, lookup_kind, ColumnLayout, Layout, table_at, column_at, list_kind, unit_date_kind, after_kind, sum_kind, product_kind}
use Rattle.draw_values.specs.declared.leaf_numbers.Number.{Number}
use Rattle.draw_values.specs.declared.values.RowAt.{RowAt}
use Rattle.draw_values.specs.declared.values.Put.{Put}
use Rattle.draw_values.specs.declared.values.Put.TheVariants.{Text, Null}
use Rattle.draw_values.specs.Dates.{date_text}
use Rattle.draw_values.specs.Digits.{signed_pointed}
use Rattle.draw_values.specs.Uuids.{uuid_text}

-- the draws of a field, by their numbers
abbrev pub Draws : Type 0
Draws = ℕ → ℕ

-- what stands for the value of a kind that takes from other columns or rows. No promise of this crate speaks of it
abbrev pub not_own : Option (List ℕ)
not_own = None

-- of the numbers from lo to hi in steps, the one that a draw chooses
abbrev pub chosen : ℤ → ℤ → ℕ → ℕ → ℤ
chosen lo hi step draw = lo +ℤ pos (step * (draw % choices lo hi step))

-- of groups with a weight each, the one that a draw chooses
abbrev pub chosen_group : List ℕ → ℕ → ℕ
chosen_group weights draw = selected weights (draw % sum weights)

-- so many characters, each chosen among some by a draw of its own: the first by draw 2
abbrev pub drawn_characters : List ℕ → Draws → ℕ → List ℕ
drawn_characters characters draw count =
    flat_map (λ k. encode_utf8 (slice_index characters (draw (2 + k) % length characters))) (range_with_len 0 count)

-- so many words, each chosen by its weight and a draw of its own, the first by draw 2, with a space between two
abbrev pub drawn_words : WordList → Draws → ℕ → List ℕ
drawn_words words draw count =
    join_with_byte 32 (map (λ k. slice_index_or words.entries (chosen_group words.weights (draw (2 + k))) []) (range_with_len 0 count))

-- a value that is drawn for a field alone. Draw 0 is kept for null fields, so values begin with draw 1
abbrev pub leaf_value : LeafLayout → Draws → Option (List ℕ)
leaf_value (int_leaf lo hi step) draw = Some (signed_decimal (chosen lo hi step (draw 1)))
leaf_value (fixed_leaf lo hi decimals) draw = Some (signed_pointed decimals (chosen lo hi 1 (draw 1)))
leaf_value (date_leaf lo hi) draw = Some (date_text (chosen lo hi 1 (draw 1)))
leaf_value (pick_leaf entries weights) draw = Some (slice_index_or entries (chosen_group weights (draw 1)) [])
leaf_value (skew_leaf lo size power) draw =
    Some (signed_decimal (lo +ℤ pos (chosen_group (harmonic_weights size power) (draw 1))))
leaf_value (dict_leaf words) draw = Some (slice_index_or words.entries (chosen_group words.weights (draw 1)) [])
leaf_value (words_leaf words lo hi) draw = Some (drawn_words words draw (lo + draw 1 % (hi - lo + 1)))
leaf_value (chars_leaf alphabet lo hi) draw = Some (drawn_characters (chars alphabet) draw (lo + draw 1 % (hi - lo + 1)))
leaf_value uuid_leaf draw = Some (uuid_text (draw 1) (draw 2))

-- the day that a drawn date shows; no other drawn value shows a day
abbrev pub leaf_day : LeafLayout → Draws → Option ℤ
leaf_day (date_leaf lo hi) draw = Some (chosen lo hi 1 (draw 1))
leaf_day _ draw = None

-- the number of a drawn value; what is no number has none
abbrev pub leaf_number : LeafLayout → Draws → Option Number
leaf_number (int_leaf lo hi step) draw = Some (record { value = chosen lo hi step (draw 1); decimals = 0 })
leaf_number (fixed_leaf lo hi decimals) draw = Some (record { value = chosen lo hi 1 (draw 1); decimals = decimals })
leaf_number (skew_leaf lo size power) draw = Some (record { value = lo +ℤ pos (chosen_group (harmonic_weights size power) (draw 1)); decimals = 0 })
leaf_number _ draw = None

-- how a number is spelled
abbrev pub number_text : Number → List ℕ
number_text number = signed_pointed number.decimals number.value

-- the draws of a row's fields, by the column's place
abbrev pub RowDraws : Type 0
RowDraws = ℕ → Draws

-- whether a field is null of which so many of a thousand are: draw 0 decides
abbrev pub is_null : ℕ → Draws → Bool
is_null null draw = nat_lt (draw 0 % 1000) null

-- what such a field holds
abbrev pub unless_null : {A : Type 0} → ℕ → Draws → Option A → Option A
unless_null null draw held = if is_null null draw then None else held

-- the number of the entry that a pick selects; no other kind has entries
abbrev pub entry_of : KindLayout → Draws → Option ℕ
entry_of (leaf_kind (pick_leaf entries weights)) draw = Some (chosen_group weights (draw 1))
entry_of _ draw = None

-- the number of the entry that a row's field in a pick column holds, None where the field is null
abbrev pub held_entry : ColumnLayout → Draws → Option ℕ
held_entry column draw = unless_null column.null draw (entry_of column.kind draw)

-- the branch at a place
abbrev pub branch_at : List LeafLayout → ℕ → LeafLayout
branch_at branches place = slice_index_or branches place (int_leaf (pos 0) (pos 0) 1)

-- the entry of a word list that a row takes: the first row the first entry, and so on in turn
abbrev pub entry_in_turn : WordList → ℕ → List ℕ
entry_in_turn words ordinal = slice_index_or words.entries (ordinal % length words.entries) []

-- the day that a row shows: so many steps past the day of unit 0 as the unit of its last change says, or that of its birth
abbrev pub unit_day : Bool → ℤ → ℕ → RowAt → ℤ
unit_day changed start step at = start +ℤ pos (step * (if changed then at.changed else at.born))

-- whether a field of this kind is made of its row's place and units and of draws
abbrev pub is_own : KindLayout → Bool
is_own born_kind = true
is_own changed_kind = true
is_own (leaf_kind leaf) = true
is_own (case_kind on branches) = true
is_own (list_kind words) = true
is_own (unit_date_kind changed start step) = true
is_own _ = false

-- what a row holds in a column of such a kind, where it isn't null. A case draws its branch's value from its own draws, and is null where
-- the field of its pick column is
abbrev pub own_value : List ColumnLayout → RowAt → RowDraws → ℕ → KindLayout → Option (List ℕ)
own_value columns at draws column key_kind = not_own
own_value columns at draws column born_kind = Some (decimal at.born)
own_value columns at draws column changed_kind = Some (decimal at.changed)
own_value columns at draws column (leaf_kind leaf) = leaf_value leaf (draws column)
own_value columns at draws column (template_kind parts) = not_own
own_value columns at draws column (case_kind on branches) =
    option_and_then (λ entry. leaf_value (branch_at branches entry) (draws column))
    (held_entry (column_at columns on) (draws on))
own_value columns at draws column (reference_kind parent window spread nulls drawn) = not_own
own_value columns at draws column (lookup_kind via parent name) = not_own
own_value columns at draws column (list_kind words) = Some (entry_in_turn words at.ordinal)
own_value columns at draws column (unit_date_kind changed start step) = Some (date_text (unit_day changed start step at))
own_value columns at draws column (after_kind of lo hi) = not_own
own_value columns at draws column (sum_kind of) = not_own
own_value columns at draws column (product_kind of) = not_own

-- the day that such a value shows, by the row and the draws of its field; None where it shows no day
abbrev pub own_day : RowAt → Draws → KindLayout → Option ℤ
own_day at draw (leaf_kind leaf) = leaf_day leaf draw
own_day at draw (unit_date_kind changed start step) = Some (unit_day changed start step at)
own_day at draw _ = None

-- the number that it is; None where it is no number
abbrev pub own_number : Draws → KindLayout → Option Number
own_number draw (leaf_kind leaf) = leaf_number leaf draw
own_number draw _ = None

-- the field of a row in the column at a place, which is of such a kind
abbrev pub own_field : List ColumnLayout → RowAt → RowDraws → ℕ → Option (List ℕ)
own_field columns at draws column =
    unless_null (column_at columns column).null (draws column)
    (own_value columns at draws column (column_at columns column).kind)

-- the unit at which a row's field is drawn: that of its last change in a column that changes, that of its birth in any other
abbrev pub draw_unit : ColumnLayout → RowAt → ℕ
draw_unit column at = if column.changes then at.changed else at.born

-- the draws of a row of the table at a place
abbrev pub draws_at : Layout → ℕ → RowAt → RowDraws
draws_at layout table at column =
    field_draw layout.seed table column (draw_unit (column_at (table_at layout.tables table).columns column) at) at.ordinal

-- the field of a row of the table at a place
abbrev pub value_at : Layout → ℕ → ℕ → RowAt → Option (List ℕ)
value_at layout table column at = own_field (table_at layout.tables table).columns at (draws_at layout table at) column

-- the greatest size of such a field as it is written, in bytes
abbrev pub size_at : Layout → ℕ → ℕ → ℕ
size_at layout table column =
    size_of layout.delimiter layout.tables (table_at layout.tables table).columns
    (column_at (table_at layout.tables table).columns column).kind

-- whether a value is a text or null
abbrev pub put_of : Option (List ℕ) → Put
put_of None = Null
put_of (Some text) = Text

-- what is written for a value by those who write a null one otherwise
abbrev pub written : ℕ → Option (List ℕ) → List ℕ
written delimiter None = []
written delimiter (Some text) = escaped_text delimiter text
