-- What is written for a field by what a plan keeps ready for its column, and what has to be kept so that it can be.
use Rattle.std.specs.Prelude.{◌≡◌, ◌≤◌, ℕ, ℤ, pos, ◌+◌, ◌-◌, ◌*◌, ◌%◌, ◌^◌, ◌+ℤ◌, ◌<ℤ◌, List, [], All, Option, Some, None, decimal, flat_map, length, option_map, sum, slice_index_or, ⊤}
use Rattle.std.specs.Fmt.{signed_decimal}
use Rattle.std.specs.List.{range_with_len}
use Rattle.philox_seeds.specs.SeedTree.{draw, row_seed}
use Rattle.schema_plan.specs.declared.ready.ReadyColumn.{ReadyColumn}
use Rattle.schema_plan.specs.declared.ready.ReadyKind.{ReadyKind}
use Rattle.schema_plan.specs.declared.ready.ReadyKind.TheVariants as kind
use Rattle.schema_plan.specs.declared.ready.ReadyLeaf.{ReadyLeaf}
use Rattle.schema_plan.specs.declared.ready.ReadyList.{ReadyList}
use Rattle.schema_plan.specs.declared.ready.ReadyUnitDate.{ReadyUnitDate}
use Rattle.schema_plan.specs.declared.ready.ReadyLeaf.TheVariants as leaf
use Rattle.schema_facts.specs.Choices.{choices}
use Rattle.schema_facts.specs.FieldSizes.{greatest_by, joined_size}
use Rattle.schema_plan.specs.Limits.{IsDateRange, IsRange}
use Rattle.draw_values.specs.declared.leaf_numbers.Number.{Number}
use Rattle.draw_values.specs.declared.values.RowAt.{RowAt}
use Rattle.draw_values.specs.Dates.{date_text}
use Rattle.draw_values.specs.Digits.{signed_pointed}
use Rattle.draw_values.specs.Uuids.{uuid_text}
use Rattle.draw_values.specs.Values.{Draws, chosen, chosen_group, drawn_words, unless_null, unit_day}

-- the draws of the field of the row with an ordinal, by the seed of its column at its unit
abbrev pub row_draws : ℕ → ℕ → Draws
row_draws seed ordinal = draw (row_seed seed ordinal)

-- so many of some texts, each chosen by a draw of its own: the first by draw 2
abbrev pub chosen_texts : List (List ℕ) → Draws → ℕ → List ℕ
chosen_texts texts draw count =
    flat_map (λ k. slice_index_or texts (draw (2 + k) % length texts) []) (range_with_len 0 count)

-- the text that the draws of a field give
abbrev pub ready_text : ReadyLeaf → Draws → List ℕ
ready_text (leaf.Int lo hi step count) draw = signed_decimal (chosen lo hi step (draw 1))
ready_text (leaf.Fixed lo hi count decimals unit) draw = signed_pointed decimals (chosen lo hi 1 (draw 1))
ready_text (leaf.Date lo hi count) draw = date_text (chosen lo hi 1 (draw 1))
ready_text (leaf.Pick entries weights total) draw = slice_index_or entries (chosen_group weights (draw 1)) []
ready_text (leaf.Skew lo weights total) draw = signed_decimal (lo +ℤ pos (chosen_group weights (draw 1)))
ready_text (leaf.Chars lo lengths characters count) draw = chosen_texts characters draw (lo + draw 1 % lengths)
ready_text (leaf.Dict words) draw = slice_index_or words.entries (chosen_group words.weights (draw 1)) []
ready_text (leaf.Words lo lengths words) draw = drawn_words words draw (lo + draw 1 % lengths)
ready_text leaf.Uuid draw = uuid_text (draw 1) (draw 2)

-- the day that is drawn, of a date
abbrev pub ready_leaf_day : ReadyLeaf → Draws → Option ℤ
ready_leaf_day (leaf.Date lo hi count) draw = Some (chosen lo hi 1 (draw 1))
ready_leaf_day _ draw = None

-- the number that is drawn, of what is a number
abbrev pub ready_leaf_number : ReadyLeaf → Draws → Option Number
ready_leaf_number (leaf.Int lo hi step count) draw = Some (record { value = chosen lo hi step (draw 1); decimals = 0 })
ready_leaf_number (leaf.Fixed lo hi count decimals unit) draw = Some (record { value = chosen lo hi 1 (draw 1); decimals = decimals })
ready_leaf_number (leaf.Skew lo weights total) draw = Some (record { value = lo +ℤ pos (chosen_group weights (draw 1)); decimals = 0 })
ready_leaf_number _ draw = None

-- the greatest size of such a text, in bytes
abbrev pub ready_size : ReadyLeaf → ℕ
ready_size (leaf.Int lo hi step count) = 20
ready_size (leaf.Fixed lo hi count decimals unit) = 21
ready_size (leaf.Date lo hi count) = 10
ready_size (leaf.Pick entries weights total) = greatest_by length entries
ready_size (leaf.Skew lo weights total) = 20
ready_size (leaf.Chars lo lengths characters count) = (lo + lengths - 1) * greatest_by length characters
ready_size (leaf.Dict words) = greatest_by length words.entries
ready_size (leaf.Words lo lengths words) = joined_size (lo + lengths - 1) (greatest_by length words.entries)
ready_size leaf.Uuid = 36

-- its numbers are within their limits and what they are kept for
abbrev pub IsReady : ReadyLeaf → Type 0
IsReady (leaf.Int lo hi step count) = IsRange lo hi × (1 ≤ step) × (count ≡ choices lo hi step)
IsReady (leaf.Fixed lo hi count decimals unit) = IsRange lo hi × (count ≡ choices lo hi 1) × (decimals ≤ 9) × (unit ≡ 10 ^ decimals)
IsReady (leaf.Date lo hi count) = IsDateRange lo hi × (count ≡ choices lo hi 1)
IsReady (leaf.Pick entries weights total) = (length weights ≡ length entries) × (total ≡ sum weights)
IsReady (leaf.Skew lo weights total) = (length weights ≤ 4096) × ((lo +ℤ pos (length weights - 1)) <ℤ pos (2 ^ 63)) × (total ≡ sum weights)
IsReady (leaf.Chars lo lengths characters count) = (lo + lengths ≤ 1001) × (count ≡ length characters)
IsReady (leaf.Dict words) = ⊤
IsReady (leaf.Words lo lengths words) = lo + lengths ≤ 1001
IsReady leaf.Uuid = ⊤

-- the place of the column that a field is chosen by: the pick column of a case; any other field goes by its own column
abbrev pub chooser_of : ℕ → ReadyKind → ℕ
chooser_of place (kind.Case on branches) = on
chooser_of place _ = place

-- the number of the entry that the draws of a field select; no other kind than picks has entries
abbrev pub ready_entry : ReadyKind → Draws → Option ℕ
ready_entry (kind.Drawn (leaf.Pick entries weights total)) draw = Some (chosen_group weights (draw 1))
ready_entry _ draw = None

-- the number of the entry that a field of a pick column holds, None where it is null
abbrev pub ready_held_entry : ReadyColumn → Draws → Option ℕ
ready_held_entry column draw = unless_null column.null draw (ready_entry column.kind draw)

-- the branch at a place
abbrev pub ready_branch : List ReadyLeaf → ℕ → ReadyLeaf
ready_branch branches place = slice_index_or branches place (leaf.Int (pos 0) (pos 0) 1 1)

-- the entry of a list that a row takes, by its ordinal
abbrev pub ready_entry_in_turn : ReadyList → ℕ → List ℕ
ready_entry_in_turn list ordinal = slice_index_or list.words.entries (ordinal % list.count) []

-- the day that a row shows
abbrev pub ready_day : ReadyUnitDate → RowAt → ℤ
ready_day date at = unit_day date.changed date.start date.step at

-- the day that a field shows that isn't null, by the row and its draws; None of a kind that shows no day of its own
abbrev pub ready_own_day : RowAt → Draws → ReadyKind → Option ℤ
ready_own_day at draw (kind.Drawn leaf) = ready_leaf_day leaf draw
ready_own_day at draw (kind.UnitDate date) = Some (ready_day date at)
ready_own_day at draw _ = None

-- the number that it is
abbrev pub ready_own_number : Draws → ReadyKind → Option Number
ready_own_number draw (kind.Drawn leaf) = ready_leaf_number leaf draw
ready_own_number draw _ = None

-- what is written for a field of a row's place and units or of draws that isn't null, by the row, the entry that its pick column
-- holds, and its draws; None where its pick column's field is null
abbrev pub ready_value : RowAt → Option ℕ → Draws → ReadyKind → Option (List ℕ)
ready_value at entry draw kind.Born = Some (decimal at.born)
ready_value at entry draw kind.Changed = Some (decimal at.changed)
ready_value at entry draw (kind.Drawn leaf) = Some (ready_text leaf draw)
ready_value at entry draw (kind.Case on branches) = option_map (λ e. ready_text (ready_branch branches e) draw) entry
ready_value at entry draw (kind.List list) = Some (ready_entry_in_turn list at.ordinal)
ready_value at entry draw (kind.UnitDate date) = Some (date_text (ready_day date at))
ready_value at entry draw _ = None

-- what is written for a field, None where it is null
abbrev pub ready_field : RowAt → ReadyColumn → Draws → ReadyColumn → Draws → Option (List ℕ)
ready_field at chooser chooser_draw column draw =
    unless_null column.null draw (ready_value at (ready_held_entry chooser chooser_draw) draw column.kind)

-- the greatest size of such a text, in bytes
abbrev pub ready_kind_size : ReadyKind → ℕ
ready_kind_size kind.Born = 5
ready_kind_size kind.Changed = 5
ready_kind_size (kind.Drawn leaf) = ready_size leaf
ready_kind_size (kind.Case on branches) = greatest_by ready_size branches
ready_kind_size (kind.List list) = greatest_by length list.words.entries
ready_kind_size (kind.UnitDate date) = 10
ready_kind_size _ = 0

-- the number of the entries of a pick; no other kind has any
abbrev pub entry_count : ReadyKind → ℕ
entry_count (kind.Drawn (leaf.Pick entries weights total)) = length weights
entry_count _ = 0

-- a pick that a case can go by
abbrev pub IsReadyPick : ReadyKind → Type 0
IsReadyPick (kind.Drawn (leaf.Pick entries weights total)) = total ≡ sum weights
IsReadyPick _ = ⊥

-- the words of a list are as many as are counted
abbrev pub IsReadyList : ReadyList → Type 0
IsReadyList list = list.count ≡ length list.words.entries

-- the units of a row of a plan, each of at most 5 digits
pub record AreUnits (at : RowAt) : Type 0 where
  pub born_limit : at.born ≤ 10000
  pub changed_limit : at.changed ≤ 10000

-- the day that a row shows is of the years 1 to 9999
abbrev pub IsUnitDay : ReadyUnitDate → RowAt → Type 0
IsUnitDay date at = IsDateRange date.start (ready_day date at)

-- the same of a field of this kind; of other kinds nothing is asked
abbrev pub HasDay : ReadyKind → RowAt → Type 0
HasDay (kind.UnitDate date) at = IsUnitDay date at
HasDay _ at = ⊤

-- a field of this kind can be written, where it is chosen by a column of the other
abbrev pub IsReadyKind : ReadyKind → ReadyKind → Type 0
IsReadyKind chooser kind.Born = ⊤
IsReadyKind chooser kind.Changed = ⊤
IsReadyKind chooser (kind.Drawn leaf) = IsReady leaf
IsReadyKind chooser (kind.Case on branches) = All IsReady branches × IsReadyPick chooser × (entry_count chooser ≡ length branches)
IsReadyKind chooser (kind.List list) = IsReadyList list
IsReadyKind chooser (kind.UnitDate date) = ⊤
IsReadyKind chooser _ = ⊥
