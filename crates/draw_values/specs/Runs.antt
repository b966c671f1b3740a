-- The fields of a column over a run of rows, each with the byte after it, and what is kept of the column so that they are made fast.
use Rattle.std.specs.Prelude.{◌≡◌, ◌<◌, ◌≤◌, ℕ, ℤ, pos, ◌^◌, ◌+ℤ◌, ◌&&◌, List, [], ◌∷◌, ◌++◌, Bool, true, false, Option, None, Some, ⊤, if◌then◌else◌, codes, decimal, length, map, nat_le, nat_lt, slice_index, unsigned_abs}
use Rattle.std.specs.List.{list_all, range_with_len}
use Rattle.philox_seeds.specs.SeedTree.{column_seed, draw, row_seed, table_seed, unit_seed}
use Rattle.row_text.specs.Fields.{field_text}
use Rattle.schema_plan.specs.declared.ready.ReadyColumn.{ReadyColumn}
use Rattle.schema_plan.specs.declared.ready.ReadyKind.{ReadyKind}
use Rattle.schema_plan.specs.declared.ready.ReadyKind.TheVariants as kind
use Rattle.schema_plan.specs.declared.ready.ReadyLeaf.{ReadyLeaf}
use Rattle.schema_plan.specs.declared.ready.ReadyLeaf.TheVariants as leaf
use Rattle.schema_facts.specs.Dictionaries.{Project}
use Rattle.schema_facts.specs.Layout.{column_at, layout_of, table_at}
use Rattle.schema_plan.specs.Ready.{ready_column}
use Rattle.draw_values.specs.declared.leaf_numbers.Number.{Number}
use Rattle.draw_values.specs.declared.runs.RunRows.{RunRows}
use Rattle.draw_values.specs.declared.values.RowAt.{RowAt}
use Rattle.draw_values.specs.Dates.{date_text}
use Rattle.draw_values.specs.ReadyValues.{HasDay, IsReady, IsReadyList, ready_day, ready_entry_in_turn, ready_text}
use Rattle.draw_values.specs.Values.{draws_at, is_null, own_day, own_number, value_at}

-- the row at a place of a run
abbrev pub run_row : RunRows → ℕ → RowAt
run_row rows i =
    record { ordinal = slice_index rows.ordinals.now i; born = slice_index rows.births.now i; changed = slice_index rows.changes.now i }

-- so many rows
pub record AreOfLength (count : ℕ) (rows : RunRows) : Type 0 where
  pub ordinals : length rows.ordinals.now ≡ count
  pub births : length rows.births.now ≡ count
  pub changes : length rows.changes.now ≡ count

-- so many rows, at most 256, whose units are at most a last one
pub record AreRunRows (units count : ℕ) (rows : RunRows) : Type 0 where
  pub few : count ≤ 256
  pub lengths : AreOfLength count rows
  pub born : (i : ℕ) → i < count → slice_index rows.births.now i ≤ units
  pub changed : (i : ℕ) → i < count → slice_index rows.changes.now i ≤ units

-- each of so many rows shows a day of the years 1 to 9999, if it shows one
abbrev pub HaveDays : ReadyKind → ℕ → RunRows → Type 0
HaveDays held count rows = (i : ℕ) → i < count → HasDay held (run_row rows i)

-- a text of at most 15 bytes makes a piece with the byte after it
abbrev pub is_short_text : List ℕ → Bool
is_short_text text = nat_lt (length text) 16

-- a number of at most 13 digits, which with a sign and a point is a short text, and so is any number up to 4,096 past it
abbrev pub is_short_number : ℤ → Bool
is_short_number number = nat_lt (unsigned_abs number) (10 ^ 13)

-- a drawn value whose texts are known to be short
abbrev pub is_short_leaf : ReadyLeaf → Bool
is_short_leaf (leaf.Int lo hi step count) = is_short_number lo && is_short_number hi
is_short_leaf (leaf.Fixed lo hi count decimals unit) = is_short_number lo && is_short_number hi
is_short_leaf (leaf.Date lo hi count) = true
is_short_leaf (leaf.Pick entries weights total) = list_all is_short_text entries
is_short_leaf (leaf.Skew lo weights total) = is_short_number lo
is_short_leaf (leaf.Chars lo lengths characters count) = false
is_short_leaf (leaf.Dict words) = list_all is_short_text words.entries
is_short_leaf (leaf.Words lo lengths words) = false
is_short_leaf leaf.Uuid = false

-- the same of what a column holds that goes by no other; what takes from other columns or rows is never known to be
abbrev pub is_short_alone : ReadyKind → Bool
is_short_alone kind.Born = true
is_short_alone kind.Changed = true
is_short_alone (kind.Drawn drawn) = is_short_leaf drawn
is_short_alone (kind.List list) = list_all is_short_text list.words.entries
is_short_alone (kind.UnitDate date) = true
is_short_alone _ = false

-- whether a column holds cases
abbrev pub is_case : ReadyKind → Bool
is_case (kind.Case on branches) = true
is_case _ = false

-- the same of what a column holds: cases are short where all their branches are
abbrev pub is_short : ReadyKind → Bool
is_short (kind.Case on branches) = list_all is_short_leaf branches
is_short held = is_short_alone held

-- a drawn value of several items, each of which is known to be short: characters, or words of a list of at most 65,536
abbrev pub is_itemized_leaf : ReadyLeaf → Bool
is_itemized_leaf (leaf.Chars lo lengths characters count) = list_all is_short_text characters
is_itemized_leaf (leaf.Words lo lengths words) = nat_le (length words.entries) 65536 && list_all is_short_text words.entries
is_itemized_leaf _ = false

-- the same of what a column holds
abbrev pub is_itemized : ReadyKind → Bool
is_itemized (kind.Drawn drawn) = is_itemized_leaf drawn
is_itemized _ = false

-- the items of which each draw of such a value chooses one, by its number
abbrev pub items_of : ReadyLeaf → List (List ℕ)
items_of (leaf.Chars lo lengths characters count) = characters
items_of (leaf.Words lo lengths words) = words.entries
items_of _ = []

-- the texts of which a draw chooses one, by its number, where they are kept: those of at most 4,096 days or 65,536 words
abbrev pub choices_kept : ReadyLeaf → List (List ℕ)
choices_kept (leaf.Date lo hi count) =
    if nat_lt 4096 count then [] else map (λ day. date_text (lo +ℤ pos day)) (range_with_len 0 count)
choices_kept (leaf.Pick entries weights total) = entries
choices_kept (leaf.Dict words) = if nat_lt 65536 (length words.entries) then [] else words.entries
choices_kept _ = []

-- a text with the byte after it
abbrev pub with_behind : ℕ → List ℕ → List ℕ
with_behind behind text = text ++ behind ∷ []

-- a null field with a byte after it
abbrev pub null_behind : ℕ → List ℕ
null_behind behind = with_behind behind (codes "\\N")

-- what is kept of a drawn value, and of a column: such texts with the byte after them, where all are short, or the items of several;
-- of a list what is kept of one of its words
abbrev pub leaf_texts : ℕ → ReadyLeaf → List (List ℕ)
leaf_texts behind drawn =
    if is_short_leaf drawn then map (with_behind behind) (choices_kept drawn) else (if is_itemized_leaf drawn then items_of drawn else [])

abbrev pub kept_texts : ℕ → ReadyKind → List (List ℕ)
kept_texts behind (kind.Drawn drawn) = leaf_texts behind drawn
kept_texts behind (kind.List list) = leaf_texts behind (leaf.Dict list.words)
kept_texts behind _ = []

-- the seed of the column that cases go by, below their table's; None of what goes by no other column
abbrev pub chooser_seed : ℕ → ReadyKind → Option ℕ
chooser_seed seed (kind.Case on branches) = Some (column_seed seed on)
chooser_seed seed _ = None

-- a column that is prepared for runs: its seed and that of the column that its cases go by, its place, the byte after its fields, whether they are known to be short or to be of
-- several short items, and the texts that are kept of it
pub record RunColumnOf : Type 0 where
  pub seed : ℕ
  pub chooser : Option ℕ
  pub table : ℕ
  pub column : ℕ
  pub behind : ℕ
  pub short : Bool
  pub itemized : Bool
  pub texts : List (List ℕ)

-- a column that is prepared for runs by itself: its seed, the byte after its fields, whether each is known to be short, whether each has
-- several short items, and the texts that are kept of it
pub record DrawnColumnOf : Type 0 where
  pub seed : ℕ
  pub behind : ℕ
  pub short : Bool
  pub itemized : Bool
  pub texts : List (List ℕ)

-- a column of some kind prepared, with a seed and a byte after its fields
abbrev pub drawn_column : ReadyKind → ℕ → ℕ → DrawnColumnOf
drawn_column held seed behind = record {
  seed = seed;
  behind = behind;
  short = is_short held;
  itemized = is_itemized held;
  texts = kept_texts behind held;
}

-- what is prepared of a column of a table by itself
abbrev pub drawn_of : RunColumnOf → DrawnColumnOf
drawn_of run = record { seed = run.seed; behind = run.behind; short = run.short; itemized = run.itemized; texts = run.texts }

-- the column at a place of a table of a plan, as it is kept ready
abbrev pub ready_at : Project → ℕ → ℕ → ReadyColumn
ready_at plan table column = ready_column (layout_of plan).delimiter (column_at (table_at (layout_of plan).tables table).columns column)

-- that column prepared for runs, with a byte after its fields
abbrev pub run_column : Project → ℕ → ℕ → ℕ → RunColumnOf
run_column plan table column behind = record {
  seed = column_seed (table_seed (layout_of plan).seed table) column;
  chooser = chooser_seed (table_seed (layout_of plan).seed table) (ready_at plan table column).kind;
  table = table;
  column = column;
  behind = behind;
  short = is_short (ready_at plan table column).kind;
  itemized = is_itemized (ready_at plan table column).kind;
  texts = kept_texts behind (ready_at plan table column).kind;
}

-- what is prepared is a column of a plan
pub record IsRunColumn (plan : Project) (run : RunColumnOf) : Type 0 where
  pub table_within : run.table < length plan.schema.tables
  pub column_within : run.column < length (table_at (layout_of plan).tables run.table).columns
  pub is : run ≡ run_column plan run.table run.column run.behind

-- the seed of the field of the row at a place of a run, in a column with a seed that is drawn anew where a row changes, or isn't
abbrev pub run_seed : ℕ → Bool → RunRows → ℕ → ℕ
run_seed seed changes rows i =
    row_seed (unit_seed seed (if changes then (run_row rows i).changed else (run_row rows i).born)) (run_row rows i).ordinal

-- the text of a leaf by its draw 1 alone, which is all that a short one asks
abbrev pub text_by : ReadyLeaf → ℕ → List ℕ
text_by drawn number = ready_text drawn (λ _. number)

-- what the row at a place of a run holds in a short column, if it isn't null
abbrev pub short_value : ℕ → Bool → ReadyKind → RunRows → ℕ → List ℕ
short_value seed changes kind.Born rows i = decimal (run_row rows i).born
short_value seed changes kind.Changed rows i = decimal (run_row rows i).changed
short_value seed changes (kind.Drawn drawn) rows i = text_by drawn (draw (run_seed seed changes rows i) 1)
short_value seed changes (kind.List list) rows i = ready_entry_in_turn list (run_row rows i).ordinal
short_value seed changes (kind.UnitDate date) rows i = date_text (ready_day date (run_row rows i))
short_value seed changes _ rows i = []

-- what is written for the field of the row at a place of a run in such a column, with the byte after it
abbrev pub drawn_field : DrawnColumnOf → ReadyColumn → RunRows → ℕ → List ℕ
drawn_field column ready rows i =
    if is_null ready.null (draw (run_seed column.seed ready.changes rows i))
    then null_behind column.behind
    else with_behind column.behind (short_value column.seed ready.changes ready.kind rows i)

-- the numbers of what is drawn, or taken in turn, are within their limits
abbrev pub IsReadyDrawn : ReadyKind → Type 0
IsReadyDrawn (kind.Drawn drawn) = IsReady drawn
IsReadyDrawn (kind.List list) = IsReadyList list
IsReadyDrawn _ = ⊤

-- what is written for the row at a place of a run, with the byte after it
abbrev pub run_field : Project → RunColumnOf → RunRows → ℕ → List ℕ
run_field plan run rows i =
    with_behind run.behind (field_text (layout_of plan).delimiter (value_at (layout_of plan) run.table run.column (run_row rows i)))

-- whether a row's field is drawn to be null
abbrev pub is_null_in : Project → RunColumnOf → RowAt → Bool
is_null_in plan run at =
    is_null (column_at (table_at (layout_of plan).tables run.table).columns run.column).null
    (draws_at (layout_of plan) run.table at run.column)

-- the day that a row shows in the column by its units or its own draws, where its field isn't null
abbrev pub day_in : Project → RunColumnOf → RowAt → Option ℤ
day_in plan run at =
    own_day at (draws_at (layout_of plan) run.table at run.column)
    (column_at (table_at (layout_of plan).tables run.table).columns run.column).kind

-- the number that it draws there, where its field isn't null
abbrev pub number_in : Project → RunColumnOf → RowAt → Option Number
number_in plan run at =
    own_number (draws_at (layout_of plan) run.table at run.column)
    (column_at (table_at (layout_of plan).tables run.table).columns run.column).kind

-- a null field with the byte after it
abbrev pub null_text : RunColumnOf → List ℕ
null_text run = null_behind run.behind

-- so many columns of the table at a place of a plan are prepared, each with its seed
pub record AreColumnsOf (plan : Project) (table : ℕ) (columns : List RunColumnOf) : Type 0 where
  pub many : length columns ≡ length (table_at (layout_of plan).tables table).columns
  pub each : (column : ℕ) → column < length columns → slice_index (map (λ (run : RunColumnOf). run.seed) columns) column ≡ column_seed (table_seed (layout_of plan).seed table) column
