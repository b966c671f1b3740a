-- Lines side by side, whose fields are made column by column, as pieces.
use Rattle.std.specs.Prelude.{◌≡◌, ◌<◌, ◌≤◌, ℕ, ℤ, pos, ◌+◌, ◌*◌, List, Some, Bool, true, false, if◌then◌else◌, codes, decimal, flat_map, get_or, length}
use Rattle.std.specs.List.{range_with_len}
use Rattle.line_pages.specs.declared.piece.Piece.{Piece}
use Rattle.line_pages.specs.Rows.{piece_text_at}
use Rattle.philox_seeds.specs.SeedTree.{column_seed, row_seed, unit_seed}
use Rattle.row_text.specs.Fields.{field_text}
use Rattle.schema_plan.specs.declared.ready.ReadyKind.{ReadyKind}
use Rattle.schema_plan.specs.declared.ready.ReadyKind.TheVariants as kind
use Rattle.schema_facts.specs.FactsBefore.{facts_among}
use Rattle.schema_facts.specs.Numbers.{decimals_of}
use Rattle.schema_plan.specs.declared.ready.ReadyLeaf.{ReadyLeaf}
use Rattle.draw_values.specs.declared.items.ItemizedField.{ItemizedField}
use Rattle.draw_values.specs.declared.values.RowAt.{RowAt}
use Rattle.draw_values.specs.Items.{itemized_by}
use Rattle.draw_values.specs.ReadyValues.{ready_text}
use Rattle.draw_values.specs.Values.{Draws, is_null}
use Rattle.draw_values.specs.Runs.{with_behind}
use Rattle.row_lines.specs.declared.derived.Join.{Join}
use Rattle.row_lines.specs.declared.derived.Join.TheVariants as join
use Rattle.detail_lines.specs.declared.detail_lines.LineKind.TheVariants.{Whole}
use Rattle.detail_lines.specs.declared.line_run.LineLists.{LineLists}
use Rattle.detail_lines.specs.declared.line_run.LineRun.{LineRun}
use Rattle.detail_lines.specs.declared.parent_row.ParentRow.{ParentRow}
use Rattle.detail_lines.specs.declared.parent_row.ParentRows.{ParentRows}
use Rattle.detail_lines.specs.Lines.{count_column, line_field, line_ordinal}
use Rattle.detail_lines.specs.Made.{AreMany, AreToldRows, IsToldRow, LineOver, LinesOver, behind_over, delimiter_over, detail_seed, line_over, made_line, ready_over, row_of, size_over}
use Rattle.detail_lines.specs.Shown.{IsDayAt, IsNumberAt}

-- ---- lines

-- the line at a place, over a detail table at a unit
abbrev pub line_of : LinesOver → ℕ → LineRun → ℕ → LineOver
line_of over unit run k =
    record { over = over; unit = unit; ordinal = get_or run.rows.ordinals.now k 0; number = get_or run.numbers.now k 0 }

-- the same as a row whose fields are drawn
abbrev pub drawn_row : LineRun → ℕ → RowAt
drawn_row run k =
    record { ordinal = get_or run.drawn.now k 0; born = get_or run.rows.births.now k 0; changed = get_or run.rows.changes.now k 0 }

-- the rows of a parent that are told at a unit, no more than a run has
pub record AreParents (over : LinesOver) (unit : ℕ) (rows : ParentRows) : Type 0 where
  pub few : length rows.ordinals.now ≤ 256
  pub many : AreMany (length rows.ordinals.now) rows
  pub told : AreToldRows over unit Whole rows

-- so many lines of rows that are told at a unit
pub record AreLines (over : LinesOver) (unit count : ℕ) (run : LineRun) : Type 0 where
  pub few : count ≤ 256
  pub many : AreMany count run.rows
  pub numbers : length run.numbers.now ≡ count
  pub drawn : length run.drawn.now ≡ count
  pub told : (k : ℕ) → k < count → IsToldRow over unit Whole (row_of run.rows k)
  pub first : (k : ℕ) → k < count → 1 ≤ get_or run.numbers.now k 0
  pub last : (k : ℕ) → k < count → get_or run.numbers.now k 0 ≤ 64
  pub drawn_are : (k : ℕ) → k < count → get_or run.drawn.now k 0 ≡ line_ordinal (get_or run.rows.ordinals.now k 0) (get_or run.numbers.now k 0)
  pub parents : AreParents over unit run.parents
  pub places : length run.places.now ≡ count
  pub placed : (k : ℕ) → k < count → get_or run.places.now k 0 < length run.parents.ordinals.now
  pub parent_is : (k : ℕ) → k < count → row_of run.parents (get_or run.places.now k 0) ≡ row_of run.rows k

-- their text
abbrev pub run_text : LinesOver → ℕ → LineRun → ℕ → List ℕ
run_text over unit run count =
    flat_map (λ k. made_line over unit (get_or run.rows.ordinals.now k 0) (get_or run.numbers.now k 0)) (range_with_len 0 count)

-- ---- lists of lines

-- there is room for 256
pub record HasRoom (lists : LineLists) : Type 0 where
  pub keys : length lists.keys ≡ 256
  pub ordinals : length lists.ordinals ≡ 256
  pub births : length lists.births ≡ 256
  pub changes : length lists.changes ≡ 256
  pub numbers : length lists.numbers ≡ 256
  pub drawn : length lists.drawn ≡ 256
  pub places : length lists.places ≡ 256

-- the row of the line at a place
abbrev pub row_in : LineLists → ℕ → ParentRow
row_in lists k =
    record { key = get_or lists.keys k 0; ordinal = get_or lists.ordinals k 0; born = get_or lists.births k 0; changed = get_or lists.changes k 0 }

-- the first of them are lines of rows that are told at a unit
pub record AreListed (over : LinesOver) (unit count : ℕ) (lists : LineLists) : Type 0 where
  pub few : count ≤ 256
  pub room : HasRoom lists
  pub told : (k : ℕ) → k < count → IsToldRow over unit Whole (row_in lists k)
  pub first : (k : ℕ) → k < count → 1 ≤ get_or lists.numbers k 0
  pub last : (k : ℕ) → k < count → get_or lists.numbers k 0 ≤ 64
  pub drawn_are : (k : ℕ) → k < count → get_or lists.drawn k 0 ≡ line_ordinal (get_or lists.ordinals k 0) (get_or lists.numbers k 0)

-- the text of the first of them
abbrev pub listed_lines : LinesOver → ℕ → LineLists → ℕ → List ℕ
listed_lines over unit lists count =
    flat_map (λ k. made_line over unit (get_or lists.ordinals k 0) (get_or lists.numbers k 0)) (range_with_len 0 count)

-- the rows of the first of them stand among rows from a first one on, so many, at the places that are listed
pub record ArePlaced (rows : ParentRows) (first some count : ℕ) (lists : LineLists) : Type 0 where
  pub placed : (k : ℕ) → k < count → get_or lists.places k 0 < some
  pub row_is : (k : ℕ) → k < count → row_of rows (first + get_or lists.places k 0) ≡ row_in lists k

-- and these are all rows of a parent
pub record AreAmong (over : LinesOver) (unit count : ℕ) (parents : ParentRows) (lists : LineLists) : Type 0 where
  pub told : AreParents over unit parents
  pub placed : (k : ℕ) → k < count → get_or lists.places k 0 < length parents.ordinals.now
  pub row_is : (k : ℕ) → k < count → row_of parents (get_or lists.places k 0) ≡ row_in lists k

-- from a place on so many lines of a row, which has a place of its own, stand in the lists, and before it nothing changed
pub record AreSpread (row : ParentRow) (place from count : ℕ) (before after : LineLists) : Type 0 where
  pub row_before : (k : ℕ) → k < from → row_in after k ≡ row_in before k
  pub number_before : (k : ℕ) → k < from → get_or after.numbers k 0 ≡ get_or before.numbers k 0
  pub drawn_before : (k : ℕ) → k < from → get_or after.drawn k 0 ≡ get_or before.drawn k 0
  pub place_before : (k : ℕ) → k < from → get_or after.places k 0 ≡ get_or before.places k 0
  pub row_here : (k : ℕ) → k < count → row_in after (from + k) ≡ row
  pub number_here : (k : ℕ) → k < count → get_or after.numbers (from + k) 0 ≡ k + 1
  pub drawn_here : (k : ℕ) → k < count → get_or after.drawn (from + k) 0 ≡ 64 * row.ordinal + k
  pub place_here : (k : ℕ) → k < count → get_or after.places (from + k) 0 ≡ place

-- the seed from which the number of a row's lines is drawn
abbrev pub count_seed : LinesOver → ParentRow → ℕ
count_seed over row = row_seed (unit_seed (column_seed (detail_seed over.kept) count_column) row.born) row.ordinal

-- ---- values

-- the days that so many lines show in the column at a place, where its own field isn't null
pub record AreDays (over : LinesOver) (unit count : ℕ) (run : LineRun) (days : List ℤ) (column : ℕ) : Type 0 where
  pub each : (k : ℕ) → k < count → IsDayAt (line_of over unit run k) column (Some (get_or days k (pos 0)))

-- what is kept ready of a total of the columns at some places
abbrev pub total_kind : Join → List ℕ → ReadyKind
total_kind join.Sum of = kind.Sum of
total_kind join.Product of = kind.Product of

-- the column at a place is a total
abbrev pub IsTotalAt : LinesOver → ℕ → Type 0
IsTotalAt over column = (way : Join) × (of : List ℕ) × ((ready_over over column).kind ≡ total_kind way of)

-- how many digits stand after the point of the numbers of the column at a place
abbrev pub digits_over : LinesOver → ℕ → ℕ
digits_over over column = decimals_of (facts_among over.kept.facts column).numbers

-- the numbers that so many lines hold in the column at a place, where its own field isn't null
pub record AreTotals (over : LinesOver) (unit count : ℕ) (run : LineRun) (totals : List ℤ) (column : ℕ) : Type 0 where
  pub each : (k : ℕ) → k < count →
      IsNumberAt (line_of over unit run k) column (Some (record { value = get_or totals k (pos 0); decimals = digits_over over column }))

-- ---- fields

-- the keys and the numbers of so many lines are made, each with the delimiter after it: first all keys, then all numbers
pub record AreHeads (over : LinesOver) (count : ℕ) (run : LineRun) (pieces : List Piece) : Type 0 where
  pub keys : (k : ℕ) → k < count → piece_text_at pieces k ≡ with_behind (delimiter_over over) (decimal (get_or run.rows.keys.now k 0))
  pub numbers : (k : ℕ) → k < count → piece_text_at pieces (count + k) ≡ with_behind (delimiter_over over) (decimal (get_or run.numbers.now k 0))

-- what is written for the field of a line in the column at a place
abbrev pub text_over : LineOver → ℕ → List ℕ
text_over line column = field_text (delimiter_over line.over) (line_field (line_over line) column)

-- the fields of so many lines in the column at a place are made: from a place of the pieces on each stands as it is written, with the byte
-- after it, and none is longer than the column's may be
pub record AreFields (over : LinesOver) (unit count : ℕ) (run : LineRun) (pieces : List Piece) (start column : ℕ) : Type 0 where
  pub text : (k : ℕ) → k < count → piece_text_at pieces (start + k) ≡ with_behind (behind_over over column) (text_over (line_of over unit run k) column)
  pub size : (k : ℕ) → k < count → length (text_over (line_of over unit run k) column) ≤ size_over over column

-- ---- fields that give no piece

-- whether a column's fields are drawn
abbrev pub is_drawn : ReadyKind → Bool
is_drawn (kind.Drawn leaf) = true
is_drawn _ = false

-- the column at a place is one of drawn values
abbrev pub IsDrawnAt : LinesOver → ℕ → Type 0
IsDrawnAt over column = (leaf : ReadyLeaf) × ((ready_over over column).kind ≡ kind.Drawn leaf)

-- the seed from which the field of a line in the column at a place is drawn
abbrev pub drawn_seed : LinesOver → LineRun → ℕ → ℕ → ℕ
drawn_seed over run column k =
    row_seed (unit_seed (column_seed (detail_seed over.kept) column) (if (ready_over over column).changes then get_or run.rows.changes.now k 0 else get_or run.rows.births.now k 0))
    (get_or run.drawn.now k 0)

-- what is drawn of the fields of so many lines in the column at a place, before their items, stands from a place of a list on
pub record AreItems (over : LinesOver) (count : ℕ) (run : LineRun) (items : List ItemizedField) (start column : ℕ) : Type 0 where
  pub each : (k : ℕ) (none : ItemizedField) → k < count → get_or items (start + k) none ≡ itemized_by (ready_over over column) (drawn_seed over run column k)

-- a value that draws give, or a null where so many of a thousand are
abbrev pub text_or_null : ℕ → ReadyLeaf → Draws → List ℕ
text_or_null null leaf draws = if is_null null draws then codes "\\N" else ready_text leaf draws
