-- The days and the numbers of the rows of a run in a column, from which fields of others are made.
use Rattle.std.specs.Prelude.{◌≡◌, ◌<◌, ◌≤◌, ◌^◌, ℕ, ℤ, pos, Bool, true, false, List, Option, Some, None, get_or, length, unsigned_abs}
use Rattle.schema_facts.specs.ColumnFacts.{field_facts}
use Rattle.schema_facts.specs.Layout.{column_at, layout_of}
use Rattle.schema_facts.specs.Numbers.{decimals_of}
use Rattle.draw_values.specs.declared.leaf_numbers.Number.{Number}
use Rattle.draw_values.specs.CohortValues.{IsDayOf, IsNumberOf}
use Rattle.life_intervals.specs.Generator.{generator_of}
use Rattle.life_intervals.specs.Intervals.{row_at}
use Rattle.life_intervals.specs.Rows.{Row}
use Rattle.row_lines.specs.Derived.{columns_before, day_by, day_in, number_by, number_in}
use Rattle.row_lines.specs.Runs.{RunLinesOf, layout_for, text_at}
use Rattle.row_lines.specs.Totals.{total_text}

-- the row of an ordinal
abbrev pub row_of : RunLinesOf → ℕ → Row
row_of lines ordinal = row_at (generator_of lines.plan) lines.table lines.unit ordinal

-- the days that the rows of some ordinals show in the column at a place, where its own field isn't null
pub record AreDays (lines : RunLinesOf) (ordinals : List ℕ) (days : List ℤ) (column : ℕ) : Type 0 where
  pub each : (i : ℕ) → i < length ordinals → (n : ℕ) → columns_before lines.table column ≤ n →
      Some (get_or days i (pos 0))
      ≡ day_by (day_in n (generator_of lines.plan)) (generator_of lines.plan) lines.table (row_of lines (get_or ordinals i 0)) column
      (column_at (layout_for lines).columns column).kind
  pub within : (i : ℕ) → i < length ordinals → IsDayOf (field_facts (layout_of lines.plan) lines.table column).days (get_or days i (pos 0))

-- the digits after the point of the numbers in the column at a place
abbrev pub digits_in : RunLinesOf → ℕ → ℕ
digits_in lines column = decimals_of (field_facts (layout_of lines.plan) lines.table column).numbers

-- a value, with these digits
abbrev pub number_of : RunLinesOf → ℕ → ℤ → Number
number_of lines column value = record { value = value; decimals = digits_in lines column }

-- the totals that the rows of some ordinals hold in the column at a place, where its own field isn't null
pub record AreTotals (lines : RunLinesOf) (ordinals : List ℕ) (totals : List ℤ) (column : ℕ) : Type 0 where
  pub each : (i : ℕ) → i < length ordinals → (n : ℕ) → columns_before lines.table column ≤ n →
      Some (number_of lines column (get_or totals i (pos 0)))
      ≡ number_by (number_in n (generator_of lines.plan)) (generator_of lines.plan) lines.table (row_of lines (get_or ordinals i 0)) column
      (column_at (layout_for lines).columns column).kind
  pub within : (i : ℕ) → i < length ordinals → IsNumberOf (field_facts (layout_of lines.plan) lines.table column).numbers (number_of lines column (get_or totals i (pos 0)))

-- the value of a number, or 0 where there is none
abbrev pub value_of : Option Number → ℤ
value_of None = pos 0
value_of (Some number) = number.value

-- a number, where it is held
abbrev pub held_number : Bool → Number → Option Number
held_number false number = None
held_number true number = Some number

-- what the rows of some ordinals hold in the column at a place, which is a total, by whether each holds a number, and its value of at most 13
-- digits
pub record AreTold (lines : RunLinesOf) (ordinals : List ℕ) (live : List Bool) (totals : List ℤ) (column : ℕ) : Type 0 where
  pub text : (i : ℕ) → i < length ordinals →
      text_at lines (get_or ordinals i 0) column ≡ total_text (held_number (get_or live i false) (number_of lines column (get_or totals i (pos 0))))
  pub small : (i : ℕ) → i < length ordinals → unsigned_abs (get_or totals i (pos 0)) < 10 ^ 13
