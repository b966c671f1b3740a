-- The days that dated columns show and the numbers that numeric columns hold. A date after a date, a sum and a product are worked out from
-- these, through other columns of the row and through rows of earlier tables. A number stands without its point.
use Rattle.std.specs.Prelude.{ℕ, zero, suc, ℤ, pos, ◌+◌, ◌*◌, ◌-◌, ◌+ℤ◌, ◌*ℤ◌, List, map, Option, Some, None}
use Rattle.std.specs.List.{fold}
use Rattle.std.specs.Option.{option_and_then, option_map}
use Rattle.schema_facts.specs.FieldSizes.{greatest_by}
use Rattle.schema_facts.specs.Layout.{KindLayout, leaf_kind, lookup_kind, unit_date_kind, after_kind, sum_kind, product_kind, table_at, column_at}
use Rattle.schema_facts.specs.Numbers.{scaled}
use Rattle.draw_values.specs.declared.leaf_numbers.Number.{Number}
use Rattle.draw_values.specs.Values.{chosen, leaf_day, leaf_number, unit_day, unless_null}
use Rattle.life_intervals.specs.Generator.{Generator}
use Rattle.life_intervals.specs.Intervals.{row_at}
use Rattle.life_intervals.specs.Rows.{Row}
use Rattle.row_lines.specs.RowViews.{at_row, draws_of, parent_of_row}

-- ---- through which columns

-- how many columns are enough to find what a column takes from others: each of these stands before it, in its table or an earlier one,
-- and no table has more than 64
abbrev pub columns_before : ℕ → ℕ → ℕ
columns_before place column = 64 * place + column

-- what the parent that a row of the table at a place has by the reference in a column holds in a column of its own, by what rows hold:
-- a row, by the place of its table, in the column at a place. None where the parent is lost
abbrev pub in_parent : {A : Type 0} → (ℕ → Row → ℕ → Option A) → Generator → ℕ → Row → ℕ → ℕ → ℕ → Option A
in_parent held generator place row via parent column =
    option_and_then (λ ordinal. held parent (row_at generator parent row.born ordinal) column)
    (parent_of_row (table_at generator.tables place) row via)

-- ---- days

-- the day that a row of the table at a place shows in the column at a place, which is of this kind, where that isn't null by its own draw,
-- by the days that other columns show. None where the column isn't dated
abbrev pub day_by : (ℕ → Row → ℕ → Option ℤ) → Generator → ℕ → Row → ℕ → KindLayout → Option ℤ
day_by day generator place row column (leaf_kind leaf) = leaf_day leaf (draws_of generator place row column)
day_by day generator place row column (unit_date_kind changed start step) = Some (unit_day changed start step (at_row row))
day_by day generator place row column (lookup_kind via parent name) = in_parent day generator place row via parent name
day_by day generator place row column (after_kind of lo hi) =
    option_map (λ earlier. earlier +ℤ chosen lo hi 1 (draws_of generator place row column 1)) (day place row of)
day_by day generator place row column kind = None

-- the same of a column of any kind, None where it is null; it is looked for through so many columns
unfoldable pub day_in : ℕ → Generator → ℕ → Row → ℕ → Option ℤ
day_in zero generator place row column = None
day_in (suc n) generator place row column =
    unless_null (column_at (table_at generator.tables place).columns column).null (draws_of generator place row column)
    (day_by (day_in n generator) generator place row column (column_at (table_at generator.tables place).columns column).kind)

-- what it shows in a column of its own, however far that has to be looked for
abbrev pub day_shown : Generator → ℕ → Row → ℕ → Option ℤ
day_shown generator place row column = day_in (suc (columns_before place column)) generator place row column

-- the day that a column of this kind shows, where that isn't null by its own draw
abbrev pub day_of_kind : Generator → ℕ → Row → ℕ → KindLayout → Option ℤ
day_of_kind generator place row column kind =
    day_by (day_in (columns_before place column) generator) generator place row column kind

-- ---- numbers

-- a sum so far and one more operand, which takes the digits of the sum
abbrev pub plus : Number → Number → Number
plus so_far operand =
    record { value = so_far.value +ℤ scaled (so_far.decimals - operand.decimals) operand.value; decimals = so_far.decimals }

-- a product so far times one more operand
abbrev pub times : Number → Number → Number
times so_far operand = record { value = so_far.value *ℤ operand.value; decimals = so_far.decimals + operand.decimals }

-- the digits after the point of an operand
abbrev pub decimals_of : Option Number → ℕ
decimals_of None = 0
decimals_of (Some number) = number.decimals

-- what the operands so far came to, with one more; None where it or the operand is None
abbrev pub with_operand : (Number → Number → Number) → Option Number → Option Number → Option Number
with_operand join so_far operand = option_and_then (λ (number : Number). option_map (join number) operand) so_far

-- the sum of some operands, in order: it has the most digits after the point of any of them
abbrev pub sum_of : List (Option Number) → Option Number
sum_of operands = fold (with_operand plus) (Some (record { value = pos 0; decimals = greatest_by decimals_of operands })) operands

-- their product: it has the digits of all of them
abbrev pub product_of : List (Option Number) → Option Number
product_of operands = fold (with_operand times) (Some (record { value = pos 1; decimals = 0 })) operands

-- the number that a row of the table at a place holds in the column at a place, which is of this kind, where that isn't null by its own
-- draw, by the numbers that other columns hold. None where the column isn't numeric
abbrev pub number_by : (ℕ → Row → ℕ → Option Number) → Generator → ℕ → Row → ℕ → KindLayout → Option Number
number_by number generator place row column (leaf_kind leaf) = leaf_number leaf (draws_of generator place row column)
number_by number generator place row column (lookup_kind via parent name) = in_parent number generator place row via parent name
number_by number generator place row column (sum_kind of) = sum_of (map (number place row) of)
number_by number generator place row column (product_kind of) = product_of (map (number place row) of)
number_by number generator place row column kind = None

-- the same of a column of any kind, None where it is null; it is looked for through so many columns
unfoldable pub number_in : ℕ → Generator → ℕ → Row → ℕ → Option Number
number_in zero generator place row column = None
number_in (suc n) generator place row column =
    unless_null (column_at (table_at generator.tables place).columns column).null (draws_of generator place row column)
    (number_by (number_in n generator) generator place row column (column_at (table_at generator.tables place).columns column).kind)

-- what it holds in a column of its own
abbrev pub number_shown : Generator → ℕ → Row → ℕ → Option Number
number_shown generator place row column = number_in (suc (columns_before place column)) generator place row column

-- the number that a column of this kind holds, where that isn't null by its own draw
abbrev pub number_of_kind : Generator → ℕ → Row → ℕ → KindLayout → Option Number
number_of_kind generator place row column kind =
    number_by (number_in (columns_before place column) generator) generator place row column kind
