-- What a line shows in its first columns, as later columns read it.
use Rattle.std.specs.Prelude.{◌≡◌, ◌<◌, ◌≤◌, ◌≤ℤ◌, ℕ, ℤ, pos, neg_ℤ, zero, suc, IfSome, List, Option, Some, None, codes, get_or, length, map, slice_set}
use Rattle.std.specs.List.{fold}
use Rattle.philox_seeds.specs.SeedTree.{draw}
use Rattle.row_text.specs.Fields.{field_text}
use Rattle.schema_facts.specs.declared.column_facts.ColumnFacts.{ColumnFacts}
use Rattle.schema_facts.specs.declared.numbers.Numbers.{Numbers}
use Rattle.schema_plan.specs.declared.ready.ReadyAfter.{ReadyAfter}
use Rattle.schema_plan.specs.declared.ready.ReadyKind.TheVariants.{Drawn}
use Rattle.schema_plan.specs.declared.ready.ReadyLeaf.{ReadyLeaf}
use Rattle.schema_facts.specs.Choices.{choices}
use Rattle.schema_facts.specs.FactsBefore.{facts_among}
use Rattle.schema_facts.specs.Layout.{after_kind}
use Rattle.schema_plan.specs.Limits.{IsAfterRange}
use Rattle.schema_facts.specs.Numbers as facts
use Rattle.schema_plan.specs.Ready.{ready_kind}
use Rattle.draw_values.specs.CohortValues.{IsDayOf, IsNumberOf}
use Rattle.draw_values.specs.Dates.{date_text}
use Rattle.draw_values.specs.declared.leaf_numbers.Number.{Number}
use Rattle.row_lines.specs.declared.derived.Join.{Join}
use Rattle.row_lines.specs.Totals.{join_of_facts, start_of_facts}
use Rattle.detail_lines.specs.declared.shown.Shown.{Shown}
use Rattle.detail_lines.specs.Lines.{column_of, draws_of_line, line_day_by, line_day_in, line_number_by, line_number_in, line_value}
use Rattle.detail_lines.specs.Made.{LineOver, delimiter_over, line_over}

-- there is a place for each column
pub record IsWide (shown : Shown) : Type 0 where
  pub days : length shown.days ≡ 32
  pub numbers : length shown.numbers ≡ 32

-- the days and the numbers of the first columns, as many as a count, and that they are within what the facts tell
pub record AreShown (line : LineOver) (count : ℕ) (shown : Shown) : Type 0 where
  pub days : length shown.days ≡ 32
  pub numbers : length shown.numbers ≡ 32
  pub each_day : (column n : ℕ) → column < count → column < n → get_or shown.days column None ≡ line_day_in n (line_over line) column
  pub each_number : (column n : ℕ) → column < count → column < n → get_or shown.numbers column None ≡ line_number_in n (line_over line) column
  pub days_within : (column : ℕ) → column < count → IfSome (get_or shown.days column None) (IsDayOf (facts_among line.over.kept.facts column).days)
  pub numbers_within : (column : ℕ) → column < count →
      IfSome (get_or shown.numbers column None) (IsNumberOf (facts_among line.over.kept.facts column).numbers)

-- what is shown, with a day and a number in the column at a place
pub record IsSet (before : Shown) (place : ℕ) (day : Option ℤ) (number : Option Number) (after : Shown) : Type 0 where
  pub days : after.days ≡ slice_set before.days place day
  pub numbers : after.numbers ≡ slice_set before.numbers place number

-- ---- a column that isn't null by its own draw

-- the seed from which it is drawn, where it is drawn
abbrev pub IsSeedAt : LineOver → ℕ → ℕ → Type 0
IsSeedAt line column seed =
    (leaf : ReadyLeaf) → ready_kind (delimiter_over line.over) (column_of (line_over line) column).kind ≡ Drawn leaf → draw seed ≡ draws_of_line (line_over line) column

-- the day that it shows, however far that is looked for through earlier columns
abbrev pub IsDayAt : LineOver → ℕ → Option ℤ → Type 0
IsDayAt line column day =
    ((n : ℕ) → column ≤ n →
    day ≡ line_day_by (line_day_in n (line_over line)) (line_over line) column (column_of (line_over line) column).kind)
    × IfSome day (IsDayOf (facts_among line.over.kept.facts column).days)

-- the number that it holds
abbrev pub IsNumberAt : LineOver → ℕ → Option Number → Type 0
IsNumberAt line column number =
    ((n : ℕ) → column ≤ n →
    number ≡ line_number_by (line_number_in n (line_over line)) (line_over line) column (column_of (line_over line) column).kind)
    × IfSome number (IsNumberOf (facts_among line.over.kept.facts column).numbers)

-- what is written for it, and how many bytes that takes at most
abbrev pub value_text : LineOver → ℕ → List ℕ
value_text line column =
    field_text (delimiter_over line.over) (line_value (line_over line) column (column_of (line_over line) column).kind)

-- the most bytes of a drawn number, by how many digits stand after its point
abbrev pub number_size : ℕ → ℕ
number_size zero = 20
number_size (suc digits) = 21

-- ---- dates after dates

-- the column at a place is that of dates after those of an earlier column
pub record IsAfterAt (line : LineOver) (column : ℕ) (after : ReadyAfter) : Type 0 where
  pub kind : (column_of (line_over line) column).kind ≡ after_kind after.of after.lo after.hi
  pub earlier : after.of < column
  pub range : IsAfterRange after.lo after.hi
  pub choices_are : after.choices ≡ choices after.lo after.hi 1

-- a day of the years 1 to 9999
pub record IsInCalendar (day : ℤ) : Type 0 where
  pub first_day : neg_ℤ (pos 719162) ≤ℤ day
  pub last_day : day ≤ℤ pos 2932896

-- what is written for a day, or where there is none
abbrev pub day_text : Option ℤ → List ℕ
day_text None = codes "\\N"
day_text (Some day) = date_text day

-- ---- totals

-- what the facts tell of the columns at some places
abbrev pub facts_for : List ColumnFacts → List ℕ → List (Option Numbers)
facts_for known of = map (λ column. (facts_among known column).numbers) of

-- the most digits after the point of any of them
abbrev pub digits_for : List ColumnFacts → List ℕ → ℕ
digits_for known of = facts.most_decimals (facts_for known of)

-- the column at a place is the total of earlier columns at some places, which are joined in some way
pub record IsLineTotal (line : LineOver) (column : ℕ) (of : List ℕ) (join : Join) : Type 0 where
  pub earlier : (i : ℕ) → i < length of → get_or of i 0 < column
  pub numbers : Numbers
  pub joined :
      fold (facts.with_operand (join_of_facts join)) (Some (start_of_facts join (digits_for line.over.kept.facts of))) (facts_for line.over.kept.facts of)
      ≡ Some numbers
  pub few : numbers.decimals ≤ 9
  pub facts_are : (facts_among line.over.kept.facts column).numbers ≡ Some numbers

-- its operands, each looked for through so many columns
abbrev pub operands_of : LineOver → ℕ → List ℕ → List (Option Number)
operands_of line n of = map (line_number_in n (line_over line)) of
