-- The days and the numbers of the rows of a cohort, and the totals that are made of them.
use Rattle.std.specs.Prelude.{◌≡◌, ◌<◌, ◌≤◌, ℕ, ℤ, pos, ◌-◌, ◌+ℤ◌, ◌*ℤ◌, Bool, true, false, codes, List, map, length, All, Option, Some, None, ⊤}
use Rattle.std.specs.List.{fold}
use Rattle.cohort_sizes.specs.Births.{cohort_size}
use Rattle.schema_facts.specs.declared.numbers.Numbers.{Numbers}
use Rattle.schema_plan.specs.declared.ready.ReadyLookup.{ReadyLookup}
use Rattle.schema_facts.specs.ColumnFacts.{field_facts}
use Rattle.schema_facts.specs.Layout.{KindLayout, after_kind, sum_kind, product_kind, layout_of}
use Rattle.schema_facts.specs.Numbers as facts
use Rattle.draw_values.specs.declared.leaf_numbers.Number.{Number}
use Rattle.draw_values.specs.Values.{number_text}
use Rattle.life_intervals.specs.CohortParents.{IsReferenceOf, reference_by}
use Rattle.life_intervals.specs.Generator.{generator_of}
use Rattle.schema_plan.specs.declared.ready.ReadyReference.{ReadyReference}
use Rattle.row_lines.specs.declared.derived.Join.{Join}
use Rattle.row_lines.specs.declared.derived.Join.TheVariants as join
use Rattle.row_lines.specs.declared.derived.ParentRow.{ParentRow}
use Rattle.row_lines.specs.CohortLines.{LinesOf, layout_for, ordinal_of, parent_for, row_changed, values_at}
use Rattle.row_lines.specs.Derived.{day_in, number_in, plus, times}

-- the day that the row with an index in the cohort, as one that changed last at a unit, shows in the column at a place, and the number that
-- it holds; each is looked for through so many columns
abbrev pub day_for : LinesOf → ℕ → ℕ → ℕ → ℕ → Option ℤ
day_for lines index changed n column = day_in n (generator_of lines.plan) lines.table (row_changed lines index changed) column

abbrev pub number_for : LinesOf → ℕ → ℕ → ℕ → ℕ → Option Number
number_for lines index changed n column = number_in n (generator_of lines.plan) lines.table (row_changed lines index changed) column

-- the numbers in the columns at some places
abbrev pub operands_for : LinesOf → ℕ → ℕ → ℕ → List ℕ → List (Option Number)
operands_for lines index changed n of = map (number_for lines index changed n) of

-- what the facts tell of these columns, and the most digits after the point of any of them
abbrev pub facts_for : LinesOf → List ℕ → List (Option Numbers)
facts_for lines of = map (λ column. (field_facts (layout_of lines.plan) lines.table column).numbers) of

abbrev pub digits_for : LinesOf → List ℕ → ℕ
digits_for lines of = facts.most_decimals (facts_for lines of)

-- a kind of dates after dates, and one of sums or products
abbrev pub IsDated : KindLayout → Type 0
IsDated (after_kind of lo hi) = ⊤
IsDated _ = ⊥

abbrev pub is_total : KindLayout → Bool
is_total (sum_kind of) = true
is_total (product_kind of) = true
is_total _ = false

-- a sum or a product of the columns at some places
abbrev pub total_kind : Join → List ℕ → KindLayout
total_kind join.Sum of = sum_kind of
total_kind join.Product of = product_kind of

-- what is written for one, by its number
abbrev pub total_text : Option Number → List ℕ
total_text None = codes "\\N"
total_text (Some number) = number_text number

-- ---- how operands are joined

abbrev pub join_of : Join → Number → Number → Number
join_of join.Sum = plus
join_of join.Product = times

-- an operand as it is joined: in a sum it takes the digits of that
abbrev pub joined_operand : Join → Number → Number → ℤ
joined_operand join.Sum so_far operand = facts.scaled (so_far.decimals - operand.decimals) operand.value
joined_operand join.Product so_far operand = operand.value

-- the same of their values, where the operand takes so many more digits in a sum
abbrev pub operand_by : Join → ℕ → ℤ → ℤ
operand_by join.Sum more operand = facts.scaled more operand
operand_by join.Product more operand = operand

abbrev pub joined_by : Join → ℕ → ℤ → ℤ → ℤ
joined_by join.Sum more so_far operand = so_far +ℤ facts.scaled more operand
joined_by join.Product more so_far operand = so_far *ℤ operand

-- from which number they are joined, by the most digits of any operand
abbrev pub start_of : Join → ℕ → Number
start_of join.Sum digits = record { value = pos 0; decimals = digits }
start_of join.Product digits = record { value = pos 1; decimals = 0 }

-- the same of what facts tell
abbrev pub join_of_facts : Join → Numbers → Numbers → Option Numbers
join_of_facts join.Sum = facts.plus
join_of_facts join.Product = facts.times

abbrev pub start_of_facts : Join → ℕ → Numbers
start_of_facts join.Sum digits = facts.start_from digits (pos 0)
start_of_facts join.Product digits = facts.start_from 0 (pos 1)

-- the column at a place is the total of earlier columns at some places, which are joined in some way
pub record IsTotalOf (lines : LinesOf) (column : ℕ) (of : List ℕ) (join : Join) : Type 0 where
  pub within : column < length (layout_for lines).columns
  pub earlier : All (λ place. place < column) of
  pub numbers : Numbers
  pub joined : fold (facts.with_operand (join_of_facts join)) (Some (start_of_facts join (digits_for lines of))) (facts_for lines of) ≡ Some numbers
  pub few : numbers.decimals ≤ 9
  pub facts_are : (field_facts (layout_of lines.plan) lines.table column).numbers ≡ Some numbers

-- ---- the parent's row

-- the row that a lookup shows of the row with an index in the cohort: that of the parent by the lookup's reference, as it was born
pub record IsParentOf (lines : LinesOf) (index : ℕ) (lookup : ReadyLookup) (parent : ParentRow) : Type 0 where
  pub fields : parent.fields ≡ record { plan = lines.plan; table = lookup.parent; born = parent.fields.born; unit = lines.unit }
  pub values : parent.values ≡ values_at parent.fields parent.fields.born
  pub inside : parent.index < cohort_size (layout_for parent.fields).births parent.fields.born
  pub ordinal : (reference : ReadyReference) → IsReferenceOf lines.plan lines.table lookup.via reference →
      ordinal_of parent.fields parent.index ≡ parent_for lines index (reference_by lookup.via reference)
