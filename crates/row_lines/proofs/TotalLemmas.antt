-- Sums and products of the rows of a cohort.
use Rattle.std.proofs.Common.{◌≡◌, ◌<◌, ◌≤◌, ℕ, List, get_or, length, Option, Some, None, subst, sym}
use Rattle.std.specs.List.{fold}
use Rattle.schema_facts.specs.declared.numbers.Numbers.{Numbers}
use Rattle.schema_facts.specs.ColumnFacts.{field_facts}
use Rattle.schema_facts.specs.FieldSizes.{greatest_by}
use Rattle.schema_facts.specs.Layout.{layout_of}
use Rattle.draw_values.specs.declared.leaf_numbers.Number.{Number}
use Rattle.draw_values.specs.CohortValues.{IsNumberOf}
use Rattle.row_lines.specs.declared.derived.Join.{Join}
use Rattle.row_lines.specs.CohortLines.{LinesOf}
use Rattle.row_lines.specs.Derived.{columns_before, decimals_of, with_operand}
use Rattle.row_lines.specs.Totals.{IsTotalOf, digits_for, join_of, number_for, operands_for, start_of}
use Rattle.row_lines.proofs.OperandLemmas.{AreJoined, IsNextJoined, joined-all, joined-lost, joined-more, joined-none}

-- what facts tell of the column at a place
abbrev pub numbers_at : LinesOf → ℕ → Option Numbers
numbers_at lines column = (field_facts (layout_of lines.plan) lines.table column).numbers

-- the first operands come to a number
abbrev pub IsSoFar : LinesOf → ℕ → ℕ → ℕ → List ℕ → Join → ℕ → Number → Type 0
IsSoFar lines index changed column of way i total =
    AreJoined (numbers_at lines) (number_for lines index changed) (columns_before lines.table column) of way i total

abbrev pub IsNext : LinesOf → ℕ → ℕ → ℕ → List ℕ → Join → ℕ → Number → Number → Type 0
IsNext lines index changed column of way i total operand =
    IsNextJoined (numbers_at lines) (number_for lines index changed) (columns_before lines.table column) of way i total operand

pub so_far-none : (lines : LinesOf) (index changed column : ℕ) (of : List ℕ) (way : Join) → IsSoFar lines index changed column of way 0 (start_of way (digits_for lines of))
so_far-none lines index changed column of way = joined-none (numbers_at lines) (number_for lines index changed) (columns_before lines.table column) of way

-- with one more
pub so_far-more : (lines : LinesOf) (index changed column : ℕ) (of : List ℕ) (way : Join) (i : ℕ) (total operand : Number) → IsTotalOf lines column of way → i < length of → IsSoFar lines index changed column of way i total →
    ((n : ℕ) → columns_before lines.table column ≤ n → Some operand ≡ number_for lines index changed n (get_or of i 0)) → IsNumberOf (numbers_at lines (get_or of i 0)) operand →
    IsNext lines index changed column of way i total operand
so_far-more lines index changed column of way i total operand is within so_far found held =
    joined-more (numbers_at lines) (number_for lines index changed) (columns_before lines.table column) of way is.numbers i total operand is.joined within so_far found held

-- the operands all together
pub so_far-all : (lines : LinesOf) (index changed column : ℕ) (of : List ℕ) (way : Join) (i : ℕ) (total : Number) → IsTotalOf lines column of way → length of ≤ i → IsSoFar lines index changed column of way i total →
    ((n : ℕ) → columns_before lines.table column ≤ n → Some total ≡ fold (with_operand (join_of way)) (Some (start_of way (digits_for lines of))) (operands_for lines index changed n of))
    × ((n : ℕ) → columns_before lines.table column ≤ n → greatest_by decimals_of (operands_for lines index changed n of) ≡ digits_for lines of)
    × IsNumberOf (numbers_at lines column) total
so_far-all lines index changed column of way i total is past so_far =
    let all = joined-all (numbers_at lines) (number_for lines index changed) (columns_before lines.table column) of way is.numbers i total is.joined past so_far in
    (all.0, all.1, subst (λ (told : Option Numbers). IsNumberOf told total) (sym is.facts_are) all.2)

-- a null operand leaves nothing
pub so_far-lost : (lines : LinesOf) (index changed n : ℕ) (of : List ℕ) (way : Join) (i : ℕ) (start : Option Number) → i < length of → None ≡ number_for lines index changed n (get_or of i 0) →
    None ≡ fold (with_operand (join_of way)) start (operands_for lines index changed n of)
so_far-lost lines index changed n of way i start within null = joined-lost (number_for lines index changed) n of way i start within null
