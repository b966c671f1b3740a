-- Packages as the code makes them.
use Rattle.std.proofs.Common.{◌≡◌, ◌<◌, ◌≤◌, ℕ, ◌+◌, ◌-◌, ◌^◌, List, [], ◌∷◌, ◌++◌, length, drop, length-append, take, refl, ap, ap₂, sym, ◌∙◌, arith, inl, inr}
use Rattle.std.proofs.lemmas.List.{length-drop, length-take}
use Rattle.std.proofs.lemmas.Bool.{cases_lt, le-leb}
use Rattle.cohort_sizes.proofs.CohortLemmas.{born_count-le}
use Rattle.schema_facts.specs.Dictionaries.{Project}
use Rattle.schema_plan.specs.Limits.{IsTableInLimits}
use Rattle.life_intervals.specs.Generator.{last_unit, table_of}
use Rattle.row_lines.specs.Runs.{RunLinesOf, line_for, listed_text, living_from, run_text}
use Rattle.row_lines.proofs.RunTextLemmas.{living_from-more}
use Rattle.sql_lines.specs.Packages.{AreBorn}
use Rattle.sql_lines.specs.Statements.{column_count, update, update_of, updates_of}
use Rattle.sql_lines.proofs.RowLemmas.{line-some}

-- ---- rows before which none is alive

no-lines : (lines : RunLinesOf) (ordinals : List ℕ) → listed_text lines ordinals ≡ [] → ordinals ≡ []
no-lines lines [] none = refl
no-lines lines (ordinal ∷ ordinals) none =
    absurd (omega (arith, ap (λ (bytes : List ℕ). length bytes) none, length-append (line_for lines ordinal) (listed_text lines ordinals), line-some lines ordinal))

no-middle : (a b c : List ℕ) → a ++ (b ++ c) ≡ [] → b ≡ []
no-middle [] [] c none = refl
no-middle [] (x ∷ b) c none = absurd (cc)
no-middle (x ∷ a) b c none = absurd (cc)

-- those from a first one on are those from a later one on, if none before that one is alive
pub living-begun : (lines : RunLinesOf) (first end begin living : ℕ) → first ≤ begin → begin ≤ end → (first < begin → begin ≤ living) → run_text lines 0 living ≡ [] →
    living_from lines first (end - first) ≡ living_from lines begin (end - begin)
living-begun lines first end begin living begun within passed none =
    let all : end - first ≡ begin - first + (end - begin) = omega (arith, begun, within) in
    let start : first + (begin - first) ≡ begin = omega (arith, begun) in
    ap (living_from lines first) all
    ∙ living_from-more lines first (begin - first) (end - begin)
    ∙ ap₂ (λ (before : List ℕ) (from : ℕ). before ++ living_from lines from (end - begin)) nothing start
  where
    nothing : living_from lines first (begin - first) ≡ []
    nothing = elim (cases_lt first begin) [
      | inl later ↦
          let before : living ≡ first + (begin - first + (living - begin)) = omega (arith, later, passed later) in
          let from : 0 + first ≡ first = omega arith in
          no-middle (living_from lines 0 first) (living_from lines first (begin - first)) (living_from lines (first + (begin - first)) (living - begin))
          (ap (λ (rows : List ℕ). living_from lines 0 first ++ rows) (sym (living_from-more lines first (begin - first) (living - begin)))
          ∙ ap (λ (a : ℕ). living_from lines 0 first ++ living_from lines a (begin - first + (living - begin))) (sym from)
          ∙ sym (living_from-more lines 0 first (begin - first + (living - begin)))
          ∙ ap (living_from lines 0) (sym before)
          ∙ no-lines lines (living_from lines 0 living) none)
      | inr same ↦ let zero_rows : begin - first ≡ 0 = omega (arith, same) in ap (living_from lines first) zero_rows
    ]

-- ---- a table that has only its key has no updates

no-update : (plan : Project) (unit place ordinal : ℕ) → column_count plan place ≤ 1 → update_of plan unit place ordinal ≡ []
unfolding update
no-update plan unit place ordinal alone = rw (le-leb (column_count plan place) 1 alone) refl

pub no-updates : (plan : Project) (unit place : ℕ) (ordinals : List ℕ) → column_count plan place ≤ 1 → updates_of plan unit place ordinals ≡ []
no-updates plan unit place [] alone = refl
no-updates plan unit place (ordinal ∷ ordinals) alone = ap₂ (λ (one others : List ℕ). one ++ others) (no-update plan unit place ordinal alone) (no-updates plan unit place ordinals alone)

-- ---- there are no more rows than a table has

pub born-few : (plan : Project) (table from to unit : ℕ) → IsTableInLimits (last_unit plan) (table_of plan table) → AreBorn plan table from to unit → to ≤ 2 ^ 40
born-few plan table from to unit limits rows =
    omega (arith, rows.born, born_count-le (table_of plan table).births unit (last_unit plan) rows.reached, limits.births.row_limit)

-- a part of a list has no more than the list
pub part-few : (xs : List ℕ) (first end : ℕ) → length (take (end - first) (drop first xs)) ≤ length xs
part-few xs first end = omega (arith, length-take (end - first) (drop first xs), length-drop first xs)
