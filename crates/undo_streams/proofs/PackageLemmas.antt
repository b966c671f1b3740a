-- The packages of an undo text, all together.
use Rattle.std.proofs.Common.{◌≡◌, ℕ, zero, suc, ◌+◌, ◌-◌, ◌*◌, ◌/◌, ◌<◌, ◌≤◌, ◌^◌, List, [], ◌∷◌, ◌++◌, length, min, take, drop, refl, ap, ap₂, arith, sym, ◌∙◌}
use Rattle.std.specs.List.{concat, flat_map, range_with_len}
use Rattle.std.proofs.Math.Nat.{add-mul, lt-div-mul-add, mul-le-mul_left, mul-le-mul_right}
use Rattle.std.proofs.Math.Seq.{take-add}
use Rattle.std.proofs.lemmas.List.{take_all}
use Rattle.std.proofs.lemmas.List.Folds.{concat-append}
use Rattle.cohort_sizes.specs.Births.{Births}
use Rattle.cohort_sizes.proofs.CohortLemmas.{cohort-within}
use Rattle.schema_facts.specs.Dictionaries.{Project}
use Rattle.schema_facts.specs.Layout.{layout_of}
use Rattle.schema_plan.specs.Limits.{IsInLimits}
use Rattle.schema_facts.specs.TableFacts.{reach}
use Rattle.schema_plan.proofs.PlannedLemmas.{max_line-reach}
use Rattle.life_intervals.specs.Generator.{last_unit, table_of}
use Rattle.life_intervals.proofs.CohortParentLemmas.{row_limit}
use Rattle.life_intervals.proofs.Ranges.{flat_map-range_with_len_more}
use Rattle.undo_streams.specs.Packages.{Packages, count_of, lines_in, most_bytes, room_of, text_numbered}
use Rattle.undo_streams.specs.UndoText.{undo_lines_of, undo_text}
use Rattle.undo_streams.proofs.ListLemmas.{package-fewer}
use Rattle.undo_streams.proofs.UndoLineLemmas.{changing-few, dying-few, lines-count}

-- the first packages are the first lines
first-packages : (lines : List (List ℕ)) (size n : ℕ) → flat_map (λ k. concat (take size (drop (k * size) lines))) (range_with_len 0 n) ≡ concat (take (n * size) lines)
first-packages lines size zero = let none : 0 * size ≡ 0 = omega arith in sym (ap (λ k. concat (take k lines)) none)
first-packages lines size (suc n) =
    let next : suc n ≡ n + 1 = omega arith in
    let more : suc n * size ≡ n * size + size = omega (arith, ap (λ k. k * size) next, add-mul n 1 size) in
    let made : ℕ → List ℕ = λ k. concat (take size (drop (k * size) lines)) in
    ap (λ k. flat_map made (range_with_len 0 k)) next
    ∙ flat_map-range_with_len_more made n
    ∙ ap (λ text. text ++ made n) (first-packages lines size n)
    ∙ sym (
    ap (λ k. concat (take k lines)) more ∙ ap concat (take-add (n * size) size lines)
    ∙ concat-append (take (n * size) lines) (take size (drop (n * size) lines)))

-- the last of them ends no earlier than the lines
packages-reach : (lines size : ℕ) → 1 ≤ size → lines ≤ (lines + (size - 1)) / size * size
packages-reach lines size some =
    let last : lines + (size - 1) < (lines + (size - 1)) / size * size + size = lt-div-mul-add some in omega (arith, last, some)

pub packages-whole : (packages : Packages) → 1 ≤ packages.size →
    flat_map (text_numbered packages) (range_with_len 0 (count_of packages)) ≡ undo_text packages.plan packages.unit packages.table
packages-whole packages some =
    first-packages (lines_in packages) packages.size (count_of packages)
    ∙ ap concat (take_all (count_of packages * packages.size) (lines_in packages) (packages-reach (length (lines_in packages)) packages.size some))

-- a line is no longer than a word, a place and the greatest line of any table
pub packages-room : (packages : Packages) → room_of packages ≤ packages.size * (26 + reach (layout_of packages.plan))
packages-room packages =
    let most : ℕ = most_bytes packages.plan packages.table in
    let all : ℕ = 26 + reach (layout_of packages.plan) in
    let few : min packages.size (length (lines_in packages)) ≤ packages.size = omega arith in
    let little : most ≤ all = omega (arith, max_line-reach (layout_of packages.plan) packages.table) in
    omega (arith, mul-le-mul_right most few, mul-le-mul_left packages.size little)

-- there are no more of them than lines, and of these no more than rows
pub packages-few : (packages : Packages) → IsInLimits packages.plan → packages.table < length packages.plan.schema.tables → 1 ≤ packages.unit → packages.unit ≤ last_unit packages.plan → 1 ≤ packages.size →
    count_of packages ≤ 2 ^ 42
packages-few packages limits there later reached some =
    let births : Births = (table_of packages.plan packages.table).births in
    omega (
      arith,
      package-fewer (length (lines_in packages)) packages.size some,
      lines-count packages.plan limits packages.table there packages.unit later reached,
      changing-few packages.plan packages.table packages.unit,
      dying-few packages.plan packages.table packages.unit,
      cohort-within births packages.unit (last_unit packages.plan) reached,
      row_limit packages.plan limits packages.table there,
    )
