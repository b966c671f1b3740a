-- The rows that are born before a unit, cohort by cohort.
use Rattle.std.proofs.Common.{◌≡◌, ℕ, ◌+◌, ◌-◌, ◌*◌, ◌<◌, ◌≤◌, Bool, true, false, List, [], ◌++◌, length, filter, length-append, inl, inr, arith, refl, ap, subst, sym, ◌∙◌}
use Rattle.std.specs.List.{range_with_len}
use Rattle.std.proofs.lemmas.Bool.{cases_lt}
use Rattle.std.proofs.lemmas.List.Elements.{filter-append}
use Rattle.cohort_sizes.specs.Births.{Births, birth, born_count, cohort_size, first_ordinal}
use Rattle.cohort_sizes.proofs.CohortLemmas.{birth-first_ordinal, born_count-next, first_ordinal-le}
use Rattle.schema_facts.specs.Lineage.{one_if}
use Rattle.life_intervals.proofs.Ranges.{range_with_len-add}
use Rattle.life_intervals.specs.FoundAt.{AreAppended}
use Rattle.life_intervals.proofs.AppendLemmas.{AreAppended-more, AreAppended-none}
use Rattle.update_box.proofs.RangeLemmas.{filter-range_same}

-- those of one unit more
pub filter-born_next : (p : ℕ → Bool) (births : Births) (unit : ℕ) →
    filter p (range_with_len 0 (first_ordinal births (unit + 1)))
    ≡ filter p (range_with_len 0 (first_ordinal births unit)) ++ filter p (range_with_len (first_ordinal births unit) (cohort_size births unit))
filter-born_next p births unit =
    let first : ℕ = first_ordinal births unit in
    let start : 0 + first ≡ first = omega arith in
    ap (λ (n : ℕ). filter p (range_with_len 0 n)) (born_count-next births unit)
    ∙ ap (filter p) (range_with_len-add 0 first (cohort_size births unit) ∙ ap (λ (a : ℕ). range_with_len 0 first ++ range_with_len a (cohort_size births unit)) start)
    ∙ filter-append p (range_with_len 0 first) (range_with_len first (cohort_size births unit))

-- no more pass a test that are born before a unit than before a later one
pub length-born_le : (p : ℕ → Bool) (births : Births) (unit later : ℕ) → unit ≤ later →
    length (filter p (range_with_len 0 (first_ordinal births unit))) ≤ length (filter p (range_with_len 0 (first_ordinal births later)))
length-born_le p births unit later before =
    let m : ℕ = first_ordinal births unit in
    let n : ℕ = first_ordinal births later in
    let whole : n ≡ m + (n - m) = omega (arith, first_ordinal-le births unit later before) in
    omega (
      arith,
      ap (λ (k : ℕ). length (filter p (range_with_len 0 k))) whole,
      ap length (ap (filter p) (range_with_len-add 0 m (n - m)) ∙ filter-append p (range_with_len 0 m) (range_with_len (0 + m) (n - m))),
      length-append (filter p (range_with_len 0 m)) (filter p (range_with_len (0 + m) (n - m))),
    )

-- two tests of a cohort that agree at each row that is born in it
pub filter-cohort_same : (p q : ℕ → Bool) (births : Births) (unit last : ℕ) → unit ≤ last →
    ((ordinal : ℕ) → first_ordinal births unit ≤ ordinal → ordinal < first_ordinal births unit + cohort_size births unit → birth births last ordinal ≡ unit → p ordinal ≡ q ordinal) →
    filter p (range_with_len (first_ordinal births unit) (cohort_size births unit)) ≡ filter q (range_with_len (first_ordinal births unit) (cohort_size births unit))
filter-cohort_same p q births unit last within same =
    filter-range_same p q (first_ordinal births unit) (cohort_size births unit) (λ ordinal low high.
    let at : ordinal ≡ first_ordinal births unit + (ordinal - first_ordinal births unit) = omega (arith, low) in
    same ordinal low high (ap (birth births last) at ∙ birth-first_ordinal births last unit (ordinal - first_ordinal births unit) within (omega (arith, low, high))))

-- a number that counts or doesn't is no more than the number
pub times-one_if : (n : ℕ) (test : Bool) → n * one_if test ≤ n
times-one_if n true = omega arith
times-one_if n false = omega arith

-- ---- a search, cohort by cohort

-- of the rows that are born before a unit those that pass a test stand after a list, and no more steps have been taken than they are
pub record IsFoundBefore (test : ℕ → Bool) (births : Births) (unit : ℕ) (before after : List ℕ) (from to : ℕ) : Type 0 where
  pub rows : AreAppended (filter test (range_with_len 0 (first_ordinal births unit))) before after
  pub steps : to ≤ from + length (filter test (range_with_len 0 (first_ordinal births unit)))

-- those of a cohort
abbrev pub of_cohort : (ℕ → Bool) → Births → ℕ → List ℕ
of_cohort test births unit = filter test (range_with_len (first_ordinal births unit) (cohort_size births unit))

pub found-none : (test : ℕ → Bool) (births : Births) (before : List ℕ) (from : ℕ) → IsFoundBefore test births 0 before before from from
found-none test births before from = record { rows = AreAppended-none [] before refl; steps = omega arith }

pub found-next : (test : ℕ → Bool) (births : Births) (unit : ℕ) (before between after : List ℕ) (from mid to : ℕ) → IsFoundBefore test births unit before between from mid →
    AreAppended (of_cohort test births unit) between after → to ≤ mid + length (of_cohort test births unit) → IsFoundBefore test births (unit + 1) before after from to
found-next test births unit before between after from mid to so_far more steps =
    let first : List ℕ = filter test (range_with_len 0 (first_ordinal births unit)) in
    let next = filter-born_next test births unit in
    record {
      rows = subst (λ (rows : List ℕ). AreAppended rows before after) (sym next) (AreAppended-more first (of_cohort test births unit) before between after so_far.rows more);
      steps = omega (arith, so_far.steps, steps, ap length next, length-append first (of_cohort test births unit));
    }

-- a higher bound leaves room for as many steps more
pub found-more_steps : (test : ℕ → Bool) (births : Births) (unit : ℕ) (before after : List ℕ) (from to most taken : ℕ) → IsFoundBefore test births unit before after from to → taken + from ≤ most + to →
    IsFoundBefore test births unit before after most taken
found-more_steps test births unit before after from to most taken so_far more = record { rows = so_far.rows; steps = omega (arith, so_far.steps, more) }

-- the steps of a cohort, whose rows may not be found, are within those of all
pub found-within : (test : ℕ → Bool) (births : Births) (unit last : ℕ) (before between : List ℕ) (from mid to : ℕ) → unit < last → IsFoundBefore test births unit before between from mid →
    to ≤ mid + length (of_cohort test births unit) → to ≤ from + length (filter test (range_with_len 0 (first_ordinal births last)))
found-within test births unit last before between from mid to early so_far steps =
    omega (
      arith,
      so_far.steps,
      steps,
      ap length (filter-born_next test births unit),
      length-append (filter test (range_with_len 0 (first_ordinal births unit))) (of_cohort test births unit),
      length-born_le test births (unit + 1) last (omega (arith, early)),
    )

-- where the last cohort is passed all are found
pub found-all : (test : ℕ → Bool) (births : Births) (unit last : ℕ) (before after : List ℕ) (from to : ℕ) → unit ≡ last → IsFoundBefore test births unit before after from to → IsFoundBefore test births last before after from to
found-all test births unit last before after from to is found = subst (λ (u : ℕ). IsFoundBefore test births u before after from to) is found

-- ---- a row that is born before a unit

pub born-by : (births : Births) (unit last ordinal : ℕ) → unit ≤ last → ordinal < first_ordinal births unit → ordinal < born_count births last
born-by births unit last ordinal within born = omega (arith, born, first_ordinal-le births unit (last + 1) (omega (arith, within)))

-- its cohort comes before the unit
pub born-early : (births : Births) (born unit ordinal : ℕ) → first_ordinal births born ≤ ordinal → ordinal < first_ordinal births unit → born < unit
born-early births born unit ordinal begun before = elim (cases_lt born unit) [
  | inl early ↦ early
  | inr late ↦ absurd (omega (arith, begun, before, first_ordinal-le births unit born late))
]
