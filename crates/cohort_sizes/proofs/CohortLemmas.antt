-- Cohorts: how they follow one on the other, and the one unit whose cohort has an ordinal.
use Rattle.std.proofs.Common.{◌≡◌, ℕ, zero, suc, ◌+◌, ◌-◌, ◌<◌, ◌≤◌, Bool, [], inl, inr, ap, arith, add-one, refl, subst, sym, ◌∙◌}
use Rattle.std.specs.Prelude.{if◌then◌else◌}
use Rattle.std.proofs.lemmas.Bool.{cases_lt, lt-ltb, le-ltb}
use Rattle.cohort_sizes.specs.Births.{Births, LiesIn, birth, born_count, cohort_size, first_ordinal, index_at}

pub born_count-next : (births : Births) (unit : ℕ) → born_count births unit ≡ first_ordinal births unit + cohort_size births unit
born_count-next births unit = ap (first_ordinal births) (add-one unit)

-- without rows and rates none are born
pub first_ordinal-none : (unit : ℕ) → first_ordinal (record { rows = 0; rates = [] }) unit ≡ 0
first_ordinal-none zero = refl
first_ordinal-none (suc zero) = refl
first_ordinal-none (suc (suc unit)) = omega (arith, first_ordinal-none (suc unit))

-- no fewer rows are born before a later unit
pub first_ordinal-le : (births : Births) (unit later : ℕ) → unit ≤ later → first_ordinal births unit ≤ first_ordinal births later
first_ordinal-le births zero later within = omega arith
first_ordinal-le births (suc unit) zero within = absurd (omega (arith, within))
first_ordinal-le births (suc unit) (suc later) within =
    elim (cases_lt unit later) [
      | inl before ↦ omega (arith, first_ordinal-le births (suc unit) later (omega (arith, before)))
      | inr at ↦
          let same : unit ≡ later = omega (arith, at, within) in
          subst (λ (u : ℕ). first_ordinal births (suc unit) ≤ first_ordinal births (suc u)) same (omega arith)
    ]

-- more rows are born by a later unit
pub born_count-le : (births : Births) (unit last : ℕ) → unit ≤ last → born_count births unit ≤ born_count births last
born_count-le births unit last within = first_ordinal-le births (unit + 1) (last + 1) (omega (arith, within))

-- the cohort of a unit ends before those of later units begin
pub cohort-within : (births : Births) (unit last : ℕ) → unit ≤ last → first_ordinal births unit + cohort_size births unit ≤ born_count births last
cohort-within births unit last within = omega (arith, born_count-next births unit, born_count-le births unit last within)

-- an index in a cohort is an ordinal that lies in it
pub LiesIn-index : (births : Births) (unit index : ℕ) → index < cohort_size births unit → LiesIn births unit (first_ordinal births unit + index)
LiesIn-index births unit index below = record { begun = omega arith; not_ended = omega arith }

-- the birth by a unit, where the units before have the ordinal and where they don't
pub birth-early : (births : Births) (unit ordinal : ℕ) → ordinal < born_count births unit → birth births (suc unit) ordinal ≡ birth births unit ordinal
unfolding birth
birth-early births unit ordinal early =
    ap (λ (test : Bool). if test then birth births unit ordinal else suc unit) (lt-ltb ordinal (born_count births unit) early)

pub birth-late : (births : Births) (unit ordinal : ℕ) → born_count births unit ≤ ordinal → birth births (suc unit) ordinal ≡ suc unit
unfolding birth
birth-late births unit ordinal late =
    ap (λ (test : Bool). if test then birth births unit ordinal else suc unit) (le-ltb ordinal (born_count births unit) late)

-- each ordinal that is born lies in the cohort of its birth
pub LiesIn-birth : (births : Births) (last ordinal : ℕ) → ordinal < born_count births last → (birth births last ordinal ≤ last) × LiesIn births (birth births last ordinal) ordinal
unfolding birth
LiesIn-birth births zero ordinal born = (omega arith, record { begun = omega arith; not_ended = born })
LiesIn-birth births (suc unit) ordinal born =
    elim (cases_lt ordinal (born_count births unit)) [
      | inl early ↦
          let before = LiesIn-birth births unit ordinal early in
          subst (λ (u : ℕ). (u ≤ suc unit) × LiesIn births u ordinal) (sym (birth-early births unit ordinal early)) (omega (arith, before.0), before.1)
      | inr late ↦
          let next : born_count births unit ≡ first_ordinal births (suc unit) = ap (first_ordinal births) (add-one unit) in
          subst (λ (u : ℕ). (u ≤ suc unit) × LiesIn births u ordinal) (sym (birth-late births unit ordinal late))
          (omega arith, record { begun = omega (arith, next, late); not_ended = omega (arith, born, born_count-next births (suc unit)) })
    ]

-- and in no other
pub birth-only : (births : Births) (last unit ordinal : ℕ) → unit ≤ last → LiesIn births unit ordinal → birth births last ordinal ≡ unit
unfolding birth
birth-only births zero unit ordinal within lies = omega arith
birth-only births (suc last) unit ordinal within lies =
    elim (cases_lt unit (suc last)) [
      | inl before ↦
          birth-early births last ordinal (omega (arith, lies.not_ended, cohort-within births unit last (omega arith)))
          ∙ birth-only births last unit ordinal (omega arith) lies
      | inr at ↦
          let same : unit ≡ suc last = omega arith in
          let begun : first_ordinal births (suc last) ≤ ordinal = subst (λ (u : ℕ). first_ordinal births u ≤ ordinal) same lies.begun in
          birth-late births last ordinal (omega (arith, begun, ap (first_ordinal births) (add-one last))) ∙ sym same
    ]

pub birth-first_ordinal : (births : Births) (last unit index : ℕ) → unit ≤ last → index < cohort_size births unit → birth births last (first_ordinal births unit + index) ≡ unit
birth-first_ordinal births last unit index within below = birth-only births last unit _ within (LiesIn-index births unit index below)

-- the cohort of a unit ends where that of a later one begins, or before
pub cohort-before : (births : Births) (unit later : ℕ) → unit < later → first_ordinal births unit + cohort_size births unit ≤ first_ordinal births later
cohort-before births unit later before =
    let next : (later - 1) + 1 ≡ later = omega arith in
    subst (λ (u : ℕ). first_ordinal births unit + cohort_size births unit ≤ first_ordinal births u) next (cohort-within births unit (later - 1) (omega arith))

-- the birth of an ordinal is the same, whatever the unit by which it is born
pub birth-later : (births : Births) (unit last ordinal : ℕ) → ordinal < born_count births unit → unit ≤ last → birth births last ordinal ≡ birth births unit ordinal
birth-later births unit last ordinal born within =
    let found = LiesIn-birth births unit ordinal born in
    birth-only births last (birth births unit ordinal) ordinal (omega (arith, found.0)) found.1

-- an ordinal that isn't born before a unit has its birth from it on
pub birth-from : (births : Births) (start last ordinal : ℕ) → ordinal < born_count births last → first_ordinal births start ≤ ordinal → start ≤ birth births last ordinal
birth-from births start last ordinal born from =
    let found = LiesIn-birth births last ordinal born in
    elim (cases_lt (birth births last ordinal) start) [
      | inl before ↦ absurd (omega (arith, found.1.not_ended, cohort-before births (birth births last ordinal) start before, from))
      | inr after ↦ after
    ]

-- one that is born before a unit has its birth before it
pub birth-before : (births : Births) (unit last ordinal : ℕ) → ordinal < born_count births last → ordinal < first_ordinal births unit → birth births last ordinal < unit
birth-before births unit last ordinal born before =
    let found = LiesIn-birth births last ordinal born in
    elim (cases_lt (birth births last ordinal) unit) [
      | inl is ↦ is
      | inr after ↦ elim (cases_lt unit (birth births last ordinal)) [
        | inl late ↦ absurd (omega (arith, found.1.begun, cohort-before births unit (birth births last ordinal) late, before))
        | inr at ↦
            let same : birth births last ordinal ≡ unit = omega (arith, after, at) in
            let begun : first_ordinal births unit ≤ ordinal = subst (λ (u : ℕ). first_ordinal births u ≤ ordinal) same found.1.begun in
            absurd (omega (arith, begun, before))
      ]
    ]

-- an ordinal has an index in the cohort of its birth
pub birth-le : (births : Births) (last ordinal : ℕ) → ordinal < born_count births last → birth births last ordinal ≤ last
birth-le births last ordinal born = (LiesIn-birth births last ordinal born).0

pub index_at-below : (births : Births) (last ordinal : ℕ) → ordinal < born_count births last → index_at births last ordinal < cohort_size births (birth births last ordinal)
index_at-below births last ordinal born =
    let lies = (LiesIn-birth births last ordinal born).1 in
    omega (arith, lies.begun, lies.not_ended)
