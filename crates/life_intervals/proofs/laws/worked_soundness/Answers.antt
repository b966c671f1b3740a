use Rattle.std.proofs.Common.{◌≡◌, ℕ, zero, suc, ◌+◌, ◌-◌, ◌<◌, All, [], ◌∷◌, arith, refl}
use Rattle.cohort_sizes.specs.Births.{Births, born_count, first_ordinal}
use Rattle.schema_facts.specs.Lineage.{lineages}
use Rattle.life_intervals.specs.Sound.{IsSoundReference}
use Rattle.cohort_sizes.proofs.StretchLemmas.{first_ordinal-one_rate}
use Rattle.life_intervals.specs.Worked.{sales_in_place, talks_in_place}
use Rattle.life_intervals.proofs.laws.worked_soundness.Goals as goal

-- one row at each unit
abbrev ones : Births
ones = record { rows = 1; rates = record { from = 1; rows = 1 } ∷ [] }

-- as many are born before a unit as its number says
first_ordinal-ones : (unit : ℕ) → first_ordinal ones unit ≡ unit
first_ordinal-ones zero = refl
first_ordinal-ones (suc unit) = omega (arith, first_ordinal-one_rate 1 1 unit)

some_in_window : (units unit : ℕ) → first_ordinal ones (unit - units) < born_count ones unit
some_in_window units unit = omega (arith, first_ordinal-ones (unit - units), first_ordinal-ones (unit + 1))

all-one : {X : Type 0} (P : X → Type 0) (x : X) → P x → All P (x ∷ [])
all-one P x here zero d below = here
all-one P x here (suc k) d below = absurd (omega (arith, below))

pub returns-clause-sales : goal.returns-clause-sales
unfolding lineages
returns-clause-sales c zero below = record { life = record { some_unit = omega arith; ordered = omega arith }; period = omega arith; references = λ k d none. absurd (omega (arith, none)) }
returns-clause-sales c (suc zero) below = record {
  life = record { some_unit = omega arith; ordered = omega arith };
  period = tt;
  references = all-one (IsSoundReference 5 sales_in_place.tables 1) _ (record { earlier = omega arith; within_life = omega arith; some_parent = λ unit within some. some_in_window 2 unit });
}
returns-clause-sales c (suc (suc zero)) below = record {
  life = tt;
  period = tt;
  references = all-one (IsSoundReference 5 sales_in_place.tables 2) _ (record { earlier = omega arith; within_life = omega arith; some_parent = λ unit within some. some_in_window 0 unit });
}
returns-clause-sales c (suc (suc (suc place))) below = absurd (omega (arith, below))

pub returns-clause-talks : goal.returns-clause-talks
unfolding lineages
returns-clause-talks c zero below = record { life = record { some_unit = omega arith; ordered = omega arith }; period = omega arith; references = λ k d none. absurd (omega (arith, none)) }
returns-clause-talks c (suc zero) below = record {
  life = tt;
  period = tt;
  references = all-one (IsSoundReference 5 talks_in_place.tables 1) _ (record { earlier = omega arith; within_life = omega arith; some_parent = λ unit within some. some_in_window 2 unit });
}
returns-clause-talks c (suc (suc place)) below = absurd (omega (arith, below))
