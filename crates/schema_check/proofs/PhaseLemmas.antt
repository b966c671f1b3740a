-- Phases of births that pass the tests of their rule.
use Rattle.std.proofs.Common.{◌≡◌, ℤ, pos, negsuc, ◌<◌, true, ◌&&◌, List, [], ◌∷◌, length, map, nat_le, int_le, refl, arith}
use Rattle.std.specs.Prelude.{int_lt}
use Rattle.std.specs.Ordering.{int_eq}
use Rattle.std.proofs.lemmas.Bool.{and_parts, le-leb, ltb-true}
use Rattle.schema_model.specs.declared.table.Phase.{Phase}
use Rattle.cohort_sizes.specs.Rates.{AreRates, RiseFrom}
use Rattle.schema_facts.specs.Counts.{count}
use Rattle.schema_facts.specs.Layout.{rate_of}
use Rattle.schema_plan.specs.Rules.{are_phases, do_phases_rise}

-- a number past one that isn't below 0 counts more
count_past : (a b : ℤ) → int_le (pos 0) a ≡ true → int_lt a b ≡ true → count a < count b
count_past (pos m) (pos n) from past = ltb-true m n past
count_past (pos m) (negsuc n) from past = cc
count_past (negsuc m) b from past = cc

not_below : (a b : ℤ) → int_le (pos 0) a ≡ true → int_lt a b ≡ true → int_le (pos 0) b ≡ true
not_below (pos m) (pos n) from past = le-leb 0 n (omega arith)
not_below (pos m) (negsuc n) from past = cc
not_below (negsuc m) b from past = cc

one_counts : (n : ℤ) → int_eq n (pos 1) ≡ true → count n ≡ 1
one_counts (pos n) h = grind (arith, h)
one_counts (negsuc n) h = cc

rates_rise : (unit : ℤ) (phases : List Phase) → int_le (pos 0) unit ≡ true → do_phases_rise unit phases ≡ true → RiseFrom (count unit) (map rate_of phases)
rates_rise unit [] from rise = tt
rates_rise unit (phase ∷ phases) from rise =
    let parts = and_parts (int_lt unit phase.from && int_le phase.from (pos 10000) && int_le (pos 0) phase.rate) (do_phases_rise phase.from phases) rise in
    let begins = and_parts (int_lt unit phase.from && int_le phase.from (pos 10000)) (int_le (pos 0) phase.rate) parts.0 in
    let past = (and_parts (int_lt unit phase.from) (int_le phase.from (pos 10000)) begins.0).0 in
    (count_past unit phase.from from past, rates_rise phase.from phases (not_below unit phase.from from past) parts.1)

-- they are rates one after the other
pub rates_from_phases : (phases : List Phase) → are_phases phases ≡ true → AreRates (map rate_of phases)
rates_from_phases [] are = cc
rates_from_phases (phase ∷ phases) are =
    let parts = and_parts (int_eq phase.from (pos 1) && nat_le (length phases) 63) (do_phases_rise (pos 0) (phase ∷ phases)) are in
    let first = (and_parts (int_eq phase.from (pos 1)) (nat_le (length phases) 63) parts.0).0 in
    (one_counts phase.from first, (rates_rise (pos 0) (phase ∷ phases) refl parts.1).1)
