use Rattle.std.proofs.Common.{◌≡◌, ◌∙◌, ℤ, pos, negsuc, ℕ, ◌≤◌, ◌≤ℤ◌, w64, ap, arith}
use Rattle.std.proofs.lemmas.Int.{ints, to_z-of_z}
use Rattle.std.proofs.lemmas.Nat.{mul-le}
use Rattle.schema_facts.specs.Counts.{count}
use Rattle.schema_check.proofs.unit_date_rules.is_last_day.Goals as goal

count_within : (n : ℤ) (hi : ℕ) → n ≤ℤ pos hi → count n ≤ hi
count_within (pos n) hi h = omega (arith, ints, h)
count_within (negsuc n) hi h = omega arith

pub is_day_past-requires : goal.is_day_past-requires
is_day_past-requires c =
    let step : c.count.result ≡ count c.args.step = c.count.ensures ∙ ap count (to_z-of_z w64 c.args.step c.ranges.step) in
    let units : c.count-2.result ≡ count c.args.units = c.count-2.ensures ∙ ap count (to_z-of_z w64 c.args.units c.ranges.units) in
    mul-le c.count.result c.count-2.result 3660 10000
    (omega (arith, step, count_within c.args.step 3660 c.requires.step))
    (omega (arith, units, count_within c.args.units 10000 c.requires.units))
