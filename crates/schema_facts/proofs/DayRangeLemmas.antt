-- Days within the ends that facts tell: so many days later they are within the next ends, and in the calendar.
use Rattle.std.proofs.Common.{◌≡◌, ℤ, pos, neg_ℤ, ◌+ℤ◌, ◌≤ℤ◌, ◌&&◌, Bool, true, false, cond, int_le, Option, Some, None, refl, sym, ap, subst, arith}
use Rattle.std.specs.Option.{unwrap_or}
use Rattle.std.proofs.lemmas.Bool.{and_parts}
use Rattle.std.proofs.lemmas.Float.{T_from_true}
use Rattle.std.proofs.lemmas.Int.{ints}
use Rattle.std.specs.Int.Signed.{le_z_yes}
use Rattle.schema_facts.specs.declared.days.Days.{Days}
use Rattle.schema_facts.specs.Days.{days_between, days_in, in_calendar}
use Rattle.schema_facts.specs.Ends.{FollowsWithin, IsInCalendar}

in_calendar-parts : (day n : ℤ) → in_calendar day ≡ Some n → (day ≡ n) × IsInCalendar day
in_calendar-parts day n h = of_test (int_le (neg_ℤ (pos 719162)) day && int_le day (pos 2932896)) refl h
  where
    of_test : (test : Bool) → (int_le (neg_ℤ (pos 719162)) day && int_le day (pos 2932896)) ≡ test → cond test (Some day) None ≡ Some n → (day ≡ n) × IsInCalendar day
    of_test true is h =
        let parts = and_parts (int_le (neg_ℤ (pos 719162)) day) (int_le day (pos 2932896)) is in (
          ap (λ (o : Option ℤ). unwrap_or o day) h,
          record { from = le_z_yes (T_from_true _ parts.0); to = le_z_yes (T_from_true _ parts.1) },
        )
    of_test false is h = absurd (cc)

-- the ends of some days
days_in-parts : (least greatest : Option ℤ) (days : Days) → days_in least greatest ≡ Some days → (least ≡ Some days.least) × (greatest ≡ Some days.greatest)
days_in-parts None greatest days h = absurd (cc)
days_in-parts (Some least) None days h = absurd (cc)
days_in-parts (Some least) (Some greatest) days h = of_test (int_le least greatest) h
  where
    made : Days
    made = record { least = least; greatest = greatest }

    of_test : (test : Bool) → cond test (Some made) None ≡ Some days → (Some least ≡ Some days.least) × (Some greatest ≡ Some days.greatest)
    of_test true h = (ap (λ (o : Option Days). Some (unwrap_or o days).least) h, ap (λ (o : Option Days). Some (unwrap_or o days).greatest) h)
    of_test false h = absurd (cc)

-- the days between two ends begin and end there, and are in the calendar
pub days_between-parts : (least greatest : ℤ) (days : Days) → days_between least greatest ≡ Some days → (days.least ≡ least) × (days.greatest ≡ greatest) × IsInCalendar least × IsInCalendar greatest
days_between-parts least greatest days h =
    let parts = days_in-parts (in_calendar least) (in_calendar greatest) days h in
    let first = in_calendar-parts least days.least parts.0 in
    let last = in_calendar-parts greatest days.greatest parts.1 in
    (sym first.0, sym last.0, first.1, last.1)

-- from lo to hi days later
pub later-within : (days later : Days) (lo hi : ℤ) → FollowsWithin days lo hi later
later-within days later lo hi h day by p q =
    let parts = days_between-parts (days.least +ℤ lo) (days.greatest +ℤ hi) later h in
    let from : (days.least +ℤ lo) ≤ℤ (day +ℤ by) = omega (arith, ints, p.from, q.from) in
    let to : (day +ℤ by) ≤ℤ (days.greatest +ℤ hi) = omega (arith, ints, p.to, q.to) in (
      record { from = subst (λ n. n ≤ℤ (day +ℤ by)) (sym parts.0) from; to = subst (λ n. (day +ℤ by) ≤ℤ n) (sym parts.1) to },
      record { from = omega (arith, ints, parts.2.from, from); to = omega (arith, ints, parts.3.to, to) },
    )
