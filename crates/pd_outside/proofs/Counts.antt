-- What is told of failed calls, call after call.
use Rattle.std.proofs.Common.{◌≤◌, ℕ, Result, Ok, Err, inl, inr, refl, ap, arith, ◌∙◌}
use Rattle.pd_outside.specs.Faults.{CallMade, CallsMade, Counts, FailedAtLast, Rose, Unfailed, one_more}

-- what rose later rose since
pub Rose-earlier : (before mid now : ℕ) → before ≤ mid → Rose mid now → Rose before now
Rose-earlier before mid now le (inl rose) = inl (omega arith)
Rose-earlier before mid now le (inr last) = inr last

-- nothing was called
pub unfailed_same : (counts : Counts) → Unfailed counts counts
unfailed_same counts = record { never_falls = omega arith; failed = refl }

pub unfailed_then : (before mid now : Counts) → Unfailed before mid → Unfailed mid now → Unfailed before now
unfailed_then before mid now sofar next = record {
  never_falls = omega (arith, sofar.never_falls, next.never_falls);
  failed = next.failed ∙ sofar.failed;
}

pub failed_then : (before mid now : Counts) → Unfailed before mid → FailedAtLast mid now → FailedAtLast before now
failed_then before mid now sofar next = record {
  never_falls = omega (arith, sofar.never_falls, next.never_falls);
  rose = Rose-earlier before.faults mid.faults now.faults sofar.never_falls next.rose;
  failed = next.failed ∙ ap one_more sofar.failed;
  last = next.last;
}

-- one call more, which failed or not
pub unfailed_by : {T E : Type 0} (value : T) (before now : Counts) → CallMade {T = T} {E = E} (Ok value) before now → Unfailed before now
unfailed_by value before now made = record { never_falls = made.never_falls; failed = made.failed }

pub failed_by : {T E : Type 0} (fault : E) (before now : Counts) → CallMade {T = T} {E = E} (Err fault) before now → FailedAtLast before now
failed_by fault before now made = record {
  never_falls = made.never_falls;
  rose = made.cause;
  failed = made.failed;
  last = made.last;
}

-- some calls more
pub made_then : {T E : Type 0} (result : Result T E) (before mid now : Counts) → Unfailed before mid → CallsMade result mid now → CallsMade result before now
made_then (Ok value) before mid now sofar made = record { unfailed = unfailed_then before mid now sofar made.unfailed; failed = tt }
made_then (Err fault) before mid now sofar made = record { unfailed = tt; failed = failed_then before mid now sofar made.failed }

-- one call alone
pub made_by : {T E : Type 0} (result : Result T E) (before now : Counts) → CallMade result before now → CallsMade result before now
made_by (Ok value) before now made = record { unfailed = unfailed_by value before now made; failed = tt }
made_by (Err fault) before now made = record { unfailed = tt; failed = failed_by fault before now made }
