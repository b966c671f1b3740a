-- Which of some candidates a place chooses as a parent.
use Rattle.std.specs.Prelude.{ℕ, ◌+◌, ◌*◌, ◌/◌, ◌%◌, Bool, if◌then◌else◌, List, length, Some, None, sum}
use Rattle.id_permutation.specs.Order.{Arrangement, place_in}
use Rattle.weight_tables.specs.Weights.{selected}
use Rattle.schema_facts.specs.References.{Reference}

-- which of so many candidates a place chooses: each turn of the spread's weights goes once over as many candidates as it has
-- weights, and gives each as many places as its weight says
abbrev pub choice : List ℕ → ℕ → ℕ → ℕ
choice spread count place = (place / sum spread * length spread + selected spread (place % sum spread)) % count

-- the order in which so many candidates are dealt: that of the permutation that a seed gives where it is drawn, else their own
abbrev pub deal_of : Bool → ℕ → ℕ → Arrangement
deal_of drawn seed count = record { size = count; seed = if drawn then Some seed else None }

-- the number of the candidate that a place chooses by a reference: the one that is dealt in the turn that the spread chooses
abbrev pub dealt : Reference → ℕ → ℕ → ℕ → ℕ
dealt reference seed count place = place_in (deal_of reference.drawn seed count) (choice reference.spread count place)
