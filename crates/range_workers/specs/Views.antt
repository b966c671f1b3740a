-- What a seat of a claim table knows, and what its calls make of it.
use Rattle.std.specs.Prelude.{◌≡◌, ◌+◌, ◌-◌, ◌^◌, ◌<◌, ◌≤◌, ℕ, Bool, true, false, List, [], ◌∷◌, ◌++◌, length}
use Rattle.range_workers.specs.declared.view.View.{View}
use Rattle.range_workers.specs.declared.view.View.TheVariants.{Caller, Worker, Spent}

-- the numbers in a view
abbrev pub numbers : View → List ℕ
numbers (Caller ns out) = ns
numbers (Worker ns from) = ns
numbers Spent = []

-- none of a worker's numbers is below this one
abbrev pub from_of : View → ℕ
from_of (Worker ns from) = from
from_of view = 0

abbrev pub is_caller : View → Bool
is_caller (Caller ns out) = true
is_caller view = false

abbrev pub is_worker : View → Bool
is_worker (Worker ns from) = true
is_worker view = false

-- the caller with fewer than 64 workers out
abbrev pub CanSplit : View → Type 0
CanSplit (Caller ns out) = out < 64
CanSplit view = ⊥

-- a worker with fewer than eight numbers
abbrev pub CanClaim : View → Type 0
CanClaim (Worker ns from) = length ns < 8
CanClaim view = ⊥

-- the caller, with room for eight numbers more, and a worker
abbrev pub CanJoin : View → View → Type 0
CanJoin (Caller ns out) (Worker ms from) = length ns ≤ 2 ^ 62 - 8
CanJoin caller worker = ⊥

-- the caller with no worker out
abbrev pub IsAlone : View → Type 0
IsAlone (Caller ns out) = out ≡ 0
IsAlone view = ⊥

-- the caller's view with one worker more out, and the view of that worker
abbrev pub with_worker : View → View
with_worker (Caller ns out) = Caller ns (out + 1)
with_worker view = view

abbrev pub new_worker : View → View
new_worker (Caller ns out) = Worker [] (length ns)
new_worker view = Spent

-- a worker's view with the number that it claimed
abbrev pub with_number : ℕ → View → View
with_number n (Worker ns from) = Worker (ns ++ n ∷ []) from
with_number n view = view

-- the caller's view with the numbers of a worker, who is out no longer
abbrev pub joined : View → View → View
joined (Caller ns out) (Worker ms from) = Caller (ns ++ ms) (out - 1)
joined caller worker = caller
