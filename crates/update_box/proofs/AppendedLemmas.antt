-- Lists that grow by rows, each once, in some order.
use Rattle.std.proofs.Common.{ℕ, List, [], subst, sym}
use Rattle.std.specs.List.Sorted.{IsPermutation}
use Rattle.std.proofs.lemmas.List.Sorted.{IsPermutation-trans}
use Rattle.life_intervals.specs.FoundAt.{AreAppended}

-- by the same rows in another order
pub AreAppended-same : (rows others before after : List ℕ) → IsPermutation others rows → AreAppended rows before after → AreAppended others before after
AreAppended-same rows others before after moved by =
    record { behind = by.behind; is = by.is; same = IsPermutation-trans others rows by.behind moved by.same }

-- an empty list then has them
pub AreAppended-alone : (rows after : List ℕ) → AreAppended rows [] after → IsPermutation rows after
AreAppended-alone rows after by = subst (IsPermutation rows) (sym by.is) by.same
