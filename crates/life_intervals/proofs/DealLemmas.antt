-- What is dealt is one of the candidates, each once.
use Rattle.std.proofs.Common.{◌≡◌, ℕ, ◌<◌, Bool, true, false, refl}
use Rattle.std.proofs.lemmas.Nat.{mod_below}
use Rattle.id_permutation.specs.Order.{order_steps}
use Rattle.id_permutation.proofs.OrderLaws.{AreInversesBelow-number_at}
use Rattle.schema_facts.specs.Lineage.{one_if}
use Rattle.schema_facts.specs.References.{Reference}
use Rattle.life_intervals.specs.References.{deal_of, dealt}

-- a place chooses one of the candidates
pub dealt-below : (reference : Reference) (seed count place : ℕ) → 0 < count → dealt reference seed count place < count
dealt-below reference seed count place some = (AreInversesBelow-number_at (deal_of reference.drawn seed count)).within _ (mod_below _ count some)

-- that costs a step where the reference is drawn
pub order_steps-deal_of : (drawn : Bool) (seed count : ℕ) → order_steps (deal_of drawn seed count) ≡ one_if drawn
order_steps-deal_of true seed count = refl
order_steps-deal_of false seed count = refl
