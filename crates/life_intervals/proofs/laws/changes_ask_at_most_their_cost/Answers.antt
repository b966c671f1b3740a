use Rattle.life_intervals.proofs.CohortParentLemmas.{asked_for_change-cost}
use Rattle.life_intervals.proofs.laws.changes_ask_at_most_their_cost.Goals as goal

pub returns : goal.returns
returns c = asked_for_change-cost
