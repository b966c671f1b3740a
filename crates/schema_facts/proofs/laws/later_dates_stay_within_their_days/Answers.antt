use Rattle.schema_facts.proofs.DayRangeLemmas.{later-within}
use Rattle.schema_facts.proofs.laws.later_dates_stay_within_their_days.Goals as goal

pub returns : goal.returns
returns c = later-within
