use Rattle.sample_tables.proofs.AcceptedLemmas.{sample-accepted}
use Rattle.sample_tables.proofs.laws.samples_break_no_rule.Goals as goal

pub returns : goal.returns
returns c = sample-accepted
