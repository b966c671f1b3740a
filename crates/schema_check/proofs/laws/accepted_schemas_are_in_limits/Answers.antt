use Rattle.schema_check.proofs.InLimits.{in_limits}
use Rattle.schema_check.proofs.laws.accepted_schemas_are_in_limits.Goals as goal

pub returns : goal.returns
returns c = in_limits
