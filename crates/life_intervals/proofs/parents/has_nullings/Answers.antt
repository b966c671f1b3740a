use Rattle.std.proofs.Common.{ap, ◌∙◌}
use Rattle.std.specs.List.{list_any}
use Rattle.life_intervals.specs.CohortParents.{is_nulling}
use Rattle.life_intervals.proofs.CohortParentLemmas.{has_nullings-ready}
use Rattle.life_intervals.proofs.parents.has_nullings.Goals as goal

pub returns : goal.returns
returns c = c.has_nulling_column.ensures ∙ ap (list_any is_nulling) c.columns.ensures.columns ∙ has_nullings-ready c.args.plan.now c.args.table
