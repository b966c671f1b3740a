use Rattle.std.proofs.Common.{◌≡◌, filter, take}
use Rattle.detail_plan.specs.Rules.{is_new_list}
use Rattle.detail_plan.proofs.citations.new_lists.Given as goal

abbrev pub invariant-loop-name : goal.invariant-loop-name
invariant-loop-name l = l.found ≡ filter (is_new_list l.plan) (take l.name-index l.names)
