use Rattle.std.proofs.Common.{◌≡◌, false, take, map}
use Rattle.pd_outside.specs.StatedFails.{states_call}
use Rattle.pd_outside.specs.NamedCall.{name_and_call}
use Rattle.pd_outside.proofs.fails.LibraryFails.states.Given as goal

abbrev pub invariant-loop-fail : goal.invariant-loop-fail
invariant-loop-fail l = states_call (map name_and_call (take l.fail-index l.fail-items)) l.name l.call ≡ false
