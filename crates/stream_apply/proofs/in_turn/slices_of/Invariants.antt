use Rattle.std.proofs.Common.{◌≡◌, map, take}
use Rattle.stream_apply.proofs.in_turn.slices_of.Given as goal

abbrev pub invariant-loop-input : goal.invariant-loop-input
invariant-loop-input l = map (λ slice. slice.now) l.slices.items ≡ map (λ input. input.items) (take l.input-index l.inputs)
