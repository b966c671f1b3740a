use Rattle.std.proofs.Common.{◌<◌, ◌^◌, ℕ, arith}
use Rattle.std.proofs.lemmas.List.Elements.{All-from_get_or}
use Rattle.detail_lines.proofs.line_runs.are_short.Goals as goal

pub returns : goal.returns
returns c = λ made. All-from_get_or (λ (key : ℕ). key < 10 ^ 15) c.args.keys.now 0 (λ k below. c.loop-key.invariant k (omega arith))
