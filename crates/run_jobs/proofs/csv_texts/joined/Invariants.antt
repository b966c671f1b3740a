use Rattle.std.proofs.Common.{◌≡◌, flat_map, take}
use Rattle.run_jobs.proofs.csv_texts.joined.Given as goal

abbrev pub invariant-loop-place : goal.invariant-loop-place
invariant-loop-place l = l.bytes.items ≡ flat_map (λ text. text) (take l.place l.texts)
