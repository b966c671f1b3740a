use Rattle.std.proofs.Common.{◌≡◌, encode_utf8, map}
use Rattle.row_text.specs.Fields.{escaped_text}
use Rattle.schema_plan.proofs.ready_leaves.written_characters.Given as goal

abbrev pub invariant-loop-c : goal.invariant-loop-c
invariant-loop-c l = l.written ≡ map (λ c. escaped_text l.delimiter (encode_utf8 c)) l.yielded
