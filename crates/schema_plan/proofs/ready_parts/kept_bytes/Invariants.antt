use Rattle.std.proofs.Common.{◌≡◌, take}
use Rattle.schema_plan.proofs.ready_parts.kept_bytes.Given as goal

abbrev pub invariant-loop-byte : goal.invariant-loop-byte
invariant-loop-byte l = l.kept ≡ take l.byte-index l.bytes
