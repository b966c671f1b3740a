use Rattle.std.proofs.Common.{◌≡◌, ℕ, ◌<◌, get_or, length}
use Rattle.line_pages.specs.Pieces.{low_bytes}
use Rattle.line_pages.specs.Digits.{last_digits}
use Rattle.line_pages.proofs.digits.Digits.new.Given as goal

abbrev pub invariant-loop-number : goal.invariant-loop-number
invariant-loop-number l = record {
  all : length l.fours.items ≡ l.number;
  each : (n : ℕ) → n < l.number → low_bytes 4 (get_or l.fours.items n 0) ≡ last_digits 4 n;
}
