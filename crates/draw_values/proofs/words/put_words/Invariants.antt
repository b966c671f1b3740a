use Rattle.std.proofs.Common.{◌≡◌, ◌≤◌, ◌++◌, ℕ, length}
use Rattle.philox_seeds.specs.SeedTree.{draw}
use Rattle.schema_facts.specs.FieldSizes.{greatest_by, joined_size}
use Rattle.draw_values.specs.Values.{drawn_words}
use Rattle.draw_values.proofs.words.put_words.Given as goal

abbrev pub invariant-loop-k : goal.invariant-loop-k
invariant-loop-k l = record {
  text : l.buf.text ≡ l.fn.buf.text ++ drawn_words l.words (draw l.seed) l.k;
  room : l.buf.room ≡ l.fn.buf.room;
  size : length (drawn_words l.words (draw l.seed) l.k) ≤ joined_size l.k (greatest_by (length {A = ℕ}) l.words.entries);
}
