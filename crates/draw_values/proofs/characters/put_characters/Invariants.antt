use Rattle.std.proofs.Common.{◌≡◌, ◌≤◌, ◌*◌, ◌++◌, ℕ, length}
use Rattle.philox_seeds.specs.SeedTree.{draw}
use Rattle.schema_facts.specs.FieldSizes.{greatest_by}
use Rattle.draw_values.specs.ReadyValues.{chosen_texts}
use Rattle.draw_values.proofs.characters.put_characters.Given as goal

abbrev pub invariant-loop-k : goal.invariant-loop-k
invariant-loop-k l = record {
  text : l.buf.text ≡ l.fn.buf.text ++ chosen_texts l.characters (draw l.seed) l.k;
  room : l.buf.room ≡ l.fn.buf.room;
  size : length (chosen_texts l.characters (draw l.seed) l.k) ≤ l.k * greatest_by (length {A = ℕ}) l.characters;
}
