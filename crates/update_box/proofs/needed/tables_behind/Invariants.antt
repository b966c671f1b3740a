use Rattle.std.proofs.Common.{◌≡◌, ◌+◌, ◌<◌, ◌≤◌, ◌⊎◌, ℕ, true, false, length}
use Rattle.std.specs.Prelude.{All}
use Rattle.schema_facts.specs.References.{references_of}
use Rattle.life_intervals.specs.Generator.{table_of}
use Rattle.update_box.specs.Found.{is_needed, refers_to}
use Rattle.update_box.proofs.needed.tables_behind.Given as goal

abbrev pub invariant-loop-before : goal.invariant-loop-before
invariant-loop-before l = record {
  all : length l.marks.items ≡ length l.plan.schema.tables;
  here : is_needed l.marks.items l.place ≡ true;
  none : (other : ℕ) → l.place < other → is_needed l.marks.items other ≡ false;
  no_others : (other : ℕ) → is_needed l.marks.items other ≡ true → (other ≡ l.place) ⊎ ((from : ℕ) × (is_needed l.marks.items from ≡ true) × (refers_to l.plan from other ≡ true));
  parents : (other : ℕ) → l.place < other + l.before → other ≤ l.place → is_needed l.marks.items other ≡ true →
      All (λ reference. is_needed l.marks.items reference.parent ≡ true) (references_of (table_of l.plan other));
}
