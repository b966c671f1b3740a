use Rattle.std.proofs.Common.{◌≡◌, map, take, length, min}
use Rattle.std.specs.List.{range_with_len}
use Rattle.schema_facts.specs.Capped.{capped_facts}
use Rattle.schema_facts.specs.Dictionaries.{project_of}
use Rattle.schema_facts.specs.Layout.{layout_of}
use Rattle.schema_facts.specs.TableFacts.{facts_at}
use Rattle.schema_facts.proofs.facts.fill_facts.Given as goal

abbrev pub invariant-loop-place : goal.invariant-loop-place
invariant-loop-place l = record {
  size : length l.facts ≡ min (length l.schema.tables) 64;
  filled : take l.place l.facts ≡ map (λ p. capped_facts (facts_at (layout_of (project_of l.schema l.dictionaries)) p)) (range_with_len 0 l.place);
}
