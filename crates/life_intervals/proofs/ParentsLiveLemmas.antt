-- Rows and their parents, by whether these are alive.
use Rattle.std.proofs.Common.{◌≡◌, ℕ, ◌<◌, ◌≤◌, Bool, true, false, not, ◌&&◌, ◌||◌, Option, Some, None, List, [], ◌∷◌, get_or, length, map, refl, ap, ◌∙◌}
use Rattle.std.specs.Prelude.{All, if◌then◌else◌}
use Rattle.std.specs.List.{list_all}
use Rattle.cohort_sizes.specs.Births.{born_count}
use Rattle.schema_facts.specs.Layout.{table_at}
use Rattle.schema_facts.specs.References.{Reference, cascades_of, references_of}
use Rattle.life_intervals.specs.Generator.{Generator}
use Rattle.life_intervals.specs.Intervals.{death, first_death, held_parent, held_until, is_after, is_live, own_death, parent_of}
use Rattle.life_intervals.specs.Sound.{AreSound}
use Rattle.life_intervals.proofs.DeathLemmas.{is_after-lesser_life}
use Rattle.life_intervals.proofs.LifeLemmas.{death-first, loss_of-death}

-- the first of some deaths comes after a unit where each does
pub is_after-all : (d : Reference → Option ℕ) (references : List Reference) (unit : ℕ) →
    is_after (first_death (map d references)) unit ≡ list_all (λ reference. is_after (d reference) unit) references
is_after-all d [] unit = refl
is_after-all d (reference ∷ others) unit =
    is_after-lesser_life (d reference) (first_death (map d others)) unit ∙ ap (λ (b : Bool). is_after (d reference) unit && b) (is_after-all d others unit)

held_by : (nulls : Bool) (dies : Option ℕ) (unit parent : ℕ) →
    held_until (if nulls then dies else None) unit parent ≡ (if not nulls || is_after dies unit then Some parent else None)
held_by true dies unit parent = refl
held_by false dies unit parent = refl

module _ (units : ℕ) (generator : Generator) (sound : AreSound units generator.tables) (place : ℕ) (below : place < length generator.tables) (unit ordinal : ℕ) (within : unit ≤ units) (born : ordinal < born_count (table_at generator.tables place).births unit) where
  -- a row still has those that take it along, and of the others those that are alive
  pub held_parent-live : All (λ (reference : Reference). held_parent generator place unit ordinal reference
      ≡ (if not reference.nulls || is_live generator reference.parent unit (parent_of generator place unit ordinal reference)
      then Some (parent_of generator place unit ordinal reference) else None)) (references_of (table_at generator.tables place))
  held_parent-live = λ k d inside.
      let reference : Reference = get_or (references_of (table_at generator.tables place)) k d in
      let parent : ℕ = parent_of generator place unit ordinal reference in
      ap (λ (loss : Option ℕ). held_until loss unit parent) (loss_of-death units generator sound place below unit ordinal within born k d inside)
      ∙ held_by reference.nulls (death generator reference.parent unit parent) unit parent

  -- it is alive where its own life lasts and each of those is that take it along
  pub is_live-parents : is_live generator place unit ordinal
      ≡ (is_after (own_death generator place unit ordinal) unit
      && list_all (λ (reference : Reference). is_live generator reference.parent unit (parent_of generator place unit ordinal reference)) (cascades_of (table_at generator.tables place)))
  is_live-parents =
      let own : Option ℕ = own_death generator place unit ordinal in
      let dies : Reference → Option ℕ = λ reference. death generator reference.parent unit (parent_of generator place unit ordinal reference) in
      let cascades : List Reference = cascades_of (table_at generator.tables place) in
      ap (λ (d : Option ℕ). is_after d unit) (death-first units generator sound place below unit ordinal within born)
      ∙ is_after-lesser_life own (first_death (map dies cascades)) unit
      ∙ ap (λ (b : Bool). is_after own unit && b) (is_after-all dies cascades unit)
