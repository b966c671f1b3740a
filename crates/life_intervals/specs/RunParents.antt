-- The parents of a run's rows by one reference.
use Rattle.std.specs.Prelude.{◌≡◌, ◌<◌, ℕ, List, Option, Some, get_or, length}
use Rattle.schema_plan.specs.declared.ready.ReadyReference.{ReadyReference}
use Rattle.schema_facts.specs.Dictionaries.{Project}
use Rattle.life_intervals.specs.CohortParents.{IsReferenceOf, reference_by}
use Rattle.life_intervals.specs.Generator.{generator_of, last_unit}
use Rattle.life_intervals.specs.Intervals.{parent_of}
use Rattle.life_intervals.specs.Runs.{IsRun}

-- the ordinals of the parents that the rows of some ordinals, of the table at a place, are born with by the reference that is ready in the
-- column at a place, and the units of their births, which come by a unit
pub record AreParentsOf (plan : Project) (table unit : ℕ) (ordinals : List ℕ) (column : ℕ) (reference : ReadyReference) (parents births : List ℕ) : Type 0 where
  pub same_length : length parents ≡ length ordinals
  pub each : (i : ℕ) → i < length ordinals →
      get_or parents i 0 ≡ parent_of (generator_of plan) table (last_unit plan) (get_or ordinals i 0) (reference_by column reference)
  pub run : IsRun plan reference.parent unit parents births

-- both lists have room for as many, and hold them where the column of their reference is told
pub record AreKnownOf (plan : Project) (table unit : ℕ) (ordinals : List ℕ) (by : Option ℕ) (parents births : List ℕ) : Type 0 where
  pub parents_many : length parents ≡ length ordinals
  pub births_many : length births ≡ length ordinals
  pub are : (column : ℕ) (reference : ReadyReference) → by ≡ Some column → IsReferenceOf plan table column reference →
      AreParentsOf plan table unit ordinals column reference parents births
