-- The tables of an accepted schema are sound.
use Rattle.std.proofs.Common.{◌≡◌, ℕ, ◌<◌, ◌≤◌, Option, Some, None, List, length, map, take, ap, arith, refl}
use Rattle.std.specs.Prelude.{All, IfSome}
use Rattle.std.proofs.lemmas.List.{length-map}
use Rattle.cohort_sizes.specs.Births.{Births, birth, index_at}
use Rattle.schema_facts.specs.declared.layout.Span.{Span}
use Rattle.schema_facts.specs.Counts.{count}
use Rattle.schema_facts.specs.Dictionaries.{Project}
use Rattle.schema_facts.specs.Layout.{TableLayout, no_table, table_at, table_layout}
use Rattle.schema_plan.specs.Limits.{IsInLimits, IsLife, IsSpan, IsTableInLimits, IsUpdatePeriod}
use Rattle.schema_facts.specs.References.{IsReferenceInLimits, Reference, references_of}
use Rattle.life_intervals.specs.Generator.{Generator, generator_of, last_unit, table_of}
use Rattle.life_intervals.specs.Intervals.{change_unit, held_parent, known_tables, loss_of, row_at}
use Rattle.life_intervals.specs.Changes.{change_by}
use Rattle.life_intervals.specs.Sound.{AreSound, IsSoundReference}
use Rattle.life_intervals.proofs.KnownLemmas.{length-known_before}
use Rattle.life_intervals.proofs.RowLemmas.{parents_held-references}

-- there are as many layouts as tables
pub length-tables : (project : Project) → length (generator_of project).tables ≡ length project.schema.tables
length-tables project = length-map project.schema.tables (table_layout project.dictionaries project.schema.tables)

-- a table of a plan has its place among them
pub place-below : (plan : Project) (place : ℕ) → place < length plan.schema.tables → place < length (generator_of plan).tables
place-below plan place below = omega (arith, below, length-tables plan)

span-life : (life : Option Span) → IfSome life IsLife → IfSome life IsSpan
span-life None is = tt
span-life (Some life) is = is.span

pub some-period : (update : Option ℕ) → IfSome update IsUpdatePeriod → IfSome update (λ period. 1 ≤ period)
some-period None is = tt
some-period (Some period) is = is.some_unit

sound-references : (units : ℕ) (tables : List TableLayout) (place : ℕ) (references : List Reference) → All (IsReferenceInLimits units tables place) references → All (IsSoundReference units tables place) references
sound-references units tables place references limits = λ k d below. record {
  earlier = (limits k d below).earlier;
  within_life = (limits k d below).within_life;
  some_parent = (limits k d below).some_parent;
}

pub AreSound-accepted : (project : Project) → IsInLimits project → AreSound (last_unit project) (generator_of project).tables
AreSound-accepted project limits place below =
    let is : IsTableInLimits (count project.schema.units) (table_of project place) = limits.tables place no_table below in
    record {
      life = span-life (table_of project place).life is.life;
      period = some-period (table_of project place).update is.update;
      references = sound-references (last_unit project) (generator_of project).tables place (references_of (table_of project place)) (limits.references place (omega (arith, below, length-tables project)));
    }

-- a row's birth and its last change are those of its ordinal
pub row_at-born : (generator : Generator) (place unit ordinal : ℕ) → (row_at generator place unit ordinal).born ≡ birth (table_at generator.tables place).births unit ordinal
row_at-born generator place unit ordinal = refl

pub row_at-changed : (generator : Generator) (place unit ordinal : ℕ) → place < length generator.tables →
    (row_at generator place unit ordinal).changed ≡ change_unit generator place unit ordinal
row_at-changed generator place unit ordinal below =
    let table : TableLayout = table_at generator.tables place in
    let losses : List (Option ℕ) = map (loss_of generator place unit ordinal) (references_of table) in
    ap (λ (p : ℕ). change_by generator.order p table losses (birth table.births unit ordinal) (index_at table.births unit ordinal) unit) (length-known_before generator place below)

-- its parents are those that it still has
pub row_at-parents : (generator : Generator) (place unit ordinal : ℕ) →
    (row_at generator place unit ordinal).parents ≡ map (held_parent generator place unit ordinal) (references_of (table_at generator.tables place))
row_at-parents generator place unit ordinal =
    let births : Births = (table_at generator.tables place).births in
    parents_held-references generator.order (take place (known_tables generator)) (birth births unit ordinal) (index_at births unit ordinal) unit (references_of (table_at generator.tables place))
