-- What is known of the tables of a generator, place by place: each reference is to rows that are alive.
use Rattle.std.proofs.Common.{◌≡◌, ℕ, zero, suc, ◌+◌, ◌<◌, ◌≤◌, true, List, [], filter, length, take, sym, subst, arith, ◌∙◌}
use Rattle.std.specs.List.{AllByRecursion}
use Rattle.std.proofs.lemmas.List.{get_or-take, length-take-le}
use Rattle.cohort_sizes.specs.Births.{born_count, cohort_size}
use Rattle.schema_facts.specs.Layout.{TableLayout, no_table, table_at}
use Rattle.schema_facts.specs.Lineage.{endless, lineages, sure_life}
use Rattle.schema_facts.proofs.Lists.{get_or-in_turn, length-in_turn}
use Rattle.philox_seeds.specs.SeedTree.{life_column}
use Rattle.life_intervals.specs.Generator.{Generator}
use Rattle.life_intervals.specs.Intervals.{Known, is_after, known_at, known_by, known_of, known_tables, nothing_known}
use Rattle.schema_facts.specs.References.{Reference, cascades_of, first_in_window, references_of}
use Rattle.life_intervals.specs.Sound.{AreSound, IsSoundReference}
use Rattle.life_intervals.proofs.CascadeLemmas.{AllByRecursion-filter, is_cascading}
use Rattle.life_intervals.proofs.DeathLemmas.{is_after-lesser_from}
use Rattle.life_intervals.proofs.ParentLemmas.{IsSure, Refers, less_window, parents-alive}
use Rattle.life_intervals.proofs.SureLifeLemmas.{AllByRecursion-all, AllByRecursion-both, IsPastParent, own_death-sure, sure_life-parts}

pub length-known_tables : (generator : Generator) → length (known_tables generator) ≡ length generator.tables
length-known_tables generator = length-in_turn (known_by generator.order) [] generator.tables

pub known_at-known_of : (generator : Generator) (place : ℕ) → place < length generator.tables → known_at (known_tables generator) place ≡ known_of generator place
known_at-known_of generator place below = get_or-in_turn (known_by generator.order) generator.tables place nothing_known no_table below

-- as many are known before a table as its place says
pub length-known_before : (generator : Generator) (place : ℕ) → place < length generator.tables → length (take place (known_tables generator)) ≡ place
length-known_before generator place below = length-take-le place (known_tables generator) (omega (arith, length-known_tables generator, below))

pub known_at-before : (generator : Generator) (place parent : ℕ) → place < length generator.tables → parent < place → known_at (take place (known_tables generator)) parent ≡ known_of generator parent
known_at-before generator place parent below earlier =
    get_or-take place (known_tables generator) parent nothing_known earlier ∙ known_at-known_of generator parent (omega (arith, below, earlier))

module _ (units : ℕ) (generator : Generator) (sound : AreSound units generator.tables) where
  -- the references of the table at a place, where rows of the tables before it live as long as is sure
  refers-by : (place : ℕ) → place < length generator.tables → ((parent : ℕ) → parent < place → IsSure units (known_of generator parent) (sure_life generator.tables parent)) →
      AllByRecursion (Refers units (take place (known_tables generator)) (sure_life generator.tables) (table_at generator.tables place).births) (references_of (table_at generator.tables place))
  refers-by place below are_sure =
      AllByRecursion-all (IsSoundReference units generator.tables place) (Refers units (take place (known_tables generator)) (sure_life generator.tables) (table_at generator.tables place).births)
      (λ reference is.
      let same : known_of generator reference.parent ≡ known_at (take place (known_tables generator)) reference.parent = sym (known_at-before generator place reference.parent below is.earlier) in
      record {
        is_earlier = omega (arith, length-known_before generator place below, is.earlier);
        is_sure = subst (λ (known : Known). IsSure units known (sure_life generator.tables reference.parent)) same (are_sure reference.parent is.earlier);
        within_life = is.within_life;
        some_parent =
            subst (λ (known : Known). (unit : ℕ) → unit ≤ units → 0 < cohort_size (table_at generator.tables place).births unit → first_in_window known.table.births reference.window unit < born_count known.table.births unit)
            same is.some_parent;
      })
      (references_of (table_at generator.tables place)) (sound place below).references

  -- an age that is past a table's sure life is past what each of its parents leaves
  past_parents : (place age : ℕ) → place < length generator.tables → AllByRecursion (IsPastParent (take place (lineages generator.tables)) age) (cascades_of (table_at generator.tables place)) →
      AllByRecursion (λ (reference : Reference). is_after (less_window reference.window (sure_life generator.tables reference.parent)) age ≡ true) (cascades_of (table_at generator.tables place))
  past_parents place age below past =
      let references : List Reference = references_of (table_at generator.tables place) in
      AllByRecursion-both (λ (reference : Reference). reference.parent < place) (IsPastParent (take place (lineages generator.tables)) age)
      (λ (reference : Reference). is_after (less_window reference.window (sure_life generator.tables reference.parent)) age ≡ true)
      (λ reference earlier is.
      subst (λ lineage. is_after (less_window reference.window lineage.sure_life) age ≡ true) (get_or-take place (lineages generator.tables) reference.parent endless earlier) is)
      (filter is_cascading references)
      (AllByRecursion-filter (λ (reference : Reference). reference.parent < place) is_cascading references
      (AllByRecursion-all (IsSoundReference units generator.tables place) (λ (reference : Reference). reference.parent < place) (λ reference is. is.earlier) references (sound place below).references))
      past

  IsSure-by : (place : ℕ) → place < length generator.tables → ((parent : ℕ) → parent < place → IsSure units (known_of generator parent) (sure_life generator.tables parent)) →
      IsSure units (known_of generator place) (sure_life generator.tables place)
  IsSure-by place below are_sure unit index age within inside past =
      let table : TableLayout = table_at generator.tables place in
      let earlier : List Known = take place (known_tables generator) in
      let parts = sure_life-parts generator.tables place age below past in
      is_after-lesser_from _ _ (unit + age)
      (own_death-sure unit (generator.order.place (length earlier) life_column unit index) age table.life parts.0)
      (parents-alive units generator.order earlier (sure_life generator.tables) table.births unit index within inside age (cascades_of table)
      (AllByRecursion-filter (Refers units earlier (sure_life generator.tables) table.births) is_cascading (references_of table) (refers-by place below are_sure)) (past_parents place age below parts.1))

  IsSure-below : (bound place : ℕ) → place < bound → place < length generator.tables → IsSure units (known_of generator place) (sure_life generator.tables place)
  IsSure-below zero place before below = absurd (omega (arith, before))
  IsSure-below (suc bound) place before below =
      IsSure-by place below (λ parent earlier. IsSure-below bound parent (omega (arith, before, earlier)) (omega (arith, below, earlier)))

  -- rows of the table at a place live as long as is sure
  pub IsSure-known_of : (place : ℕ) → place < length generator.tables → IsSure units (known_of generator place) (sure_life generator.tables place)
  IsSure-known_of place below = IsSure-below (suc place) place (omega arith) below

  -- its references are to rows that are alive
  pub refers-of : (place : ℕ) → place < length generator.tables →
      AllByRecursion (Refers units (take place (known_tables generator)) (sure_life generator.tables) (table_at generator.tables place).births) (references_of (table_at generator.tables place))
  refers-of place below = refers-by place below (λ parent earlier. IsSure-known_of parent (omega (arith, below, earlier)))

  -- and those with whose parents a row dies
  pub cascades-of : (place : ℕ) → place < length generator.tables →
      AllByRecursion (Refers units (take place (known_tables generator)) (sure_life generator.tables) (table_at generator.tables place).births) (cascades_of (table_at generator.tables place))
  cascades-of place below =
      AllByRecursion-filter (Refers units (take place (known_tables generator)) (sure_life generator.tables) (table_at generator.tables place).births) is_cascading
      (references_of (table_at generator.tables place)) (refers-of place below)
