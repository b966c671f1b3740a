-- Keys: each row has one of its own, and the cohorts' keys stand one after the other.
use Rattle.std.proofs.Common.{◌≡◌, ◌<◌, ◌≤◌, ℕ, ◌+◌, ◌-◌, Bool, true, false, refl, ap, sym, subst, ◌∙◌, arith}
use Rattle.std.specs.Prelude.{if◌then◌else◌}
use Rattle.philox_seeds.specs.SeedTree as seeds
use Rattle.id_permutation.specs.Walk.{IsBijectionBelow}
use Rattle.id_permutation.proofs.PlacementLaws.{IsBijectionBelow-place}
use Rattle.cohort_sizes.specs.Births.{Births, LiesIn, birth, born_count, cohort_size, first_ordinal}
use Rattle.schema_facts.specs.Dictionaries.{Project}
use Rattle.schema_facts.specs.Layout.{TableLayout, layout_of, table_at}
use Rattle.life_intervals.specs.Generator.{Generator, generator_of, table_of}
use Rattle.life_intervals.specs.Keys.{place_in_cohort, key_in_cohort, key_of, OrdersCohorts}
use Rattle.cohort_sizes.proofs.CohortLemmas.{LiesIn-birth, birth-first_ordinal, cohort-within}

-- the seeds of a schema order its cohorts
pub OrdersCohorts-generator_of : (project : Project) (place : ℕ) → OrdersCohorts (generator_of project) place
OrdersCohorts-generator_of project place purpose unit some =
    IsBijectionBelow-place (cohort_size (table_of project place).births unit) (seeds.permutation_seed (layout_of project).seed place purpose unit) some

IsBijectionBelow-if : (n : ℕ) (scrambled : Bool) (f : ℕ → ℕ) → IsBijectionBelow n f → IsBijectionBelow n (λ index. if scrambled then f index else index)
IsBijectionBelow-if n false f is = record { within = λ x below. below; one_to_one = λ x y bx by same. same; onto = λ y below. (y, below, refl) }
IsBijectionBelow-if n true f is = is

-- and so do keys, scrambled or not
pub IsBijectionBelow-place_in_cohort : (generator : Generator) (place : ℕ) → OrdersCohorts generator place → (unit : ℕ) → 0 < cohort_size (table_at generator.tables place).births unit →
    IsBijectionBelow (cohort_size (table_at generator.tables place).births unit) (place_in_cohort generator place unit)
IsBijectionBelow-place_in_cohort generator place orders unit some =
    IsBijectionBelow-if _ (table_at generator.tables place).key.scramble (generator.order.place place seeds.key_column unit) (orders seeds.key_column unit some)

-- the key of the row with an index in a cohort
pub key_of-first_ordinal : (generator : Generator) (place last unit index : ℕ) → unit ≤ last → index < cohort_size (table_at generator.tables place).births unit →
    key_of generator place last (first_ordinal (table_at generator.tables place).births unit + index) ≡ key_in_cohort generator place unit index
unfolding key_of
key_of-first_ordinal generator place last unit index within below =
    let births : Births = (table_at generator.tables place).births in
    let ordinal : ℕ = first_ordinal births unit + index in
    let born : birth births last ordinal ≡ unit = birth-first_ordinal births last unit index within below in
    let at : ordinal - first_ordinal births unit ≡ index = omega arith in
    ap (λ (u : ℕ). key_in_cohort generator place u (ordinal - first_ordinal births u)) born
    ∙ ap (key_in_cohort generator place unit) at

pub key_of-found : (generator : Generator) (place last ordinal unit first : ℕ) → unit ≡ birth (table_at generator.tables place).births last ordinal →
    first ≡ first_ordinal (table_at generator.tables place).births unit → key_in_cohort generator place unit (ordinal - first) ≡ key_of generator place last ordinal
unfolding key_of
key_of-found generator place last ordinal unit first born starts =
    ap (λ (f : ℕ). key_in_cohort generator place unit (ordinal - f)) starts
    ∙ ap (λ (u : ℕ). key_in_cohort generator place u (ordinal - first_ordinal (table_at generator.tables place).births u)) born

-- where a row's key stands: its cohort's keys begin at the first ordinal, and the row has one of their places
pub record KeyLiesIn (generator : Generator) (place last ordinal unit : ℕ) : Type 0 where
  pub index : ℕ
  pub in_units : unit ≤ last
  pub in_cohort : index < cohort_size (table_at generator.tables place).births unit
  pub is : ordinal ≡ first_ordinal (table_at generator.tables place).births unit + index
  pub place_below : place_in_cohort generator place unit index < cohort_size (table_at generator.tables place).births unit
  pub key : key_of generator place last ordinal
      ≡ (table_at generator.tables place).key.base + (first_ordinal (table_at generator.tables place).births unit + place_in_cohort generator place unit index)

pub KeyLiesIn-birth : (generator : Generator) (place : ℕ) → OrdersCohorts generator place → (last ordinal : ℕ) → ordinal < born_count (table_at generator.tables place).births last →
    KeyLiesIn generator place last ordinal (birth (table_at generator.tables place).births last ordinal)
KeyLiesIn-birth generator place orders last ordinal born =
    let births : Births = (table_at generator.tables place).births in
    let unit : ℕ = birth births last ordinal in
    let found = LiesIn-birth births last ordinal born in
    let lies : LiesIn births unit ordinal = found.1 in
    let index : ℕ = ordinal - first_ordinal births unit in
    let is : ordinal ≡ first_ordinal births unit + index = omega (arith, lies.begun) in
    let below : index < cohort_size births unit = omega (arith, lies.not_ended, lies.begun) in
    let bijection : IsBijectionBelow (cohort_size births unit) (place_in_cohort generator place unit) =
    IsBijectionBelow-place_in_cohort generator place orders unit (omega (arith, below)) in
    record {
      index = index;
      in_units = found.0;
      in_cohort = below;
      is = is;
      place_below = bijection.within index below;
      key = ap (key_of generator place last) is ∙ key_of-first_ordinal generator place last unit index found.0 below ∙ omega arith;
    }

-- a key that a row has tells the row's birth
pub birth-key_of : (generator : Generator) (place : ℕ) → OrdersCohorts generator place → (last ordinal : ℕ) → ordinal < born_count (table_at generator.tables place).births last →
    birth (table_at generator.tables place).births last (key_of generator place last ordinal - (table_at generator.tables place).key.base)
    ≡ birth (table_at generator.tables place).births last ordinal
birth-key_of generator place orders last ordinal born =
    let table : TableLayout = table_at generator.tables place in
    let unit : ℕ = birth table.births last ordinal in
    let lies : KeyLiesIn generator place last ordinal unit = KeyLiesIn-birth generator place orders last ordinal born in
    let spot : ℕ = place_in_cohort generator place unit lies.index in
    let from : key_of generator place last ordinal - table.key.base ≡ first_ordinal table.births unit + spot = omega (arith, lies.key) in
    ap (birth table.births last) from ∙ birth-first_ordinal table.births last unit spot lies.in_units lies.place_below

-- keys begin at the base, and there are as many as rows
pub key_of-from_base : (generator : Generator) (place : ℕ) → OrdersCohorts generator place → (last ordinal : ℕ) → ordinal < born_count (table_at generator.tables place).births last →
    (table_at generator.tables place).key.base ≤ key_of generator place last ordinal
key_of-from_base generator place orders last ordinal born =
    let lies = KeyLiesIn-birth generator place orders last ordinal born in
    omega (arith, lies.key)

pub key_of-within : (generator : Generator) (place : ℕ) → OrdersCohorts generator place → (last ordinal : ℕ) → ordinal < born_count (table_at generator.tables place).births last →
    key_of generator place last ordinal < (table_at generator.tables place).key.base + born_count (table_at generator.tables place).births last
key_of-within generator place orders last ordinal born =
    let births : Births = (table_at generator.tables place).births in
    let lies = KeyLiesIn-birth generator place orders last ordinal born in
    omega (arith, lies.key, lies.place_below, cohort-within births (birth births last ordinal) last lies.in_units)

-- rows of one unit whose keys have one place are one
index-same : (generator : Generator) (place : ℕ) → OrdersCohorts generator place → (unit i j : ℕ) → i < cohort_size (table_at generator.tables place).births unit → j < cohort_size (table_at generator.tables place).births unit →
    place_in_cohort generator place unit i ≡ place_in_cohort generator place unit j → i ≡ j
index-same generator place orders unit i j below_i below_j same =
    (IsBijectionBelow-place_in_cohort generator place orders unit (omega (arith, below_i))).one_to_one i j below_i below_j same

-- a key that stands among those of the rows tells its row: the one whose key has that place
pub row_of_key-found : (generator : Generator) (place : ℕ) → OrdersCohorts generator place → (last ordinal key unit first index : ℕ) → ordinal < born_count (table_at generator.tables place).births last →
    key_of generator place last ordinal ≡ key → unit ≡ birth (table_at generator.tables place).births last (key - (table_at generator.tables place).key.base) →
    first ≡ first_ordinal (table_at generator.tables place).births unit → index < cohort_size (table_at generator.tables place).births unit →
    place_in_cohort generator place unit index ≡ key - (table_at generator.tables place).key.base - first → first + index ≡ ordinal
row_of_key-found generator place orders last ordinal key unit first index born has unit_is first_is below index_is =
    let table : TableLayout = table_at generator.tables place in
    let alike : birth table.births last ordinal ≡ unit =
    sym (birth-key_of generator place orders last ordinal born) ∙ ap (λ (k : ℕ). birth table.births last (k - table.key.base)) has ∙ sym unit_is in
    let lies : KeyLiesIn generator place last ordinal unit = subst (KeyLiesIn generator place last ordinal) alike (KeyLiesIn-birth generator place orders last ordinal born) in
    let same : place_in_cohort generator place unit index ≡ place_in_cohort generator place unit lies.index = omega (arith, index_is, lies.key, has, first_is) in
    omega (arith, lies.is, index-same generator place orders unit index lies.index below lies.in_cohort same, first_is)

-- no two rows have one key
pub key_of-one_to_one : (generator : Generator) (place : ℕ) → OrdersCohorts generator place → (last i j : ℕ) → i < born_count (table_at generator.tables place).births last →
    j < born_count (table_at generator.tables place).births last → key_of generator place last i ≡ key_of generator place last j → i ≡ j
key_of-one_to_one generator place orders last i j born_i born_j same =
    let table : TableLayout = table_at generator.tables place in
    let unit : ℕ = birth table.births last i in
    let lies : KeyLiesIn generator place last i unit = KeyLiesIn-birth generator place orders last i born_i in
    let key : ℕ = key_of generator place last j in
    let at : unit ≡ birth table.births last (key - table.key.base) =
    sym (birth-key_of generator place orders last i born_i) ∙ ap (λ (k : ℕ). birth table.births last (k - table.key.base)) same in
    lies.is ∙ row_of_key-found generator place orders last j key unit (first_ordinal table.births unit) lies.index born_j refl at refl lies.in_cohort (omega (arith, lies.key, same))

-- and the row has it
pub key_of-row : (generator : Generator) (place last key unit first index : ℕ) → unit ≤ last → first ≡ first_ordinal (table_at generator.tables place).births unit →
    index < cohort_size (table_at generator.tables place).births unit → (table_at generator.tables place).key.base ≤ key → first ≤ key - (table_at generator.tables place).key.base →
    place_in_cohort generator place unit index ≡ key - (table_at generator.tables place).key.base - first → key_of generator place last (first + index) ≡ key
key_of-row generator place last key unit first index within first_is below from_base from_first index_is =
    ap (λ (f : ℕ). key_of generator place last (f + index)) first_is
    ∙ key_of-first_ordinal generator place last unit index within below
    ∙ omega (arith, first_is, index_is, from_base, from_first)
