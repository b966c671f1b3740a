-- How many of some rows are alive, and the place of a row among the living.
use Rattle.std.proofs.Common.{◌≡◌, ℕ, ◌*◌, take, get_or, subst, zero, suc, ◌+◌, ◌-◌, ◌<◌, ◌≤◌, Bool, true, false, cond, List, [], ◌∷◌, ◌++◌, filter, length, map, count_by, inl, inr, ne_eqb, eq-eqb, refl, ap, arith, sym, ◌∙◌, ◌==◌}
use Rattle.std.specs.List.{position_or_len, range_with_len}
use Rattle.std.proofs.lemmas.Bool.{cases_Bool, cases_lt}
use Rattle.std.proofs.Math.Nat.{mul_comm}
use Rattle.std.proofs.lemmas.List.{length-map, map_more}
use Rattle.std.proofs.lemmas.Nat.{mul-le}
use Rattle.std.proofs.lemmas.List.Sums.{sum_by-append, sum_by-cons}
use Rattle.std.proofs.lemmas.List.FromFn.{get_or-range_with_len}
use Rattle.cohort_sizes.specs.Births.{Births, LiesIn, born_count, cohort_size, first_ordinal}
use Rattle.cohort_sizes.proofs.CohortLemmas.{first_ordinal-le}
use Rattle.schema_facts.specs.Dictionaries.{Project}
use Rattle.schema_facts.specs.Layout.{layout_of, table_at}
use Rattle.schema_facts.specs.Lineage.{death_cost}
use Rattle.schema_plan.specs.Limits.{IsInLimits}
use Rattle.life_intervals.specs.CohortLives.{survival_at}
use Rattle.life_intervals.specs.CohortParents.{asked_for_death}
use Rattle.life_intervals.specs.Generator.{Generator, generator_of, last_unit, table_of}
use Rattle.life_intervals.specs.Intervals.{is_live, living, row_at}
use Rattle.life_intervals.specs.Rows.{Row}
use Rattle.life_intervals.specs.Runs.{IsRun}
use Rattle.life_intervals.specs.Simulation.{holds_row, rows_at}
use Rattle.life_intervals.specs.Sound.{AreSound}
use Rattle.life_intervals.specs.declared.lives.Survival.TheVariants.{Over, Sure}
use Rattle.life_intervals.proofs.AcceptedLemmas.{AreSound-accepted}
use Rattle.life_intervals.proofs.CohortParentLemmas.{asked_for_death-cost}
use Rattle.life_intervals.proofs.LiveLemmas.{holds_row-live, holds_row-unborn}
use Rattle.life_intervals.proofs.PartLemmas.{lies-over, lies-sure}
use Rattle.life_intervals.proofs.Ranges.{range_with_len-add}
use Rattle.life_intervals.proofs.SimulationLemmas.{rows_at-rows_of}
use Rattle.undo_streams.specs.Places.{AreBornAt, living_among, places_of}
use Rattle.undo_streams.specs.UndoText.{place_of}

-- the first one counts where it passes
count_by-cons : {X : Type 0} (p : X → Bool) (x : X) (xs : List X) → count_by p (x ∷ xs) ≡ cond (p x) 1 0 + count_by p xs
count_by-cons p x xs = sum_by-cons (λ y. cond (p y) 1 0) x xs

count_by-passes : {X : Type 0} (p : X → Bool) (x : X) (xs : List X) → p x ≡ true → count_by p (x ∷ xs) ≡ 1 + count_by p xs
count_by-passes p x xs is = count_by-cons p x xs ∙ ap (λ b. cond b 1 0 + count_by p xs) is

count_by-fails : {X : Type 0} (p : X → Bool) (x : X) (xs : List X) → p x ≡ false → count_by p (x ∷ xs) ≡ count_by p xs
count_by-fails p x xs is =
    let none : 0 + count_by p xs ≡ count_by p xs = omega arith in
    count_by-cons p x xs ∙ ap (λ b. cond b 1 0 + count_by p xs) is ∙ none

-- how many of some numbers pass, by their flags
pub count_by-map : (p : ℕ → Bool) (xs : List ℕ) → count_by (λ flag. flag) (map p xs) ≡ count_by p xs
count_by-map p [] = refl
count_by-map p (x ∷ xs) =
    count_by-cons (λ flag. flag) (p x) (map p xs) ∙ ap (λ n. cond (p x) 1 0 + n) (count_by-map p xs) ∙ sym (count_by-cons p x xs)

-- the living among some rows and those after them
pub living_among-add : (plan : Project) (table unit first m n : ℕ) →
    living_among plan table unit first (m + n) ≡ living_among plan table unit first m + living_among plan table unit (first + m) n
living_among-add plan table unit first m n =
    ap (count_by (is_live (generator_of plan) table unit)) (range_with_len-add first m n)
    ∙ sum_by-append (λ ordinal. cond (is_live (generator_of plan) table unit ordinal) 1 0) (range_with_len first m) (range_with_len (first + m) n)

-- all of a range pass, or none
count_by-all : (p : ℕ → Bool) (first n : ℕ) → ((i : ℕ) → i < n → p (first + i) ≡ true) → count_by p (range_with_len first n) ≡ n
count_by-all p first zero passes = refl
count_by-all p first (suc n) passes =
    let front : first + 0 ≡ first = omega arith in
    let here : p first ≡ true = ap p (sym front) ∙ passes 0 (omega arith) in
    let rest : count_by p (range_with_len (first + 1) n) ≡ n =
    count_by-all p (first + 1) n (λ i below. let next : first + 1 + i ≡ first + (i + 1) = omega arith in ap p next ∙ passes (i + 1) (omega (arith, below))) in
    omega (arith, count_by-passes p first (range_with_len (first + 1) n) here, rest)

count_by-none : (p : ℕ → Bool) (first n : ℕ) → ((i : ℕ) → i < n → p (first + i) ≡ false) → count_by p (range_with_len first n) ≡ 0
count_by-none p first zero passes = refl
count_by-none p first (suc n) passes =
    let front : first + 0 ≡ first = omega arith in
    let here : p first ≡ false = ap p (sym front) ∙ passes 0 (omega arith) in
    let rest : count_by p (range_with_len (first + 1) n) ≡ 0 =
    count_by-none p (first + 1) n (λ i below. let next : first + 1 + i ≡ first + (i + 1) = omega arith in ap p next ∙ passes (i + 1) (omega (arith, below))) in
    omega (arith, count_by-fails p first (range_with_len (first + 1) n) here, rest)

-- what lives say of rows that are born at one unit
module _ (plan : Project) (limits : IsInLimits plan) (table : ℕ) (there : table < length plan.schema.tables) (unit born : ℕ) (early : born ≤ unit) (last : unit ≤ last_unit plan) (first count : ℕ) (rows : AreBornAt plan table born first count) where
  pub living_among-sure : survival_at plan table born unit ≡ Sure → count ≡ living_among plan table unit first count
  living_among-sure sure =
      sym (
      count_by-all (is_live (generator_of plan) table unit) first count
      (λ i below. sym (lies-sure plan table born (omega (arith, early, last)) (first + i) (rows i below) limits there unit early last sure)))

  pub living_among-over : survival_at plan table born unit ≡ Over → 0 ≡ living_among plan table unit first count
  living_among-over over =
      sym (
      count_by-none (is_live (generator_of plan) table unit) first count
      (λ i below. sym (lies-over plan table born (omega (arith, early, last)) (first + i) (rows i below) limits there unit early last over)))

-- the rows of the living among the ordinals of a range
abbrev living_rows : Generator → ℕ → ℕ → ℕ → ℕ → List Row
living_rows generator table unit a n = map (row_at generator table unit) (filter (is_live generator table unit) (range_with_len a n))

-- before one of them stand as many as are alive before it
place-among : (generator : Generator) (table unit a n ordinal : ℕ) → a ≤ ordinal → ordinal < a + n → is_live generator table unit ordinal ≡ true →
    position_or_len (λ (row : Row). row.ordinal == ordinal) (living_rows generator table unit a n) ≡ count_by (is_live generator table unit) (range_with_len a (ordinal - a))
place-among generator table unit a zero ordinal from below alive = absurd (omega arith)
place-among generator table unit a (suc n) ordinal from below alive =
    let live : ℕ → Bool = is_live generator table unit in
    elim (cases_lt a ordinal) [
      | inl later ↦
          let rest : position_or_len (λ (row : Row). row.ordinal == ordinal) (living_rows generator table unit (a + 1) n) ≡ count_by (is_live generator table unit) (range_with_len (a + 1) (ordinal - (a + 1))) =
          place-among generator table unit (a + 1) n ordinal (omega arith) (omega arith) alive in
          let long : ordinal - a ≡ suc (ordinal - (a + 1)) = omega (arith, later) in
          let behind : List ℕ = range_with_len (a + 1) (ordinal - (a + 1)) in
          let counted : count_by live (range_with_len a (ordinal - a)) ≡ count_by live (a ∷ behind) = ap (λ n. count_by live (range_with_len a n)) long in
          elim (cases_Bool (live a)) [
            | inl lives ↦ rw (lives, ne_eqb a ordinal (λ e. omega arith)) (ap (λ k. 1 + k) rest ∙ sym (counted ∙ count_by-passes live a behind lives))
            | inr dead ↦ rw dead (rest ∙ sym (counted ∙ count_by-fails live a behind dead))
          ]
      | inr here ↦
          let same : a ≡ ordinal = omega arith in
          let lives : is_live generator table unit a ≡ true = ap (is_live generator table unit) same ∙ alive in
          let none : ordinal - a ≡ 0 = omega (arith, same) in
          rw (lives, eq-eqb a ordinal same, none) refl
    ]

-- so the place of a row that the table holds is the number of the living before it
pub place_of-living : (units : ℕ) (generator : Generator) (table unit ordinal : ℕ) → AreSound units generator.tables → unit ≤ units →
    ordinal < born_count (table_at generator.tables table).births unit → is_live generator table unit ordinal ≡ true →
    place_of generator table unit ordinal ≡ count_by (is_live generator table unit) (range_with_len 0 ordinal)
unfolding place_of
place_of-living units generator table unit ordinal sound within born alive =
    ap (position_or_len (λ (row : Row). row.ordinal == ordinal)) (rows_at-rows_of units generator table unit sound within)
    ∙ place-among generator table unit 0 (born_count (table_at generator.tables table).births unit) ordinal (omega arith) (omega (arith, born)) alive
    ∙ (let whole : ordinal - 0 ≡ ordinal = omega arith in ap (λ n. count_by (is_live generator table unit) (range_with_len 0 n)) whole)

filter-passes : (p : ℕ → Bool) (x : ℕ) (xs : List ℕ) → p x ≡ true → length (filter p (x ∷ xs)) ≡ 1 + length (filter p xs)
filter-passes p x xs is = rw is (omega arith)

filter-fails : (p : ℕ → Bool) (x : ℕ) (xs : List ℕ) → p x ≡ false → length (filter p (x ∷ xs)) ≡ length (filter p xs)
filter-fails p x xs is = rw is refl

length-filter : (p : ℕ → Bool) (xs : List ℕ) → length (filter p xs) ≡ count_by p xs
length-filter p [] = refl
length-filter p (x ∷ xs) = elim (cases_Bool (p x)) [
  | inl passes ↦ filter-passes p x xs passes ∙ ap (λ n. 1 + n) (length-filter p xs) ∙ sym (count_by-passes p x xs passes)
  | inr fails ↦ filter-fails p x xs fails ∙ length-filter p xs ∙ sym (count_by-fails p x xs fails)
]

-- and it holds as many rows as are alive of those that are born
pub living_among-all : (plan : Project) → IsInLimits plan → (table unit : ℕ) → unit ≤ last_unit plan → (count : ℕ) → count ≡ born_count (table_of plan table).births unit →
    living_among plan table unit 0 count ≡ length (rows_at (generator_of plan) table unit)
living_among-all plan limits table unit within count all =
    ap (living_among plan table unit 0) all
    ∙ sym (length-filter (is_live (generator_of plan) table unit) (range_with_len 0 (born_count (table_of plan table).births unit)))
    ∙ sym (ap length (rows_at-rows_of (last_unit plan) (generator_of plan) table unit (AreSound-accepted plan limits) within)
    ∙ length-map (living (generator_of plan) table unit) (row_at (generator_of plan) table unit))

-- ---- rows that a table holds

module _ (plan : Project) (limits : IsInLimits plan) (table unit : ℕ) (last : unit ≤ last_unit plan) (ordinal : ℕ) (held : holds_row (rows_at (generator_of plan) table unit) ordinal ≡ true) where
  -- they are born
  pub held-born : ordinal < born_count (table_of plan table).births unit
  held-born = elim (cases_lt ordinal (born_count (table_of plan table).births unit)) [
    | inl born ↦ born
    | inr unborn ↦
        absurd (let same : true ≡ false =
        sym held ∙ holds_row-unborn (last_unit plan) (generator_of plan) table unit ordinal (AreSound-accepted plan limits) last unborn in cc)
  ]

  -- and alive
  pub held-alive : is_live (generator_of plan) table unit ordinal ≡ true
  held-alive =
      sym (holds_row-live (last_unit plan) (generator_of plan) table unit ordinal (AreSound-accepted plan limits) last held-born) ∙ held

  -- so the place of one is the number of the living before it
  pub held-place : living_among plan table unit 0 ordinal ≡ place_of (generator_of plan) table unit ordinal
  held-place =
      sym (place_of-living (last_unit plan) (generator_of plan) table unit ordinal (AreSound-accepted plan limits) last held-born held-alive)

-- ---- runs

-- rows beside one another that are born at one unit are a run
pub run-born : (plan : Project) (table unit born first count : ℕ) (ordinals births : List ℕ) → born ≤ unit → AreBornAt plan table born first count → length ordinals ≤ count →
    ordinals ≡ range_with_len first (length ordinals) → length births ≡ length ordinals → ((i : ℕ) → i < length births → get_or births i 0 ≡ born) → IsRun plan table unit ordinals births
run-born plan table unit born first count ordinals births early rows few are many each = record {
  same_length = many;
  lies =
      λ i below.
      let at : get_or ordinals i 0 ≡ first + i = ap (λ (xs : List ℕ). get_or xs i 0) are ∙ get_or-range_with_len first (length ordinals) i 0 below in
      let when : get_or births i 0 ≡ born = each i (omega (arith, below, many)) in
      subst (λ (j : ℕ). LiesIn (table_of plan table).births (get_or births i 0) j) (sym at)
      (subst (λ (b : ℕ). LiesIn (table_of plan table).births b (first + i)) (sym when) (rows i (omega (arith, below, few))));
  born = λ i below. omega (arith, each i (omega (arith, below, many)), early);
}

-- the rows from one of them on
pub born-from : (plan : Project) (table born first count done some : ℕ) → AreBornAt plan table born first count → done + some ≤ count → AreBornAt plan table born (first + done) some
born-from plan table born first count done some rows within = λ i below.
    let at : first + (done + i) ≡ first + done + i = omega arith in
    subst (λ (j : ℕ). LiesIn (table_of plan table).births born j) at (rows (done + i) (omega (arith, below, within)))

-- the rows from one on up to another no later than its cohort ends are born with it
pub born-part : (plan : Project) (table born from until : ℕ) → LiesIn (table_of plan table).births born from →
    until ≤ first_ordinal (table_of plan table).births born + cohort_size (table_of plan table).births born → AreBornAt plan table born from (until - from)
born-part plan table born from until lies within = λ i below.
    record { begun = omega (arith, lies.begun); not_ended = omega (arith, below, within) }

-- a row that is born by a unit is born at it or before
pub LiesIn-by : (births : Births) (born unit ordinal : ℕ) → LiesIn births born ordinal → ordinal < born_count births unit → born ≤ unit
LiesIn-by births born unit ordinal lies early = elim (cases_lt unit born) [
  | inr by ↦ by
  | inl later ↦ absurd (omega (arith, lies.begun, early, first_ordinal-le births (unit + 1) born (omega (arith, later))))
]

-- ---- steps

-- what is asked for rows up to one of a table's that are born by a unit costs no more than the deaths of all of them
pub steps-places : (plan : Project) → IsInLimits plan → (table : ℕ) → table < length plan.schema.tables → (born from before after : ℕ) → from ≤ born →
    after ≤ before + from * asked_for_death plan table → after ≤ before + death_cost (layout_of plan).tables table * born
steps-places plan limits table there born from before after few within =
    omega (
      arith,
      within,
      mul-le from (asked_for_death plan table) born (death_cost (layout_of plan).tables table) few (asked_for_death-cost plan limits table there),
      mul_comm (death_cost (layout_of plan).tables table) born,
    )

-- one more place
pub places_of-more : (plan : Project) (table unit : ℕ) (ordinals places : List ℕ) (i place : ℕ) → i < length ordinals →
    places ≡ places_of plan table unit (take i ordinals) → place ≡ place_of (generator_of plan) table unit (get_or ordinals i 0) →
    places ++ place ∷ [] ≡ places_of plan table unit (take (i + 1) ordinals)
places_of-more plan table unit ordinals places i place below so_far is =
    ap (λ (xs : List ℕ). xs ++ place ∷ []) so_far
    ∙ ap (λ (n : ℕ). places_of plan table unit (take i ordinals) ++ n ∷ []) is
    ∙ sym (map_more (place_of (generator_of plan) table unit) ordinals i 0 below)
