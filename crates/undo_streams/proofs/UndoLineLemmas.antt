-- The lines of an undo text, by the ordinals of the rows.
use Rattle.std.proofs.Common.{◌≡◌, ℕ, zero, suc, ◌+◌, ◌-◌, ◌*◌, ◌<◌, ◌≤◌, ◌==◌, Bool, true, false, ◌&&◌, All, List, [], ◌∷◌, ◌++◌, length, filter, map, take, drop, get_or, min, Option, Some, None, inl, inr, eq-eqb, ne_eqb, refl, ap, ap₂, arith, subst, sym, ◌∙◌, append-nil, length-append, append_assoc}
use Rattle.std.specs.List.{concat, flat_map, range_with_len, zip}
use Rattle.std.proofs.Math.Nat.{add-mul, mul-le-mul_right}
use Rattle.std.proofs.lemmas.Bool.{cases_Bool, cases_eq, cases_lt, false≢true, le-ltb, lt-ltb}
use Rattle.std.proofs.lemmas.List.{length-map}
use Rattle.std.proofs.lemmas.List.Folds.{concat-append}
use Rattle.std.proofs.lemmas.List.FromFn.{get_or-range_with_len, length-range_with_len}
use Rattle.std.proofs.lemmas.List.Kept.{IsStrictlyIncreasing-filter}
use Rattle.std.specs.List.Sorted.{IsStrictlyIncreasing}
use Rattle.cohort_sizes.specs.Births.{Births, born_count, cohort_size, first_ordinal}
use Rattle.schema_facts.specs.Dictionaries.{Project}
use Rattle.schema_plan.specs.Limits.{IsInLimits}
use Rattle.life_intervals.specs.Generator.{Generator, generator_of, last_unit, table_of}
use Rattle.life_intervals.specs.Intervals.{change_unit, changing, death, dying, is_after, is_at, is_live, living, newborn, row_at}
use Rattle.life_intervals.specs.Rows.{Row}
use Rattle.life_intervals.specs.Simulation.{holds_row, rows_at}
use Rattle.life_intervals.specs.Sound.{AreSound}
use Rattle.life_intervals.specs.Streams.{deleted, inserted, updated}
use Rattle.life_intervals.proofs.AcceptedLemmas.{AreSound-accepted, place-below}
use Rattle.life_intervals.proofs.LifeLemmas.{death-later}
use Rattle.life_intervals.proofs.LiveLemmas.{holds_row-live}
use Rattle.life_intervals.proofs.SimulationLemmas.{rows_at-rows_of}
use Rattle.life_intervals.proofs.StreamLemmas.{deleted-dying, inserted-newborn, updated-changing}
use Rattle.row_lines.specs.Runs.{RunLinesOf}
use Rattle.undo_streams.specs.Packages.{AreChanges, most_bytes, ordinals_of}
use Rattle.undo_streams.specs.Parts.{adding, adding_each, dropping, dropping_each, setting, setting_each, taken_by}
use Rattle.undo_streams.specs.declared.changes.Changes.{Changes}
use Rattle.undo_streams.proofs.ListLemmas.{part, part-append, part-map, part-min}
use Rattle.undo_streams.specs.UndoText.{place_of, undo_lines, undo_lines_of, updated_before}

-- ---- what passes a test

All-cons : {A : Type 0} (P : A → Type 0) (x : A) (xs : List A) → P x → All P xs → All P (x ∷ xs)
All-cons P x xs here rest zero d below = here
All-cons P x xs here rest (suc i) d below = rest i d (omega (arith, below))

-- what holds of each number of a range that passes
pub filter-All : (P : ℕ → Type 0) (p : ℕ → Bool) (a n : ℕ) → ((j : ℕ) → a ≤ j → j < a + n → p j ≡ true → P j) → All P (filter p (range_with_len a n))
filter-All P p a zero each = λ i d below. absurd (omega (arith, below))
filter-All P p a (suc n) each =
    let rest : All P (filter p (range_with_len (a + 1) n)) = filter-All P p (a + 1) n (λ j low high. each j (omega (arith, low)) (omega (arith, high))) in
    elim (cases_Bool (p a)) [
      | inl passes ↦ rw passes (All-cons P a (filter p (range_with_len (a + 1) n)) (each a (omega arith) (omega arith) passes) rest)
      | inr fails ↦ rw fails rest
    ]

filter-same : (p q : ℕ → Bool) (a n : ℕ) → ((j : ℕ) → a ≤ j → j < a + n → p j ≡ q j) → filter p (range_with_len a n) ≡ filter q (range_with_len a n)
filter-same p q a zero same = refl
filter-same p q a (suc n) same =
    let rest : filter p (range_with_len (a + 1) n) ≡ filter q (range_with_len (a + 1) n) = filter-same p q (a + 1) n (λ j low high. same j (omega (arith, low)) (omega (arith, high))) in
    let here : p a ≡ q a = same a (omega arith) (omega arith) in
    elim (cases_Bool (q a)) [
      | inl passes ↦ rw (here, passes) (ap (λ (js : List ℕ). a ∷ js) rest)
      | inr fails ↦ rw (here, fails) rest
    ]

filter-filter : (p q : ℕ → Bool) (xs : List ℕ) → filter q (filter p xs) ≡ filter (λ x. p x && q x) xs
filter-filter p q [] = refl
filter-filter p q (x ∷ xs) = elim (cases_Bool (p x)) [
  | inr fails ↦ rw fails (filter-filter p q xs)
  | inl passes ↦ elim (cases_Bool (q x)) [
    | inl both ↦ rw (passes, both) (ap (λ (ys : List ℕ). x ∷ ys) (filter-filter p q xs))
    | inr one ↦ rw (passes, one) (filter-filter p q xs)
  ]
]

and-first : (p q : Bool) → (p && q) ≡ true → p ≡ true
and-first true q both = refl
and-first false q both = absurd (false≢true both)

and-false : (p : Bool) → (p && false) ≡ false
and-false true = refl
and-false false = refl

-- ---- texts of parts

concat-map : (f : ℕ → List ℕ) (xs : List ℕ) → concat (map f xs) ≡ flat_map f xs
concat-map f [] = refl
concat-map f (x ∷ xs) = ap (λ (text : List ℕ). f x ++ text) (concat-map f xs)

concat-part : (f : ℕ → List ℕ) (xs : List ℕ) (first end : ℕ) → first ≤ end → (others behind n : ℕ) → others ≡ behind → n ≡ length xs →
    concat (part (map f xs) (first - others) (end - others)) ≡ flat_map f (part xs (taken_by first behind n) (taken_by end behind n))
concat-part f xs first end ordered others behind n same all =
    ap concat (part-map f xs (first - others) (end - others))
    ∙ concat-map f (part xs (first - others) (end - others))
    ∙ ap (λ (k : ℕ). flat_map f (part xs (first - k) (end - k))) same
    ∙ ap (flat_map f) (part-min xs (first - behind) (end - behind) n (omega (arith, ordered)) all)

-- a part of a range
pub part-range : (a size first end : ℕ) → first ≤ end → end ≤ size → part (range_with_len a size) first end ≡ range_with_len (a + first) (end - first)
part-range a size zero end ordered within =
    let start : a ≡ a + 0 = omega arith in
    front a size (end - 0) (omega (arith, within)) ∙ ap (λ (b : ℕ). range_with_len b (end - 0)) start
  where
    front : (a size n : ℕ) → n ≤ size → take n (range_with_len a size) ≡ range_with_len a n
    front a size zero within = refl
    front a zero (suc n) within = absurd (omega (arith, within))
    front a (suc size) (suc n) within = ap (λ (js : List ℕ). a ∷ js) (front (a + 1) size n (omega (arith, within)))
part-range a zero (suc first) end ordered within = absurd (omega (arith, ordered, within))
part-range a (suc size) (suc first) zero ordered within = absurd (omega (arith, ordered))
part-range a (suc size) (suc first) (suc end) ordered within =
    let less : suc end - suc first ≡ end - first = omega arith in
    let start : a + 1 + first ≡ a + suc first = omega arith in
    ap (λ (n : ℕ). take n (drop first (range_with_len (a + 1) size))) less
    ∙ part-range (a + 1) size first end (omega (arith, ordered)) (omega (arith, within))
    ∙ ap (λ (b : ℕ). range_with_len b (end - first)) start
    ∙ ap (range_with_len (a + suc first)) (sym less)

range-rising : (a n : ℕ) → IsStrictlyIncreasing (range_with_len a n)
range-rising a n k below =
    let inside : k + 1 < n = omega (arith, below, length-range_with_len a n) in
    omega (arith, get_or-range_with_len a n k 0 (omega (arith, inside)), get_or-range_with_len a n (k + 1) 0 inside)

-- how many lines of three parts stand from a position up to another: no more than there are positions, and lines
taken-two : (x a b : ℕ) → min x a + min (x - a) b ≡ min x (a + b)
taken-two x a b = omega arith

taken-grows : (first end n : ℕ) → first ≤ end → min end n - min first n ≤ min (end - first) n
taken-grows first end n ordered = omega (arith, ordered)

taken-ordered : (first end others n : ℕ) → first ≤ end → taken_by first others n ≤ taken_by end others n
taken-ordered first end others n ordered = omega (arith, ordered)

pub taken-few : (first end a b c : ℕ) → first ≤ end →
    ((taken_by end 0 a - taken_by first 0 a) + (taken_by end a b - taken_by first a b)) + (taken_by end (a + b) c - taken_by first (a + b) c) ≤ min (end - first) ((a + b) + c)
taken-few first end a b c ordered =
    let begun : first - 0 ≡ first = omega arith in
    let ended : end - 0 ≡ end = omega arith in
    omega (
      arith,
      ap (λ (k : ℕ). min k a) begun,
      ap (λ (k : ℕ). min k a) ended,
      taken-ordered first end 0 a ordered,
      taken-ordered first end a b ordered,
      taken-ordered first end (a + b) c ordered,
      taken-two first a b,
      taken-two end a b,
      taken-two first (a + b) c,
      taken-two end (a + b) c,
      taken-grows first end ((a + b) + c) ordered,
    )

-- ---- rows of ordinals

map-map : {A B C : Type 0} (f : B → C) (h : A → B) (xs : List A) → map f (map h xs) ≡ map (λ x. f (h x)) xs
map-map f h [] = refl
map-map f h (x ∷ xs) = ap (λ ys. f (h x) ∷ ys) (map-map f h xs)

pub ordinals-rows : (generator : Generator) (table unit : ℕ) (xs : List ℕ) → ordinals_of (map (row_at generator table unit) xs) ≡ xs
ordinals-rows generator table unit [] = refl
ordinals-rows generator table unit (x ∷ xs) = ap (λ (ys : List ℕ). x ∷ ys) (ordinals-rows generator table unit xs)

filter-rows : (generator : Generator) (table unit : ℕ) (p : ℕ → Bool) (xs : List ℕ) →
    filter (λ (row : Row). p row.ordinal) (map (row_at generator table unit) xs) ≡ map (row_at generator table unit) (filter p xs)
filter-rows generator table unit p [] = refl
filter-rows generator table unit p (x ∷ xs) = elim (cases_Bool (p x)) [
  | inl passes ↦ rw passes (ap (λ (rows : List Row). row_at generator table unit x ∷ rows) (filter-rows generator table unit p xs))
  | inr fails ↦ rw fails (filter-rows generator table unit p xs)
]

abbrev passing_rows : Generator → ℕ → ℕ → (ℕ → Bool) → ℕ → ℕ → List Row
passing_rows generator table unit p a n = map (row_at generator table unit) (filter p (range_with_len a n))

holds-outside : (generator : Generator) (table unit : ℕ) (p : ℕ → Bool) (a n ordinal : ℕ) → ((k : ℕ) → k < n → a + k ≡ ordinal → ⊥) → holds_row (passing_rows generator table unit p a n) ordinal ≡ false
holds-outside generator table unit p a zero ordinal apart = refl
holds-outside generator table unit p a (suc n) ordinal apart =
    let rest : holds_row (passing_rows generator table unit p (a + 1) n) ordinal ≡ false =
    holds-outside generator table unit p (a + 1) n ordinal (λ k below same. apart (k + 1) (omega arith) (omega (arith, same))) in
    elim (cases_Bool (p a)) [
      | inl passes ↦ rw (passes, ne_eqb a ordinal (λ e. apart 0 (omega arith) (omega (arith, e)))) rest
      | inr fails ↦ rw fails rest
    ]

-- such rows have an ordinal of the range where it passes
holds-inside : (generator : Generator) (table unit : ℕ) (p : ℕ → Bool) (a n ordinal : ℕ) → a ≤ ordinal → ordinal < a + n → holds_row (passing_rows generator table unit p a n) ordinal ≡ p ordinal
holds-inside generator table unit p a zero ordinal from below = absurd (omega arith)
holds-inside generator table unit p a (suc n) ordinal from below = elim (cases_lt a ordinal) [
  | inl later ↦
      let rest : holds_row (passing_rows generator table unit p (a + 1) n) ordinal ≡ p ordinal = holds-inside generator table unit p (a + 1) n ordinal (omega arith) (omega arith) in
      elim (cases_Bool (p a)) [
        | inl passes ↦ rw (passes, ne_eqb a ordinal (λ e. omega arith)) rest
        | inr fails ↦ rw fails rest
      ]
  | inr here ↦
      let same : a ≡ ordinal = omega arith in
      elim (cases_Bool (p a)) [
        | inl passes ↦ rw (passes, eq-eqb a ordinal same) (sym (ap p (sym same) ∙ passes))
        | inr fails ↦
            rw fails (holds-outside generator table unit p (a + 1) n ordinal (λ k below e. omega (arith, e, same)) ∙ sym (ap p (sym same) ∙ fails))
      ]
]

-- ---- deaths

after-before : (death : Option ℕ) (unit : ℕ) → is_after death unit ≡ true → is_after death (unit - 1) ≡ true
after-before None unit after = refl
after-before (Some death) unit after = elim (cases_lt unit death) [
  | inl later ↦ lt-ltb (unit - 1) death (omega (arith, later))
  | inr over ↦ absurd (false≢true (sym (le-ltb unit death over) ∙ after))
]

at-before : (death : Option ℕ) (unit : ℕ) → 1 ≤ unit → is_at death unit ≡ true → is_after death (unit - 1) ≡ true
at-before None unit some at = absurd (false≢true at)
at-before (Some death) unit some at = elim (cases_eq death unit) [
  | inl same ↦ lt-ltb (unit - 1) death (omega (arith, same, some))
  | inr other ↦ absurd (false≢true (sym (ne_eqb death unit other) ∙ at))
]

updated_before-is : (generator : Generator) (table unit : ℕ) → 1 ≤ unit →
    updated_before generator table unit ≡ filter (λ (row : Row). holds_row (updated generator table unit) row.ordinal) (rows_at generator table (unit - 1))
unfolding updated_before
updated_before-is generator table zero some = absurd (omega (arith, some))
updated_before-is generator table (suc unit) some =
    let earlier : suc unit - 1 ≡ unit = omega arith in
    sym (ap (λ (u : ℕ). filter (λ (row : Row). holds_row (updated generator table (suc unit)) row.ordinal) (rows_at generator table u)) earlier)

-- ---- what a unit changes

filter-few : (p : ℕ → Bool) (xs : List ℕ) → length (filter p xs) ≤ length xs
filter-few p [] = omega arith
filter-few p (x ∷ xs) = elim (cases_Bool (p x)) [
  | inl passes ↦ rw passes (omega (arith, filter-few p xs))
  | inr fails ↦ rw fails (omega (arith, filter-few p xs))
]

pub changing-few : (plan : Project) (table unit : ℕ) → length (changing (generator_of plan) table unit) ≤ first_ordinal (table_of plan table).births unit
changing-few plan table unit =
    omega (
      arith,
      filter-few (λ ordinal. is_live (generator_of plan) table unit ordinal && change_unit (generator_of plan) table unit ordinal == unit) (range_with_len 0 (first_ordinal (table_of plan table).births unit)),
      length-range_with_len 0 (first_ordinal (table_of plan table).births unit),
    )

pub dying-few : (plan : Project) (table unit : ℕ) → length (dying (generator_of plan) table unit) ≤ first_ordinal (table_of plan table).births unit
dying-few plan table unit =
    omega (
      arith,
      filter-few (λ ordinal. is_at (death (generator_of plan) table unit ordinal) unit) (range_with_len 0 (first_ordinal (table_of plan table).births unit)),
      length-range_with_len 0 (first_ordinal (table_of plan table).births unit),
    )

module _ (plan : Project) (limits : IsInLimits plan) (table : ℕ) (there : table < length plan.schema.tables) (unit : ℕ) (later : 1 ≤ unit) (reached : unit ≤ last_unit plan) where
  abbrev generator : Generator
  generator = generator_of plan

  abbrev births : Births
  births = (table_of plan table).births

  abbrev before : RunLinesOf
  before = record { plan = plan; table = table; unit = unit - 1 }

  abbrev sound : AreSound (last_unit plan) generator.tables
  sound = AreSound-accepted plan limits

  born-before : born_count births (unit - 1) ≡ first_ordinal births unit
  born-before = let next : unit - 1 + 1 ≡ unit = omega (arith, later) in ap (first_ordinal births) next

  same-death : (ordinal : ℕ) → ordinal < first_ordinal births unit → death generator table unit ordinal ≡ death generator table (unit - 1) ordinal
  same-death ordinal born = death-later generator table (unit - 1) unit ordinal (omega (arith, born, born-before)) (omega arith)

  abbrev changes_at : ℕ → Bool
  changes_at ordinal = is_live generator table unit ordinal && change_unit generator table unit ordinal == unit

  live-before : (ordinal : ℕ) → ordinal < first_ordinal births unit → is_live generator table unit ordinal ≡ true → is_live generator table (unit - 1) ordinal ≡ true
  live-before ordinal born alive =
      ap (λ (d : Option ℕ). is_after d (unit - 1)) (sym (same-death ordinal born)) ∙ after-before (death generator table unit ordinal) unit alive

  -- the rows that it updates are born and alive at the unit before, and so are those that it deletes
  pub changing-born : All (λ ordinal. ordinal < born_count births (unit - 1)) (changing generator table unit)
  changing-born = filter-All (λ ordinal. ordinal < born_count births (unit - 1)) changes_at 0 (first_ordinal births unit) (λ j low high is. omega (arith, high, born-before))

  pub changing-live : All (λ ordinal. is_live generator table (unit - 1) ordinal ≡ true) (changing generator table unit)
  changing-live =
      filter-All (λ ordinal. is_live generator table (unit - 1) ordinal ≡ true) changes_at 0 (first_ordinal births unit)
      (λ j low high is. live-before j (omega (arith, high)) (and-first (is_live generator table unit j) (change_unit generator table unit j == unit) is))

  pub dying-born : All (λ ordinal. ordinal < born_count births (unit - 1)) (dying generator table unit)
  dying-born =
      filter-All (λ ordinal. ordinal < born_count births (unit - 1)) (λ ordinal. is_at (death generator table unit ordinal) unit) 0 (first_ordinal births unit)
      (λ j low high is. omega (arith, high, born-before))

  pub dying-live : All (λ ordinal. is_live generator table (unit - 1) ordinal ≡ true) (dying generator table unit)
  dying-live =
      filter-All (λ ordinal. is_live generator table (unit - 1) ordinal ≡ true) (λ ordinal. is_at (death generator table unit ordinal) unit) 0 (first_ordinal births unit)
      (λ j low high is.
      ap (λ (d : Option ℕ). is_after d (unit - 1)) (sym (same-death j (omega (arith, high)))) ∙ at-before (death generator table unit j) unit later is)

  pub deleted-ordinals : ordinals_of (deleted generator table unit) ≡ dying generator table unit
  deleted-ordinals =
      ap ordinals_of (deleted-dying (last_unit plan) generator sound table (place-below plan table there) unit reached)
      ∙ ordinals-rows generator table (unit - 1) (dying generator table unit)

  pub updated-ordinals : ordinals_of (updated generator table unit) ≡ changing generator table unit
  updated-ordinals =
      ap ordinals_of (updated-changing (last_unit plan) generator sound table (place-below plan table there) unit reached)
      ∙ ordinals-rows generator table unit (changing generator table unit)

  -- those that it deletes rise, and the table held each of them at the unit before
  pub deleted-rising : (ordinals : List ℕ) → ordinals ≡ ordinals_of (deleted generator table unit) → IsStrictlyIncreasing ordinals
  deleted-rising ordinals are =
      subst IsStrictlyIncreasing (sym (are ∙ deleted-ordinals))
      (IsStrictlyIncreasing-filter (λ ordinal. is_at (death generator table unit ordinal) unit) (range_with_len 0 (first_ordinal births unit))
      (range-rising 0 (first_ordinal births unit)))

  pub deleted-held : (ordinals : List ℕ) → ordinals ≡ ordinals_of (deleted generator table unit) → All (λ ordinal. holds_row (rows_at generator table (unit - 1)) ordinal ≡ true) ordinals
  deleted-held ordinals are =
      subst (λ (xs : List ℕ). All (λ ordinal. holds_row (rows_at generator table (unit - 1)) ordinal ≡ true) xs) (sym (are ∙ deleted-ordinals))
      (λ i d below.
      holds_row-live (last_unit plan) generator table (unit - 1) (get_or (dying generator table unit) i d) sound (omega (arith, reached)) (dying-born i d below)
      ∙ dying-live i d below)

  -- the rows that it updates are found among those at the unit before
  held-changes : (ordinal : ℕ) → ordinal < first_ordinal births unit → holds_row (updated generator table unit) ordinal ≡ changes_at ordinal
  held-changes ordinal born =
      ap (λ (rows : List Row). holds_row rows ordinal) (updated-changing (last_unit plan) generator sound table (place-below plan table there) unit reached)
      ∙ holds-inside generator table unit changes_at 0 (first_ordinal births unit) ordinal (omega arith) (omega (arith, born))

  both-changes : (ordinal : ℕ) → ordinal < first_ordinal births unit →
      (is_live generator table (unit - 1) ordinal && holds_row (updated generator table unit) ordinal) ≡ changes_at ordinal
  both-changes ordinal born =
      ap (λ (b : Bool). is_live generator table (unit - 1) ordinal && b) (held-changes ordinal born)
      ∙ elim (cases_Bool (changes_at ordinal)) [
        | inl changes ↦
            let alive : is_live generator table (unit - 1) ordinal ≡ true =
            live-before ordinal born (and-first (is_live generator table unit ordinal) (change_unit generator table unit ordinal == unit) changes) in
            ap (λ (b : Bool). b && changes_at ordinal) alive
        | inr rests ↦ ap (λ (b : Bool). is_live generator table (unit - 1) ordinal && b) rests ∙ and-false (is_live generator table (unit - 1) ordinal) ∙ sym rests
      ]

  pub updated_before-changing : updated_before generator table unit ≡ map (row_at generator table (unit - 1)) (changing generator table unit)
  updated_before-changing =
      let held : ℕ → Bool = holds_row (updated generator table unit) in
      let count : ℕ = born_count births (unit - 1) in
      updated_before-is generator table unit later
      ∙ ap (filter (λ (row : Row). held row.ordinal)) (rows_at-rows_of (last_unit plan) generator table (unit - 1) sound (omega (arith, reached)))
      ∙ filter-rows generator table (unit - 1) held (living generator table (unit - 1))
      ∙ ap (map (row_at generator table (unit - 1)))
      (filter-filter (is_live generator table (unit - 1)) held (range_with_len 0 count)
      ∙ filter-same (λ j. is_live generator table (unit - 1) j && held j) changes_at 0 count (λ j low high. both-changes j (omega (arith, high, born-before)))
      ∙ ap (λ (n : ℕ). filter changes_at (range_with_len 0 n)) born-before)

  -- ---- its lines

  abbrev adding_back : ℕ → List ℕ
  adding_back ordinal = adding before ordinal (place_of generator table (unit - 1) ordinal)

  pub lines-parts : undo_lines_of plan unit table
      ≡ (map (dropping plan table) (newborn generator table unit) ++ map (setting before) (changing generator table unit)) ++ map adding_back (dying generator table unit)
  unfolding undo_lines
  lines-parts =
      ap₂ (λ (xs ys : List (List ℕ)). xs ++ ys)
      (ap₂ (λ (xs ys : List (List ℕ)). xs ++ ys)
      (ap (map _) (inserted-newborn (last_unit plan) generator sound table (place-below plan table there) unit reached) ∙ map-map _ (row_at generator table unit) (newborn generator table unit))
      (ap (map _) updated_before-changing ∙ map-map _ (row_at generator table (unit - 1)) (changing generator table unit)))
      (ap (map _) (deleted-dying (last_unit plan) generator sound table (place-below plan table there) unit reached)
      ∙ map-map _ (row_at generator table (unit - 1)) (dying generator table unit))

  pub lines-count : length (undo_lines_of plan unit table) ≡ (cohort_size births unit + length (changing generator table unit)) + length (dying generator table unit)
  lines-count =
      omega (
        arith,
        ap (λ (lines : List (List ℕ)). length lines) lines-parts,
        length-append (map (dropping plan table) (newborn generator table unit) ++ map (setting before) (changing generator table unit)) (map adding_back (dying generator table unit)),
        length-append (map (dropping plan table) (newborn generator table unit)) (map (setting before) (changing generator table unit)),
        length-map (newborn generator table unit) (dropping plan table),
        length-map (changing generator table unit) (setting before),
        length-map (dying generator table unit) adding_back,
        length-range_with_len (first_ordinal births unit) (cohort_size births unit),
      )

  -- the places beside the rows
  pub adding-each : (ordinals : List ℕ) → adding_each before ordinals (map (place_of generator table (unit - 1)) ordinals) ≡ flat_map adding_back ordinals
  adding-each [] = refl
  adding-each (ordinal ∷ ordinals) = ap (λ (text : List ℕ). adding_back ordinal ++ text) (adding-each ordinals)

  -- the text of a part of its lines
  pub part-text : (first end : ℕ) → first ≤ end →
      let born : ℕ = cohort_size births unit in
      let others : ℕ = born + length (changing generator table unit) in
      concat (part (undo_lines_of plan unit table) first end)
      ≡ (flat_map (dropping plan table) (part (newborn generator table unit) (taken_by first 0 born) (taken_by end 0 born))
      ++ flat_map (setting before) (part (changing generator table unit) (taken_by first born (length (changing generator table unit))) (taken_by end born (length (changing generator table unit)))))
      ++ flat_map adding_back (part (dying generator table unit) (taken_by first others (length (dying generator table unit))) (taken_by end others (length (dying generator table unit))))
  part-text first end ordered =
      let born : ℕ = cohort_size births unit in
      let drops : List (List ℕ) = map (dropping plan table) (newborn generator table unit) in
      let sets : List (List ℕ) = map (setting before) (changing generator table unit) in
      let adds : List (List ℕ) = map adding_back (dying generator table unit) in
      let drop_count : length drops ≡ born = omega (arith, length-map (newborn generator table unit) (dropping plan table), length-range_with_len (first_ordinal births unit) born) in
      let set_count : length sets ≡ length (changing generator table unit) = length-map (changing generator table unit) (setting before) in
      let front_count : length (drops ++ sets) ≡ born + length (changing generator table unit) = omega (arith, length-append drops sets, drop_count, set_count) in
      let begun : first ≡ first - 0 = omega arith in
      let ended : end ≡ end - 0 = omega arith in
      ap (λ (lines : List (List ℕ)). concat (part lines first end)) lines-parts
      ∙ ap concat (part-append (drops ++ sets) adds first end ordered)
      ∙ concat-append (part (drops ++ sets) first end) (part adds (first - length (drops ++ sets)) (end - length (drops ++ sets)))
      ∙ ap₂ (λ (x y : List ℕ). x ++ y)
      (ap concat (part-append drops sets first end ordered)
      ∙ concat-append (part drops first end) (part sets (first - length drops) (end - length drops))
      ∙ ap₂ (λ (x y : List ℕ). x ++ y)
      (ap (λ (k : ℕ). concat (part drops k end)) begun ∙ ap (λ (k : ℕ). concat (part drops (first - 0) k)) ended
      ∙ concat-part (dropping plan table) (newborn generator table unit) first end ordered 0 0 born refl (sym (length-range_with_len (first_ordinal births unit) born)))
      (concat-part (setting before) (changing generator table unit) first end ordered (length drops) born (length (changing generator table unit)) drop_count refl))
      (concat-part adding_back (dying generator table unit) first end ordered (length (drops ++ sets)) (born + length (changing generator table unit)) (length (dying generator table unit)) front_count refl)

  -- ---- the lists that tell the changes

  module _ (changes : Changes) (are : AreChanges plan table unit changes) where
    deleted-dying_list : changes.deleted.now ≡ dying generator table unit
    deleted-dying_list = are.deleted ∙ deleted-ordinals

    updated-changing_list : changes.updated.now ≡ changing generator table unit
    updated-changing_list = are.updated ∙ updated-ordinals

    -- the rows are born and alive at the unit before
    pub updated-born : (lines : RunLinesOf) → lines ≡ before → All (λ ordinal. ordinal < born_count (table_of lines.plan lines.table).births lines.unit) changes.updated.now
    updated-born lines is =
        subst (λ (of : RunLinesOf). All (λ ordinal. ordinal < born_count (table_of of.plan of.table).births of.unit) changes.updated.now) (sym is)
        (subst (λ (xs : List ℕ). All (λ ordinal. ordinal < born_count births (unit - 1)) xs) (sym updated-changing_list) changing-born)

    pub updated-live : (lines : RunLinesOf) → lines ≡ before → All (λ ordinal. is_live (generator_of lines.plan) lines.table lines.unit ordinal ≡ true) changes.updated.now
    updated-live lines is =
        subst (λ (of : RunLinesOf). All (λ ordinal. is_live (generator_of of.plan) of.table of.unit ordinal ≡ true) changes.updated.now) (sym is)
        (subst (λ (xs : List ℕ). All (λ ordinal. is_live generator table (unit - 1) ordinal ≡ true) xs) (sym updated-changing_list) changing-live)

    pub deleted-born : (lines : RunLinesOf) → lines ≡ before → All (λ ordinal. ordinal < born_count (table_of lines.plan lines.table).births lines.unit) changes.deleted.now
    deleted-born lines is =
        subst (λ (of : RunLinesOf). All (λ ordinal. ordinal < born_count (table_of of.plan of.table).births of.unit) changes.deleted.now) (sym is)
        (subst (λ (xs : List ℕ). All (λ ordinal. ordinal < born_count births (unit - 1)) xs) (sym deleted-dying_list) dying-born)

    pub deleted-live : (lines : RunLinesOf) → lines ≡ before → All (λ ordinal. is_live (generator_of lines.plan) lines.table lines.unit ordinal ≡ true) changes.deleted.now
    deleted-live lines is =
        subst (λ (of : RunLinesOf). All (λ ordinal. is_live (generator_of of.plan) of.table of.unit ordinal ≡ true) changes.deleted.now) (sym is)
        (subst (λ (xs : List ℕ). All (λ ordinal. is_live generator table (unit - 1) ordinal ≡ true) xs) (sym deleted-dying_list) dying-live)

    pub count-lists : length (undo_lines_of plan unit table) ≡ (changes.inserted.size + length changes.updated.now) + length changes.deleted.now
    count-lists =
        omega (
          arith,
          lines-count,
          ap (λ (xs : List ℕ). length xs) deleted-dying_list,
          ap (λ (xs : List ℕ). length xs) updated-changing_list,
          are.inserted.size,
        )

    -- a page has room for the lines of the three parts
    pub room-parts : (first end room : ℕ) → first ≤ end → min (end - first) (length (undo_lines_of plan unit table)) * most_bytes plan table ≤ room →
        let most : ℕ = most_bytes plan table in
        let born : ℕ = changes.inserted.size in
        let set : ℕ = length changes.updated.now in
        let added : ℕ = length changes.deleted.now in
        ((taken_by end 0 born - taken_by first 0 born) * most + (taken_by end born set - taken_by first born set) * most)
        + (taken_by end (born + set) added - taken_by first (born + set) added) * most ≤ room
    room-parts first end room ordered fits =
        let most : ℕ = most_bytes plan table in
        let born : ℕ = changes.inserted.size in
        let set : ℕ = length changes.updated.now in
        let added : ℕ = length changes.deleted.now in
        let drops : ℕ = taken_by end 0 born - taken_by first 0 born in
        let sets : ℕ = taken_by end born set - taken_by first born set in
        let adds : ℕ = taken_by end (born + set) added - taken_by first (born + set) added in
        let few : drops + sets + adds ≤ min (end - first) (length (undo_lines_of plan unit table)) =
        omega (arith, taken-few first end born set added ordered, ap (min (end - first)) count-lists) in
        omega (arith, fits, mul-le-mul_right most few, add-mul (drops + sets) adds most, add-mul drops sets most)

    -- the text of a part of the lines, by the lists
    pub text-lists : (lines : RunLinesOf) → lines ≡ before → (first end : ℕ) → first ≤ end →
        let born : ℕ = changes.inserted.size in
        let set : ℕ = length changes.updated.now in
        let added : ℕ = length changes.deleted.now in
        (dropping_each plan table (range_with_len (changes.inserted.first + taken_by first 0 born) (taken_by end 0 born - taken_by first 0 born))
        ++ setting_each lines (part changes.updated.now (taken_by first born set) (taken_by end born set)))
        ++ adding_each lines (part changes.deleted.now (taken_by first (born + set) added) (taken_by end (born + set) added))
        (part changes.places.now (taken_by first (born + set) added) (taken_by end (born + set) added))
        ≡ concat (part (undo_lines_of plan unit table) first end)
    text-lists lines is first end ordered =
        let born : ℕ = changes.inserted.size in
        let set : ℕ = length changes.updated.now in
        let added : ℕ = length changes.deleted.now in
        let from : ℕ = taken_by first 0 born in
        let until : ℕ = taken_by end 0 born in
        let set_part : List ℕ = part changes.updated.now (taken_by first born set) (taken_by end born set) in
        let begun : ℕ = taken_by first (born + set) added in
        let ended : ℕ = taken_by end (born + set) added in
        let place : ℕ → ℕ = place_of generator table (unit - 1) in
        let drop_text : List ℕ = dropping_each plan table (range_with_len (changes.inserted.first + from) (until - from)) in
        let text : ℕ → List ℕ → List ℕ → List ℕ = λ size all gone.
        (flat_map (dropping plan table) (part (newborn generator table unit) (taken_by first 0 size) (taken_by end 0 size))
        ++ flat_map (setting before) (part all (taken_by first size (length all)) (taken_by end size (length all))))
        ++ flat_map adding_back (part gone (taken_by first (size + length all) (length gone)) (taken_by end (size + length all) (length gone))) in
        ap₂ (λ (x y : List ℕ). x ++ y)
        (ap₂ (λ (x y : List ℕ). x ++ y)
        (sym (ap (flat_map (dropping plan table)) (ap (λ (n : ℕ). part (range_with_len (first_ordinal births unit) n) from until) (sym are.inserted.size)
        ∙ part-range (first_ordinal births unit) born from until (taken-ordered first end 0 born ordered) (omega arith)
        ∙ ap (λ (n : ℕ). range_with_len (n + from) (until - from)) (sym are.inserted.first))))
        (ap (λ (of : RunLinesOf). setting_each of set_part) is))
        (ap (λ (of : RunLinesOf). adding_each of (part changes.deleted.now begun ended) (part changes.places.now begun ended)) is
        ∙ ap (adding_each before (part changes.deleted.now begun ended)) (ap (λ (xs : List ℕ). part xs begun ended) are.places ∙ part-map place changes.deleted.now begun ended)
        ∙ adding-each (part changes.deleted.now begun ended))
        ∙ ap (λ (n : ℕ). text n changes.updated.now changes.deleted.now) are.inserted.size
        ∙ ap (λ (xs : List ℕ). text (cohort_size births unit) xs changes.deleted.now) updated-changing_list
        ∙ ap (text (cohort_size births unit) (changing generator table unit)) deleted-dying_list
        ∙ sym (part-text first end ordered)
