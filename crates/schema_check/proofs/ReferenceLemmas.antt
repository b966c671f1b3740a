-- What the rules ask of references, as the code asks it.
use Rattle.std.proofs.Common.{◌≡◌, ℕ, suc, ◌+◌, ◌*◌, ◌-◌, ◌<◌, ◌≤◌, ◌==◌, Bool, true, false, inl, inr, ◌||◌, List, length, map, min, ltb, nat_le, nat_lt, zero-add, Option, Some, None, refl, sym, ap, ◌∙◌, arith}
use Rattle.std.specs.List.{list_all, range_with_len}
use Rattle.std.proofs.lemmas.Bool.{cases_lt, le-leb, le-ltb, lt-leb, lt-ltb, ltb-false, ltb-true}
use Rattle.std.specs.Option.{option_map_or}
use Rattle.std.proofs.lemmas.List.{get_or_past, length-map}
use Rattle.std.proofs.lemmas.List.FromFn.{get_or-map-range_with_len, get_or-range_with_len, length-map-range_with_len, length-range_with_len}
use Rattle.std.proofs.lemmas.List.Folds.{list_all_at}
use Rattle.std.proofs.lemmas.List.Sums.{list_all-from_AllPass}
use Rattle.cohort_sizes.specs.Births.{Births, born_count, cohort_size, first_ordinal}
use Rattle.schema_facts.specs.declared.facts.TableFacts.{TableFacts}
use Rattle.schema_facts.specs.declared.lineage.Lineage.{Lineage}
use Rattle.schema_facts.specs.Capped.{capped_facts, capped_lineage, first_facts}
use Rattle.schema_facts.specs.Dictionaries.{Project}
use Rattle.schema_facts.specs.Layout.{TableLayout, layout_of, table_layout}
use Rattle.schema_facts.specs.Lineage.{endless, lineage_at, lineages, sure_life}
use Rattle.schema_facts.specs.References.{window_start}
use Rattle.schema_plan.specs.Rules.{has_parent_row}
use Rattle.cohort_sizes.proofs.StretchLemmas.{first_ordinal-stretch}
use Rattle.schema_facts.specs.TableFacts.{facts_at}
use Rattle.cohort_sizes.proofs.CohortLemmas.{first_ordinal-le}
use Rattle.schema_check.proofs.FromTests.{passes_each}
use Rattle.schema_facts.proofs.LineageLemmas.{length-lineages}
use Rattle.schema_facts.proofs.Lists.{map-map}

-- ---- the sure life of the first tables

-- the sure life of one of the first 64 tables, by what is known of them
pub sure_life-first : (project : Project) (place : ℕ) → place < 64 → (lineage_at (map (λ (facts : TableFacts). facts.lineage) (first_facts project)) place).sure_life ≡ sure_life (layout_of project).tables place
sure_life-first project place few =
    ap (λ given. (lineage_at given place).sure_life) (map-map (λ (facts : TableFacts). facts.lineage) (λ p. capped_facts (facts_at (layout_of project) p)) (range_with_len 0 (min count 64)))
    ∙ of_test (ltb place count) refl
  where
    count : ℕ
    count = length project.schema.tables

    layouts : List TableLayout
    layouts = (layout_of project).tables

    known : ℕ → Lineage
    known p = capped_lineage (lineage_at (lineages layouts) p)

    of_test : (within : Bool) → ltb place count ≡ within → (lineage_at (map known (range_with_len 0 (min count 64))) place).sure_life ≡ sure_life layouts place
    of_test true h =
        let before = ltb-true place count h in
        ap (λ (lineage : Lineage). lineage.sure_life) (get_or-map-range_with_len known 0 (min count 64) place place endless (omega arith) (omega arith))
    of_test false h =
        let past = ltb-false place count h in
        ap (λ (lineage : Lineage). lineage.sure_life)
        (get_or_past (map known (range_with_len 0 (min count 64))) place endless (omega (arith, length-map-range_with_len known 0 (min count 64)))
        ∙ sym (get_or_past (lineages layouts) place endless (omega (arith, length-lineages layouts, length-map project.schema.tables (table_layout project.dictionaries project.schema.tables)))))

-- ---- rows to refer to

-- the last unit before another at which rows are born; None where none are
abbrev pub IsLatest : Births → ℕ → Option ℕ → Type 0
IsLatest births unit None = (u : ℕ) → u < unit → cohort_size births u ≡ 0
IsLatest births unit (Some latest) =
    (latest < unit) × (0 < cohort_size births latest) × ((u : ℕ) → latest < u → u < unit → cohort_size births u ≡ 0)

-- one unit on, where rows are born at it and where none are
pub IsLatest-some : (births : Births) (unit : ℕ) → 0 < cohort_size births unit → IsLatest births (unit + 1) (Some unit)
IsLatest-some births unit some = (omega arith, some, λ u past below. absurd (omega (arith, past, below)))

pub IsLatest-none : (births : Births) (unit : ℕ) (latest : Option ℕ) → IsLatest births unit latest → cohort_size births unit ≡ 0 → IsLatest births (unit + 1) latest
IsLatest-none births unit None is none =
    λ u below. elim (cases_lt u unit) [
      | inl before ↦ is u before
      | inr after ↦
          let same : u ≡ unit = omega (arith, after, below) in
          ap (cohort_size births) same ∙ none
    ]
IsLatest-none births unit (Some latest) is none = (
  omega (arith, is.0),
  is.1,
  λ u past below. elim (cases_lt u unit) [
    | inl before ↦ is.2 u past before
    | inr after ↦
        let same : u ≡ unit = omega (arith, after, below) in
        ap (cohort_size births) same ∙ none
  ],
)

-- where none are born from a unit up to another, as many are born before both
none_between : (births : Births) (from unit : ℕ) → from ≤ unit → ((u : ℕ) → from ≤ u → u < unit → cohort_size births u ≡ 0) → first_ordinal births unit ≡ first_ordinal births from
none_between births from unit within none =
    let at : from + (unit - from) ≡ unit = omega (arith, within) in
    let grown = first_ordinal-stretch births from 0 (unit - from) (λ u begun below. none u begun (omega (arith, below, at))) in
    let zeros : (unit - from) * 0 ≡ 0 = grind arith in
    sym (ap (first_ordinal births) at) ∙ omega (arith, grown, zeros)

-- a window has a row of the parent's table where it reaches back to the last unit at which some are born
pub row_in_window : (parent : Births) (start unit : ℕ) (latest : Option ℕ) → start ≤ unit → IsLatest parent (unit + 1) latest → nat_lt (first_ordinal parent start) (born_count parent unit) ≡ option_map_or (nat_le start) latest false
row_in_window parent start unit None within is =
    let none = none_between parent 0 (unit + 1) (omega arith) (λ u begun below. is u below) in
    let zero_first : first_ordinal parent 0 ≡ 0 = refl in
    le-ltb (first_ordinal parent start) (born_count parent unit) (omega (arith, none, zero_first))
row_in_window parent start unit (Some latest) within is =
    elim (cases_lt latest start) [
      | inl short ↦
          let none = none_between parent start (unit + 1) (omega (arith, within)) (λ u begun below. is.2 u (omega (arith, begun, short)) below) in
          le-ltb (first_ordinal parent start) (born_count parent unit) (omega (arith, none))
          ∙ sym (lt-leb start latest short)
      | inr long ↦
          let before = first_ordinal-le parent start latest long in
          let after = first_ordinal-le parent (suc latest) (unit + 1) (omega (arith, is.0)) in
          let grown : first_ordinal parent (suc latest) ≡ first_ordinal parent latest + cohort_size parent latest = refl in
          lt-ltb (first_ordinal parent start) (born_count parent unit) (omega (arith, before, after, grown, is.1))
          ∙ sym (le-leb start latest long)
    ]

start_within : (window : Option ℕ) (unit : ℕ) → window_start window unit ≤ unit
start_within None unit = omega arith
start_within (Some older) unit = omega arith

pub has_parent_row-is : (child parent : Births) (window : Option ℕ) (unit : ℕ) (latest : Option ℕ) → IsLatest parent (unit + 1) latest →
    has_parent_row child parent window unit ≡ (cohort_size child unit == 0 || option_map_or (nat_le (window_start window unit)) latest false)
has_parent_row-is child parent window unit latest is =
    ap (λ test. cohort_size child unit == 0 || test) (row_in_window parent (window_start window unit) unit latest (start_within window unit) is)

-- the tests of the units before one, and that of one more
pub tests_more : (test : ℕ → Bool) (unit : ℕ) → list_all test (range_with_len 0 unit) ≡ true → test unit ≡ true → list_all test (range_with_len 0 (unit + 1)) ≡ true
tests_more test unit before here =
    list_all-from_AllPass test (range_with_len 0 (unit + 1)) (λ i d below.
    let within : i < unit + 1 = omega (arith, below, length-range_with_len 0 (unit + 1)) in
    ap test (get_or-range_with_len 0 (unit + 1) i d within ∙ zero-add i) ∙ at i within)
  where
    at : (i : ℕ) → i < unit + 1 → test i ≡ true
    at i within =
        elim (cases_lt i unit) [
          | inl less ↦
              ap test (sym (get_or-range_with_len 0 unit i 0 less ∙ zero-add i))
              ∙ passes_each test (range_with_len 0 unit) i 0 (omega (arith, less, length-range_with_len 0 unit)) before
          | inr more ↦
              let same : i ≡ unit = omega (arith, within, more) in
              ap test same ∙ here
        ]

-- where the test of one unit fails, not all pass
pub tests_fail : (test : ℕ → Bool) (unit last : ℕ) → unit < last → test unit ≡ false → list_all test (range_with_len 0 last) ≡ false
tests_fail test unit last below fails =
    list_all_at test (range_with_len 0 last) unit 0 (omega (arith, below, length-range_with_len 0 last))
    (ap test (get_or-range_with_len 0 last unit 0 below ∙ zero-add unit) ∙ fails)
