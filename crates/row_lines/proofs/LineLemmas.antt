-- The text of a table, cohort by cohort and line by line.
use Rattle.std.proofs.Common.{◌≡◌, ◌<◌, ◌≤◌, ℕ, ◌+◌, ◌-◌, false, List, [], ◌++◌, filter, ap, arith, refl, sym, ◌∙◌}
use Rattle.std.proofs.lemmas.List.{append_assoc}
use Rattle.std.proofs.lemmas.List.Folds.{flat_map-map}
use Rattle.std.specs.List.{range_with_len, flat_map}
use Rattle.cohort_sizes.specs.Births.{Births, birth, born_count, cohort_size, first_ordinal}
use Rattle.schema_facts.specs.Layout.{TableLayout, table_at}
use Rattle.life_intervals.specs.Generator.{Generator}
use Rattle.life_intervals.specs.Intervals.{is_live, living, row_at}
use Rattle.life_intervals.specs.Keys.{key_in_cohort, key_of}
use Rattle.life_intervals.specs.Sound.{AreSound}
use Rattle.cohort_sizes.proofs.CohortLemmas.{LiesIn-birth, birth-only}
use Rattle.life_intervals.proofs.Ranges.{flat_map-range_with_len_more, flat_map-range_with_len_front}
use Rattle.life_intervals.proofs.SimulationLemmas.{ordinals_of, range-cohorts, rows_at-rows_of}
use Rattle.row_lines.specs.Lines.{cohort_text, first_lines, line, line_if_live, line_of, table_text, text_before}
use Rattle.row_lines.proofs.ListLemmas.{filter-none, flat_map-filter_flat_map, flat_map-filter_range_front, flat_map-filter_range_more}

-- the text of a table is the lines of the living
pub table_text-living : (units : ℕ) (generator : Generator) (unit place : ℕ) → AreSound units generator.tables → unit ≤ units →
    table_text generator unit place ≡ flat_map (line_of generator unit place) (living generator place unit)
unfolding table_text
table_text-living units generator unit place sound within =
    ap (flat_map (line generator unit place)) (rows_at-rows_of units generator place unit sound within)
    ∙ flat_map-map (line generator unit place) (row_at generator place unit) (living generator place unit)

-- the text of a table is that of its cohorts, one after the other
pub table_text-text_before : (units : ℕ) (generator : Generator) (unit place : ℕ) → AreSound units generator.tables → unit ≤ units →
    table_text generator unit place ≡ text_before generator unit place (unit + 1)
unfolding text_before cohort_text first_lines
table_text-text_before units generator unit place sound within =
    let table : TableLayout = table_at generator.tables place in
    table_text-living units generator unit place sound within
    ∙ ap (λ (ordinals : List ℕ). flat_map (line_of generator unit place) (filter (is_live generator place unit) ordinals)) (range-cohorts table unit)
    ∙ flat_map-filter_flat_map (line_of generator unit place) (is_live generator place unit) (ordinals_of table) (range_with_len 0 (unit + 1))

-- no cohort, and one more
pub text_before-zero : (generator : Generator) (unit place : ℕ) → text_before generator unit place 0 ≡ []
unfolding text_before
text_before-zero generator unit place = refl

pub text_before-add_one : (generator : Generator) (unit place born : ℕ) →
    text_before generator unit place (born + 1) ≡ text_before generator unit place born ++ cohort_text generator unit place born
unfolding text_before
text_before-add_one generator unit place born = flat_map-range_with_len_more (cohort_text generator unit place) born

-- no line of a cohort, one more, and all
pub first_lines-zero : (generator : Generator) (unit place born : ℕ) → first_lines generator unit place born 0 ≡ []
unfolding first_lines
first_lines-zero generator unit place born = refl

pub first_lines-add_one : (generator : Generator) (unit place born count : ℕ) →
    first_lines generator unit place born (count + 1)
    ≡ first_lines generator unit place born count
    ++ line_if_live generator unit place (first_ordinal (table_at generator.tables place).births born + count)
unfolding first_lines
first_lines-add_one generator unit place born count =
    flat_map-filter_range_more (line_of generator unit place) (is_live generator place unit)
    (first_ordinal (table_at generator.tables place).births born) count

pub first_lines-all : (generator : Generator) (unit place born count : ℕ) → count ≡ cohort_size (table_at generator.tables place).births born →
    first_lines generator unit place born count ≡ cohort_text generator unit place born
unfolding cohort_text
first_lines-all generator unit place born count all = ap (first_lines generator unit place born) all

-- what remains of the text of a cohort after its first lines
abbrev pub lines_after : Generator → ℕ → ℕ → ℕ → ℕ → List ℕ
lines_after generator unit place born count =
    flat_map (line_of generator unit place)
    (filter (is_live generator place unit)
    (range_with_len (first_ordinal (table_at generator.tables place).births born + count) (cohort_size (table_at generator.tables place).births born - count)))

pub cohort_text-split : (generator : Generator) (unit place born count : ℕ) → count ≤ cohort_size (table_at generator.tables place).births born →
    cohort_text generator unit place born ≡ first_lines generator unit place born count ++ lines_after generator unit place born count
unfolding cohort_text first_lines
cohort_text-split generator unit place born count within =
    flat_map-filter_range_front (line_of generator unit place) (is_live generator place unit)
    (first_ordinal (table_at generator.tables place).births born) count (cohort_size (table_at generator.tables place).births born) within

-- the lines before an index, the index's own where it is alive, and the rest
pub cohort_text-at : (generator : Generator) (unit place born index : ℕ) → index < cohort_size (table_at generator.tables place).births born →
    cohort_text generator unit place born
    ≡ first_lines generator unit place born index
    ++ (line_if_live generator unit place (first_ordinal (table_at generator.tables place).births born + index) ++ lines_after generator unit place born (index + 1))
cohort_text-at generator unit place born index below =
    let own : List ℕ = line_if_live generator unit place (first_ordinal (table_at generator.tables place).births born + index) in
    cohort_text-split generator unit place born (index + 1) (omega arith)
    ∙ ap (λ (text : List ℕ). text ++ lines_after generator unit place born (index + 1)) (first_lines-add_one generator unit place born index)
    ∙ append_assoc (first_lines generator unit place born index) own (lines_after generator unit place born (index + 1))

-- a cohort of which no row is alive has no text
pub cohort_text-over : (generator : Generator) (unit place born : ℕ) →
    ((index : ℕ) → index < cohort_size (table_at generator.tables place).births born → is_live generator place unit (first_ordinal (table_at generator.tables place).births born + index) ≡ false) →
    cohort_text generator unit place born ≡ []
unfolding cohort_text first_lines
cohort_text-over generator unit place born dead =
    ap (flat_map (line_of generator unit place))
    (filter-none (is_live generator place unit) (first_ordinal (table_at generator.tables place).births born) (cohort_size (table_at generator.tables place).births born) dead)

-- the cohorts after one, up to a unit
abbrev pub cohorts_after : Generator → ℕ → ℕ → ℕ → List ℕ
cohorts_after generator unit place born =
    flat_map (cohort_text generator unit place) (range_with_len (born + 1) (unit + 1 - (born + 1)))

text_before-prefix : (generator : Generator) (unit place born : ℕ) → born ≤ unit →
    text_before generator unit place (unit + 1) ≡ text_before generator unit place (born + 1) ++ cohorts_after generator unit place born
unfolding text_before
text_before-prefix generator unit place born within =
    flat_map-range_with_len_front (cohort_text generator unit place) (born + 1) (unit + 1) (omega arith)

-- a table's text: the cohorts before one, its own text, and the rest
pub table_text-at : (units : ℕ) (generator : Generator) (unit place born : ℕ) → AreSound units generator.tables → unit ≤ units → born ≤ unit →
    table_text generator unit place
    ≡ text_before generator unit place born ++ (cohort_text generator unit place born ++ cohorts_after generator unit place born)
table_text-at units generator unit place born sound in_units within =
    table_text-text_before units generator unit place sound in_units
    ∙ text_before-prefix generator unit place born within
    ∙ ap (λ (text : List ℕ). text ++ cohorts_after generator unit place born) (text_before-add_one generator unit place born)
    ∙ append_assoc (text_before generator unit place born) (cohort_text generator unit place born) (cohorts_after generator unit place born)

-- the text of the cohorts before one, and of its first lines, begins the table's text
pub table_text-front : (units : ℕ) (generator : Generator) (unit place born count : ℕ) → AreSound units generator.tables → unit ≤ units → born ≤ unit → count ≤ cohort_size (table_at generator.tables place).births born →
    (rest : List ℕ) × (table_text generator unit place ≡ (text_before generator unit place born ++ first_lines generator unit place born count) ++ rest)
table_text-front units generator unit place born count sound within in_units in_cohort =
    let before : List ℕ = text_before generator unit place born in
    let first : List ℕ = first_lines generator unit place born count in
    let after : List ℕ = lines_after generator unit place born count in
    let later : List ℕ = cohorts_after generator unit place born in (
      after ++ later,
      table_text-at units generator unit place born sound within in_units
          ∙ ap (λ (text : List ℕ). before ++ (text ++ later)) (cohort_text-split generator unit place born count in_cohort)
          ∙ ap (λ (text : List ℕ). before ++ text) (append_assoc first after later)
          ∙ sym (append_assoc before first (after ++ later)),
    )

-- a row's birth, and its key, are the same by any unit by which it is born
pub birth-by : (births : Births) (last unit ordinal : ℕ) → unit ≤ last → ordinal < born_count births unit → birth births last ordinal ≡ birth births unit ordinal
birth-by births last unit ordinal within born =
    let found = LiesIn-birth births unit ordinal born in
    birth-only births last (birth births unit ordinal) ordinal (omega (arith, within, found.0)) found.1

pub key_of-by : (generator : Generator) (last unit place ordinal : ℕ) → unit ≤ last → ordinal < born_count (table_at generator.tables place).births unit →
    key_of generator place last ordinal ≡ key_of generator place unit ordinal
unfolding key_of
key_of-by generator last unit place ordinal within born =
    let births : Births = (table_at generator.tables place).births in
    ap (λ (b : ℕ). key_in_cohort generator place b (ordinal - first_ordinal births b)) (birth-by births last unit ordinal within born)

pub birth-within : (births : Births) (last unit ordinal : ℕ) → unit ≤ last → ordinal < born_count births unit → birth births last ordinal ≤ unit
birth-within births last unit ordinal within born =
    omega (arith, birth-by births last unit ordinal within born, (LiesIn-birth births unit ordinal born).0)
