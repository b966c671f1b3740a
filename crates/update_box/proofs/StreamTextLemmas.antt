-- The texts of what a unit changes, by the ordinals of the rows.
use Rattle.std.proofs.Common.{◌≡◌, ℕ, ◌+◌, ◌<◌, ◌≤◌, ◌==◌, true, ◌&&◌, Option, Some, None, List, length, filter, take, option_map, All, refl, ap, arith, sym, subst, ◌∙◌}
use Rattle.std.specs.Prelude.{IfSome}
use Rattle.std.specs.List.{flat_map, range_with_len}
use Rattle.std.proofs.lemmas.Bool.{and_parts, lt-ltb}
use Rattle.std.proofs.lemmas.List.Elements.{All-filter, filter_passes}
use Rattle.std.proofs.lemmas.List.Folds.{flat_map-map}
use Rattle.std.proofs.lemmas.List.FromFn.{get_or-range_with_len, length-range_with_len}
use Rattle.philox_seeds.specs.SeedTree.{life_column}
use Rattle.schema_facts.specs.declared.layout.Span.{Span}
use Rattle.cohort_sizes.specs.Births.{Births, born_count, cohort_size, first_ordinal}
use Rattle.schema_facts.specs.Dictionaries.{Project}
use Rattle.schema_facts.specs.Layout.{TableLayout}
use Rattle.schema_plan.specs.Limits.{IsInLimits, IsSpan}
use Rattle.schema_facts.specs.Lineage.{sure_life}
use Rattle.schema_facts.specs.References.{cascades_of}
use Rattle.life_intervals.specs.Generator.{Generator, generator_of, last_unit, rows_in_all, table_of}
use Rattle.life_intervals.specs.Intervals.{Known, change_unit, changing, death, is_after, is_at, is_live, known_of, known_tables, newborn, row_at}
use Rattle.life_intervals.specs.Rows.{Row, life_by}
use Rattle.life_intervals.specs.Streams.{deleted, updated}
use Rattle.life_intervals.proofs.AcceptedLemmas.{AreSound-accepted, place-below}
use Rattle.cohort_sizes.proofs.CohortLemmas.{born_count-next, cohort-within}
use Rattle.life_intervals.proofs.DeathLemmas.{is_after-lesser_from}
use Rattle.life_intervals.proofs.KnownLemmas.{cascades-of}
use Rattle.life_intervals.proofs.ParentLemmas.{parents-alive_now}
use Rattle.life_intervals.proofs.RowLemmas.{death_by-first_ordinal}
use Rattle.life_intervals.proofs.Ranges.{filter-range_with_len_all}
use Rattle.life_intervals.proofs.StreamLemmas.{inserted-newborn, updated-changing}
use Rattle.row_lines.specs.Lines.{cohort_text, deleted_text, first_lines, inserted_text, key_line_of, line, line_of, updated_text}
use Rattle.row_lines.specs.Runs.{RunLinesOf}
use Rattle.update_box.specs.UnitLists.{ordinals}
use Rattle.update_box.proofs.StepLemmas.{deleted-ordinals, updated-ordinals}

-- the numbers of a range from 0 are less than its length
range-below : (n : ℕ) → All (λ j. j < n) (range_with_len 0 n)
range-below n i d within =
    let below : i < n = omega (arith, within, length-range_with_len 0 n) in omega (arith, get_or-range_with_len 0 n i d below, below)

-- ---- what is deleted

pub deleted_text-ordinals : (plan : Project) (unit place : ℕ) →
    deleted_text plan unit place ≡ flat_map (key_line_of (generator_of plan) (last_unit plan) place) (ordinals (deleted (generator_of plan) place unit))
deleted_text-ordinals plan unit place =
    sym (flat_map-map (key_line_of (generator_of plan) (last_unit plan) place) (λ (row : Row). row.ordinal) (deleted (generator_of plan) place unit))

-- each of the rows is born by the last unit
pub deleted-born : (plan : Project) → IsInLimits plan → (place : ℕ) → place < length plan.schema.tables → (unit : ℕ) → unit ≤ last_unit plan →
    All (λ j. j < rows_in_all plan place) (ordinals (deleted (generator_of plan) place unit))
deleted-born plan limits place below unit within =
    let births : Births = (table_of plan place).births in
    let early : first_ordinal births unit ≤ rows_in_all plan place = omega (arith, cohort-within births unit (last_unit plan) within) in
    subst (λ (js : List ℕ). All (λ j. j < rows_in_all plan place) js) (sym (deleted-ordinals plan limits place below unit within))
    (All-filter (λ ordinal. is_at (death (generator_of plan) place unit ordinal) unit) (λ j. j < rows_in_all plan place) (range_with_len 0 (first_ordinal births unit))
    (λ i d among. omega (arith, range-below (first_ordinal births unit) i d among, early)))

-- ---- what is updated

pub updated_text-ordinals : (plan : Project) → IsInLimits plan → (place : ℕ) → place < length plan.schema.tables → (unit : ℕ) → unit ≤ last_unit plan →
    updated_text plan unit place ≡ flat_map (line_of (generator_of plan) unit place) (ordinals (updated (generator_of plan) place unit))
updated_text-ordinals plan limits place below unit within =
    let generator : Generator = generator_of plan in
    ap (flat_map (line generator unit place)) (updated-changing (last_unit plan) generator (AreSound-accepted plan limits) place (place-below plan place below) unit within)
    ∙ flat_map-map (line generator unit place) (row_at generator place unit) (changing generator place unit)
    ∙ ap (flat_map (line_of generator unit place)) (sym (updated-ordinals plan limits place below unit within))

-- each of the rows is born by the unit
pub updated-born : (plan : Project) → IsInLimits plan → (place : ℕ) → place < length plan.schema.tables → (unit : ℕ) → unit ≤ last_unit plan →
    All (λ j. j < born_count (table_of plan place).births unit) (ordinals (updated (generator_of plan) place unit))
updated-born plan limits place below unit within =
    let births : Births = (table_of plan place).births in
    let early : first_ordinal births unit ≤ born_count births unit = omega (arith, born_count-next births unit) in
    subst (λ (js : List ℕ). All (λ j. j < born_count births unit) js) (sym (updated-ordinals plan limits place below unit within))
    (All-filter (λ ordinal. is_live (generator_of plan) place unit ordinal && change_unit (generator_of plan) place unit ordinal == unit) (λ j. j < born_count births unit)
    (range_with_len 0 (first_ordinal births unit)) (λ i d among. omega (arith, range-below (first_ordinal births unit) i d among, early)))

-- and alive at it
pub updated-live : (plan : Project) → IsInLimits plan → (place : ℕ) → place < length plan.schema.tables → (unit : ℕ) → unit ≤ last_unit plan →
    All (λ j. is_live (generator_of plan) place unit j ≡ true) (ordinals (updated (generator_of plan) place unit))
updated-live plan limits place below unit within =
    let generator : Generator = generator_of plan in
    let test : ℕ → _ = λ ordinal. is_live generator place unit ordinal && change_unit generator place unit ordinal == unit in
    subst (λ (js : List ℕ). All (λ j. is_live generator place unit j ≡ true) js) (sym (updated-ordinals plan limits place below unit within))
    (λ i d among. (and_parts _ _ (filter_passes test (range_with_len 0 (first_ordinal (table_of plan place).births unit)) i d among)).0)

-- ---- what is inserted

-- at the unit of its birth no row's own life has ended
own_death-born : (unit place : ℕ) (life : Option Span) → IfSome life IsSpan → is_after (option_map (λ l. unit + l) (life_by life place)) unit ≡ true
own_death-born unit place None is = refl
own_death-born unit place (Some life) is = lt-ltb unit _ (omega (arith, is.some_unit))

-- nor has a parent died
pub newborn-alive : (plan : Project) → IsInLimits plan → (place : ℕ) → place < length plan.schema.tables → (unit : ℕ) → unit ≤ last_unit plan → (index : ℕ) → index < cohort_size (table_of plan place).births unit →
    is_live (generator_of plan) place unit (first_ordinal (table_of plan place).births unit + index) ≡ true
newborn-alive plan limits place below unit within index inside =
    let generator : Generator = generator_of plan in
    let table : TableLayout = table_of plan place in
    let earlier : List Known = take place (known_tables generator) in
    let sound = AreSound-accepted plan limits in
    ap (λ (death : Option ℕ). is_after death unit) (death_by-first_ordinal (known_of generator place) unit unit index (omega arith) inside)
    ∙ is_after-lesser_from _ _ unit (own_death-born unit (generator.order.place (length earlier) life_column unit index) table.life (sound place (place-below plan place below)).life)
    (parents-alive_now (last_unit plan) generator.order earlier (sure_life generator.tables) table.births unit index within inside (cascades_of table)
    (cascades-of (last_unit plan) generator sound place (place-below plan place below)))

pub newborn-live : (plan : Project) → IsInLimits plan → (place : ℕ) → place < length plan.schema.tables → (unit : ℕ) → unit ≤ last_unit plan →
    filter (is_live (generator_of plan) place unit) (newborn (generator_of plan) place unit) ≡ newborn (generator_of plan) place unit
newborn-live plan limits place below unit within =
    let births : Births = (table_of plan place).births in
    filter-range_with_len_all (is_live (generator_of plan) place unit) (first_ordinal births unit) (cohort_size births unit) (newborn-alive plan limits place below unit within)

pub inserted_text-cohort : (plan : Project) → IsInLimits plan → (place : ℕ) → place < length plan.schema.tables → (unit : ℕ) → unit ≤ last_unit plan →
    inserted_text plan unit place ≡ cohort_text (generator_of plan) unit place unit
unfolding cohort_text first_lines
inserted_text-cohort plan limits place below unit within =
    let generator : Generator = generator_of plan in
    ap (flat_map (line generator unit place)) (inserted-newborn (last_unit plan) generator (AreSound-accepted plan limits) place (place-below plan place below) unit within)
    ∙ flat_map-map (line generator unit place) (row_at generator place unit) (newborn generator place unit)
    ∙ ap (flat_map (line_of generator unit place)) (sym (newborn-live plan limits place below unit within))

-- ---- listed rows, by other names of the plan and of their ordinals

-- those that a unit updates are born by it
pub listed-born : (lines : RunLinesOf) (plan : Project) (js : List ℕ) → lines.plan ≡ plan → IsInLimits plan → lines.table < length plan.schema.tables → lines.unit ≤ last_unit plan →
    js ≡ ordinals (updated (generator_of plan) lines.table lines.unit) → All (λ j. j < born_count (table_of lines.plan lines.table).births lines.unit) js
listed-born lines plan js is limits below within are =
    subst (λ (p : Project). All (λ j. j < born_count (table_of p lines.table).births lines.unit) js) (sym is)
    (subst (λ (all : List ℕ). All (λ j. j < born_count (table_of plan lines.table).births lines.unit) all) (sym are)
    (updated-born plan limits lines.table below lines.unit within))

-- and alive at it
pub listed-live : (lines : RunLinesOf) (plan : Project) (js : List ℕ) → lines.plan ≡ plan → IsInLimits plan → lines.table < length plan.schema.tables → lines.unit ≤ last_unit plan →
    js ≡ ordinals (updated (generator_of plan) lines.table lines.unit) → All (λ j. is_live (generator_of lines.plan) lines.table lines.unit j ≡ true) js
listed-live lines plan js is limits below within are =
    subst (λ (p : Project). All (λ j. is_live (generator_of p) lines.table lines.unit j ≡ true) js) (sym is)
    (subst (λ (all : List ℕ). All (λ j. is_live (generator_of plan) lines.table lines.unit j ≡ true) all) (sym are)
    (updated-live plan limits lines.table below lines.unit within))

-- those that it deletes are all born at last
pub keys-born : (plan : Project) → IsInLimits plan → (place : ℕ) → place < length plan.schema.tables → (unit : ℕ) → unit ≤ last_unit plan → (js : List ℕ) →
    js ≡ ordinals (deleted (generator_of plan) place unit) → All (λ j. j < rows_in_all plan place) js
keys-born plan limits place below unit within js are =
    subst (λ (all : List ℕ). All (λ j. j < rows_in_all plan place) all) (sym are) (deleted-born plan limits place below unit within)
