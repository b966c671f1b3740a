-- The keys of the rows that a unit deletes are the same, whichever later unit is the last.
use Rattle.std.proofs.Common.{◌≡◌, ℕ, ◌-◌, ◌<◌, ◌≤◌, List, ◌++◌, codes, decimal, flat_map, length, map, Some, ap, arith, sym, ◌∙◌}
use Rattle.std.proofs.lemmas.List.Folds.{flat_map-map}
use Rattle.row_text.specs.Fields.{field_text}
use Rattle.cohort_sizes.specs.Births.{born_count, first_ordinal}
use Rattle.schema_facts.specs.Dictionaries.{Project}
use Rattle.schema_facts.specs.Layout.{table_at}
use Rattle.schema_plan.specs.Limits.{IsInLimits}
use Rattle.life_intervals.specs.Generator.{Generator, generator_of, last_unit, table_of}
use Rattle.life_intervals.specs.Intervals.{death, dying, is_at, row_at}
use Rattle.life_intervals.specs.Rows.{Row}
use Rattle.life_intervals.specs.Streams.{deleted}
use Rattle.life_intervals.proofs.AcceptedLemmas.{AreSound-accepted, place-below}
use Rattle.cohort_sizes.proofs.CohortLemmas.{born_count-next}
use Rattle.life_intervals.proofs.StreamLemmas.{deleted-dying}
use Rattle.row_lines.specs.Lines.{key_line_of}
use Rattle.row_lines.proofs.LineLemmas.{key_of-by}
use Rattle.update_box.proofs.RangeLemmas.{flat_map-filter_same}

-- the key line of a row is the same by any unit by which it is born
key_line_of-by : (generator : Generator) (last unit place ordinal : ℕ) → unit ≤ last → ordinal < born_count (table_at generator.tables place).births unit →
    key_line_of generator last place ordinal ≡ key_line_of generator unit place ordinal
key_line_of-by generator last unit place ordinal within born =
    ap (λ (key : ℕ). field_text generator.delimiter (Some (decimal key)) ++ codes "\n") (key_of-by generator last unit place ordinal within born)

-- the key lines of the rows that a unit deletes, by two units from it on
pub deleted-key_lines : (plan : Project) → IsInLimits plan → (place : ℕ) → place < length plan.schema.tables → (unit : ℕ) → unit ≤ last_unit plan → (last other : ℕ) → unit ≤ last → unit ≤ other →
    flat_map (λ (row : Row). key_line_of (generator_of plan) last place row.ordinal) (deleted (generator_of plan) place unit)
    ≡ flat_map (λ (row : Row). key_line_of (generator_of plan) other place row.ordinal) (deleted (generator_of plan) place unit)
deleted-key_lines plan limits place below unit within last other before_last before_other =
    let generator : Generator = generator_of plan in
    let births = (table_of plan place).births in
    let lines : ℕ → List Row → List ℕ = λ by rows. flat_map (λ (row : Row). key_line_of generator by place row.ordinal) rows in
    let are : deleted generator place unit ≡ map (row_at generator place (unit - 1)) (dying generator place unit) =
    deleted-dying (last_unit plan) generator (AreSound-accepted plan limits) place (place-below plan place below) unit within in
    let by_ordinal : (by : ℕ) → lines by (deleted generator place unit) ≡ flat_map (key_line_of generator by place) (dying generator place unit) =
    λ by. ap (lines by) are ∙ flat_map-map (λ (row : Row). key_line_of generator by place row.ordinal) (row_at generator place (unit - 1)) (dying generator place unit) in
    by_ordinal last
    ∙ flat_map-filter_same (key_line_of generator last place) (key_line_of generator other place) (λ ordinal. is_at (death generator place unit ordinal) unit) 0 (first_ordinal births unit)
    (λ ordinal low high.
    let born : ordinal < born_count births unit = omega (arith, high, born_count-next births unit) in
    key_line_of-by generator last unit place ordinal before_last born ∙ sym (key_line_of-by generator other unit place ordinal before_other born))
    ∙ sym (by_ordinal other)
