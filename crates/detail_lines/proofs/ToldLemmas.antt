-- What is told of a row of the parent.
use Rattle.std.proofs.Common.{◌≡◌, ◌<◌, ◌≤◌, ℕ, ◌^◌, arith, length, refl, ap, sym, ◌∙◌}
use Rattle.cohort_sizes.specs.Births.{Births, birth, born_count}
use Rattle.cohort_sizes.proofs.CohortLemmas.{birth-only, born_count-le}
use Rattle.philox_seeds.specs.SeedTree.{field_draw}
use Rattle.schema_facts.specs.Counts.{count}
use Rattle.schema_plan.specs.Limits.{IsInLimits as IsPlanInLimits}
use Rattle.life_intervals.proofs.CohortParentLemmas.{row_limit}
use Rattle.schema_facts.specs.Dictionaries.{Project}
use Rattle.life_intervals.specs.Generator.{Generator, generator_of, last_unit, table_of}
use Rattle.life_intervals.specs.Intervals.{row_at}
use Rattle.life_intervals.specs.Keys.{key_of}
use Rattle.life_intervals.proofs.AcceptedLemmas.{place-below, row_at-changed}
use Rattle.row_lines.specs.RowViews.{at_row}
use Rattle.row_lines.proofs.LineLemmas.{key_of-by}
use Rattle.detail_lines.specs.declared.detail_lines.LineKind.{LineKind}
use Rattle.detail_lines.specs.declared.detail_lines.LineKind.TheVariants.{Whole}
use Rattle.detail_lines.specs.declared.parent_row.ParentRow.{ParentRow}
use Rattle.detail_lines.specs.Lines.{count_column, key_of_row, layout_beside, line_count, lines_of_draw}
use Rattle.detail_lines.specs.Made.{IsToldRow, LinesOver, place_over, row_over, told_at, told_count}

-- ---- one row

key_of-row_at : (generator : Generator) (place unit ordinal : ℕ) → key_of generator place unit ordinal ≡ key_of_row generator place (row_at generator place unit ordinal)
unfolding key_of
key_of-row_at generator place unit ordinal = refl

-- its key is the same by the last unit and by one at which it is born
pub key-told : (plan : Project) (place unit ordinal key : ℕ) → unit ≤ last_unit plan → ordinal < born_count (table_of plan place).births unit → key ≡ key_of (generator_of plan) place (last_unit plan) ordinal →
    key ≡ key_of_row (generator_of plan) place (row_at (generator_of plan) place unit ordinal)
key-told plan place unit ordinal key within inside is =
    is ∙ key_of-by (generator_of plan) (last_unit plan) unit place ordinal within inside ∙ key_of-row_at (generator_of plan) place unit ordinal

-- what is told of its units are those of the row at the unit
pub units-told : (over : LinesOver) (unit : ℕ) (kind : LineKind) (row : ParentRow) → place_over over < length over.plan.schema.tables → IsToldRow over unit kind row → kind ≡ Whole →
    told_at row ≡ at_row (row_over over unit row.ordinal)
units-told over unit kind row below told whole =
    let generator = generator_of over.plan in
    let births : Births = (table_of over.plan (place_over over)).births in
    ap (λ (born : ℕ). record { ordinal = row.ordinal; born = born; changed = row.changed }) (sym (birth-only births unit row.born row.ordinal told.born told.lies))
    ∙ ap (λ (changed : ℕ). record { ordinal = row.ordinal; born = birth births unit row.ordinal; changed = changed })
    (told.changed whole ∙ sym (row_at-changed generator (place_over over) unit row.ordinal (place-below over.plan (place_over over) below)))

-- it has as many lines
pub count-told : (over : LinesOver) (unit : ℕ) (kind : LineKind) (row : ParentRow) → IsToldRow over unit kind row →
    told_count over row ≡ line_count (layout_beside over.plan over.kept) (row_over over unit row.ordinal)
count-told over unit kind row told =
    let births : Births = (table_of over.plan (place_over over)).births in
    ap (λ (born : ℕ). lines_of_draw (layout_beside over.plan over.kept) (field_draw (count over.kept.detail.seed) 0 count_column born row.ordinal 1))
    (sym (birth-only births unit row.born row.ordinal told.born told.lies))

-- and its ordinal is below 2^40
pub ordinal-small : (over : LinesOver) (unit : ℕ) (kind : LineKind) (row : ParentRow) → IsPlanInLimits over.plan → place_over over < length over.plan.schema.tables → unit ≤ last_unit over.plan → IsToldRow over unit kind row → row.ordinal < 2 ^ 40
ordinal-small over unit kind row sound below within told =
    omega (
      arith,
      told.ordinal,
      born_count-le (table_of over.plan (place_over over)).births unit (last_unit over.plan) within,
      row_limit over.plan sound (place_over over) below,
    )
