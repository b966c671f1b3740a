-- The draws of a row, by what is kept of its table at the units of its birth and of its last change.
use Rattle.std.proofs.Common.{◌≡◌, ◌<◌, ℕ, Bool, true, false, if◌then◌else◌, List, get_or, length, ap, subst, sym, ◌∙◌}
use Rattle.philox_seeds.specs.SeedTree.{column_seed, table_seed, unit_seed}
use Rattle.schema_plan.specs.declared.ready.ReadyColumn.{ReadyColumn}
use Rattle.schema_facts.specs.Layout.{Layout, table_at}
use Rattle.schema_plan.specs.Ready.{ready_columns}
use Rattle.draw_values.specs.declared.cohort_values.Seeds.{Seeds}
use Rattle.draw_values.specs.declared.values.RowAt.{RowAt}
use Rattle.draw_values.specs.CohortValues.{AreValuesOf, ValuesOf}
use Rattle.draw_values.specs.ReadyValues.{row_draws}
use Rattle.draw_values.specs.Values.{draws_at}
use Rattle.draw_values.proofs.ColumnLemmas.{ready_column-at}

-- what is kept is of the values that a contract sees
pub AreValuesOf-view : (kept values : ValuesOf) (ready : List ReadyColumn) (taken : Seeds) → kept ≡ values → AreValuesOf kept ready taken → AreValuesOf values ready taken
AreValuesOf-view kept values ready taken same known = subst (λ (of : ValuesOf). AreValuesOf of ready taken) same known

-- the seed of a column at a unit
abbrev pub seed_at : Layout → ℕ → ℕ → ℕ → ℕ
seed_at layout table column unit = unit_seed (column_seed (table_seed layout.seed table) column) unit

-- what it draws for a row, where the unit is that of the last change in a column that changes, and that of the birth in any other
pub row_draws-changed : (layout : Layout) (table place : ℕ) (at : RowAt) (kept : List ReadyColumn) (column : ReadyColumn) (seed : ℕ) → kept ≡ ready_columns layout table →
    place < length (table_at layout.tables table).columns → column ≡ get_or kept place column → column.changes ≡ true → seed ≡ seed_at layout table place at.changed →
    row_draws seed at.ordinal ≡ draws_at layout table at place
row_draws-changed layout table place at kept column seed kept_is within at_place changes is =
    let found = ready_column-at layout.delimiter (table_at layout.tables table).columns kept place column kept_is within at_place in
    ap (λ (s : ℕ). row_draws s at.ordinal) is
    ∙ ap (λ (changes : Bool). row_draws (seed_at layout table place (if changes then at.changed else at.born)) at.ordinal) (sym changes ∙ ap (λ (c : ReadyColumn). c.changes) found)

pub row_draws-born : (layout : Layout) (table place : ℕ) (at : RowAt) (kept : List ReadyColumn) (column : ReadyColumn) (seed : ℕ) → kept ≡ ready_columns layout table →
    place < length (table_at layout.tables table).columns → column ≡ get_or kept place column → column.changes ≡ false → seed ≡ seed_at layout table place at.born →
    row_draws seed at.ordinal ≡ draws_at layout table at place
row_draws-born layout table place at kept column seed kept_is within at_place changes is =
    let found = ready_column-at layout.delimiter (table_at layout.tables table).columns kept place column kept_is within at_place in
    ap (λ (s : ℕ). row_draws s at.ordinal) is
    ∙ ap (λ (changes : Bool). row_draws (seed_at layout table place (if changes then at.changed else at.born)) at.ordinal) (sym changes ∙ ap (λ (c : ReadyColumn). c.changes) found)
