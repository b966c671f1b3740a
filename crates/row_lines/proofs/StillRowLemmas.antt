-- What is read of a row in columns that don't move.
use Rattle.std.proofs.Common.{◌≡◌, ◌≤◌, ℕ, suc, false, refl, ap, subst, sym, ◌∙◌}
use Rattle.schema_facts.specs.ColumnFacts.{field_cost}
use Rattle.schema_facts.specs.FieldSizes.{size_at}
use Rattle.schema_facts.specs.Layout.{layout_of}
use Rattle.schema_plan.specs.Limits.{IsStillColumn}
use Rattle.draw_values.specs.CohortValues.{ValuesOf}
use Rattle.life_intervals.specs.Generator.{generator_of, last_unit, table_of}
use Rattle.life_intervals.specs.Intervals.{row_at}
use Rattle.life_intervals.specs.Rows.{Row}
use Rattle.row_lines.specs.CohortLines.{LinesOf, asked_for, ordinal_of, size_for, text_in_table, values_at}
use Rattle.row_lines.specs.Derived.{columns_before}
use Rattle.row_lines.specs.Lookups.{IsStillRow, StillRowOf, day_held, number_held, text_held}
use Rattle.row_lines.specs.Totals.{day_for, number_for}
use Rattle.row_lines.proofs.LookupLemmas.{asked-still, size-still, text-still}
use Rattle.row_lines.proofs.StillLemmas.{still_day-changed, still_number-changed}

-- the row that a contract sees
abbrev pub row_seen : LinesOf → ℕ → StillRowOf
row_seen lines index = record { plan = lines.plan; table = lines.table; unit = lines.unit; ordinal = ordinal_of lines index }

-- the values are those of rows that never changed
pub values_changed : (lines : LinesOf) (values : ValuesOf) (index : ℕ) → IsStillRow lines values index → values ≡ values_at lines values.changed
values_changed lines values index known = known.values_are ∙ ap (values_at lines) (sym (ap (λ (of : ValuesOf). of.changed) known.values_are))

module _ (lines : LinesOf) (values : ValuesOf) (index : ℕ) (row : StillRowOf) (view : row_seen lines index ≡ row) (known : IsStillRow lines values index) (column : ℕ)
    (requires : IsStillColumn (table_of row.plan row.table) column) where
  pub still_here : IsStillColumn (table_of lines.plan lines.table) column
  still_here = subst (λ (of : StillRowOf). IsStillColumn (table_of of.plan of.table) column) (sym view) requires

  pub size_here : size_for lines column ≡ size_at (layout_of row.plan).delimiter (table_of row.plan row.table).columns column
  size_here =
      size-still lines column still_here
      ∙ ap (λ (of : StillRowOf). size_at (layout_of of.plan).delimiter (table_of of.plan of.table).columns column) view

  pub asked_here : asked_for false lines column ≤ field_cost (layout_of row.plan) row.table column
  asked_here =
      subst (λ (of : StillRowOf). asked_for false lines column ≤ field_cost (layout_of of.plan) of.table column) view
      (asked-still lines column known.table known.limits still_here)

  pub text_here : (changed : ℕ) → text_in_table lines index changed column ≡ text_held row.plan row.table row.unit row.ordinal column
  text_here changed =
      text-still lines index changed (ordinal_of lines index) column known.sound known.table known.limits refl still_here
      ∙ ap (λ (of : StillRowOf). text_held of.plan of.table of.unit of.ordinal column) view

  abbrev here : Row
  here = row_at (generator_of lines.plan) lines.table lines.unit (ordinal_of lines index)

  pub day_here : (changed : ℕ) → day_for lines index changed (suc (columns_before lines.table column)) column ≡ day_held row.plan row.table row.unit row.ordinal column
  day_here changed =
      still_day-changed (generator_of lines.plan) lines.table here changed (last_unit lines.plan) known.limits (λ place within. known.sound.lookups lines.table place known.table within)
      (suc (columns_before lines.table column)) column still_here.still
      ∙ ap (λ (of : StillRowOf). day_held of.plan of.table of.unit of.ordinal column) view

  pub number_here : (changed : ℕ) → number_for lines index changed (suc (columns_before lines.table column)) column ≡ number_held row.plan row.table row.unit row.ordinal column
  number_here changed =
      still_number-changed (generator_of lines.plan) lines.table here changed (last_unit lines.plan) known.limits (λ place within. known.sound.lookups lines.table place known.table within)
      (suc (columns_before lines.table column)) column still_here.still
      ∙ ap (λ (of : StillRowOf). number_held of.plan of.table of.unit of.ordinal column) view
