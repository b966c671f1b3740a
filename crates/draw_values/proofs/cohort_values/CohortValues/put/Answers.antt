use Rattle.std.proofs.Common.{◌≡◌, ℕ, ◌++◌, List, option_map, ap, subst, sym, ◌∙◌, arith}
use Rattle.row_text.specs.Fields.{escaped_text as written_text}
use Rattle.schema_facts.specs.Layout.{layout_of}
use Rattle.draw_values.specs.declared.values.RowAt.{RowAt}
use Rattle.draw_values.specs.CohortValues.{AreValuesOf, ValuesOf, row_for, value_for}
use Rattle.draw_values.specs.ReadyValues.{HasDay, ready_field, ready_kind_size, row_draws}
use Rattle.draw_values.proofs.CohortLemmas.{AreValuesOf-view}
use Rattle.draw_values.proofs.FieldLemmas.{IsKeptField, column_has_day, field_is_ready, kept_field, length-field_text, put_of-written, size_at-kept, unwrap_or-written, value_at-kept}
use Rattle.draw_values.proofs.cohort_values.CohortValues.put.Goals as goal
use Rattle.draw_values.proofs.cohort_values.CohortValues.put.Goals.{After-seed-2}

known : (c : After-seed-2) → AreValuesOf c.args.self.now c.self.inside.columns.now c.self.inside.seeds
known c = AreValuesOf-view _ c.args.self.now c.self.inside.columns.now c.self.inside.seeds c.self.view_is c.self.invariant

kept : (c : After-seed-2) → IsKeptField (layout_of c.args.self.now.plan) c.args.self.now.table c.args.column c.chooser_of-chooser.result c.index-columns-column.result c.index-columns-chooser.result
kept c =
    kept_field (layout_of c.args.self.now.plan) c.args.self.now.table c.args.column c.chooser_of-chooser.result (layout_of c.args.self.now.plan).units c.self.inside.columns.now
    c.index-columns-column.result c.index-columns-chooser.result (known c).columns (known c).limits c.requires.column c.requires.own
    c.index-columns-column.is c.chooser_of-chooser.ensures c.index-columns-chooser.is

pub put_field-requires-clause-ready : goal.put_field-requires-clause-ready
put_field-requires-clause-ready c =
    field_is_ready (layout_of c.args.self.now.plan) c.args.self.now.table c.args.column c.chooser_of-chooser.result c.index-columns-column.result c.index-columns-chooser.result
    (kept (goal.at.put_field-requires-clause-ready c).After-seed-2)

pub put_field-requires-clause-room : goal.put_field-requires-clause-room
put_field-requires-clause-room c =
    omega (
      arith,
      size_at-kept (layout_of c.args.self.now.plan) c.args.self.now.table c.args.column c.chooser_of-chooser.result c.index-columns-column.result c.index-columns-chooser.result
          (kept (goal.at.put_field-requires-clause-room c).After-seed-2),
      c.requires.room,
    )

-- the row that is put is that of the contract
abbrev row : After-seed-2 → RowAt
row c = record { ordinal = c.args.ordinal; born = c.self.inside.born; changed = c.self.inside.changed }

row_is : (c : After-seed-2) → row c ≡ row_for c.args.self.now c.args.ordinal
row_is c = ap (λ (seen : ValuesOf). row_for seen c.args.ordinal) c.self.view_is

pub put_field-requires-clause-units : goal.put_field-requires-clause-units
put_field-requires-clause-units c = record {
  born_limit = omega (arith, c.self.invariant.born_limit, c.self.invariant.unit_limit);
  changed_limit = omega (arith, c.self.invariant.changed_limit, c.self.invariant.unit_limit);
}

pub put_field-requires-clause-day : goal.put_field-requires-clause-day
put_field-requires-clause-day c =
    let at : After-seed-2 = (goal.at.put_field-requires-clause-day c).After-seed-2 in
    let values : ValuesOf = c.args.self.now in
    subst (HasDay c.index-columns-column.result.kind) (sym (row_is at))
    (column_has_day (layout_of values.plan) values.table c.args.column (layout_of values.plan).units c.index-columns-column.result (row_for values c.args.ordinal)
    (known at).limits c.requires.column (kept at).column_is (known at).born_limit (known at).changed_limit)

-- what is written is the value
value : (c : After-seed-2) → option_map (written_text (layout_of c.args.self.now.plan).delimiter) (value_for c.args.self.now c.args.column c.args.ordinal)
    ≡ ready_field (row c) c.index-columns-chooser.result (row_draws c.seed-2.result c.args.ordinal)
    c.index-columns-column.result (row_draws c.seed.result c.args.ordinal)
value c =
    value_at-kept (layout_of c.args.self.now.plan) c.args.self.now.table c.args.column c.chooser_of-chooser.result c.index-columns-column.result c.index-columns-chooser.result (kept c)
    (row_for c.args.self.now c.args.ordinal) (row c) (row_draws c.seed.result c.args.ordinal)
    (row_draws c.seed-2.result c.args.ordinal) (row_is c)
    (c.seed.ensures c.args.ordinal) (c.seed-2.ensures c.args.ordinal)

pub returns-clause-put : goal.returns-clause-put
returns-clause-put c =
    c.put_field.ensures.put
    ∙ put_of-written (layout_of c.args.self.now.plan).delimiter (value_for c.args.self.now c.args.column c.args.ordinal) _ (value (goal.at.returns-clause-put c).After-seed-2)

pub returns-clause-text : goal.returns-clause-text
returns-clause-text c =
    c.put_field.ensures.text
    ∙ ap (λ (text : List ℕ). record { text = c.args.buf.now.text ++ text; room = c.args.buf.now.room })
    (unwrap_or-written (layout_of c.args.self.now.plan).delimiter (value_for c.args.self.now c.args.column c.args.ordinal) _ (value (goal.at.returns-clause-text c).After-seed-2))

pub returns-clause-size : goal.returns-clause-size
returns-clause-size c =
    omega (
      arith,
      length-field_text (layout_of c.args.self.now.plan).delimiter (ready_kind_size c.index-columns-column.result.kind) (value_for c.args.self.now c.args.column c.args.ordinal) _
          (value (goal.at.returns-clause-size c).After-seed-2) c.put_field.ensures.size,
      size_at-kept (layout_of c.args.self.now.plan) c.args.self.now.table c.args.column c.chooser_of-chooser.result c.index-columns-column.result c.index-columns-chooser.result
          (kept (goal.at.returns-clause-size c).After-seed-2),
    )
