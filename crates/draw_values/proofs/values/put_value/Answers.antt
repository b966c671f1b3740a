use Rattle.std.proofs.Common.{◌≡◌, ℕ, ◌++◌, List, option_map, refl, ap, ◌∙◌, arith}
use Rattle.row_text.specs.Fields.{escaped_text as written_text}
use Rattle.schema_facts.specs.Layout.{layout_of}
use Rattle.draw_values.specs.ReadyValues.{ready_field, ready_kind_size, row_draws}
use Rattle.draw_values.specs.Values.{value_at}
use Rattle.draw_values.proofs.FieldLemmas.{IsKeptField, column_has_day, field_is_ready, kept_field, length-field_text, put_of-written, size_at-kept, unwrap_or-written, value_at-kept}
use Rattle.draw_values.proofs.values.put_value.Goals as goal
use Rattle.draw_values.proofs.values.put_value.Goals.{After-drawn_seed-2}

kept : (c : After-drawn_seed-2) → IsKeptField (layout_of c.args.plan.now) c.args.table c.args.column c.chooser_of-chooser.result c.index-columns-column.result c.index-columns-chooser.result
kept c =
    kept_field (layout_of c.args.plan.now) c.args.table c.args.column c.chooser_of-chooser.result (layout_of c.args.plan.now).units c.columns-columns.result.now
    c.index-columns-column.result c.index-columns-chooser.result c.columns-columns.ensures.columns c.columns-columns.ensures.limits
    c.requires.column c.requires.own c.index-columns-column.is c.chooser_of-chooser.ensures c.index-columns-chooser.is

pub put_field-requires-clause-ready : goal.put_field-requires-clause-ready
put_field-requires-clause-ready c =
    field_is_ready (layout_of c.args.plan.now) c.args.table c.args.column c.chooser_of-chooser.result c.index-columns-column.result c.index-columns-chooser.result
    (kept (goal.at.put_field-requires-clause-ready c).After-drawn_seed-2)

pub put_field-requires-clause-units : goal.put_field-requires-clause-units
put_field-requires-clause-units c = record {
  born_limit = omega (arith, c.columns-columns.ensures.units, c.requires.born);
  changed_limit = omega (arith, c.columns-columns.ensures.units, c.requires.changed);
}

pub put_field-requires-clause-day : goal.put_field-requires-clause-day
put_field-requires-clause-day c =
    column_has_day (layout_of c.args.plan.now) c.args.table c.args.column (layout_of c.args.plan.now).units c.index-columns-column.result c.args.at
    c.columns-columns.ensures.limits c.requires.column (kept (goal.at.put_field-requires-clause-day c).After-drawn_seed-2).column_is c.requires.born c.requires.changed

pub put_field-requires-clause-room : goal.put_field-requires-clause-room
put_field-requires-clause-room c =
    omega (
      arith,
      size_at-kept (layout_of c.args.plan.now) c.args.table c.args.column c.chooser_of-chooser.result c.index-columns-column.result c.index-columns-chooser.result
          (kept (goal.at.put_field-requires-clause-room c).After-drawn_seed-2),
      c.requires.room,
    )

-- what is written is the value
value : (c : After-drawn_seed-2) → option_map (written_text (layout_of c.args.plan.now).delimiter) (value_at (layout_of c.args.plan.now) c.args.table c.args.column c.args.at)
    ≡ ready_field c.args.at c.index-columns-chooser.result (row_draws c.drawn_seed-2.result c.args.at.ordinal)
    c.index-columns-column.result (row_draws c.drawn_seed.result c.args.at.ordinal)
value c =
    value_at-kept (layout_of c.args.plan.now) c.args.table c.args.column c.chooser_of-chooser.result c.index-columns-column.result c.index-columns-chooser.result (kept c)
    c.args.at c.args.at (row_draws c.drawn_seed.result c.args.at.ordinal)
    (row_draws c.drawn_seed-2.result c.args.at.ordinal) refl c.drawn_seed.ensures c.drawn_seed-2.ensures

pub returns-clause-put : goal.returns-clause-put
returns-clause-put c =
    c.put_field.ensures.put
    ∙ put_of-written (layout_of c.args.plan.now).delimiter (value_at (layout_of c.args.plan.now) c.args.table c.args.column c.args.at) _ (value (goal.at.returns-clause-put c).After-drawn_seed-2)

pub returns-clause-text : goal.returns-clause-text
returns-clause-text c =
    c.put_field.ensures.text
    ∙ ap (λ (text : List ℕ). record { text = c.args.buf.now.text ++ text; room = c.args.buf.now.room })
    (unwrap_or-written (layout_of c.args.plan.now).delimiter (value_at (layout_of c.args.plan.now) c.args.table c.args.column c.args.at) _ (value (goal.at.returns-clause-text c).After-drawn_seed-2))

pub returns-clause-size : goal.returns-clause-size
returns-clause-size c =
    omega (
      arith,
      length-field_text (layout_of c.args.plan.now).delimiter (ready_kind_size c.index-columns-column.result.kind) (value_at (layout_of c.args.plan.now) c.args.table c.args.column c.args.at) _
          (value (goal.at.returns-clause-size c).After-drawn_seed-2) c.put_field.ensures.size,
      size_at-kept (layout_of c.args.plan.now) c.args.table c.args.column c.chooser_of-chooser.result c.index-columns-column.result c.index-columns-chooser.result
          (kept (goal.at.returns-clause-size c).After-drawn_seed-2),
    )
