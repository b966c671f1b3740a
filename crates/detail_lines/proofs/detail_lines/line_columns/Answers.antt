use Rattle.std.proofs.Common.{◌<◌, ◌≡◌, ap, arith, length, subst, sym, ◌∙◌}
use Rattle.std.proofs.lemmas.List.FromFn.{map-range_with_len_more}
use Rattle.philox_seeds.specs.SeedTree.{column_seed}
use Rattle.schema_plan.specs.declared.ready.ReadyColumn.{ReadyColumn}
use Rattle.draw_values.specs.Runs.{IsReadyDrawn, drawn_column}
use Rattle.row_lines.specs.Runs.{behind}
use Rattle.detail_plan.specs.declared.detail.Detail.{Detail}
use Rattle.detail_lines.specs.Made.{LinesOver, delimiter_over, prepared_column, ready_over}
use Rattle.detail_lines.proofs.LineRunLemmas.{drawn-ready, ready-of}
use Rattle.detail_lines.proofs.detail_lines.line_columns.Goals as goal

pub new-requires : goal.new-requires
new-requires c =
    let over : LinesOver = record { plan = c.args.plan.now; kept = c.args.detail.now } in
    let column = c.loop-column.column in
    let within : column < length c.args.detail.now.detail.columns = omega (arith, c.loop-column-test.true, c.loop-column.auto.column-end, c.len-many.ensures, ap (λ (detail : Detail). length detail.columns) c.detail.ensures.value) in
    subst (λ (ready : ReadyColumn). IsReadyDrawn ready.kind)
    (sym (ready-of over c.requires.keeps c.detail.ensures.limits column within c.columns-columns.result.now c.index-columns-column.result c.columns-columns.ensures c.index-columns-column.is))
    (drawn-ready over c.requires.keeps c.detail.ensures.limits column within)

pub loop-column-preserved : goal.loop-column-preserved
loop-column-preserved c =
    let over : LinesOver = record { plan = c.args.plan.now; kept = c.args.detail.now } in
    let column = c.loop-column.column in
    let many = c.len-many.ensures ∙ ap (λ (detail : Detail). length detail.columns) c.detail.ensures.value in
    let within : column < length c.args.detail.now.detail.columns = omega (arith, c.loop-column-test.true, c.loop-column.auto.column-end, many) in
    let ready = ready-of over c.requires.keeps c.detail.ensures.limits column within c.columns-columns.result.now c.index-columns-column.result c.columns-columns.ensures c.index-columns-column.is in
    let made : c.in_ok-new.field-0 ≡ prepared_column over column =
    c.in_ok-new.ensures
    ∙ ap (λ (one : ReadyColumn). drawn_column one.kind c.column_seed-seed.result c.byte_behind-behind.result) ready
    ∙ ap (λ seed. drawn_column ((ready_over over column).kind) seed c.byte_behind-behind.result) (c.column_seed-seed.ensures.seed ∙ ap (λ seed. column_seed seed column) c.requires.seed)
    ∙ ap (drawn_column ((ready_over over column).kind) _) (c.byte_behind-behind.ensures ∙ ap (λ byte. behind byte c.len-many.result column) c.delimiter.ensures ∙ ap (λ n. behind (delimiter_over over) n column) many) in
    rw (map-range_with_len_more (prepared_column over) 0 column column (omega arith))
    (rw (← c.loop-column.invariant, ← made) c.in_ok-push.ensures.items)
