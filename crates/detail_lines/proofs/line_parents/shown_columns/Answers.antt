use Rattle.std.proofs.Common.{List, Option, [], ◌∷◌, ◌++◌, arith, ap, map, sym, ◌∙◌}
use Rattle.std.specs.List.{range_with_len}
use Rattle.std.proofs.lemmas.List.FromFn.{map-range_with_len_more}
use Rattle.draw_values.specs.Runs.{RunColumnOf}
use Rattle.detail_lines.specs.Made.{LinesOver, shown_column}
use Rattle.detail_lines.proofs.line_parents.shown_columns.Goals as goal

pub loop-column-preserved : goal.loop-column-preserved
loop-column-preserved c =
    let over : LinesOver = record { plan = c.args.plan.now; kept = c.args.detail.now } in
    c.in_ok-push.ensures.items ∙ ap (λ (made : List (Option RunColumnOf)). made ++ c.in_ok-shown_column.field-0 ∷ []) c.loop-column.invariant
    ∙ ap (λ (one : Option RunColumnOf). map (shown_column over) (range_with_len 0 c.loop-column.column) ++ one ∷ []) c.in_ok-shown_column.ensures
    ∙ sym (map-range_with_len_more (shown_column over) 0 c.loop-column.column c.loop-column.column (omega arith))
