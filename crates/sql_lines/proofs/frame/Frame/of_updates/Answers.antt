use Rattle.std.proofs.Common.{◌≡◌, ◌-◌, ◌+◌, ◌++◌, ◌∷◌, [], List, ℕ, Bool, ap, ap₂, arith, map, sym, ◌∙◌}
use Rattle.std.specs.List.{range_with_len}
use Rattle.std.proofs.lemmas.List.FromFn.{map-range_with_len_more}
use Rattle.sql_lines.specs.Frames.{FramedColumn, update_column}
use Rattle.sql_lines.proofs.frame.Frame.of_updates.Goals as goal

pub loop-column-preserved : goal.loop-column-preserved
loop-column-preserved c =
    let column : ℕ → FramedColumn = update_column c.args.plan.now c.args.table in
    let more : c.loop-column.column + 1 - 1 ≡ c.loop-column.column - 1 + 1 = omega (arith, c.loop-column.auto.column) in
    c.in_ok-push.ensures.items
    ∙ ap₂ (λ (so_far : List FramedColumn) (one : FramedColumn). so_far ++ one ∷ []) c.loop-column.invariant
    (ap₂ (λ (before : List ℕ) (bare : Bool). record { before = before; bare = bare }) c.in_ok-before.ensures c.is_bare_at-bare.ensures)
    ∙ sym (map-range_with_len_more column 1 (c.loop-column.column - 1) c.loop-column.column (omega (arith, c.loop-column.auto.column)))
    ∙ ap (λ (n : ℕ). map column (range_with_len 1 n)) (sym more)
