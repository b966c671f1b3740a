use Rattle.std.proofs.Common.{◌≡◌, ◌++◌, ◌∷◌, [], List, ℕ, Bool, ap, ap₂, arith, length, map, sym, ◌∙◌}
use Rattle.std.specs.List.{range_with_len}
use Rattle.std.proofs.lemmas.List.FromFn.{map-range_with_len_more}
use Rattle.life_intervals.specs.Generator.{table_of}
use Rattle.sql_lines.specs.Frames.{FramedColumn, insertion_column}
use Rattle.sql_lines.proofs.BareLemmas.{columns-many}
use Rattle.sql_lines.proofs.frame.Frame.of_insertions.Goals as goal

pub loop-column-preserved : goal.loop-column-preserved
loop-column-preserved c =
    let column : ℕ → FramedColumn = insertion_column c.args.plan.now c.args.table in
    c.in_ok-push.ensures.items
    ∙ ap₂ (λ (so_far : List FramedColumn) (one : FramedColumn). so_far ++ one ∷ []) c.loop-column.invariant
    (ap₂ (λ (before : List ℕ) (bare : Bool). record { before = before; bare = bare }) c.in_ok-before.ensures c.is_bare_at-bare.ensures)
    ∙ sym (map-range_with_len_more column 0 c.loop-column.column c.loop-column.column (omega arith))

pub returns : goal.returns
returns c =
    let column : ℕ → FramedColumn = insertion_column c.args.plan.now c.args.table in
    let all : c.loop-column.column ≡ length (table_of c.args.plan.now c.args.table).columns =
    omega (arith, c.loop-column-test.false, c.loop-column.auto.column-end, columns-many c.args.plan.now c.args.table c.columns-column-end.result.now c.columns-column-end.ensures.columns) in
    ap₂ (λ (columns : List FramedColumn) (end : List ℕ). record { columns = columns; end = end })
    (c.loop-column.invariant ∙ ap (λ (n : ℕ). map column (range_with_len 0 n)) all)
    (c.in_ok-extend_from_slice.ensures.items ∙ ap (λ (text : List ℕ). text ++ 41 ∷ 59 ∷ 10 ∷ []) c.new-end.ensures.items)
