use Rattle.std.proofs.Common.{ℕ, List, get_or, arith, sym}
use Rattle.life_intervals.proofs.Ranges.{flat_map-range_with_len_more}
use Rattle.row_lines.proofs.RunTextLemmas.{appended-more, room-more, sizes-more}
use Rattle.detail_plan.specs.Rules.{line_size}
use Rattle.detail_lines.specs.LineRuns.{run_text}
use Rattle.detail_lines.specs.Made.{LinesOver, made_line}
use Rattle.detail_lines.proofs.detail_lines.DetailLines.put_mixed_lines.Goals as goal

pub put_mixed_line-requires-clause-room : goal.put_mixed_line-requires-clause-room
put_mixed_line-requires-clause-room c =
    let over : LinesOver = c.args.self.now in
    let size : ℕ = line_size over.plan over.kept.lists over.kept.detail in
    omega (
      arith,
      room-more c.args.page.now c.loop-k.page (run_text over c.args.at.now.unit c.args.run.now c.loop-k.k) c.loop-k.k 1 c.args.count size c.loop-k.invariant.text c.loop-k.invariant.size (omega (arith, c.loop-k-test.true)) c.requires.room,
    )

pub loop-k-preserved : goal.loop-k-preserved
loop-k-preserved c =
    let over : LinesOver = c.args.self.now in
    let unit : ℕ = c.args.at.now.unit in
    let k : ℕ = c.loop-k.k in
    let size : ℕ = line_size over.plan over.kept.lists over.kept.detail in
    let so_far : List ℕ = run_text over unit c.args.run.now k in
    let more = sym (flat_map-range_with_len_more (λ (j : ℕ). made_line over unit (get_or c.args.run.now.rows.ordinals.now j 0) (get_or c.args.run.now.numbers.now j 0)) k) in
    record {
      text = appended-more c.args.page.now c.loop-k.page c.put_mixed_line.new.page so_far _ _ c.loop-k.invariant.text c.put_mixed_line.ensures.text more;
      size = sizes-more so_far _ _ k 1 size more c.loop-k.invariant.size (omega (arith, c.put_mixed_line.ensures.size));
    }
