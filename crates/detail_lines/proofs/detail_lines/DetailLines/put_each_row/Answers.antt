use Rattle.std.proofs.Common.{◌≡◌, ◌+◌, ◌-◌, ℕ, List, arith, subst, sym}
use Rattle.life_intervals.proofs.Ranges.{flat_map-range_with_len_more}
use Rattle.row_lines.proofs.RunTextLemmas.{appended-more, room-more, sizes-more}
use Rattle.detail_lines.specs.Made.{AreSeeds, LinesOver, made_row, made_rows, row_of, told_at}
use Rattle.detail_lines.proofs.detail_lines.DetailLines.put_each_row.Goals as goal

pub put_row-requires-clause-room : goal.put_row-requires-clause-room
put_row-requires-clause-room g c =
    let lines : LinesOver = c.args.self.now in
    omega (
      arith,
      room-more c.args.page.now c.loop-i.page (made_rows lines c.args.kind c.args.at.now.unit c.args.rows.now c.loop-i.i) c.loop-i.i 1 c.args.many lines.kept.reach
          c.loop-i.invariant.text c.loop-i.invariant.size (omega (arith, c.loop-i-test.true)) c.requires.room,
    )

pub loop-i-preserved : goal.loop-i-preserved
loop-i-preserved g c =
    let lines : LinesOver = c.args.self.now in
    let unit : ℕ = c.args.at.now.unit in
    let i : ℕ = c.loop-i.i in
    let so_far : List ℕ = made_rows lines c.args.kind unit c.args.rows.now i in
    let more = sym (flat_map-range_with_len_more (λ (k : ℕ). made_row lines c.args.kind unit (row_of c.args.rows.now k).ordinal) i) in
    let before : i + 1 - 1 ≡ i = omega arith in
    record {
      seeds = λ whole behind. subst (λ (k : ℕ). AreSeeds lines (told_at (row_of c.args.rows.now k)) c.put_row.new.seeds) (sym before) (c.put_row.ensures.seeds whole);
      text = appended-more c.args.page.now c.loop-i.page c.put_row.new.page so_far _ _ c.loop-i.invariant.text c.put_row.ensures.text more;
      size = sizes-more so_far _ _ i 1 lines.kept.reach more c.loop-i.invariant.size (omega (arith, c.put_row.ensures.size));
    }
