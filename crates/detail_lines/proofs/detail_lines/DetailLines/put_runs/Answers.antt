use Rattle.std.proofs.Common.{◌≡◌, ◌-◌, ◌+◌, ◌*◌, ℕ, List, append-nil, arith, ap, sym}
use Rattle.life_intervals.proofs.Ranges.{flat_map-range_with_len_front}
use Rattle.row_lines.proofs.RunTextLemmas.{appended-more, room-more, sizes-more}
use Rattle.detail_lines.specs.declared.detail_lines.LineKind.TheVariants.{Whole}
use Rattle.detail_lines.specs.Made.{LinesOver, made_row, made_rows, row_of}
use Rattle.detail_lines.proofs.detail_lines.DetailLines.put_runs.Goals as goal

pub put_some_rows-done-requires-clause-room : goal.put_some_rows-done-requires-clause-room
put_some_rows-done-requires-clause-room g c =
    let over : LinesOver = c.args.self.now in
    let done : ℕ = c.loop-done.done in
    let rest : done + (c.args.many - done) ≡ c.args.many = omega (arith, c.loop-done.invariant.within) in
    omega (
      arith,
      room-more c.args.page.now c.loop-done.page (made_rows over Whole c.args.at.now.unit c.args.rows.now done) done (c.args.many - done) c.args.many over.kept.reach
          c.loop-done.invariant.text c.loop-done.invariant.size (omega (arith, rest)) c.requires.room,
    )

pub loop-done-init : goal.loop-done-init
loop-done-init g c = record {
  within = omega arith;
  work = c.has_room.ensures;
  text = ap (λ (text : List ℕ). record { text = text; room = c.args.page.now.room }) (sym (append-nil c.args.page.now.text));
  size = omega arith;
}

pub loop-done-preserved : goal.loop-done-preserved
loop-done-preserved g c =
    let over : LinesOver = c.args.self.now in
    let unit : ℕ = c.args.at.now.unit in
    let done : ℕ = c.loop-done.done in
    let end : ℕ = c.put_some_rows-done.result in
    let so_far : List ℕ = made_rows over Whole unit c.args.rows.now done in
    let next : done + (end - done) ≡ end = omega (arith, c.put_some_rows-done.ensures.some) in
    let more = sym (flat_map-range_with_len_front (λ (i : ℕ). made_row over Whole unit (row_of c.args.rows.now i).ordinal) done end (omega (arith, c.put_some_rows-done.ensures.some))) in
    record {
      within = c.put_some_rows-done.ensures.within;
      work = c.put_some_rows-done.ensures.work;
      text = appended-more c.args.page.now c.loop-done.page c.put_some_rows-done.new.page so_far _ _ c.loop-done.invariant.text c.put_some_rows-done.ensures.text more;
      size = omega (arith, sizes-more so_far _ _ done (end - done) over.kept.reach more c.loop-done.invariant.size c.put_some_rows-done.ensures.size, ap (λ (n : ℕ). n * over.kept.reach) next);
    }
