use Rattle.std.proofs.Common.{◌≡◌, ◌≤◌, ◌+◌, ◌*◌, ◌++◌, ℕ, List, ap, arith, flat_map, length, ◌∙◌}
use Rattle.std.specs.List.{range_with_len}
use Rattle.std.proofs.Math.Nat.{mul-le-mul_right}
use Rattle.schema_facts.specs.Counts.{count}
use Rattle.detail_plan.specs.Rules.{line_size}
use Rattle.row_lines.proofs.RunTextLemmas.{appended-more, room-more, sizes-more}
use Rattle.detail_lines.specs.Made.{LinesOver, made_line, told_count}
use Rattle.detail_lines.proofs.LineLemmas.{lines-more}
use Rattle.detail_lines.proofs.LineListLemmas.{all_lines}
use Rattle.detail_lines.proofs.detail_lines.DetailLines.put_lines.Goals as goal

pub put_line-requires-clause-room : goal.put_line-requires-clause-room
put_line-requires-clause-room g c =
    let over : LinesOver = c.args.self.now in
    let most : ℕ = count over.kept.detail.hi in
    let size : ℕ = line_size over.plan over.kept.lists over.kept.detail in
    let room : length c.args.page.now.text + most * size ≤ c.args.page.now.room = omega (arith, c.requires.room, c.declared-limits.ensures.keeps.reach) in
    omega (
      arith,
      room-more c.args.page.now c.loop-done.page (flat_map (made_line over c.args.at.now.unit c.args.row.now.ordinal) (range_with_len 1 c.loop-done.done)) c.loop-done.done 1 most size c.loop-done.invariant.text c.loop-done.invariant.size
          (omega (arith, c.loop-done-test.true, c.count-done-end.ensures.most)) room,
    )

pub loop-done-preserved : goal.loop-done-preserved
loop-done-preserved g c =
    let over : LinesOver = c.args.self.now in
    let so_far : List ℕ = flat_map (made_line over c.args.at.now.unit c.args.row.now.ordinal) (range_with_len 1 c.loop-done.done) in
    let more = lines-more (made_line over c.args.at.now.unit c.args.row.now.ordinal) c.loop-done.done in
    record {
      wide = c.put_line.ensures.wide;
      text = appended-more c.args.page.now c.loop-done.page c.put_line.new.page so_far _ _ c.loop-done.invariant.text c.put_line.ensures.text more;
      size = sizes-more so_far _ _ c.loop-done.done 1 (line_size over.plan over.kept.lists over.kept.detail) more c.loop-done.invariant.size (omega (arith, c.put_line.ensures.size));
    }

pub returns-clause-text : goal.returns-clause-text
returns-clause-text g c =
    let over : LinesOver = c.args.self.now in
    let done : c.loop-done.done ≡ told_count over c.args.row.now = omega (arith, c.loop-done-test.false, c.loop-done.auto.done-end, c.count-done-end.ensures.count) in
    c.loop-done.invariant.text ∙ ap (λ (text : List ℕ). record { text = c.args.page.now.text ++ text; room = c.args.page.now.room }) (all_lines over c.args.at.now.unit c.args.row.now c.loop-done.done c.requires.told done)

pub returns-clause-size : goal.returns-clause-size
returns-clause-size g c =
    let over : LinesOver = c.args.self.now in
    let done : c.loop-done.done ≡ told_count over c.args.row.now = omega (arith, c.loop-done-test.false, c.loop-done.auto.done-end, c.count-done-end.ensures.count) in
    let few : c.loop-done.done ≤ count over.kept.detail.hi = omega (arith, done, c.count-done-end.ensures.count, c.count-done-end.ensures.most) in
    omega (
      arith,
      c.loop-done.invariant.size,
      c.declared-limits.ensures.keeps.reach,
      mul-le-mul_right (line_size over.plan over.kept.lists over.kept.detail) few,
      ap (λ (text : List ℕ). length text) (all_lines over c.args.at.now.unit c.args.row.now c.loop-done.done c.requires.told done),
    )
