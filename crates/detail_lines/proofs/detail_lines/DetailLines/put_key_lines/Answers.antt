use Rattle.std.proofs.Common.{◌≡◌, ◌≤◌, ◌+◌, ◌*◌, ◌++◌, ℕ, List, ap, arith, flat_map, length, ◌∙◌}
use Rattle.std.specs.List.{range_with_len}
use Rattle.std.proofs.Math.Nat.{mul-le-mul_right}
use Rattle.schema_facts.specs.Counts.{count}
use Rattle.detail_plan.specs.Rules.{line_size}
use Rattle.row_lines.proofs.RunTextLemmas.{appended-more, room-more, sizes-more}
use Rattle.detail_lines.specs.declared.detail_lines.LineKind.TheVariants.{KeysAlone}
use Rattle.detail_lines.specs.Lines.{key_lines_of_row}
use Rattle.detail_lines.specs.declared.parent_row.ParentRow.{ParentRow}
use Rattle.detail_lines.specs.Made.{IsToldRow, LinesOver, made_key_line, made_row, told_count}
use Rattle.detail_lines.proofs.LineLemmas.{lines-more}
use Rattle.detail_lines.proofs.ToldLemmas.{count-told}
use Rattle.detail_lines.proofs.detail_lines.DetailLines.put_key_lines.Goals as goal

pub put_key_line-requires-clause-room : goal.put_key_line-requires-clause-room
put_key_line-requires-clause-room c =
    let over : LinesOver = c.args.self.now in
    let most : ℕ = count over.kept.detail.hi in
    let size : ℕ = line_size over.plan over.kept.lists over.kept.detail in
    let room : length c.args.page.now.text + most * size ≤ c.args.page.now.room = omega (arith, c.requires.room, c.declared-limits.ensures.keeps.reach) in
    omega (
      arith,
      room-more c.args.page.now c.loop-done.page (flat_map (made_key_line over c.args.t c.args.row.now.ordinal) (range_with_len 1 c.loop-done.done)) c.loop-done.done 1 most size c.loop-done.invariant.text c.loop-done.invariant.size
          (omega (arith, c.loop-done-test.true, c.count-done-end.ensures.most)) room,
    )

pub loop-done-preserved : goal.loop-done-preserved
loop-done-preserved c =
    let over : LinesOver = c.args.self.now in
    let so_far : List ℕ = flat_map (made_key_line over c.args.t c.args.row.now.ordinal) (range_with_len 1 c.loop-done.done) in
    let more = lines-more (made_key_line over c.args.t c.args.row.now.ordinal) c.loop-done.done in
    record {
      text = appended-more c.args.page.now c.loop-done.page c.put_key_line.new.page so_far _ _ c.loop-done.invariant.text c.put_key_line.ensures.text more;
      size = sizes-more so_far _ _ c.loop-done.done 1 (line_size over.plan over.kept.lists over.kept.detail) more c.loop-done.invariant.size (omega (arith, c.put_key_line.ensures.size));
    }

-- all lines of the row
all_lines : (over : LinesOver) (unit : ℕ) (row : ParentRow) (done : ℕ) → IsToldRow over unit KeysAlone row → done ≡ told_count over row →
    flat_map (made_key_line over unit row.ordinal) (range_with_len 1 done) ≡ made_row over KeysAlone unit row.ordinal
unfolding key_lines_of_row
all_lines over unit row done told is = ap (λ (many : ℕ). flat_map (made_key_line over unit row.ordinal) (range_with_len 1 many)) (is ∙ count-told over unit KeysAlone row told)

pub returns-clause-text : goal.returns-clause-text
returns-clause-text c =
    let over : LinesOver = c.args.self.now in
    let done : c.loop-done.done ≡ told_count over c.args.row.now = omega (arith, c.loop-done-test.false, c.loop-done.auto.done-end, c.count-done-end.ensures.count) in
    c.loop-done.invariant.text ∙ ap (λ (text : List ℕ). record { text = c.args.page.now.text ++ text; room = c.args.page.now.room }) (all_lines over c.args.t c.args.row.now c.loop-done.done c.requires.told done)

pub returns-clause-size : goal.returns-clause-size
returns-clause-size c =
    let over : LinesOver = c.args.self.now in
    let done : c.loop-done.done ≡ told_count over c.args.row.now = omega (arith, c.loop-done-test.false, c.loop-done.auto.done-end, c.count-done-end.ensures.count) in
    let few : c.loop-done.done ≤ count over.kept.detail.hi = omega (arith, done, c.count-done-end.ensures.count, c.count-done-end.ensures.most) in
    omega (
      arith,
      c.loop-done.invariant.size,
      c.declared-limits.ensures.keeps.reach,
      mul-le-mul_right (line_size over.plan over.kept.lists over.kept.detail) few,
      ap (λ (text : List ℕ). length text) (all_lines over c.args.t c.args.row.now c.loop-done.done c.requires.told done),
    )
