use Rattle.std.proofs.Common.{◌≡◌, ◌≤◌, ℕ, ◌+◌, ◌*◌, ◌++◌, List, flat_map, arith, ap}
use Rattle.schema_facts.specs.Layout.{layout_of}
use Rattle.row_lines.specs.Runs.{RunLinesOf}
use Rattle.row_lines.proofs.RunTextLemmas.{appended-more, room-more, sizes-more}
use Rattle.sql_lines.specs.Reach.{statement_size}
use Rattle.sql_lines.specs.Told.{many_told, ordinals_told, statement_for, told_range}
use Rattle.sql_lines.proofs.ToldLemmas.{told-more}
use Rattle.sql_lines.proofs.rows.put_rows.Goals as goal

pub put_few-requires-clause-told : goal.put_few-requires-clause-told
put_few-requires-clause-told g c = c.part-part.ensures.told c.args.of.now c.requires.told

pub put_few-requires-clause-room : goal.put_few-requires-clause-room
put_few-requires-clause-room g c =
    let lines : RunLinesOf = c.args.of.now in
    let size : ℕ = statement_size (layout_of lines.plan) lines.table in
    let done : ℕ = c.loop-done.done in
    let some : ℕ = c.min-some.result in
    let within : done + some ≤ many_told c.args.told = omega (arith, c.min-some.ensures, c.loop-done.invariant.within, c.many-count.ensures) in
    omega (
      arith,
      ap (λ (n : ℕ). n * size) c.part-part.ensures.many,
      room-more c.args.page.now c.loop-done.page (flat_map (statement_for lines c.args.verb) (told_range lines c.args.told 0 done)) done some (many_told c.args.told) size
          c.loop-done.invariant.page c.loop-done.invariant.size within c.requires.room,
    )

pub loop-done-preserved : goal.loop-done-preserved
loop-done-preserved g c =
    let lines : RunLinesOf = c.args.of.now in
    let size : ℕ = statement_size (layout_of lines.plan) lines.table in
    let stated : ℕ → List ℕ = statement_for lines c.args.verb in
    let done : ℕ = c.loop-done.done in
    let some : ℕ = c.min-some.result in
    let so_far : List ℕ = flat_map stated (told_range lines c.args.told 0 done) in
    let more : List ℕ = flat_map stated (ordinals_told lines c.part-part.result) in
    let all : List ℕ = flat_map stated (told_range lines c.args.told 0 (done + some)) in
    let whole : so_far ++ more ≡ all = told-more lines stated c.args.told c.part-part.result done some (c.part-part.ensures.ordinals lines) in
    record {
      within = omega (arith, c.min-some.ensures, c.loop-done.invariant.within);
      page = appended-more c.args.page.now c.loop-done.page c.put_few.new.page so_far more all c.loop-done.invariant.page c.put_few.ensures.text whole;
      size = sizes-more so_far more all done some size whole c.loop-done.invariant.size (omega (arith, c.put_few.ensures.size, ap (λ (n : ℕ). n * size) c.part-part.ensures.many));
    }
