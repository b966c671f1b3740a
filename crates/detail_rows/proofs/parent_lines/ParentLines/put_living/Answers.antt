use Rattle.std.proofs.Common.{ℕ, List, arith, sym}
use Rattle.schema_facts.specs.Dictionaries.{Project}
use Rattle.row_lines.proofs.RunTextLemmas.{appended-more, room-more, sizes-more}
use Rattle.detail_plan.specs.Kept.{Kept}
use Rattle.detail_lines.specs.declared.detail_lines.LineKind.TheVariants.{Whole}
use Rattle.detail_rows.specs.Packages.{listed_text, living_from}
use Rattle.detail_rows.proofs.ParentLemmas.{living-more}
use Rattle.detail_rows.proofs.parent_lines.ParentLines.put_living.Goals as goal

pub overflow_add-first : goal.overflow_add-first
overflow_add-first g c = omega (arith, c.requires.rows, c.loop-done-test.true, c.born-most.ensures.count, c.born-most.ensures.limit)

pub put_living_run-requires-clause-room : goal.put_living_run-requires-clause-room
put_living_run-requires-clause-room g c =
    let plan : Project = c.args.self.now.plan in
    let kept : Kept = c.args.self.now.kept in
    room-more c.args.page.now c.loop-done.page (listed_text plan kept Whole c.args.t (living_from plan kept c.args.t c.args.first c.loop-done.done)) c.loop-done.done _ c.args.count kept.reach
    c.loop-done.invariant.text c.loop-done.invariant.size (omega arith) c.requires.room

pub loop-done-preserved : goal.loop-done-preserved
loop-done-preserved g c =
    let plan : Project = c.args.self.now.plan in
    let kept : Kept = c.args.self.now.kept in
    let done : ℕ = c.loop-done.done in
    let so_far : List ℕ = listed_text plan kept Whole c.args.t (living_from plan kept c.args.t c.args.first done) in
    let more = sym (living-more plan kept c.args.t c.args.first done _) in
    record {
      within = omega arith;
      text = appended-more c.args.page.now c.loop-done.page c.put_living_run.new.page so_far _ _ c.loop-done.invariant.text c.put_living_run.ensures.text more;
      size = sizes-more so_far _ _ done _ kept.reach more c.loop-done.invariant.size c.put_living_run.ensures.size;
    }
