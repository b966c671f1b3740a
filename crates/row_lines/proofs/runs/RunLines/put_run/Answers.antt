use Rattle.std.proofs.Common.{ℕ, arith, subst, sym}
use Rattle.std.specs.Prelude.{All}
use Rattle.std.proofs.lemmas.List.Elements.{All-append}
use Rattle.cohort_sizes.proofs.CohortLemmas.{born_count-le}
use Rattle.schema_facts.specs.Layout.{layout_of}
use Rattle.schema_facts.specs.TableFacts.{max_line}
use Rattle.life_intervals.specs.Generator.{last_unit}
use Rattle.row_lines.specs.RunFields.{HasSizes}
use Rattle.row_lines.specs.Runs.{RunLinesOf, layout_for, living_from, run_text}
use Rattle.row_lines.proofs.RunPieceLemmas.{AreRunLines-view}
use Rattle.row_lines.proofs.RunTextLemmas.{appended-more, living_from-more, room-more, run_text-more, sizes-more}
use Rattle.row_lines.proofs.runs.RunLines.put_run.Goals as goal

pub put_rows-requires-clause-room : goal.put_rows-requires-clause-room
put_rows-requires-clause-room g c =
    let lines : RunLinesOf = c.args.self.now in
    room-more c.args.page.now c.loop-done.page (run_text lines c.args.first c.loop-done.done) c.loop-done.done _ c.args.count (max_line (layout_of lines.plan) lines.table)
    c.loop-done.invariant.text c.loop-done.invariant.size (omega arith) c.requires.room

pub loop-done-preserved : goal.loop-done-preserved
loop-done-preserved g c =
    let lines : RunLinesOf = c.args.self.now in
    let done : ℕ = c.loop-done.done in
    let more = sym (run_text-more lines c.args.first done _) in
    record {
      within = omega arith;
      text = appended-more c.args.page.now c.loop-done.page c.put_rows.new.page (run_text lines c.args.first done) _ _ c.loop-done.invariant.text c.put_rows.ensures.text more;
      size = sizes-more (run_text lines c.args.first done) _ _ done _ (max_line (layout_of lines.plan) lines.table) more c.loop-done.invariant.size c.put_rows.ensures.size;
      fields = subst (All (HasSizes lines)) (sym (living_from-more lines c.args.first done _))
          (All-append (HasSizes lines) (living_from lines c.args.first done) _ c.loop-done.invariant.fields c.put_rows.ensures.fields);
      steps = omega (arith, c.loop-done.invariant.steps, c.put_rows.ensures.steps);
    }

pub overflow_add-first : goal.overflow_add-first
overflow_add-first g c =
    let lines : RunLinesOf = c.args.self.now in
    let known = AreRunLines-view _ lines c.self.inside.lines.now c.self.view_is c.self.invariant in
    omega (
      arith,
      c.requires.rows,
      c.loop-done-test.true,
      known.limits.births.row_limit,
      born_count-le (layout_for lines).births lines.unit (last_unit lines.plan) known.unit,
    )
