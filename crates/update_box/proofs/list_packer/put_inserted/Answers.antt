use Rattle.std.proofs.Common.{◌≡◌, ◌+◌, ◌-◌, ◌*◌, ℕ, ap, arith, sym, ◌∙◌}
use Rattle.schema_facts.specs.Layout.{layout_of}
use Rattle.schema_facts.specs.TableFacts.{max_line}
use Rattle.row_lines.specs.Runs.{RunLinesOf, run_text}
use Rattle.update_box.specs.Kept.{lines_at}
use Rattle.update_box.specs.Parts.{range_text}
use Rattle.update_box.specs.declared.parts.Content.TheVariants as content
use Rattle.update_box.proofs.EntryLemmas.{range_text-inserted}
use Rattle.update_box.proofs.PackLemmas.{put-text, text-size}
use Rattle.update_box.proofs.list_packer.put_inserted.Goals as goal
use Rattle.update_box.proofs.list_packer.put_inserted.Goals.{After-put_run}

-- the run's text is that of the entries
run_is : (g : _) (c : After-put_run g) →
    run_text c.args.lines.now (c.cohort-begin.result.first + c.args.entries.first) (c.args.entries.end - c.args.entries.first)
    ≡ range_text c.args.plan.now c.args.unit c.args.place content.Inserted c.args.entries.first c.args.entries.end
run_is g c =
    let first : ℕ = c.args.entries.first in
    let size : ℕ = c.args.entries.end - first in
    ap (λ (lines : RunLinesOf). run_text lines (c.cohort-begin.result.first + first) size) c.requires.lines
    ∙ ap (λ (begin : ℕ). run_text (lines_at c.args.plan.now c.args.unit c.args.place) (begin + first) size) c.cohort-begin.ensures.first
    ∙ sym (range_text-inserted c.args.plan.now c.schema-sound.ensures.limits c.args.place c.requires.table c.args.unit c.requires.unit first c.args.entries.end c.requires.ordered c.requires.within)

pub returns-clause-text : goal.returns-clause-text
returns-clause-text g c =
    put-text c.args.page.now c.put_run.new.page _ _ c.requires.empty c.put_run.ensures.text (run_is g (goal.at.returns-clause-text g c).After-put_run)

pub returns-clause-size : goal.returns-clause-size
returns-clause-size g c =
    text-size _ _ _ (run_is g (goal.at.returns-clause-size g c).After-put_run)
    (omega (arith, c.put_run.ensures.size, ap (λ (lines : RunLinesOf). (c.args.entries.end - c.args.entries.first) * max_line (layout_of lines.plan) lines.table) c.requires.lines))
