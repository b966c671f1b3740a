use Rattle.std.proofs.Common.{◌≡◌, ◌≤◌, ◌-◌, ◌*◌, ℕ, List, [], ap, arith, sym, ◌∙◌}
use Rattle.std.proofs.Math.Nat.{mul-le-mul_right}
use Rattle.schema_facts.specs.Dictionaries.{Project}
use Rattle.schema_facts.specs.Layout.{layout_of}
use Rattle.schema_facts.specs.TableFacts.{max_line}
use Rattle.row_lines.specs.Runs.{RunLinesOf, run_text}
use Rattle.update_box.specs.Kept.{lines_at}
use Rattle.update_box.specs.Parts.{range_text}
use Rattle.update_box.specs.declared.parts.Content.TheVariants as content
use Rattle.update_box.proofs.PackLemmas.{living-text, put-none, put-text, text-size}
use Rattle.update_box.proofs.snapshot_packer.put_living.Goals as goal
use Rattle.update_box.proofs.snapshot_packer.put_living.Goals.{After-begin_at-begin, After-put_run}

-- the text of the rows from the first that may be alive on is that of all
living_is : (g : _) (c : After-begin_at-begin g) →
    run_text (lines_at c.args.plan.now c.args.unit c.args.share.now.place) c.begin_at-begin.result (c.args.end - c.begin_at-begin.result)
    ≡ range_text c.args.plan.now c.args.unit c.args.share.now.place content.Snapshot c.args.first c.args.end
living_is g c =
    living-text c.args.plan.now c.schema-sound.ensures.limits c.args.share.now.place c.args.unit c.requires.unit c.args.first c.args.end c.begin_at-begin.result c.args.share.now.living
    c.begin_at-begin.ensures.begun c.begin_at-begin.ensures.within c.requires.rows c.begin_at-begin.ensures.passed c.requires.snapshot.living

-- nothing is left where none may be alive
none_is : (g : _) (c : After-begin_at-begin g) → c.begin_at-begin.result ≡ c.args.end →
    [] ≡ range_text c.args.plan.now c.args.unit c.args.share.now.place content.Snapshot c.args.first c.args.end
none_is g c at_end =
    let none : c.args.end - c.begin_at-begin.result ≡ 0 = omega (arith, at_end) in
    ap (run_text (lines_at c.args.plan.now c.args.unit c.args.share.now.place) c.begin_at-begin.result) (sym none) ∙ living_is g c

-- the run is over the table's lines, so its text is theirs
lines_are : (g : _) (c : After-put_run g) → c.lines_of-lines.result ≡ lines_at c.args.plan.now c.args.unit c.args.share.now.place
lines_are g c = c.lines_of-lines.ensures ∙ ap (λ (p : Project). lines_at p c.args.unit c.args.share.now.place) c.rows-rows.ensures

run_is : (g : _) (c : After-put_run g) (whole : List ℕ) →
    run_text (lines_at c.args.plan.now c.args.unit c.args.share.now.place) c.begin_at-begin.result (c.args.end - c.begin_at-begin.result) ≡ whole →
    run_text c.lines_of-lines.result c.begin_at-begin.result (c.args.end - c.begin_at-begin.result) ≡ whole
run_is g c whole is = ap (λ (lines : RunLinesOf). run_text lines c.begin_at-begin.result (c.args.end - c.begin_at-begin.result)) (lines_are g c) ∙ is

pub returns-then-begin-end-clause-text : goal.returns-then-begin-end-clause-text
returns-then-begin-end-clause-text g c =
    put-none c.args.page.now _ c.requires.empty (none_is g (goal.at.returns-then-begin-end-clause-text g c).After-begin_at-begin c.if-begin-end.true)

pub returns-then-begin-end-clause-size : goal.returns-then-begin-end-clause-size
returns-then-begin-end-clause-size g c =
    text-size _ _ _ (none_is g (goal.at.returns-then-begin-end-clause-size g c).After-begin_at-begin c.if-begin-end.true) (omega arith)

pub returns-clause-text : goal.returns-clause-text
returns-clause-text g c =
    let at = goal.at.returns-clause-text g c in
    put-text c.args.page.now c.put_run.new.page _ _ c.requires.empty c.put_run.ensures.text (run_is g at.After-put_run _ (living_is g at.After-begin_at-begin))

pub returns-clause-size : goal.returns-clause-size
returns-clause-size g c =
    let at = goal.at.returns-clause-size g c in
    let begin : ℕ = c.begin_at-begin.result in
    let most : RunLinesOf → ℕ = λ lines. max_line (layout_of lines.plan) lines.table in
    let few : c.args.end - begin ≤ c.args.end - c.args.first = omega (arith, c.begin_at-begin.ensures.begun) in
    text-size _ _ _ (run_is g at.After-put_run _ (living_is g at.After-begin_at-begin))
    (omega (
      arith,
      c.put_run.ensures.size,
      ap (λ (lines : RunLinesOf). (c.args.end - begin) * most lines) (lines_are g at.After-put_run),
      mul-le-mul_right (max_line (layout_of c.args.plan.now) c.args.share.now.place) few,
    ))
