use Rattle.std.proofs.Common.{◌≤◌, ◌-◌, ◌*◌, ◌++◌, ℕ, List, arith, ap, length, ◌∙◌}
use Rattle.std.proofs.Math.Nat.{mul-le-mul_right}
use Rattle.schema_facts.specs.Counts.{count}
use Rattle.detail_plan.specs.Rules.{line_size}
use Rattle.detail_lines.specs.Made.{LinesOver}
use Rattle.detail_lines.proofs.LineListLemmas.{among-part, rows-room}
use Rattle.detail_lines.proofs.detail_lines.DetailLines.put_some_rows.Goals as goal

pub put_run-requires-clause-lines : goal.put_run-requires-clause-lines
put_run-requires-clause-lines g c =
    c.first-run.ensures.lines c.args.self.now c.args.at.now.unit c.gather-found.ensures.listed
    (among-part c.args.self.now c.args.at.now.unit c.args.first (c.gather-found.result.end - c.args.first) c.gather-found.result.lines c.args.rows.now c.part-parents.result c.gather-found.new.lists c.requires.told
    (omega (arith, c.gather-found.ensures.within, c.gather-found.ensures.some, c.requires.many.ordinals)) (omega (arith, c.gather-found.ensures.within, c.requires.few)) c.part-parents.ensures.many c.part-parents.ensures.rows c.gather-found.ensures.placed)

pub put_run-requires-clause-room : goal.put_run-requires-clause-room
put_run-requires-clause-room g c =
    let over : LinesOver = c.args.self.now in
    let rows : ℕ = c.gather-found.result.end - c.args.first in
    let most : rows ≤ c.args.many - c.args.first = omega (arith, c.gather-found.ensures.within) in
    omega (
      arith,
      c.requires.room,
      rows-room c.gather-found.result.lines rows (count over.kept.detail.hi) (line_size over.plan over.kept.lists over.kept.detail) c.gather-found.ensures.bound,
      ap (λ (n : ℕ). rows * n) c.declared-limits.ensures.keeps.reach,
      mul-le-mul_right over.kept.reach most,
    )

pub returns-else-not-put_run-clause-text : goal.returns-else-not-put_run-clause-text
returns-else-not-put_run-clause-text g c =
    c.put_run.ensures.put c.if-not-put_run.false
    ∙ ap (λ (text : List ℕ). record { text = c.args.page.now.text ++ text; room = c.args.page.now.room }) (c.first-run.ensures.text c.args.self.now c.args.at.now.unit ∙ c.gather-found.ensures.text)

pub returns-else-not-put_run-clause-size : goal.returns-else-not-put_run-clause-size
returns-else-not-put_run-clause-size g c =
    let over : LinesOver = c.args.self.now in
    let rows : ℕ = c.gather-found.result.end - c.args.first in
    omega (
      arith,
      ap (λ (text : List ℕ). length text) (c.first-run.ensures.text over c.args.at.now.unit ∙ c.gather-found.ensures.text),
      c.put_run.ensures.size c.if-not-put_run.false,
      rows-room c.gather-found.result.lines rows (count over.kept.detail.hi) (line_size over.plan over.kept.lists over.kept.detail) c.gather-found.ensures.bound,
      ap (λ (n : ℕ). rows * n) c.declared-limits.ensures.keeps.reach,
    )
