use Rattle.std.proofs.Common.{◌≡◌, ◌≤◌, Some, ap, arith, sym, ◌∙◌}
use Rattle.schema_facts.specs.ColumnFacts.{field_facts}
use Rattle.schema_facts.specs.Dictionaries.{Project}
use Rattle.schema_facts.specs.Layout.{layout_of}
use Rattle.row_lines.specs.Runs.{RunLinesOf}
use Rattle.row_lines.proofs.RunFieldLemmas.{lines_of}
use Rattle.row_lines.proofs.RunPieceLemmas.{AreRunLines-view}
use Rattle.row_lines.proofs.RunTotalLemmas.{digits-few}
use Rattle.row_lines.proofs.runs.RunLines.decimals.Goals as goal
use Rattle.row_lines.proofs.runs.RunLines.decimals.Goals.{In-Some}

-- what the facts tell
told : (c : In-Some) → (field_facts (layout_of c.args.self.now.plan) c.args.self.now.table c.args.column).numbers ≡ Some c.in-Some.numbers
told c =
    sym (ap (λ (of : RunLinesOf). (field_facts (layout_of of.plan) of.table c.args.column).numbers) c.self.view_is)
    ∙ sym (ap (λ (plan : Project). (field_facts (layout_of plan) c.self.inside.table c.args.column).numbers) c.plan.ensures) ∙ sym c.numbers.ensures ∙ c.in-Some.is

few : (c : In-Some) → c.in-Some.numbers.decimals ≤ 9
few c =
    let lines : RunLinesOf = c.args.self.now in
    let known = AreRunLines-view _ lines c.self.inside.lines.now c.self.view_is c.self.invariant in
    digits-few (lines_of lines) known.sound known.table known.limits c.args.column c.in-Some.numbers c.requires.column c.requires.total (told c)

pub overflow_cast-result : goal.overflow_cast-result
overflow_cast-result c = omega (arith, few (goal.at.overflow_cast-result c).In-Some)

pub returns-in-Some-clause-few : goal.returns-in-Some-clause-few
returns-in-Some-clause-few c = few (goal.at.returns-in-Some-clause-few c).In-Some
