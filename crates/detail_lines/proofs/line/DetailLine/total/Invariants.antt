use Rattle.schema_facts.specs.FactsBefore.{facts_among}
use Rattle.row_lines.proofs.OperandLemmas.{AreJoined}
use Rattle.detail_lines.proofs.line.DetailLine.total.Given as goal
use Rattle.detail_lines.specs.Lines.{line_number_in}
use Rattle.detail_lines.specs.Made.{line_over}

-- the operands before one
abbrev pub invariant-loop-operand : goal.invariant-loop-operand
invariant-loop-operand l =
    AreJoined (λ place. (facts_among l.self.over.kept.facts place).numbers) (λ n. line_number_in n (line_over l.self)) l.column l.of l.join l.operand-index l.total
