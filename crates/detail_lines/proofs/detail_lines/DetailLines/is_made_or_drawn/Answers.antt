use Rattle.std.proofs.Common.{ap, sym, ◌∙◌}
use Rattle.schema_plan.specs.declared.ready.ReadyColumn.{ReadyColumn}
use Rattle.detail_lines.specs.LineRuns.{is_drawn}
use Rattle.detail_lines.proofs.LineMixedLemmas.{drawn-from}
use Rattle.detail_lines.proofs.LineRunLemmas.{ready-of}
use Rattle.detail_lines.proofs.detail_lines.DetailLines.is_made_or_drawn.Goals as goal

pub returns-else-made : goal.returns-else-made
returns-else-made c = λ drawn held.
    let ready = ready-of c.args.self.now c.ready-columns.ensures.keeps c.ready-columns.ensures.limits c.args.column c.requires c.ready-columns.result.now c.index-columns-column.result c.ready-columns.ensures.value c.index-columns-column.is in
    let found = drawn-from c.index-columns-column.result.kind (ap is_drawn (ap (λ (one : ReadyColumn). one.kind) c.index-columns-column.is) ∙ sym c.is_drawn.ensures ∙ drawn) in
    (found.0, sym (ap (λ (one : ReadyColumn). one.kind) ready) ∙ found.1)
