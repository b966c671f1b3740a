use Rattle.std.proofs.Common.{List, ap, get_or, subst, ◌∙◌}
use Rattle.schema_plan.specs.declared.ready.ReadyColumn.{ReadyColumn}
use Rattle.detail_lines.specs.Made.{IsLineOver, LineOver}
use Rattle.detail_lines.proofs.ColumnLemmas.{ready_at}
use Rattle.detail_lines.proofs.line.DetailLine.column.Goals as goal

pub returns : goal.returns
returns c =
    let line : LineOver = c.args.self.now in
    let own = subst (λ (l : LineOver). IsLineOver l c.self.inside.row.now c.self.inside.delimiter c.self.inside.seeds.now c.self.inside.drawn) c.self.view_is c.self.invariant in
    c.index-columns-column.is
    ∙ ap (λ (columns : List ReadyColumn). get_or columns c.args.column c.index-columns-column.result) (c.columns-columns.ensures ∙ ap (λ (l : LineOver). l.over.kept.columns) c.self.view_is)
    ∙ ready_at line.over.plan line.over.kept own.keeps own.limits c.args.column c.index-columns-column.result c.requires
