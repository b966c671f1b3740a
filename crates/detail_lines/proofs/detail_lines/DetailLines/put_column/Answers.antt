use Rattle.std.proofs.Common.{◌≡◌, ap, sym, ◌∙◌}
use Rattle.schema_plan.specs.declared.ready.ReadyColumn.{ReadyColumn}
use Rattle.schema_plan.specs.declared.ready.ReadyKind.TheVariants as kind
use Rattle.detail_lines.specs.Made.{ready_over}
use Rattle.detail_lines.proofs.LineRunLemmas.{ready-of}
use Rattle.detail_lines.proofs.detail_lines.DetailLines.put_column.Goals as goal
use Rattle.detail_lines.proofs.detail_lines.DetailLines.put_column.Goals.{After-index-columns-column}

-- what is kept ready of the column
kind_is : (c : After-index-columns-column) → (ready_over c.args.self.now c.args.column).kind ≡ c.index-columns-column.result.kind
kind_is c =
    let limits = c.ready-columns.ensures in
    sym (ap (λ (column : ReadyColumn). column.kind)
    (ready-of c.args.self.now limits.keeps limits.limits c.args.column c.requires.column c.ready-columns.result.now c.index-columns-column.result limits.value c.index-columns-column.is))

pub put_drawn-requires-clause-drawn : goal.put_drawn-requires-clause-drawn
put_drawn-requires-clause-drawn c =
    kind_is (goal.at.put_drawn-requires-clause-drawn c).After-index-columns-column
    ∙ ap (λ (column : ReadyColumn). column.kind) c.index-columns-column.is ∙ c.in-Drawn.is

pub put_dates-requires-clause-dated : goal.put_dates-requires-clause-dated
put_dates-requires-clause-dated c = (
  c.in-After.field-0,
  kind_is (goal.at.put_dates-requires-clause-dated c).After-index-columns-column
      ∙ ap (λ (column : ReadyColumn). column.kind) c.index-columns-column.is ∙ c.in-After.is,
)

pub put_totals-requires-clause-total : goal.put_totals-requires-clause-total
put_totals-requires-clause-total c =
    kind_is (goal.at.put_totals-requires-clause-total c).After-index-columns-column
    ∙ ap (λ (column : ReadyColumn). column.kind) c.index-columns-column.is ∙ c.in-Sum.is ∙ sym (ap kind.Sum c.as_slice-of.ensures)

pub put_totals-requires-in-Product-clause-total : goal.put_totals-requires-in-Product-clause-total
put_totals-requires-in-Product-clause-total c =
    kind_is (goal.at.put_totals-requires-in-Product-clause-total c).After-index-columns-column
    ∙ ap (λ (column : ReadyColumn). column.kind) c.index-columns-column.is ∙ c.in-Product.is ∙ sym (ap kind.Product c.as_slice-of-in-Product.ensures)

pub put_shown-requires-clause-lookup : goal.put_shown-requires-clause-lookup
put_shown-requires-clause-lookup c =
    kind_is (goal.at.put_shown-requires-clause-lookup c).After-index-columns-column
    ∙ ap (λ (column : ReadyColumn). column.kind) c.index-columns-column.is ∙ c.in-Lookup.is
