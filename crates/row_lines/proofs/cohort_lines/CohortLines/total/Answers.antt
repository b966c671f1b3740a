use Rattle.std.proofs.Common.{ap, arith, subst, ◌∙◌}
use Rattle.std.specs.Prelude.{IfSome}
use Rattle.schema_facts.specs.ColumnFacts.{field_cost, field_facts}
use Rattle.schema_facts.specs.Layout.{layout_of}
use Rattle.draw_values.specs.CohortValues.{IsNumberOf, ValuesOf}
use Rattle.row_lines.specs.CohortLines.{AreLinesOf, LinesOf}
use Rattle.row_lines.specs.Derived.{columns_before}
use Rattle.row_lines.specs.Totals.{number_for}
use Rattle.row_lines.proofs.CohortLineLemmas.{AreLinesOf-view}
use Rattle.row_lines.proofs.RunTotalLemmas.{asked-total, text-total}
use Rattle.row_lines.proofs.cohort_lines.CohortLines.total.Goals as goal
use Rattle.row_lines.proofs.cohort_lines.CohortLines.total.Goals.{After-number}

known : (g : _) (c : After-number g) → AreLinesOf c.args.self.now c.self.inside.columns.now c.self.inside.fields c.self.inside.delimiter
known g c = AreLinesOf-view _ c.args.self.now c.self.inside.columns.now c.self.inside.fields c.self.inside.delimiter c.self.view_is c.self.invariant

pub returns-clause-text : goal.returns-clause-text
returns-clause-text g c =
    let lines : LinesOf = c.args.self.now in
    let known = known g (goal.at.returns-clause-text g c).After-number in
    text-total lines c.args.index c.args.column c.number.result known.table c.requires.column c.requires.total
    (λ n past.
    c.number.ensures.number n (omega (arith, past, ap (λ (of : LinesOf). columns_before of.table c.args.column) known.fields_are))
    ∙ ap (λ (of : LinesOf). number_for of c.args.index c.args.values.now.changed n c.args.column) known.fields_are
    ∙ ap (λ (of : ValuesOf). number_for lines c.args.index of.changed n c.args.column) c.requires.values)

pub returns-clause-within : goal.returns-clause-within
returns-clause-within g c =
    let known = known g (goal.at.returns-clause-within g c).After-number in
    subst (λ (of : LinesOf). IfSome c.number.result (IsNumberOf (field_facts (layout_of of.plan) of.table c.args.column).numbers)) known.fields_are c.number.ensures.within

pub returns-clause-steps : goal.returns-clause-steps
returns-clause-steps g c =
    let known = known g (goal.at.returns-clause-steps g c).After-number in
    omega (
      arith,
      c.number.ensures.steps,
      ap (λ (of : LinesOf). field_cost (layout_of of.plan) of.table c.args.column) known.fields_are,
      asked-total c.args.self.now c.args.column c.requires.total,
    )
