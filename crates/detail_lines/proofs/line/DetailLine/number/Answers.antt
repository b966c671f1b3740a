use Rattle.std.proofs.Common.{◌≡◌, ℕ, List, Some, ap, subst, sym, ◌∙◌}
use Rattle.std.specs.Prelude.{IfSome}
use Rattle.std.specs.List.{fold}
use Rattle.schema_plan.specs.declared.ready.ReadyColumn.{ReadyColumn}
use Rattle.schema_facts.specs.ColumnFacts.{field_facts}
use Rattle.schema_facts.specs.FieldSizes.{greatest_by}
use Rattle.schema_facts.specs.Layout.{layout_of}
use Rattle.schema_plan.specs.Limits.{IsStillColumn}
use Rattle.draw_values.specs.CohortValues.{IsNumberOf}
use Rattle.life_intervals.specs.Generator.{table_of}
use Rattle.row_lines.specs.declared.derived.Join.TheVariants.{Sum, Product}
use Rattle.row_lines.specs.Derived.{decimals_of, with_operand}
use Rattle.row_lines.specs.Totals.{join_of, start_of}
use Rattle.row_lines.specs.Lookups.{StillRowOf, number_held}
use Rattle.detail_lines.specs.Made.{IsLineOver, LineOver}
use Rattle.detail_lines.specs.Shown.{IsLineTotal, digits_for, operands_of}
use Rattle.detail_lines.proofs.LineValueLemmas.{product_as, number-product, number-sum, sum_as, number-drawn, number-shown, drawn_ready, no_number, shown_as}
use Rattle.detail_lines.proofs.line.DetailLine.number.Goals as goal

pub leaf_number-requires : goal.leaf_number-requires
leaf_number-requires g c =
    let line : LineOver = c.args.self.now in
    let own = subst (λ (l : LineOver). IsLineOver l c.self.inside.row.now c.self.inside.delimiter c.self.inside.seeds.now c.self.inside.drawn) c.self.view_is c.self.invariant in
    drawn_ready line own.keeps own.limits c.args.column c.requires.column c.in-Drawn.leaf (sym (ap (λ (ready : ReadyColumn). ready.kind) c.column.ensures) ∙ c.in-Drawn.is)

pub number-requires : goal.number-requires
number-requires g c =
    let line : LineOver = c.args.self.now in
    let own = subst (λ (l : LineOver). IsLineOver l c.self.inside.row.now c.self.inside.delimiter c.self.inside.seeds.now c.self.inside.drawn) c.self.view_is c.self.invariant in
    let shown = shown_as line own.keeps own.limits c.args.column c.requires.column c.in-Lookup.lookup (sym (ap (λ (ready : ReadyColumn). ready.kind) c.column.ensures) ∙ c.in-Lookup.is) in
    subst (λ (row : StillRowOf). IsStillColumn (table_of row.plan row.table) c.in-Lookup.lookup.column) (sym own.row_is) shown.knows.still

pub total-requires-clause-total : goal.total-requires-clause-total
total-requires-clause-total g c =
    let line : LineOver = c.args.self.now in
    let own = subst (λ (l : LineOver). IsLineOver l c.self.inside.row.now c.self.inside.delimiter c.self.inside.seeds.now c.self.inside.drawn) c.self.view_is c.self.invariant in
    subst (λ (of : List ℕ). IsLineTotal line c.args.column of Sum) (sym c.as_slice.ensures) (sum_as line own.keeps own.limits c.args.column c.requires.column c.in-Sum.of (sym (ap (λ (ready : ReadyColumn). ready.kind) c.column.ensures) ∙ c.in-Sum.is))

pub total-requires-in-Product-clause-total : goal.total-requires-in-Product-clause-total
total-requires-in-Product-clause-total g c =
    let line : LineOver = c.args.self.now in
    let own = subst (λ (l : LineOver). IsLineOver l c.self.inside.row.now c.self.inside.delimiter c.self.inside.seeds.now c.self.inside.drawn) c.self.view_is c.self.invariant in
    subst (λ (of : List ℕ). IsLineTotal line c.args.column of Product) (sym c.as_slice-in-Product.ensures) (product_as line own.keeps own.limits c.args.column c.requires.column c.in-Product.of (sym (ap (λ (ready : ReadyColumn). ready.kind) c.column.ensures) ∙ c.in-Product.is))

pub returns-in-Drawn : goal.returns-in-Drawn
returns-in-Drawn g c =
    let line : LineOver = c.args.self.now in
    let own = subst (λ (l : LineOver). IsLineOver l c.self.inside.row.now c.self.inside.delimiter c.self.inside.seeds.now c.self.inside.drawn) c.self.view_is c.self.invariant in
    number-drawn line own.keeps own.limits c.args.column c.requires.column c.in-Drawn.leaf (sym (ap (λ (ready : ReadyColumn). ready.kind) c.column.ensures) ∙ c.in-Drawn.is) _ (c.requires.seed c.in-Drawn.leaf (sym (ap (λ (ready : ReadyColumn). ready.kind) c.column.ensures) ∙ c.in-Drawn.is)) c.leaf_number.result c.leaf_number.ensures

pub returns-in-Lookup : goal.returns-in-Lookup
returns-in-Lookup g c =
    let line : LineOver = c.args.self.now in
    let own = subst (λ (l : LineOver). IsLineOver l c.self.inside.row.now c.self.inside.delimiter c.self.inside.seeds.now c.self.inside.drawn) c.self.view_is c.self.invariant in
    let shown : ℕ = c.in-Lookup.lookup.column in
    number-shown line own.keeps own.limits c.args.column c.requires.column c.in-Lookup.lookup (sym (ap (λ (ready : ReadyColumn). ready.kind) c.column.ensures) ∙ c.in-Lookup.is) c.number.result
    (c.number.ensures.number ∙ ap (λ (row : StillRowOf). number_held row.plan row.table row.unit row.ordinal shown) own.row_is)
    (subst (λ (row : StillRowOf). IfSome c.number.result (IsNumberOf (field_facts (layout_of row.plan) row.table shown).numbers)) own.row_is c.number.ensures.within)

pub returns-in_default : goal.returns-in_default
returns-in_default g c =
    let line : LineOver = c.args.self.now in
    let own = subst (λ (l : LineOver). IsLineOver l c.self.inside.row.now c.self.inside.delimiter c.self.inside.seeds.now c.self.inside.drawn) c.self.view_is c.self.invariant in
    let kind_is = ap (λ (ready : ReadyColumn). ready.kind) c.column.ensures in
    no_number line own.keeps own.limits c.args.column c.requires.column
    (λ drawn is. c.in_default.not-Drawn drawn (kind_is ∙ is)) (λ lookup is. c.in_default.not-Lookup lookup (kind_is ∙ is)) (λ of is. c.in_default.not-Sum of (kind_is ∙ is)) (λ of is. c.in_default.not-Product of (kind_is ∙ is))

pub returns-in-Sum : goal.returns-in-Sum
returns-in-Sum g c =
    let line : LineOver = c.args.self.now in
    let own = subst (λ (l : LineOver). IsLineOver l c.self.inside.row.now c.self.inside.delimiter c.self.inside.seeds.now c.self.inside.drawn) c.self.view_is c.self.invariant in
    number-sum line own.keeps own.limits c.args.column c.requires.column c.in-Sum.of (sym (ap (λ (ready : ReadyColumn). ready.kind) c.column.ensures) ∙ c.in-Sum.is) c.total.result
    (λ n past. c.total.ensures.total n past ∙ ap (λ (of : List ℕ). fold (with_operand (join_of Sum)) (Some (start_of Sum (digits_for line.over.kept.facts of))) (operands_of line n of)) c.as_slice.ensures)
    (λ some n past. subst (λ (of : List ℕ). greatest_by decimals_of (operands_of line n of) ≡ digits_for line.over.kept.facts of) c.as_slice.ensures (c.total.ensures.digits some n past))
    c.total.ensures.within

pub returns-in-Product : goal.returns-in-Product
returns-in-Product g c =
    let line : LineOver = c.args.self.now in
    let own = subst (λ (l : LineOver). IsLineOver l c.self.inside.row.now c.self.inside.delimiter c.self.inside.seeds.now c.self.inside.drawn) c.self.view_is c.self.invariant in
    number-product line own.keeps own.limits c.args.column c.requires.column c.in-Product.of (sym (ap (λ (ready : ReadyColumn). ready.kind) c.column.ensures) ∙ c.in-Product.is) c.total-in-Product.result
    (λ n past. c.total-in-Product.ensures.total n past ∙ ap (λ (of : List ℕ). fold (with_operand (join_of Product)) (Some (start_of Product (digits_for line.over.kept.facts of))) (operands_of line n of)) c.as_slice-in-Product.ensures)
    c.total-in-Product.ensures.within
