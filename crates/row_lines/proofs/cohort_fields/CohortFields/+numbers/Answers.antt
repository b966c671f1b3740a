use Rattle.std.proofs.Common.{◌≡◌, ◌<◌, ◌≤◌, ◌+◌, ℕ, List, Option, Some, Bool, true, false, get_or, length, refl, sum_by, ap, arith, subst, sym, ◌∙◌}
use Rattle.std.specs.Prelude.{IfSome}
use Rattle.std.proofs.lemmas.List.Sums.{sum_by-take-le, sum_by_more}
use Rattle.cohort_sizes.specs.Births.{cohort_size}
use Rattle.schema_facts.specs.declared.numbers.Numbers.{Numbers}
use Rattle.schema_plan.specs.declared.ready.ReadyColumn.{ReadyColumn}
use Rattle.schema_plan.specs.declared.ready.ReadyKind.TheVariants.{Lookup, Product, Sum}
use Rattle.schema_plan.specs.declared.ready.ReadyLookup.{ReadyLookup}
use Rattle.schema_facts.specs.ColumnFacts.{field_cost, field_facts}
use Rattle.schema_facts.specs.Layout.{KindLayout, column_at, layout_of, lookup_kind, product_kind, sum_kind}
use Rattle.schema_facts.proofs.FieldFactsLemmas.{numbers-lookup}
use Rattle.draw_values.specs.declared.leaf_numbers.Number.{Number}
use Rattle.draw_values.specs.CohortValues.{IsNumberOf, ValuesOf, is_null_for}
use Rattle.draw_values.specs.Values.{is_null}
use Rattle.life_intervals.specs.Generator.{generator_of}
use Rattle.life_intervals.specs.Rows.{Row}
use Rattle.row_lines.specs.declared.derived.Join.{Join}
use Rattle.row_lines.specs.declared.derived.Join.TheVariants as join
use Rattle.row_lines.specs.declared.derived.ParentRow.{ParentRow}
use Rattle.row_lines.specs.CohortLines.{AreFieldsOf, LinesOf, layout_for, ordinal_of, row_changed, values_at}
use Rattle.row_lines.specs.Derived.{columns_before, number_in, product_of, sum_of}
use Rattle.row_lines.specs.Lookups.{IsLookupOf}
use Rattle.row_lines.specs.RowViews.{draws_of}
use Rattle.row_lines.specs.Totals.{IsTotalOf, digits_for, number_for, operands_for, start_of}
use Rattle.row_lines.proofs.CohortFieldLemmas.{AreFieldsOf-view, column_here, ready_at}
use Rattle.row_lines.proofs.DerivedLemmas.{number-drawn, number-null, number_by-own, own_number-values, parent-number, parent_before, product_from_ready, product_here, shown_within, sum_from_ready, sum_here}
use Rattle.row_lines.proofs.LookupLemmas.{cost_of_lookup, kind_of_lookup, looks_up_earlier, looks_up_still}
use Rattle.row_lines.proofs.PartLemmas.{null-drawn}
use Rattle.row_lines.proofs.OperandLemmas.{sum-is}
use Rattle.row_lines.proofs.TotalLemmas.{IsNext, IsSoFar, so_far-all, so_far-lost, so_far-more}
use Rattle.row_lines.proofs.cohort_fields.CohortFields.+numbers.Goals as goal

-- whether the field is null, as the row has it
null_is : (lines : LinesOf) (values : ValuesOf) (column index ordinal : ℕ) (null told : Bool) → values ≡ values_at lines values.changed → ordinal ≡ ordinal_of lines index → lines.born ≤ lines.unit →
    index < cohort_size (layout_for lines).births lines.born → null ≡ is_null_for values column ordinal → null ≡ told →
    is_null (column_at (layout_for lines).columns column).null (draws_of (generator_of lines.plan) lines.table (row_changed lines index values.changed) column) ≡ told
null_is lines values column index ordinal null told values_are ordinal_is early inside drawn told_is =
    null-drawn lines values column index values.changed ordinal values_are ordinal_is early inside ∙ sym drawn ∙ told_is

pub number-returns-then-is_null-clause-number : goal.number-returns-then-is_null-clause-number
number-returns-then-is_null-clause-number g t c = λ n enough.
    let lines : LinesOf = c.args.self.now in
    number-null (generator_of lines.plan) lines.table c.args.column (row_changed lines c.args.index c.args.values.now.changed)
    (null_is lines c.args.values.now c.args.column c.args.index c.ordinal-ordinal.result c.is_null.result true c.requires.values c.ordinal-ordinal.ensures.ordinal c.ordinal-ordinal.ensures.early c.requires.row c.is_null.ensures c.if-is_null.true) n

-- ---- sums and products

-- the column is a sum, or a product
sum_of_ready : (lines : LinesOf) (columns : List ReadyColumn) (first : ℕ) → AreFieldsOf lines columns first → (column : ℕ) (found : ReadyColumn) (of : List ℕ) → column < length (layout_for lines).columns →
    found ≡ get_or columns column found → found.kind ≡ Sum of → (column_at (layout_for lines).columns column).kind ≡ sum_kind of
sum_of_ready lines columns first known column found of within at held =
    sum_from_ready (layout_of lines.plan).delimiter (column_at (layout_for lines).columns column).kind of (ap (λ (ready : ReadyColumn). ready.kind) (ready_at lines columns known.columns_are column found within at) ∙ held)

product_of_ready : (lines : LinesOf) (columns : List ReadyColumn) (first : ℕ) → AreFieldsOf lines columns first → (column : ℕ) (found : ReadyColumn) (of : List ℕ) → column < length (layout_for lines).columns →
    found ≡ get_or columns column found → found.kind ≡ Product of → (column_at (layout_for lines).columns column).kind ≡ product_kind of
product_of_ready lines columns first known column found of within at held =
    product_from_ready (layout_of lines.plan).delimiter (column_at (layout_for lines).columns column).kind of (ap (λ (ready : ReadyColumn). ready.kind) (ready_at lines columns known.columns_are column found within at) ∙ held)

pub number-total-requires : goal.number-total-requires
number-total-requires g t c κs outlives =
    let lines : LinesOf = c.args.self.now in
    let known = AreFieldsOf-view _ lines c.self.inside.columns.now c.self.inside.first c.self.view_is c.self.invariant in
    let is = sum_of_ready lines c.self.inside.columns.now c.self.inside.first known c.args.column c.index-columns-column.result c.in-Sum.of c.requires.column c.index-columns-column.is (ap (λ (column : ReadyColumn). column.kind) c.index-columns-column.is ∙ c.in-Sum.is) in (
      omega (arith, c.decreases),
      (
        outlives,
        (
          subst (λ (of : List ℕ). IsTotalOf lines c.args.column of join.Sum) (sym c.as_slice.ensures) (sum_here lines known.sound known.table known.limits c.args.column c.in-Sum.of c.requires.column is).0,
          (c.requires.row, c.requires.values),
        ),
      ),
    )

pub number-total-requires-in-Product : goal.number-total-requires-in-Product
number-total-requires-in-Product g t c κs outlives =
    let lines : LinesOf = c.args.self.now in
    let known = AreFieldsOf-view _ lines c.self.inside.columns.now c.self.inside.first c.self.view_is c.self.invariant in
    let is = product_of_ready lines c.self.inside.columns.now c.self.inside.first known c.args.column c.index-columns-column.result c.in-Product.of c.requires.column c.index-columns-column.is (ap (λ (column : ReadyColumn). column.kind) c.index-columns-column.is ∙ c.in-Product.is) in (
      omega (arith, c.decreases),
      (
        outlives,
        (
          subst (λ (of : List ℕ). IsTotalOf lines c.args.column of join.Product) (sym c.as_slice-in-Product.ensures) (product_here lines known.sound known.table known.limits c.args.column c.in-Product.of c.requires.column is).0,
          (c.requires.row, c.requires.values),
        ),
      ),
    )

pub number-returns-in-Sum-clause-number : goal.number-returns-in-Sum-clause-number
number-returns-in-Sum-clause-number g t c = λ n enough.
    let lines : LinesOf = c.args.self.now in
    let known = AreFieldsOf-view _ lines c.self.inside.columns.now c.self.inside.first c.self.view_is c.self.invariant in
    let of : List ℕ = c.in-Sum.of in
    let is = sum_of_ready lines c.self.inside.columns.now c.self.inside.first known c.args.column c.index-columns-column.result of c.requires.column c.index-columns-column.is (ap (λ (column : ReadyColumn). column.kind) c.index-columns-column.is ∙ c.in-Sum.is) in
    number-drawn (generator_of lines.plan) lines.table c.args.column (row_changed lines c.args.index c.args.values.now.changed) (sum_kind of) c.total.result is
    (null_is lines c.args.values.now c.args.column c.args.index c.ordinal-ordinal.result c.is_null.result false c.requires.values c.ordinal-ordinal.ensures.ordinal c.ordinal-ordinal.ensures.early c.requires.row c.is_null.ensures c.if-is_null.false)
    (λ m past.
    sum-is (operands_for lines c.args.index c.args.values.now.changed m c.as_slice.result.now) (digits_for lines c.as_slice.result.now) c.total.result (c.total.ensures.total m past) (λ some. c.total.ensures.digits some m past)
    ∙ ap (λ (places : List ℕ). sum_of (operands_for lines c.args.index c.args.values.now.changed m places)) c.as_slice.ensures) n enough

pub number-returns-in-Sum-clause-steps : goal.number-returns-in-Sum-clause-steps
number-returns-in-Sum-clause-steps g t c =
    let lines : LinesOf = c.args.self.now in
    let known = AreFieldsOf-view _ lines c.self.inside.columns.now c.self.inside.first c.self.view_is c.self.invariant in
    let is = sum_of_ready lines c.self.inside.columns.now c.self.inside.first known c.args.column c.index-columns-column.result c.in-Sum.of c.requires.column c.index-columns-column.is (ap (λ (column : ReadyColumn). column.kind) c.index-columns-column.is ∙ c.in-Sum.is) in
    omega (
      arith,
      c.total.ensures.steps,
      ap (sum_by (field_cost (layout_of lines.plan) lines.table)) c.as_slice.ensures,
      (sum_here lines known.sound known.table known.limits c.args.column c.in-Sum.of c.requires.column is).1,
    )

pub number-returns-in-Product-clause-number : goal.number-returns-in-Product-clause-number
number-returns-in-Product-clause-number g t c = λ n enough.
    let lines : LinesOf = c.args.self.now in
    let known = AreFieldsOf-view _ lines c.self.inside.columns.now c.self.inside.first c.self.view_is c.self.invariant in
    let of : List ℕ = c.in-Product.of in
    let is = product_of_ready lines c.self.inside.columns.now c.self.inside.first known c.args.column c.index-columns-column.result of c.requires.column c.index-columns-column.is (ap (λ (column : ReadyColumn). column.kind) c.index-columns-column.is ∙ c.in-Product.is) in
    number-drawn (generator_of lines.plan) lines.table c.args.column (row_changed lines c.args.index c.args.values.now.changed) (product_kind of) c.total-in-Product.result is
    (null_is lines c.args.values.now c.args.column c.args.index c.ordinal-ordinal.result c.is_null.result false c.requires.values c.ordinal-ordinal.ensures.ordinal c.ordinal-ordinal.ensures.early c.requires.row c.is_null.ensures c.if-is_null.false)
    (λ m past. c.total-in-Product.ensures.total m past ∙ ap (λ (places : List ℕ). product_of (operands_for lines c.args.index c.args.values.now.changed m places)) c.as_slice-in-Product.ensures) n enough

pub number-returns-in-Product-clause-steps : goal.number-returns-in-Product-clause-steps
number-returns-in-Product-clause-steps g t c =
    let lines : LinesOf = c.args.self.now in
    let known = AreFieldsOf-view _ lines c.self.inside.columns.now c.self.inside.first c.self.view_is c.self.invariant in
    let is = product_of_ready lines c.self.inside.columns.now c.self.inside.first known c.args.column c.index-columns-column.result c.in-Product.of c.requires.column c.index-columns-column.is (ap (λ (column : ReadyColumn). column.kind) c.index-columns-column.is ∙ c.in-Product.is) in
    omega (
      arith,
      c.total-in-Product.ensures.steps,
      ap (sum_by (field_cost (layout_of lines.plan) lines.table)) c.as_slice-in-Product.ensures,
      (product_here lines known.sound known.table known.limits c.args.column c.in-Product.of c.requires.column is).1,
    )

-- ---- lookups

looks : (lines : LinesOf) (columns : List ReadyColumn) (first : ℕ) → AreFieldsOf lines columns first → (column : ℕ) (found : ReadyColumn) (lookup : ReadyLookup) → column < length (layout_for lines).columns →
    found ≡ get_or columns column found → found.kind ≡ Lookup lookup → IsLookupOf lines column lookup
looks lines columns first known column found lookup within at held =
    record { within = within; is = ap (λ (ready : ReadyColumn). ready.kind) (ready_at lines columns known.columns_are column found within at) ∙ held }

pub number-number-requires : goal.number-number-requires
number-number-requires g t c κs outlives =
    let lines : LinesOf = c.args.self.now in
    let known = AreFieldsOf-view _ lines c.self.inside.columns.now c.self.inside.first c.self.view_is c.self.invariant in
    let lookup : ReadyLookup = c.in-Lookup.lookup in
    let parent : ParentRow = c.parent_row-parent.result in
    let of = c.parent_row-parent.ensures.row in
    let here = looks lines c.self.inside.columns.now c.self.inside.first known c.args.column c.index-columns-column.result lookup c.requires.column c.index-columns-column.is (ap (λ (column : ReadyColumn). column.kind) c.index-columns-column.is ∙ c.in-Lookup.is) in (
      omega (
        arith,
        c.decreases,
        parent_before lines parent lookup c.args.column (columns_before lines.table c.args.column) of (looks_up_earlier lines known.sound known.table c.args.column lookup here)
            (shown_within lines known.sound known.table c.args.column lookup here) (omega arith),
      ),
      (
        outlives,
        (
          subst (λ (fields : LinesOf). lookup.column < length (layout_for fields).columns) (sym of.fields) (looks_up_still lines known.sound known.table c.args.column lookup here).within,
          (of.inside, of.values ∙ ap (values_at parent.fields) (sym (ap (λ (values : ValuesOf). values.changed) of.values))),
        ),
      ),
    )

pub number-returns-in-Lookup-clause-number : goal.number-returns-in-Lookup-clause-number
number-returns-in-Lookup-clause-number g t c = λ n enough.
    let lines : LinesOf = c.args.self.now in
    let known = AreFieldsOf-view _ lines c.self.inside.columns.now c.self.inside.first c.self.view_is c.self.invariant in
    let lookup : ReadyLookup = c.in-Lookup.lookup in
    let here = looks lines c.self.inside.columns.now c.self.inside.first known c.args.column c.index-columns-column.result lookup c.requires.column c.index-columns-column.is (ap (λ (column : ReadyColumn). column.kind) c.index-columns-column.is ∙ c.in-Lookup.is) in
    let parent : ParentRow = c.parent_row-parent.result in
    let is = kind_of_lookup lines known.sound known.table c.args.column lookup here in
    number-drawn (generator_of lines.plan) lines.table c.args.column (row_changed lines c.args.index c.args.values.now.changed) (lookup_kind lookup.via lookup.parent lookup.column) c.number.result is
    (null_is lines c.args.values.now c.args.column c.args.index c.ordinal-ordinal.result c.is_null.result false c.requires.values c.ordinal-ordinal.ensures.ordinal c.ordinal-ordinal.ensures.early c.requires.row c.is_null.ensures c.if-is_null.false)
    (λ m past.
    c.number.ensures.number m (parent_before lines parent lookup c.args.column m c.parent_row-parent.ensures.row (looks_up_earlier lines known.sound known.table c.args.column lookup here) (shown_within lines known.sound known.table c.args.column lookup here) past)
    ∙ ap (λ (changed : ℕ). number_for parent.fields parent.index changed m lookup.column) (ap (λ (of : ValuesOf). of.changed) c.parent_row-parent.ensures.row.values)
    ∙ sym (parent-number lines known.sound known.table known.born known.unit c.args.column c.args.index c.args.values.now.changed c.requires.row lookup here parent c.parent_row-parent.ensures.row m)) n enough

pub number-returns-in-Lookup-clause-within : goal.number-returns-in-Lookup-clause-within
number-returns-in-Lookup-clause-within g t c =
    let lines : LinesOf = c.args.self.now in
    let known = AreFieldsOf-view _ lines c.self.inside.columns.now c.self.inside.first c.self.view_is c.self.invariant in
    let lookup : ReadyLookup = c.in-Lookup.lookup in
    let here = looks lines c.self.inside.columns.now c.self.inside.first known c.args.column c.index-columns-column.result lookup c.requires.column c.index-columns-column.is (ap (λ (column : ReadyColumn). column.kind) c.index-columns-column.is ∙ c.in-Lookup.is) in
    let is = kind_of_lookup lines known.sound known.table c.args.column lookup here in
    let told : (field_facts (layout_of c.parent_row-parent.result.fields.plan) c.parent_row-parent.result.fields.table lookup.column).numbers ≡ (field_facts (layout_of lines.plan) lines.table c.args.column).numbers =
    ap (λ (of : LinesOf). (field_facts (layout_of of.plan) of.table lookup.column).numbers) c.parent_row-parent.ensures.row.fields
    ∙ sym (numbers-lookup (layout_of lines.plan) lines.table c.args.column lookup.via lookup.parent lookup.column
    (column_here lines c.self.inside.columns.now c.self.inside.first known c.args.column (lookup_kind lookup.via lookup.parent lookup.column) c.requires.column is)
    (looks_up_earlier lines known.sound known.table c.args.column lookup here)) in
    subst (λ (numbers : Option Numbers). IfSome c.number.result (IsNumberOf numbers)) told c.number.ensures.within

pub number-returns-in-Lookup-clause-steps : goal.number-returns-in-Lookup-clause-steps
number-returns-in-Lookup-clause-steps g t c =
    let lines : LinesOf = c.args.self.now in
    let known = AreFieldsOf-view _ lines c.self.inside.columns.now c.self.inside.first c.self.view_is c.self.invariant in
    let lookup : ReadyLookup = c.in-Lookup.lookup in
    let here = looks lines c.self.inside.columns.now c.self.inside.first known c.args.column c.index-columns-column.result lookup c.requires.column c.index-columns-column.is (ap (λ (column : ReadyColumn). column.kind) c.index-columns-column.is ∙ c.in-Lookup.is) in
    omega (
      arith,
      c.parent_row-parent.ensures.steps,
      c.number.ensures.steps,
      ap (λ (of : LinesOf). field_cost (layout_of of.plan) of.table lookup.column) c.parent_row-parent.ensures.row.fields,
      cost_of_lookup lines known.sound known.table c.args.column lookup here,
    )

pub number-returns-in_default : goal.number-returns-in_default
number-returns-in_default g t c =
    let lines : LinesOf = c.args.self.now in
    let known = AreFieldsOf-view _ lines c.self.inside.columns.now c.self.inside.first c.self.view_is c.self.invariant in
    let row : Row = row_changed lines c.args.index c.args.values.now.changed in
    let held : KindLayout = (column_at (layout_for lines).columns c.args.column).kind in
    let d : ℕ = (layout_of lines.plan).delimiter in
    let ready = ap (λ (column : ReadyColumn). column.kind) (sym (ready_at lines c.self.inside.columns.now known.columns_are c.args.column c.index-columns-column.result c.requires.column c.index-columns-column.is ∙ c.index-columns-column.is)) in
    record {
      number = number-drawn (generator_of lines.plan) lines.table c.args.column row held c.number-in_default.result refl
          (null_is lines c.args.values.now c.args.column c.args.index c.ordinal-ordinal.result c.is_null.result false c.requires.values c.ordinal-ordinal.ensures.ordinal c.ordinal-ordinal.ensures.early c.requires.row c.is_null.ensures c.if-is_null.false)
          (λ m past.
          c.number-in_default.ensures.exact
          ∙ sym (own_number-values lines c.args.values.now c.args.column c.args.index c.args.values.now.changed c.ordinal-ordinal.result c.requires.values c.ordinal-ordinal.ensures.ordinal c.ordinal-ordinal.ensures.early c.requires.row)
          ∙ sym (number_by-own d (number_in m (generator_of lines.plan)) (generator_of lines.plan) lines.table c.args.column row held
          (λ of is. c.in_default.not-Sum of (ready ∙ is)) (λ of is. c.in_default.not-Product of (ready ∙ is)) (λ lookup is. c.in_default.not-Lookup lookup (ready ∙ is))));
      within = subst (λ (of : ValuesOf). IfSome c.number-in_default.result (IsNumberOf (field_facts (layout_of of.plan) of.table c.args.column).numbers)) c.requires.values c.number-in_default.ensures.within;
      steps = omega arith;
    }

-- ---- the operands of a total

-- an operand stands before it
operand_before : (lines : LinesOf) (column : ℕ) (of : List ℕ) (way : Join) (i n : ℕ) → IsTotalOf lines column of way → i < length of → columns_before lines.table column ≤ n → columns_before lines.table (get_or of i 0) < n
operand_before lines column of way i n is within past = omega (arith, past, is.earlier i 0 within)

-- what a null one leaves
pub total-returns-in_err-operand-clause-total : goal.total-returns-in_err-operand-clause-total
total-returns-in_err-operand-clause-total g t c = λ n past.
    let lines : LinesOf = c.args.self.now in
    let of : List ℕ = c.args.of.now in
    let i : ℕ = c.loop-operand.operand-index in
    let within : i < length of = omega (arith, c.loop-operand-test.true) in
    c.from_residual.ensures
    ∙ so_far-lost lines c.args.index c.args.values.now.changed n of c.args.join i (Some (start_of c.args.join (digits_for lines of))) within
    (sym c.in_err-operand.was ∙ c.number.ensures.number n (operand_before lines c.args.column of c.args.join i n c.requires.total within past))

pub total-returns-in_err-operand-clause-steps : goal.total-returns-in_err-operand-clause-steps
total-returns-in_err-operand-clause-steps g t c =
    let lines : LinesOf = c.args.self.now in
    let of : List ℕ = c.args.of.now in
    let i : ℕ = c.loop-operand.operand-index in
    let cost : ℕ → ℕ = field_cost (layout_of lines.plan) lines.table in
    omega (arith, c.loop-operand.invariant.steps, c.number.ensures.steps, sum_by_more cost of i 0 (omega (arith, c.loop-operand-test.true)), sum_by-take-le cost of (i + 1))

-- what one more makes of it
next : (lines : LinesOf) (values : ValuesOf) (index column : ℕ) (of : List ℕ) (way : Join) (i : ℕ) (total operand : Number) (result : Option Number) → IsTotalOf lines column of way → i < length of →
    IsSoFar lines index values.changed column of way i total → result ≡ Some operand → ((n : ℕ) → columns_before lines.table (get_or of i 0) < n → result ≡ number_for lines index values.changed n (get_or of i 0)) →
    IfSome result (IsNumberOf (field_facts (layout_of lines.plan) lines.table (get_or of i 0)).numbers) → IsNext lines index values.changed column of way i total operand
next lines values index column of way i total operand result is within so_far result_is found held =
    so_far-more lines index values.changed column of way i total operand is within so_far (λ n past. sym result_is ∙ found n (operand_before lines column of way i n is within past))
    (subst (λ (o : Option Number). IfSome o (IsNumberOf (field_facts (layout_of lines.plan) lines.table (get_or of i 0)).numbers)) result_is held)

pub total-joined-total-requires-clause-decimals : goal.total-joined-total-requires-clause-decimals
total-joined-total-requires-clause-decimals g t c =
    (next c.args.self.now c.args.values.now c.args.index c.args.column c.args.of.now c.args.join c.loop-operand.operand-index c.loop-operand.total c.in_ok-operand.operand c.number.result c.requires.total
    (omega (arith, c.loop-operand-test.true)) c.loop-operand.invariant.so_far c.in_ok-operand.was c.number.ensures.number c.number.ensures.within).joins.few

pub total-joined-total-requires-clause-operand : goal.total-joined-total-requires-clause-operand
total-joined-total-requires-clause-operand g t c =
    (next c.args.self.now c.args.values.now c.args.index c.args.column c.args.of.now c.args.join c.loop-operand.operand-index c.loop-operand.total c.in_ok-operand.operand c.number.result c.requires.total
    (omega (arith, c.loop-operand-test.true)) c.loop-operand.invariant.so_far c.in_ok-operand.was c.number.ensures.number c.number.ensures.within).joins.operand_in

pub total-joined-total-requires-clause-total : goal.total-joined-total-requires-clause-total
total-joined-total-requires-clause-total g t c =
    (next c.args.self.now c.args.values.now c.args.index c.args.column c.args.of.now c.args.join c.loop-operand.operand-index c.loop-operand.total c.in_ok-operand.operand c.number.result c.requires.total
    (omega (arith, c.loop-operand-test.true)) c.loop-operand.invariant.so_far c.in_ok-operand.was c.number.ensures.number c.number.ensures.within).joins.value_in

pub total-loop-operand-preserved : goal.total-loop-operand-preserved
total-loop-operand-preserved g t c =
    let lines : LinesOf = c.args.self.now in
    let of : List ℕ = c.args.of.now in
    let i : ℕ = c.loop-operand.operand-index in
    record {
      so_far = subst (λ (total : Number). IsSoFar lines c.args.index c.args.values.now.changed c.args.column of c.args.join (i + 1) total) (sym c.joined-total.ensures)
          (next lines c.args.values.now c.args.index c.args.column of c.args.join i c.loop-operand.total c.in_ok-operand.operand c.number.result c.requires.total
          (omega (arith, c.loop-operand-test.true)) c.loop-operand.invariant.so_far c.in_ok-operand.was c.number.ensures.number c.number.ensures.within).so_far;
      steps = omega (arith, c.loop-operand.invariant.steps, c.number.ensures.steps, sum_by_more (field_cost (layout_of lines.plan) lines.table) of i 0 (omega (arith, c.loop-operand-test.true)));
    }

pub total-returns-clause-total : goal.total-returns-clause-total
total-returns-clause-total g t c =
    (so_far-all c.args.self.now c.args.index c.args.values.now.changed c.args.column c.args.of.now c.args.join c.loop-operand.operand-index c.loop-operand.total c.requires.total (omega (arith, c.loop-operand-test.false)) c.loop-operand.invariant.so_far).0

pub total-returns-clause-digits : goal.total-returns-clause-digits
total-returns-clause-digits g t c = λ some.
    (so_far-all c.args.self.now c.args.index c.args.values.now.changed c.args.column c.args.of.now c.args.join c.loop-operand.operand-index c.loop-operand.total c.requires.total (omega (arith, c.loop-operand-test.false)) c.loop-operand.invariant.so_far).1

pub total-returns-clause-within : goal.total-returns-clause-within
total-returns-clause-within g t c =
    (so_far-all c.args.self.now c.args.index c.args.values.now.changed c.args.column c.args.of.now c.args.join c.loop-operand.operand-index c.loop-operand.total c.requires.total (omega (arith, c.loop-operand-test.false)) c.loop-operand.invariant.so_far).2
