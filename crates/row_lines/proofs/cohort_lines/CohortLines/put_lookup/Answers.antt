use Rattle.std.proofs.Common.{◌≡◌, ◌<◌, ◌≤◌, ◌++◌, ℕ, List, Bool, false, true, length, ap, arith, subst, sym, ◌∙◌}
use Rattle.schema_plan.specs.declared.ready.ReadyColumn.{ReadyColumn}
use Rattle.schema_plan.specs.declared.ready.ReadyLookup.{ReadyLookup}
use Rattle.schema_plan.specs.declared.ready.ReadyReference.{ReadyReference}
use Rattle.cohort_sizes.specs.Births.{born_count, cohort_size}
use Rattle.schema_facts.specs.Layout.{column_at}
use Rattle.schema_plan.specs.Limits.{IsInLimits}
use Rattle.draw_values.specs.CohortValues.{ValuesOf, is_null_for}
use Rattle.draw_values.specs.Values.{is_null}
use Rattle.life_intervals.specs.CohortParents.{IsReferenceOf, reference_by}
use Rattle.life_intervals.specs.Generator.{generator_of, last_unit, table_of}
use Rattle.life_intervals.specs.Intervals.{row_at}
use Rattle.cohort_sizes.proofs.CohortLemmas.{born_count-le}
use Rattle.row_lines.specs.CohortLines.{LinesOf, change_for, is_live_for, layout_for, ordinal_of, parent_for, text_in_cohort, values_at}
use Rattle.row_lines.specs.RowViews.{draws_of}
use Rattle.row_lines.specs.Lookups.{IsLookupOf, text_held}
use Rattle.row_lines.proofs.CohortLineLemmas.{AreLinesOf-view}
use Rattle.row_lines.proofs.LookupLemmas.{asked-lookup, looks_up_still, null-field, room-lookup, size-lookup, text-lookup, text-null}
use Rattle.row_lines.proofs.RunLookupLemmas.{lookup_by_reference, lookup_refers}
use Rattle.row_lines.proofs.cohort_lines.CohortLines.put_lookup.Goals as goal

-- whether the field is drawn to be null, as the row has it
null_is : (lines fields : LinesOf) (values : ValuesOf) (column index ordinal : ℕ) (null : Bool) → values ≡ values_at lines (change_for lines index) → fields ≡ lines → ordinal ≡ ordinal_of fields index →
    lines.born ≤ lines.unit → index < cohort_size (layout_for lines).births lines.born → lines.table < length lines.plan.schema.tables → null ≡ is_null_for values column ordinal →
    is_null (column_at (layout_for lines).columns column).null (draws_of (generator_of lines.plan) lines.table (row_at (generator_of lines.plan) lines.table lines.unit (ordinal_of lines index)) column) ≡ null
null_is lines fields values column index ordinal null values_are same ordinal_is early inside table told =
    null-field lines values column index ordinal values_are (ordinal_is ∙ ap (λ (of : LinesOf). ordinal_of of index) same) early inside table ∙ sym told

pub put_null-requires : goal.put_null-requires
put_null-requires g c =
    let known = AreLinesOf-view _ c.args.self.now c.self.inside.columns.now c.self.inside.fields c.self.inside.delimiter c.self.view_is c.self.invariant in
    omega (arith, c.requires.room, room-lookup c.args.self.now known.sound known.table c.args.column c.args.lookup.now c.requires.lookup)

pub returns-then-is_null-clause-text : goal.returns-then-is_null-clause-text
returns-then-is_null-clause-text g c =
    let known = AreLinesOf-view _ c.args.self.now c.self.inside.columns.now c.self.inside.fields c.self.inside.delimiter c.self.view_is c.self.invariant in
    let text_is = text-null c.args.self.now c.args.column c.args.index
    (null_is c.args.self.now c.self.inside.fields c.args.values.now c.args.column c.args.index c.ordinal.result c.is_null.result c.requires.values known.fields_are c.ordinal.ensures.ordinal known.born c.requires.row known.table c.is_null.ensures
    ∙ c.if-is_null.true) in
    c.put_null.ensures
    ∙ ap (λ (text : List ℕ). record { text = c.args.buf.now.text ++ text; room = c.args.buf.now.room }) (sym text_is)

pub returns-then-is_null-clause-size : goal.returns-then-is_null-clause-size
returns-then-is_null-clause-size g c =
    let known = AreLinesOf-view _ c.args.self.now c.self.inside.columns.now c.self.inside.fields c.self.inside.delimiter c.self.view_is c.self.invariant in
    let text_is = text-null c.args.self.now c.args.column c.args.index
    (null_is c.args.self.now c.self.inside.fields c.args.values.now c.args.column c.args.index c.ordinal.result c.is_null.result c.requires.values known.fields_are c.ordinal.ensures.ordinal known.born c.requires.row known.table c.is_null.ensures
    ∙ c.if-is_null.true) in
    omega (
      arith,
      ap (λ (text : List ℕ). length text) text_is,
      room-lookup c.args.self.now known.sound known.table c.args.column c.args.lookup.now c.requires.lookup,
    )

-- the column that is looked up by is a reference
pub returns-in_default : goal.returns-in_default
returns-in_default g c =
    let lines : LinesOf = c.args.self.now in
    let known = AreLinesOf-view _ c.args.self.now c.self.inside.columns.now c.self.inside.fields c.self.inside.delimiter c.self.view_is c.self.invariant in
    let found = lookup_by_reference lines known.sound known.table c.self.inside.columns.now known.columns_are c.args.column c.args.lookup.now c.index-columns-lookup.result c.requires.lookup c.index-columns-lookup.is in
    absurd (c.in_default.not-Reference found.0 (sym (ap (λ (column : ReadyColumn). column.kind) c.index-columns-lookup.is) ∙ found.1))

-- the parent's table is an earlier one, and the parent is born by the row's birth
table_below : (lines fields : LinesOf) (lookup : ReadyLookup) (reference : ReadyReference) → lines.table < length lines.plan.schema.tables → fields ≡ lines → reference.parent ≡ lookup.parent → reference.parent < fields.table →
    lookup.parent < length lines.plan.schema.tables
table_below lines fields lookup reference table same to earlier = omega (arith, to, table, subst (λ (of : LinesOf). reference.parent < of.table) same earlier)

parent_born : (lines fields : LinesOf) (lookup : ReadyLookup) (reference : ReadyReference) (parent : ℕ) → lines.born ≤ lines.unit → fields ≡ lines → reference.parent ≡ lookup.parent →
    parent < born_count (table_of fields.plan reference.parent).births fields.born → parent < born_count (table_of lines.plan lookup.parent).births lines.unit
parent_born lines fields lookup reference parent early same to born =
    subst (λ (place : ℕ). parent < born_count (table_of lines.plan place).births lines.unit) to
    (omega (
      arith,
      subst (λ (of : LinesOf). parent < born_count (table_of of.plan reference.parent).births of.born) same born,
      born_count-le (table_of lines.plan reference.parent).births lines.born lines.unit early,
    ))

pub put_looked_up-requires-clause-table : goal.put_looked_up-requires-clause-table
put_looked_up-requires-clause-table g c =
    let lines : LinesOf = c.args.self.now in
    let known = AreLinesOf-view _ c.args.self.now c.self.inside.columns.now c.self.inside.fields c.self.inside.delimiter c.self.view_is c.self.invariant in
    let found = lookup_refers lines known.sound known.table c.self.inside.columns.now known.columns_are c.args.column c.args.lookup.now c.index-columns-lookup.result c.in-Reference.reference c.requires.lookup c.index-columns-lookup.is
    (ap (λ (column : ReadyColumn). column.kind) c.index-columns-lookup.is ∙ c.in-Reference.is) in
    table_below lines c.self.inside.fields c.args.lookup.now c.in-Reference.reference known.table known.fields_are found.1 c.parent-parent.ensures.table

pub put_looked_up-requires-clause-born : goal.put_looked_up-requires-clause-born
put_looked_up-requires-clause-born g c =
    let lines : LinesOf = c.args.self.now in
    let known = AreLinesOf-view _ c.args.self.now c.self.inside.columns.now c.self.inside.fields c.self.inside.delimiter c.self.view_is c.self.invariant in
    let found = lookup_refers lines known.sound known.table c.self.inside.columns.now known.columns_are c.args.column c.args.lookup.now c.index-columns-lookup.result c.in-Reference.reference c.requires.lookup c.index-columns-lookup.is
    (ap (λ (column : ReadyColumn). column.kind) c.index-columns-lookup.is ∙ c.in-Reference.is) in
    parent_born lines c.self.inside.fields c.args.lookup.now c.in-Reference.reference c.parent-parent.result known.born known.fields_are found.1 c.parent-parent.ensures.born

pub put_looked_up-requires-clause-column : goal.put_looked_up-requires-clause-column
put_looked_up-requires-clause-column g c =
    let lines : LinesOf = c.args.self.now in
    let known = AreLinesOf-view _ lines c.self.inside.columns.now c.self.inside.fields c.self.inside.delimiter c.self.view_is c.self.invariant in
    looks_up_still lines known.sound known.table c.args.column c.args.lookup.now c.requires.lookup

-- what is put is what the parent holds
text_is : (lines fields : LinesOf) → IsInLimits lines.plan → lines.table < length lines.plan.schema.tables → lines.born ≤ lines.unit → lines.unit ≤ last_unit lines.plan → fields ≡ lines →
    (column index parent : ℕ) (lookup : ReadyLookup) (reference : ReadyReference) → IsLookupOf lines column lookup → IsReferenceOf lines.plan lines.table lookup.via reference × (reference.parent ≡ lookup.parent) × (reference.nulls ≡ false) →
    index < cohort_size (layout_for lines).births lines.born → is_live_for lines index ≡ true →
    is_null (column_at (layout_for lines).columns column).null (draws_of (generator_of lines.plan) lines.table (row_at (generator_of lines.plan) lines.table lines.unit (ordinal_of lines index)) column) ≡ false →
    parent ≡ parent_for fields index (reference_by lookup.via reference) →
    text_in_cohort lines index column ≡ text_held lines.plan lookup.parent lines.unit parent lookup.column
text_is lines fields limits table early within same column index parent lookup reference of refers inside alive drawn parent_is =
    text-lookup lines limits table early within column index lookup reference false of refers.0 refers.1 refers.2 inside alive drawn
    ∙ ap (λ (j : ℕ). text_held lines.plan lookup.parent lines.unit j lookup.column) (sym (parent_is ∙ ap (λ (of : LinesOf). parent_for of index (reference_by lookup.via reference)) same))

pub returns-clause-text : goal.returns-clause-text
returns-clause-text g c =
    let lines : LinesOf = c.args.self.now in
    let known = AreLinesOf-view _ c.args.self.now c.self.inside.columns.now c.self.inside.fields c.self.inside.delimiter c.self.view_is c.self.invariant in
    let found = lookup_refers lines known.sound known.table c.self.inside.columns.now known.columns_are c.args.column c.args.lookup.now c.index-columns-lookup.result c.in-Reference.reference c.requires.lookup c.index-columns-lookup.is
    (ap (λ (column : ReadyColumn). column.kind) c.index-columns-lookup.is ∙ c.in-Reference.is) in
    let drawn = null_is lines c.self.inside.fields c.args.values.now c.args.column c.args.index c.ordinal.result c.is_null.result c.requires.values known.fields_are c.ordinal.ensures.ordinal known.born c.requires.row known.table c.is_null.ensures ∙ c.if-is_null.false in
    c.put_looked_up.ensures.text
    ∙ ap (λ (text : List ℕ). record { text = c.args.buf.now.text ++ text; room = c.args.buf.now.room })
    (sym (text_is lines c.self.inside.fields known.sound known.table known.born known.unit known.fields_are c.args.column c.args.index c.parent-parent.result c.args.lookup.now c.in-Reference.reference c.requires.lookup found c.requires.row c.requires.alive drawn c.parent-parent.ensures.parent))

pub returns-clause-size : goal.returns-clause-size
returns-clause-size g c =
    let lines : LinesOf = c.args.self.now in
    let known = AreLinesOf-view _ c.args.self.now c.self.inside.columns.now c.self.inside.fields c.self.inside.delimiter c.self.view_is c.self.invariant in
    let found = lookup_refers lines known.sound known.table c.self.inside.columns.now known.columns_are c.args.column c.args.lookup.now c.index-columns-lookup.result c.in-Reference.reference c.requires.lookup c.index-columns-lookup.is
    (ap (λ (column : ReadyColumn). column.kind) c.index-columns-lookup.is ∙ c.in-Reference.is) in
    let drawn = null_is lines c.self.inside.fields c.args.values.now c.args.column c.args.index c.ordinal.result c.is_null.result c.requires.values known.fields_are c.ordinal.ensures.ordinal known.born c.requires.row known.table c.is_null.ensures ∙ c.if-is_null.false in
    omega (
      arith,
      size-lookup lines known.sound known.table c.args.column c.args.lookup.now c.requires.lookup,
      ap (λ (text : List ℕ). length text)
          (text_is lines c.self.inside.fields known.sound known.table known.born known.unit known.fields_are c.args.column c.args.index c.parent-parent.result c.args.lookup.now c.in-Reference.reference c.requires.lookup found c.requires.row c.requires.alive drawn c.parent-parent.ensures.parent),
      c.put_looked_up.ensures.size,
    )

pub returns-clause-steps : goal.returns-clause-steps
returns-clause-steps g c =
    let lines : LinesOf = c.args.self.now in
    let known = AreLinesOf-view _ c.args.self.now c.self.inside.columns.now c.self.inside.fields c.self.inside.delimiter c.self.view_is c.self.invariant in
    let found = lookup_refers lines known.sound known.table c.self.inside.columns.now known.columns_are c.args.column c.args.lookup.now c.index-columns-lookup.result c.in-Reference.reference c.requires.lookup c.index-columns-lookup.is
    (ap (λ (column : ReadyColumn). column.kind) c.index-columns-lookup.is ∙ c.in-Reference.is) in
    omega (
      arith,
      asked-lookup lines known.sound known.table c.args.column c.args.lookup.now c.requires.lookup c.in-Reference.reference found.0,
      c.parent-parent.ensures.steps,
      c.put_looked_up.ensures.steps,
    )
