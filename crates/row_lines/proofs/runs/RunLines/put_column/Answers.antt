use Rattle.std.proofs.Common.{◌≡◌, ◌<◌, ◌≤◌, ◌+◌, ◌*◌, ℕ, Bool, true, false, List, get_or, length, if◌then◌else◌, ap, arith, subst, sym, ◌∙◌}
use Rattle.schema_plan.specs.declared.ready.ReadyColumn.{ReadyColumn}
use Rattle.schema_facts.specs.Dictionaries.{Project}
use Rattle.schema_facts.specs.Layout.{column_at, layout_of}
use Rattle.schema_plan.specs.Ready.{ready_columns, ready_kind}
use Rattle.schema_facts.specs.Lineage.{one_if}
use Rattle.life_intervals.specs.CohortParents.{held_cost, reference_by}
use Rattle.life_intervals.specs.Generator.{table_of}
use Rattle.row_lines.specs.RunFields.{asked_for, asked_short}
use Rattle.row_lines.specs.Runs.{RunLinesOf, layout_for}
use Rattle.row_lines.specs.TableLines.{TableLinesOf, column_of, is_short_at, is_short_kind, table_lines}
use Rattle.row_lines.proofs.CohortFieldLemmas.{ready_at}
use Rattle.row_lines.proofs.ReferenceFieldLemmas.{asked_by-reference}
use Rattle.row_lines.proofs.RunFieldLemmas.{lines_of}
use Rattle.row_lines.proofs.RunPieceLemmas.{AreRunLines-view, length-short, short-at, valued-ready}
use Rattle.row_lines.proofs.runs.RunLines.put_column.Goals as goal
use Rattle.row_lines.proofs.runs.RunLines.put_column.Goals.{After-short-short}

clash : true ≡ false → ⊥
clash same = cc

-- which columns are made as pieces
shorts_are : (g : _) (c : After-short-short g) → c.short-short.result.now ≡ (table_lines c.args.self.now.plan c.args.self.now.table).short
shorts_are g c =
    let known = AreRunLines-view _ c.args.self.now c.self.inside.lines.now c.self.view_is c.self.invariant in
    c.short-short.ensures ∙ ap (λ (kept : TableLinesOf). kept.short) known.kept_are

-- whether the one at the place is
short_is : (g : _) (c : After-short-short g) → get_or c.short-short.result.now c.args.column false ≡ is_short_at c.args.self.now.plan c.args.self.now.table c.args.column
short_is g c = short-at c.args.self.now.plan c.args.self.now.table c.args.column c.short-short.result.now (shorts_are g c) c.requires.column

pub bounds-short-column : goal.bounds-short-column
bounds-short-column g c =
    let here = (goal.at.bounds-short-column g c).After-short-short in
    omega (arith, c.requires.column, length-short c.args.self.now.plan c.args.self.now.table c.short-short.result.now (shorts_are g here))

pub returns-then-not-short-column-clause-made : goal.returns-then-not-short-column-clause-made
returns-then-not-short-column-clause-made g c = λ short.
    let here = (goal.at.returns-then-not-short-column-clause-made g c).After-short-short in
    absurd (clash (sym short ∙ sym (short_is g here) ∙ c.if-not-short-column.true))

-- the column that is ready at the place is the layout's
kind_of : (lines : RunLinesOf) (columns : List ReadyColumn) (column : ℕ) (found : ReadyColumn) → columns ≡ ready_columns (layout_of lines.plan) lines.table → column < length (layout_for lines).columns →
    found ≡ get_or columns column found → ready_kind (layout_of lines.plan).delimiter (column_at (layout_for lines).columns column).kind ≡ found.kind
kind_of lines columns column found are within at = ap (λ (of : ReadyColumn). of.kind) (ready_at (lines_of lines) columns are column found within at)

pub put_own_keys-requires-clause-short : goal.put_own_keys-requires-clause-short
put_own_keys-requires-clause-short g c =
    let lines : RunLinesOf = c.args.self.now in
    let here = (goal.at.put_own_keys-requires-clause-short g c).After-short-short in
    let are = c.columns-columns.ensures.columns ∙ ap (λ (plan : Project). ready_columns (layout_of plan) c.self.inside.table) c.plan-plan.ensures
    ∙ ap (λ (of : RunLinesOf). ready_columns (layout_of of.plan) of.table) c.self.view_is in
    let is = kind_of lines c.columns-columns.result.now c.args.column c.index-columns-column.result are c.requires.column c.index-columns-column.is
    ∙ (ap (λ (column : ReadyColumn). column.kind) c.index-columns-column.is ∙ c.in-Key.is) in
    sym (ap (is_short_kind lines.plan lines.table (column_of lines.plan lines.table c.args.column)) is) ∙ sym (short_is g here) ∙ c.if-not-short-column.false

pub put_references-requires-clause-short : goal.put_references-requires-clause-short
put_references-requires-clause-short g c =
    let lines : RunLinesOf = c.args.self.now in
    let here = (goal.at.put_references-requires-clause-short g c).After-short-short in
    let are = c.columns-columns.ensures.columns ∙ ap (λ (plan : Project). ready_columns (layout_of plan) c.self.inside.table) c.plan-plan.ensures
    ∙ ap (λ (of : RunLinesOf). ready_columns (layout_of of.plan) of.table) c.self.view_is in
    let is = kind_of lines c.columns-columns.result.now c.args.column c.index-columns-column.result are c.requires.column c.index-columns-column.is
    ∙ (ap (λ (column : ReadyColumn). column.kind) c.index-columns-column.is ∙ c.in-Reference.is) in
    sym (ap (is_short_kind lines.plan lines.table (column_of lines.plan lines.table c.args.column)) is) ∙ sym (short_is g here) ∙ c.if-not-short-column.false

pub put_lookups-requires-clause-short : goal.put_lookups-requires-clause-short
put_lookups-requires-clause-short g c =
    let here = (goal.at.put_lookups-requires-clause-short g c).After-short-short in
    sym (short_is g here) ∙ c.if-not-short-column.false

pub put_valued-requires-clause-short : goal.put_valued-requires-clause-short
put_valued-requires-clause-short g c =
    let here = (goal.at.put_valued-requires-clause-short g c).After-short-short in
    sym (short_is g here) ∙ c.if-not-short-column.false

pub put_valued-requires-clause-valued : goal.put_valued-requires-clause-valued
put_valued-requires-clause-valued g c =
    let lines : RunLinesOf = c.args.self.now in
    let are = c.columns-columns.ensures.columns ∙ ap (λ (plan : Project). ready_columns (layout_of plan) c.self.inside.table) c.plan-plan.ensures
    ∙ ap (λ (of : RunLinesOf). ready_columns (layout_of of.plan) of.table) c.self.view_is in
    let is = kind_of lines c.columns-columns.result.now c.args.column c.index-columns-column.result are c.requires.column c.index-columns-column.is in
    let back = sym (is ∙ ap (λ (column : ReadyColumn). column.kind) c.index-columns-column.is) in
    valued-ready (layout_of lines.plan).delimiter (column_at (layout_for lines).columns c.args.column).kind
    (λ key. c.in_default.not-Key (back ∙ key)) (λ reference held. c.in_default.not-Reference reference (back ∙ held)) (λ lookup held. c.in_default.not-Lookup lookup (back ∙ held))

pub returns-in_default-clause-steps : goal.returns-in_default-clause-steps
returns-in_default-clause-steps g c =
    let lines : RunLinesOf = c.args.self.now in
    let here = (goal.at.returns-in_default-clause-steps g c).After-short-short in
    let asked : asked_short lines c.args.column ≡ asked_for lines c.args.column =
    ap (λ (test : Bool). if test then asked_for lines c.args.column else 0) (sym (short_is g here) ∙ c.if-not-short-column.false) in
    subst (λ (n : ℕ). c.put_valued.new.steps ≤ c.args.steps.now + length c.args.rows.ordinals.now * n) (sym asked) c.put_valued.ensures.steps

pub returns-in-Reference-clause-steps : goal.returns-in-Reference-clause-steps
returns-in-Reference-clause-steps g c =
    let lines : RunLinesOf = c.args.self.now in
    let here = (goal.at.returns-in-Reference-clause-steps g c).After-short-short in
    let are = c.columns-columns.ensures.columns ∙ ap (λ (plan : Project). ready_columns (layout_of plan) c.self.inside.table) c.plan-plan.ensures
    ∙ ap (λ (of : RunLinesOf). ready_columns (layout_of of.plan) of.table) c.self.view_is in
    let is = kind_of lines c.columns-columns.result.now c.args.column c.index-columns-column.result are c.requires.column c.index-columns-column.is
    ∙ (ap (λ (column : ReadyColumn). column.kind) c.index-columns-column.is ∙ c.in-Reference.is) in
    let asked : asked_short lines c.args.column ≡ held_cost (layout_of lines.plan).tables (reference_by c.args.column c.in-Reference.reference) + one_if (table_of lines.plan c.in-Reference.reference.parent).key.scramble =
    ap (λ (test : Bool). if test then asked_for lines c.args.column else 0) (sym (short_is g here) ∙ c.if-not-short-column.false)
    ∙ asked_by-reference true (lines_of lines) c.args.column c.in-Reference.reference (AreRunLines-view _ lines c.self.inside.lines.now c.self.view_is c.self.invariant).table (AreRunLines-view _ lines c.self.inside.lines.now c.self.view_is c.self.invariant).limits (record { within = c.requires.column; is = is }) in
    subst (λ (n : ℕ). c.put_references.new.steps ≤ c.args.steps.now + length c.args.rows.ordinals.now * n) (sym asked) c.put_references.ensures.steps

pub returns-in-Lookup-clause-steps : goal.returns-in-Lookup-clause-steps
returns-in-Lookup-clause-steps g c =
    let lines : RunLinesOf = c.args.self.now in
    let here = (goal.at.returns-in-Lookup-clause-steps g c).After-short-short in
    let asked : asked_short lines c.args.column ≡ asked_for lines c.args.column =
    ap (λ (test : Bool). if test then asked_for lines c.args.column else 0) (sym (short_is g here) ∙ c.if-not-short-column.false) in
    subst (λ (n : ℕ). c.put_lookups.new.steps ≤ c.args.steps.now + length c.args.rows.ordinals.now * n) (sym asked) c.put_lookups.ensures.steps
