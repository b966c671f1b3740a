use Rattle.std.proofs.Common.{◌≡◌, ◌<◌, ◌-◌, ℕ, false, length, ap, arith, subst, sym, ◌∙◌}
use Rattle.cohort_sizes.specs.Births.{LiesIn, birth, born_count, cohort_size, first_ordinal}
use Rattle.cohort_sizes.proofs.CohortLemmas.{born_count-le}
use Rattle.schema_plan.specs.declared.ready.ReadyColumn.{ReadyColumn}
use Rattle.schema_plan.specs.declared.ready.ReadyReference.{ReadyReference}
use Rattle.schema_facts.specs.Dictionaries.{Project}
use Rattle.schema_facts.specs.Layout.{column_at, layout_of}
use Rattle.life_intervals.specs.CohortParents.{IsReferenceOf, reference_by}
use Rattle.life_intervals.specs.Generator.{last_unit, rows_in_all, table_of}
use Rattle.row_lines.specs.CohortLines.{AreFieldsOf, LinesOf, layout_for, ordinal_of, parent_for, values_at}
use Rattle.row_lines.proofs.CohortFieldLemmas.{AreFieldsOf-view}
use Rattle.row_lines.proofs.CohortLineLemmas.{ordinal_of-index}
use Rattle.row_lines.proofs.LineLemmas.{birth-within}
use Rattle.row_lines.proofs.LookupLemmas.{choice_cost-ready, same_ready}
use Rattle.row_lines.proofs.RunLookupLemmas.{lookup-parent, lookup_refers}
use Rattle.row_lines.proofs.cohort_fields.CohortFields.parent_row.Goals as goal
use Rattle.row_lines.proofs.cohort_fields.CohortFields.parent_row.Goals.{After-parent-ordinal}

known : (g : _) (c : After-parent-ordinal g) → AreFieldsOf c.args.self.now c.self.inside.columns.now c.self.inside.first
known g c = AreFieldsOf-view _ c.args.self.now c.self.inside.columns.now c.self.inside.first c.self.view_is c.self.invariant

-- the reference by which the parent is found
refers : (g : _) (c : After-parent-ordinal g) →
    IsReferenceOf c.args.self.now.plan c.args.self.now.table c.args.lookup.now.via c.in-Reference.reference × (c.in-Reference.reference.parent ≡ c.args.lookup.now.parent) × (c.in-Reference.reference.nulls ≡ false)
refers g c =
    lookup_refers c.args.self.now (known g c).sound (known g c).table c.self.inside.columns.now (known g c).columns_are c.args.column c.args.lookup.now c.index-columns-lookup.result c.in-Reference.reference c.requires.lookup
    c.index-columns-lookup.is (ap (λ (column : ReadyColumn). column.kind) c.index-columns-lookup.is ∙ c.in-Reference.is)

plan_is : (g : _) (c : After-parent-ordinal g) → c.plan-plan.result.now ≡ c.args.self.now.plan
plan_is g c = c.plan-plan.ensures ∙ ap (λ (of : LinesOf). of.plan) c.self.view_is

-- the parent is born by the row's birth
parent_born : (g : _) (c : After-parent-ordinal g) → c.parent-ordinal.result < born_count (table_of c.args.self.now.plan c.args.lookup.now.parent).births c.args.self.now.born
parent_born g c =
    subst (λ (place : ℕ). c.parent-ordinal.result < born_count (table_of c.args.self.now.plan place).births c.args.self.now.born) (refers g c).1 c.parent-ordinal.ensures.born

pub birth-born-requires-clause-row : goal.birth-born-requires-clause-row
birth-born-requires-clause-row g c =
    let here : After-parent-ordinal g = c in
    let lines : LinesOf = c.args.self.now in
    subst (λ (plan : Project). c.parent-ordinal.result < rows_in_all plan c.args.lookup.now.parent) (sym (plan_is g here))
    (omega (
      arith,
      parent_born g here,
      (known g here).born,
      (known g here).unit,
      born_count-le (table_of lines.plan c.args.lookup.now.parent).births lines.born (last_unit lines.plan) (omega (arith, (known g here).born, (known g here).unit)),
    ))

pub new-requires-clause-table : goal.new-requires-clause-table
new-requires-clause-table g c =
    let here = (goal.at.new-requires-clause-table g c).After-parent-ordinal in
    omega (
      arith,
      lookup-parent c.args.self.now (known g here).sound (known g here).table c.args.column c.args.lookup.now c.requires.lookup,
      ap (λ (of : LinesOf). length of.plan.schema.tables) c.self.view_is,
    )

pub new-requires-clause-born : goal.new-requires-clause-born
new-requires-clause-born g c =
    let here = (goal.at.new-requires-clause-born g c).After-parent-ordinal in
    let lines : LinesOf = c.args.self.now in
    omega (
      arith,
      c.birth-born.ensures.unit,
      ap (λ (plan : Project). birth (table_of plan c.args.lookup.now.parent).births (last_unit plan) c.parent-ordinal.result) (plan_is g here),
      birth-within (table_of lines.plan c.args.lookup.now.parent).births (last_unit lines.plan) lines.born c.parent-ordinal.result (omega (arith, (known g here).born, (known g here).unit)) (parent_born g here),
      (known g here).born,
      ap (λ (of : LinesOf). of.unit) c.self.view_is,
    )

pub returns-clause-row : goal.returns-clause-row
returns-clause-row g c =
    let here = (goal.at.returns-clause-row g c).After-parent-ordinal in
    let lines : LinesOf = c.args.self.now in
    let table : ℕ = c.args.lookup.now.parent in
    let born : ℕ = c.birth-born.result in
    let lies : LiesIn (table_of lines.plan table).births born c.parent-ordinal.result =
    subst (λ (of : Project). LiesIn (table_of of table).births born c.parent-ordinal.result) (plan_is g here) c.birth-born.ensures.lies in
    let first : c.cohort.result.first ≡ first_ordinal (table_of lines.plan table).births born =
    c.cohort.ensures.first ∙ ap (λ (plan : Project). first_ordinal (table_of plan table).births born) (plan_is g here) in
    let fields : c.new.result ≡ record { plan = lines.plan; table = table; born = born; unit = lines.unit } =
    c.new.ensures ∙ ap (λ (of : LinesOf). record { plan = of.plan; table = table; born = born; unit = of.unit }) c.self.view_is in
    let fields_born : c.new.result.born ≡ born = ap (λ (of : LinesOf). of.born) fields in
    let at : ordinal_of c.new.result (c.parent-ordinal.result - c.cohort.result.first) ≡ c.parent-ordinal.result =
    ap (λ (of : LinesOf). ordinal_of of (c.parent-ordinal.result - c.cohort.result.first)) fields
    ∙ ordinal_of-index (first_ordinal (table_of lines.plan table).births born) c.cohort.result.first c.parent-ordinal.result first lies.begun in
    record {
      fields = fields ∙ ap (λ (b : ℕ). record { plan = lines.plan; table = table; born = b; unit = lines.unit }) (sym fields_born);
      values = c.new-2.ensures
          ∙ ap (λ (plan : Project). record { plan = plan; table = table; born = born; changed = born }) (plan_is g here)
          ∙ sym (ap (λ (of : LinesOf). values_at of of.born) fields);
      inside = subst (λ (of : LinesOf). c.parent-ordinal.result - c.cohort.result.first < cohort_size (layout_for of).births of.born) (sym fields)
          (omega (arith, first, lies.begun, lies.not_ended));
      ordinal = λ reference is.
          at ∙ c.parent-ordinal.ensures.parent
          ∙ ap (λ (r : ReadyReference). parent_for lines c.args.index (reference_by c.args.lookup.now.via r)) (same_ready c.in-Reference.reference reference ((refers g here).0.is) is.is);
    }

pub returns-clause-steps : goal.returns-clause-steps
returns-clause-steps g c =
    let here = (goal.at.returns-clause-steps g c).After-parent-ordinal in
    let lines : LinesOf = c.args.self.now in
    omega (
      arith,
      c.parent-ordinal.ensures.steps,
      choice_cost-ready (layout_of lines.plan).delimiter (column_at (layout_for lines).columns c.args.lookup.now.via).kind c.in-Reference.reference (refers g here).0.is,
    )
