use Rattle.std.proofs.Common.{◌≡◌, ◌<◌, ◌+◌, ◌-◌, ℕ, ℤ, w64, to_z, of_z, List, Some, get_or, length, pos, ap, arith, subst, sym, ◌∙◌}
use Rattle.std.proofs.lemmas.List.{get_or-replicate}
use Rattle.philox_seeds.specs.SeedTree.{column_seed, draw}
use Rattle.schema_plan.specs.declared.ready.ReadyColumn.{ReadyColumn}
use Rattle.draw_values.specs.declared.leaf_numbers.Number.{Number}
use Rattle.draw_values.specs.ReadyValues.{ready_own_number}
use Rattle.draw_values.specs.Runs.{DrawnColumnOf, IsReadyDrawn, run_seed}
use Rattle.row_lines.specs.Totals.{start_of}
use Rattle.detail_lines.specs.LineRuns.{line_of}
use Rattle.detail_lines.specs.Made.{LinesOver, detail_seed, own_over}
use Rattle.detail_lines.specs.Shown.{digits_for}
use Rattle.detail_lines.proofs.DeclaredLemmas.{parent-below}
use Rattle.detail_lines.proofs.LineRunLemmas.{drawn-ready, prepared-length, prepared-of, ready-length, ready-of}
use Rattle.detail_lines.proofs.LineTotalLemmas.{IsLineNext, IsLineSoFar, back_range, line-none, operand-before, start-is, start_range, totals-all, totals-more}
use Rattle.detail_lines.proofs.detail_lines.DetailLines.join_columns.Goals as goal
use Rattle.detail_lines.proofs.detail_lines.DetailLines.join_columns.Goals.{After-saturating_sub-more, After-start_of-start, In-loop-place}

-- ---- before the loop

-- the number that the operands are joined from
start_as : (c : After-start_of-start) → c.start_of-start.result ≡ start_of c.args.join (digits_for c.args.self.now.kept.facts c.args.of.now)
start_as c =
    let limits = c.ready-columns.ensures in
    c.start_of-start.ensures ∙ ap (start_of c.args.join) c.decimals.ensures.digits
    ∙ start-is c.args.self.now limits.keeps limits.limits c.args.column c.requires.column c.args.join c.args.of.now c.requires.total

pub loop-place-init : goal.loop-place-init
loop-place-init c = record {
  so_far = λ k inside.
      let here = (goal.at.loop-place-init c).After-start_of-start in
      let over : LinesOver = c.args.self.now in
      let start : Number = start_of c.args.join (digits_for over.kept.facts c.args.of.now) in
      let value_is : get_or c.fill.new.self k (pos 0) ≡ start.value =
      ap (λ (totals : List ℤ). get_or totals k (pos 0)) (c.fill.ensures.after (λ y same. same))
      ∙ get_or-replicate (length c.args.totals.now) k (to_z w64 (of_z w64 c.start_of-start.result.value)) (pos 0) (omega (arith, inside, c.requires.totals))
      ∙ ap (λ (number : Number). to_z w64 (of_z w64 number.value)) (start_as here)
      ∙ back_range start.value (start_range c.args.join (digits_for over.kept.facts c.args.of.now)) in
      subst (IsLineSoFar (line_of over c.args.at.now.unit c.args.run.now k) c.args.column c.args.of.now c.args.join 0) (sym value_is)
      (line-none (line_of over c.args.at.now.unit c.args.run.now k) c.args.column c.args.of.now c.args.join);
}

-- ---- the column of an operand

-- stands before
before : (c : In-loop-place) → get_or c.args.of.now c.loop-place.place-index 0 < own_over c.args.self.now
before c =
    let limits = c.ready-columns.ensures in
    omega (
      arith,
      operand-before c.args.self.now limits.keeps limits.limits c.args.column c.requires.column c.args.join c.args.of.now c.requires.total c.loop-place.place-index (omega (arith, c.loop-place-test.true)),
      c.requires.column,
    )

few : (c : In-loop-place) → get_or c.args.of.now c.loop-place.place-index 0 < 32
few c = omega (arith, before c, c.ready-columns.ensures.limits.few_columns)

pub offset_bounds-columns-place : goal.offset_bounds-columns-place
offset_bounds-columns-place c = omega (arith, few (goal.at.offset_bounds-columns-place c).In-loop-place)

pub bounds-columns-place : goal.bounds-columns-place
bounds-columns-place c =
    let limits = c.ready-columns.ensures in
    omega (arith, before (goal.at.bounds-columns-place c).In-loop-place, ready-length c.args.self.now limits.keeps limits.limits c.ready-columns.result.now limits.value)

pub offset_bounds-prepared-place : goal.offset_bounds-prepared-place
offset_bounds-prepared-place c = omega (arith, few (goal.at.offset_bounds-prepared-place c).In-loop-place)

pub bounds-prepared-place : goal.bounds-prepared-place
bounds-prepared-place c =
    omega (arith, before (goal.at.bounds-prepared-place c).In-loop-place, prepared-length c.args.self.now c.prepared-prepared.result.now c.prepared-prepared.ensures)

pub put_numbers-requires-clause-ready : goal.put_numbers-requires-clause-ready
put_numbers-requires-clause-ready c =
    let over : LinesOver = c.args.self.now in
    let limits = c.ready-columns.ensures in
    let place : ℕ = get_or c.args.of.now c.loop-place.place-index 0 in
    let own = before (goal.at.put_numbers-requires-clause-ready c).In-loop-place in
    subst (λ (column : ReadyColumn). IsReadyDrawn column.kind)
    (sym (ready-of over limits.keeps limits.limits place own c.ready-columns.result.now c.index-columns-place.result limits.value c.index-columns-place.is))
    (drawn-ready over limits.keeps limits.limits place own)

-- ---- one more operand

next : (c : After-saturating_sub-more) → get_or c.args.of.now c.loop-place.place-index 0 < own_over c.args.self.now →
    c.start_of-start.result ≡ start_of c.args.join (digits_for c.args.self.now.kept.facts c.args.of.now) → (k : ℕ) → k < c.args.count →
    IsLineNext (line_of c.args.self.now c.args.at.now.unit c.args.run.now k) c.args.column c.args.of.now c.args.join c.loop-place.place-index c.saturating_sub-more.result (get_or c.loop-place.totals k (pos 0)) (get_or c.put_numbers.new.values k (pos 0))
next c own start_is =
    let over : LinesOver = c.args.self.now in
    let limits = c.ready-columns.ensures in
    let place : ℕ = get_or c.args.of.now c.loop-place.place-index 0 in
    let ready = ready-of over limits.keeps limits.limits place own c.ready-columns.result.now c.index-columns-place.result limits.value c.index-columns-place.is in
    let prepared = prepared-of over place own c.prepared-prepared.result.now c.index-prepared-place.result c.prepared-prepared.ensures c.index-prepared-place.is in
    totals-more over c.args.at.now.unit c.args.count c.args.run.now c.requires.lines limits.keeps limits.limits (parent-below over.plan over.kept limits.keeps) c.args.column c.requires.column c.args.join c.args.of.now c.requires.total
    c.drawn_rows-rows.result c.drawn_rows-rows.ensures.rows c.loop-place.place-index c.saturating_sub-more.result c.in-Some.decimals c.loop-place.totals c.put_numbers.new.values (omega (arith, c.loop-place-test.true))
    c.loop-place.invariant.so_far
    (omega (arith, c.if-own-gt0.false, ap (λ (column : ReadyColumn). column.null) ready))
    (λ k inside.
    subst (λ (column : ReadyColumn). ready_own_number (draw (run_seed (column_seed (detail_seed over.kept) place) column.changes c.drawn_rows-rows.result k)) column.kind ≡ Some (record { value = get_or c.put_numbers.new.values k (pos 0); decimals = c.in-Some.decimals })) ready
    (subst (λ (of : DrawnColumnOf). ready_own_number (draw (run_seed of.seed c.index-columns-place.result.changes c.drawn_rows-rows.result k)) c.index-columns-place.result.kind ≡ Some (record { value = get_or c.put_numbers.new.values k (pos 0); decimals = c.in-Some.decimals })) prepared
    (c.in-Some.ensures.exact k (omega (arith, inside, c.loop-place.auto.operands, c.requires.operands)))))
    (c.saturating_sub-more.ensures ∙ ap (λ (number : Number). number.decimals - c.in-Some.decimals) start_is)

pub join_all-requires-clause-operands : goal.join_all-requires-clause-operands
join_all-requires-clause-operands c = λ i inside.
    let at = goal.at.join_all-requires-clause-operands c in
    (next at.After-saturating_sub-more (before at.In-loop-place) (start_as at.After-start_of-start) i (omega (arith, inside, c.loop-place.auto.totals, c.fill.ensures.len, c.requires.totals))).own_in

pub join_all-requires-clause-scaled : goal.join_all-requires-clause-scaled
join_all-requires-clause-scaled c = λ i inside.
    let at = goal.at.join_all-requires-clause-scaled c in
    (next at.After-saturating_sub-more (before at.In-loop-place) (start_as at.After-start_of-start) i (omega (arith, inside, c.loop-place.auto.totals, c.fill.ensures.len, c.requires.totals))).operand_in

pub join_all-requires-clause-total : goal.join_all-requires-clause-total
join_all-requires-clause-total c = λ i inside.
    let at = goal.at.join_all-requires-clause-total c in
    (next at.After-saturating_sub-more (before at.In-loop-place) (start_as at.After-start_of-start) i (omega (arith, inside, c.loop-place.auto.totals, c.fill.ensures.len, c.requires.totals))).total_in

pub loop-place-preserved : goal.loop-place-preserved
loop-place-preserved c = record {
  so_far = λ k inside.
      let at = goal.at.loop-place-preserved c in
      subst (IsLineSoFar (line_of c.args.self.now c.args.at.now.unit c.args.run.now k) c.args.column c.args.of.now c.args.join (c.loop-place.place-index + 1))
      (sym (c.join_all.ensures k (omega (arith, inside, c.loop-place.auto.totals, c.fill.ensures.len, c.requires.totals))))
      (next at.After-saturating_sub-more (before at.In-loop-place) (start_as at.After-start_of-start) k inside).so_far;
}

pub returns : goal.returns
returns c = λ found.
    let over : LinesOver = c.args.self.now in
    let limits = c.ready-columns.ensures in
    totals-all over c.args.at.now.unit c.args.count c.args.run.now c.requires.lines limits.keeps limits.limits (parent-below over.plan over.kept limits.keeps) c.args.column c.requires.column c.args.join c.args.of.now c.requires.total
    c.loop-place.place-index c.loop-place.totals (omega (arith, c.loop-place-test.false)) c.loop-place.invariant.so_far
