use Rattle.std.proofs.Common.{◌≡◌, ◌<◌, ℕ, length, get_or, arith, subst, sym, ◌∙◌}
use Rattle.std.proofs.lemmas.List.Filters.{FiltersInPlace-more_no, FiltersInPlace-more_set}
use Rattle.cohort_sizes.specs.Births.{first_ordinal}
use Rattle.schema_facts.specs.Layout.{layout_of}
use Rattle.schema_facts.specs.Lineage.{death_cost}
use Rattle.life_intervals.specs.Generator.{table_of}
use Rattle.update_box.proofs.OrdinalLemmas.{kept-item}
use Rattle.update_box.proofs.fates.keep.Goals as goal
use Rattle.update_box.proofs.fates.keep.Goals.{then-has_fate, else-has_fate}

pub has_fate-requires-clause-born : goal.has_fate-requires-clause-born
has_fate-requires-clause-born g c =
    let at : ℕ = c.loop-i.i in
    let d : ℕ = c.index-ordinal.result.now in
    let is : d ≡ get_or c.args.list.now.items at d = c.index-ordinal.ensures ∙ kept-item c.args.list.now.items c.loop-i.list.items c.loop-i.kept at d c.loop-i.invariant.kept in
    subst (λ (x : ℕ). x < first_ordinal (table_of c.args.rows.now c.args.table).births c.args.t) (sym is) (c.requires.born at d (omega (arith, c.loop-i-test.true, c.len-i-end.ensures)))

pub loop-i-preserved : goal.loop-i-preserved
loop-i-preserved g c =
    let cost : ℕ = death_cost (layout_of c.args.rows.now).tables c.args.table in
    let inside : c.loop-i.i < length c.loop-i.list.items = omega (arith, c.loop-i-test.true, c.len-i-end.ensures, c.loop-i.invariant.kept.long) in
    elim c.if-has_fate.branch [
      | then-has_fate w ↦ record {
        kept = rw (w.list-is, w.kept-is) (FiltersInPlace-more_set c.loop-i.invariant.kept inside (sym c.has_fate.ensures.fate ∙ w.if-has_fate.true) c.index-ordinal.ensures);
        steps = omega (arith, c.loop-i.invariant.steps, c.has_fate.ensures.steps);
      }
      | else-has_fate w ↦ record {
        kept = rw (w.list-is, w.kept-is) (FiltersInPlace-more_no c.loop-i.invariant.kept inside (sym c.has_fate.ensures.fate ∙ w.if-has_fate.false) c.index-ordinal.ensures);
        steps = omega (arith, c.loop-i.invariant.steps, c.has_fate.ensures.steps);
      }
    ]
