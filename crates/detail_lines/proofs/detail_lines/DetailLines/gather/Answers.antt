use Rattle.std.proofs.Common.{◌≡◌, ◌-◌, ◌+◌, ◌*◌, ℕ, arith, ap, get_or, inl, inr, refl, subst, sym}
use Rattle.std.specs.List.{flat_map, range_with_len}
use Rattle.std.proofs.lemmas.Bool.{cases_lt}
use Rattle.schema_facts.specs.Counts.{count}
use Rattle.detail_lines.specs.declared.detail_lines.LineKind.TheVariants.{Whole}
use Rattle.detail_lines.specs.declared.parent_row.ParentRow.{ParentRow}
use Rattle.detail_lines.specs.LineRuns.{ArePlaced, AreSpread}
use Rattle.detail_lines.specs.Made.{LinesOver, made_row, row_of}
use Rattle.detail_lines.proofs.DeclaredLemmas.{parent-below}
use Rattle.detail_lines.proofs.LineListLemmas.{gathered-more, listed-more, listed-none, placed-more, placed-none, told-few, told-most}
use Rattle.detail_lines.proofs.ToldLemmas.{ordinal-small}
use Rattle.detail_lines.proofs.detail_lines.DetailLines.gather.Goals as goal

pub overflow_add-lines : goal.overflow_add-lines
overflow_add-lines c =
    let few = told-few c.args.self.now c.args.t (row_of c.args.rows.now c.loop-i.i) c.declared-limits.ensures.limits (c.requires.told c.loop-i.i (omega (arith, c.loop-i-test.true, c.requires.many.ordinals))) in
    let counted = c.requires.counts c.loop-i.i (omega (arith, c.loop-i-test.true)) in
    omega (arith, c.loop-i.invariant.few, c.requires.few, few, counted)

pub loop-i-init : goal.loop-i-init
loop-i-init c =
    let none : 0 ≡ c.args.first - c.args.first = omega arith in
    record {
      ordered = omega arith;
      few = omega arith;
      bound = omega arith;
      begun = λ here. refl;
      listed = listed-none c.args.self.now c.args.t c.args.lists.now c.requires.room;
      placed = subst (λ (n : ℕ). ArePlaced c.args.rows.now c.args.first n 0 c.args.lists.now) none (placed-none c.args.rows.now c.args.first c.args.lists.now);
      text = ap (λ (n : ℕ). flat_map (λ i. made_row c.args.self.now Whole c.args.t (row_of c.args.rows.now i).ordinal) (range_with_len c.args.first n)) none;
    }

pub returns-then-lines-count-clause-some : goal.returns-then-lines-count-clause-some
returns-then-lines-count-clause-some c =
    let few = told-few c.args.self.now c.args.t (row_of c.args.rows.now c.loop-i.i) c.declared-limits.ensures.limits (c.requires.told c.loop-i.i (omega (arith, c.loop-i-test.true, c.requires.many.ordinals))) in
    let counted = c.requires.counts c.loop-i.i (omega (arith, c.loop-i-test.true)) in
    elim (cases_lt c.args.first c.loop-i.i) [
      | inl later ↦ later
      | inr here ↦
          let same : c.loop-i.i ≡ c.args.first = omega (arith, here, c.loop-i.invariant.ordered) in
          absurd (omega (arith, c.loop-i.invariant.begun same, few, counted, c.requires.row, c.if-lines-count.true))
    ]

pub spread-requires-clause-small : goal.spread-requires-clause-small
spread-requires-clause-small c =
    let over : LinesOver = c.args.self.now in
    let row = c.requires.told c.loop-i.i (omega (arith, c.loop-i-test.true, c.requires.many.ordinals)) in
    omega (
      arith,
      ap (λ (one : ParentRow). one.ordinal) c.row.ensures,
      ordinal-small over c.args.t Whole (row_of c.args.rows.now c.loop-i.i) c.declared-limits.ensures.sound (parent-below over.plan over.kept c.declared-limits.ensures.keeps) c.requires.unit row,
    )

pub spread-requires-clause-few : goal.spread-requires-clause-few
spread-requires-clause-few c =
    let few = told-few c.args.self.now c.args.t (row_of c.args.rows.now c.loop-i.i) c.declared-limits.ensures.limits (c.requires.told c.loop-i.i (omega (arith, c.loop-i-test.true, c.requires.many.ordinals))) in
    let counted = c.requires.counts c.loop-i.i (omega (arith, c.loop-i-test.true)) in
    omega (arith, few, counted)

pub loop-i-preserved : goal.loop-i-preserved
loop-i-preserved c =
    let few = told-few c.args.self.now c.args.t (row_of c.args.rows.now c.loop-i.i) c.declared-limits.ensures.limits (c.requires.told c.loop-i.i (omega (arith, c.loop-i-test.true, c.requires.many.ordinals))) in
    let counted = c.requires.counts c.loop-i.i (omega (arith, c.loop-i-test.true)) in
    let over : LinesOver = c.args.self.now in
    let i : ℕ = c.loop-i.i in
    let row = c.requires.told i (omega (arith, c.loop-i-test.true, c.requires.many.ordinals)) in
    let spread = subst (λ (one : ParentRow). AreSpread one (i - c.args.first) c.loop-i.lines (get_or c.args.counts.now c.loop-i.i 0) c.loop-i.lists c.spread.new.self) c.row.ensures c.spread.ensures.spread in
    let next : i + 1 - c.args.first ≡ i - c.args.first + 1 = omega (arith, c.loop-i.invariant.ordered) in
    record {
      ordered = omega (arith, c.loop-i.invariant.ordered);
      few = omega (arith, c.if-lines-count.false);
      bound = omega (arith, c.loop-i.invariant.bound, counted, told-most over (row_of c.args.rows.now i) c.declared-limits.ensures.limits, ap (λ (n : ℕ). n * count over.kept.detail.hi) next);
      begun = λ here. absurd (omega (arith, here, c.loop-i.invariant.ordered));
      placed = subst (λ (n : ℕ). ArePlaced c.args.rows.now c.args.first n (c.loop-i.lines + get_or c.args.counts.now c.loop-i.i 0) c.spread.new.self) (sym next)
          (placed-more c.args.rows.now c.args.first (i - c.args.first) c.loop-i.lines (get_or c.args.counts.now c.loop-i.i 0) c.loop-i.lists c.spread.new.self c.loop-i.invariant.placed
          (subst (λ (place : ℕ). AreSpread (row_of c.args.rows.now place) (i - c.args.first) c.loop-i.lines (get_or c.args.counts.now c.loop-i.i 0) c.loop-i.lists c.spread.new.self) (omega (arith, c.loop-i.invariant.ordered)) spread));
      listed = listed-more over c.args.t (i - c.args.first) c.loop-i.lines (get_or c.args.counts.now c.loop-i.i 0) (row_of c.args.rows.now i) c.loop-i.lists c.spread.new.self c.loop-i.invariant.listed spread c.spread.ensures.room row
          (omega (arith, few, counted)) (omega (arith, c.if-lines-count.false, c.requires.few));
      text = gathered-more over c.args.t (i - c.args.first) c.args.first i c.loop-i.lines (get_or c.args.counts.now c.loop-i.i 0) c.args.rows.now c.loop-i.lists c.spread.new.self c.loop-i.invariant.ordered spread row counted c.loop-i.invariant.text;
    }
