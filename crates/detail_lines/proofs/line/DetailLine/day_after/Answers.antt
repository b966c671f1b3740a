use Rattle.std.proofs.Common.{◌≡◌, ◌+ℤ◌, ℤ, Some, w64, to_z, of_z, FitsSigned, ap, ap₂, arith, subst, sym, ◌∙◌}
use Rattle.draw_values.specs.Values.{Draws, chosen}
use Rattle.row_lines.proofs.DerivedLemmas.{fits_day}
use Rattle.detail_lines.specs.Made.{IsLineOver, LineOver}
use Rattle.detail_lines.specs.Shown.{IsDayAt}
use Rattle.detail_lines.proofs.LineValueLemmas.{day-later, seed-draws}
use Rattle.detail_lines.proofs.line.DetailLine.day_after.Goals as goal

pub offset_bounds-shown-after : goal.offset_bounds-shown-after
offset_bounds-shown-after c =
    let own = subst (λ (l : LineOver). IsLineOver l c.self.inside.row.now c.self.inside.delimiter c.self.inside.seeds.now c.self.inside.drawn) c.self.view_is c.self.invariant in
    omega (arith, c.requires.after.earlier, c.requires.column, own.limits.few_columns)

pub bounds-shown-after : goal.bounds-shown-after
bounds-shown-after c =
    let own = subst (λ (l : LineOver). IsLineOver l c.self.inside.row.now c.self.inside.delimiter c.self.inside.seeds.now c.self.inside.drawn) c.self.view_is c.self.invariant in
    omega (arith, c.requires.after.earlier, c.requires.column, own.limits.few_columns)

-- which is passed on as it is
sum_is : (earlier by : ℤ) → to_z w64 (of_z w64 earlier) ≡ earlier → to_z w64 (of_z w64 by) ≡ by → to_z w64 (of_z w64 earlier) +ℤ to_z w64 (of_z w64 by) ≡ earlier +ℤ by
sum_is earlier by p q = ap₂ (λ (a b : ℤ). a +ℤ b) p q

pub overflow_add-result : goal.overflow_add-result
overflow_add-result c =
    let line : LineOver = c.args.self.now in
    let earlier : ℤ = c.in_ok-earlier.earlier in
    let own = subst (λ (l : LineOver). IsLineOver l c.self.inside.row.now c.self.inside.delimiter c.self.inside.seeds.now c.self.inside.drawn) c.self.view_is c.self.invariant in
    let draws = c.days_after.ensures.exact ∙ ap (λ (draw : Draws). chosen c.args.after.now.lo c.args.after.now.hi 1 (draw 1)) (seed-draws line c.self.inside.row.now c.self.inside.delimiter c.self.inside.seeds.now c.self.inside.drawn own c.args.column c.requires.column) in
    let later = day-later line own.keeps own.limits c.args.column c.requires.column c.args.shown.now c.requires.shown c.args.after.now c.requires.after earlier c.days_after.result c.in_ok-earlier.was draws c.days_after.ensures.range in
    let fits = fits_day c.args.after.now.lo c.args.after.now.hi earlier c.days_after.result c.requires.after.range c.days_after.ensures.range later.calendar in
    subst (FitsSigned w64) (sym (sum_is earlier c.days_after.result fits.0 fits.1)) fits.3

pub returns : goal.returns
returns c =
    let line : LineOver = c.args.self.now in
    let earlier : ℤ = c.in_ok-earlier.earlier in
    let own = subst (λ (l : LineOver). IsLineOver l c.self.inside.row.now c.self.inside.delimiter c.self.inside.seeds.now c.self.inside.drawn) c.self.view_is c.self.invariant in
    let draws = c.days_after.ensures.exact ∙ ap (λ (draw : Draws). chosen c.args.after.now.lo c.args.after.now.hi 1 (draw 1)) (seed-draws line c.self.inside.row.now c.self.inside.delimiter c.self.inside.seeds.now c.self.inside.drawn own c.args.column c.requires.column) in
    let later = day-later line own.keeps own.limits c.args.column c.requires.column c.args.shown.now c.requires.shown c.args.after.now c.requires.after earlier c.days_after.result c.in_ok-earlier.was draws c.days_after.ensures.range in
    let fits = fits_day c.args.after.now.lo c.args.after.now.hi earlier c.days_after.result c.requires.after.range c.days_after.ensures.range later.calendar in
    subst (λ (day : ℤ). IsDayAt line c.args.column (Some day))
    (sym (ap (λ (day : ℤ). to_z w64 (of_z w64 day)) (sum_is earlier c.days_after.result fits.0 fits.1) ∙ fits.2)) later.shown
