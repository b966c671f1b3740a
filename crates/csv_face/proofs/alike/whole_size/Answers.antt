use Rattle.std.proofs.Common.{◌≡◌, ℕ, arith, take, subst, sym, suc, ◌-◌}
use Rattle.csv_face.specs.Alike.{AreAlike}
use Rattle.csv_face.proofs.AlikeLemmas.{none-alike, take-alike}
use Rattle.csv_face.proofs.alike.whole_size.Goals as goal

pub returns-then-text-eq10-clause-lines : goal.returns-then-text-eq10-clause-lines
returns-then-text-eq10-clause-lines c = none-alike

pub returns-else-text-size-ne10-clause-lines : goal.returns-else-text-size-ne10-clause-lines
returns-else-text-size-ne10-clause-lines c =
    let size = c.loop-size.size in
    let is : suc (size - 1) ≡ size = omega (arith, c.loop-size-test.true) in
    subst (λ (n : ℕ). AreAlike (take n c.args.text.now)) is
    (take-alike c.args.text.now c.args.most (size - 1) c.requires.within c.requires.alike c.if-text-eq10.false (omega (arith, c.loop-size.invariant, c.loop-size-test.true)) c.if-text-size-ne10.false)

pub returns-after-loop-size-clause-lines : goal.returns-after-loop-size-clause-lines
returns-after-loop-size-clause-lines c =
    let none : c.loop-size.size ≡ 0 = omega (arith, c.loop-size-test.false) in
    subst (λ (n : ℕ). AreAlike (take n c.args.text.now)) (sym none) none-alike
