use Rattle.std.proofs.Common.{ℕ, Option, Some, None, ap, arith}
use Rattle.std.specs.Prelude.{IfSome}
use Rattle.life_intervals.specs.declared.window.CandidateWindow.{CandidateWindow}
use Rattle.life_intervals.proofs.ChildLemmas.{window-count}
use Rattle.life_intervals.proofs.orders.wanted_deal.Goals as goal

-- what holds anyway holds where there is a number
if_any : {P : Type 0} (seed : Option ℕ) → P → IfSome seed (λ _. P)
if_any None holds = tt
if_any (Some seed) holds = holds

pub invariant_of-result : goal.invariant_of-result
invariant_of-result c = (
  if_any c.seed_of_deal.result (omega (arith, c.number.ensures.some)),
  omega (
    arith,
    window-count c.args.plan.now c.schema-limits.ensures.limits c.args.table c.args.unit c.args.column c.args.reference.now c.requires.table c.requires.unit c.requires.reference,
    ap (λ (w : CandidateWindow). w.count) c.requires.window,
    c.number.ensures.number,
  ),
)
