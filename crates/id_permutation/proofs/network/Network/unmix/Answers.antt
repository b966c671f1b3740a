use Rattle.std.proofs.Common.{◌≡◌, ℕ, ◌+◌, ◌-◌, ◌*◌, ap, ◌∙◌, arith}
use Rattle.id_permutation.specs.declared.halves.Halves.{Halves}
use Rattle.id_permutation.specs.Placement.{round, rounds, mix}
use Rattle.id_permutation.proofs.RoundLaws.{rounds-zero, rounds-two, mix-number_of}
use Rattle.id_permutation.proofs.network.Network.unmix.Goals as goal

pub loop-pair-preserved : goal.loop-pair-preserved
loop-pair-preserved c =
    let a = c.args.self.now.height in
    let b = c.args.self.now.width in
    let seed = c.args.self.now.seed in
    let pair = c.loop-pair.pair - 1 in
    let next : c.loop-pair.pair ≡ pair + 1 = omega arith in
    record {
      undone = λ start e.
          c.loop-pair.invariant.undone start
          (ap (λ (k : ℕ). rounds a b seed (2 * k) start) next
          ∙ rounds-two a b seed pair start
          ∙ ap (λ (h : Halves). round a b seed (2 * pair + 1) (round a b seed (2 * pair) h)) e
          ∙ ap (λ (h : Halves). round a b seed (2 * pair + 1) h) c.undo_even_round-halves.ensures.undone
          ∙ c.undo_odd_round-halves.ensures.undone);
      within = c.undo_even_round-halves.ensures.within;
    }

pub returns-clause-undone : goal.returns-clause-undone
returns-clause-undone c =
    let n = c.args.self.now.size in
    let a = c.args.self.now.height in
    let b = c.args.self.now.width in
    let seed = c.args.self.now.seed in
    let none : 2 * c.loop-pair.pair ≡ 0 = omega arith in
    ap (mix n seed) c.join.ensures.exact
    ∙ mix-number_of n seed c.args.mixed a b c.loop-pair.halves c.args.self.now.tall c.args.self.now.wide c.loop-pair.invariant.within
    (c.loop-pair.invariant.undone c.loop-pair.halves
    (ap (λ (k : ℕ). rounds a b seed k c.loop-pair.halves) none ∙ rounds-zero a b seed c.loop-pair.halves))
