use Rattle.std.proofs.Common.{◌≡◌, ℕ, ◌+◌, ◌*◌, sym, ap, ◌∙◌, arith}
use Rattle.id_permutation.specs.declared.halves.Halves.{Halves}
use Rattle.id_permutation.specs.Placement.{halves_of, round, rounds}
use Rattle.id_permutation.proofs.RoundLaws.{rounds-zero, rounds-two, number_of-rounds}
use Rattle.id_permutation.proofs.network.Network.mix.Goals as goal

pub loop-pair-init : goal.loop-pair-init
loop-pair-init c = record {
  exact = c.split-halves.ensures.exact ∙ sym (rounds-zero _ _ _ _);
  within = c.split-halves.ensures.within;
}

pub loop-pair-preserved : goal.loop-pair-preserved
loop-pair-preserved c =
    let a = c.args.self.now.height in
    let b = c.args.self.now.width in
    let seed = c.args.self.now.seed in
    let pair = c.loop-pair.pair in
    record {
      exact =
          c.odd_round-halves.ensures.exact
          ∙ ap (λ (h : Halves). round a b seed (2 * pair + 1) h) c.even_round-halves.ensures.exact
          ∙ ap (λ (h : Halves). round a b seed (2 * pair + 1) (round a b seed (2 * pair) h)) c.loop-pair.invariant.exact
          ∙ sym (rounds-two a b seed pair (halves_of b c.args.number));
      within = c.odd_round-halves.ensures.within;
    }

pub returns-clause-exact : goal.returns-clause-exact
returns-clause-exact c =
    let n = c.args.self.now.size in
    let a = c.args.self.now.height in
    let b = c.args.self.now.width in
    let seed = c.args.self.now.seed in
    let all : 2 * c.loop-pair.pair ≡ 6 = omega arith in
    c.join.ensures.exact
    ∙ number_of-rounds n seed c.args.number a b c.loop-pair.halves c.args.self.now.tall c.args.self.now.wide
    (c.loop-pair.invariant.exact ∙ ap (λ (k : ℕ). rounds a b seed k (halves_of b c.args.number)) all)
