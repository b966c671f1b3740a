use Rattle.std.proofs.Common.{◌++◌, ℕ, List, ap, arith, sym, ◌∙◌}
use Rattle.std.proofs.lemmas.List.{append-nil}
use Rattle.life_intervals.proofs.AppendLemmas.{GoesOn-same}
use Rattle.life_intervals.proofs.BlockLemmas.{mod-next, mod-smaller}
use Rattle.life_intervals.proofs.ResidueLemmas.{leaving-all, leaving-first, leaving-push}
use Rattle.life_intervals.proofs.found_at.push_places_leaving.Goals as goal

pub loop-place-init : goal.loop-place-init
loop-place-init c = record {
  own = mod-smaller c.args.residue.modulus c.args.residue.remainder c.requires.remainder;
  so_far =
      c.reserve.ensures.items
      ∙ sym (append-nil c.args.places.now.items)
      ∙ ap (λ (xs : List ℕ). c.args.places.now.items ++ xs) (leaving-first c.args.residue.modulus c.args.residue.remainder c.requires.remainder c.args.size);
}

pub loop-place-preserved : goal.loop-place-preserved
loop-place-preserved c = record {
  own = mod-next c.args.residue.modulus c.loop-place.place (omega (arith, c.requires.remainder)) ∙ c.loop-place.invariant.own;
  so_far =
      leaving-push c.args.residue.modulus c.args.residue.remainder c.requires.remainder c.args.size c.loop-place.place c.args.places.now.items c.loop-place.places.items c.push.new.self.items
      c.loop-place.invariant.own c.loop-place-test.true c.loop-place.invariant.so_far c.in_ok-push.ensures.items;
}

pub returns-clause-places : goal.returns-clause-places
returns-clause-places c =
    c.loop-place.invariant.so_far
    ∙ ap (λ (xs : List ℕ). c.args.places.now.items ++ xs)
    (leaving-all c.args.residue.modulus c.args.residue.remainder c.requires.remainder c.args.size c.loop-place.place c.loop-place-test.false)

pub returns-clause-before : goal.returns-clause-before
returns-clause-before c = record { behind = _; is = c.loop-place.invariant.so_far }

pub returns-in_err-reserve-clause-before : goal.returns-in_err-reserve-clause-before
returns-in_err-reserve-clause-before c = GoesOn-same c.args.places.now.items c.reserve.new.self.items c.reserve.ensures.items

pub returns-in_err-push-clause-before : goal.returns-in_err-push-clause-before
returns-in_err-push-clause-before c = record { behind = _; is = c.in_err-push.ensures.items ∙ c.loop-place.invariant.so_far }
