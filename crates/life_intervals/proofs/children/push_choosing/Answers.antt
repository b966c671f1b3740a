use Rattle.std.proofs.Common.{◌++◌, ℕ, List, ap, arith, sym, ◌∙◌}
use Rattle.std.proofs.lemmas.List.{append-nil}
use Rattle.life_intervals.proofs.AppendLemmas.{GoesOn-more}
use Rattle.life_intervals.proofs.BlockLemmas.{block-within, block_start-from, chosen-all, chosen-first, chosen-push, mod-next, mod-smaller, over_from_none}
use Rattle.life_intervals.proofs.children.push_choosing.Goals as goal

pub loop-block-init : goal.loop-block-init
loop-block-init c = record {
  own = mod-smaller c.args.count c.args.candidate c.requires.candidate;
  so_far =
      sym (append-nil c.args.places.now.items)
      ∙ ap (λ (xs : List ℕ). c.args.places.now.items ++ xs) (chosen-first c.args.reference.now.spread c.requires.spread c.args.size c.args.count c.args.candidate c.requires.candidate);
}

pub loop-block-smaller : goal.loop-block-smaller
loop-block-smaller c =
    let inside = block-within c.args.reference.now.spread c.args.size c.loop-block.number c.in-Some.block (sym c.block_below.ensures ∙ c.in-Some.is) in
    omega (arith, inside.1, block_start-from c.args.reference.now.spread c.requires.spread c.loop-block.number, c.requires.candidate)

pub loop-block-preserved : goal.loop-block-preserved
loop-block-preserved c = record {
  own = mod-next c.args.count c.loop-block.number (omega (arith, c.requires.candidate)) ∙ c.loop-block.invariant.own;
  so_far =
      chosen-push c.args.reference.now.spread c.requires.spread c.args.size c.args.count c.args.candidate c.requires.candidate c.loop-block.number c.in-Some.block
      c.args.places.now.items c.loop-block.places.items c.push_block.new.places.items c.loop-block.invariant.own
      (sym c.block_below.ensures ∙ c.in-Some.is) c.loop-block.invariant.so_far c.in_ok-push_block.ensures.places;
}

pub returns-clause-places : goal.returns-clause-places
returns-clause-places c =
    c.loop-block.invariant.so_far
    ∙ ap (λ (xs : List ℕ). c.args.places.now.items ++ xs)
    (chosen-all c.args.reference.now.spread c.requires.spread c.args.size c.args.count c.args.candidate c.requires.candidate c.loop-block.number
    (over_from_none c.args.reference.now.spread c.args.size c.loop-block.number (sym c.block_below.ensures ∙ c.in_default.is)))

pub returns-clause-before : goal.returns-clause-before
returns-clause-before c = record { behind = _; is = c.loop-block.invariant.so_far }

pub returns-in_err-push_block-clause-before : goal.returns-in_err-push_block-clause-before
returns-in_err-push_block-clause-before c =
    GoesOn-more c.args.places.now.items c.loop-block.places.items c.push_block.new.places.items (record { behind = _; is = c.loop-block.invariant.so_far }) c.in_err-push_block.ensures.before
