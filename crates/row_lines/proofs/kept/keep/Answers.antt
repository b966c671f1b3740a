use Rattle.std.proofs.Common.{◌<◌, ◌+◌, ℕ, List, length, length-set, get_or, get_or-set_other, take, slice_set, ap, arith, ◌∙◌}
use Rattle.row_lines.proofs.KeptLemmas.{kept_by-step}
use Rattle.row_lines.proofs.kept.keep.Goals as goal

pub loop-index-preserved : goal.loop-index-preserved
loop-index-preserved c =
    let i : ℕ = c.loop-index.index in
    let list : List ℕ = c.loop-index.list in
    let kept : ℕ = c.loop-index.kept in
    let inside : i < length c.args.list.now = omega arith in
    record {
      within = omega (arith, c.loop-index.invariant.within, c.one_if-kept.ensures.few);
      kept = ap (λ (more : ℕ). take (kept + more) (slice_set list kept (get_or list i 0))) c.one_if-kept.ensures.one
          ∙ kept_by-step c.args.flags.now c.args.list.now list kept i inside c.requires c.loop-index.invariant.length c.loop-index.invariant.within
          c.loop-index.invariant.kept (c.loop-index.invariant.rest i (omega arith));
      rest = λ k past. get_or-set_other list kept k (get_or list i 0) 0 (λ same. omega (arith, same, past, c.loop-index.invariant.within)) ∙ c.loop-index.invariant.rest k (omega (arith, past));
      length = length-set list kept (get_or list i 0) ∙ c.loop-index.invariant.length;
    }
