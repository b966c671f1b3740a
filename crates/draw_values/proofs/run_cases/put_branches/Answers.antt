use Rattle.std.proofs.Common.{◌≡◌, ℕ, [], get_or, ap, sym, ◌∙◌, arith}
use Rattle.std.proofs.lemmas.List.{get_or_default}
use Rattle.schema_plan.specs.declared.ready.ReadyLeaf.{ReadyLeaf}
use Rattle.draw_values.specs.ReadyValues.{ready_branch}
use Rattle.draw_values.specs.Runs.{text_by, with_behind}
use Rattle.draw_values.proofs.PieceLemmas.{text-written}
use Rattle.draw_values.proofs.run_cases.put_branches.Goals as goal

pub loop-i-preserved : goal.loop-i-preserved
loop-i-preserved c =
    let branches = c.args.branches.now in
    let place : ℕ = get_or c.args.places.now c.loop-i.i 0 in
    let within = c.requires.within c.loop-i.i (omega arith) in
    let branch : c.index-branches-places.result ≡ ready_branch branches place =
    c.index-branches-places.is ∙ sym (get_or_default branches place (ready_branch [] 0) c.index-branches-places.result within) in
    text-written (λ (k : ℕ). with_behind c.args.behind (text_by (ready_branch branches (get_or c.args.places.now k 0)) (get_or c.args.draws.now k 0))) c.loop-i.pieces c.loop-i.i c.branch_piece.result (omega arith)
    c.loop-i.invariant
    (c.branch_piece.ensures ∙ ap (λ (leaf : ReadyLeaf). with_behind c.args.behind (text_by leaf (get_or c.args.draws.now c.loop-i.i 0))) branch)
