use Rattle.std.proofs.Common.{ℕ, List, [], ◌∷◌, ◌++◌, refl, sym, ◌∙◌, ap, append_assoc}
use Rattle.std.proofs.lemmas.List.{append-nil}
use Rattle.id_permutation.specs.Tables.{round_values}
use Rattle.id_permutation.proofs.TableLaws.{round_values-zero, round_values-more}
use Rattle.id_permutation.proofs.tables.put_round.Goals as goal

pub loop-half-init : goal.loop-half-init
loop-half-init c =
    let before = c.args.tables.now.items in
    sym (append-nil before) ∙ ap (λ (values : List ℕ). before ++ values) (sym (round_values-zero c.args.seed c.args.index c.args.modulus))

pub loop-half-preserved : goal.loop-half-preserved
loop-half-preserved c =
    let before = c.args.tables.now.items in
    let values = round_values c.args.seed c.args.index c.args.modulus c.loop-half.half in
    c.in_ok-push.ensures.items
    ∙ ap (λ (so_far : List ℕ). so_far ++ c.remainder.result ∷ []) c.loop-half.invariant
    ∙ append_assoc before values (c.remainder.result ∷ [])
    ∙ ap (λ (more : List ℕ). before ++ more)
    (ap (λ (value : ℕ). values ++ value ∷ []) c.remainder.ensures.exact
    ∙ round_values-more _ _ _ _ _ _ refl c.round_number.ensures)
