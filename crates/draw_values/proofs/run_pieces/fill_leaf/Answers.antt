use Rattle.std.proofs.Common.{ℕ, ℤ, w64, to_z, of_z, get_or, ap, sym, ◌∙◌}
use Rattle.std.specs.Fmt.{signed_decimal}
use Rattle.schema_plan.specs.declared.ready.ReadyLeaf.{ReadyLeaf}
use Rattle.draw_values.specs.Runs.{is_short_leaf, text_by, with_behind}
use Rattle.draw_values.specs.Values.{chosen}
use Rattle.draw_values.proofs.ShortNumberLemmas.{both_back}
use Rattle.draw_values.proofs.run_pieces.fill_leaf.Goals as goal

pub returns-in-Int : goal.returns-in-Int
returns-in-Int c = λ i within.
    let drawn : ℕ = get_or c.args.draws.now i 0 in
    let back = both_back c.in-Int.lo c.in-Int.hi (ap is_short_leaf (sym c.in-Int.is) ∙ c.requires.short) in
    c.fill_whole.ensures i within
    ∙ ap (λ (lo : ℤ). with_behind c.args.behind (signed_decimal (chosen lo (to_z w64 (of_z w64 c.in-Int.hi)) c.in-Int.step drawn))) back.0
    ∙ ap (λ (hi : ℤ). with_behind c.args.behind (signed_decimal (chosen c.in-Int.lo hi c.in-Int.step drawn))) back.1
    ∙ ap (λ (found : ReadyLeaf). with_behind c.args.behind (text_by found drawn)) (sym c.in-Int.is)
