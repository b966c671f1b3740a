use Rattle.std.proofs.Common.{ℕ, List, Bool, true, replicate, ap, subst, sym, ◌∙◌}
use Rattle.std.specs.Prelude.{Option}
use Rattle.update_box.specs.Found.{AreNeeded}
use Rattle.update_box.proofs.NeededLemmas.{needed-all}
use Rattle.update_box.proofs.needed.needed_tables.Goals as goal

pub returns-in_ok-vec-in-None : goal.returns-in_ok-vec-in-None
returns-in_ok-vec-in-None c =
    let marks : List Bool = c.in_ok-vec-in-None.field-0.items in
    subst (λ (table : Option ℕ). AreNeeded c.args.plan.now table marks) (sym c.in-None.is)
    (needed-all c.args.plan.now c.schema-limits.ensures.limits marks (c.in_ok-vec-in-None.ensures.items_if_clones_equal (λ y same. same) ∙ ap (λ (n : ℕ). replicate n true) c.tables.ensures))
