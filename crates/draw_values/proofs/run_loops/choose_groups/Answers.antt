use Rattle.std.proofs.Common.{◌≡◌, ◌<◌, ◌%◌, ℕ, List, All, get_or, length, map, sum, ap, subst, sym, ◌∙◌, arith}
use Rattle.weight_tables.specs.Weights.{selected}
use Rattle.draw_values.specs.Values.{chosen_group}
use Rattle.draw_values.proofs.GroupLemmas.{group_at, group_within, remainders_below}
use Rattle.draw_values.proofs.run_loops.choose_groups.Goals as goal
use Rattle.draw_values.proofs.run_loops.choose_groups.Goals.{After-select_all}

pub select_all-requires : goal.select_all-requires
select_all-requires c =
    subst (λ (numbers : List ℕ). All (λ x. x < sum c.args.weights.now) numbers)
    (sym (c.remainders.ensures ∙ ap (λ (n : ℕ). map (λ (x : ℕ). x % n) c.args.draws.now) c.requires))
    (remainders_below (sum c.args.weights.now) (omega (arith, c.number-some.ensures.some, c.requires)) c.args.draws.now)

group_is : (c : After-select_all) (i : ℕ) → i < length c.args.draws.now → get_or c.select_all.new.numbers i 0 ≡ chosen_group c.args.weights.now (get_or c.args.draws.now i 0)
group_is c i within =
    ap (λ (groups : List ℕ). get_or groups i 0)
    (c.select_all.ensures
    ∙ ap (map (selected c.args.weights.now)) c.remainders.ensures
    ∙ ap (λ (n : ℕ). map (selected c.args.weights.now) (map (λ (x : ℕ). x % n) c.args.draws.now)) c.requires)
    ∙ group_at c.args.weights.now c.args.draws.now i within

pub returns-clause-groups : goal.returns-clause-groups
returns-clause-groups c = λ i within. group_is (goal.at.returns-clause-groups c).After-select_all i within

pub returns-clause-within : goal.returns-clause-within
returns-clause-within c = λ i within.
    omega (
      arith,
      group_is (goal.at.returns-clause-within c).After-select_all i within,
      group_within c.args.weights.now (get_or c.args.draws.now i 0) (omega (arith, c.number-some.ensures.some, c.requires)),
    )
