use Rattle.std.proofs.Common.{◌≡◌, ◌<◌, ◌≤◌, ℕ, List, [], Option, get_or, length, ap, subst, sym, ◌∙◌, arith}
use Rattle.std.specs.Prelude.{IfSome, option_map, unwrap_or}
use Rattle.std.proofs.lemmas.List.{get_or_default}
use Rattle.philox_seeds.specs.SeedTree.{draw}
use Rattle.schema_plan.specs.declared.ready.ReadyLeaf.{ReadyLeaf}
use Rattle.schema_facts.specs.FieldSizes.{greatest_by}
use Rattle.draw_values.specs.ReadyValues.{ready_branch, ready_size, ready_text}
use Rattle.draw_values.proofs.SizeLemmas.{greatest_by-each}
use Rattle.draw_values.proofs.fields.put_branch.Goals as goal
use Rattle.draw_values.proofs.fields.put_branch.Goals.{After-index-branches-place}

within : (c : After-index-branches-place) → c.in-Some.place < length c.args.branches.now
within c = subst (λ (entry : Option ℕ). IfSome entry (λ place. place < length c.args.branches.now)) c.in-Some.is c.requires.entry

fits : (c : After-index-branches-place) → ready_size c.index-branches-place.result ≤ greatest_by ready_size c.args.branches.now
fits c =
    omega (
      arith,
      ap ready_size c.index-branches-place.is,
      greatest_by-each ready_size c.args.branches.now c.in-Some.place c.index-branches-place.result (within c),
    )

pub put_leaf-requires-clause-room : goal.put_leaf-requires-clause-room
put_leaf-requires-clause-room c = omega (arith, fits (goal.at.put_leaf-requires-clause-room c).After-index-branches-place, c.requires.room)

pub returns-in-Some-clause-size : goal.returns-in-Some-clause-size
returns-in-Some-clause-size c =
    let written : Option ℕ → List ℕ = λ (entry : Option ℕ). unwrap_or (option_map (λ place. ready_text (ready_branch c.args.branches.now place) (draw c.args.seed)) entry) [] in
    let same : ready_text (get_or c.args.branches.now c.in-Some.place (ready_branch [] 0)) (draw c.args.seed) ≡ ready_text c.index-branches-place.result (draw c.args.seed) =
    ap (λ (leaf : ReadyLeaf). ready_text leaf (draw c.args.seed)) (get_or_default c.args.branches.now c.in-Some.place (ready_branch [] 0) c.index-branches-place.result (within (goal.at.returns-in-Some-clause-size c).After-index-branches-place) ∙ sym c.index-branches-place.is) in
    omega (arith, ap (λ (entry : Option ℕ). length (written entry)) c.in-Some.is, ap length same, c.put_leaf.ensures.size, fits (goal.at.returns-in-Some-clause-size c).After-index-branches-place)
