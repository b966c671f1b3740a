use Rattle.std.proofs.Common.{◌≡◌, ◌≤◌, ℕ, ◌+◌, ◌++◌, List, append_assoc, length, length-append, length-take, take, sym, ap, ◌∙◌, arith}
use Rattle.philox_seeds.specs.SeedTree.{draw}
use Rattle.line_pages.specs.Pages.{Page}
use Rattle.draw_values.specs.Items.{item_text, item_texts}
use Rattle.draw_values.proofs.ItemLemmas.{texts-add}
use Rattle.draw_values.proofs.items.put_items.Goals as goal
use Rattle.draw_values.proofs.items.put_items.Goals.{After-min-some}

more : (c : After-min-some) →
    item_texts c.args.leaf.now (draw c.args.seed) 0 (c.loop-done.done + c.min-some.result)
    ≡ item_texts c.args.leaf.now (draw c.args.seed) 0 c.loop-done.done ++ item_texts c.args.leaf.now (draw c.args.seed) c.loop-done.done c.min-some.result
more c = texts-add (item_text c.args.leaf.now (draw c.args.seed)) c.loop-done.done c.min-some.result

fits : (c : After-min-some) →
    length c.loop-done.page.text + length (item_texts c.args.leaf.now (draw c.args.seed) c.loop-done.done c.min-some.result) ≤ c.loop-done.page.room
fits c =
    let draws : ℕ → ℕ = draw c.args.seed in
    let done : ℕ = c.loop-done.done in
    let some : ℕ = c.min-some.result in
    let most : c.args.count ≤ c.most_items-most.result = omega (arith, c.requires.count.1, c.most_items-most.ensures.most c.requires.count.0) in
    omega (
      arith,
      ap (length {A = ℕ}) (more c),
      length-append (item_texts c.args.leaf.now draws 0 done) (item_texts c.args.leaf.now draws done some),
      c.most_items-most.ensures.size draws (done + some) (omega (arith, c.min-some.ensures, c.loop-done-test.true)),
      ap (length {A = ℕ}) c.loop-done.invariant.text,
      length-append c.args.page.now.text (item_texts c.args.leaf.now draws 0 done),
      c.requires.room,
      c.loop-done.invariant.room,
    )

many : (c : After-min-some) → length (take c.min-some.result c.loop-done.all_draws) ≡ c.min-some.result
many c = omega (arith, length-take {A = ℕ}, c.min-some.ensures, c.loop-done.auto.all_draws)

pub put_some_items-requires-clause-room : goal.put_some_items-requires-clause-room
put_some_items-requires-clause-room c =
    let at : After-min-some = (goal.at.put_some_items-requires-clause-room c).After-min-some in
    omega (arith, fits at, ap (λ (n : ℕ). length (item_texts c.args.leaf.now (draw c.args.seed) c.loop-done.done n)) (many at))

pub loop-done-preserved : goal.loop-done-preserved
loop-done-preserved c =
    let at : After-min-some = (goal.at.loop-done-preserved c).After-min-some in
    let draws : ℕ → ℕ = draw c.args.seed in
    let done : ℕ = c.loop-done.done in
    let some : ℕ = c.min-some.result in
    record {
      within = omega (arith, c.min-some.ensures, c.loop-done-test.true);
      text = ap (λ (page : Page). page.text) c.put_some_items.ensures
          ∙ ap (λ (n : ℕ). c.loop-done.page.text ++ item_texts c.args.leaf.now draws done n) (many at)
          ∙ ap (λ (text : List ℕ). text ++ item_texts c.args.leaf.now draws done some) c.loop-done.invariant.text
          ∙ append_assoc c.args.page.now.text (item_texts c.args.leaf.now draws 0 done) (item_texts c.args.leaf.now draws done some)
          ∙ ap (λ (text : List ℕ). c.args.page.now.text ++ text) (sym (more at));
      room = ap (λ (page : Page). page.room) c.put_some_items.ensures ∙ c.loop-done.invariant.room;
    }
