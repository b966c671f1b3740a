use Rattle.std.proofs.Common.{◌≡◌, ◌<◌, ℕ, ◌+◌, ◌++◌, Bool, List, [], get_or, length, ap, ◌∙◌, arith}
use Rattle.std.specs.List.{flat_map, range_with_len}
use Rattle.philox_seeds.specs.SeedTree.{draw}
use Rattle.line_pages.specs.Rows.{piece_text_at}
use Rattle.draw_values.specs.Items.{is_spaced, item_place, item_text, item_texts, space_before}
use Rattle.draw_values.specs.Runs.{items_of}
use Rattle.draw_values.proofs.ItemLemmas.{texts-same}
use Rattle.draw_values.proofs.items.put_some_items.Goals as goal
use Rattle.draw_values.proofs.items.put_some_items.Goals.{After-is_spaced}

-- what is put for the draw at a place is the item that it chooses
item_is : (c : After-is_spaced) (k : ℕ) → k < length c.args.draws.now →
    space_before c.is_spaced.result (c.args.first + (0 + k)) ++ piece_text_at c.args.kept.now (get_or c.choose_items.new.draws (0 + k) 0) ≡ item_text c.args.leaf.now (draw c.args.seed) (c.args.first + k)
item_is c k within =
    let leaf = c.args.leaf.now in
    let from : 0 + k ≡ k = omega arith in
    let number : 2 + c.args.first + k ≡ 2 + (c.args.first + k) = omega arith in
    let drawn : get_or c.put_item_draws.new.draws k 0 ≡ draw c.args.seed (2 + (c.args.first + k)) = c.put_item_draws.ensures k within ∙ ap (draw c.args.seed) number in
    let place : get_or c.choose_items.new.draws k 0 ≡ item_place leaf (draw c.args.seed (2 + (c.args.first + k))) =
    c.choose_items.ensures.places k (omega (arith, c.put_item_draws.auto.draws)) ∙ ap (item_place leaf) drawn in
    ap (λ (i : ℕ). space_before c.is_spaced.result (c.args.first + i) ++ piece_text_at c.args.kept.now (get_or c.choose_items.new.draws i 0)) from
    ∙ ap (λ (spaced : Bool). space_before spaced (c.args.first + k) ++ piece_text_at c.args.kept.now (get_or c.choose_items.new.draws k 0)) c.is_spaced.ensures
    ∙ ap (λ (texts : List (List ℕ)). space_before (is_spaced leaf) (c.args.first + k) ++ get_or texts (get_or c.choose_items.new.draws k 0) []) c.requires.kept
    ∙ ap (λ (p : ℕ). space_before (is_spaced leaf) (c.args.first + k) ++ get_or (items_of leaf) p []) place

texts_are : (c : After-is_spaced) →
    flat_map (λ (i : ℕ). space_before c.is_spaced.result (c.args.first + i) ++ piece_text_at c.args.kept.now (get_or c.choose_items.new.draws i 0)) (range_with_len 0 (length c.choose_items.new.draws))
    ≡ item_texts c.args.leaf.now (draw c.args.seed) c.args.first (length c.args.draws.now)
texts_are c =
    let put : ℕ → List ℕ = λ (i : ℕ). space_before c.is_spaced.result (c.args.first + i) ++ piece_text_at c.args.kept.now (get_or c.choose_items.new.draws i 0) in
    let many : length c.choose_items.new.draws ≡ length c.args.draws.now = omega (arith, c.put_item_draws.auto.draws, c.choose_items.auto.draws) in
    ap (λ (n : ℕ). flat_map put (range_with_len 0 n)) many
    ∙ texts-same put (item_text c.args.leaf.now (draw c.args.seed)) 0 c.args.first (length c.args.draws.now) (item_is c)

pub put_pieces-requires-clause-room : goal.put_pieces-requires-clause-room
put_pieces-requires-clause-room c =
    omega (arith, c.requires.room, ap (length {A = ℕ}) (texts_are (goal.at.put_pieces-requires-clause-room c).After-is_spaced))

pub returns : goal.returns
returns c =
    c.put_pieces.ensures
    ∙ ap (λ (text : List ℕ). record { text = c.args.page.now.text ++ text; room = c.args.page.now.room }) (texts_are (goal.at.returns c).After-is_spaced)
