use Rattle.std.proofs.Common.{◌≡◌, ℕ, ◌+◌, ◌%◌, ◌++◌, List, [], append_assoc, ap, length, length-append, sym, ◌∙◌, arith}
use Rattle.std.specs.Prelude.{slice_index_or}
use Rattle.philox_seeds.specs.SeedTree.{draw}
use Rattle.line_pages.specs.Pages.{Page}
use Rattle.draw_values.specs.ReadyValues.{chosen_texts}
use Rattle.draw_values.proofs.CharacterLemmas.{chosen_texts-more}
use Rattle.draw_values.proofs.characters.put_characters.Goals as goal

pub loop-k-preserved : goal.loop-k-preserved
loop-k-preserved c =
    let texts : List (List ℕ) = c.args.characters.now in
    let so_far : List ℕ = chosen_texts texts (draw c.args.seed) c.loop-k.k in
    let last : List ℕ = slice_index_or texts (draw c.args.seed (2 + c.loop-k.k) % length texts) [] in
    let is : slice_index_or texts c.remainder-character.result [] ≡ last =
    ap (λ (place : ℕ). slice_index_or texts place []) (c.remainder-character.ensures.exact ∙ ap (λ (drawn : ℕ). drawn % c.args.count.now) c.draw.ensures.number ∙ ap (λ (count : ℕ). draw c.args.seed (2 + c.loop-k.k) % count) c.requires.count) in
    let more = chosen_texts-more texts (draw c.args.seed) c.loop-k.k in
    record {
      text = ap (λ (page : Page). page.text) c.put_entry.ensures.text
          ∙ ap (λ (text : List ℕ). text ++ slice_index_or texts c.remainder-character.result []) c.loop-k.invariant.text
          ∙ append_assoc c.args.buf.now.text so_far (slice_index_or texts c.remainder-character.result [])
          ∙ ap (λ (text : List ℕ). c.args.buf.now.text ++ (so_far ++ text)) is
          ∙ ap (λ (text : List ℕ). c.args.buf.now.text ++ text) (sym more);
      room = ap (λ (page : Page). page.room) c.put_entry.ensures.text ∙ c.loop-k.invariant.room;
      size = omega (arith, ap length more, length-append so_far last, ap length is, c.put_entry.ensures.size, c.loop-k.invariant.size);
    }
