use Rattle.std.proofs.Common.{◌≡◌, ◌≤◌, ℕ, zero, suc, ◌+◌, ◌==◌, min, if◌then◌else◌, ◌++◌, ◌∷◌, List, [], ap, length, length-append, refl, ◌∙◌, arith}
use Rattle.std.specs.Prelude.{slice_index_or}
use Rattle.std.proofs.lemmas.Bool.Decides.{nat_tests}
use Rattle.philox_seeds.specs.SeedTree.{draw}
use Rattle.line_pages.specs.Pages.{Page}
use Rattle.draw_values.specs.Values.{chosen_group, drawn_words}
use Rattle.draw_values.proofs.JoinLemmas.{join_with_byte-range_more}
use Rattle.draw_values.proofs.words.put_words.Goals as goal

-- the space before a word
between_size : (k : ℕ) → length {A = ℕ} (if k == 0 then [] else 32 ∷ []) ≤ min k 1
between_size zero = omega arith
between_size (suc k) =
    let space : List ℕ = 32 ∷ [] in
    let later : (if suc k == 0 then [] else space) ≡ space = grind (arith, nat_tests) in
    omega (arith, ap (length {A = ℕ}) later)

pub loop-k-preserved : goal.loop-k-preserved
loop-k-preserved c =
    let words = c.args.words.now in
    let k : ℕ = c.loop-k.k in
    let word : ℕ → List ℕ = λ (n : ℕ). slice_index_or words.entries (chosen_group words.weights (draw c.args.seed (2 + n))) [] in
    let so_far : List ℕ = drawn_words words (draw c.args.seed) k in
    let between : List ℕ = if k == 0 then [] else 32 ∷ [] in
    let drawn : slice_index_or words.entries (chosen_group words.weights c.draw.result) [] ≡ word k =
    ap (λ (n : ℕ). slice_index_or words.entries (chosen_group words.weights n) []) c.draw.ensures.number in
    let more : (so_far ++ between) ++ word k ≡ drawn_words words (draw c.args.seed) (k + 1) = join_with_byte-range_more 32 word k [] so_far refl in
    record {
      text = ap (λ (page : Page). page.text) c.put_word.ensures.text
          ∙ ap (λ (text : List ℕ). c.put_space.new.buf.text ++ text) drawn
          ∙ ap (λ (page : Page). page.text ++ word k) c.put_space.ensures
          ∙ join_with_byte-range_more 32 word k c.args.buf.now.text c.loop-k.buf.text c.loop-k.invariant.text;
      room = ap (λ (page : Page). page.room) c.put_word.ensures.text ∙ ap (λ (page : Page). page.room) c.put_space.ensures ∙ c.loop-k.invariant.room;
      size = omega (arith, ap (length {A = ℕ}) more, length-append (so_far ++ between) (word k), length-append so_far between, between_size k, ap (length {A = ℕ}) drawn, c.put_word.ensures.size, c.loop-k.invariant.size);
    }
