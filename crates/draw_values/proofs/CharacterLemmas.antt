-- Texts that draws choose, one after the other.
use Rattle.std.proofs.Common.{◌≡◌, ◌<◌, ◌≤◌, ℕ, ◌+◌, ◌%◌, List, [], ◌∷◌, ◌++◌, map, length, append-nil, encode_utf8, refl, ap, sym, ◌∙◌, arith}
use Rattle.std.specs.Prelude.{slice_index, slice_index_or}
use Rattle.std.specs.List.{flat_map, join_with_byte, range_with_len}
use Rattle.std.proofs.Math.ListN as N
use Rattle.std.proofs.lemmas.List.{get_or-map, length-map}
use Rattle.std.proofs.lemmas.List.Concat.{flat_map-append}
use Rattle.std.proofs.lemmas.List.Folds.{flat_map-map}
use Rattle.std.proofs.lemmas.List.FromFn.{map-range_with_len_more}
use Rattle.dictionaries.specs.WordList.{WordList}
use Rattle.row_text.specs.Fields.{escaped, escaped_text}
use Rattle.schema_plan.specs.ReadyWords.{written_words}
use Rattle.schema_facts.proofs.Lists.{map-map}
use Rattle.draw_values.specs.ReadyValues.{chosen_texts}
use Rattle.draw_values.specs.Values.{Draws, chosen_group, drawn_characters, drawn_words}
use std.Path.{fun_ext}

-- one text more
pub chosen_texts-more : (texts : List (List ℕ)) (draw : Draws) (n : ℕ) →
    chosen_texts texts draw (n + 1) ≡ chosen_texts texts draw n ++ slice_index_or texts (draw (2 + n) % length texts) []
chosen_texts-more texts draw n =
    let chosen : ℕ → List ℕ = λ (k : ℕ). slice_index_or texts (draw (2 + k) % length texts) [] in
    let joined : List (List ℕ) → List ℕ = flat_map (λ (text : List ℕ). text) in
    sym (flat_map-map (λ (text : List ℕ). text) chosen (range_with_len 0 (n + 1)))
    ∙ ap joined (map-range_with_len_more chosen 0 n n (omega arith))
    ∙ flat_map-append (λ (text : List ℕ). text) (map chosen (range_with_len 0 n)) (chosen n ∷ [])
    ∙ ap (λ (front : List ℕ). front ++ (chosen n ++ [])) (flat_map-map (λ (text : List ℕ). text) chosen (range_with_len 0 n))
    ∙ ap (λ (last : List ℕ). chosen_texts texts draw n ++ last) (append-nil (chosen n))

-- a text of pieces is written piece by piece
pub escaped_text-flat_map : {X : Type 0} (delimiter : ℕ) (piece : X → List ℕ) (xs : List X) → escaped_text delimiter (flat_map piece xs) ≡ flat_map (λ x. escaped_text delimiter (piece x)) xs
escaped_text-flat_map delimiter piece [] = refl
escaped_text-flat_map delimiter piece (x ∷ xs) =
    flat_map-append (escaped delimiter) (piece x) (flat_map piece xs)
    ∙ ap (λ (rest : List ℕ). escaped_text delimiter (piece x) ++ rest) (escaped_text-flat_map delimiter piece xs)

-- a character as it is written is the one at its place among those that are kept
written_character : (delimiter : ℕ) (alphabet : List ℕ) (drawn : ℕ) → 1 ≤ length alphabet →
    escaped_text delimiter (encode_utf8 (slice_index alphabet (drawn % length alphabet)))
    ≡ slice_index_or (map (λ c. escaped_text delimiter (encode_utf8 c)) alphabet) (drawn % length (map (λ c. escaped_text delimiter (encode_utf8 c)) alphabet)) []
written_character delimiter alphabet drawn some =
    let text_of : ℕ → List ℕ = λ (c : ℕ). escaped_text delimiter (encode_utf8 c) in
    let within : drawn % length alphabet < length alphabet = omega arith in
    sym (get_or-map text_of alphabet (drawn % length alphabet) 0 [] within)
    ∙ ap (λ (many : ℕ). slice_index_or (map text_of alphabet) (drawn % many) []) (sym (length-map alphabet text_of))

-- characters that draws choose
pub escaped_text-drawn_characters : (delimiter : ℕ) (alphabet : List ℕ) (draw : Draws) (count : ℕ) → 1 ≤ length alphabet →
    escaped_text delimiter (drawn_characters alphabet draw count) ≡ chosen_texts (map (λ c. escaped_text delimiter (encode_utf8 c)) alphabet) draw count
escaped_text-drawn_characters delimiter alphabet draw count some =
    escaped_text-flat_map delimiter (λ k. encode_utf8 (slice_index alphabet (draw (2 + k) % length alphabet))) (range_with_len 0 count)
    ∙ ap (λ (text_of : ℕ → List ℕ). flat_map text_of (range_with_len 0 count)) (fun_ext (λ (k : ℕ). written_character delimiter alphabet (draw (2 + k)) some))

-- a space isn't escaped
written_space : (delimiter : ℕ) → escaped delimiter 32 ≡ 32 ∷ []
unfolding escaped
written_space delimiter = refl

-- pieces that are joined by a space are written piece by piece, with the space between them
escaped_text-joined : (delimiter : ℕ) (pieces : List (List ℕ)) → escaped_text delimiter (join_with_byte 32 pieces) ≡ join_with_byte 32 (map (escaped_text delimiter) pieces)
escaped_text-joined delimiter [] = refl
escaped_text-joined delimiter (piece ∷ []) = refl
escaped_text-joined delimiter (piece ∷ next ∷ pieces) =
    flat_map-append (escaped delimiter) piece (32 ∷ join_with_byte 32 (next ∷ pieces))
    ∙ ap (λ (space : List ℕ). escaped_text delimiter piece ++ (space ++ escaped_text delimiter (join_with_byte 32 (next ∷ pieces)))) (written_space delimiter)
    ∙ ap (λ (rest : List ℕ). escaped_text delimiter piece ++ (32 ∷ rest)) (escaped_text-joined delimiter (next ∷ pieces))

-- words that draws choose
pub escaped_text-drawn_words : (delimiter : ℕ) (words : WordList) (draw : Draws) (count : ℕ) →
    escaped_text delimiter (drawn_words words draw count) ≡ drawn_words (written_words delimiter words) draw count
escaped_text-drawn_words delimiter words draw count =
    let group : ℕ → ℕ = λ (k : ℕ). chosen_group words.weights (draw (2 + k)) in
    let word : ℕ → List ℕ = λ (k : ℕ). slice_index_or words.entries (group k) [] in
    let written : ℕ → List ℕ = λ (k : ℕ). slice_index_or (map (escaped_text delimiter) words.entries) (group k) [] in
    escaped_text-joined delimiter (map word (range_with_len 0 count))
    ∙ ap (join_with_byte 32)
    (map-map (escaped_text delimiter) word (range_with_len 0 count)
    ∙ ap (λ (text_of : ℕ → List ℕ). map text_of (range_with_len 0 count)) (fun_ext (λ (k : ℕ). sym (N.get_or-map (escaped_text delimiter) words.entries (group k) []))))
