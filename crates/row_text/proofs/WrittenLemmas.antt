-- Texts one after the other in one buffer.
use Rattle.std.proofs.Common.{◌≡◌, ℕ, zero, suc, ◌+◌, ◌-◌, ◌<◌, ◌≤◌, List, [], ◌∷◌, ◌++◌, length, map, get_or, take, drop, slice_get, Some, refl, sym, ap, ◌∙◌, arith, inl, inr}
use Rattle.std.specs.List.{range_with_len, slice_range}
use Rattle.std.proofs.lemmas.Bool.{cases_lt}
use Rattle.std.proofs.lemmas.List.{drop-append-le, take-append-le, length-drop, get_or_append_left, get_or_push, length_push, drop_at, take_all}
use Rattle.std.proofs.lemmas.List.FromFn.{fill_by_all, get_or-map-range_with_len, length-map-range_with_len}
use Rattle.std.proofs.lemmas.Option.{slice_get-get_or}
use Rattle.row_text.specs.WrittenTexts.{AreEnds, start_of, written_text_at, texts_in}

pub length-texts_in : (bytes ends : List ℕ) → length (texts_in bytes ends) ≡ length ends
unfolding texts_in
length-texts_in bytes ends = length-map-range_with_len (written_text_at bytes ends) 0 (length ends)

-- a place of the texts is one of the ends
pub place_within : (bytes ends : List ℕ) (texts : List (List ℕ)) (i : ℕ) → texts_in bytes ends ≡ texts → i < length texts → i < length ends
place_within bytes ends texts i are within = omega (arith, length-texts_in bytes ends, ap length are)

pub slice_get-texts_in : (bytes ends : List ℕ) (i : ℕ) → i < length ends → slice_get (texts_in bytes ends) i ≡ Some (written_text_at bytes ends i)
unfolding texts_in
slice_get-texts_in bytes ends i within =
    let size = length-map-range_with_len (written_text_at bytes ends) 0 (length ends) in
    slice_get-get_or (map (written_text_at bytes ends) (range_with_len 0 (length ends))) i [] (omega arith)
    ∙ ap Some (get_or-map-range_with_len (written_text_at bytes ends) 0 (length ends) i i [] within (omega arith))

pub texts_in-none : (bytes : List ℕ) → texts_in bytes [] ≡ []
unfolding texts_in
texts_in-none bytes = refl

-- one end more leaves the starts and ends of the texts before it
start_of-push : (ends : List ℕ) (end i : ℕ) → i ≤ length ends → start_of (ends ++ end ∷ []) i ≡ start_of ends i
start_of-push ends end zero within = refl
start_of-push ends end (suc i) within = get_or_append_left ends (end ∷ []) 0 i (omega arith)

-- a part of some bytes is that part of the bytes with more after them
slice_range-append : (bytes more : List ℕ) (start end : ℕ) → start ≤ end → end ≤ length bytes → slice_range (bytes ++ more) start end ≡ slice_range bytes start end
slice_range-append bytes more start end order within =
    let before : start ≤ length bytes = omega arith in
    let left : end - start ≤ length (drop start bytes) = omega (arith, length-drop start bytes) in
    ap (take (end - start)) (drop-append-le start bytes more before) ∙ take-append-le (end - start) (drop start bytes) more left

-- the part after some bytes
slice_range-behind : (bytes more : List ℕ) (end : ℕ) → end ≡ length bytes + length more → slice_range (bytes ++ more) (length bytes) end ≡ more
slice_range-behind bytes more end is =
    let all : length more ≤ end - length bytes = omega arith in
    ap (take (end - length bytes)) (drop_at bytes more (length bytes) refl) ∙ take_all (end - length bytes) more all

-- a text more leaves those before it
written_text_at-push : (bytes ends text : List ℕ) (end i : ℕ) → AreEnds bytes ends → i < length ends → written_text_at (bytes ++ text) (ends ++ end ∷ []) i ≡ written_text_at bytes ends i
written_text_at-push bytes ends text end i are within =
    ap (λ (start : ℕ). slice_range (bytes ++ text) start (get_or (ends ++ end ∷ []) i 0)) (start_of-push ends end i (omega arith))
    ∙ ap (slice_range (bytes ++ text) (start_of ends i)) (get_or_append_left ends (end ∷ []) 0 i within)
    ∙ slice_range-append bytes text (start_of ends i) (get_or ends i 0) (are.order i within) (are.within i within)

-- the text itself
written_text_at-pushed : (bytes ends text : List ℕ) (end i : ℕ) → AreEnds bytes ends → i ≡ length ends → end ≡ length bytes + length text → written_text_at (bytes ++ text) (ends ++ end ∷ []) i ≡ text
written_text_at-pushed bytes ends text end i are is end_is =
    ap (written_text_at (bytes ++ text) (ends ++ end ∷ [])) is
    ∙ ap (λ (start : ℕ). slice_range (bytes ++ text) start (get_or (ends ++ end ∷ []) (length ends) 0)) (start_of-push ends end (length ends) (omega arith) ∙ are.last)
    ∙ ap (slice_range (bytes ++ text) (length bytes)) (get_or_push ends end 0 (length ends) refl)
    ∙ slice_range-behind bytes text end end_is

pub texts_in-push : (bytes ends text : List ℕ) (end : ℕ) → AreEnds bytes ends → end ≡ length bytes + length text → texts_in (bytes ++ text) (ends ++ end ∷ []) ≡ texts_in bytes ends ++ text ∷ []
unfolding texts_in
texts_in-push bytes ends text end are end_is =
    let before : List (List ℕ) = texts_in bytes ends in
    let many : length before ≡ length ends = length-texts_in bytes ends in
    let more : length (ends ++ end ∷ []) ≡ length ends + 1 = length_push ends end in
    let all : length (before ++ text ∷ []) ≡ length (ends ++ end ∷ []) = omega (arith, length_push before text) in
    sym (fill_by_all (written_text_at (bytes ++ text) (ends ++ end ∷ [])) (before ++ text ∷ []) (length (ends ++ end ∷ [])) [] all
    (λ k within. elim (cases_lt k (length ends)) [
      | inl early ↦
          let known : k < length before = omega arith in
          get_or_append_left before (text ∷ []) [] k known
          ∙ get_or-map-range_with_len (written_text_at bytes ends) 0 (length ends) k k [] early (omega arith)
          ∙ sym (written_text_at-push bytes ends text end k are early)
      | inr late ↦
          let last : k ≡ length ends = omega arith in
          get_or_push before text [] k (omega arith)
          ∙ sym (written_text_at-pushed bytes ends text end k are last end_is)
    ]))
