-- Values of several items, some items after the other.
use Rattle.std.proofs.Common.{◌≡◌, ◌<◌, ◌≤◌, ℕ, zero, suc, ◌+◌, ◌-◌, ◌*◌, ◌%◌, ◌==◌, true, false, List, [], ◌∷◌, ◌++◌, if◌then◌else◌, get_or, length, append_assoc, length-append, refl, ap, subst, sym, ◌∙◌, arith}
use Rattle.std.specs.List.{flat_map, range_with_len}
use Rattle.std.proofs.lemmas.List.Concat.{flat_map-append}
use Rattle.std.proofs.Math.Nat.{mul-le-mul_right}
use Rattle.dictionaries.specs.WordList.{WordList}
use Rattle.line_pages.proofs.RowLemmas.{length-texts-next, texts-next}
use Rattle.schema_plan.specs.declared.ready.ReadyLeaf.{ReadyLeaf}
use Rattle.schema_plan.specs.declared.ready.ReadyLeaf.TheVariants as leaf
use Rattle.schema_facts.specs.FieldSizes.{greatest_by, joined_size}
use Rattle.draw_values.specs.Items.{item_count, item_place, item_text, item_texts, space_before}
use Rattle.draw_values.specs.ReadyValues.{ready_size, ready_text}
use Rattle.draw_values.specs.Runs.{is_itemized_leaf}
use Rattle.draw_values.specs.Values.{Draws, chosen_group, drawn_words}
use Rattle.draw_values.proofs.JoinLemmas.{join_with_byte-range_more}
use Rattle.draw_values.proofs.RunLemmas.{entry_size}

-- ---- ranges

range-add : (a m n : ℕ) → range_with_len a (m + n) ≡ range_with_len a m ++ range_with_len (a + m) n
range-add a zero n =
    let front : 0 + n ≡ n = omega arith in
    let start : a + 0 ≡ a = omega arith in
    rw (front, start) refl
range-add a (suc m) n =
    let front : suc m + n ≡ suc (m + n) = omega arith in
    let start : a + suc m ≡ (a + 1) + m = omega arith in
    rw (front, start) (ap (λ (xs : List ℕ). a ∷ xs) (range-add (a + 1) m n))

-- some texts, and then some more
pub texts-add : (f : ℕ → List ℕ) (m n : ℕ) → flat_map f (range_with_len 0 (m + n)) ≡ flat_map f (range_with_len 0 m) ++ flat_map f (range_with_len m n)
texts-add f m n =
    let start : 0 + m ≡ m = omega arith in
    ap (flat_map f) (range-add 0 m n)
    ∙ flat_map-append f (range_with_len 0 m) (range_with_len (0 + m) n)
    ∙ ap (λ (a : ℕ). flat_map f (range_with_len 0 m) ++ flat_map f (range_with_len a n)) start

-- the texts of two ranges that are the same one by one
pub texts-same : (f g : ℕ → List ℕ) (a b n : ℕ) → ((k : ℕ) → k < n → f (a + k) ≡ g (b + k)) → flat_map f (range_with_len a n) ≡ flat_map g (range_with_len b n)
texts-same f g a b zero same = refl
texts-same f g a b (suc n) same =
    let here_a : a + 0 ≡ a = omega arith in
    let here_b : b + 0 ≡ b = omega arith in
    let head : f a ≡ g b = ap f (sym here_a) ∙ same 0 (omega arith) ∙ ap g here_b in
    let rest : flat_map f (range_with_len (a + 1) n) ≡ flat_map g (range_with_len (b + 1) n) =
    texts-same f g (a + 1) (b + 1) n (λ k below.
    let next_a : (a + 1) + k ≡ a + (k + 1) = omega arith in
    let next_b : (b + 1) + k ≡ b + (k + 1) = omega arith in
    ap f next_a ∙ same (k + 1) (omega arith) ∙ ap g (sym next_b)) in
    cc

-- ---- the text of a value

words_text : (lo lengths : ℕ) (words : WordList) (draw : Draws) (n : ℕ) → drawn_words words draw n ≡ item_texts (leaf.Words lo lengths words) draw 0 n
words_text lo lengths words draw zero = refl
words_text lo lengths words draw (suc n) =
    let word : ℕ → List ℕ = λ (k : ℕ). get_or words.entries (chosen_group words.weights (draw (2 + k))) [] in
    let item : ℕ → List ℕ = item_text (leaf.Words lo lengths words) draw in
    let next : n + 1 ≡ suc n = omega arith in
    subst (λ (m : ℕ). drawn_words words draw m ≡ item_texts (leaf.Words lo lengths words) draw 0 m) next
    (sym (join_with_byte-range_more 32 word n [] (drawn_words words draw n) refl)
    ∙ append_assoc (drawn_words words draw n) (space_before true n) (word n)
    ∙ ap (λ (front : List ℕ). front ++ item n) (words_text lo lengths words draw n)
    ∙ texts-next item n [] (flat_map item (range_with_len 0 n)) (item n) refl refl)

pub ready_text-items : (drawn : ReadyLeaf) (draw : Draws) → is_itemized_leaf drawn ≡ true → ready_text drawn draw ≡ item_texts drawn draw 0 (item_count drawn (draw 1))
ready_text-items (leaf.Int lo hi step count) draw itemized = absurd (cc)
ready_text-items (leaf.Fixed lo hi count decimals unit) draw itemized = absurd (cc)
ready_text-items (leaf.Date lo hi count) draw itemized = absurd (cc)
ready_text-items (leaf.Pick entries weights total) draw itemized = absurd (cc)
ready_text-items (leaf.Skew lo weights total) draw itemized = absurd (cc)
ready_text-items (leaf.Chars lo lengths characters count) draw itemized = refl
ready_text-items (leaf.Dict words) draw itemized = absurd (cc)
ready_text-items (leaf.Words lo lengths words) draw itemized = words_text lo lengths words draw (lo + draw 1 % lengths)
ready_text-items leaf.Uuid draw itemized = absurd (cc)

-- ---- sizes

space_size : (place : ℕ) → length (space_before true place) ≤ 1
space_size zero = omega arith
space_size (suc place) =
    elim (suc place == 0) as (λ test. length {A = ℕ} (if test then [] else 32 ∷ []) ≤ 1) [ true ↦ omega arith | false ↦ omega arith ]

characters_size : (lo lengths : ℕ) (characters : List (List ℕ)) (count : ℕ) (draw : Draws) (n : ℕ) →
    length (item_texts (leaf.Chars lo lengths characters count) draw 0 n) ≤ n * greatest_by (length {A = ℕ}) characters
characters_size lo lengths characters count draw zero = omega arith
characters_size lo lengths characters count draw (suc n) =
    let item : ℕ → List ℕ = item_text (leaf.Chars lo lengths characters count) draw in
    let next : n + 1 ≡ suc n = omega arith in
    let most : ℕ = greatest_by (length {A = ℕ}) characters in
    let more : length (flat_map item (range_with_len 0 (suc n))) ≡ length (flat_map item (range_with_len 0 n)) + length (item n) = rw next at (length-texts-next item n) in
    let times : suc n * most ≡ n * most + most = omega arith in
    omega (arith, more, times, characters_size lo lengths characters count draw n, entry_size 0 characters (item_place (leaf.Chars lo lengths characters count) (draw (2 + n))))

words_size : (lo lengths : ℕ) (words : WordList) (draw : Draws) (n : ℕ) → length (item_texts (leaf.Words lo lengths words) draw 0 n) ≤ joined_size n (greatest_by (length {A = ℕ}) words.entries)
words_size lo lengths words draw zero = omega arith
words_size lo lengths words draw (suc zero) =
    let item : ℕ → List ℕ = item_text (leaf.Words lo lengths words) draw in
    omega (arith, length-texts-next item 0, entry_size 0 words.entries (item_place (leaf.Words lo lengths words) (draw 2)))
words_size lo lengths words draw (suc (suc n)) =
    let item : ℕ → List ℕ = item_text (leaf.Words lo lengths words) draw in
    let place : ℕ = item_place (leaf.Words lo lengths words) (draw (2 + suc n)) in
    let next : suc n + 1 ≡ suc (suc n) = omega arith in
    let most : ℕ = greatest_by (length {A = ℕ}) words.entries in
    let more : length (flat_map item (range_with_len 0 (suc (suc n)))) ≡ length (flat_map item (range_with_len 0 (suc n))) + length (item (suc n)) = rw next at (length-texts-next item (suc n)) in
    let times : suc (suc n) * most ≡ suc n * most + most = omega arith in
    omega (arith, more, times, words_size lo lengths words draw (suc n), length-append (space_before true (suc n)) (get_or words.entries place []), space_size (suc n), entry_size 0 words.entries place)

-- no more items than there may be fit
pub characters_fit : (lo lengths : ℕ) (characters : List (List ℕ)) (count : ℕ) (draw : Draws) (n most : ℕ) → most ≡ lengths → n ≤ lo + most - 1 →
    length (item_texts (leaf.Chars lo lengths characters count) draw 0 n) ≤ ready_size (leaf.Chars lo lengths characters count)
characters_fit lo lengths characters count draw n most is few =
    omega (arith, characters_size lo lengths characters count draw n, mul-le-mul_right (greatest_by (length {A = ℕ}) characters) (let under : n ≤ lo + lengths - 1 = omega arith in under))

pub words_fit : (lo lengths : ℕ) (words : WordList) (draw : Draws) (n most : ℕ) → most ≡ lengths → n ≤ lo + most - 1 →
    length (item_texts (leaf.Words lo lengths words) draw 0 n) ≤ ready_size (leaf.Words lo lengths words)
words_fit lo lengths words draw n most is few =
    omega (arith, words_size lo lengths words draw n, mul-le-mul_right (greatest_by (length {A = ℕ}) words.entries) (let under : n ≤ lo + lengths - 1 = omega arith in under))
