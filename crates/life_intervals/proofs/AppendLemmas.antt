-- Lists with rows after them.
use Rattle.std.proofs.Common.{◌≡◌, ℕ, ◌+◌, ◌-◌, ◌*◌, ◌<◌, ◌≤◌, drop, take, List, [], ◌∷◌, ◌++◌, inl, inr, length, map, ◌⊎◌, ap, ap₂, arith, subst, sym, ◌∙◌}
use Rattle.std.specs.Prelude.{All, Contains}
use Rattle.std.specs.List.{range_with_len}
use Rattle.std.proofs.Math.Seq.{drop-append_seam, take-append_seam}
use Rattle.std.specs.List.Sorted.{IsPermutation}
use Rattle.std.proofs.lemmas.Bool.{cases_lt}
use Rattle.std.proofs.lemmas.List.{append-nil, append_assoc, length-append, length-drop, length-map, take-append-le, take_rest}
use Rattle.std.proofs.lemmas.Slice.{take-put_mid}
use borrow.Rule.Slice.PartMut.{put_mid}
use Rattle.life_intervals.proofs.RunLemmas.{length-put_mid}
use Rattle.std.proofs.lemmas.List.Elements.{Contains-append_cases, Contains-append_left, Contains-append_right}
use Rattle.std.proofs.lemmas.List.Sorted.{Contains-permutation, IsPermutation-append, IsPermutation-refl, IsPermutation-sym, length_permutation}
use Rattle.life_intervals.specs.FoundAt.{AreAppended, GoesOn}
use Rattle.life_intervals.proofs.Ranges.{range_with_len-add}

-- one number more after a list and a range
pub push-range : (xs : List ℕ) (first i : ℕ) → (xs ++ range_with_len first i) ++ (first + i) ∷ [] ≡ xs ++ range_with_len first (i + 1)
push-range xs first i =
    append_assoc xs (range_with_len first i) ((first + i) ∷ []) ∙ ap (λ (ys : List ℕ). xs ++ ys) (sym (range_with_len-add first i 1))

-- ---- rows after a list

pub AreAppended-none : (rows before : List ℕ) → [] ≡ rows → AreAppended rows before before
AreAppended-none rows before none = record {
  behind = [];
  is = sym (append-nil before);
  same = subst (λ (xs : List ℕ). IsPermutation xs []) none (IsPermutation-refl []);
}

-- a list that stays, and what goes on with it
pub GoesOn-same : (before after : List ℕ) → after ≡ before → GoesOn before after
GoesOn-same before after same = record { behind = []; is = same ∙ sym (append-nil before) }

pub GoesOn-more : (before between after : List ℕ) → GoesOn before between → GoesOn between after → GoesOn before after
GoesOn-more before between after first then = record {
  behind = first.behind ++ then.behind;
  is = then.is ∙ ap (λ (zs : List ℕ). zs ++ then.behind) first.is ∙ append_assoc before first.behind then.behind;
}

pub GoesOn-appended : (rows before after : List ℕ) → AreAppended rows before after → GoesOn before after
GoesOn-appended rows before after are = record { behind = are.behind; is = are.is }

-- first some, and then others
pub AreAppended-more : (xs ys before between after : List ℕ) → AreAppended xs before between → AreAppended ys between after → AreAppended (xs ++ ys) before after
AreAppended-more xs ys before between after first then = record {
  behind = first.behind ++ then.behind;
  is = then.is ∙ ap (λ (zs : List ℕ). zs ++ then.behind) first.is ∙ append_assoc before first.behind then.behind;
  same = IsPermutation-append xs first.behind ys then.behind first.same then.same;
}

pub length-appended : (rows before after : List ℕ) → AreAppended rows before after → length after ≡ length before + length rows
length-appended rows before after are =
    omega (arith, ap length are.is, length-append before are.behind, length_permutation rows are.behind are.same)

-- what stands there is what stood there, and the rows
pub Contains-before : (rows before after : List ℕ) (x : ℕ) → AreAppended rows before after → Contains before x → Contains after x
Contains-before rows before after x are there = subst (λ (xs : List ℕ). Contains xs x) (sym are.is) (Contains-append_left before are.behind x there)

pub Contains-appended : (rows before after : List ℕ) (x : ℕ) → AreAppended rows before after → Contains rows x → Contains after x
Contains-appended rows before after x are there =
    subst (λ (xs : List ℕ). Contains xs x) (sym are.is) (Contains-append_right before are.behind x (Contains-permutation rows are.behind x are.same there))

pub Contains-from_appended : (rows before after : List ℕ) (x : ℕ) → AreAppended rows before after → Contains after x → Contains before x ⊎ Contains rows x
Contains-from_appended rows before after x are there =
    elim (Contains-append_cases before are.behind x (subst (λ (xs : List ℕ). Contains xs x) are.is there)) [
      | inl old ↦ inl old
      | inr new ↦ inr (Contains-permutation are.behind rows x (IsPermutation-sym rows are.behind are.same) new)
    ]

-- what numbers take that are below a size, each as much as one of a cohort that isn't empty
pub steps-below : (xs : List ℕ) (size cost each a b : ℕ) → All (λ x. x < size) xs → (0 < size → cost ≡ each) → a ≡ b + length xs * cost → a ≡ b + length xs * each
steps-below xs size cost each a b below same took = elim (cases_lt 0 (length xs)) [
  | inl some ↦
      let inside = below 0 0 some in
      took ∙ ap (λ (c : ℕ). b + length xs * c) (same (omega (arith, inside)))
  | inr none ↦
      let empty : length xs ≡ 0 = omega (arith, none) in
      took ∙ ap (λ (n : ℕ). b + n * cost) empty ∙ omega arith ∙ sym (ap (λ (n : ℕ). b + n * each) empty)
]

-- ---- what stands in a list from a place on

-- a list whose tail is put anew, as a vector holds it
pub tail-put : (xs items part : List ℕ) (from len : ℕ) → from ≤ length xs → len ≡ length xs → length part ≡ length xs - from →
    take len (put_mid from (length xs - from) xs part ++ drop (length (put_mid from (length xs - from) xs part)) items) ≡ take from xs ++ part
tail-put xs items part from len within len_is long =
    let whole : List ℕ = put_mid from (length xs - from) xs part in
    let same_length : length whole ≡ length xs = length-put_mid from (length xs - from) xs part (omega (arith, within)) long in
    take-append-le len whole (drop (length whole) items) (omega (arith, same_length, len_is))
    ∙ take-put_mid from (length xs - from) xs part len (omega (arith, len_is, long, within)) within

pub tail-map : (f : ℕ → ℕ) (xs items part : List ℕ) (from len : ℕ) → xs ≡ items → from ≤ length items → len ≡ length items → part ≡ map f (take (length xs - from) (drop from xs)) →
    take len (put_mid from (length xs - from) xs part ++ drop (length (put_mid from (length xs - from) xs part)) items) ≡ take from items ++ map f (drop from items)
tail-map f xs items part from len same within len_is is =
    let long : length xs ≡ length items = ap length same in
    let part_is : part ≡ map f (drop from xs) = is ∙ ap (map f) (take_rest xs from) in
    tail-put xs items part from len (omega (arith, long, within)) (omega (arith, long, len_is)) (omega (arith, ap length part_is, length-map (drop from xs) f, length-drop from xs))
    ∙ ap (λ (ys : List ℕ). take from xs ++ ys) part_is
    ∙ ap (λ (ys : List ℕ). take from ys ++ map f (drop from ys)) same

-- ---- rows put over places after a list

-- what stands after the list are the places
pub drop-behind : (before between places : List ℕ) (from : ℕ) → from ≡ length before → between ≡ before ++ places → drop from between ≡ places
drop-behind before between places from from_is is = ap (drop from) is ∙ ap (λ (n : ℕ). drop n (before ++ places)) from_is ∙ drop-append_seam before places

pub AreAppended-places : (f : ℕ → ℕ) (rows before between after places : List ℕ) (from : ℕ) → from ≡ length before → between ≡ before ++ places →
    after ≡ take from between ++ map f (drop from between) → IsPermutation rows (map f places) → AreAppended rows before after
AreAppended-places f rows before between after places from from_is is put same = record {
  behind = map f places;
  is =
      put
      ∙ ap₂ (λ (xs ys : List ℕ). xs ++ map f ys) (ap (take from) is ∙ ap (λ (n : ℕ). take n (before ++ places)) from_is ∙ take-append_seam before places)
      (drop-behind before between places from from_is is);
  same = same;
}

-- they take as many steps as there are rows
pub steps-places : (f : ℕ → ℕ) (rows before between places : List ℕ) (from each a b : ℕ) → from ≡ length before → between ≡ before ++ places → IsPermutation rows (map f places) →
    a ≡ b + length (drop from between) * each → a ≡ b + length rows * each
steps-places f rows before between places from each a b from_is is same took =
    took
    ∙ ap (λ (xs : List ℕ). b + length xs * each) (drop-behind before between places from from_is is)
    ∙ ap (λ (n : ℕ). b + n * each) (sym (length-map places f) ∙ length_permutation rows (map f places) same)
