-- Shares and packages of a list, whose texts one after the other are the list's.
use Rattle.std.proofs.Common.{◌≡◌, ◌<◌, ◌≤◌, ℕ, zero, suc, ◌+◌, ◌-◌, ◌*◌, ◌/◌, min, Bool, List, [], ◌∷◌, ◌++◌, map, length, take, get_or, inl, inr, ap, arith, refl, sym, length-append, append-nil, append_assoc, ◌∙◌}
use Rattle.std.specs.Prelude.{All, if◌then◌else◌}
use Rattle.std.specs.List.{flat_map, range_with_len, sum_by}
use Rattle.std.proofs.Math.Nat.{mul-div-le, mul-le-mul_left, mul-div_left}
use Rattle.std.proofs.lemmas.Bool.{cases_lt, le-ltb, lt-ltb}
use Rattle.std.proofs.lemmas.List.Elements.{All-head, All-tail}
use Rattle.std.proofs.lemmas.List.Sums.{sum_by-cons}
use Rattle.std.proofs.lemmas.Nat.{le-div, div-add-mod'}
use Rattle.pd_outside.specs.Files.{File}
use Rattle.range_workers.specs.Marks.{AreMarksOf, Mark, due_files, end_before, texts}
use Rattle.std.specs.List.Sorted.{IsNonDecreasingBy}
use Rattle.update_box.specs.Cuts.{cut_at, package_count, text_in}
use Rattle.update_box.specs.Packages.{marks_from}

-- ---- packages of so many entries

-- a package begins before the end of its share
pub package-begins : (n d s : ℕ) → 1 ≤ s → n < package_count s d → n * s < d
package-begins n d s some below =
    let whole : s * ((d + (s - 1)) / s) ≤ d + (s - 1) = mul-div-le (d + (s - 1)) s in
    let here : s * (n + 1) ≤ s * ((d + (s - 1)) / s) = mul-le-mul_left s (omega (arith, below)) in
    omega (arith, whole, here, some)

-- the last one ends with it
pub packages-reach : (d s : ℕ) → 1 ≤ s → d ≤ package_count s d * s
packages-reach d s some = omega (arith, div-add-mod' (d + (s - 1)) s, some)

-- no more packages than entries
pub package_count-least : (d s : ℕ) → 1 ≤ s → package_count s d ≤ d
package_count-least d s some = elim (cases_lt d (package_count s d)) [
  | inl more ↦ let past = package-begins d d s some more in let most : d * 1 ≤ d * s = mul-le-mul_left d some in absurd (omega (arith, past, most))
  | inr few ↦ few
]

-- ---- texts of ranges, which join where they meet

-- where the texts of two ranges, one after the other, are the text of both
pub record AreJoined (f : ℕ → ℕ → List ℕ) (top : ℕ) : Type 0 where
  pub join : (a b c : ℕ) → a ≤ b → b ≤ c → c ≤ top → f a b ++ f b c ≡ f a c

-- an empty range has none
pub none-joined : (f : ℕ → ℕ → List ℕ) (top a : ℕ) → AreJoined f top → a ≤ top → f a a ≡ []
none-joined f top a joined within =
    let twice : f a a ++ f a a ≡ f a a = joined.join a a a (omega arith) (omega arith) within in
    nothing (f a a) (omega (arith, ap (λ (xs : List ℕ). length xs) twice, length-append (f a a) (f a a)))
  where
    nothing : (xs : List ℕ) → length xs ≡ 0 → xs ≡ []
    nothing [] none = refl
    nothing (x ∷ xs) none = absurd (omega (arith, none))

-- one more number of a range
pub flat_map-next : (g : ℕ → List ℕ) (k : ℕ) → flat_map g (range_with_len 0 (suc k)) ≡ flat_map g (range_with_len 0 k) ++ g k
flat_map-next g k =
    let here : 0 + k ≡ k = omega arith in
    from 0 k ∙ ap (λ (n : ℕ). flat_map g (range_with_len 0 k) ++ g n) here
  where
    from : (a k : ℕ) → flat_map g (range_with_len a (suc k)) ≡ flat_map g (range_with_len a k) ++ g (a + k)
    from a zero =
        let here : a + 0 ≡ a = omega arith in
        append-nil (g a) ∙ ap g (sym here)
    from a (suc k) =
        let there : a + 1 + k ≡ a + suc k = omega arith in
        ap (λ (rest : List ℕ). g a ++ rest) (from (a + 1) k)
        ∙ sym (append_assoc (g a) (flat_map g (range_with_len (a + 1) k)) (g (a + 1 + k)))
        ∙ ap (λ (n : ℕ). (g a ++ flat_map g (range_with_len (a + 1) k)) ++ g n) there

-- texts that are the same number by number
pub flat_map-range_same : (g h : ℕ → List ℕ) (a count : ℕ) → ((k : ℕ) → k < a + count → g k ≡ h k) → flat_map g (range_with_len a count) ≡ flat_map h (range_with_len a count)
flat_map-range_same g h a zero same = refl
flat_map-range_same g h a (suc count) same =
    ap (λ (text : List ℕ). text ++ flat_map g (range_with_len (a + 1) count)) (same a (omega arith))
    ∙ ap (λ (text : List ℕ). h a ++ text) (flat_map-range_same g h (a + 1) count (λ k below. same k (omega (arith, below))))

-- cuts of a range, one after the other, each ending where the next begins
pub cuts-joined : (f : ℕ → ℕ → List ℕ) (top : ℕ) → AreJoined f top → (at : ℕ → ℕ) (count : ℕ) → ((k : ℕ) → k < count → at k ≤ at (suc k)) → ((k : ℕ) → k ≤ count → at k ≤ top) → (k : ℕ) → k ≤ count →
    (at 0 ≤ at k) × (flat_map (λ n. f (at n) (at (suc n))) (range_with_len 0 k) ≡ f (at 0) (at k))
cuts-joined f top joined at count rising below zero within = (omega arith, sym (none-joined f top (at 0) joined (below 0 (omega arith))))
cuts-joined f top joined at count rising below (suc k) within =
    let before = cuts-joined f top joined at count rising below k (omega (arith, within)) in
    let step : at k ≤ at (suc k) = rising k (omega (arith, within)) in (
      omega (arith, before.0, step),
      flat_map-next (λ (n : ℕ). f (at n) (at (suc n))) k
          ∙ ap (λ (text : List ℕ). text ++ f (at k) (at (suc k))) before.1
          ∙ joined.join (at 0) (at k) (at (suc k)) before.0 step (below (suc k) within),
    )

-- the packages of a range from a position up to another
pub packages-joined : (f : ℕ → ℕ → List ℕ) (top : ℕ) → AreJoined f top → (first end size : ℕ) → 1 ≤ size → first ≤ end → end ≤ top →
    flat_map (λ n. f (first + n * size) (min end (first + (n + 1) * size))) (range_with_len 0 (package_count size (end - first))) ≡ f first end
packages-joined f top joined first end size some ordered within =
    let count : ℕ = package_count size (end - first) in
    let at : ℕ → ℕ = λ n. min end (first + n * size) in
    let cuts = cuts-joined f top joined at count (λ k below. omega arith) (λ k few. omega (arith, within)) count (omega arith) in
    let begin : at 0 ≡ first = omega (arith, ordered) in
    let last : at count ≡ end = omega (arith, packages-reach (end - first) size some, ordered) in
    flat_map-range_same (λ n. f (first + n * size) (min end (first + (n + 1) * size))) (λ n. f (at n) (at (suc n))) 0 count
    (λ k below.
    let start : first + k * size ≡ at k = omega (arith, package-begins k (end - first) size some (omega (arith, below))) in
    let stop : min end (first + (k + 1) * size) ≡ at (suc k) = omega arith in
    ap (λ (a : ℕ). f a (min end (first + (k + 1) * size))) start ∙ ap (f (at k)) stop)
    ∙ cuts.1
    ∙ ap (λ (a : ℕ). f a (at count)) begin
    ∙ ap (f first) last

-- ---- shares of all entries

div-le-div : (a b m : ℕ) → 1 ≤ m → a ≤ b → a / m ≤ b / m
div-le-div a b m some less = le-div (a / m) b m (omega (arith, some)) (omega (arith, div-add-mod' a m, less))

pub cuts-rise : (count node nodes : ℕ) → 1 ≤ nodes → cut_at count node nodes ≤ cut_at count (suc node) nodes
cuts-rise count node nodes some = div-le-div (count * node) (count * suc node) nodes some (omega arith)

pub cut-within : (count node nodes : ℕ) → 1 ≤ nodes → node ≤ nodes → cut_at count node nodes ≤ count
cut-within count node nodes some few =
    let most : count * node ≤ count * nodes = mul-le-mul_left count few in
    let end : count * nodes / nodes ≡ count = mul-div_left count (omega (arith, some)) in
    omega (arith, div-le-div (count * node) (count * nodes) nodes some most, end)

pub shares-joined : (f : ℕ → ℕ → List ℕ) (count : ℕ) → AreJoined f count → (nodes : ℕ) → 1 ≤ nodes →
    flat_map (λ node. f (cut_at count node nodes) (cut_at count (node + 1) nodes)) (range_with_len 0 nodes) ≡ f 0 count
shares-joined f count joined nodes some =
    let at : ℕ → ℕ = λ node. cut_at count node nodes in
    let cuts = cuts-joined f count joined at nodes (λ k below. cuts-rise count k nodes some) (λ k few. cut-within count k nodes some few) nodes (omega arith) in
    let begin : at 0 ≡ 0 = omega (arith, mul-div-le 0 nodes) in
    let last : at nodes ≡ count = mul-div_left count (omega (arith, some)) in
    flat_map-range_same (λ node. f (at node) (at (node + 1))) (λ node. f (at node) (at (suc node))) 0 nodes
    (λ k below. let next : k + 1 ≡ suc k = omega arith in ap (λ (n : ℕ). f (at k) (at n)) next)
    ∙ cuts.1
    ∙ ap (λ (a : ℕ). f a (at nodes)) begin ∙ ap (f 0) last

-- ---- the packages of several items, one after the other

-- those of the first item, and those after it
text_in-first : {A : Type 0} (count : A → ℕ) (text : A → ℕ → List ℕ) (item : A) (items : List A) (n : ℕ) → n < count item → text_in count text (item ∷ items) n ≡ text item n
text_in-first count text item items n below = ap (λ (test : Bool). if test then text item n else text_in count text items (n - count item)) (lt-ltb n (count item) below)

text_in-rest : {A : Type 0} (count : A → ℕ) (text : A → ℕ → List ℕ) (item : A) (items : List A) (n : ℕ) → text_in count text (item ∷ items) (count item + n) ≡ text_in count text items n
text_in-rest count text item items n =
    let less : count item + n - count item ≡ n = omega arith in
    ap (λ (test : Bool). if test then text item (count item + n) else text_in count text items (count item + n - count item)) (le-ltb (count item + n) (count item) (omega arith))
    ∙ ap (text_in count text items) less

-- number k of an item is that number after those of the items before
pub text_in-at : {A : Type 0} (count : A → ℕ) (text : A → ℕ → List ℕ) (items : List A) (i k : ℕ) (d : A) → i < length items → k < count (get_or items i d) →
    text_in count text items (sum_by count (take i items) + k) ≡ text (get_or items i d) k
text_in-at count text [] i k d below inside = absurd (omega (arith, below))
text_in-at count text (item ∷ items) zero k d below inside =
    let start : 0 + k ≡ k = omega arith in
    ap (text_in count text (item ∷ items)) start ∙ text_in-first count text item items k inside
text_in-at count text (item ∷ items) (suc i) k d below inside =
    let parts : sum_by count (item ∷ take i items) + k ≡ count item + (sum_by count (take i items) + k) = omega (arith, sum_by-cons count item (take i items)) in
    ap (text_in count text (item ∷ items)) parts
    ∙ text_in-rest count text item items (sum_by count (take i items) + k)
    ∙ text_in-at count text items i k d (omega (arith, below)) inside

range-split : (g : ℕ → List ℕ) (a m n : ℕ) → flat_map g (range_with_len a (m + n)) ≡ flat_map g (range_with_len a m) ++ flat_map g (range_with_len (a + m) n)
range-split g a zero n =
    let all : 0 + n ≡ n = omega arith in
    let start : a ≡ a + 0 = omega arith in
    ap (λ (k : ℕ). flat_map g (range_with_len a k)) all ∙ ap (λ (b : ℕ). flat_map g (range_with_len b n)) start
range-split g a (suc m) n =
    let all : suc m + n ≡ suc (m + n) = omega arith in
    let start : a + 1 + m ≡ a + suc m = omega arith in
    ap (λ (k : ℕ). flat_map g (range_with_len a k)) all
    ∙ ap (λ (text : List ℕ). g a ++ text) (range-split g (a + 1) m n)
    ∙ sym (append_assoc (g a) (flat_map g (range_with_len (a + 1) m)) (flat_map g (range_with_len (a + 1 + m) n)))
    ∙ ap (λ (b : ℕ). flat_map g (range_with_len a (suc m)) ++ flat_map g (range_with_len b n)) start

range-shift : (g h : ℕ → List ℕ) (a b n : ℕ) → ((k : ℕ) → k < n → g (a + k) ≡ h (b + k)) → flat_map g (range_with_len a n) ≡ flat_map h (range_with_len b n)
range-shift g h a b zero same = refl
range-shift g h a b (suc n) same =
    let here_a : a ≡ a + 0 = omega arith in
    let here_b : b + 0 ≡ b = omega arith in
    ap (λ (text : List ℕ). text ++ flat_map g (range_with_len (a + 1) n)) (ap g here_a ∙ same 0 (omega arith) ∙ ap h here_b)
    ∙ ap (λ (text : List ℕ). h b ++ text)
    (range-shift g h (a + 1) (b + 1) n
    (λ k below.
    let left : a + 1 + k ≡ a + (k + 1) = omega arith in
    let right : b + (k + 1) ≡ b + 1 + k = omega arith in
    ap g left ∙ same (k + 1) (omega (arith, below)) ∙ ap h right))

item-text : {A : Type 0} (count : A → ℕ) (text : A → ℕ → List ℕ) (whole : A → List ℕ) (item : A) (items : List A) → All (λ item. flat_map (text item) (range_with_len 0 (count item)) ≡ whole item) (item ∷ items) →
    (g : ℕ → List ℕ) (from : ℕ) → ((n : ℕ) → g (from + n) ≡ text_in count text (item ∷ items) n) → flat_map g (range_with_len from (count item)) ≡ whole item
item-text count text whole item items each g from same =
    range-shift g (text item) from 0 (count item)
    (λ k below.
    let start : k ≡ 0 + k = omega arith in
    same k ∙ text_in-first count text item items k below ∙ ap (text item) start)
    ∙ All-head (λ item. flat_map (text item) (range_with_len 0 (count item)) ≡ whole item) item items each

item-rest : {A : Type 0} (count : A → ℕ) (text : A → ℕ → List ℕ) (item : A) (items : List A) (g : ℕ → List ℕ) (from : ℕ) → ((n : ℕ) → g (from + n) ≡ text_in count text (item ∷ items) n) →
    (n : ℕ) → g (from + count item + n) ≡ text_in count text items n
item-rest count text item items g from same n =
    let parts : from + count item + n ≡ from + (count item + n) = omega arith in
    ap g parts ∙ same (count item + n) ∙ text_in-rest count text item items n

end-is : {A : Type 0} (count : A → ℕ) (name : A → List ℕ) (from : ℕ) (items : List A) → end_before (from + sum_by count items) (marks_from count name from items) ≡ from
end-is count name from [] = omega arith
end-is count name from (item ∷ items) = refl

within : {A : Type 0} (count : A → ℕ) (name : A → List ℕ) (from : ℕ) (items : List A) → (i : ℕ) (d : Mark) → i < length (marks_from count name from items) →
    (from ≤ (get_or (marks_from count name from items) i d).first) × ((get_or (marks_from count name from items) i d).first ≤ from + sum_by count items)
within count name from [] i d below = absurd (omega (arith, below))
within count name from (item ∷ items) zero d below = (omega arith, omega arith)
within count name from (item ∷ items) (suc i) d below =
    let rest = within count name (from + count item) items i d (omega (arith, below)) in
    (omega (arith, rest.0), omega (arith, rest.1, sum_by-cons count item items))

rising : {A : Type 0} (count : A → ℕ) (name : A → List ℕ) (from : ℕ) (items : List A) → IsNonDecreasingBy (λ (mark : Mark). mark.first) (marks_from count name from items)
rising count name from [] i j d ordered below = absurd (omega (arith, below))
rising count name from (item ∷ items) zero zero d ordered below = omega arith
rising count name from (item ∷ items) zero (suc j) d ordered below = omega (arith, (within count name (from + count item) items j d (omega (arith, below))).0)
rising count name from (item ∷ items) (suc i) zero d ordered below = absurd (omega (arith, ordered))
rising count name from (item ∷ items) (suc i) (suc j) d ordered below = rising count name (from + count item) items i j d (omega (arith, ordered)) (omega (arith, below))

-- all packages of some items are the texts of these
pub text_in-all : {A : Type 0} (count : A → ℕ) (text : A → ℕ → List ℕ) (whole : A → List ℕ) (items : List A) → All (λ item. flat_map (text item) (range_with_len 0 (count item)) ≡ whole item) items →
    (g : ℕ → List ℕ) (from : ℕ) → ((n : ℕ) → g (from + n) ≡ text_in count text items n) → flat_map g (range_with_len from (sum_by count items)) ≡ flat_map whole items
text_in-all count text whole [] each g from same = refl
text_in-all count text whole (item ∷ items) each g from same =
    let more : sum_by count (item ∷ items) ≡ count item + sum_by count items = sum_by-cons count item items in
    ap (λ (n : ℕ). flat_map g (range_with_len from n)) more
    ∙ range-split g from (count item) (sum_by count items)
    ∙ ap (λ (t : List ℕ). t ++ flat_map g (range_with_len (from + count item) (sum_by count items))) (item-text count text whole item items each g from same)
    ∙ ap (λ (t : List ℕ). whole item ++ t)
    (text_in-all count text whole items (All-tail (λ item. flat_map (text item) (range_with_len 0 (count item)) ≡ whole item) item items each) g (from + count item)
    (λ n. item-rest count text item items g from same n))

-- so the file of each mark is that of its item
pub due_files-items : {A : Type 0} (count : A → ℕ) (text : A → ℕ → List ℕ) (whole name : A → List ℕ) (items : List A) → All (λ item. flat_map (text item) (range_with_len 0 (count item)) ≡ whole item) items →
    (g : ℕ → List ℕ) (from : ℕ) → ((n : ℕ) → g (from + n) ≡ text_in count text items n) →
    due_files g (from + sum_by count items) (marks_from count name from items) ≡ map (λ item. record { name = name item; bytes = whole item }) items
due_files-items count text whole name [] each g from same = refl
due_files-items count text whole name (item ∷ items) each g from same =
    let more : from + sum_by count (item ∷ items) ≡ from + count item + sum_by count items = omega (arith, sum_by-cons count item items) in
    let size : from + count item - from ≡ count item = omega arith in
    let behind : List Mark = marks_from count name (from + count item) items in
    let file : List ℕ → File = λ bytes. record { name = name item; bytes = bytes } in
    ap (λ (n : ℕ). due_files g n (marks_from count name from (item ∷ items))) more
    ∙ ap (λ (end : ℕ). file (texts g from end) ∷ due_files g (from + count item + sum_by count items) behind) (end-is count name (from + count item) items)
    ∙ ap (λ (n : ℕ). file (flat_map g (range_with_len from n)) ∷ due_files g (from + count item + sum_by count items) behind) size
    ∙ ap (λ (bytes : List ℕ). file bytes ∷ due_files g (from + count item + sum_by count items) behind) (item-text count text whole item items each g from same)
    ∙ ap (λ (files : List File). file (whole item) ∷ files)
    (due_files-items count text whole name items (All-tail (λ item. flat_map (text item) (range_with_len 0 (count item)) ≡ whole item) item items each) g (from + count item)
    (λ n. item-rest count text item items g from same n))

-- these marks are marks of all packages
pub AreMarksOf-items : {A : Type 0} (count : A → ℕ) (name : A → List ℕ) (items : List A) → 0 < length items → AreMarksOf (sum_by count items) (marks_from count name 0 items)
AreMarksOf-items count name [] some = absurd (omega (arith, some))
AreMarksOf-items count name (item ∷ items) some = record {
  some = omega arith;
  first = refl;
  rising = rising count name 0 (item ∷ items);
  within = λ i d below. omega (arith, (within count name 0 (item ∷ items) i d below).1);
}

-- one more mark after those of the items before
pub marks_from-push : {A : Type 0} (count : A → ℕ) (name : A → List ℕ) (from : ℕ) (items : List A) (item : A) →
    marks_from count name from (items ++ item ∷ []) ≡ marks_from count name from items ++ record { first = from + sum_by count items; name = name item } ∷ []
marks_from-push count name from [] item = let start : from ≡ from + 0 = omega arith in ap (λ (n : ℕ). record { first = n; name = name item } ∷ []) start
marks_from-push count name from (one ∷ items) item =
    let first : from + count one + sum_by count items ≡ from + sum_by count (one ∷ items) = omega (arith, sum_by-cons count one items) in
    ap (λ (marks : List Mark). record { first = from; name = name one } ∷ marks) (marks_from-push count name (from + count one) items item)
    ∙ ap (λ (n : ℕ). record { first = from; name = name one } ∷ (marks_from count name (from + count one) items ++ record { first = n; name = name item } ∷ [])) first
