-- Parts of lists, and texts of parts.
use Rattle.std.proofs.Common.{◌≡◌, ℕ, zero, suc, ◌+◌, ◌-◌, ◌*◌, ◌/◌, ◌<◌, ◌≤◌, min, List, [], ◌∷◌, ◌++◌, length, map, take, drop, get_or, inl, inr, refl, ap, arith, sym, ◌∙◌, append_assoc, append-nil, length-append}
use Rattle.std.specs.List.{flat_map, zip}
use Rattle.std.proofs.Math.Nat.{add-mul, div-mul-le_self, div-le_self, mul-le-mul_left, mul-le-mul_right}
use Rattle.std.proofs.lemmas.Bool.{cases_lt}
use Rattle.std.proofs.lemmas.List.{drop-map, take-map}
use Rattle.std.proofs.lemmas.Grind.{flat_map-append}
use Rattle.line_pages.specs.Pages.{Page}

-- a part of a list
abbrev pub part : {A : Type 0} → List A → ℕ → ℕ → List A
part xs first end = take (end - first) (drop first xs)

-- ---- pages

-- two texts after a page's, one after the other
pub page-two : (page middle last : Page) (a b : List ℕ) → middle ≡ record page { text = page.text ++ a } → last ≡ record middle { text = middle.text ++ b } →
    last ≡ record page { text = page.text ++ (a ++ b) }
page-two page middle last a b first second =
    second ∙ ap (λ (p : Page). record { text = p.text ++ b; room = p.room }) first ∙ ap (λ (t : List ℕ). record { text = t; room = page.room }) (append_assoc page.text a b)

-- how long a page's text is, with a text after it
pub page-length : (page last : Page) (a : List ℕ) → last ≡ record page { text = page.text ++ a } → length last.text ≡ length page.text + length a
page-length page last a is = ap (λ (p : Page). length p.text) is ∙ length-append page.text a

pub page-room : (page last : Page) (a : List ℕ) → last ≡ record page { text = page.text ++ a } → last.room ≡ page.room
page-room page last a is = ap (λ (p : Page). p.room) is

-- there is room for one more line
pub room-next : (i n most text used room : ℕ) → i < n → used ≤ i * most → text + n * most ≤ room → text + used + most ≤ room
room-next i n most text used room below few fits =
    let next : i + 1 ≤ n = omega (arith, below) in omega (arith, few, fits, mul-le-mul_right most next, add-mul i 1 most)

pub size-next : (i most used more : ℕ) → used ≤ i * most → more ≤ most → used + more ≤ (i + 1) * most
size-next i most used more few little = omega (arith, few, little, add-mul i 1 most)

-- ---- one more item

pub take-next : {A : Type 0} (xs : List A) (i : ℕ) (d : A) → i < length xs → take (i + 1) xs ≡ take i xs ++ get_or xs i d ∷ []
take-next [] i d below = absurd (omega (arith, below))
take-next (x ∷ xs) zero d below = refl
take-next (x ∷ xs) (suc i) d below =
    let more : suc i + 1 ≡ suc (i + 1) = omega arith in ap (λ n. take n (x ∷ xs)) more ∙ ap (λ ys. x ∷ ys) (take-next xs i d (omega (arith, below)))

pub flat_map-next : {A : Type 0} (f : A → List ℕ) (xs : List A) (i : ℕ) (d : A) → i < length xs → flat_map f (take i xs) ++ f (get_or xs i d) ≡ flat_map f (take (i + 1) xs)
flat_map-next f xs i d below =
    sym (
    ap (flat_map f) (take-next xs i d below) ∙ flat_map-append f (take i xs) (get_or xs i d ∷ [])
    ∙ ap (λ text. flat_map f (take i xs) ++ text) (append-nil (f (get_or xs i d))))

pub flat_map-zip-next : (f : ℕ → ℕ → List ℕ) (xs ys : List ℕ) (i : ℕ) → i < length xs → length ys ≡ length xs →
    flat_map (λ (at : ℕ × ℕ). f at.0 at.1) (zip (take i xs) (take i ys)) ++ f (get_or xs i 0) (get_or ys i 0)
    ≡ flat_map (λ (at : ℕ × ℕ). f at.0 at.1) (zip (take (i + 1) xs) (take (i + 1) ys))
flat_map-zip-next f [] ys i below alike = absurd (omega (arith, below))
flat_map-zip-next f (x ∷ xs) [] i below alike = absurd (omega (arith, alike))
flat_map-zip-next f (x ∷ xs) (y ∷ ys) zero below alike = sym (append-nil (f x y))
flat_map-zip-next f (x ∷ xs) (y ∷ ys) (suc i) below alike =
    let more : suc i + 1 ≡ suc (i + 1) = omega arith in
    append_assoc (f x y) (flat_map (λ (at : ℕ × ℕ). f at.0 at.1) (zip (take i xs) (take i ys))) (f (get_or xs i 0) (get_or ys i 0))
    ∙ ap (λ text. f x y ++ text) (flat_map-zip-next f xs ys i (omega (arith, below)) (omega (arith, alike)))
    ∙ sym (ap (λ n. flat_map (λ (at : ℕ × ℕ). f at.0 at.1) (zip (take n (x ∷ xs)) (take n (y ∷ ys)))) more)

-- one item alone
pub part-one : {A : Type 0} (xs : List A) (i : ℕ) (d : A) → i < length xs → part xs i (i + 1) ≡ get_or xs i d ∷ []
part-one [] i d below = absurd (omega (arith, below))
part-one (x ∷ xs) zero d below = refl
part-one (x ∷ xs) (suc i) d below =
    let same : suc i + 1 - suc i ≡ i + 1 - i = omega arith in
    ap (λ n. take n (drop i xs)) same ∙ part-one xs i d (omega (arith, below))

-- ---- parts

pub part-map : {A B : Type 0} (f : A → B) (xs : List A) (first end : ℕ) → part (map f xs) first end ≡ map f (part xs first end)
part-map f xs first end = ap (take (end - first)) (drop-map f first xs) ∙ take-map f (end - first) (drop first xs)

-- of two lists, one after the other
pub part-append : {A : Type 0} (xs ys : List A) (first end : ℕ) → first ≤ end →
    part (xs ++ ys) first end ≡ part xs first end ++ part ys (first - length xs) (end - length xs)
part-append [] ys first end ordered =
    let none : take (end - first) (drop first (let n : List _ = [] in n)) ≡ [] = take-nothing (end - first) first in
    let begun : first - 0 ≡ first = omega arith in
    let ended : end - 0 ≡ end = omega arith in
    sym (ap (λ zs. zs ++ part ys (first - 0) (end - 0)) none ∙ ap (λ n. part ys n (end - 0)) begun ∙ ap (part ys first) ended)
  where
    take-nothing : {A : Type 0} (n m : ℕ) → take n (drop m (let none : List A = [] in none)) ≡ []
    take-nothing zero m = refl
    take-nothing (suc n) zero = refl
    take-nothing (suc n) (suc m) = refl
part-append (x ∷ xs) ys zero zero ordered =
    let none : 0 - suc (length xs) ≡ 0 = omega arith in sym (ap (λ n. part ys n n) none)
part-append (x ∷ xs) ys zero (suc end) ordered =
    let begun : 0 - suc (length xs) ≡ 0 - length xs = omega arith in
    let ended : suc end - suc (length xs) ≡ end - length xs = omega arith in
    let whole : suc end - 0 ≡ suc (end - 0) = omega arith in
    ap (λ n. take n (x ∷ (xs ++ ys))) whole
    ∙ ap (λ zs. x ∷ zs) (part-append xs ys 0 end (omega arith) ∙ ap (λ n. part xs 0 end ++ part ys n (end - length xs)) (sym begun) ∙ ap (λ n. part xs 0 end ++ part ys (0 - suc (length xs)) n) (sym ended))
    ∙ sym (ap (λ n. take n (x ∷ xs) ++ part ys (0 - suc (length xs)) (suc end - suc (length xs))) whole)
part-append (x ∷ xs) ys (suc first) zero ordered = absurd (omega (arith, ordered))
part-append (x ∷ xs) ys (suc first) (suc end) ordered =
    let size : suc end - suc first ≡ end - first = omega arith in
    let begun : suc first - suc (length xs) ≡ first - length xs = omega arith in
    let ended : suc end - suc (length xs) ≡ end - length xs = omega arith in
    ap (λ n. take n (drop first (xs ++ ys))) size
    ∙ part-append xs ys first end (omega (arith, ordered))
    ∙ ap (λ n. part xs first end ++ part ys n (end - length xs)) (sym begun)
    ∙ ap (λ n. part xs first end ++ part ys (suc first - suc (length xs)) n) (sym ended)
    ∙ ap (λ n. take n (drop first xs) ++ part ys (suc first - suc (length xs)) (suc end - suc (length xs))) (sym size)

-- past its end a list has nothing
pub part-min : {A : Type 0} (xs : List A) (first end n : ℕ) → first ≤ end → n ≡ length xs → part xs first end ≡ part xs (min first n) (min end n)
part-min [] first end n ordered all = nothing (end - first) first ∙ sym (nothing (min end n - min first n) (min first n))
  where
    nothing : {A : Type 0} (n m : ℕ) → take n (drop m (let none : List A = [] in none)) ≡ []
    nothing zero m = refl
    nothing (suc n) zero = refl
    nothing (suc n) (suc m) = refl
part-min (x ∷ xs) first end zero ordered all = absurd (omega (arith, all))
part-min (x ∷ xs) zero zero (suc n) ordered all =
    let none : min 0 (suc n) ≡ 0 = omega arith in sym (ap (λ k. part (x ∷ xs) k k) none)
part-min (x ∷ xs) zero (suc end) (suc n) ordered all =
    let begun : min 0 (suc n) ≡ 0 = omega arith in
    let front : min 0 n ≡ 0 = omega arith in
    let ended : min (suc end) (suc n) ≡ suc (min end n) = omega arith in
    let whole : suc end - 0 ≡ suc (end - 0) = omega arith in
    let least : suc (min end n) - 0 ≡ suc (min end n - 0) = omega arith in
    ap (λ k. take k (x ∷ xs)) whole
    ∙ ap (λ zs. x ∷ zs) (part-min xs 0 end n (omega arith) (omega (arith, all)) ∙ ap (λ k. part xs k (min end n)) front)
    ∙ sym (ap (λ k. take k (x ∷ xs)) least)
    ∙ sym (ap (λ k. part (x ∷ xs) k (min (suc end) (suc n))) begun ∙ ap (part (x ∷ xs) 0) ended)
part-min (x ∷ xs) (suc first) zero (suc n) ordered all = absurd (omega (arith, ordered))
part-min (x ∷ xs) (suc first) (suc end) (suc n) ordered all =
    let size : suc end - suc first ≡ end - first = omega arith in
    let begun : min (suc first) (suc n) ≡ suc (min first n) = omega arith in
    let ended : min (suc end) (suc n) ≡ suc (min end n) = omega arith in
    let least : suc (min end n) - suc (min first n) ≡ min end n - min first n = omega arith in
    ap (λ k. take k (drop first xs)) size
    ∙ part-min xs first end n (omega (arith, ordered)) (omega (arith, all))
    ∙ sym (ap (λ k. take k (drop (min first n) xs)) least)
    ∙ sym (ap (λ k. part (x ∷ xs) k (min (suc end) (suc n))) begun ∙ ap (part (x ∷ xs) (suc (min first n))) ended)

-- ---- packages

-- a package of a number begins with a line, and ends less than a package after the last
pub package-last : (lines size n : ℕ) → n < (lines + (size - 1)) / size → n * size + size ≤ lines + (size - 1)
package-last lines size n below =
    let next : n + 1 ≤ (lines + (size - 1)) / size = omega (arith, below) in
    omega (arith, mul-le-mul_right size next, div-mul-le_self (lines + (size - 1)) size, add-mul n 1 size)

pub package-count : (lines size : ℕ) → (lines + (size - 1)) / size ≤ lines + (size - 1)
package-count lines size = div-le_self (lines + (size - 1)) size

-- there are no more packages than lines
pub package-fewer : (lines size : ℕ) → 1 ≤ size → (lines + (size - 1)) / size ≤ lines
package-fewer lines size some = elim (cases_lt lines ((lines + (size - 1)) / size)) [
  | inl more ↦
      let last = package-last lines size lines more in
      let most : lines * 1 ≤ lines * size = mul-le-mul_left lines some in
      absurd (omega (arith, last, most, some))
  | inr few ↦ few
]
