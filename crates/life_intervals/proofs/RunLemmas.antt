-- Runs, part by part.
use Rattle.std.proofs.Common.{◌≡◌, ℕ, ◌+◌, ◌-◌, ◌*◌, ◌<◌, ◌≤◌, List, [], ◌∷◌, ◌++◌, suc, drop, get_or, length, length-append, map, set, take, refl, ap, ap₂, arith, subst, sym, ◌∙◌}
use Rattle.std.specs.Prelude.{All}
use Rattle.std.proofs.Math.Nat.{add-mul}
use Rattle.std.proofs.Math.Seq.{take-add}
use Rattle.std.proofs.lemmas.List.{ext_get_or, get_or-drop, get_or-map, get_or-take, get_or_default, length-drop, length-map, length-take, map-append, map_more, take-append-drop, take_all, take_more_set}
use Rattle.std.proofs.lemmas.Slice.{drop-put_mid, take-put_mid}
use borrow.Rule.Slice.PartMut.{put_mid}

-- two functions that agree on each item
pub map-all : {X Y : Type 0} (f g : X → Y) (xs : List X) → All (λ x. f x ≡ g x) xs → map f xs ≡ map g xs
map-all f g [] each = refl
map-all f g (x ∷ xs) each = ap₂ (λ y ys. y ∷ ys) (each 0 x (omega arith)) (map-all f g xs (λ k d below. each (suc k) d (omega (arith, below))))

-- what each item of a list is
pub map-same_value : {X Y : Type 0} (f : X → Y) (v : Y) (xs : List X) (ys : List Y) (e : Y) → length ys ≡ length xs → ((i : ℕ) → i < length xs → get_or ys i e ≡ v) → All (λ x. v ≡ f x) xs → ys ≡ map f xs
map-same_value f v xs ys e same_length same each =
    ext_get_or e ys (map f xs) (same_length ∙ sym (length-map xs f)) (λ i below.
    let inside : i < length xs = omega (arith, below, same_length) in
    same i inside ∙ each i (get_or_item xs i inside) inside ∙ sym (get_or-map f xs i (get_or_item xs i inside) e inside))
  where
    get_or_item : {X : Type 0} (xs : List X) (i : ℕ) → i < length xs → X
    get_or_item [] i below = absurd (omega (arith, below))
    get_or_item (x ∷ xs) i below = x

-- how long a part is
pub length-part : {X : Type 0} (xs : List X) (from until : ℕ) → from ≤ until → until ≤ length xs → length (take (until - from) (drop from xs)) ≡ until - from
length-part xs from until order within = omega (arith, length-take (until - from) (drop from xs), length-drop from xs)

-- what has been put of the rows before a part, and of those of the part
pub put_mid-part : {X Y : Type 0} (f : X → Y) (xs : List X) (ys part : List Y) (from until : ℕ) → from ≤ until → until ≤ length xs → length ys ≡ length xs →
    take from ys ≡ map f (take from xs) → part ≡ map f (take (until - from) (drop from xs)) → take until (put_mid from (until - from) ys part) ≡ map f (take until xs)
put_mid-part f xs ys part from until order within same_length before is =
    let long : length part ≡ until - from = ap length is ∙ length-map (take (until - from) (drop from xs)) f ∙ length-part xs from until order within in
    let whole : from + (until - from) ≡ until = omega (arith, order) in
    take-put_mid from (until - from) ys part until (omega (arith, long, order)) (omega (arith, order, within, same_length))
    ∙ ap₂ (λ front back. front ++ back) before is
    ∙ sym (map-append f (take from xs) (take (until - from) (drop from xs)))
    ∙ ap (map f) (sym (take-add from (until - from) xs) ∙ ap (λ n. take n xs) whole)

pub length-put_mid : {X : Type 0} (a k : ℕ) (xs ys : List X) → a + k ≤ length xs → length ys ≡ k → length (put_mid a k xs ys) ≡ length xs
length-put_mid a k xs ys within long =
    let whole : List _ = put_mid a k xs ys in
    let front : length (take (a + k) whole) ≡ a + k =
    ap length (take-put_mid a k xs ys (a + k) (omega (arith, long)) (omega (arith, within))) ∙ omega (arith, length-append (take a xs) ys, length-take a xs, long, within) in
    let back : length (drop (a + k) whole) ≡ length xs - (a + k) =
    ap length (drop-put_mid a k xs ys (a + k) (omega arith) (omega (arith, within)) long) ∙ length-drop (a + k) xs in
    ap length (sym (take-append-drop (a + k) whole)) ∙ length-append (take (a + k) whole) (drop (a + k) whole) ∙ omega (arith, front, back, within)

-- a part more has been put
pub next-part : {X Y : Type 0} (f : X → Y) (xs : List X) (ys part : List Y) (from until : ℕ) → from ≤ until → until ≤ length xs → length ys ≡ length xs →
    take from ys ≡ map f (take from xs) → part ≡ map f (take (until - from) (drop from xs)) →
    (length (put_mid from (until - from) ys part) ≡ length xs) × (take until (put_mid from (until - from) ys part) ≡ map f (take until xs))
next-part f xs ys part from until order within same_length before is =
    let long : length part ≡ until - from = ap length is ∙ length-map (take (until - from) (drop from xs)) f ∙ length-part xs from until order within in (
      length-put_mid from (until - from) ys part (omega (arith, order, within, same_length)) long ∙ same_length,
      put_mid-part f xs ys part from until order within same_length before is,
    )

-- all rows are before the end
pub put-all : {X Y : Type 0} (f : X → Y) (xs : List X) (ys : List Y) (n i : ℕ) (d : X) (e : Y) → length ys ≡ length xs → length xs ≤ n → take n ys ≡ map f (take n xs) → i < length xs →
    get_or ys i e ≡ f (get_or xs i d)
put-all f xs ys n i d e same_length all before below =
    let is : ys ≡ map f xs = sym (take_all n ys (omega (arith, all, same_length))) ∙ before ∙ ap (map f) (take_all n xs all) in
    ap (λ zs. get_or zs i e) is ∙ get_or-map f xs i d e below

-- the rows of a part stand as the unit of its first one says
pub All-part : (P : ℕ → ℕ → Type 0) (xs units : List ℕ) (from until : ℕ) → from < until → until ≤ length xs → ((i : ℕ) → i < length xs → P (get_or units i 0) (get_or xs i 0)) →
    ((i : ℕ) → from ≤ i → i < until → get_or units i 0 ≡ get_or units from 0) → All (P (get_or units from 0)) (take (until - from) (drop from xs))
All-part P xs units from until order within each same = λ k d below.
    let long = length-part xs from until (omega (arith, order)) within in
    let at : from + k < until = omega (arith, below, long, order) in
    let there : get_or (take (until - from) (drop from xs)) k d ≡ get_or xs (from + k) d =
    get_or-take (until - from) (drop from xs) k d (omega (arith, below, long)) ∙ get_or-drop from xs k d in
    let inside : get_or xs (from + k) d ≡ get_or xs (from + k) 0 = get_or_default xs (from + k) d 0 (omega (arith, at, within)) in
    subst (λ u. P u (get_or (take (until - from) (drop from xs)) k d)) (same (from + k) (omega arith) at)
    (subst (P (get_or units (from + k) 0)) (sym (there ∙ inside)) (each (from + k) (omega (arith, at, within))))

-- what so many rows take, each as much
pub steps-part : (c from until a b e : ℕ) → from ≤ until → a ≡ b + from * c → e ≡ a + (until - from) * c → e ≡ b + until * c
steps-part c from until a b e order before after =
    let whole : from + (until - from) ≡ until = omega (arith, order) in
    let split : until * c ≡ from * c + (until - from) * c = ap (λ n. n * c) (sym whole) ∙ add-mul from (until - from) c in
    omega (arith, before, after, split)

pub steps-part_le : (c from until a b e : ℕ) → from ≤ until → a ≤ b + from * c → e ≤ a + (until - from) * c → e ≤ b + until * c
steps-part_le c from until a b e order before after =
    let whole : from + (until - from) ≡ until = omega (arith, order) in
    let split : until * c ≡ from * c + (until - from) * c = ap (λ n. n * c) (sym whole) ∙ add-mul from (until - from) c in
    omega (arith, before, after, split)

pub steps-next : {X : Type 0} (xs : List X) (c from until a b e : ℕ) → from ≤ until → until ≤ length xs → a ≡ b + from * c → e ≡ a + length (take (until - from) (drop from xs)) * c → e ≡ b + until * c
steps-next xs c from until a b e order within before after = steps-part c from until a b e order before (after ∙ ap (λ n. a + n * c) (length-part xs from until order within))

pub steps-next_le : {X : Type 0} (xs : List X) (c from until a b e : ℕ) → from ≤ until → until ≤ length xs → a ≤ b + from * c → e ≤ a + length (take (until - from) (drop from xs)) * c → e ≤ b + until * c
steps-next_le xs c from until a b e order within before after =
    steps-part_le c from until a b e order before (omega (arith, after, ap (λ n. a + n * c) (length-part xs from until order within)))

-- one item more has been put
pub put-next : {X Y : Type 0} (f : X → Y) (xs : List X) (ys : List Y) (i : ℕ) (v : Y) (d : X) → i < length xs → length ys ≡ length xs → take i ys ≡ map f (take i xs) → v ≡ f (get_or xs i d) →
    take (i + 1) (set ys i v) ≡ map f (take (i + 1) xs)
put-next f xs ys i v d within same_length before is =
    take_more_set ys i v (omega (arith, within, same_length))
    ∙ ap₂ (λ front last. front ++ last ∷ []) before is
    ∙ sym (map_more f xs i d within)

pub steps-one_le : (c i a b s e : ℕ) → a ≤ b + i * c → e ≡ a + s → s ≤ c → e ≤ b + (i + 1) * c
steps-one_le c i a b s e before after few = omega (arith, before, after, few, add-mul i 1 c)
