-- Lines that are known by their keys: which keys they have, and what a line that stands first does to the others.
use Rattle.std.proofs.Common.{◌≡◌, ℕ, zero, suc, ◌<◌, Bool, true, false, ◌||◌, List, [], ◌∷◌, ◌++◌, length, map, take, get_or, inl, inr, refl, ap, arith, sym, ◌∙◌}
use Rattle.std.specs.Prelude.{if◌then◌else◌}
use Rattle.std.specs.List.{join_by, join_with_byte}
use Rattle.std.specs.Str.{bytes_eq}
use Rattle.std.proofs.lemmas.Bool.{cases_Bool, or_parts}
use Rattle.std.specs.Bool.{one_answer}
use Rattle.std.proofs.lemmas.List.{append-nil}
use Rattle.std.proofs.lemmas.Slice.Eq.{bytes_eq-Decides}
use Rattle.stream_apply.specs.KeyedLines.{KeyedLine, has_key, keyed, put}
use Rattle.stream_apply.specs.Streams.{with_each}

-- ---- texts

-- texts that differ
pub bytes_eq-apart : (xs ys : List ℕ) → (xs ≡ ys → ⊥) → bytes_eq xs ys ≡ false
bytes_eq-apart xs ys apart = elim (cases_Bool (bytes_eq xs ys)) [
  | inl same ↦ absurd (apart ((bytes_eq-Decides xs ys).0 same))
  | inr differ ↦ differ
]

pub bytes_eq-same : (xs : List ℕ) → bytes_eq xs xs ≡ true
bytes_eq-same xs = (bytes_eq-Decides xs xs).1 refl

bytes_eq-swapped : (xs ys : List ℕ) → bytes_eq xs ys ≡ bytes_eq ys xs
bytes_eq-swapped xs ys =
    one_answer (bytes_eq xs ys) (bytes_eq ys xs) (bytes_eq-Decides xs ys)
    ((λ same. sym ((bytes_eq-Decides ys xs).0 same)), λ same. (bytes_eq-Decides ys xs).1 (sym same))

-- fields that are written one by one and joined are so written with the keys delimiter between each two
join_with_byte-front : {X : Type 0} (f : X → List ℕ) (byte : ℕ) (x : X) (xs : List X) →
    join_with_byte byte (map f (x ∷ xs)) ≡ join_by f (byte ∷ []) (x ∷ xs)
join_with_byte-front f byte x [] = sym (append-nil (f x))
join_with_byte-front f byte x (y ∷ xs) = ap (λ (text : List ℕ). f x ++ byte ∷ text) (join_with_byte-front f byte y xs)

pub join_with_byte-by : {X : Type 0} (f : X → List ℕ) (byte : ℕ) (xs : List X) → join_with_byte byte (map f xs) ≡ join_by f (byte ∷ []) xs
join_with_byte-by f byte [] = refl
join_with_byte-by f byte (x ∷ xs) = join_with_byte-front f byte x xs

-- ---- keys that stand apart

-- each line has a key that none before it has
abbrev pub AreApart : List KeyedLine → Type 0
AreApart lines = (i : ℕ) (d : KeyedLine) → i < length lines → has_key (take i lines) (get_or lines i d).key ≡ false

-- a key that none of the lines has is that of none
other-key : (lines : List KeyedLine) (key : List ℕ) (i : ℕ) (d : KeyedLine) → has_key lines key ≡ false → i < length lines →
    bytes_eq (get_or lines i d).key key ≡ false
other-key [] key i d free inside = absurd (omega (arith, inside))
other-key (line ∷ lines) key zero d free inside = bytes_eq-swapped line.key key ∙ (or_parts _ _ free).0
other-key (line ∷ lines) key (suc i) d free inside = other-key lines key i d (or_parts _ _ free).1 (omega (arith, inside))

-- one more in front
pub AreApart-cons : (first : KeyedLine) (lines : List KeyedLine) → has_key lines first.key ≡ false → AreApart lines → AreApart (first ∷ lines)
AreApart-cons first lines free apart zero d inside = refl
AreApart-cons first lines free apart (suc i) d inside =
    let below : i < length lines = omega (arith, inside) in
    ap (λ (held : Bool). held || has_key (take i lines) (get_or lines i d).key) (other-key lines first.key i d free below) ∙ apart i d below

-- a line whose key none of the others has stays in front of what they are put into
pub with_each-first : (first : KeyedLine) (table lines : List KeyedLine) → has_key lines first.key ≡ false →
    with_each (first ∷ table) lines ≡ first ∷ with_each table lines
with_each-first first table [] free = refl
with_each-first first table (line ∷ lines) free =
    let parts = or_parts (bytes_eq first.key line.key) (has_key lines first.key) free in
    ap (λ (same : Bool). with_each (if same then keyed first.key line.text ∷ table else first ∷ put table line) lines) (bytes_eq-swapped line.key first.key ∙ parts.0)
    ∙ with_each-first first (put table line) lines parts.1

-- a line with the key of the first takes its place
pub with_each-same : (key old new : List ℕ) (table lines : List KeyedLine) →
    with_each (keyed key old ∷ table) (keyed key new ∷ lines) ≡ with_each (keyed key new ∷ table) lines
with_each-same key old new table lines =
    ap (λ (same : Bool). with_each (if same then keyed key new ∷ table else keyed key old ∷ put table (keyed key new)) lines) (bytes_eq-same key)
