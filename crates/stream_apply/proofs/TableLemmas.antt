-- The entries of a map as lines.
use Rattle.std.proofs.Common.{◌≡◌, ℕ, zero, suc, Bool, true, false, cond, ◌||◌, List, [], ◌∷◌, Some, IfSome, is_some, filter, map, slice_get, if◌then◌else◌, not, length, refl, ap, arith}
use Rattle.std.specs.Map.{lookup}
use Rattle.std.specs.Str.{bytes_eq}
use Rattle.indexmap.specs.IndexMap.{insert_entry}
use Rattle.stream_apply.specs.KeyedLines.{KeyedLine, has_key, keyed, lines_of, put}
use denote.Ref.{Bor}

abbrev Entry : Type 0
Entry = Bor (List ℕ) × Bor (List ℕ)

-- a key that is looked up is a line's
pub has_key-lookup : (key : List ℕ) (entries : List Entry) → is_some (lookup (λ (k : Bor (List ℕ)). bytes_eq key k.now) entries) ≡ has_key (lines_of entries) key
has_key-lookup key [] = refl
has_key-lookup key (e ∷ es) =
    elim (bytes_eq key e.0.now) as (λ (b : Bool). is_some (cond b (Some e.1) (lookup (λ (k : Bor (List ℕ)). bytes_eq key k.now) es)) ≡ (b || has_key (lines_of es) key)) [
      | true ↦ refl
      | false ↦ has_key-lookup key es
    ]

-- an entry that is put in
pub lines_of-insert_entry : (key text : Bor (List ℕ)) (entries : List Entry) → lines_of (insert_entry (λ (x y : Bor (List ℕ)). bytes_eq x.now y.now) entries key text) ≡ put (lines_of entries) (keyed key.now text.now)
lines_of-insert_entry key text [] = refl
lines_of-insert_entry key text (e ∷ es) =
    elim (bytes_eq key.now e.0.now) as (λ (b : Bool). lines_of (if b then (e.0, text) ∷ es else e ∷ insert_entry (λ (x y : Bor (List ℕ)). bytes_eq x.now y.now) es key text) ≡ (if b then keyed e.0.now text.now ∷ lines_of es else keyed e.0.now e.1.now ∷ put (lines_of es) (keyed key.now text.now))) [
      | true ↦ refl
      | false ↦ ap (λ (lines : List KeyedLine). keyed e.0.now e.1.now ∷ lines) (lines_of-insert_entry key text es)
    ]

-- entries that are kept by their keys
pub lines_of-filter : (test : List ℕ → Bool) (entries : List Entry) → lines_of (filter (λ (e : Entry). test e.0.now) entries) ≡ filter (λ (line : KeyedLine). test line.key) (lines_of entries)
lines_of-filter test [] = refl
lines_of-filter test (e ∷ es) =
    elim (test e.0.now) as (λ (b : Bool). lines_of (cond b (e ∷ filter (λ (e : Entry). test e.0.now) es) (filter (λ (e : Entry). test e.0.now) es)) ≡ cond b (keyed e.0.now e.1.now ∷ filter (λ (line : KeyedLine). test line.key) (lines_of es)) (filter (λ (line : KeyedLine). test line.key) (lines_of es))) [
      | true ↦ ap (λ (lines : List KeyedLine). keyed e.0.now e.1.now ∷ lines) (lines_of-filter test es)
      | false ↦ lines_of-filter test es
    ]

-- the text at a place
pub text_at-lines_of : (entries : List Entry) (i : ℕ) (text : Bor (List ℕ)) → slice_get (map (λ (e : Entry). e.1) entries) i ≡ Some text → IfSome (slice_get (lines_of entries) i) (λ line. line.text ≡ text.now)
text_at-lines_of [] i text is = tt
text_at-lines_of (e ∷ es) zero text is = let same : e.1 ≡ text = cc in ap (λ (t : Bor (List ℕ)). t.now) same
text_at-lines_of (e ∷ es) (suc i) text is = text_at-lines_of es i text is

-- where no line tells a key, all stay
all_stay : (others : List KeyedLine) → length others ≡ 0 → (table : List KeyedLine) → table ≡ filter (λ (line : KeyedLine). not (has_key others line.key)) table
all_stay [] none [] = refl
all_stay [] none (line ∷ table) = ap (λ (rest : List KeyedLine). line ∷ rest) (all_stay [] none table)
all_stay (other ∷ others) none table = absurd (omega (arith, none))

pub none_dropped : (others table : List KeyedLine) → length others ≡ 0 → table ≡ filter (λ (line : KeyedLine). not (has_key others line.key)) table
none_dropped others table none = all_stay others none table
