-- A text as it is written, while a loop goes over its bytes: `f` says how each byte is written, and the bytes from
-- `start` to `i` are the run that is still to be written.
use Rattle.std.proofs.Common.{◌≡◌, ℕ, ◌≤◌, ◌<◌, ◌+◌, List, [], ◌∷◌, ◌++◌, length, take, get_or, ap, sym, ◌∙◌, arith, length-append, append_assoc}
use Rattle.std.proofs.lemmas.List.{append-nil, take_more, take_all}
use Rattle.std.proofs.lemmas.List.Concat.{flat_map-append}
use Rattle.std.proofs.lemmas.List.Edits.{between_more, between_none}
use Rattle.std.proofs.lemmas.List.Folds.{length-flat_map-take}
use Rattle.std.specs.List.{flat_map, slice_range}

-- the first bytes, and one more
flat_map-take_more : (f : ℕ → List ℕ) (bytes : List ℕ) (i : ℕ) → i < length bytes → flat_map f (take (i + 1) bytes) ≡ flat_map f (take i bytes) ++ f (get_or bytes i 0)
flat_map-take_more f bytes i below =
    ap (flat_map f) (take_more bytes i 0 below)
    ∙ flat_map-append f (take i bytes) (get_or bytes i 0 ∷ [])
    ∙ ap (λ (piece : List ℕ). flat_map f (take i bytes) ++ piece) (append-nil (f (get_or bytes i 0)))

-- a byte with an escape: after the run and the escape no run is left
pub escape_written : (f : ℕ → List ℕ) (bytes : List ℕ) (start i : ℕ) (old text now escape : List ℕ) → i < length bytes → text ++ slice_range bytes start i ≡ old ++ flat_map f (take i bytes) → f (get_or bytes i 0) ≡ escape → now ≡ (text ++ slice_range bytes start i) ++ escape → now ++ slice_range bytes (i + 1) (i + 1) ≡ old ++ flat_map f (take (i + 1) bytes)
escape_written f bytes start i old text now escape below so_far written now_is =
    ap (λ (run : List ℕ). now ++ run) (between_none bytes (i + 1))
    ∙ append-nil now
    ∙ now_is
    ∙ ap (λ (front : List ℕ). front ++ escape) so_far
    ∙ append_assoc old (flat_map f (take i bytes)) escape
    ∙ ap (λ (piece : List ℕ). old ++ (flat_map f (take i bytes) ++ piece)) (sym written)
    ∙ ap (λ (all : List ℕ). old ++ all) (sym (flat_map-take_more f bytes i below))

-- a byte that stands for itself: the run is longer by it
pub run_longer : (f : ℕ → List ℕ) (bytes : List ℕ) (start i : ℕ) (old text : List ℕ) → start ≤ i → i < length bytes → text ++ slice_range bytes start i ≡ old ++ flat_map f (take i bytes) → f (get_or bytes i 0) ≡ get_or bytes i 0 ∷ [] → text ++ slice_range bytes start (i + 1) ≡ old ++ flat_map f (take (i + 1) bytes)
run_longer f bytes start i old text order below so_far written =
    ap (λ (run : List ℕ). text ++ run) (between_more bytes start i 0 order below)
    ∙ sym (append_assoc text (slice_range bytes start i) (get_or bytes i 0 ∷ []))
    ∙ ap (λ (front : List ℕ). front ++ get_or bytes i 0 ∷ []) so_far
    ∙ append_assoc old (flat_map f (take i bytes)) (get_or bytes i 0 ∷ [])
    ∙ ap (λ (piece : List ℕ). old ++ (flat_map f (take i bytes) ++ piece)) (sym written)
    ∙ ap (λ (all : List ℕ). old ++ all) (sym (flat_map-take_more f bytes i below))

-- the run before a byte fits, with what is written for the byte after it
pub run_fits : (f : ℕ → List ℕ) (bytes : List ℕ) (start i room : ℕ) (old text : List ℕ) → i < length bytes → text ++ slice_range bytes start i ≡ old ++ flat_map f (take i bytes) → length old + length (flat_map f bytes) ≤ room → length text + length (slice_range bytes start i) + length (f (get_or bytes i 0)) ≤ room
run_fits f bytes start i room old text below so_far fits =
    omega (
      arith,
      length-flat_map-take f bytes i 0 below,
      ap length so_far,
      length-append text (slice_range bytes start i),
      length-append old (flat_map f (take i bytes)),
    )

-- the last run ends the text
pub last_run : (f : ℕ → List ℕ) (bytes : List ℕ) (start i : ℕ) (old text : List ℕ) → i ≤ length bytes → length bytes ≤ i → text ++ slice_range bytes start i ≡ old ++ flat_map f (take i bytes) → text ++ slice_range bytes start (length bytes) ≡ old ++ flat_map f bytes
last_run f bytes start i old text within past so_far =
    let all : length bytes ≡ i = omega arith in
    ap (λ (end : ℕ). text ++ slice_range bytes start end) all
    ∙ so_far
    ∙ ap (λ (front : List ℕ). old ++ flat_map f front) (take_all i bytes past)

-- it fits
pub last_run_fits : (f : ℕ → List ℕ) (bytes : List ℕ) (start i room : ℕ) (old text : List ℕ) → i ≤ length bytes → length bytes ≤ i → text ++ slice_range bytes start i ≡ old ++ flat_map f (take i bytes) → length old + length (flat_map f bytes) ≤ room → length text + length (slice_range bytes start (length bytes)) ≤ room
last_run_fits f bytes start i room old text within past so_far fits =
    omega (
      arith,
      ap length (last_run f bytes start i old text within past so_far),
      length-append text (slice_range bytes start (length bytes)),
      length-append old (flat_map f bytes),
    )
