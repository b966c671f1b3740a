-- UUIDs: their length, and that no byte of theirs is escaped.
use Rattle.std.proofs.Common.{◌≡◌, ◌<◌, ℕ, zero, suc, ◌+◌, ◌-◌, ◌*◌, ◌/◌, ◌%◌, ◌^◌, List, [], ◌∷◌, ◌++◌, Some, length, slice_index, if◌then◌else◌, true, false, inl, inr, refl, ap, sym, ◌∙◌, w64, arith}
use Rattle.std.specs.Prelude.{All}
use Rattle.std.specs.Int.{byte_at, bytes_high_first, to_be_bytes}
use Rattle.std.proofs.lemmas.Bool.{cases_lt, le-ltb, lt-ltb}
use Rattle.std.proofs.lemmas.List.Concat.{flat_map-append}
use Rattle.std.proofs.lemmas.List.Elements.{All-append, All-cons, All-nil, All-set}
use Rattle.uuid.specs.Parts.{variant_of, with_variant}
use Rattle.uuid.specs.Text.{by_index, digit_place, hex_digit, hyphen, is_hyphen_place, lower, nibble, parsed}
use Rattle.uuid.specs.Uuid.{version_num}
use Rattle.uuid.specs.declared.Variant.TheVariants.{RFC4122}
use Rattle.uuid.proofs.RoundTrips.{parses_hyphenated}
use Rattle.uuid.proofs.TextLemmas.{by_index_length, nibble_small}
use Rattle.row_text.specs.Fields.{escaped, escaped_text}
use Rattle.draw_values.specs.Uuids.{random_bytes, uuid_bytes, uuid_text}
use Rattle.draw_values.proofs.PlainLemmas.{escaped-plain, escaped-small_letter}

pub length-uuid_text : (first second : ℕ) → length (uuid_text first second) ≡ 36
unfolding uuid_text
length-uuid_text first second = by_index_length 36 _

-- a text whose bytes stand for themselves is written as it is
escaped_text-by_index : (delimiter count : ℕ) (byte : ℕ → ℕ) → ((k : ℕ) → escaped delimiter (byte k) ≡ byte k ∷ []) → escaped_text delimiter (by_index count byte) ≡ by_index count byte
unfolding by_index
escaped_text-by_index delimiter zero byte each = refl
escaped_text-by_index delimiter (suc count) byte each =
    flat_map-append (escaped delimiter) (by_index count byte) (byte count ∷ [])
    ∙ ap (λ (front : List ℕ). front ++ escaped_text delimiter (byte count ∷ [])) (escaped_text-by_index delimiter count byte each)
    ∙ ap (λ (last : List ℕ). by_index count byte ++ (last ++ [])) (each count)

escaped-hex_digit : (delimiter digit : ℕ) → digit < 16 → escaped delimiter (hex_digit lower digit) ≡ hex_digit lower digit ∷ []
escaped-hex_digit delimiter digit small =
    elim (cases_lt digit 10) [
      | inl number ↦ rw (lt-ltb digit 10 number) (escaped-plain delimiter (48 + digit) (omega arith, omega arith))
      | inr letter ↦ rw (le-ltb digit 10 letter) (escaped-small_letter delimiter (lower + digit - 10) (omega arith, omega arith))
    ]

-- a UUID is written as it is
pub escaped_text-uuid_text : (delimiter first second : ℕ) → escaped_text delimiter (uuid_text first second) ≡ uuid_text first second
unfolding uuid_text
escaped_text-uuid_text delimiter first second =
    escaped_text-by_index delimiter 36 _ (λ k.
    elim (is_hyphen_place k) as (λ test. escaped delimiter (if test then hyphen else hex_digit lower (nibble (uuid_bytes first second) (digit_place k)))
    ≡ (if test then hyphen else hex_digit lower (nibble (uuid_bytes first second) (digit_place k))) ∷ []) [
      | true ↦ escaped-plain delimiter hyphen (omega arith, omega arith)
      | false ↦ escaped-hex_digit delimiter (nibble (uuid_bytes first second) (digit_place k)) (nibble_small (uuid_bytes first second) (digit_place k))
    ])

-- ---- the bytes

small_byte : (i n : ℕ) → byte_at i n < 256
small_byte zero n = omega arith
small_byte (suc i) n = let shifted : ℕ = n / 256 ^ suc i in let small : shifted % 256 < 256 = omega arith in small

small_bytes : (count n : ℕ) → All (λ byte. byte < 256) (bytes_high_first count n)
small_bytes zero n = All-nil (λ byte. byte < 256)
small_bytes (suc count) n = All-cons (λ byte. byte < 256) (byte_at count n) (bytes_high_first count n) (small_byte count n) (small_bytes count n)

small_uuid_bytes : (first second : ℕ) → All (λ byte. byte < 256) (uuid_bytes first second)
small_uuid_bytes first second =
    let random : List ℕ = random_bytes first second in
    let varied : List ℕ = with_variant random RFC4122 in
    All-set (λ byte. byte < 256) varied 6 (slice_index varied 6 % 16 + 64) (omega arith)
    (All-set (λ byte. byte < 256) random 8 (slice_index random 8 % 64 + 128) (omega arith)
    (All-append (λ byte. byte < 256) (to_be_bytes w64 first) (to_be_bytes w64 second) (small_bytes 8 first) (small_bytes 8 second)))

-- the text of a UUID reads back as its bytes
pub parsed-uuid_text : (first second : ℕ) → parsed (uuid_text first second) ≡ Some (uuid_bytes first second)
unfolding uuid_text
parsed-uuid_text first second = sym (parses_hyphenated lower (uuid_bytes first second) (inl refl) refl (small_uuid_bytes first second))

pub version-uuid_bytes : (first second : ℕ) → version_num (uuid_bytes first second) ≡ 4
version-uuid_bytes first second = let byte : ℕ = byte_at 1 first in let is : (byte % 16 + 4 * 16) / 16 ≡ 4 = omega arith in is

variant-byte : (byte : ℕ) → variant_of (byte % 64 + 128) ≡ RFC4122
variant-byte byte = rw (le-ltb (byte % 64 + 128) 128 (omega arith), lt-ltb (byte % 64 + 128) 192 (omega arith)) refl

pub variant-uuid_bytes : (first second : ℕ) → variant_of (slice_index (uuid_bytes first second) 8) ≡ RFC4122
variant-uuid_bytes first second = variant-byte (byte_at 7 second)
