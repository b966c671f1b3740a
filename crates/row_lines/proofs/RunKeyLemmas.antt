-- Key lines of many rows.
use Rattle.std.proofs.Common.{◌≡◌, ◌<◌, ◌≤◌, ◌^◌, ℕ, ◌+◌, ◌*◌, List, [], ◌∷◌, ◌++◌, Some, append-nil, length, length-append, map, get_or, take, drop, codes, decimal, refl, ap, sym, ◌∙◌, arith}
use Rattle.std.specs.List.{flat_map}
use Rattle.std.proofs.Math.Seq.{take-add}
use Rattle.std.proofs.lemmas.List.{get_or-map, take_more}
use Rattle.std.proofs.lemmas.List.Concat.{flat_map-append}
use Rattle.line_pages.specs.declared.piece.Piece.{Piece}
use Rattle.line_pages.specs.Pieces.{piece_text}
use Rattle.line_pages.specs.Rows.{piece_text_at, row_of_pieces, rows_of_pieces}
use Rattle.row_text.specs.Fields.{field_text}
use Rattle.row_text.proofs.DigitLemmas.{escaped_text-decimal}
use Rattle.schema_facts.specs.Dictionaries.{Project}
use Rattle.schema_plan.specs.Limits.{IsTableInLimits}
use Rattle.life_intervals.specs.Generator.{generator_of, last_unit, rows_in_all, table_of}
use Rattle.life_intervals.specs.Keys.{key_of}
use Rattle.life_intervals.proofs.KeyLemmas.{OrdersCohorts-generator_of, key_of-within}
use Rattle.row_lines.specs.Lines.{key_line_of}
use Rattle.row_lines.specs.Runs.{keys_text}
use Rattle.row_lines.proofs.FieldLemmas.{length-decimal-le_20}
use Rattle.row_lines.proofs.RunListLemmas.{flat_map-indices, flat_map-range_same, length-flat_map_most}

-- a key and a line feed
abbrev pub key_text : ℕ → List ℕ
key_text key = decimal key ++ codes "\n"

-- are the key line of the row
key_line : (plan : Project) (table ordinal key : ℕ) → key ≡ key_of (generator_of plan) table (last_unit plan) ordinal → key < 2 ^ 64 → key_text key ≡ key_line_of (generator_of plan) (last_unit plan) table ordinal
key_line plan table ordinal key is small =
    ap (λ (text : List ℕ). text ++ codes "\n")
    (sym (escaped_text-decimal (generator_of plan).delimiter key small) ∙ ap (λ (k : ℕ). field_text (generator_of plan).delimiter (Some (decimal k))) is)

pub keys-lines : (plan : Project) (table : ℕ) (ordinals keys : List ℕ) → length keys ≡ length ordinals →
    ((i : ℕ) → i < length ordinals → get_or keys i 0 ≡ key_of (generator_of plan) table (last_unit plan) (get_or ordinals i 0)) → ((i : ℕ) → i < length ordinals → get_or keys i 0 < 2 ^ 63) →
    flat_map key_text keys ≡ keys_text plan table ordinals
keys-lines plan table ordinals keys many each small =
    sym (flat_map-indices key_text keys (length ordinals) 0 many)
    ∙ flat_map-range_same (λ i. key_text (get_or keys i 0)) (λ i. key_line_of (generator_of plan) (last_unit plan) table (get_or ordinals i 0)) 0 (length ordinals)
    (λ k below.
    let inside : 0 + k < length ordinals = omega (arith, below) in
    key_line plan table (get_or ordinals (0 + k) 0) (get_or keys (0 + k) 0) (each (0 + k) inside) (omega (arith, small (0 + k) inside)))
    ∙ flat_map-indices (key_line_of (generator_of plan) (last_unit plan) table) ordinals (length ordinals) 0 refl

-- each has at most 21 bytes
pub keys-size : (plan : Project) (table : ℕ) (ordinals keys : List ℕ) → length keys ≡ length ordinals →
    ((i : ℕ) → i < length ordinals → get_or keys i 0 ≡ key_of (generator_of plan) table (last_unit plan) (get_or ordinals i 0)) → ((i : ℕ) → i < length ordinals → get_or keys i 0 < 2 ^ 63) →
    length (keys_text plan table ordinals) ≤ length ordinals * 21
keys-size plan table ordinals keys many each small =
    length-flat_map_most (key_line_of (generator_of plan) (last_unit plan) table) 21 ordinals 0
    (λ i below. omega (
      arith,
      ap (λ (text : List ℕ). length text) (key_line plan table (get_or ordinals i 0) (get_or keys i 0) (each i below) (omega (arith, small i below))),
      length-append (decimal (get_or keys i 0)) (codes "\n"),
      length-decimal-le_20 (get_or keys i 0) (omega (arith, small i below)),
    ))

-- a column of pieces, line by line
pub keys-rows : (keys : List ℕ) (pieces : List Piece) (count : ℕ) → map piece_text pieces ≡ map (λ number. decimal number ++ 10 ∷ []) keys → length keys ≡ count →
    rows_of_pieces pieces 1 count count ≡ flat_map key_text keys
keys-rows keys pieces count are many =
    flat_map-range_same (row_of_pieces pieces 1 count) (λ i. key_text (get_or keys i 0)) 0 count
    (λ k below.
    let first : 0 * count + (0 + k) ≡ 0 + k = omega arith in
    append-nil (piece_text_at pieces (0 * count + (0 + k)))
    ∙ ap (piece_text_at pieces) first
    ∙ ap (λ (texts : List (List ℕ)). get_or texts (0 + k) []) are
    ∙ get_or-map (λ number. decimal number ++ 10 ∷ []) keys (0 + k) 0 [] (omega (arith, below, many)))
    ∙ flat_map-indices key_text keys count 0 many

-- ---- one after the other

pub keys_text-part : (plan : Project) (table : ℕ) (ordinals : List ℕ) (done some : ℕ) → keys_text plan table (take done ordinals) ++ keys_text plan table (take some (drop done ordinals)) ≡ keys_text plan table (take (done + some) ordinals)
keys_text-part plan table ordinals done some =
    sym (flat_map-append (key_line_of (generator_of plan) (last_unit plan) table) (take done ordinals) (take some (drop done ordinals)))
    ∙ ap (keys_text plan table) (sym (take-add done some ordinals))

pub key_texts-more : (keys : List ℕ) (row : ℕ) → row < length keys → flat_map key_text (take row keys) ++ key_text (get_or keys row 0) ≡ flat_map key_text (take (row + 1) keys)
key_texts-more keys row below =
    ap (λ (text : List ℕ). flat_map key_text (take row keys) ++ text) (sym (append-nil (key_text (get_or keys row 0))))
    ∙ sym (flat_map-append key_text (take row keys) (get_or keys row 0 ∷ []))
    ∙ ap (flat_map key_text) (sym (take_more keys row 0 below))

-- keys are far below 2^64
pub keys-limit : (plan : Project) (table : ℕ) (ordinals keys : List ℕ) → IsTableInLimits (last_unit plan) (table_of plan table) → ((i : ℕ) → i < length ordinals → get_or ordinals i 0 < rows_in_all plan table) →
    ((i : ℕ) → i < length ordinals → get_or keys i 0 ≡ key_of (generator_of plan) table (last_unit plan) (get_or ordinals i 0)) → (i : ℕ) → i < length ordinals → get_or keys i 0 < 2 ^ 63
keys-limit plan table ordinals keys limits within each i below =
    omega (
      arith,
      each i below,
      key_of-within (generator_of plan) table (OrdersCohorts-generator_of plan table) (last_unit plan) (get_or ordinals i 0) (within i below),
      limits.base_limit,
      limits.births.row_limit,
    )
