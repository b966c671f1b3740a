use Rattle.std.proofs.Common.{◌≡◌, ◌+◌, ◌++◌, ◌∷◌, [], ◌<◌, ◌^◌, ℕ, List, Some, refl, sym, ap, arith, decimal, length, length-append, ◌∙◌, codes}
use Rattle.line_pages.specs.Pages.{Page}
use Rattle.line_pages.specs.Pieces.{piece_text}
use Rattle.row_text.specs.Fields.{field_text}
use Rattle.row_text.proofs.DigitLemmas.{escaped_text-decimal}
use Rattle.schema_facts.specs.Dictionaries.{Project}
use Rattle.schema_facts.specs.Layout.{layout_of}
use Rattle.schema_facts.specs.TableFacts.{max_line}
use Rattle.life_intervals.specs.Generator.{Generator, generator_of, last_unit}
use Rattle.life_intervals.specs.Keys.{key_of}
use Rattle.row_lines.specs.Lines.{key_line_of}
use Rattle.row_lines.proofs.FieldLemmas.{length-decimal-le_20}
use Rattle.undo_streams.specs.Packages.{most_bytes}
use Rattle.undo_streams.proofs.ListLemmas.{page-length, page-room, page-two}
use Rattle.undo_streams.proofs.undo_packer.put_drop.Goals as goal

most : (plan : Project) (table : ℕ) → most_bytes plan table ≡ 26 + max_line (layout_of plan) table
most plan table = refl

word_size : (plan : Project) → length (codes "drop" ++ (layout_of plan).delimiter ∷ []) ≡ 5
word_size plan = refl

pub put_number-requires : goal.put_number-requires
put_number-requires g c =
    omega (
      arith,
      length-decimal-le_20 c.key.result c.key.type_inv,
      c.requires.room,
      most c.args.rows.now c.args.table,
      page-length c.args.page.now c.put_piece.new.self _ c.put_piece.ensures,
      page-room c.args.page.now c.put_piece.new.self _ c.put_piece.ensures,
      ap (λ (bytes : List ℕ). length bytes) c.requires.word,
      word_size c.args.rows.now,
    )

pub put_piece-requires-2 : goal.put_piece-requires-2
put_piece-requires-2 g c =
    omega (
      arith,
      length-decimal-le_20 c.key.result c.key.type_inv,
      c.requires.room,
      most c.args.rows.now c.args.table,
      page-length c.args.page.now c.put_piece.new.self _ c.put_piece.ensures,
      page-room c.args.page.now c.put_piece.new.self _ c.put_piece.ensures,
      page-length c.put_piece.new.self c.put_number.new.self _ c.put_number.ensures,
      page-room c.put_piece.new.self c.put_number.new.self _ c.put_number.ensures,
      ap (λ (bytes : List ℕ). length bytes) c.requires.word,
      ap (λ (bytes : List ℕ). length bytes) c.of_byte.ensures,
      word_size c.args.rows.now,
    )

-- the key line, as it is written
written-key : (generator : Generator) (last table j key : ℕ) → key ≡ key_of generator table last j → key < 2 ^ 64 → decimal key ++ codes "\n" ≡ key_line_of generator last table j
written-key generator last table j key is small =
    ap (λ (bytes : List ℕ). bytes ++ codes "\n")
    (sym (escaped_text-decimal generator.delimiter key small) ∙ ap (λ (k : ℕ). field_text generator.delimiter (Some (decimal k))) is)

pub returns-clause-text : goal.returns-clause-text
returns-clause-text g c =
    let plan : Project = c.args.rows.now in
    let delimiter : ℕ = (layout_of plan).delimiter in
    let three = page-two c.args.page.now c.put_number.new.self c.put_piece-2.new.self (piece_text c.args.word.now ++ decimal c.key.result) (piece_text c.of_byte.result)
    (page-two c.args.page.now c.put_piece.new.self c.put_number.new.self (piece_text c.args.word.now) (decimal c.key.result) c.put_piece.ensures c.put_number.ensures) c.put_piece-2.ensures in
    three
    ∙ ap (λ (text : List ℕ). record { text = c.args.page.now.text ++ text; room = c.args.page.now.room })
    (ap (λ (word : List ℕ). (word ++ decimal c.key.result) ++ piece_text c.of_byte.result) c.requires.word
    ∙ ap (λ (end : List ℕ). ((codes "drop" ++ delimiter ∷ []) ++ decimal c.key.result) ++ end) c.of_byte.ensures
    ∙ ap (λ (line : List ℕ). codes "drop" ++ delimiter ∷ line) (written-key (generator_of plan) (last_unit plan) c.args.table c.args.ordinal c.key.result c.key.ensures.key c.key.type_inv))

pub returns-clause-size : goal.returns-clause-size
returns-clause-size g c =
    let plan : Project = c.args.rows.now in
    omega (
      arith,
      length-decimal-le_20 c.key.result c.key.type_inv,
      most c.args.rows.now c.args.table,
      ap (λ (line : List ℕ). length line) (written-key (generator_of plan) (last_unit plan) c.args.table c.args.ordinal c.key.result c.key.ensures.key c.key.type_inv),
      length-append (decimal c.key.result) (codes "\n"),
    )
