use Rattle.std.proofs.Common.{◌≡◌, ◌+◌, ◌++◌, ◌∷◌, [], ◌<◌, ℕ, List, refl, get_or, ap, arith, decimal, length, length-append, append_assoc, ◌∙◌, codes}
use Rattle.line_pages.specs.Pieces.{piece_text}
use Rattle.schema_facts.specs.Dictionaries.{Project}
use Rattle.schema_facts.specs.Layout.{layout_of}
use Rattle.schema_facts.specs.TableFacts.{max_line}
use Rattle.row_lines.specs.Runs.{RunLinesOf, line_for}
use Rattle.row_lines.proofs.FieldLemmas.{length-decimal-le_20}
use Rattle.undo_streams.specs.Packages.{most_bytes}
use Rattle.undo_streams.specs.Parts.{adding}
use Rattle.undo_streams.proofs.ListLemmas.{page-length, page-room, page-two}
use Rattle.undo_streams.proofs.undo_packer.put_add.Goals as goal

most : (plan : Project) (table : ℕ) → most_bytes plan table ≡ 26 + max_line (layout_of plan) table
most plan table = refl

word_size : (plan : Project) → length (codes "add" ++ (layout_of plan).delimiter ∷ []) ≡ 4
word_size plan = refl

byte_size : (plan : Project) → length ((layout_of plan).delimiter ∷ []) ≡ 1
byte_size plan = refl

pub put_number-requires : goal.put_number-requires
put_number-requires g c =
    omega (
      arith,
      length-decimal-le_20 c.args.place c.ranges.place.fits,
      c.requires.room,
      most c.args.before.now.plan c.args.before.now.table,
      page-length c.args.page.now c.put_piece.new.self _ c.put_piece.ensures,
      page-room c.args.page.now c.put_piece.new.self _ c.put_piece.ensures,
      ap (λ (bytes : List ℕ). length bytes) c.requires.word,
      word_size c.args.before.now.plan,
    )

pub put_piece-requires-2 : goal.put_piece-requires-2
put_piece-requires-2 g c =
    omega (
      arith,
      length-decimal-le_20 c.args.place c.ranges.place.fits,
      c.requires.room,
      most c.args.before.now.plan c.args.before.now.table,
      page-length c.args.page.now c.put_piece.new.self _ c.put_piece.ensures,
      page-room c.args.page.now c.put_piece.new.self _ c.put_piece.ensures,
      page-length c.put_piece.new.self c.put_number.new.self _ c.put_number.ensures,
      page-room c.put_piece.new.self c.put_number.new.self _ c.put_number.ensures,
      ap (λ (bytes : List ℕ). length bytes) c.requires.word,
      ap (λ (bytes : List ℕ). length bytes) c.requires.delimiter,
      word_size c.args.before.now.plan,
      byte_size c.args.before.now.plan,
    )

pub put_row-requires-clause-room : goal.put_row-requires-clause-room
put_row-requires-clause-room g c =
    omega (
      arith,
      length-decimal-le_20 c.args.place c.ranges.place.fits,
      c.requires.room,
      most c.args.before.now.plan c.args.before.now.table,
      page-length c.args.page.now c.put_piece.new.self _ c.put_piece.ensures,
      page-room c.args.page.now c.put_piece.new.self _ c.put_piece.ensures,
      page-length c.put_piece.new.self c.put_number.new.self _ c.put_number.ensures,
      page-room c.put_piece.new.self c.put_number.new.self _ c.put_number.ensures,
      page-length c.put_number.new.self c.put_piece-2.new.self _ c.put_piece-2.ensures,
      page-room c.put_number.new.self c.put_piece-2.new.self _ c.put_piece-2.ensures,
      ap (λ (bytes : List ℕ). length bytes) c.requires.word,
      ap (λ (bytes : List ℕ). length bytes) c.requires.delimiter,
      word_size c.args.before.now.plan,
      byte_size c.args.before.now.plan,
    )

pub returns-clause-text : goal.returns-clause-text
returns-clause-text g c =
    let lines : RunLinesOf = c.args.before.now in
    let delimiter : ℕ = (layout_of lines.plan).delimiter in
    let digits : List ℕ = decimal c.args.place in
    let row : List ℕ = line_for lines (get_or c.args.ordinals.now c.args.i 0) in
    let word : List ℕ = piece_text c.args.word.now in
    let behind : List ℕ = piece_text c.args.delimiter.now in
    let two = page-two c.args.page.now c.put_piece.new.self c.put_number.new.self word digits c.put_piece.ensures c.put_number.ensures in
    let three = page-two c.args.page.now c.put_number.new.self c.put_piece-2.new.self (word ++ digits) behind two c.put_piece-2.ensures in
    page-two c.args.page.now c.put_piece-2.new.self c.put_row.new.page ((word ++ digits) ++ behind) row three c.put_row.ensures.text
    ∙ ap (λ (text : List ℕ). record { text = c.args.page.now.text ++ text; room = c.args.page.now.room })
    (ap (λ (w : List ℕ). ((w ++ digits) ++ behind) ++ row) c.requires.word
    ∙ ap (λ (b : List ℕ). (((codes "add" ++ delimiter ∷ []) ++ digits) ++ b) ++ row) c.requires.delimiter
    ∙ ap (λ (rest : List ℕ). codes "add" ++ delimiter ∷ rest) (append_assoc digits (delimiter ∷ []) row))

pub returns-clause-size : goal.returns-clause-size
returns-clause-size g c =
    let lines : RunLinesOf = c.args.before.now in
    let delimiter : ℕ = (layout_of lines.plan).delimiter in
    let digits : List ℕ = decimal c.args.place in
    let row : List ℕ = line_for lines (get_or c.args.ordinals.now c.args.i 0) in
    omega (arith, length-decimal-le_20 c.args.place c.ranges.place.fits, most lines.plan lines.table, length-append digits (delimiter ∷ row), c.put_row.ensures.size)
