use Rattle.std.proofs.Common.{◌≡◌, ◌++◌, ◌∷◌, [], ℕ, List, Some, ap, arith, decimal, length, length-append, ◌∙◌}
use Rattle.std.specs.Prelude.{codes}
use Rattle.line_pages.specs.Pages.{Page}
use Rattle.line_pages.specs.Pieces.{piece_text}
use Rattle.row_text.specs.Lines.{line_text}
use Rattle.detail_lines.specs.Made.{LinesOver, delimiter_over, made_key_line, place_over}
use Rattle.detail_lines.proofs.LineLemmas.{key_line-joined}
use Rattle.detail_lines.proofs.LineSizeLemmas.{line-rooms}
use Rattle.detail_lines.proofs.ToldLemmas.{key-told}
use Rattle.detail_lines.proofs.TextLemmas.{put-twice}
use Rattle.detail_lines.proofs.detail_lines.DetailLines.put_key_line.Goals as goal
use Rattle.detail_lines.proofs.detail_lines.DetailLines.put_key_line.Goals.{After-put_piece}

pub put_head-requires-clause-room : goal.put_head-requires-clause-room
put_head-requires-clause-room c = omega (arith, c.requires.room, line-rooms c.args.self.now c.declared-limits.ensures.keeps c.declared-limits.ensures.limits)

pub put_piece-requires : goal.put_piece-requires
put_piece-requires c =
    omega (
      arith,
      c.requires.room,
      line-rooms c.args.self.now c.declared-limits.ensures.keeps c.declared-limits.ensures.limits,
      ap (λ (page : Page). length page.text) c.put_head.ensures.text,
      ap (λ (page : Page). page.room) c.put_head.ensures.text,
      length-append c.args.page.now.text (decimal c.args.row.now.key ++ c.delimiter.result ∷ decimal c.args.number),
      c.put_head.ensures.size,
      ap (λ (text : List ℕ). length text) c.of_byte.ensures,
    )

abbrev head : After-put_piece → List ℕ
head c = decimal c.args.row.now.key ++ c.delimiter.result ∷ decimal c.args.number

line_is : (c : After-put_piece) → head c ++ piece_text c.of_byte.result ≡ made_key_line c.args.self.now c.args.t c.args.row.now.ordinal c.args.number
line_is c =
    let over : LinesOver = c.args.self.now in
    let d : ℕ = delimiter_over over in
    let number : ℕ = c.args.number in
    ap (λ (end : List ℕ). head c ++ end) c.of_byte.ensures
    ∙ ap (λ (byte : ℕ). (decimal c.args.row.now.key ++ byte ∷ decimal number) ++ 10 ∷ []) c.delimiter.ensures
    ∙ key_line-joined d c.args.row.now.key number c.put_head.ensures.key (omega (arith, c.requires.number))
    ∙ ap (λ (key : ℕ). line_text d (Some (decimal key) ∷ Some (decimal number) ∷ []) ++ codes "\n")
    (key-told over.plan (place_over over) c.args.t c.args.row.now.ordinal c.args.row.now.key c.requires.unit c.requires.told.ordinal c.requires.told.key)

pub returns-clause-text : goal.returns-clause-text
returns-clause-text c =
    put-twice c.args.page.now c.put_head.new.page c.put_piece.new.self (head c) (piece_text c.of_byte.result) _ c.put_head.ensures.text c.put_piece.ensures (line_is c)

pub returns-clause-size : goal.returns-clause-size
returns-clause-size c =
    omega (
      arith,
      ap (λ (text : List ℕ). length text) (line_is c),
      length-append (head c) (piece_text c.of_byte.result),
      ap (λ (text : List ℕ). length text) c.of_byte.ensures,
      c.put_head.ensures.size,
      line-rooms c.args.self.now c.declared-limits.ensures.keeps c.declared-limits.ensures.limits,
    )
