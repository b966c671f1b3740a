use Rattle.std.proofs.Common.{◌≡◌, ◌++◌, List, ℕ, [], ◌∷◌, length, length-append, append_assoc, ap, sym, ◌∙◌, arith}
use Rattle.line_pages.specs.Pages.{Page}
use Rattle.line_pages.specs.Pieces.{low_bytes}
use Rattle.sql_lines.proofs.ReadingLemmas.{plain-literal-bare, plain-literal-between}
use Rattle.sql_lines.proofs.written.put_plain.Goals as goal

pub put-requires : goal.put-requires
put-requires c = omega (arith, c.requires.room, ap length (plain-literal-bare c.args.bare c.args.written.now c.if-bare.true c.requires.plain))

pub put-requires-else-bare : goal.put-requires-else-bare
put-requires-else-bare c =
    omega (
      arith,
      c.requires.room,
      ap length (plain-literal-between c.args.bare c.args.written.now c.if-bare.false c.requires.plain),
      length-append c.args.written.now (39 ∷ []),
      ap (λ (page : Page). length page.text) c.put_piece.ensures,
      ap (λ (page : Page). page.room) c.put_piece.ensures,
      length-append c.args.buf.now.text (low_bytes c.of_byte.result.len c.of_byte.result.word),
      ap length c.of_byte.ensures,
    )

pub put_piece-requires-else-bare : goal.put_piece-requires-else-bare
put_piece-requires-else-bare c =
    omega (
      arith,
      c.requires.room,
      ap length (plain-literal-between c.args.bare c.args.written.now c.if-bare.false c.requires.plain),
      length-append c.args.written.now (39 ∷ []),
      ap (λ (page : Page). length page.text) c.put-else-bare.ensures,
      ap (λ (page : Page). page.room) c.put-else-bare.ensures,
      length-append c.put_piece.new.self.text c.args.written.now,
      ap (λ (page : Page). length page.text) c.put_piece.ensures,
      ap (λ (page : Page). page.room) c.put_piece.ensures,
      length-append c.args.buf.now.text (low_bytes c.of_byte.result.len c.of_byte.result.word),
      ap length c.of_byte.ensures,
      ap length c.of_byte-else-bare.ensures,
    )

pub returns-then-bare : goal.returns-then-bare
returns-then-bare c =
    c.put.ensures
    ∙ ap (λ (piece : List ℕ). record c.args.buf.now { text = c.args.buf.now.text ++ piece }) (sym (plain-literal-bare c.args.bare c.args.written.now c.if-bare.true c.requires.plain))

pub returns-else-bare : goal.returns-else-bare
returns-else-bare c =
    let first : c.put_piece.new.self ≡ record c.args.buf.now { text = c.args.buf.now.text ++ 39 ∷ [] } =
    c.put_piece.ensures ∙ ap (λ (piece : List ℕ). record c.args.buf.now { text = c.args.buf.now.text ++ piece }) c.of_byte.ensures in
    let second : c.put-else-bare.new.self ≡ record c.args.buf.now { text = (c.args.buf.now.text ++ 39 ∷ []) ++ c.args.written.now } =
    c.put-else-bare.ensures ∙ ap (λ (page : Page). record page { text = page.text ++ c.args.written.now }) first in
    let third : c.put_piece-else-bare.new.self ≡ record c.args.buf.now { text = ((c.args.buf.now.text ++ 39 ∷ []) ++ c.args.written.now) ++ 39 ∷ [] } =
    c.put_piece-else-bare.ensures
    ∙ ap (λ (piece : List ℕ). record c.put-else-bare.new.self { text = c.put-else-bare.new.self.text ++ piece }) c.of_byte-else-bare.ensures
    ∙ ap (λ (page : Page). record page { text = page.text ++ 39 ∷ [] }) second in
    third
    ∙ ap (λ (text : List ℕ). record c.args.buf.now { text = text ++ 39 ∷ [] }) (append_assoc c.args.buf.now.text (39 ∷ []) c.args.written.now)
    ∙ ap (λ (text : List ℕ). record c.args.buf.now { text = text }) (append_assoc c.args.buf.now.text (39 ∷ c.args.written.now) (39 ∷ []))
    ∙ ap (λ (piece : List ℕ). record c.args.buf.now { text = c.args.buf.now.text ++ piece }) (sym (plain-literal-between c.args.bare c.args.written.now c.if-bare.false c.requires.plain))
