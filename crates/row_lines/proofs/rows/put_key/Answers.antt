use Rattle.std.proofs.Common.{◌≡◌, ◌++◌, ◌<◌, ◌^◌, ℕ, List, Some, sym, ap, arith, decimal, length, length-append, append_assoc, ◌∙◌, codes}
use Rattle.line_pages.specs.Pages.{Page}
use Rattle.line_pages.specs.Pieces.{piece_text}
use Rattle.row_text.specs.Fields.{field_text}
use Rattle.row_text.proofs.DigitLemmas.{escaped_text-decimal}
use Rattle.life_intervals.specs.Generator.{Generator, generator_of, last_unit}
use Rattle.life_intervals.specs.Keys.{key_of}
use Rattle.row_lines.proofs.FieldLemmas.{length-decimal-le_20}
use Rattle.row_lines.proofs.rows.put_key.Goals as goal

pub put_number-requires : goal.put_number-requires
put_number-requires g c = omega (arith, length-decimal-le_20 c.key.result c.key.type_inv, c.requires.room)

pub put_piece-requires : goal.put_piece-requires
put_piece-requires g c =
    omega (
      arith,
      length-decimal-le_20 c.key.result c.key.type_inv,
      c.requires.room,
      ap (λ (page : Page). length page.text) c.put_number.ensures,
      ap (λ (page : Page). page.room) c.put_number.ensures,
      length-append c.args.buf.now.text (decimal c.key.result),
      ap (λ (bytes : List ℕ). length bytes) c.of_byte.ensures,
    )

-- the key as it is written
abbrev written : Generator → ℕ → ℕ → ℕ → List ℕ
written generator last table j = field_text generator.delimiter (Some (decimal (key_of generator table last j)))

written-key : (generator : Generator) (last table j key : ℕ) → key ≡ key_of generator table last j → key < 2 ^ 64 → decimal key ≡ written generator last table j
written-key generator last table j key is small =
    sym (escaped_text-decimal generator.delimiter key small) ∙ ap (λ (k : ℕ). field_text generator.delimiter (Some (decimal k))) is

pub returns-clause-line : goal.returns-clause-line
returns-clause-line g c =
    let project = c.args.plan.now in
    c.put_piece.ensures
    ∙ ap (λ (page : Page). record { text = page.text ++ piece_text c.of_byte.result; room = page.room }) c.put_number.ensures
    ∙ ap (λ (end : List ℕ). record { text = (c.args.buf.now.text ++ decimal c.key.result) ++ end; room = c.args.buf.now.room }) c.of_byte.ensures
    ∙ ap (λ (text : List ℕ). record { text = text; room = c.args.buf.now.room })
    (append_assoc c.args.buf.now.text (decimal c.key.result) (codes "\n")
    ∙ ap (λ (key : List ℕ). c.args.buf.now.text ++ (key ++ codes "\n")) (written-key (generator_of project) (last_unit project) c.args.table c.args.j c.key.result c.key.ensures.key c.key.type_inv))

pub returns-clause-size : goal.returns-clause-size
returns-clause-size g c =
    let project = c.args.plan.now in
    omega (
      arith,
      length-decimal-le_20 c.key.result c.key.type_inv,
      ap (λ (key : List ℕ). length key) (written-key (generator_of project) (last_unit project) c.args.table c.args.j c.key.result c.key.ensures.key c.key.type_inv),
      length-append (written (generator_of project) (last_unit project) c.args.table c.args.j) (codes "\n"),
    )
