use Rattle.std.proofs.Common.{◌≡◌, ◌++◌, List, ℕ, [], ◌∷◌, length, ap, sym, ◌∙◌, arith}
use Rattle.sql_lines.specs.Literals.{text_byte}
use Rattle.sql_lines.proofs.ReadingLemmas.{bare-itself, other-itself, two-quotes}
use Rattle.sql_lines.proofs.written.put_byte.Goals as goal
use Rattle.sql_lines.proofs.written.put_byte.Goals.{else-byte-eq-QUOTE-via-then-byte-eq-QUOTE+else-not-bare, else-byte-eq-QUOTE-via-else-byte-eq-QUOTE}

pub put-requires : goal.put-requires
put-requires c = omega (arith, c.requires, ap length (two-quotes c.args.bare c.args.byte c.if-byte-eq-QUOTE.true c.if-not-bare.true))

pub put-requires-else-byte-eq-QUOTE : goal.put-requires-else-byte-eq-QUOTE
put-requires-else-byte-eq-QUOTE c = elim c.else-byte-eq-QUOTE.branch [
  | else-byte-eq-QUOTE-via-then-byte-eq-QUOTE+else-not-bare w ↦ omega (arith, c.requires, ap length (bare-itself c.args.bare c.args.byte w.if-not-bare.false))
  | else-byte-eq-QUOTE-via-else-byte-eq-QUOTE w ↦ omega (arith, c.requires, ap length (other-itself c.args.bare c.args.byte w.if-byte-eq-QUOTE.false))
]

pub returns-then-not-bare : goal.returns-then-not-bare
returns-then-not-bare c =
    c.put.ensures
    ∙ ap (λ (piece : List ℕ). record c.args.buf.now { text = c.args.buf.now.text ++ piece }) (sym (two-quotes c.args.bare c.args.byte c.if-byte-eq-QUOTE.true c.if-not-bare.true))

pub returns-else-byte-eq-QUOTE : goal.returns-else-byte-eq-QUOTE
returns-else-byte-eq-QUOTE c =
    let itself : text_byte c.args.bare c.args.byte ≡ c.args.byte ∷ [] = elim c.else-byte-eq-QUOTE.branch [
      | else-byte-eq-QUOTE-via-then-byte-eq-QUOTE+else-not-bare w ↦ bare-itself c.args.bare c.args.byte w.if-not-bare.false
      | else-byte-eq-QUOTE-via-else-byte-eq-QUOTE w ↦ other-itself c.args.bare c.args.byte w.if-byte-eq-QUOTE.false
    ] in
    c.put-else-byte-eq-QUOTE.ensures ∙ ap (λ (piece : List ℕ). record c.args.buf.now { text = c.args.buf.now.text ++ piece }) (sym itself)
