use Rattle.std.proofs.Common.{◌≡◌, ◌++◌, List, ℕ, false, length, ap, sym, ◌∙◌, arith}
use Rattle.sql_lines.specs.Reading.{is_null}
use Rattle.sql_lines.proofs.ReadingLemmas.{read-literal-bare}
use Rattle.sql_lines.proofs.written.put_unplain.Goals as goal

pub put_text-requires : goal.put_text-requires
put_text-requires c =
    let no_null : is_null c.args.written.now ≡ false = sym c.is_null.ensures ∙ c.if-is_null.false in
    omega (arith, c.requires.room, ap length (read-literal-bare c.args.bare c.args.written.now c.if-bare.true no_null))

pub returns-then-bare : goal.returns-then-bare
returns-then-bare c =
    let no_null : is_null c.args.written.now ≡ false = sym c.is_null.ensures ∙ c.if-is_null.false in
    c.put_text.ensures
    ∙ ap (λ (piece : List ℕ). record c.args.buf.now { text = c.args.buf.now.text ++ piece }) (sym (read-literal-bare c.args.bare c.args.written.now c.if-bare.true no_null))
