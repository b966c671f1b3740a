use Rattle.std.proofs.Common.{◌≡◌, ◌∷◌, [], List, ℕ, Some, false, ap, arith, length, length-append, refl}
use Rattle.line_pages.specs.Pages.{Page}
use Rattle.sql_lines.specs.Literals.{literal, quoted}
use Rattle.statement_tests.proofs.statements.a_literal_is_put.Goals as goal

-- a quote and a backslash take five bytes between quotes
abbrev first : List ℕ
first = literal false (Some (39 ∷ 92 ∷ []))

first-size : length (literal false (Some (39 ∷ 92 ∷ []))) ≡ 5
unfolding quoted
first-size = refl

pub put_literal-requires : goal.put_literal-requires
put_literal-requires g c =
    record { room = omega (arith, first-size, ap (λ (page : Page). length page.text) c.in-Ok.ensures, ap (λ (page : Page). page.room) c.in-Ok.ensures) }

pub put_literal-requires-2 : goal.put_literal-requires-2
put_literal-requires-2 g c =
    record {
      room = omega (
        arith,
        first-size,
        length-append c.in-Ok.page.text first,
        ap (λ (page : Page). length page.text) c.in-Ok.ensures,
        ap (λ (page : Page). page.room) c.in-Ok.ensures,
        ap (λ (page : Page). length page.text) c.put_literal.ensures,
        ap (λ (page : Page). page.room) c.put_literal.ensures,
      );
    }

pub put_literal-requires-3 : goal.put_literal-requires-3
put_literal-requires-3 g c =
    record {
      room = omega (
        arith,
        first-size,
        length-append c.in-Ok.page.text first,
        length-append c.put_literal.new.buf.text (39 ∷ []),
        ap (λ (page : Page). length page.text) c.in-Ok.ensures,
        ap (λ (page : Page). page.room) c.in-Ok.ensures,
        ap (λ (page : Page). length page.text) c.put_literal.ensures,
        ap (λ (page : Page). page.room) c.put_literal.ensures,
        ap (λ (page : Page). length page.text) c.put_literal-2.ensures,
        ap (λ (page : Page). page.room) c.put_literal-2.ensures,
      );
    }
