use Rattle.std.proofs.Common.{◌++◌, ℕ, ℤ, List, get_or, pos, ap, ◌∙◌, arith}
use Rattle.std.proofs.lemmas.Int.{ints}
use Rattle.line_pages.specs.Pieces.{piece_text}
use Rattle.schema_facts.specs.Ends.{IsInCalendar}
use Rattle.draw_values.specs.Dates.{date_text}
use Rattle.draw_values.specs.Runs.{with_behind}
use Rattle.draw_values.proofs.PieceLemmas.{text-written}
use Rattle.draw_values.proofs.ShortNumberLemmas.{back}
use Rattle.draw_values.proofs.run_numbers.fill_dates_of.Goals as goal

pub loop-i-preserved : goal.loop-i-preserved
loop-i-preserved c =
    let day : ℤ = get_or c.args.days.now c.loop-i.i (pos 0) in
    let calendar : IsInCalendar day = c.requires.days c.loop-i.i (omega (arith, c.requires.lengths, c.loop-i-test.true)) in
    text-written (λ (k : ℕ). with_behind c.args.behind (date_text (get_or c.args.days.now k (pos 0)))) c.loop-i.pieces c.loop-i.i c.day_piece.result (omega arith) c.loop-i.invariant
    (c.day_piece.ensures.text
    ∙ ap (λ (value : ℤ). date_text value ++ piece_text c.of_byte.result) (back day (omega (arith, ints, calendar.from, calendar.to)))
    ∙ ap (λ (rest : List ℕ). date_text day ++ rest) c.of_byte.ensures)
