use Rattle.std.proofs.Common.{◌≡◌, ◌+ℤ◌, ◌*◌, ◌++◌, ℕ, ℤ, pos, List, get_or, w32, w64, to_z, of_z, ap, ◌∙◌, arith}
use Rattle.std.proofs.lemmas.Int.{ints, to_z-of_z}
use Rattle.line_pages.specs.Pieces.{piece_text}
use Rattle.schema_plan.specs.Limits.{IsDateRange}
use Rattle.draw_values.specs.Dates.{date_text}
use Rattle.draw_values.specs.Runs.{with_behind}
use Rattle.draw_values.proofs.PieceLemmas.{text-written}
use Rattle.draw_values.proofs.ShortNumberLemmas.{day_back}
use Rattle.draw_values.proofs.unit_dates.fill_days_of_units.Goals as goal
use Rattle.draw_values.proofs.unit_dates.fill_days_of_units.Goals.{After-day_of_unit-day}

start_back : (c : After-day_of_unit-day) → to_z w32 (of_z w32 c.args.start) ≡ c.args.start
start_back c = to_z-of_z w32 c.args.start c.ranges.start

day_is : (c : After-day_of_unit-day) → c.day_of_unit-day.result ≡ c.args.start +ℤ pos (c.args.step * get_or c.args.units.now c.loop-i.i 0)
day_is c = c.day_of_unit-day.ensures ∙ ap (λ (start : ℤ). start +ℤ pos (c.args.step * get_or c.args.units.now c.loop-i.i 0)) (start_back c)

value_back : (c : After-day_of_unit-day) → to_z w64 (of_z w64 c.day_of_unit-day.result) ≡ c.day_of_unit-day.result
value_back c =
    let days : IsDateRange c.args.start (c.args.start +ℤ pos (c.args.step * get_or c.args.units.now c.loop-i.i 0)) = c.requires.days c.loop-i.i (omega (arith, c.requires.lengths, c.loop-i-test.true)) in
    day_back c.args.start (c.args.start +ℤ pos (c.args.step * get_or c.args.units.now c.loop-i.i 0)) c.day_of_unit-day.result days.first_day
    (omega (arith, ints, day_is c)) (omega (arith, ints, day_is c)) days.last_day

pub loop-i-preserved : goal.loop-i-preserved
loop-i-preserved c =
    let start : ℤ = to_z w32 (of_z w32 c.args.start) in
    text-written (λ (k : ℕ). with_behind c.args.behind (date_text (start +ℤ pos (c.args.step * get_or c.args.units.now k 0)))) c.loop-i.pieces c.loop-i.i c.day_piece.result (omega arith) c.loop-i.invariant
    (c.day_piece.ensures.text
    ∙ ap (λ (value : ℤ). date_text value ++ piece_text c.of_byte.result) (value_back (goal.at.loop-i-preserved c).After-day_of_unit-day ∙ c.day_of_unit-day.ensures)
    ∙ ap (λ (rest : List ℕ). date_text (start +ℤ pos (c.args.step * get_or c.args.units.now c.loop-i.i 0)) ++ rest) c.of_byte.ensures)
