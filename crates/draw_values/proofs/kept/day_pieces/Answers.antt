use Rattle.std.proofs.Common.{◌≡◌, ◌++◌, ◌+ℤ◌, ℕ, ℤ, pos, List, map, w64, to_z, of_z, ap, ◌∙◌, arith}
use Rattle.std.specs.List.{range_with_len}
use Rattle.std.proofs.lemmas.Int.{ints, to_z-of_z}
use Rattle.line_pages.specs.Pieces.{piece_text}
use Rattle.draw_values.specs.Dates.{date_text}
use Rattle.draw_values.specs.Runs.{with_behind}
use Rattle.draw_values.proofs.KeptLemmas.{choices_more}
use Rattle.draw_values.proofs.ShortNumberLemmas.{day_back}
use Rattle.draw_values.proofs.kept.day_pieces.Goals as goal
use Rattle.draw_values.proofs.kept.day_pieces.Goals.{After-day_past-date}

date_is : (c : After-day_past-date) → to_z w64 (of_z w64 c.day_past-date.result) ≡ to_z w64 (of_z w64 c.args.first) +ℤ pos c.loop-day.day
date_is c =
    let first : to_z w64 (of_z w64 c.args.first) ≡ c.args.first = to_z-of_z w64 c.args.first c.ranges.first in
    let is : c.day_past-date.result ≡ c.args.first +ℤ pos c.loop-day.day = c.day_past-date.ensures ∙ ap (λ (n : ℤ). n +ℤ pos c.loop-day.day) first in
    day_back c.args.first c.day_past-date.result c.day_past-date.result c.requires.first_day (omega (arith, ints)) (omega (arith, ints)) (omega (arith, ints, c.requires.last_day)) ∙ c.day_past-date.ensures

pub loop-day-preserved : goal.loop-day-preserved
loop-day-preserved c =
    let first : ℤ = to_z w64 (of_z w64 c.args.first) in
    ap (map piece_text) c.in_ok-push.ensures.items
    ∙ choices_more c.args.behind (λ (day : ℕ). date_text (first +ℤ pos day)) c.loop-day.day c.loop-day.pieces.items c.day_piece.result c.loop-day.invariant
    (c.day_piece.ensures.text
    ∙ ap (λ (day : ℤ). date_text day ++ piece_text c.of_byte.result) (date_is (goal.at.loop-day-preserved c).After-day_past-date)
    ∙ ap (λ (rest : List ℕ). date_text (first +ℤ pos c.loop-day.day) ++ rest) c.of_byte.ensures)

pub returns : goal.returns
returns c =
    c.loop-day.invariant
    ∙ ap (λ (first : ℤ). map (with_behind c.args.behind) (map (λ day. date_text (first +ℤ pos day)) (range_with_len 0 c.loop-day.day))) (to_z-of_z w64 c.args.first c.ranges.first)
    ∙ ap (λ (n : ℕ). map (with_behind c.args.behind) (map (λ day. date_text (c.args.first +ℤ pos day)) (range_with_len 0 n))) (omega arith)
