use Rattle.std.proofs.Common.{◌≡◌, ◌≤ℤ◌, ◌++◌, ℕ, ℤ, List, get_or, w64, to_z, of_z, ap, subst, ◌∙◌, arith}
use Rattle.std.proofs.lemmas.Int.{to_z-of_z}
use Rattle.line_pages.specs.Pieces.{piece_text}
use Rattle.draw_values.specs.Dates.{date_text}
use Rattle.draw_values.specs.Runs.{with_behind}
use Rattle.draw_values.specs.Values.{chosen}
use Rattle.draw_values.proofs.PieceLemmas.{text-written}
use Rattle.draw_values.proofs.ShortNumberLemmas.{day_back}
use Rattle.draw_values.proofs.run_pieces.fill_days.Goals as goal
use Rattle.draw_values.proofs.run_pieces.fill_days.Goals.{After-chosen-day}

value_back : (c : After-chosen-day) → to_z w64 (of_z w64 c.chosen-day.result) ≡ c.chosen-day.result
value_back c =
    let lo : to_z w64 (of_z w64 c.args.lo) ≡ c.args.lo = to_z-of_z w64 c.args.lo c.ranges.lo in
    let hi : to_z w64 (of_z w64 c.args.hi) ≡ c.args.hi = to_z-of_z w64 c.args.hi c.ranges.hi in
    let least : c.args.lo ≤ℤ c.chosen-day.result = subst (λ (n : ℤ). n ≤ℤ c.chosen-day.result) lo c.chosen-day.ensures.least in
    let greatest : c.chosen-day.result ≤ℤ c.args.hi = subst (λ (n : ℤ). c.chosen-day.result ≤ℤ n) hi c.chosen-day.ensures.greatest in
    day_back c.args.lo c.args.hi c.chosen-day.result c.requires.first_day least greatest c.requires.last_day

pub loop-i-preserved : goal.loop-i-preserved
loop-i-preserved c =
    let lo : ℤ = to_z w64 (of_z w64 c.args.lo) in
    let hi : ℤ = to_z w64 (of_z w64 c.args.hi) in
    text-written (λ (k : ℕ). with_behind c.args.behind (date_text (chosen lo hi 1 (get_or c.args.draws.now k 0)))) c.loop-i.pieces c.loop-i.i c.day_piece.result (omega arith) c.loop-i.invariant
    (c.day_piece.ensures.text
    ∙ ap (λ (value : ℤ). date_text value ++ piece_text c.of_byte.result) (value_back (goal.at.loop-i-preserved c).After-chosen-day ∙ c.chosen-day.ensures.exact)
    ∙ ap (λ (rest : List ℕ). date_text (chosen lo hi 1 (get_or c.args.draws.now c.loop-i.i 0)) ++ rest) c.of_byte.ensures)

pub returns : goal.returns
returns c = λ k within.
    c.loop-i.invariant k (omega arith)
    ∙ ap (λ (lo : ℤ). with_behind c.args.behind (date_text (chosen lo (to_z w64 (of_z w64 c.args.hi)) 1 (get_or c.args.draws.now k 0)))) (to_z-of_z w64 c.args.lo c.ranges.lo)
    ∙ ap (λ (hi : ℤ). with_behind c.args.behind (date_text (chosen c.args.lo hi 1 (get_or c.args.draws.now k 0)))) (to_z-of_z w64 c.args.hi c.ranges.hi)
