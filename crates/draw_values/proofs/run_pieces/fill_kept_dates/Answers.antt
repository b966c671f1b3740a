use Rattle.std.proofs.Common.{◌≡◌, ◌<◌, ◌+ℤ◌, ◌*◌, ◌%◌, ℕ, pos, [], List, get_or, length, map, ap, ◌∙◌, arith}
use Rattle.std.proofs.lemmas.List.{get_or-map, length-map}
use Rattle.line_pages.specs.Pieces.{piece_text}
use Rattle.schema_facts.specs.Choices.{choices}
use Rattle.draw_values.specs.Dates.{date_text}
use Rattle.draw_values.specs.Runs.{with_behind}
use Rattle.draw_values.proofs.RunLemmas.{days_kept}
use Rattle.draw_values.proofs.run_pieces.fill_kept_dates.Goals as goal
use Rattle.draw_values.proofs.run_pieces.fill_kept_dates.Goals.{After-remainders}

-- the day of a draw, counted from the first one
day_is : (c : After-remainders) (i : ℕ) → i < length c.args.draws.now → get_or c.remainders.new.numbers i 0 ≡ get_or c.args.draws.now i 0 % c.args.choices.now
day_is c i within =
    ap (λ (days : List ℕ). get_or days i 0) c.remainders.ensures
    ∙ get_or-map (λ (x : ℕ). x % c.args.choices.now) c.args.draws.now i 0 0 within

-- its piece is kept
day_kept : (c : After-remainders) (i : ℕ) → i < length c.args.draws.now →
    (get_or c.remainders.new.numbers i 0 < length (map piece_text c.args.kept.now))
    × (get_or (map piece_text c.args.kept.now) (get_or c.remainders.new.numbers i 0) [] ≡ with_behind c.args.behind (date_text (c.args.lo +ℤ pos (get_or c.remainders.new.numbers i 0))))
day_kept c i within =
    let some = c.number.ensures.some in
    let count = c.number.ensures.number in
    let below : get_or c.args.draws.now i 0 % c.args.choices.now < c.args.choices.now = omega arith in
    days_kept c.args.behind c.args.lo c.args.hi c.args.choices.now (map piece_text c.args.kept.now) (get_or c.remainders.new.numbers i 0)
    c.requires.kept (omega (arith, c.if-number-le-DAY_ROOM.true)) (omega (arith, day_is c i within))

pub fill_kept-requires-clause-within : goal.fill_kept-requires-clause-within
fill_kept-requires-clause-within c = λ i within.
    let at : After-remainders = (goal.at.fill_kept-requires-clause-within c).After-remainders in
    omega (arith, (day_kept at i (omega (arith, c.remainders.auto.numbers))).0, length-map c.args.kept.now piece_text)

pub returns-then-number-le-DAY_ROOM : goal.returns-then-number-le-DAY_ROOM
returns-then-number-le-DAY_ROOM c = λ i within.
    let at : After-remainders = (goal.at.returns-then-number-le-DAY_ROOM c).After-remainders in
    let drawn : ℕ = get_or c.args.draws.now i 0 in
    let inside : i < length c.args.draws.now = omega (arith, c.requires.lengths) in
    let once : drawn % choices c.args.lo c.args.hi 1 ≡ 1 * (drawn % choices c.args.lo c.args.hi 1) = omega arith in
    c.fill_kept.ensures i within
    ∙ (day_kept at i inside).1
    ∙ ap (λ (day : ℕ). with_behind c.args.behind (date_text (c.args.lo +ℤ pos day))) (day_is at i inside ∙ ap (λ (count : ℕ). drawn % count) c.requires.ready.1 ∙ once)
