use Rattle.std.proofs.Common.{◌++◌, ℕ, ℤ, List, Option, ap, arith, length, subst, sym, ◌∙◌}
use Rattle.std.specs.Prelude.{IfSome}
use Rattle.draw_values.specs.ReadyValues.{ready_text}
use Rattle.draw_values.specs.Values.{Draws}
use Rattle.detail_lines.specs.Lines.{draws_of_line}
use Rattle.detail_lines.specs.Made.{IsLineOver, LineOver, line_over}
use Rattle.detail_lines.specs.Shown.{IsInCalendar, day_text}
use Rattle.detail_lines.proofs.LineValueLemmas.{day-of_drawn, drawn_ready, number-of_drawn, size-drawn, text-drawn}
use Rattle.detail_lines.proofs.ValueLemmas.{day-calendar, day-written, number-sized, number-written}
use Rattle.detail_lines.proofs.line.DetailLine.put_drawn.Goals as goal

-- ---- a date

-- the day is that of the drawn value
pub put_day-requires-clause-calendar : goal.put_day-requires-clause-calendar
put_day-requires-clause-calendar c =
    let line : LineOver = c.args.self.now in
    let own = subst (λ (l : LineOver). IsLineOver l c.self.inside.row.now c.self.inside.delimiter c.self.inside.seeds.now c.self.inside.drawn) c.self.view_is c.self.invariant in
    let is = day-of_drawn line own.keeps own.limits c.args.column c.requires.column c.args.leaf.now c.requires.drawn c.args.day c.requires.day in
    subst (λ (day : Option ℤ). IfSome day IsInCalendar) (sym c.in-Some-default.is-0)
    (day-calendar c.args.leaf.now (draws_of_line (line_over line) c.args.column) c.in-Some-default.field-0-0 (drawn_ready line own.keeps own.limits c.args.column c.requires.column c.args.leaf.now c.requires.drawn) (sym c.in-Some-default.is-0 ∙ is)).0

pub put_day-requires-clause-room : goal.put_day-requires-clause-room
put_day-requires-clause-room c =
    let line : LineOver = c.args.self.now in
    let own = subst (λ (l : LineOver). IsLineOver l c.self.inside.row.now c.self.inside.delimiter c.self.inside.seeds.now c.self.inside.drawn) c.self.view_is c.self.invariant in
    let is = day-of_drawn line own.keeps own.limits c.args.column c.requires.column c.args.leaf.now c.requires.drawn c.args.day c.requires.day in
    omega (
      arith,
      c.requires.room,
      size-drawn line own.keeps own.limits c.args.column c.requires.column c.args.leaf.now c.requires.drawn,
      (day-calendar c.args.leaf.now (draws_of_line (line_over line) c.args.column) c.in-Some-default.field-0-0 (drawn_ready line own.keeps own.limits c.args.column c.requires.column c.args.leaf.now c.requires.drawn) (sym c.in-Some-default.is-0 ∙ is)).1,
    )

pub returns-in-Some-default-clause-text : goal.returns-in-Some-default-clause-text
returns-in-Some-default-clause-text c =
    let line : LineOver = c.args.self.now in
    let own = subst (λ (l : LineOver). IsLineOver l c.self.inside.row.now c.self.inside.delimiter c.self.inside.seeds.now c.self.inside.drawn) c.self.view_is c.self.invariant in
    let draws : Draws = draws_of_line (line_over line) c.args.column in
    let is = ap day_text c.in-Some-default.is-0 ∙ day-written c.args.leaf.now draws c.in-Some-default.field-0-0 (sym c.in-Some-default.is-0 ∙ day-of_drawn line own.keeps own.limits c.args.column c.requires.column c.args.leaf.now c.requires.drawn c.args.day c.requires.day) ∙ text-drawn line own.keeps own.limits c.args.column c.requires.column c.args.leaf.now c.requires.drawn in
    c.put_day.ensures.text ∙ ap (λ (text : List ℕ). record { text = c.args.page.now.text ++ text; room = c.args.page.now.room }) is

pub returns-in-Some-default-clause-size : goal.returns-in-Some-default-clause-size
returns-in-Some-default-clause-size c =
    let line : LineOver = c.args.self.now in
    let own = subst (λ (l : LineOver). IsLineOver l c.self.inside.row.now c.self.inside.delimiter c.self.inside.seeds.now c.self.inside.drawn) c.self.view_is c.self.invariant in
    let draws : Draws = draws_of_line (line_over line) c.args.column in
    let day_is = sym c.in-Some-default.is-0 ∙ day-of_drawn line own.keeps own.limits c.args.column c.requires.column c.args.leaf.now c.requires.drawn c.args.day c.requires.day in
    let is = ap day_text c.in-Some-default.is-0 ∙ day-written c.args.leaf.now draws c.in-Some-default.field-0-0 day_is ∙ text-drawn line own.keeps own.limits c.args.column c.requires.column c.args.leaf.now c.requires.drawn in
    omega (
      arith,
      ap (λ (text : List ℕ). length text) is,
      c.put_day.ensures.size,
      size-drawn line own.keeps own.limits c.args.column c.requires.column c.args.leaf.now c.requires.drawn,
      (day-calendar c.args.leaf.now draws c.in-Some-default.field-0-0 (drawn_ready line own.keeps own.limits c.args.column c.requires.column c.args.leaf.now c.requires.drawn) day_is).1,
    )

-- ---- a number

pub put_drawn_number-requires-clause-digits : goal.put_drawn_number-requires-clause-digits
put_drawn_number-requires-clause-digits c =
    let line : LineOver = c.args.self.now in
    let own = subst (λ (l : LineOver). IsLineOver l c.self.inside.row.now c.self.inside.delimiter c.self.inside.seeds.now c.self.inside.drawn) c.self.view_is c.self.invariant in
    let ready = drawn_ready line own.keeps own.limits c.args.column c.requires.column c.args.leaf.now c.requires.drawn in
    (number-sized c.args.leaf.now (draws_of_line (line_over line) c.args.column) c.in-None-Some.number ready (sym c.in-None-Some.is-1 ∙ number-of_drawn line own.keeps own.limits c.args.column c.requires.column c.args.leaf.now c.requires.drawn c.args.number c.requires.number)).0

pub put_drawn_number-requires-clause-room : goal.put_drawn_number-requires-clause-room
put_drawn_number-requires-clause-room c =
    let line : LineOver = c.args.self.now in
    let own = subst (λ (l : LineOver). IsLineOver l c.self.inside.row.now c.self.inside.delimiter c.self.inside.seeds.now c.self.inside.drawn) c.self.view_is c.self.invariant in
    let ready = drawn_ready line own.keeps own.limits c.args.column c.requires.column c.args.leaf.now c.requires.drawn in
    omega (
      arith,
      c.requires.room,
      size-drawn line own.keeps own.limits c.args.column c.requires.column c.args.leaf.now c.requires.drawn,
      (number-sized c.args.leaf.now (draws_of_line (line_over line) c.args.column) c.in-None-Some.number ready (sym c.in-None-Some.is-1 ∙ number-of_drawn line own.keeps own.limits c.args.column c.requires.column c.args.leaf.now c.requires.drawn c.args.number c.requires.number)).1,
    )

pub returns-in-None-Some-clause-text : goal.returns-in-None-Some-clause-text
returns-in-None-Some-clause-text c =
    let line : LineOver = c.args.self.now in
    let own = subst (λ (l : LineOver). IsLineOver l c.self.inside.row.now c.self.inside.delimiter c.self.inside.seeds.now c.self.inside.drawn) c.self.view_is c.self.invariant in
    let draws : Draws = draws_of_line (line_over line) c.args.column in
    let is = number-written c.args.leaf.now draws c.in-None-Some.number (sym c.in-None-Some.is-1 ∙ number-of_drawn line own.keeps own.limits c.args.column c.requires.column c.args.leaf.now c.requires.drawn c.args.number c.requires.number) ∙ text-drawn line own.keeps own.limits c.args.column c.requires.column c.args.leaf.now c.requires.drawn in
    c.put_drawn_number.ensures.text ∙ ap (λ (text : List ℕ). record { text = c.args.page.now.text ++ text; room = c.args.page.now.room }) is

pub returns-in-None-Some-clause-size : goal.returns-in-None-Some-clause-size
returns-in-None-Some-clause-size c =
    let line : LineOver = c.args.self.now in
    let own = subst (λ (l : LineOver). IsLineOver l c.self.inside.row.now c.self.inside.delimiter c.self.inside.seeds.now c.self.inside.drawn) c.self.view_is c.self.invariant in
    let draws : Draws = draws_of_line (line_over line) c.args.column in
    let ready = drawn_ready line own.keeps own.limits c.args.column c.requires.column c.args.leaf.now c.requires.drawn in
    let is = number-written c.args.leaf.now draws c.in-None-Some.number (sym c.in-None-Some.is-1 ∙ number-of_drawn line own.keeps own.limits c.args.column c.requires.column c.args.leaf.now c.requires.drawn c.args.number c.requires.number) ∙ text-drawn line own.keeps own.limits c.args.column c.requires.column c.args.leaf.now c.requires.drawn in
    omega (
      arith,
      ap (λ (text : List ℕ). length text) is,
      c.put_drawn_number.ensures.size,
      size-drawn line own.keeps own.limits c.args.column c.requires.column c.args.leaf.now c.requires.drawn,
      (number-sized c.args.leaf.now draws c.in-None-Some.number ready (sym c.in-None-Some.is-1 ∙ number-of_drawn line own.keeps own.limits c.args.column c.requires.column c.args.leaf.now c.requires.drawn c.args.number c.requires.number)).1,
    )

-- ---- any other value

pub put_leaf-requires-clause-ready : goal.put_leaf-requires-clause-ready
put_leaf-requires-clause-ready c =
    let line : LineOver = c.args.self.now in
    let own = subst (λ (l : LineOver). IsLineOver l c.self.inside.row.now c.self.inside.delimiter c.self.inside.seeds.now c.self.inside.drawn) c.self.view_is c.self.invariant in
    drawn_ready line own.keeps own.limits c.args.column c.requires.column c.args.leaf.now c.requires.drawn

pub put_leaf-requires-clause-room : goal.put_leaf-requires-clause-room
put_leaf-requires-clause-room c =
    let line : LineOver = c.args.self.now in
    let own = subst (λ (l : LineOver). IsLineOver l c.self.inside.row.now c.self.inside.delimiter c.self.inside.seeds.now c.self.inside.drawn) c.self.view_is c.self.invariant in
    omega (arith, c.requires.room, size-drawn line own.keeps own.limits c.args.column c.requires.column c.args.leaf.now c.requires.drawn)

pub returns-in-None-None-clause-text : goal.returns-in-None-None-clause-text
returns-in-None-None-clause-text c =
    let line : LineOver = c.args.self.now in
    let own = subst (λ (l : LineOver). IsLineOver l c.self.inside.row.now c.self.inside.delimiter c.self.inside.seeds.now c.self.inside.drawn) c.self.view_is c.self.invariant in
    let is = ap (ready_text c.args.leaf.now) (c.requires.seed c.args.leaf.now c.requires.drawn) ∙ text-drawn line own.keeps own.limits c.args.column c.requires.column c.args.leaf.now c.requires.drawn in
    c.put_leaf.ensures.text ∙ ap (λ (text : List ℕ). record { text = c.args.page.now.text ++ text; room = c.args.page.now.room }) is

pub returns-in-None-None-clause-size : goal.returns-in-None-None-clause-size
returns-in-None-None-clause-size c =
    let line : LineOver = c.args.self.now in
    let own = subst (λ (l : LineOver). IsLineOver l c.self.inside.row.now c.self.inside.delimiter c.self.inside.seeds.now c.self.inside.drawn) c.self.view_is c.self.invariant in
    let is = ap (ready_text c.args.leaf.now) (c.requires.seed c.args.leaf.now c.requires.drawn) ∙ text-drawn line own.keeps own.limits c.args.column c.requires.column c.args.leaf.now c.requires.drawn in
    omega (arith, ap (λ (text : List ℕ). length text) is, c.put_leaf.ensures.size, size-drawn line own.keeps own.limits c.args.column c.requires.column c.args.leaf.now c.requires.drawn)
