use Rattle.std.proofs.Common.{None, arith, subst, sym, ◌∙◌}
use Rattle.detail_lines.specs.Made.{IsLineOver, LineOver}
use Rattle.detail_lines.proofs.ShownLemmas.{day_is, no_day, no_number, number_is, shown-more}
use Rattle.detail_lines.specs.Made.{line_over}
use Rattle.detail_lines.proofs.line.DetailLine.put_field.Goals as goal

pub returns-then-is_null-clause-shown : goal.returns-then-is_null-clause-shown
returns-then-is_null-clause-shown g c =
    let line : LineOver = c.args.self.now in
    let own = subst (λ (l : LineOver). IsLineOver l c.self.inside.row.now c.self.inside.delimiter c.self.inside.seeds.now c.self.inside.drawn) c.self.view_is c.self.invariant in
    let null = sym c.is_null.ensures ∙ c.if-is_null.true in
    shown-more line c.args.column c.args.shown.now c.set.new.self None None (omega (arith, c.requires.column, own.limits.few_columns)) c.requires.shown c.set.ensures
    (λ n past. no_day (line_over line) c.args.column n null) (λ n past. no_number (line_over line) c.args.column n null) tt tt

pub returns-clause-shown : goal.returns-clause-shown
returns-clause-shown g c =
    let line : LineOver = c.args.self.now in
    let own = subst (λ (l : LineOver). IsLineOver l c.self.inside.row.now c.self.inside.delimiter c.self.inside.seeds.now c.self.inside.drawn) c.self.view_is c.self.invariant in
    let held = sym c.is_null.ensures ∙ c.if-is_null.false in
    shown-more line c.args.column c.args.shown.now c.set-2.new.self c.day-day.result c.number-number.result (omega (arith, c.requires.column, own.limits.few_columns)) c.requires.shown c.set-2.ensures
    (λ n past. day_is line c.args.column n c.day-day.result held c.day-day.ensures past) (λ n past. number_is line c.args.column n c.number-number.result held c.number-number.ensures past)
    c.day-day.ensures.1 c.number-number.ensures.1
