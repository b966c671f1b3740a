use Rattle.std.proofs.Common.{◌+◌, Option, arith, subst, sym, ◌∙◌}
use Rattle.schema_facts.specs.declared.numbers.Numbers.{Numbers}
use Rattle.draw_values.specs.CohortValues.{IsNumberOf}
use Rattle.row_lines.proofs.OperandLemmas.{AreJoined, joined-all, joined-none}
use Rattle.detail_lines.specs.Made.{IsLineOver, LineOver}
use Rattle.detail_lines.proofs.LineValueLemmas.{held_numbers, known_numbers, lost_operand, next_operand, start_is}
use Rattle.detail_lines.proofs.line.DetailLine.total.Goals as goal

pub offset_bounds-shown-operand : goal.offset_bounds-shown-operand
offset_bounds-shown-operand c =
    let own = subst (λ (l : LineOver). IsLineOver l c.self.inside.row.now c.self.inside.delimiter c.self.inside.seeds.now c.self.inside.drawn) c.self.view_is c.self.invariant in
    omega (arith, c.requires.total.earlier c.loop-operand.operand-index (omega (arith, c.loop-operand-test.true)), c.requires.column, own.limits.few_columns)

pub loop-operand-init : goal.loop-operand-init
loop-operand-init c =
    let own = subst (λ (l : LineOver). IsLineOver l c.self.inside.row.now c.self.inside.delimiter c.self.inside.seeds.now c.self.inside.drawn) c.self.view_is c.self.invariant in
    subst (AreJoined (known_numbers c.args.self.now own.keeps own.limits c.args.column c.requires.column) (held_numbers c.args.self.now own.keeps own.limits c.args.column c.requires.column) c.args.column c.args.of.now c.args.join 0)
    (sym (c.start_of-total.ensures ∙ start_is c.args.self.now own.keeps own.limits c.args.column c.requires.column c.args.of.now c.args.join c.requires.total c.digits.result c.digits.ensures))
    (joined-none (known_numbers c.args.self.now own.keeps own.limits c.args.column c.requires.column) (held_numbers c.args.self.now own.keeps own.limits c.args.column c.requires.column) c.args.column c.args.of.now c.args.join)

pub returns-in_err-operand-clause-total : goal.returns-in_err-operand-clause-total
returns-in_err-operand-clause-total c = λ n past.
    let own = subst (λ (l : LineOver). IsLineOver l c.self.inside.row.now c.self.inside.delimiter c.self.inside.seeds.now c.self.inside.drawn) c.self.view_is c.self.invariant in
    c.from_residual.ensures
    ∙ lost_operand c.args.self.now own.keeps own.limits c.args.column c.requires.column c.args.shown.now c.requires.shown c.args.of.now c.args.join c.requires.total c.loop-operand.operand-index (omega (arith, c.loop-operand-test.true)) c.in_err-operand.was n past

pub joined-total-requires-clause-decimals : goal.joined-total-requires-clause-decimals
joined-total-requires-clause-decimals c =
    let own = subst (λ (l : LineOver). IsLineOver l c.self.inside.row.now c.self.inside.delimiter c.self.inside.seeds.now c.self.inside.drawn) c.self.view_is c.self.invariant in
    (next_operand c.args.self.now own.keeps own.limits c.args.column c.requires.column c.args.shown.now c.requires.shown c.args.of.now c.args.join c.requires.total c.loop-operand.operand-index c.loop-operand.total c.in_ok-operand.operand
    (omega (arith, c.loop-operand-test.true)) c.loop-operand.invariant c.in_ok-operand.was).joins.few

pub joined-total-requires-clause-operand : goal.joined-total-requires-clause-operand
joined-total-requires-clause-operand c =
    let own = subst (λ (l : LineOver). IsLineOver l c.self.inside.row.now c.self.inside.delimiter c.self.inside.seeds.now c.self.inside.drawn) c.self.view_is c.self.invariant in
    (next_operand c.args.self.now own.keeps own.limits c.args.column c.requires.column c.args.shown.now c.requires.shown c.args.of.now c.args.join c.requires.total c.loop-operand.operand-index c.loop-operand.total c.in_ok-operand.operand
    (omega (arith, c.loop-operand-test.true)) c.loop-operand.invariant c.in_ok-operand.was).joins.operand_in

pub joined-total-requires-clause-total : goal.joined-total-requires-clause-total
joined-total-requires-clause-total c =
    let own = subst (λ (l : LineOver). IsLineOver l c.self.inside.row.now c.self.inside.delimiter c.self.inside.seeds.now c.self.inside.drawn) c.self.view_is c.self.invariant in
    (next_operand c.args.self.now own.keeps own.limits c.args.column c.requires.column c.args.shown.now c.requires.shown c.args.of.now c.args.join c.requires.total c.loop-operand.operand-index c.loop-operand.total c.in_ok-operand.operand
    (omega (arith, c.loop-operand-test.true)) c.loop-operand.invariant c.in_ok-operand.was).joins.value_in

pub loop-operand-preserved : goal.loop-operand-preserved
loop-operand-preserved c =
    let own = subst (λ (l : LineOver). IsLineOver l c.self.inside.row.now c.self.inside.delimiter c.self.inside.seeds.now c.self.inside.drawn) c.self.view_is c.self.invariant in
    subst (AreJoined (known_numbers c.args.self.now own.keeps own.limits c.args.column c.requires.column) (held_numbers c.args.self.now own.keeps own.limits c.args.column c.requires.column) c.args.column c.args.of.now c.args.join (c.loop-operand.operand-index + 1)) (sym c.joined-total.ensures)
    (next_operand c.args.self.now own.keeps own.limits c.args.column c.requires.column c.args.shown.now c.requires.shown c.args.of.now c.args.join c.requires.total c.loop-operand.operand-index c.loop-operand.total c.in_ok-operand.operand
    (omega (arith, c.loop-operand-test.true)) c.loop-operand.invariant c.in_ok-operand.was).so_far

pub returns-clause-total : goal.returns-clause-total
returns-clause-total c =
    let own = subst (λ (l : LineOver). IsLineOver l c.self.inside.row.now c.self.inside.delimiter c.self.inside.seeds.now c.self.inside.drawn) c.self.view_is c.self.invariant in
    (joined-all (known_numbers c.args.self.now own.keeps own.limits c.args.column c.requires.column) (held_numbers c.args.self.now own.keeps own.limits c.args.column c.requires.column) c.args.column c.args.of.now c.args.join c.requires.total.numbers c.loop-operand.operand-index c.loop-operand.total c.requires.total.joined
    (omega (arith, c.loop-operand-test.false)) c.loop-operand.invariant).0

pub returns-clause-digits : goal.returns-clause-digits
returns-clause-digits c = λ some.
    let own = subst (λ (l : LineOver). IsLineOver l c.self.inside.row.now c.self.inside.delimiter c.self.inside.seeds.now c.self.inside.drawn) c.self.view_is c.self.invariant in
    (joined-all (known_numbers c.args.self.now own.keeps own.limits c.args.column c.requires.column) (held_numbers c.args.self.now own.keeps own.limits c.args.column c.requires.column) c.args.column c.args.of.now c.args.join c.requires.total.numbers c.loop-operand.operand-index c.loop-operand.total c.requires.total.joined
    (omega (arith, c.loop-operand-test.false)) c.loop-operand.invariant).1

pub returns-clause-within : goal.returns-clause-within
returns-clause-within c =
    let own = subst (λ (l : LineOver). IsLineOver l c.self.inside.row.now c.self.inside.delimiter c.self.inside.seeds.now c.self.inside.drawn) c.self.view_is c.self.invariant in
    subst (λ (of : Option Numbers). IsNumberOf of c.loop-operand.total) (sym c.requires.total.facts_are)
    (joined-all (known_numbers c.args.self.now own.keeps own.limits c.args.column c.requires.column) (held_numbers c.args.self.now own.keeps own.limits c.args.column c.requires.column) c.args.column c.args.of.now c.args.join c.requires.total.numbers c.loop-operand.operand-index c.loop-operand.total c.requires.total.joined
    (omega (arith, c.loop-operand-test.false)) c.loop-operand.invariant).2
