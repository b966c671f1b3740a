use Rattle.std.proofs.Common.{◌≡◌, ◌∙◌, Some, None, map, pos, rules, ap, sym, arith}
use Rattle.std.proofs.lemmas.List.{take_all}
use Rattle.std.specs.List.{fold}
use Rattle.schema_facts.specs.Layout.{place_of_column}
use Rattle.schema_facts.specs.Numbers.{operands, plus, start_from, with_operand}
use Rattle.schema_facts.proofs.NumberLemmas.{joined_all, joined_next, joined_out, joining, operand_at, operand_named, sum_joined}
use Rattle.schema_facts.proofs.numbers.sum_of.Goals as goal

pub returns-in_err-facts_named : goal.returns-in_err-facts_named
returns-in_err-facts_named c =
    let before = c.args.before.now.columns.now in
    let columns = c.args.before.now.table.now.columns in
    let names = c.args.names.now in
    let found = operand_at before columns names c.loop-name.name-index c.name-item.result c.facts_named.result c.name-item.is c.facts_named.ensures in
    let none : c.from_residual.result ≡ None = search rules in
    let lost : c.facts_named.result.numbers ≡ None = search rules in
    none
    ∙ sym ((sum_joined (operands before (map (place_of_column columns) names)) c.most_decimals-decimals.result c.most_decimals-decimals.ensures (omega (arith, c.if-decimals-gt-MAX_DECIMALS.false)))
    ∙ joined_all plus (Some (start_from c.most_decimals-decimals.result (pos 0))) before columns names
    ∙ joined_out plus (operand_named before columns) (Some (start_from c.most_decimals-decimals.result (pos 0))) names c.loop-name.name-index c.name-item.result c.loop-name.sum c.facts_named.result.numbers c.loop-name-test.true c.loop-name.invariant.added found
    (ap (with_operand plus (Some c.loop-name.sum)) lost))

pub returns-in_err-sum : goal.returns-in_err-sum
returns-in_err-sum c =
    let before = c.args.before.now.columns.now in
    let columns = c.args.before.now.table.now.columns in
    let names = c.args.names.now in
    let found = operand_at before columns names c.loop-name.name-index c.name-item.result c.facts_named.result c.name-item.is c.facts_named.ensures in
    let none : c.from_residual-in_err-sum.result ≡ None = search rules in
    let is : c.facts_named.result.numbers ≡ Some c.in_ok-facts_named.field-0 = search rules in
    let lost : plus c.loop-name.sum c.in_ok-facts_named.field-0 ≡ None = search rules in
    none
    ∙ sym ((sum_joined (operands before (map (place_of_column columns) names)) c.most_decimals-decimals.result c.most_decimals-decimals.ensures (omega (arith, c.if-decimals-gt-MAX_DECIMALS.false)))
    ∙ joined_all plus (Some (start_from c.most_decimals-decimals.result (pos 0))) before columns names
    ∙ joined_out plus (operand_named before columns) (Some (start_from c.most_decimals-decimals.result (pos 0))) names c.loop-name.name-index c.name-item.result c.loop-name.sum c.facts_named.result.numbers c.loop-name-test.true c.loop-name.invariant.added found
    (ap (with_operand plus (Some c.loop-name.sum)) is ∙ lost))

pub loop-name-preserved : goal.loop-name-preserved
loop-name-preserved c =
    let before = c.args.before.now.columns.now in
    let columns = c.args.before.now.table.now.columns in
    let names = c.args.names.now in
    let found = operand_at before columns names c.loop-name.name-index c.name-item.result c.facts_named.result c.name-item.is c.facts_named.ensures in
    let is : c.facts_named.result.numbers ≡ Some c.in_ok-facts_named.field-0 = search rules in
    let next : plus c.loop-name.sum c.in_ok-facts_named.field-0 ≡ Some c.in_ok-sum.sum = search rules in
    let more = joined_next plus (operand_named before columns) (Some (start_from c.most_decimals-decimals.result (pos 0))) names c.loop-name.name-index c.name-item.result c.loop-name.sum c.facts_named.result.numbers c.loop-name-test.true c.loop-name.invariant.added found
    ∙ ap (with_operand plus (Some c.loop-name.sum)) is ∙ next in
    let digits : c.in_ok-sum.sum.decimals ≡ c.loop-name.sum.decimals = search rules in
    record { added = more; digits = digits ∙ c.loop-name.invariant.digits }

pub returns : goal.returns
returns c =
    let before = c.args.before.now.columns.now in
    let columns = c.args.before.now.table.now.columns in
    let names = c.args.names.now in
    sym ((sum_joined (operands before (map (place_of_column columns) names)) c.most_decimals-decimals.result c.most_decimals-decimals.ensures (omega (arith, c.if-decimals-gt-MAX_DECIMALS.false)))
    ∙ joined_all plus (Some (start_from c.most_decimals-decimals.result (pos 0))) before columns names
    ∙ ap (fold (joining plus (operand_named before columns)) (Some (start_from c.most_decimals-decimals.result (pos 0)))) (sym (take_all c.loop-name.name-index names c.loop-name-test.false))
    ∙ c.loop-name.invariant.added)
