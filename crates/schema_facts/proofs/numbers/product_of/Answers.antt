use Rattle.std.proofs.Common.{◌≡◌, ◌∙◌, Some, None, pos, rules, ap, sym}
use Rattle.std.proofs.lemmas.List.{take_all}
use Rattle.std.specs.List.{fold}
use Rattle.schema_facts.specs.Numbers.{times, start_from, with_operand}
use Rattle.schema_facts.proofs.NumberLemmas.{joined_all, joined_next, joined_out, joining, operand_at, operand_named}
use Rattle.schema_facts.proofs.numbers.product_of.Goals as goal

pub returns-in_err-facts_named : goal.returns-in_err-facts_named
returns-in_err-facts_named c =
    let before = c.args.before.now.columns.now in
    let columns = c.args.before.now.table.now.columns in
    let names = c.args.names.now in
    let found = operand_at before columns names c.loop-name.name-index c.name-item.result c.facts_named.result c.name-item.is c.facts_named.ensures in
    let none : c.from_residual.result ≡ None = search rules in
    let lost : c.facts_named.result.numbers ≡ None = search rules in
    none
    ∙ sym (joined_all times (Some (start_from 0 (pos 1))) before columns names
    ∙ joined_out times (operand_named before columns) (Some (start_from 0 (pos 1))) names c.loop-name.name-index c.name-item.result c.loop-name.product c.facts_named.result.numbers c.loop-name-test.true c.loop-name.invariant found
    (ap (with_operand times (Some c.loop-name.product)) lost))

pub returns-in_err-product : goal.returns-in_err-product
returns-in_err-product c =
    let before = c.args.before.now.columns.now in
    let columns = c.args.before.now.table.now.columns in
    let names = c.args.names.now in
    let found = operand_at before columns names c.loop-name.name-index c.name-item.result c.facts_named.result c.name-item.is c.facts_named.ensures in
    let none : c.from_residual-in_err-product.result ≡ None = search rules in
    let is : c.facts_named.result.numbers ≡ Some c.in_ok-facts_named.field-0 = search rules in
    let lost : times c.loop-name.product c.in_ok-facts_named.field-0 ≡ None = search rules in
    none
    ∙ sym (joined_all times (Some (start_from 0 (pos 1))) before columns names
    ∙ joined_out times (operand_named before columns) (Some (start_from 0 (pos 1))) names c.loop-name.name-index c.name-item.result c.loop-name.product c.facts_named.result.numbers c.loop-name-test.true c.loop-name.invariant found
    (ap (with_operand times (Some c.loop-name.product)) is ∙ lost))

pub loop-name-preserved : goal.loop-name-preserved
loop-name-preserved c =
    let before = c.args.before.now.columns.now in
    let columns = c.args.before.now.table.now.columns in
    let names = c.args.names.now in
    let found = operand_at before columns names c.loop-name.name-index c.name-item.result c.facts_named.result c.name-item.is c.facts_named.ensures in
    let is : c.facts_named.result.numbers ≡ Some c.in_ok-facts_named.field-0 = search rules in
    let next : times c.loop-name.product c.in_ok-facts_named.field-0 ≡ Some c.in_ok-product.product = search rules in
    let more = joined_next times (operand_named before columns) (Some (start_from 0 (pos 1))) names c.loop-name.name-index c.name-item.result c.loop-name.product c.facts_named.result.numbers c.loop-name-test.true c.loop-name.invariant found
    ∙ ap (with_operand times (Some c.loop-name.product)) is ∙ next in
    more

pub returns : goal.returns
returns c =
    let before = c.args.before.now.columns.now in
    let columns = c.args.before.now.table.now.columns in
    let names = c.args.names.now in
    sym (joined_all times (Some (start_from 0 (pos 1))) before columns names
    ∙ ap (fold (joining times (operand_named before columns)) (Some (start_from 0 (pos 1)))) (sym (take_all c.loop-name.name-index names c.loop-name-test.false))
    ∙ c.loop-name.invariant)
