use Rattle.std.proofs.Common.{◌≡◌, IfSome, rules, subst, sym, w64}
use Rattle.std.proofs.lemmas.Int.{to_z-of_z}
use mir.Val.{SFits}
use Rattle.schema_facts.specs.declared.numbers.Numbers.{Numbers}
use Rattle.schema_facts.proofs.NumberLemmas.{joined-digits, plus_is}
use Rattle.schema_facts.proofs.numbers.plus.Goals as goal

pub returns-clause-value : goal.returns-clause-value
returns-clause-value c =
    let sum = c.args.sum in
    let operand = c.args.operand in
    let sum_least : SFits w64 sum.least = search rules in
    let sum_greatest : SFits w64 sum.greatest = search rules in
    let least : SFits w64 operand.least = search rules in
    let greatest : SFits w64 operand.greatest = search rules in
    plus_is c.args.sum c.args.operand c.saturating_sub-more.result c.saturating_add.result c.sum_end.result c.sum_end-2.result c.joined.result c.requires
    c.saturating_sub-more.ensures (simp to_z-of_z at c.sum_end.ensures) (simp to_z-of_z at c.sum_end-2.ensures) c.saturating_add.ensures c.joined.ensures

pub returns-clause-digits : goal.returns-clause-digits
returns-clause-digits c =
    subst (λ after. IfSome after (λ (numbers : Numbers). numbers.decimals ≡ c.args.sum.decimals)) (sym c.joined.ensures)
    (joined-digits c.args.sum.decimals c.saturating_add.result c.sum_end.result c.sum_end-2.result)
