use Rattle.std.proofs.Common.{◌≤◌, ap, arith, sym, ◌∙◌}
use Rattle.schema_facts.specs.declared.column_facts.ColumnFacts.{ColumnFacts}
use Rattle.schema_facts.specs.Numbers.{decimals_of}
use Rattle.detail_lines.proofs.LineTotalLemmas.{total-few}
use Rattle.detail_lines.proofs.detail_lines.DetailLines.decimals.Goals as goal
use Rattle.detail_lines.proofs.detail_lines.DetailLines.decimals.Goals.{In-Some}

few : (c : In-Some) → c.in-Some.numbers.decimals ≤ 9
few c =
    let limits = c.ready-limits.ensures in
    omega (
      arith,
      ap decimals_of (sym c.in-Some.is ∙ ap (λ (facts : ColumnFacts). facts.numbers) c.facts.ensures),
      total-few c.args.self.now limits.keeps limits.limits c.args.column c.requires.column c.requires.total.0 c.requires.total.1 c.requires.total.2,
    )

pub overflow_cast-result : goal.overflow_cast-result
overflow_cast-result c = omega (arith, few (goal.at.overflow_cast-result c).In-Some)

pub returns-in-Some-clause-few : goal.returns-in-Some-clause-few
returns-in-Some-clause-few c = few (goal.at.returns-in-Some-clause-few c).In-Some
