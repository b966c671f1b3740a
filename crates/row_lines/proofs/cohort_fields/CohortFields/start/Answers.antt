use Rattle.std.proofs.Common.{◌≡◌, ℕ, pos, Option, Some, ap, subst, sym, ◌∙◌}
use Rattle.std.specs.Prelude.{IfSome}
use Rattle.std.specs.List.{fold}
use Rattle.schema_facts.specs.declared.numbers.Numbers.{Numbers}
use Rattle.schema_facts.specs.Numbers.{start_from, with_operand}
use Rattle.schema_facts.proofs.NumberLemmas.{added-digits}
use Rattle.row_lines.specs.declared.derived.Join.{Join}
use Rattle.row_lines.specs.declared.derived.Join.TheVariants as join
use Rattle.row_lines.specs.CohortLines.{LinesOf}
use Rattle.row_lines.specs.Totals.{digits_for, facts_for, join_of_facts, start_of, start_of_facts}
use Rattle.row_lines.proofs.cohort_fields.CohortFields.start.Goals as goal

pub returns-in-Sum : goal.returns-in-Sum
returns-in-Sum c =
    let lines : LinesOf = c.args.self.now in
    let digits : ℕ = digits_for lines c.args.of.now in
    let told : c.decimals.result ≡ c.requires.numbers.decimals =
    subst (λ (found : Option Numbers). IfSome found (λ (numbers : Numbers). c.decimals.result ≡ numbers.decimals)) c.requires.facts_are c.decimals.ensures in
    let joined = subst (λ (way : Join). fold (with_operand (join_of_facts way)) (Some (start_of_facts way digits)) (facts_for lines c.args.of.now) ≡ Some c.requires.numbers) c.in-Sum.is c.requires.joined in
    c.start_of.ensures
    ∙ ap (λ (way : Join). start_of way c.decimals.result) c.in-Sum.is
    ∙ ap (λ (d : ℕ). start_of join.Sum d) (told ∙ added-digits (facts_for lines c.args.of.now) (start_from digits (pos 0)) c.requires.numbers joined)
    ∙ ap (λ (way : Join). start_of way digits) (sym c.in-Sum.is)
