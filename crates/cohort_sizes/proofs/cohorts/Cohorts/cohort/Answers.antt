use Rattle.std.proofs.Common.{◌≤◌, ◌^◌, arith, subst}
use Rattle.cohort_sizes.specs.Births.{born_count}
use Rattle.cohort_sizes.specs.Kept.{BirthsUpTo, births_up_to}
use Rattle.cohort_sizes.proofs.StretchLemmas.{cohort-in, first-in, rows-within}
use Rattle.cohort_sizes.proofs.cohorts.Cohorts.cohort.Goals as goal

pub returns-then-unit-eq0-clause-limit : goal.returns-then-unit-eq0-clause-limit
returns-then-unit-eq0-clause-limit c =
    let all = rows-within (births_up_to c.self.inside.rows c.self.inside.rates.items c.self.inside.last).births c.self.inside.last (2 ^ 40) c.self.invariant.limit in
    omega (arith, all)

pub returns-clause-first : goal.returns-clause-first
returns-clause-first c =
    first-in c.args.self.now.births c.at_unit-stretch.result c.args.unit c.at_unit-stretch.ensures.stretch c.at_unit-stretch.ensures.begun c.at_unit-stretch.ensures.not_ended

pub returns-clause-limit : goal.returns-clause-limit
returns-clause-limit c =
    cohort-in c.args.self.now.births c.at_unit-stretch.result c.args.unit c.args.self.now.last (2 ^ 40) c.at_unit-stretch.ensures.stretch c.at_unit-stretch.ensures.begun
    c.at_unit-stretch.ensures.not_ended c.requires (subst (λ (of : BirthsUpTo). born_count of.births of.last ≤ 2 ^ 40) c.self.view_is c.self.invariant.limit)

pub overflow_mul-result : goal.overflow_mul-result
overflow_mul-result c =
    let within = cohort-in c.args.self.now.births c.at_unit-stretch.result c.args.unit c.args.self.now.last (2 ^ 40) c.at_unit-stretch.ensures.stretch c.at_unit-stretch.ensures.begun
    c.at_unit-stretch.ensures.not_ended c.requires (subst (λ (of : BirthsUpTo). born_count of.births of.last ≤ 2 ^ 40) c.self.view_is c.self.invariant.limit) in
    omega (arith, within)

pub overflow_add-result : goal.overflow_add-result
overflow_add-result c =
    let within = cohort-in c.args.self.now.births c.at_unit-stretch.result c.args.unit c.args.self.now.last (2 ^ 40) c.at_unit-stretch.ensures.stretch c.at_unit-stretch.ensures.begun
    c.at_unit-stretch.ensures.not_ended c.requires (subst (λ (of : BirthsUpTo). born_count of.births of.last ≤ 2 ^ 40) c.self.view_is c.self.invariant.limit) in
    omega (arith, within)
