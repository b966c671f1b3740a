use Rattle.std.proofs.Common.{◌≡◌, ◌+◌, ◌≤◌, ap, arith, sym}
use Rattle.cohort_sizes.specs.Births.{LiesIn}
use Rattle.cohort_sizes.specs.Kept.{BirthsUpTo}
use Rattle.cohort_sizes.proofs.CohortLemmas.{birth-only}
use Rattle.cohort_sizes.proofs.StretchLemmas.{LiesIn-stretch, LiesIn-within}
use Rattle.cohort_sizes.proofs.cohorts.Cohorts.birth.Goals as goal

pub returns-then-ordinal-self-clause-unit : goal.returns-then-ordinal-self-clause-unit
returns-then-ordinal-self-clause-unit c =
    let rows : c.self.inside.rows ≡ c.args.self.now.births.rows = ap (λ (of : BirthsUpTo). of.births.rows) c.self.view_is in
    sym (birth-only c.args.self.now.births c.args.self.now.last 0 c.args.ordinal (omega arith) (record { begun = omega arith; not_ended = omega (arith, c.if-ordinal-self.true, rows) }))

lies : (c : goal.After-quotient) → LiesIn c.args.self.now.births (c.with_ordinal-stretch.result.from + c.quotient.result) c.args.ordinal
lies c =
    LiesIn-stretch c.args.self.now.births c.with_ordinal-stretch.result c.args.ordinal c.quotient.result c.with_ordinal-stretch.ensures.stretch c.with_ordinal-stretch.ensures.begun
    c.with_ordinal-stretch.ensures.not_ended c.quotient.ensures

within : (c : goal.After-quotient) → c.with_ordinal-stretch.result.from + c.quotient.result ≤ c.args.self.now.last
within c = LiesIn-within c.args.self.now.births c.args.self.now.last _ c.args.ordinal c.requires (lies c)

pub overflow_add-result : goal.overflow_add-result
overflow_add-result c =
    let last : c.self.inside.last ≡ c.args.self.now.last = ap (λ (of : BirthsUpTo). of.last) c.self.view_is in
    omega (arith, within c, last, c.self.invariant.last)

pub returns-clause-unit : goal.returns-clause-unit
returns-clause-unit c = sym (birth-only c.args.self.now.births c.args.self.now.last _ c.args.ordinal (within c) (lies c))

pub returns-clause-within : goal.returns-clause-within
returns-clause-within c = within c

pub returns-clause-lies : goal.returns-clause-lies
returns-clause-lies c = lies c
