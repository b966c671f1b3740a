use Rattle.cohort_sizes.proofs.CohortLemmas.{LiesIn-birth, birth-only}
use Rattle.cohort_sizes.proofs.laws.birth_is_the_unit_of_the_cohort.Goals as goal

pub returns-clause-lies : goal.returns-clause-lies
returns-clause-lies c = LiesIn-birth

pub returns-clause-only : goal.returns-clause-only
returns-clause-only c = birth-only
