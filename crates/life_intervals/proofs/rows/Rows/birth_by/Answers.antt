use Rattle.std.proofs.Common.{◌<◌, ap, arith, subst, sym}
use Rattle.cohort_sizes.specs.Births.{birth}
use Rattle.schema_facts.specs.Dictionaries.{Project}
use Rattle.cohort_sizes.proofs.CohortLemmas.{birth-later, birth-le, born_count-le}
use Rattle.life_intervals.specs.Generator.{last_unit, rows_in_all, table_of}
use Rattle.life_intervals.proofs.rows.Rows.birth_by.Goals as goal

pub birth-requires-clause-row : goal.birth-requires-clause-row
birth-requires-clause-row c =
    subst (λ (p : Project). c.args.j < rows_in_all p c.args.table) (sym c.plan.ensures)
    (omega (arith, c.requires.row, born_count-le (table_of c.args.self.now c.args.table).births c.args.t (last_unit c.args.self.now) c.requires.unit))

pub returns-clause-within : goal.returns-clause-within
returns-clause-within c =
    let births = (table_of c.args.self.now c.args.table).births in
    omega (
      arith,
      c.birth.ensures.unit,
      ap (λ (p : Project). birth (table_of p c.args.table).births (last_unit p) c.args.j) c.plan.ensures,
      birth-later births c.args.t (last_unit c.args.self.now) c.args.j c.requires.row c.requires.unit,
      birth-le births c.args.t c.args.j c.requires.row,
    )
