use Rattle.std.proofs.Common.{◌<◌, ap, arith, subst, sym}
use Rattle.schema_facts.specs.Dictionaries.{Project}
use Rattle.cohort_sizes.proofs.CohortLemmas.{born_count-le}
use Rattle.life_intervals.specs.Found.{IsFound}
use Rattle.life_intervals.specs.Generator.{generator_of, last_unit, rows_in_all, table_of}
use Rattle.life_intervals.specs.Intervals.{change_unit}
use Rattle.life_intervals.proofs.FoundLemmas.{found-early}
use Rattle.life_intervals.proofs.LifeLemmas.{change_unit-le}
use Rattle.life_intervals.proofs.rows.Rows.last_change.Goals as goal

pub find-requires-clause-row : goal.find-requires-clause-row
find-requires-clause-row g c =
    subst (λ (p : Project). c.args.j < rows_in_all p c.args.table) (sym c.plan.ensures)
    (omega (arith, c.requires.born, born_count-le (table_of c.args.self.now c.args.table).births c.args.t (last_unit c.args.self.now) c.requires.unit))

pub drawn_change-requires-clause-born : goal.drawn_change-requires-clause-born
drawn_change-requires-clause-born g c =
    found-early c.args.self.now c.args.table c.args.t c.args.j c.find.result (subst (λ (p : Project). IsFound p c.args.table c.find.result) c.plan.ensures c.find.ensures.found)
    c.find.ensures.ordinal c.requires.unit c.requires.born

pub returns-clause-within : goal.returns-clause-within
returns-clause-within g c =
    omega (
      arith,
      c.drawn_change.ensures.unit,
      ap (change_unit (generator_of c.args.self.now) c.args.table c.args.t) c.find.ensures.ordinal,
      change_unit-le (generator_of c.args.self.now) c.args.table c.args.t c.args.j c.requires.born,
    )
