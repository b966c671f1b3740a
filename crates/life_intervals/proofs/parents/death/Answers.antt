use Rattle.std.proofs.Common.{ap, ◌∙◌}
use Rattle.schema_facts.specs.Dictionaries.{Project}
use Rattle.life_intervals.specs.Generator.{generator_of, last_unit}
use Rattle.life_intervals.specs.Intervals.{death}
use Rattle.life_intervals.proofs.parents.death.Goals as goal

pub returns-clause-death : goal.returns-clause-death
returns-clause-death g c = c.death.ensures.death ∙ ap (λ (p : Project). death (generator_of p) c.args.table (last_unit p) c.args.j) c.of.ensures
