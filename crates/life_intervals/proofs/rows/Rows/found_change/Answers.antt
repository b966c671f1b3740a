use Rattle.std.proofs.Common.{◌≡◌, ◌<◌, ◌+◌, ◌⊎◌, ℕ, arith, subst, sym}
use Rattle.schema_plan.specs.Limits.{IsInLimits}
use Rattle.life_intervals.specs.Changes.{change_span}
use Rattle.life_intervals.specs.Generator.{table_of}
use Rattle.life_intervals.proofs.FoundLemmas.{found-change_from, found-change_le, found-change_recent, found-period}
use Rattle.life_intervals.proofs.rows.Rows.found_change.Goals as goal

pub returns-then-row-t-clause-unit : goal.returns-then-row-t-clause-unit
returns-then-row-t-clause-unit g c =
    omega (
      arith,
      c.if-row-t.true,
      found-change_from c.args.self.now c.args.table c.args.row c.requires.row c.args.t c.requires.born,
      found-change_le c.args.self.now c.args.table c.args.row c.requires.row c.args.t c.requires.born,
    )

pub returns-clause-from : goal.returns-clause-from
returns-clause-from g c = omega (arith, c.drawn_change.ensures.unit, found-change_from c.args.self.now c.args.table c.args.row c.requires.row c.args.t c.requires.born)

pub returns-clause-within : goal.returns-clause-within
returns-clause-within g c = omega (arith, c.drawn_change.ensures.unit, found-change_le c.args.self.now c.args.table c.args.row c.requires.row c.args.t c.requires.born)

pub returns-clause-recent : goal.returns-clause-recent
returns-clause-recent g c =
    let plan = c.args.self.now in
    subst (λ (change : ℕ). (change ≡ c.args.row.born) ⊎ (c.args.t < change + change_span (table_of plan c.args.table) c.args.t)) (sym c.drawn_change.ensures.unit)
    (found-change_recent plan c.args.table c.args.row c.requires.row c.args.t c.requires.born
    (found-period plan c.args.table c.args.row c.requires.row (subst IsInLimits c.plan.ensures c.schema-sound.ensures.limits) c.requires.table))
