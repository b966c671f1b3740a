use Rattle.std.proofs.Common.{◌≡◌, ℕ, Option, ap, arith, sym, ◌∙◌}
use Rattle.life_intervals.specs.Generator.{generator_of, last_unit, table_of}
use Rattle.life_intervals.specs.Intervals.{death, is_at}
use Rattle.life_intervals.proofs.LifeLemmas.{death-later}
use Rattle.update_box.proofs.BornLemmas.{born-by}
use Rattle.update_box.proofs.fates.dies.Goals as goal

pub death-requires-clause-row : goal.death-requires-clause-row
death-requires-clause-row g c = born-by (table_of c.args.rows.now c.args.table).births c.args.t (last_unit c.args.rows.now) c.args.ordinal c.requires.unit c.requires.born

pub returns-in-Some-clause-dies : goal.returns-in-Some-clause-dies
returns-in-Some-clause-dies g c =
    let by : c.death.result ≡ death (generator_of c.args.rows.now) c.args.table c.args.t c.args.ordinal =
    c.death.ensures.death
    ∙ death-later (generator_of c.args.rows.now) c.args.table c.args.t (last_unit c.args.rows.now) c.args.ordinal
    (born-by (table_of c.args.rows.now c.args.table).births c.args.t c.args.t c.args.ordinal (omega arith) c.requires.born) c.requires.unit in
    ap (λ (d : Option ℕ). is_at d c.args.t) (sym c.in-Some.is ∙ by)

pub returns-in-None-clause-dies : goal.returns-in-None-clause-dies
returns-in-None-clause-dies g c =
    let by : c.death.result ≡ death (generator_of c.args.rows.now) c.args.table c.args.t c.args.ordinal =
    c.death.ensures.death
    ∙ death-later (generator_of c.args.rows.now) c.args.table c.args.t (last_unit c.args.rows.now) c.args.ordinal
    (born-by (table_of c.args.rows.now c.args.table).births c.args.t c.args.t c.args.ordinal (omega arith) c.requires.born) c.requires.unit in
    ap (λ (d : Option ℕ). is_at d c.args.t) (sym c.in-None.is ∙ by)
