use Rattle.std.proofs.Common.{◌≡◌, ◌<◌, ◌≤◌, ℕ, Option, ap, arith, sym, ◌∙◌}
use Rattle.cohort_sizes.specs.Births.{born_count}
use Rattle.schema_facts.specs.Layout.{table_at}
use Rattle.life_intervals.specs.Generator.{Generator, generator_of, last_unit, table_of}
use Rattle.life_intervals.specs.Intervals.{death, is_after, is_live}
use Rattle.life_intervals.proofs.AcceptedLemmas.{AreSound-accepted}
use Rattle.life_intervals.proofs.LifeLemmas.{death-later}
use Rattle.life_intervals.proofs.LiveLemmas.{holds_row-live, holds_row-unborn}
use Rattle.row_lines.proofs.rows.live.Goals as goal

pub returns-then-j-born-clause-held : goal.returns-then-j-born-clause-held
returns-then-j-born-clause-held g c =
    sym (holds_row-unborn (last_unit c.args.plan.now) (generator_of c.args.plan.now) c.args.table c.args.t c.args.j
    (AreSound-accepted c.args.plan.now c.schema-sound.ensures.limits) c.requires.unit (omega (arith, c.born.ensures.count, c.if-j-born.true)))

-- a death is the same by the unit and by the last one
lives_by : (generator : Generator) (table unit last ordinal : ℕ) (found : Option ℕ) → ordinal < born_count (table_at generator.tables table).births unit → unit ≤ last →
    found ≡ death generator table last ordinal → is_after found unit ≡ is_live generator table unit ordinal
lives_by generator table unit last ordinal found born within is =
    ap (λ (d : Option ℕ). is_after d unit) (is ∙ death-later generator table unit last ordinal born within)

pub returns-in-Some-clause-live : goal.returns-in-Some-clause-live
returns-in-Some-clause-live g c = λ born.
    ap (λ (d : Option ℕ). is_after d c.args.t) (sym c.in-Some.is)
    ∙ lives_by (generator_of c.args.plan.now) c.args.table c.args.t (last_unit c.args.plan.now) c.args.j c.death.result born c.requires.unit c.death.ensures.death

pub returns-in-None-clause-live : goal.returns-in-None-clause-live
returns-in-None-clause-live g c = λ born.
    ap (λ (d : Option ℕ). is_after d c.args.t) (sym c.in-None.is)
    ∙ lives_by (generator_of c.args.plan.now) c.args.table c.args.t (last_unit c.args.plan.now) c.args.j c.death.result born c.requires.unit c.death.ensures.death

pub returns-in-Some-clause-held : goal.returns-in-Some-clause-held
returns-in-Some-clause-held g c =
    let born : c.args.j < born_count (table_of c.args.plan.now c.args.table).births c.args.t = omega (arith, c.born.ensures.count, c.if-j-born.false) in
    returns-in-Some-clause-live g c born
    ∙ sym (holds_row-live (last_unit c.args.plan.now) (generator_of c.args.plan.now) c.args.table c.args.t c.args.j
    (AreSound-accepted c.args.plan.now c.schema-sound.ensures.limits) c.requires.unit born)

pub returns-in-None-clause-held : goal.returns-in-None-clause-held
returns-in-None-clause-held g c =
    let born : c.args.j < born_count (table_of c.args.plan.now c.args.table).births c.args.t = omega (arith, c.born.ensures.count, c.if-j-born.false) in
    returns-in-None-clause-live g c born
    ∙ sym (holds_row-live (last_unit c.args.plan.now) (generator_of c.args.plan.now) c.args.table c.args.t c.args.j
    (AreSound-accepted c.args.plan.now c.schema-sound.ensures.limits) c.requires.unit born)
