use Rattle.std.proofs.Common.{◌≡◌, ◌-◌, All, ap, subst, sym, true, ◌∙◌}
use Rattle.schema_facts.specs.Dictionaries.{Project}
use Rattle.schema_plan.specs.Limits.{IsInLimits}
use Rattle.life_intervals.specs.Generator.{generator_of}
use Rattle.life_intervals.specs.Simulation.{holds_row, rows_at}
use Rattle.undo_streams.proofs.UndoLineLemmas.{deleted-held, deleted-rising}
use Rattle.update_box.specs.UnitLists.{TableLists}
use Rattle.table_jobs.proofs.modes.undo.table_places.Goals as goal

pub places-requires-clause-rising : goal.places-requires-clause-rising
places-requires-clause-rising g c =
    let job = c.args.job.now in
    let plan : Project = job.of.plan in
    let limits : IsInLimits plan = subst IsInLimits (c.plan.ensures ∙ c.requires.rows) c.schema-sound.ensures.limits in
    deleted-rising plan limits c.args.table c.requires.table job.of.asked.unit c.requires.can.later c.requires.can.of.asked.unit c.dels-deleted.result.now
    (c.dels-deleted.ensures ∙ ap (λ (l : TableLists). l.deleted) c.requires.lists.are)

pub places-requires-clause-held : goal.places-requires-clause-held
places-requires-clause-held g c =
    let job = c.args.job.now in
    let plan : Project = job.of.plan in
    let limits : IsInLimits plan = subst IsInLimits (c.plan.ensures ∙ c.requires.rows) c.schema-sound.ensures.limits in
    subst (λ (p : Project). All (λ ordinal. holds_row (rows_at (generator_of p) c.args.table (job.of.asked.unit - 1)) ordinal ≡ true) c.dels-deleted.result.now) (sym c.requires.rows)
    (deleted-held plan limits c.args.table c.requires.table job.of.asked.unit c.requires.can.later c.requires.can.of.asked.unit c.dels-deleted.result.now
    (c.dels-deleted.ensures ∙ ap (λ (l : TableLists). l.deleted) c.requires.lists.are))
