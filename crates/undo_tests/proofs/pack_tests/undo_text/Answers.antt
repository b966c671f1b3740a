use Rattle.std.proofs.Common.{◌≡◌, ◌-◌, ℕ, All, List, true, ap, subst, sym, ◌∙◌}
use Rattle.schema_facts.specs.Dictionaries.{Project}
use Rattle.life_intervals.specs.Generator.{generator_of}
use Rattle.life_intervals.specs.Simulation.{holds_row, rows_at}
use Rattle.undo_streams.proofs.UndoLineLemmas.{deleted-held, deleted-rising}
use Rattle.update_box.specs.UnitLists.{TableLists}
use Rattle.undo_tests.proofs.ChangeLemmas.{lists-table, lists-there}
use Rattle.undo_tests.proofs.pack_tests.undo_text.Goals as goal

pub places-requires-clause-rising : goal.places-requires-clause-rising
places-requires-clause-rising g c =
    let plan : Project = c.args.plan.now in
    deleted-rising plan c.schema-limits.ensures.limits c.args.table c.requires.table c.args.t c.requires.later c.requires.unit c.dels.result.now
    (c.dels.ensures ∙ ap (λ (l : TableLists). l.deleted) (lists-table plan c.args.t c.args.table c.requires.table c.in-Ok.lists c.in-Ok.ensures.lists))

pub places-requires-clause-held : goal.places-requires-clause-held
places-requires-clause-held g c =
    let plan : Project = c.args.plan.now in
    subst (λ (p : Project). All (λ ordinal. holds_row (rows_at (generator_of p) c.args.table (c.args.t - 1)) ordinal ≡ true) c.dels.result.now) (sym c.of-rows.ensures)
    (deleted-held plan c.schema-limits.ensures.limits c.args.table c.requires.table c.args.t c.requires.later c.requires.unit c.dels.result.now
    (c.dels.ensures ∙ ap (λ (l : TableLists). l.deleted) (lists-table plan c.args.t c.args.table c.requires.table c.in-Ok.lists c.in-Ok.ensures.lists)))

pub dels-requires : goal.dels-requires
dels-requires g c = lists-there c.args.plan.now c.args.t c.args.table c.requires.table c.in-Ok.lists c.in-Ok.ensures.lists
