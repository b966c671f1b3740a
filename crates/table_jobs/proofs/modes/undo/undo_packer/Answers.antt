use Rattle.std.proofs.Common.{◌≡◌, ◌<◌, ◌-◌, ℕ, Global, List, Vec, length, ap, arith, subst, sym, ◌∙◌}
use Rattle.schema_facts.specs.Dictionaries.{Project}
use Rattle.schema_plan.specs.Limits.{IsInLimits}
use Rattle.undo_streams.specs.Packages.{AreChanges}
use Rattle.undo_streams.specs.Places.{places_of}
use Rattle.undo_streams.specs.declared.changes.Changes.{Changes}
use Rattle.update_box.specs.Packages.{chosen_places}
use Rattle.update_box.specs.Prepared.{IsAmong}
use Rattle.update_box.specs.TableLists.{HasLists, table_lists_at}
use Rattle.update_box.proofs.EntryLemmas.{chosen_places-among}
use Rattle.table_jobs.proofs.UndoLemmas.{at-number, changes-lists, chosen-among}
use Rattle.table_jobs.proofs.modes.undo.undo_packer.Goals as goal

pub lines_of-before-requires-clause-among : goal.lines_of-before-requires-clause-among
lines_of-before-requires-clause-among c =
    let of = c.args.job.now.of.of in chosen-among of.plan of.asked.table of.tables c.args.number c.args.table c.requires.can.of.of.chosen c.requires.number c.requires.table

pub new-requires-clause-changes : goal.new-requires-clause-changes
new-requires-clause-changes c =
    let of = c.args.job.now.of.of in
    let plan : Project = of.plan in
    let lists = c.args.job.now.of.rows in
    let limits : IsInLimits plan = subst IsInLimits (c.plan.ensures ∙ c.requires.rows) c.schema-sound.ensures.limits in
    let among : IsAmong of.tables c.args.table = chosen-among plan of.asked.table of.tables c.args.number c.args.table c.requires.can.of.of.chosen c.requires.number c.requires.table in
    let there : c.args.table < length plan.schema.tables = omega (arith, among.not_ended, c.requires.can.of.of.prepared.within) in
    let has : HasLists plan of.asked.unit lists c.args.table =
    c.requires.can.of.found.each c.args.table there (chosen_places-among plan of.asked.table of.tables c.args.table c.requires.can.of.of.chosen among) in
    let changes : Changes = record { deleted = c.dels.result; places = c.as_slice.result; updated = c.upds.result; inserted = c.ins.result } in
    let told : ℕ → List ℕ = λ place. places_of plan place (of.asked.unit - 1) (table_lists_at lists place).deleted in
    let places : changes.places.now ≡ told c.args.table =
    c.as_slice.ensures.value
    ∙ ap (λ (v : Vec ℕ Global). v.items) c.index.ensures
    ∙ at-number told c.args.job.now.places.items (chosen_places plan of.asked.table) c.args.number c.index.result.now c.requires.can.found c.requires.number
    ∙ ap told c.requires.table in
    let made : AreChanges plan c.args.table of.asked.unit changes =
    changes-lists plan limits of.asked.unit c.args.table c.requires.can.of.of.asked.unit there lists has changes c.dels.ensures c.upds.ensures c.ins.ensures places in
    subst (λ (p : Project). AreChanges p c.args.table of.asked.unit changes) (sym c.requires.rows) made
