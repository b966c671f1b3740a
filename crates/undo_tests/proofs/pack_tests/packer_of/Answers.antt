use Rattle.std.proofs.Common.{◌≡◌, ℕ, subst, sym}
use Rattle.schema_facts.specs.Dictionaries.{Project}
use Rattle.schema_plan.specs.Limits.{IsInLimits}
use Rattle.undo_streams.specs.Packages.{AreChanges}
use Rattle.undo_streams.specs.declared.changes.Changes.{Changes}
use Rattle.undo_tests.proofs.ChangeLemmas.{changes-lists, lists-there}
use Rattle.undo_tests.proofs.pack_tests.packer_of.Goals as goal

pub new-requires-clause-changes : goal.new-requires-clause-changes
new-requires-clause-changes c =
    let plan : Project = c.args.rows.now in
    let limits : IsInLimits plan = subst IsInLimits c.plan.ensures c.schema-sound.ensures.limits in
    let changes : Changes = record { deleted = c.dels.result; places = c.args.found; updated = c.upds.result; inserted = c.ins.result } in
    subst (λ (unit : ℕ). AreChanges plan c.args.table unit changes) (sym c.unit.ensures)
    (changes-lists plan limits c.args.lists.now.unit c.args.table c.requires.unit c.requires.table c.args.lists.now c.requires.lists changes c.dels.ensures c.upds.ensures c.ins.ensures c.requires.found)

pub dels-requires : goal.dels-requires
dels-requires c = lists-there c.args.rows.now c.args.lists.now.unit c.args.table c.requires.table c.args.lists.now c.requires.lists

pub upds-requires : goal.upds-requires
upds-requires c = lists-there c.args.rows.now c.args.lists.now.unit c.args.table c.requires.table c.args.lists.now c.requires.lists

pub ins-requires : goal.ins-requires
ins-requires c = lists-there c.args.rows.now c.args.lists.now.unit c.args.table c.requires.table c.args.lists.now c.requires.lists
