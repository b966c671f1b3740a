use Rattle.std.proofs.Common.{ap, ◌∙◌}
use Rattle.schema_facts.specs.Dictionaries.{Project}
use Rattle.update_box.specs.UnitLists.{unit_lists}
use Rattle.fill_jobs.proofs.PlayLemmas.{later-told}
use Rattle.fill_jobs.proofs.play.play_changes.Goals as goal

pub play_rows-requires-clause-source : goal.play_rows-requires-clause-source
play_rows-requires-clause-source g c = later-told c.args.rows.now c.args.unit c.in_ok-changed.changed
    (c.in_ok-changed.ensures.lists ∙ ap (λ (plan : Project). unit_lists plan c.args.unit) c.plan.ensures)
