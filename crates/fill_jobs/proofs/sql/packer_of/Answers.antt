use Rattle.std.proofs.Common.{subst, sym}
use Rattle.update_box.specs.Parts.{Part}
use Rattle.update_box.specs.TableLists.{HasLists}
use Rattle.fill_jobs.proofs.SqlLemmas.{part-lists}
use Rattle.fill_jobs.proofs.sql.packer_of.Goals as goal

pub of_changes-requires-clause-lists : goal.of_changes-requires-clause-lists
of_changes-requires-clause-lists c =
    let job = c.args.job.now in
    subst (λ (part : Part). HasLists job.of.plan job.of.asked.unit c.in-Some.changes part.place) (sym c.part.view_is) (part-lists job c.requires.can c.args.part.now c.requires.part c.in-Some.changes c.in-Some.is)
