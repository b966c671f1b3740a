use Rattle.run_jobs.specs.modes.Undo.{undo_path}
use Rattle.run_jobs.proofs.MoreLemmas.{one_more}
use Rattle.run_jobs.proofs.names.Directory.undo_paths.Goals as goal

pub loop-number-preserved : goal.loop-number-preserved
loop-number-preserved c =
    one_more (undo_path c.args.self.now.plan.now c.args.unit c.args.self.now.name.now) c.args.places.from c.loop-number.number c.loop-number.paths c.put.new.paths c.in_ok-path.path
    c.loop-number.invariant c.in_ok-path.ensures c.in_ok-put.ensures
