use Rattle.std.proofs.Common.{◌≡◌, false, take}
use Rattle.std.specs.Option.{option_map}
use Rattle.pd_outside.specs.Faults.{Unfailed}
use Rattle.pd_outside.specs.Shelf.{finish_files}
use Rattle.run_jobs.specs.Formats.{named_files}
use Rattle.pdgf_run.proofs.fill.write_files.Given as goal

abbrev pub invariant-loop-place : goal.invariant-loop-place
invariant-loop-place g l = record {
  held : g.S.Shelf.held l.shelf ≡ option_map (finish_files (take l.place (named_files l.job.names l.job.texts))) (g.S.Shelf.held l.fn.shelf);
  unfailed : Unfailed (g.S.Shelf.counts l.fn.shelf) (g.S.Shelf.counts l.shelf);
  none_begun : g.S.Shelf.is_begun l.shelf ≡ false;
}
