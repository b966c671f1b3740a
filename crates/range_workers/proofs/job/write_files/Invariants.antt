use Rattle.std.proofs.Common.{◌≡◌, drop, false, take}
use Rattle.std.specs.Option.{option_map}
use Rattle.pd_outside.specs.Faults.{Unfailed}
use Rattle.pd_outside.specs.Shelf.{finish_files}
use Rattle.range_workers.specs.Makers.{IsReadyToMake}
use Rattle.range_workers.specs.Marks.{due_files, end_before}
use Rattle.range_workers.proofs.job.write_files.Given as goal

abbrev pub invariant-loop-i : goal.invariant-loop-i
invariant-loop-i g l = record {
  files :
      g.S.Shelf.held l.shelf
      ≡ option_map (finish_files (take l.i (due_files (g.P.Packer.text l.packer) (g.P.Packer.count l.packer) l.marks))) (g.S.Shelf.held l.fn.shelf);
  none_begun : g.S.Shelf.is_begun l.shelf ≡ false;
  unfailed : Unfailed (g.S.Shelf.counts l.fn.shelf) (g.S.Shelf.counts l.shelf);
  ready : IsReadyToMake (g.P.Packer.text l.packer) (g.P.Packer.count l.packer) (g.P.Packer.room l.packer) (end_before (g.P.Packer.count l.packer) (drop l.i l.marks)) l.makers;
}
