use Rattle.std.proofs.Common.{◌≡◌, ◌≤◌, ◌-◌, true}
use Rattle.std.specs.Option.{option_map}
use Rattle.pd_outside.specs.Faults.{Unfailed}
use Rattle.pd_outside.specs.Shelf.{append_bytes}
use Rattle.range_workers.specs.Makers.{IsReadyToMake}
use Rattle.range_workers.specs.Marks.{texts}
use Rattle.range_workers.proofs.job.write_packages.Given as goal

abbrev pub invariant-loop-n : goal.invariant-loop-n
invariant-loop-n g l = record {
  from : l.first ≤ l.n;
  within : l.n ≤ l.end;
  text : g.S.Shelf.held l.shelf ≡ option_map (append_bytes (texts (g.P.Packer.text l.packer) l.first l.n)) (g.S.Shelf.held l.fn.shelf);
  begun : g.S.Shelf.is_begun l.shelf ≡ true;
  unfailed : Unfailed (g.S.Shelf.counts l.fn.shelf) (g.S.Shelf.counts l.shelf);
  ready : IsReadyToMake (g.P.Packer.text l.packer) (g.P.Packer.count l.packer) (g.P.Packer.room l.packer) l.n l.makers;
}

abbrev pub decreases-loop-n : goal.decreases-loop-n
decreases-loop-n g l = l.end - l.n
