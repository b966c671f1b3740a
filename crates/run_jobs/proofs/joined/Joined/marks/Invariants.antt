use Rattle.std.proofs.Common.{◌≡◌, take}
use Rattle.std.specs.Prelude.{zip}
use Rattle.std.specs.List.{sum_by}
use Rattle.run_jobs.specs.Joined.{part_count, part_name}
use Rattle.update_box.specs.Packages.{marks_from}
use Rattle.run_jobs.proofs.joined.Joined.marks.Given as goal

abbrev pub invariant-loop-place : goal.invariant-loop-place
invariant-loop-place g l = record {
  marks : l.marks ≡ marks_from (part_count g.P.Packer.count) part_name 0 (take l.place (zip l.names l.self.parts.items));
  first : l.first ≡ sum_by g.P.Packer.count (take l.place l.self.parts.items);
}
