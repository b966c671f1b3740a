use Rattle.std.proofs.Common.{◌≡◌, map}
use Rattle.std.specs.List.{range_with_len}
use Rattle.update_box.specs.Parts.{parts_of}
use Rattle.run_jobs.specs.Formats.{file_name, in_directory}
use Rattle.run_jobs.proofs.names.Directory.paths.Given as goal

abbrev pub invariant-loop-number : goal.invariant-loop-number
invariant-loop-number l =
    l.paths ≡ map (λ part. in_directory l.self.name.now (file_name l.self.format l.self.plan.now.schema l.unit part)) (parts_of l.contents (range_with_len l.places.from l.number))
