use Rattle.std.proofs.Common.{◌∙◌}
use Rattle.pd_outside.proofs.Appending.{file_as_a_whole, file_in_part}
use Rattle.pd_outside.proofs.Counts.{failed_by, failed_then, unfailed_by, unfailed_then}
use Rattle.range_workers.specs.Marks.{texts}
use Rattle.range_workers.proofs.WriteLemmas.{refused_begin}
use Rattle.range_workers.proofs.job.write_file.Goals as goal

pub returns-in-Err-clause-prefix : goal.returns-in-Err-clause-prefix
returns-in-Err-clause-prefix g c =
    let bytes = texts (g.P.Packer.text c.args.packer.now) c.args.first c.args.end in
    refused_begin (record { name = c.args.name.now; bytes = bytes }) _ _ _ (g.met.S.Shelf.told_alike c.args.shelf.now) c.requires.none_begun c.in-Err.ensures.unchanged

pub returns-in-Err-write_packages-clause-prefix : goal.returns-in-Err-write_packages-clause-prefix
returns-in-Err-write_packages-clause-prefix g c =
    let bytes = texts (g.P.Packer.text c.args.packer.now) c.args.first c.args.end in
    file_in_part (record { name = c.args.name.now; bytes = bytes }) _ _ _ c.in-Ok.ensures.held c.in-Err-write_packages.ensures.prefix

pub returns-in-Err-end-clause-prefix : goal.returns-in-Err-end-clause-prefix
returns-in-Err-end-clause-prefix g c =
    let bytes = texts (g.P.Packer.text c.args.packer.now) c.args.first c.args.end in
    file_as_a_whole (record { name = c.args.name.now; bytes = bytes }) _ _ _ c.in-Ok.ensures.held (c.in-Err-end.ensures.unchanged ∙ c.in-Ok-write_packages.ensures.text)

pub returns-in-Err-clause-counts : goal.returns-in-Err-clause-counts
returns-in-Err-clause-counts g c = record { unfailed = tt; failed = failed_by _ _ _ c.in-Err.ensures.counts }

pub returns-in-Err-write_packages-clause-counts : goal.returns-in-Err-write_packages-clause-counts
returns-in-Err-write_packages-clause-counts g c = record {
  unfailed = tt;
  failed = failed_then _ _ _ (unfailed_by _ _ _ c.in-Ok.ensures.counts) c.in-Err-write_packages.ensures.counts.failed;
}

pub returns-in-Err-end-clause-counts : goal.returns-in-Err-end-clause-counts
returns-in-Err-end-clause-counts g c = record {
  unfailed = tt;
  failed =
      failed_then _ _ _ (unfailed_then _ _ _ (unfailed_by _ _ _ c.in-Ok.ensures.counts) c.in-Ok-write_packages.ensures.counts.unfailed)
      (failed_by _ _ _ c.in-Err-end.ensures.counts);
}

pub returns-in-Ok-end-clause-counts : goal.returns-in-Ok-end-clause-counts
returns-in-Ok-end-clause-counts g c = record {
  unfailed =
      unfailed_then _ _ _ (unfailed_then _ _ _ (unfailed_by _ _ _ c.in-Ok.ensures.counts) c.in-Ok-write_packages.ensures.counts.unfailed)
      (unfailed_by _ _ _ c.in-Ok-end.ensures.counts);
  failed = tt;
}
