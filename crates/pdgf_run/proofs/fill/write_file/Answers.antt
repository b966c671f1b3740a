use Rattle.std.proofs.Common.{◌∙◌}
use Rattle.pd_outside.proofs.Appending.{file_as_a_whole, file_in_part}
use Rattle.pd_outside.proofs.Counts.{failed_by, failed_then, unfailed_by, unfailed_then}
use Rattle.range_workers.proofs.WriteLemmas.{refused_begin}
use Rattle.pdgf_run.proofs.fill.write_file.Goals as goal

pub returns-in-Err-clause-prefix : goal.returns-in-Err-clause-prefix
returns-in-Err-clause-prefix g c =
    refused_begin (record { name = c.args.name.now; bytes = c.args.bytes.now }) _ _ _ (g.met.S.Shelf.told_alike c.args.shelf.now) c.requires.none_begun c.in-Err.ensures.unchanged

pub returns-in-Err-write_all-clause-prefix : goal.returns-in-Err-write_all-clause-prefix
returns-in-Err-write_all-clause-prefix g c =
    file_in_part (record { name = c.args.name.now; bytes = c.args.bytes.now }) _ _ _ c.in-Ok.ensures.held c.in-Err-write_all.ensures.prefix

pub returns-in-Err-end-clause-prefix : goal.returns-in-Err-end-clause-prefix
returns-in-Err-end-clause-prefix g c =
    file_as_a_whole (record { name = c.args.name.now; bytes = c.args.bytes.now }) _ _ _ c.in-Ok.ensures.held (c.in-Err-end.ensures.unchanged ∙ c.in-Ok-write_all.ensures.all)

pub returns-in-Err-clause-failed : goal.returns-in-Err-clause-failed
returns-in-Err-clause-failed g c = failed_by _ _ _ c.in-Err.ensures.counts

pub returns-in-Err-write_all-clause-failed : goal.returns-in-Err-write_all-clause-failed
returns-in-Err-write_all-clause-failed g c = failed_then _ _ _ (unfailed_by _ _ _ c.in-Ok.ensures.counts) c.in-Err-write_all.ensures.counts.failed

pub returns-in-Err-end-clause-failed : goal.returns-in-Err-end-clause-failed
returns-in-Err-end-clause-failed g c =
    failed_then _ _ _ (unfailed_then _ _ _ (unfailed_by _ _ _ c.in-Ok.ensures.counts) c.in-Ok-write_all.ensures.counts.unfailed)
    (failed_by _ _ _ c.in-Err-end.ensures.counts)

pub returns-in-Ok-end-clause-unfailed : goal.returns-in-Ok-end-clause-unfailed
returns-in-Ok-end-clause-unfailed g c =
    unfailed_then _ _ _ (unfailed_then _ _ _ (unfailed_by _ _ _ c.in-Ok.ensures.counts) c.in-Ok-write_all.ensures.counts.unfailed)
    (unfailed_by _ _ _ c.in-Ok-end.ensures.counts)
