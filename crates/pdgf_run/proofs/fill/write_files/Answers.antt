use Rattle.std.proofs.Common.{Some, arith, sym, ap, ◌∙◌}
use Rattle.std.proofs.lemmas.Result.{err_from_is_err_and}
use Rattle.pd_outside.proofs.Counts.{failed_then, unfailed_same, unfailed_then}
use Rattle.pdgf_run.proofs.FileLemmas.{all_finished, next_finished, next_partly, none_finished}
use Rattle.pdgf_run.proofs.fill.write_files.Goals as goal

pub loop-place-init : goal.loop-place-init
loop-place-init g c = record {
  held = none_finished c.args.job.now.names c.args.job.now.texts _ _ (g.met.S.Shelf.told_alike c.args.shelf.now) c.requires.none_begun;
  unfailed = unfailed_same _;
  none_begun = c.requires.none_begun;
}

pub loop-place-preserved : goal.loop-place-preserved
loop-place-preserved g c =
    let inv = c.loop-place.invariant in
    record {
      held =
          next_finished c.args.job.now.names c.args.job.now.texts c.loop-place.place c.as_str.result.now c.get-in-loop-place.result.now _ _ _
          (c.get.ensures ∙ ap Some (sym c.as_str.ensures.value)) c.get-in-loop-place.ensures inv.held c.in_ok-write_file.ensures.files;
      unfailed = unfailed_then _ _ _ inv.unfailed c.in_ok-write_file.ensures.unfailed;
      none_begun = c.in_ok-write_file.ensures.none_begun;
    }

pub returns-in_err-write_file-clause-prefix : goal.returns-in_err-write_file-clause-prefix
returns-in_err-write_file-clause-prefix g c =
    let made = err_from_is_err_and c.from_residual.result c.from_residual.ensures.1 in
    rw made.1
    (next_partly c.args.job.now.names c.args.job.now.texts c.loop-place.place c.as_str.result.now c.get-in-loop-place.result.now _ _ _
    (c.get.ensures ∙ ap Some (sym c.as_str.ensures.value)) c.get-in-loop-place.ensures c.loop-place.invariant.held c.in_err-write_file.ensures.prefix)

pub returns-clause-files : goal.returns-clause-files
returns-clause-files g c =
    all_finished c.args.job.now.names c.args.job.now.texts c.loop-place.place _ _ (omega (arith, c.loop-place-test.false, c.len-place-end.ensures))
    c.loop-place.invariant.held

pub returns-in_err-write_file-clause-failed : goal.returns-in_err-write_file-clause-failed
returns-in_err-write_file-clause-failed g c =
    let made = err_from_is_err_and c.from_residual.result c.from_residual.ensures.1 in
    rw made.1 (failed_then _ _ _ c.loop-place.invariant.unfailed c.in_err-write_file.ensures.failed)
