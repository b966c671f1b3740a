use Rattle.std.proofs.Common.{arith}
use Rattle.std.proofs.lemmas.Result.{err_from_is_err_and}
use Rattle.plan_stages.proofs.LibraryLemmas.{file_unread, unfailed_on_ok}
use Rattle.plan_stages.proofs.input_files.add_input.Goals as goal

pub returns-in_err-bytes-clause-unread : goal.returns-in_err-bytes-clause-unread
returns-in_err-bytes-clause-unread g c =
    let made = err_from_is_err_and c.from_residual.result c.from_residual.ensures.1 in
    let read = c.in_err-bytes.ensures in
    rw (made.1, made.2) (file_unread c.in_err-bytes.field-0.0 c.args.limit _ _ _ _ _ _ read.files read.too_long.0 read.failed read.stopped read.unfailed)

pub returns-clause-read : goal.returns-clause-read
returns-clause-read g c =
    let read = c.in_ok-bytes.ensures in
    record {
      bytes = c.in_ok-bytes.bytes.items;
      appended = c.in_ok-push.ensures.appended;
      whole = read.whole;
      taken = read.taken;
      within = omega (arith, read.taken, read.within);
      read_out = read.read_out;
      unfailed = unfailed_on_ok c.in_ok-bytes.bytes _ _ read.unfailed;
    }
