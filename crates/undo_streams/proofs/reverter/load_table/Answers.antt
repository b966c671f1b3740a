use Rattle.std.proofs.Common.{ℕ, List, [], sym}
use Rattle.std.proofs.lemmas.Bool.{true≢false}
use Rattle.std.proofs.lemmas.Result.{err_from_is_err_and}
use Rattle.stream_apply.specs.Streams.{IsFaultOf}
use Rattle.stream_apply.specs.declared.fault.ApplyFault.{ApplyFault}
use Rattle.stream_apply.specs.declared.fault.ApplyFault.TheVariants.{BadLine, DoubleKey, KeyExists, Memory, NoSuchKey}
use Rattle.stream_apply.specs.declared.key_fields.KeyFields.TheVariants.{One}
use Rattle.stream_apply.specs.declared.kind.InputKind.TheVariants.{Snapshot}
use Rattle.undo_streams.specs.Reverting.{IsLoadFault, revert_fault_of}
use Rattle.undo_streams.proofs.reverter.load_table.Goals as goal

-- a table's text is read for a table without lines, where no line of it wants a key or finds one
load-fault : (delimiter : ℕ) (bytes : List ℕ) (fault : ApplyFault) → IsFaultOf One delimiter Snapshot [] bytes fault → IsLoadFault delimiter bytes (revert_fault_of fault)
load-fault delimiter bytes (BadLine line) is = is
load-fault delimiter bytes (DoubleKey line) is = is
load-fault delimiter bytes (NoSuchKey line) is = absurd (true≢false (sym is.key.2))
load-fault delimiter bytes (KeyExists line) is = absurd (true≢false (sym is.key.3))
load-fault delimiter bytes Memory is = tt

pub returns-in_err-table-clause-fault : goal.returns-in_err-table-clause-fault
returns-in_err-table-clause-fault c =
    let told = err_from_is_err_and c.from_residual.result c.from_residual.ensures.1 in
    rw (told.1, told.2) (load-fault c.args.delimiter c.args.snapshot.now c.in_err-table.field-0.0 c.in_err-table.ensures.fault)
