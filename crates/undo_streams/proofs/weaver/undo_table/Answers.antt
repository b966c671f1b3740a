use Rattle.std.proofs.Common.{◌+◌, length, ap, sym, ◌∙◌}
use Rattle.std.proofs.lemmas.Bool.{eqb-true}
use Rattle.std.proofs.lemmas.Option.{MatchOption-at_none, MatchOption-at_some}
use Rattle.stream_apply.proofs.StreamLemmas.{above_zero}
use Rattle.undo_streams.specs.ReadLines.{undo_of}
use Rattle.undo_streams.specs.Reverting.{IsUndoFault}
use Rattle.undo_streams.specs.Weaving.{undoing_of}
use Rattle.undo_streams.proofs.UndoLemmas.{undone-all, undone-bad_line, undone-fault, undone-more, undone-none}
use Rattle.undo_streams.proofs.WeaverLemmas.{if_err}
use Rattle.undo_streams.proofs.weaver.undo_table.Goals as goal

pub loop-rest-init : goal.loop-rest-init
loop-rest-init c = record {
  sound = c.new-weaver.ensures.sound;
  to = undone-none c.args.delimiter c.args.table c.args.bytes.now (undoing_of c.new-weaver.result) c.new-weaver.ensures.begun;
}

pub returns-in-None-clause-fault : goal.returns-in-None-clause-fault
returns-in-None-clause-fault c =
    undone-bad_line c.args.delimiter c.args.table c.args.bytes.now c.loop-rest.rest.now (undoing_of c.loop-rest.weaver) c.loop-rest.invariant.to (c.len.result + 1)
    (ap (λ n. n + 1) c.len.ensures.number) (above_zero _ (sym c.is_empty.ensures ∙ c.loop-rest-test.true)) (MatchOption-at_none _ _ c.in-None.is c.in_ok-read_undo.ensures)

pub returns-in_err-take-in-Some-clause-fault : goal.returns-in_err-take-in-Some-clause-fault
returns-in_err-take-in-Some-clause-fault c =
    let line = c.in-Some.line in
    let read = MatchOption-at_some _ _ line c.in-Some.is c.in_ok-read_undo.ensures in
    if_err c.from_residual-in_err-take-in-Some.result c.in_err-take-in-Some.field-0.0 (IsUndoFault c.args.delimiter c.args.table c.args.bytes.now) c.from_residual-in_err-take-in-Some.ensures.1
    (undone-fault c.args.delimiter c.args.table c.args.bytes.now c.loop-rest.rest.now (undoing_of c.loop-rest.weaver) c.loop-rest.invariant.to (undo_of line) line.rest.now (c.len.result + 1)
    c.in_err-take-in-Some.field-0.0 (ap (λ n. n + 1) c.len.ensures.number) read.0 read.1 read.2 c.in_err-take-in-Some.ensures.fault)

pub loop-rest-preserved : goal.loop-rest-preserved
loop-rest-preserved c =
    let line = c.in-Some.line in
    let read = MatchOption-at_some _ _ line c.in-Some.is c.in_ok-read_undo.ensures in
    let taken = c.in_ok-take-in-Some.ensures in
    record {
      sound = taken.sound;
      to = undone-more c.args.delimiter c.args.table c.args.bytes.now c.loop-rest.rest.now (undoing_of c.loop-rest.weaver) c.loop-rest.invariant.to (undo_of line) (undoing_of c.take.new.self) line.rest.now
          read.0 read.1 read.2 taken.free taken.held taken.placed taken.taken;
    }

pub returns-clause-undone : goal.returns-clause-undone
returns-clause-undone c =
    undone-all c.args.delimiter c.args.table c.args.bytes.now c.loop-rest.rest.now (undoing_of c.loop-rest.weaver) c.loop-rest.invariant.to c.in_ok-finish.field-0
    (eqb-true (length c.loop-rest.rest.now) 0 (sym c.is_empty.ensures ∙ c.loop-rest-test.false)) c.in_ok-finish.ensures
