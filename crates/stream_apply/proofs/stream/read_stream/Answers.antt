use Rattle.std.proofs.Common.{arith, sym, ◌∙◌}
use Rattle.stream_apply.specs.KeyedLines.{keyed}
use Rattle.stream_apply.proofs.StreamLemmas.{read-more, lines-below, above_zero, at_some}
use Rattle.stream_apply.proofs.stream.read_stream.Goals as goal

pub overflow_add-number : goal.overflow_add-number
overflow_add-number c =
    omega (
      arith,
      lines-below c.args.keys c.args.delimiter c.args.kind c.args.table.now c.loop-rest.lines c.args.bytes.now c.loop-rest.rest.now c.loop-rest.invariant,
      above_zero _ (sym c.is_empty.ensures ∙ c.loop-rest-test.true),
    )

pub loop-rest-preserved : goal.loop-rest-preserved
loop-rest-preserved c =
    let line = c.in-Some.line in
    let read = at_some c.in_ok-read_line.field-0 _ _ line c.in-Some.is c.in_ok-read_line.ensures in
    read-more c.args.keys c.args.delimiter c.args.kind c.args.table.now c.loop-rest.lines c.put.new.self (keyed line.key.now line.text.now) c.args.bytes.now c.loop-rest.rest.now line.rest.now
    c.loop-rest.invariant read.0 read.1 c.in_ok-check_key-in-Some.ensures.free c.in_ok-check_key-in-Some.ensures.held c.in_ok-put-in-Some.ensures
