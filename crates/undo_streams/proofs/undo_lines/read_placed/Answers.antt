use Rattle.undo_streams.proofs.LeadLemmas.{places-no_digits, places-other}
use Rattle.undo_streams.proofs.undo_lines.read_placed.Goals as goal

pub returns-in_err-digits : goal.returns-in_err-digits
returns-in_err-digits c = rw c.from_residual.ensures (places-no_digits c.args.delimiter c.requires c.args.behind.now c.in_err-digits.ensures)

pub returns-in_err-place : goal.returns-in_err-place
returns-in_err-place c =
    rw c.from_residual-in_err-place.ensures (places-other c.args.delimiter c.requires c.args.behind.now c.in_ok-digits.digits.now c.in_ok-digits.body.now
    c.in_ok-digits.ensures.0 c.in_ok-digits.ensures.1 c.in_err-place.ensures)
