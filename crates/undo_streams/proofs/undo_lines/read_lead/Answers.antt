use Rattle.undo_streams.proofs.LeadLemmas.{leads-no_word, leads-other_word}
use Rattle.undo_streams.proofs.undo_lines.read_lead.Goals as goal

pub returns-in_err-word : goal.returns-in_err-word
returns-in_err-word c = rw c.from_residual.ensures (leads-no_word c.args.delimiter c.requires c.args.text.now c.in_err-word.ensures)

pub returns-in_err-part : goal.returns-in_err-part
returns-in_err-part c =
    rw c.from_residual-in_err-part.ensures (leads-other_word c.args.delimiter c.requires c.args.text.now c.in_ok-word.word.now c.in_ok-word.behind.now
    c.in_ok-word.ensures.0 c.in_ok-word.ensures.1 c.in_err-part.ensures)
