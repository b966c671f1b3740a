use Rattle.std.proofs.Common.{length}
use Rattle.request_words.proofs.form.+stands_in.Given as goal

abbrev pub decreases-stands_in : goal.decreases-stands_in
decreases-stands_in l = length l.words.now
