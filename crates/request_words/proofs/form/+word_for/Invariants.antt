use Rattle.std.proofs.Common.{length}
use Rattle.request_words.proofs.form.+word_for.Given as goal

abbrev pub decreases-word_for : goal.decreases-word_for
decreases-word_for l = length l.words.now
