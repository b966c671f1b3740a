use Rattle.std.proofs.Common.{length}
use Rattle.request_words.proofs.form.+is_option_word.Given as goal

abbrev pub decreases-is_option_word : goal.decreases-is_option_word
decreases-is_option_word l = length l.options.now
