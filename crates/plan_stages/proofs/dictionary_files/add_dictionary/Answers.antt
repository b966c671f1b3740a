use Rattle.std.proofs.Common.{◌≤◌, Err, ap, arith, length}
use Rattle.std.proofs.lemmas.Result.{err_from_is_err_and}
use Rattle.plan_stages.specs.Limits.{dictionary_limit}
use Rattle.plan_stages.proofs.DictionaryLemmas.{read_as_words, refused_grammar, refused_reading}
use Rattle.plan_stages.proofs.LibraryLemmas.{after_done, done_of_itself, file_read, file_unread, grammar_of_itself, memory_of_itself}
use Rattle.plan_stages.proofs.dictionary_files.add_dictionary.Goals as goal

pub returns-in_err-bytes-clause-after : goal.returns-in_err-bytes-clause-after
returns-in_err-bytes-clause-after g c =
    let made = err_from_is_err_and c.from_residual.result c.from_residual.ensures.1 in
    let read = c.in_err-bytes.ensures in
    rw (made.1, made.2) (file_unread c.in_err-bytes.field-0.0 dictionary_limit _ _ _ _ _ _ read.files read.too_long.0 read.failed read.stopped read.unfailed)

pub returns-in_err-words-clause-after : goal.returns-in_err-words-clause-after
returns-in_err-words-clause-after g c =
    let made = err_from_is_err_and c.from_residual-in_err-words.result c.from_residual-in_err-words.ensures.1 in
    let read = c.in_ok-bytes.ensures in
    rw (made.1, made.2)
    (after_done _ 0 dictionary_limit _ _ _ _ _ _ (grammar_of_itself c.in_err-words.field-0.0) (file_read c.in_ok-bytes.bytes c.args.name.now _ _ _ _ _ _ read.files read.read_out read.within read.unfailed))

pub returns-in_err-push-clause-after : goal.returns-in_err-push-clause-after
returns-in_err-push-clause-after g c =
    let made = err_from_is_err_and c.from_residual-in_err-push.result c.from_residual-in_err-push.ensures.1 in
    let read = c.in_ok-bytes.ensures in
    rw (made.1, made.2)
    (after_done _ 0 dictionary_limit _ _ _ _ _ _ memory_of_itself (file_read c.in_ok-bytes.bytes c.args.name.now _ _ _ _ _ _ read.files read.read_out read.within read.unfailed))

pub returns-clause-after : goal.returns-clause-after
returns-clause-after g c =
    let read = c.in_ok-bytes.ensures in
    after_done _ 0 dictionary_limit _ _ _ _ _ _ done_of_itself (file_read c.in_ok-bytes.bytes c.args.name.now _ _ _ _ _ _ read.files read.read_out read.within read.unfailed)

pub returns-in_err-bytes-clause-refused : goal.returns-in_err-bytes-clause-refused
returns-in_err-bytes-clause-refused g c =
    let made = err_from_is_err_and c.from_residual.result c.from_residual.ensures.1 in
    rw (made.1, made.2) (refused_reading _ _ _ c.in_err-bytes.field-0.0 (λ same. c.in_err-bytes.ensures.longer (ap Err same)))

pub returns-in_err-words-clause-refused : goal.returns-in_err-words-clause-refused
returns-in_err-words-clause-refused g c =
    let made = err_from_is_err_and c.from_residual-in_err-words.result c.from_residual-in_err-words.ensures.1 in
    let within : length c.in_ok-bytes.bytes.items ≤ dictionary_limit = omega (arith, c.in_ok-bytes.ensures.taken, c.in_ok-bytes.ensures.within) in
    rw (made.1, made.2)
    (refused_grammar _ _ c.in_ok-bytes.bytes.items c.deref.result.now _ c.in_err-words.field-0.0 c.in_ok-bytes.ensures.whole within c.deref.ensures.value
    c.in_err-words.ensures.refused)

pub returns-clause-read : goal.returns-clause-read
returns-clause-read g c =
    let within : length c.in_ok-bytes.bytes.items ≤ dictionary_limit = omega (arith, c.in_ok-bytes.ensures.taken, c.in_ok-bytes.ensures.within) in
    read_as_words _ _ c.in_ok-bytes.bytes.items c.deref.result.now _ _ c.in_ok-words.words c.in_ok-bytes.ensures.whole within c.deref.ensures.value
    c.in_ok-words.ensures.read c.in_ok-push.ensures.appended
