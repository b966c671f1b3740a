use Rattle.std.proofs.Common.{◌≡◌, ℕ, true, Some, None, Ok, Err, length, ap, sym, ◌∙◌, arith, rules}
use Rattle.std.proofs.lemmas.Result.{err_from_is_err_and}
use Rattle.dictionaries.specs.Grammar.{without_mark, entry_lines, first_fault_from, word_list, dictionary_of}
use Rattle.dictionaries.specs.declared.fault.DictFault.TheVariants.{NotUtf8}
use Rattle.dictionaries.proofs.BoundLemmas.{IsWordList-dictionary_of}
use Rattle.dictionaries.proofs.DictionaryLemmas.{dictionary_of-no_text, dictionary_of-fault, dictionary_of-list, dictionary_of-is_ok, dictionary_of-empty}
use Rattle.dictionaries.proofs.read.read_dictionary.Goals.{After-deref, In_ok-draft}
use Rattle.dictionaries.proofs.read.read_dictionary.Goals as goal

pub returns-in-Err-clause-refused : goal.returns-in-Err-clause-refused
returns-in-Err-clause-refused c _ =
    dictionary_of-no_text c.args.bytes.now c.in-Err.ensures.cases.0
    ∙ ap (λ (at : ℕ). Err (NotUtf8 at)) (sym (c.valid_up_to.ensures ∙ c.in-Err.ensures.valid_len))

pub returns-in_err-draft-clause-refused : goal.returns-in_err-draft-clause-refused
returns-in_err-draft-clause-refused c =
    let bytes = c.args.bytes.now in
    let text-is : c.without_mark.result.now ≡ without_mark bytes = c.without_mark.ensures ∙ ap without_mark c.in-Ok.ensures.cases.0 in
    let fault = c.in_err-draft.field-0.0 in
    let told : first_fault_from 1 (entry_lines (without_mark bytes)) ≡ Some fault =
    rw text-is at c.in_err-draft.ensures.refused in
    let answer = err_from_is_err_and c.from_residual.result c.from_residual.ensures.1 in
    rw (answer.1, answer.2) (λ _. dictionary_of-fault bytes fault c.in-Ok.ensures.cases.1 told)

-- what is there where the lines have no fault
lines : (c : In_ok-draft) → (first_fault_from 1 (entry_lines (without_mark c.args.bytes.now)) ≡ None)
    × (c.in_ok-draft.draft.count ≡ length (entry_lines (without_mark c.args.bytes.now)))
    × (c.in_ok-draft.draft.is_whole ≡ true →
    word_list (entry_lines (without_mark c.args.bytes.now)) ≡ record { entries = c.in_ok-draft.draft.entries; weights = c.in_ok-draft.draft.weights.items })
lines c =
    let bytes = c.args.bytes.now in
    let text-is : c.without_mark.result.now ≡ without_mark bytes = c.without_mark.ensures ∙ ap without_mark c.in-Ok.ensures.cases.0 in
    (rw text-is at c.in_ok-draft.ensures.right, rw text-is at c.in_ok-draft.ensures.count, rw text-is at c.in_ok-draft.ensures.read)

pub returns-then-draft-eq0-clause-refused : goal.returns-then-draft-eq0-clause-refused
returns-then-draft-eq0-clause-refused c _ =
    let l = lines (goal.at.returns-then-draft-eq0-clause-refused c).In_ok-draft in
    dictionary_of-empty c.args.bytes.now c.in-Ok.ensures.cases.1 l.0 (sym l.1 ∙ omega arith)

pub returns-then-not-draft-clause-memory : goal.returns-then-not-draft-clause-memory
returns-then-not-draft-clause-memory c _ =
    let l = lines (goal.at.returns-then-not-draft-clause-memory c).In_ok-draft in
    dictionary_of-is_ok c.args.bytes.now c.in-Ok.ensures.cases.1 l.0 (omega (arith, l.1))

pub returns-in_err-dictionary-clause-memory : goal.returns-in_err-dictionary-clause-memory
returns-in_err-dictionary-clause-memory c =
    let l = lines (goal.at.returns-in_err-dictionary-clause-memory c).In_ok-draft in
    let right = dictionary_of-is_ok c.args.bytes.now c.in-Ok.ensures.cases.1 l.0 (omega (arith, l.1)) in
    let answer = err_from_is_err_and c.from_residual-in_err-dictionary.result c.from_residual-in_err-dictionary.ensures.1 in
    rw (answer.1, answer.2) (λ _. right)

-- the lines have no fault, and there is an entry
made : (c : After-deref) → dictionary_of c.args.bytes.now ≡ Ok (record { entries = c.in_ok-draft.draft.entries; weights = c.deref.result.now })
made c =
    let l = lines (goal.at.After-deref c).In_ok-draft in
    let kept = rw (← c.deref.ensures.value) at (l.2 (search rules)) in
    dictionary_of-list c.args.bytes.now c.in-Ok.ensures.cases.1 l.0 (omega (arith, l.1)) ∙ ap Ok kept

pub new-requires : goal.new-requires
new-requires c =
    IsWordList-dictionary_of c.args.bytes.now (record { entries = c.in_ok-draft.draft.entries; weights = c.deref.result.now }) (made c)

pub returns-clause-read : goal.returns-clause-read
returns-clause-read c = made (goal.at.returns-clause-read c).After-deref ∙ ap Ok (sym c.in_ok-dictionary.ensures)
