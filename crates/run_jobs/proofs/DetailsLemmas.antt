-- The declaration of a detail table as it is read, the word lists that it asks for, and the names that are asked.
use Rattle.std.proofs.Common.{◌≡◌, ◌≢◌, ◌<◌, ◌≤◌, ℕ, Bool, List, [], ◌∷◌, ◌++◌, length, length-append, take, Option, None, Some, Result, Ok, Err, inl, inr, refl, ap, sym, subst, ◌∙◌, arith}
use Rattle.std.specs.Prelude.{◌⊎◌, IfOk, IfSome, OnOk, if◌then◌else◌, nat_lt}
use Rattle.std.specs.Option.{option_map}
use Rattle.std.specs.Result.{result_unwrap_or}
use Rattle.std.proofs.lemmas.Bool.{le-ltb, lt-ltb}
use Rattle.std.proofs.lemmas.Bool.Decides.{nat_tests}
use Rattle.dictionaries.specs.WordList.{WordList}
use Rattle.dictionaries.specs.declared.fault.DictFault.TheVariants as grammar
use Rattle.pd_outside.specs.Files.{File, bytes_of}
use Rattle.pd_outside.specs.Library.{AskedAtMost, AskedPrefixOf, Content, ask}
use Rattle.pd_outside.specs.declared.faults.ReadFault.{ReadFault}
use Rattle.pd_outside.specs.declared.faults.ReadFault.TheVariants as reading
use Rattle.plan_stages.specs.DictionaryFiles.{dictionaries_status, names_of, with_dictionaries}
use Rattle.plan_stages.specs.Limits.{schema_limit}
use Rattle.plan_stages.specs.PlanNames.{AskedNone, AsksNames, up_to_fault}
use Rattle.plan_stages.specs.Stages.{Decides, in_stage, on_ok, told_files}
use Rattle.plan_stages.proofs.DictionaryLemmas.{IfSome-same, asked_also, asks_first, none_asked, none_readable}
use Rattle.plan_stages.proofs.LibraryLemmas.{IsOfItself}
use Rattle.refusals.specs.Statuses.{cause_status, details_status}
use Rattle.refusals.specs.declared.refusal.DetailsCause.{DetailsCause}
use Rattle.refusals.specs.declared.refusal.DetailsCause.TheVariants as details
use Rattle.refusals.specs.declared.refusal.DictionaryCause.{DictionaryCause}
use Rattle.refusals.specs.declared.refusal.DictionaryCause.TheVariants as cause
use Rattle.refusals.specs.declared.refusal.DictionaryFault.{DictionaryFault}
use Rattle.schema_facts.specs.Dictionaries.{Dictionary, Project}
use Rattle.detail_plan.specs.Kept.{Kept}
use Rattle.detail_plan.specs.declared.detail.Detail.{Detail}
use Rattle.run_jobs.specs.Details.{declaration_names, declared_of, detail_in, detail_of_text, detail_with_words, kept_in, kept_over, kept_with_lists, lists_by, lists_cited, lists_in, lists_named, lists_of, possible_declaration, AsksForDetails, DetailsRead}
use Rattle.run_jobs.proofs.AskedNameLemmas.{asked_then, words_read, asked_some, none_first}

-- ---- the declaration's file

abbrev unless_long : Project → List File → List ℕ → Bool → Result Kept DetailsCause
unless_long plan files bytes long = if long then Err (details.Reading reading.TooLong) else detail_of_text plan files bytes

-- the file isn't read
pub unread_decides : (content : Option Content) (plan : Project) (name : List ℕ) (fault : ReadFault) →
    (◌≡◌ {A = Result (List ℕ) ReadFault} (Err fault) (Err reading.TooLong) → IfSome content (λ c. schema_limit < length (bytes_of c.files name))) →
    IfSome (told_files content) (λ files. Decides details_status (λ kept. kept) (Err (details.Reading fault)) (detail_in plan files name))
unread_decides None plan name fault longer = tt
unread_decides (Some c) plan name reading.Failed longer = λ free. absurd (cc)
unread_decides (Some c) plan name reading.TooLong longer = λ free.
    ap (unless_long plan c.files (bytes_of c.files name)) (lt-ltb schema_limit (length (bytes_of c.files name)) (longer refl))
unread_decides (Some c) plan name reading.Memory longer = λ free. absurd (cc)

-- it is, and declares what its bytes do
decided_for_file : (files : List File) (plan : Project) (name bytes : List ℕ) (answer : Result Kept DetailsCause) → bytes ≡ bytes_of files name → length bytes ≤ schema_limit →
    Decides details_status (λ kept. kept) answer (detail_of_text plan files bytes) → Decides details_status (λ kept. kept) answer (detail_in plan files name)
decided_for_file files plan name bytes answer whole within decides =
    subst (λ (all : List ℕ). Decides details_status (λ kept. kept) answer (unless_long plan files all (nat_lt schema_limit (length all)))) whole
    (subst (λ (long : Bool). Decides details_status (λ kept. kept) answer (unless_long plan files bytes long)) (sym (le-ltb schema_limit (length bytes) within)) decides)

pub read_decides : (content : Option Content) (told : Option (List File)) (plan : Project) (name bytes text : List ℕ) (answer : Result Kept DetailsCause) → told ≡ told_files content →
    IfSome content (λ c. bytes ≡ bytes_of c.files name) → length bytes ≤ schema_limit → text ≡ bytes →
    IfSome told (λ files. Decides details_status (λ kept. kept) answer (detail_of_text plan files text)) →
    IfSome (told_files content) (λ files. Decides details_status (λ kept. kept) answer (detail_in plan files name))
read_decides None told plan name bytes text answer same whole within is decides = tt
read_decides (Some c) told plan name bytes text answer same whole within is decides =
    decided_for_file c.files plan name text answer (is ∙ whole) (subst (λ (b : List ℕ). length b ≤ schema_limit) (sym is) within)
    (IfSome-same (λ files. Decides details_status (λ kept. kept) answer (detail_of_text plan files text)) told (Some c.files) same decides)

-- ---- its word lists and its rules

-- it cites one that may not be cited
pub uncited_decides : (told : Option (List File)) (plan : Project) (detail : Detail) (cause : DetailsCause) → Decides details_status (λ names. names) (Err cause) (lists_cited plan detail) →
    IfSome told (λ files. Decides details_status (λ kept. kept) (Err cause) (kept_in plan files detail))
uncited_decides None plan detail cause decides = tt
uncited_decides (Some files) plan detail cause decides = λ free.
    ap (λ (cited : Result (List (List ℕ)) DetailsCause). on_ok cited (kept_with_lists plan files detail)) (decides free)

-- one isn't read
pub unlisted_decides : (told : Option (List File)) (plan : Project) (detail : Detail) (names : List (List ℕ)) (fault : DictionaryFault) → lists_cited plan detail ≡ Ok names →
    IfSome told (λ files. Decides dictionaries_status (λ (found : List Dictionary). plan.dictionaries ++ found) (Err fault) (with_dictionaries files plan.dictionaries names)) →
    IfSome told (λ files. Decides details_status (λ kept. kept) (Err (details.Dictionary fault)) (kept_in plan files detail))
unlisted_decides None plan detail names fault cited decides = tt
unlisted_decides (Some files) plan detail names fault cited decides = λ free.
    ap (λ (c : Result (List (List ℕ)) DetailsCause). on_ok c (kept_with_lists plan files detail)) cited
    ∙ ap (λ (r : Result (List Dictionary) DictionaryFault). on_ok (in_stage details.Dictionary r) (kept_over plan detail)) (decides free)

-- all are, and then its rules are tried
pub kept_decides : (told : Option (List File)) (plan : Project) (detail : Detail) (names : List (List ℕ)) (found : List Dictionary) (answer : Result Kept DetailsCause) →
    lists_cited plan detail ≡ Ok names → IfSome told (λ files. with_dictionaries files plan.dictionaries names ≡ Ok (plan.dictionaries ++ found)) →
    Decides details_status (λ kept. kept) answer (kept_over plan detail (plan.dictionaries ++ found)) →
    IfSome told (λ files. Decides details_status (λ kept. kept) answer (kept_in plan files detail))
kept_decides None plan detail names found answer cited read decides = tt
kept_decides (Some files) plan detail names found answer cited read decides =
    let is : kept_in plan files detail ≡ kept_over plan detail (plan.dictionaries ++ found) =
    ap (λ (c : Result (List (List ℕ)) DetailsCause). on_ok c (kept_with_lists plan files detail)) cited
    ∙ ap (λ (r : Result (List Dictionary) DictionaryFault). on_ok (in_stage details.Dictionary r) (kept_over plan detail)) read in
    subst (λ (made : Result Kept DetailsCause). Decides details_status (λ kept. kept) answer made) (sym is) decides

-- bytes declare none, or one
pub undeclared_decides : (told : Option (List File)) (plan : Project) (bytes : List ℕ) (cause : DetailsCause) → Decides details_status (λ detail. detail) (Err cause) (declared_of bytes) →
    IfSome told (λ files. Decides details_status (λ kept. kept) (Err cause) (detail_of_text plan files bytes))
undeclared_decides None plan bytes cause decides = tt
undeclared_decides (Some files) plan bytes cause decides = λ free. ap (λ (d : Result Detail DetailsCause). on_ok d (kept_in plan files)) (decides free)

pub declared_decides : (told : Option (List File)) (plan : Project) (bytes : List ℕ) (detail : Detail) (answer : Result Kept DetailsCause) → declared_of bytes ≡ Ok detail →
    IfSome told (λ files. Decides details_status (λ kept. kept) answer (kept_in plan files detail)) →
    IfSome told (λ files. Decides details_status (λ kept. kept) answer (detail_of_text plan files bytes))
declared_decides None plan bytes detail answer is decides = tt
declared_decides (Some files) plan bytes detail answer is decides =
    subst (λ (made : Result Kept DetailsCause). Decides details_status (λ kept. kept) answer made) (sym (ap (λ (d : Result Detail DetailsCause). on_ok d (kept_in plan files)) is)) decides

-- a status that tells of the library neither a failed read nor a file that is too long
pub of_itself : (status first : ℕ) → (status ≡ first) ⊎ (status ≡ 7) → first ≢ 5 → first ≢ 10 → IsOfItself status
of_itself status first (inl is) read short = (λ five. read (sym is ∙ five), λ ten. short (sym is ∙ ten))
of_itself status first (inr is) read short = (λ five. absurd (omega (arith, is, five)), λ ten. absurd (omega (arith, is, ten)))

-- the status of a word list that isn't read is none of a wrong form
pub list-status : (fault : DictionaryFault) → details_status (details.Dictionary fault) ≢ 3
list-status fault = go fault.cause
  where
    go : (why : DictionaryCause) → cause_status why ≢ 3
    go (cause.Reading reading.Failed) = λ three. absurd (cc)
    go (cause.Reading reading.TooLong) = λ three. absurd (cc)
    go (cause.Reading reading.Memory) = λ three. absurd (cc)
    go (cause.Grammar (grammar.NotUtf8 at)) = λ three. absurd (cc)
    go (cause.Grammar (grammar.LongEntry line)) = λ three. absurd (cc)
    go (cause.Grammar (grammar.BadWeight line)) = λ three. absurd (cc)
    go (cause.Grammar (grammar.TooMany line)) = λ three. absurd (cc)
    go (cause.Grammar grammar.Empty) = λ three. absurd (cc)
    go (cause.Grammar grammar.Memory) = λ three. absurd (cc)
    go cause.Memory = λ three. absurd (cc)

-- ---- the names that are asked

-- nothing was asked
pub asks_none : (told : Option (List File)) (lists : List (List ℕ)) (before : Option (List (List ℕ))) → AsksNames lists told before before
asks_none told lists before = asks_first told lists 0 before before (none_readable told lists) (none_asked before)

-- those that are cited are those that are asked for
pub lists_of-cited : (plan : Project) (detail : Detail) (names : List (List ℕ)) → lists_cited plan detail ≡ Ok names → lists_of plan detail ≡ names
lists_of-cited plan detail names cited = ap (λ (c : Result (List (List ℕ)) DetailsCause). result_unwrap_or c []) cited

-- one name was asked at most
once_at_most : (name : List ℕ) (behind : List (List ℕ)) (before now : Option (List (List ℕ))) → AskedAtMost name before now → AskedPrefixOf (name ∷ behind) before now
once_at_most name behind before now (inl once) = record { count = 1; asked = once }
once_at_most name behind before now (inr never) = subst (AskedPrefixOf (name ∷ behind) before) (sym never) (none_first (name ∷ behind) before)

pub asks_declaration_at_most : (plan : Project) (name : List ℕ) (told : Option (List File)) (before now : Option (List (List ℕ))) → AskedAtMost name before now →
    AsksForDetails plan name told before now
asks_declaration_at_most plan name None before now asked = record { told = tt; bytes = []; untold = once_at_most name (lists_in plan []) before now asked }
asks_declaration_at_most plan name (Some files) before now asked = record {
  told = once_at_most name (up_to_fault files (lists_in plan (bytes_of files name))) before now asked;
  bytes = [];
  untold = once_at_most name (lists_in plan []) before now asked;
}

lists_in-within : (plan : Project) (bytes : List ℕ) → length bytes ≤ schema_limit → lists_in plan bytes ≡ lists_by plan (declared_of bytes)
lists_in-within plan bytes within = grind (arith, nat_tests)

lists_in-text : (plan : Project) (bytes text : List ℕ) → length bytes ≤ schema_limit → text ≡ bytes → lists_by plan (declared_of text) ≡ lists_in plan bytes
lists_in-text plan bytes text within is = ap (λ (b : List ℕ). lists_by plan (declared_of b)) is ∙ sym (lists_in-within plan bytes within)

-- the declaration's name was asked, and then some of its word lists'
asks_lists : (content : Option Content) (told : Option (List File)) (plan : Project) (name bytes : List ℕ) (lists : List (List ℕ)) (before mid now : Option (List (List ℕ))) →
    told ≡ told_files content → IfSome content (λ c. bytes ≡ bytes_of c.files name) → lists ≡ lists_in plan bytes → mid ≡ ask name before →
    AsksNames lists told mid now → AsksForDetails plan name (told_files content) before now
asks_lists None told plan name bytes lists before mid now same whole are once asks = record {
  told = tt;
  bytes = bytes;
  untold = asked_then (name ∷ []) (lists_in plan bytes) before mid now once (subst (λ (list : List (List ℕ)). AskedPrefixOf list mid now) are asks.untold);
}
asks_lists (Some c) told plan name bytes lists before mid now same whole are once asks = record {
  told =
      asked_then (name ∷ []) (up_to_fault c.files (lists_in plan (bytes_of c.files name))) before mid now once
      (subst (λ (list : List (List ℕ)). AskedPrefixOf (up_to_fault c.files list) mid now) (are ∙ ap (lists_in plan) whole)
      (IfSome-same (λ (f : List File). AskedPrefixOf (up_to_fault f lists) mid now) told (Some c.files) same asks.told));
  bytes = bytes;
  untold = asked_then (name ∷ []) (lists_in plan bytes) before mid now once (subst (λ (list : List (List ℕ)). AskedPrefixOf list mid now) are asks.untold);
}

pub asks_then : (content : Option Content) (told : Option (List File)) (plan : Project) (name bytes text : List ℕ) (before mid now : Option (List (List ℕ))) →
    told ≡ told_files content → IfSome content (λ c. bytes ≡ bytes_of c.files name) → length bytes ≤ schema_limit → text ≡ bytes → mid ≡ ask name before →
    AsksNames (lists_by plan (declared_of text)) told mid now → AsksForDetails plan name (told_files content) before now
asks_then content told plan name bytes text before mid now same whole within is once asks =
    asks_lists content told plan name bytes (lists_by plan (declared_of text)) before mid now same whole (lists_in-text plan bytes text within is) once asks

-- ---- a detail table that was made

-- all names that may be asked for are asked for, where all word lists are read
names_in_all : (content : Option Content) (told : Option (List File)) (plan : Project) (name bytes : List ℕ) (lists : List (List ℕ)) →
    told ≡ told_files content → IfSome content (λ c. bytes ≡ bytes_of c.files name) → lists ≡ lists_in plan bytes →
    IfSome told (λ files. up_to_fault files lists ≡ lists) → IfSome (told_files content) (λ files. declaration_names plan files name ≡ possible_declaration plan bytes name)
names_in_all None told plan name bytes lists same whole are readable = tt
names_in_all (Some c) told plan name bytes lists same whole are readable =
    ap (λ (rest : List (List ℕ)). name ∷ rest)
    (ap (λ (b : List ℕ). up_to_fault c.files (lists_in plan b)) (sym whole) ∙ ap (up_to_fault c.files) (sym are)
    ∙ IfSome-same (λ (f : List File). up_to_fault f lists ≡ lists) told (Some c.files) same readable ∙ are)

-- the declaration's name was asked, and then all of its word lists'
asked_in_all : (name : List ℕ) (asked lists : List (List ℕ)) (before mid now : Option (List (List ℕ))) → asked ≡ lists →
    mid ≡ ask name before → now ≡ option_map (λ all. all ++ asked) mid → now ≡ option_map (λ all. all ++ (name ∷ lists)) before
asked_in_all name asked lists before mid now are once all =
    all ∙ ap (λ (list : List (List ℕ)). option_map (λ (names : List (List ℕ)). names ++ list) mid) are
    ∙ ap (option_map (λ (names : List (List ℕ)). names ++ lists)) once
    ∙ asked_also (name ∷ []) lists before

pub details_read : (content : Option Content) (told : Option (List File)) (plan : Project) (name bytes text : List ℕ) (before mid now : Option (List (List ℕ)))
    (made : Result Kept DetailsCause) → told ≡ told_files content → IfSome content (λ c. bytes ≡ bytes_of c.files name) → length bytes ≤ schema_limit →
    text ≡ bytes → mid ≡ ask name before → IfOk made (λ kept. (words : List WordList) × (detail_with_words plan text words ≡ Ok kept)) →
    OnOk made (now ≡ option_map (λ all. all ++ lists_by plan (declared_of text)) mid) →
    OnOk made (IfSome told (λ files. up_to_fault files (lists_by plan (declared_of text)) ≡ lists_by plan (declared_of text))) →
    IfOk made (λ kept. DetailsRead plan kept name (told_files content) before now)
details_read content told plan name bytes text before mid now (Err fault) same whole within is once read asked readable = tt
details_read content told plan name bytes text before mid now (Ok kept) same whole within is once read asked readable =
    let lists : lists_by plan (declared_of text) ≡ lists_in plan bytes = lists_in-text plan bytes text within is in
    record {
      bytes = bytes;
      words = read.0;
      read = ap (λ (b : List ℕ). detail_with_words plan b read.0) (sym is) ∙ read.1;
      told = names_in_all content told plan name bytes (lists_by plan (declared_of text)) same whole lists readable;
      asked = asked_in_all name (lists_by plan (declared_of text)) (lists_in plan bytes) before mid now lists once asked;
    }

-- what is kept has the word lists that were read, by their names and some words
pub kept_read : (plan : Project) (detail : Detail) (names : List (List ℕ)) (found : List Dictionary) (made : Result Kept DetailsCause) → lists_cited plan detail ≡ Ok names →
    names_of found ≡ names → Decides details_status (λ kept. kept) made (kept_over plan detail (plan.dictionaries ++ found)) →
    IfOk made (λ kept. (words : List WordList) × (kept_over plan detail (plan.dictionaries ++ lists_named (lists_of plan detail) words) ≡ Ok kept))
kept_read plan detail names found (Err cause) cited named decides = tt
kept_read plan detail names found (Ok kept) cited named decides =
    let words = words_read (lists_of plan detail) found (named ∙ sym (lists_of-cited plan detail names cited)) in
    (words.0, ap (λ (lists : List Dictionary). kept_over plan detail (plan.dictionaries ++ lists)) words.1 ∙ decides)

-- ---- nothing was taken where no name was asked

pub unasked_then : (first list : List (List ℕ)) (taken earlier : ℕ) (before mid now : Option (List (List ℕ))) → 1 ≤ length first → mid ≡ option_map (λ names. names ++ first) before →
    AskedPrefixOf list mid now → AskedNone before now → taken ≤ earlier
unasked_then first list taken earlier before mid now some once more none =
    let all = asked_also first (take more.count list) before in
    let turn : now ≡ option_map (λ names. names ++ (first ++ take more.count list)) before =
    more.asked ∙ ap (option_map (λ (names : List (List ℕ)). names ++ take more.count list)) once ∙ all in
    absurd (asked_some (first ++ take more.count list) before now (omega (arith, some, length-append first (take more.count list))) turn none)

pub unasked_behind : (name : List ℕ) (lists : List (List ℕ)) (told : Option (List File)) (taken earlier : ℕ) (before mid now : Option (List (List ℕ))) → mid ≡ ask name before →
    AsksNames lists told mid now → AskedNone before now → taken ≤ earlier
unasked_behind name lists told taken earlier before mid now once asks none =
    unasked_then (name ∷ []) lists taken earlier before mid now (omega arith) once asks.untold none
