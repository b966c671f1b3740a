-- Dictionaries read one after the other, and the names that are asked meanwhile.
use Rattle.std.proofs.Common.{◌≡◌, ◌≢◌, ◌<◌, ◌≤◌, ℕ, suc, ◌+◌, Bool, true, false, List, [], ◌∷◌, ◌++◌, length, take, drop, Option, None, Some, Result, Ok, Err, inl, inr, refl, ap, sym, subst, ◌∙◌, arith, append_assoc, add-one}
use Rattle.std.specs.Prelude.{◌⊎◌, IfSome, is_ok, if◌then◌else◌, slice_get}
use Rattle.std.specs.Option.{option_map}
use Rattle.std.proofs.Math.Seq.{drop-cons, take-append_seam}
use Rattle.std.proofs.lemmas.Bool.Decides.{nat_tests}
use Rattle.std.proofs.lemmas.List.{append-nil, drop_all, length-append, length-take-le, take_all, take-append-drop, take_more}
use Rattle.std.proofs.lemmas.Option.{get_or_from_slice_get, slice_get_within}
use Rattle.dictionaries.specs.Grammar.{dictionary_of}
use Rattle.dictionaries.specs.WordList.{WordList}
use Rattle.dictionaries.specs.declared.fault.DictFault.{DictFault}
use Rattle.dictionaries.specs.declared.fault.DictFault.TheVariants as grammar
use Rattle.pd_outside.specs.Files.{File, bytes_of}
use Rattle.pd_outside.specs.Library.{Content, ask, AskedAtMost, AskedPrefixOf}
use Rattle.pd_outside.specs.declared.faults.ReadFault.{ReadFault}
use Rattle.pd_outside.specs.declared.faults.ReadFault.TheVariants as reading
use Rattle.schema_facts.specs.Dictionaries.{Dictionary}
use Rattle.plan_stages.specs.DictionaryFiles.{fault_at, names_of, words_named, with_dictionaries, with_dictionary, words_in, words_of}
use Rattle.plan_stages.specs.Limits.{dictionary_limit}
use Rattle.plan_stages.specs.PlanNames.{up_to_fault, AskedNone, AsksNames}
use Rattle.plan_stages.specs.Stages.{in_stage, on_ok, told_files}
use Rattle.refusals.specs.Statuses.{cause_status, is_free, reading_status}
use Rattle.refusals.specs.declared.refusal.DictionaryCause.{DictionaryCause}
use Rattle.refusals.specs.declared.refusal.DictionaryCause.TheVariants as cause

-- ---- one dictionary

words_of-long : (bytes : List ℕ) → dictionary_limit < length bytes → words_of bytes ≡ Err (cause.Reading reading.TooLong)
words_of-long bytes long = grind (arith, nat_tests)

words_of-within : (bytes : List ℕ) → length bytes ≤ dictionary_limit → words_of bytes ≡ in_stage cause.Grammar (dictionary_of bytes)
words_of-within bytes within = grind (arith, nat_tests)

words_in-is : (files : List File) (name bytes : List ℕ) → bytes ≡ bytes_of files name → words_in files name ≡ words_of bytes
unfolding words_in
words_in-is files name bytes is = ap words_of (sym is)

with_dictionary-is : (files : List File) (before : List Dictionary) (name : List ℕ) (words : Result WordList DictionaryCause) →
    words_in files name ≡ words → with_dictionary files before name ≡ on_ok words (λ w. Ok (before ++ words_named name w ∷ []))
with_dictionary-is files before name words is = ap (λ (m : Result WordList DictionaryCause). on_ok m (λ w. Ok (before ++ words_named name w ∷ []))) is

-- a file that wasn't read
pub refused_reading : (content : Option Content) (name : List ℕ) (before : List Dictionary) (fault : ReadFault) →
    (fault ≡ reading.TooLong → IfSome content (λ c. dictionary_limit < length (bytes_of c.files name))) →
    IfSome (told_files content) (λ files. is_free (reading_status fault) ≡ false → with_dictionary files before name ≡ Err (cause.Reading fault))
refused_reading None name before fault longer = tt
refused_reading (Some c) name before reading.Failed longer = λ free. absurd (cc)
refused_reading (Some c) name before reading.Memory longer = λ free. absurd (cc)
refused_reading (Some c) name before reading.TooLong longer = λ free.
    with_dictionary-is c.files before name _ (words_in-is c.files name (bytes_of c.files name) refl ∙ words_of-long (bytes_of c.files name) (longer refl))

not_memory : (fault : DictFault) → is_free (cause_status (cause.Grammar fault)) ≡ false → fault ≢ grammar.Memory
not_memory fault not_free same = let free = ap (λ (f : DictFault). is_free (cause_status (cause.Grammar f))) same in cc

-- bytes that are no dictionary
pub refused_grammar : (content : Option Content) (name bytes text : List ℕ) (before : List Dictionary) (fault : DictFault) →
    IfSome content (λ c. bytes ≡ bytes_of c.files name) → length bytes ≤ dictionary_limit → text ≡ bytes → (fault ≢ grammar.Memory → dictionary_of text ≡ Err fault) →
    IfSome (told_files content) (λ files. is_free (cause_status (cause.Grammar fault)) ≡ false → with_dictionary files before name ≡ Err (cause.Grammar fault))
refused_grammar None name bytes text before fault whole within same told = tt
refused_grammar (Some c) name bytes text before fault whole within same told = λ free.
    with_dictionary-is c.files before name _
    (words_in-is c.files name bytes whole ∙ words_of-within bytes within
    ∙ ap (in_stage cause.Grammar) (ap dictionary_of (sym same) ∙ told (not_memory fault free)))

-- bytes that are one
pub read_as_words : (content : Option Content) (name bytes text : List ℕ) (before now : List Dictionary) (words : WordList) →
    IfSome content (λ c. bytes ≡ bytes_of c.files name) → length bytes ≤ dictionary_limit → text ≡ bytes → dictionary_of text ≡ Ok words → now ≡ before ++ words_named name words ∷ [] →
    IfSome (told_files content) (λ files. with_dictionary files before name ≡ Ok now)
read_as_words None name bytes text before now words whole within same read appended = tt
read_as_words (Some c) name bytes text before now words whole within same read appended =
    with_dictionary-is c.files before name _
    (words_in-is c.files name bytes whole ∙ words_of-within bytes within ∙ ap (in_stage cause.Grammar) (ap dictionary_of (sym same) ∙ read))
    ∙ ap Ok (sym appended)

-- the same with known ones before all
behind_known : (files : List File) (known before now : List Dictionary) (name : List ℕ) → with_dictionary files before name ≡ Ok now →
    with_dictionary files (known ++ before) name ≡ Ok (known ++ now)
behind_known files known before now name made = go (words_in files name) made
  where
    go : (words : Result WordList DictionaryCause) → ◌≡◌ {A = Result (List Dictionary) DictionaryCause} (on_ok words (λ w. Ok (before ++ words_named name w ∷ []))) (Ok now) →
        ◌≡◌ {A = Result (List Dictionary) DictionaryCause} (on_ok words (λ w. Ok ((known ++ before) ++ words_named name w ∷ []))) (Ok (known ++ now))
    go (Ok words) made =
        let same : before ++ words_named name words ∷ [] ≡ now = cc in
        ap Ok (append_assoc known before (words_named name words ∷ []) ∙ ap (λ (found : List Dictionary). known ++ found) same)
    go (Err cause) made = absurd (cc)

refused_behind : (files : List File) (known before : List Dictionary) (name : List ℕ) (cause : DictionaryCause) → with_dictionary files before name ≡ Err cause →
    with_dictionary files (known ++ before) name ≡ Err cause
refused_behind files known before name cause made = go (words_in files name) made
  where
    go : (words : Result WordList DictionaryCause) → ◌≡◌ {A = Result (List Dictionary) DictionaryCause} (on_ok words (λ w. Ok (before ++ words_named name w ∷ []))) (Err cause) →
        ◌≡◌ {A = Result (List Dictionary) DictionaryCause} (on_ok words (λ w. Ok ((known ++ before) ++ words_named name w ∷ []))) (Err cause)
    go (Ok words) made = absurd (cc)
    go (Err other) made = let same : other ≡ cause = cc in ap Err same

-- what is told stays so while files stay
pub IfSome-same : {A : Type 0} (P : A → Type 0) (now before : Option A) → now ≡ before → IfSome now P → IfSome before P
IfSome-same P now before same fact = subst (λ (o : Option _). IfSome o P) same fact

-- ---- several, one after the other

pub drop-at : {A : Type 0} (items : List A) (place : ℕ) (item : A) → slice_get items place ≡ Some item → drop place items ≡ item ∷ drop (place + 1) items
drop-at items place item is =
    rw add-one
    (drop-cons items place item (slice_get_within items place item is)
    ∙ ap (λ (first : _). first ∷ drop (suc place) items) (get_or_from_slice_get items place item item is))

pub take-at : {A : Type 0} (items : List A) (place : ℕ) (item : A) → slice_get items place ≡ Some item → take (place + 1) items ≡ take place items ++ item ∷ []
take-at items place item is =
    take_more items place item (slice_get_within items place item is)
    ∙ ap (λ (last : _). take place items ++ last ∷ []) (get_or_from_slice_get items place item item is)

with_dictionaries-ok : (files : List File) (before now : List Dictionary) (name : List ℕ) (rest : List (List ℕ)) →
    with_dictionary files before name ≡ Ok now → with_dictionaries files before (name ∷ rest) ≡ with_dictionaries files now rest
with_dictionaries-ok files before now name rest made =
    ap (λ (m : Result (List Dictionary) DictionaryCause). on_ok (in_stage (fault_at (length before + 1)) m) (λ d. with_dictionaries files d rest)) made

with_dictionaries-err : (files : List File) (before : List Dictionary) (name : List ℕ) (rest : List (List ℕ)) (cause : DictionaryCause) →
    with_dictionary files before name ≡ Err cause → with_dictionaries files before (name ∷ rest) ≡ Err (fault_at (length before + 1) cause)
with_dictionaries-err files before name rest cause made =
    ap (λ (m : Result (List Dictionary) DictionaryCause). on_ok (in_stage (fault_at (length before + 1)) m) (λ d. with_dictionaries files d rest)) made

-- after those that are known, those that were read so far, and those that are left
abbrev pub IsReadSoFar : List Dictionary → List (List ℕ) → List Dictionary → ℕ → List File → Type 0
IsReadSoFar known names so_far place files = with_dictionaries files known names ≡ with_dictionaries files (known ++ so_far) (drop place names)

-- none was read yet
pub none_read : (told : Option (List File)) (known : List Dictionary) (names : List (List ℕ)) (before : List Dictionary) → before ≡ [] → IfSome told (IsReadSoFar known names before 0)
none_read None known names before is = tt
none_read (Some files) known names before is =
    ap (λ (first : List Dictionary). with_dictionaries files first names) (sym (ap (λ (found : List Dictionary). known ++ found) is ∙ append-nil known))

-- one more was read
pub read_more : (told now : Option (List File)) (known : List Dictionary) (names : List (List ℕ)) (before after : List Dictionary) (place : ℕ) (name : List ℕ) → now ≡ told →
    slice_get names place ≡ Some name → IfSome told (IsReadSoFar known names before place) → IfSome now (λ files. with_dictionary files before name ≡ Ok after) →
    IfSome told (IsReadSoFar known names after (place + 1))
read_more None now known names before after place name same at sofar made = tt
read_more (Some files) now known names before after place name same at sofar made =
    sofar ∙ ap (with_dictionaries files (known ++ before)) (drop-at names place name at)
    ∙ with_dictionaries-ok files (known ++ before) (known ++ after) name (drop (place + 1) names)
    (behind_known files known before after name (IfSome-same (λ files. with_dictionary files before name ≡ Ok after) now (Some files) same made))

-- the next one is at fault
pub read_to_fault : (told now : Option (List File)) (known : List Dictionary) (names : List (List ℕ)) (before : List Dictionary) (place number : ℕ) (name : List ℕ) (cause : DictionaryCause) → now ≡ told →
    length before ≡ place → number ≡ length known + place + 1 → slice_get names place ≡ Some name → IfSome told (IsReadSoFar known names before place) →
    IfSome now (λ files. is_free (cause_status cause) ≡ false → with_dictionary files before name ≡ Err cause) →
    IfSome told (λ files. is_free (cause_status cause) ≡ false → with_dictionaries files known names ≡ Err (fault_at number cause))
read_to_fault None now known names before place number name cause same count is at sofar made = tt
read_to_fault (Some files) now known names before place number name cause same count is at sofar made = λ free.
    let numbered : length (known ++ before) + 1 ≡ number = omega (arith, length-append known before, count, is) in
    sofar ∙ ap (with_dictionaries files (known ++ before)) (drop-at names place name at)
    ∙ with_dictionaries-err files (known ++ before) name (drop (place + 1) names) cause
    (refused_behind files known before name cause
    (IfSome-same (λ files. is_free (cause_status cause) ≡ false → with_dictionary files before name ≡ Err cause) now (Some files) same made free))
    ∙ ap (λ (k : ℕ). Err (fault_at k cause)) numbered

-- ---- their names

pub names_more : (names : List (List ℕ)) (place : ℕ) (name : List ℕ) (before after : List Dictionary) → slice_get names place ≡ Some name →
    names_of before ≡ take place names → names_of after ≡ names_of before ++ name ∷ [] → names_of after ≡ take (place + 1) names
names_more names place name before after at sofar more = more ∙ ap (λ (front : List (List ℕ)). front ++ name ∷ []) sofar ∙ sym (take-at names place name at)

-- ---- the names that are asked

-- names that were asked, where a list begins with them
pub asked_first : (list asked rest : List (List ℕ)) (before now : Option (List (List ℕ))) → now ≡ option_map (λ names. names ++ asked) before → list ≡ asked ++ rest →
    AskedPrefixOf list before now
asked_first list asked rest before now is parts = record {
  count = length asked;
  asked = is ∙ ap (λ (front : List (List ℕ)). option_map (λ names. names ++ front) before) (sym (ap (take (length asked)) parts ∙ take-append_seam asked rest));
}

-- the first names all give dictionaries
abbrev pub AreReadable : List (List ℕ) → ℕ → List File → Type 0
AreReadable names place files = up_to_fault files names ≡ take place names ++ up_to_fault files (drop place names)

pub none_readable : (told : Option (List File)) (names : List (List ℕ)) → IfSome told (AreReadable names 0)
none_readable None names = tt
none_readable (Some files) names = refl

is_ok-of : (words : Result WordList DictionaryCause) (before now : List Dictionary) (name : List ℕ) →
    ◌≡◌ {A = Result (List Dictionary) DictionaryCause} (on_ok words (λ w. Ok (before ++ words_named name w ∷ []))) (Ok now) → is_ok words ≡ true
is_ok-of (Ok words) before now name made = refl
is_ok-of (Err cause) before now name made = absurd (cc)

up_to_fault-ok : (files : List File) (before now : List Dictionary) (name : List ℕ) (rest : List (List ℕ)) → with_dictionary files before name ≡ Ok now →
    up_to_fault files (name ∷ rest) ≡ name ∷ up_to_fault files rest
up_to_fault-ok files before now name rest made =
    ap (λ (ok : Bool). name ∷ (if ok then up_to_fault files rest else [])) (is_ok-of (words_in files name) before now name made)

pub readable_more : (told now : Option (List File)) (names : List (List ℕ)) (before after : List Dictionary) (place : ℕ) (name : List ℕ) → now ≡ told →
    slice_get names place ≡ Some name → IfSome told (AreReadable names place) → IfSome now (λ files. with_dictionary files before name ≡ Ok after) →
    IfSome told (AreReadable names (place + 1))
readable_more None now names before after place name same at sofar made = tt
readable_more (Some files) now names before after place name same at sofar made =
    sofar
    ∙ ap (λ (rest : List (List ℕ)). take place names ++ up_to_fault files rest) (drop-at names place name at)
    ∙ ap (λ (rest : List (List ℕ)). take place names ++ rest)
    (up_to_fault-ok files before after name (drop (place + 1) names) (IfSome-same (λ files. with_dictionary files before name ≡ Ok after) now (Some files) same made))
    ∙ sym (append_assoc (take place names) (name ∷ []) (up_to_fault files (drop (place + 1) names)))
    ∙ ap (λ (front : List (List ℕ)). front ++ up_to_fault files (drop (place + 1) names)) (sym (take-at names place name at))

-- all names give dictionaries
pub readable_at_end : (told : Option (List File)) (names : List (List ℕ)) (place : ℕ) → length names ≤ place → IfSome told (AreReadable names place) →
    IfSome told (λ files. up_to_fault files names ≡ names)
readable_at_end None names place all sofar = tt
readable_at_end (Some files) names place all sofar =
    sofar ∙ ap (λ (rest : List (List ℕ)). take place names ++ up_to_fault files rest) (drop_all place names all)
    ∙ append-nil (take place names) ∙ take_all place names all

pub asked_also : (first name : List (List ℕ)) (before : Option (List (List ℕ))) →
    option_map (λ (names : List (List ℕ)). names ++ name) (option_map (λ names. names ++ first) before) ≡ option_map (λ names. names ++ (first ++ name)) before
asked_also first name None = refl
asked_also first name (Some names) = ap Some (append_assoc names first name)

pub asked_more : (names : List (List ℕ)) (place : ℕ) (name : List ℕ) (before mid now : Option (List (List ℕ))) → slice_get names place ≡ Some name →
    mid ≡ option_map (λ all. all ++ take place names) before → now ≡ option_map (λ all. all ++ name ∷ []) mid →
    now ≡ option_map (λ all. all ++ take (place + 1) names) before
asked_more names place name before mid now at sofar asked =
    asked ∙ ap (option_map (λ (all : List (List ℕ)). all ++ name ∷ [])) sofar ∙ asked_also (take place names) (name ∷ []) before
    ∙ ap (λ (front : List (List ℕ)). option_map (λ all. all ++ front) before) (sym (take-at names place name at))

pub none_asked : (before : Option (List (List ℕ))) → before ≡ option_map (λ names. names ++ []) before
none_asked None = refl
none_asked (Some names) = ap Some (sym (append-nil names))

-- all were asked
pub asked_at_end : (names : List (List ℕ)) (place : ℕ) (before now : Option (List (List ℕ))) → length names ≤ place →
    now ≡ option_map (λ all. all ++ take place names) before → now ≡ option_map (λ all. all ++ names) before
asked_at_end names place before now all asked =
    asked ∙ ap (λ (front : List (List ℕ)). option_map (λ (before : List (List ℕ)). before ++ front) before) (take_all place names all)

-- all were asked, and the first of them gave dictionaries
pub asks_first : (told : Option (List File)) (names : List (List ℕ)) (place : ℕ) (before now : Option (List (List ℕ))) → IfSome told (AreReadable names place) →
    now ≡ option_map (λ all. all ++ take place names) before → AsksNames names told before now
asks_first None names place before now readable asked =
    record { told = tt; untold = asked_first names (take place names) (drop place names) before now asked (sym (take-append-drop place names)) }
asks_first (Some files) names place before now readable asked = record {
  told = asked_first (up_to_fault files names) (take place names) (up_to_fault files (drop place names)) before now asked readable;
  untold = asked_first names (take place names) (drop place names) before now asked (sym (take-append-drop place names));
}

tail_of : (files : List File) (name : List ℕ) (rest : List (List ℕ)) → List (List ℕ)
tail_of files name rest = if is_ok (words_in files name) then up_to_fault files rest else []

-- the next one was asked, whatever came of it
asks_next : (told : Option (List File)) (names : List (List ℕ)) (place : ℕ) (name : List ℕ) (before now : Option (List (List ℕ))) → slice_get names place ≡ Some name →
    IfSome told (AreReadable names place) → now ≡ option_map (λ all. all ++ take (place + 1) names) before → AsksNames names told before now
unfolding tail_of
asks_next None names place name before now at readable asked =
    record { told = tt; untold = asked_first names (take (place + 1) names) (drop (place + 1) names) before now asked (sym (take-append-drop (place + 1) names)) }
asks_next (Some files) names place name before now at readable asked = record {
  told =
      asked_first (up_to_fault files names) (take (place + 1) names) (tail_of files name (drop (place + 1) names)) before now asked
      (readable
      ∙ ap (λ (rest : List (List ℕ)). take place names ++ up_to_fault files rest) (drop-at names place name at)
      ∙ sym (append_assoc (take place names) (name ∷ []) (tail_of files name (drop (place + 1) names)))
      ∙ ap (λ (front : List (List ℕ)). front ++ tail_of files name (drop (place + 1) names)) (sym (take-at names place name at)));
  untold = asked_first names (take (place + 1) names) (drop (place + 1) names) before now asked (sym (take-append-drop (place + 1) names));
}

-- the next one was asked or not
pub asks_at_most : (told : Option (List File)) (names : List (List ℕ)) (place : ℕ) (name : List ℕ) (before mid now : Option (List (List ℕ))) → slice_get names place ≡ Some name →
    IfSome told (AreReadable names place) → mid ≡ option_map (λ all. all ++ take place names) before → AskedAtMost name mid now → AsksNames names told before now
asks_at_most told names place name before mid now at readable sofar (inl once) =
    asks_next told names place name before now at readable (asked_more names place name before mid now at sofar once)
asks_at_most told names place name before mid now at readable sofar (inr never) = asks_first told names place before now readable (never ∙ sofar)

-- ---- what was taken where no name was asked

nothing_behind : (names added : List (List ℕ)) → ◌≡◌ {A = Option (List (List ℕ))} (Some (names ++ added)) (Some names) → length added ≡ 0
nothing_behind names added same =
    let lengths : length (names ++ added) ≡ length names = ap length (let back : names ++ added ≡ names = cc in back) in
    omega (arith, length-append names added)

asked_of_told : (now : Option (List (List ℕ))) (names added : List (List ℕ)) → now ≡ Some (names ++ added) → now ≡ Some names → length added ≡ 0
asked_of_told now names added more none = nothing_behind names added (sym more ∙ none)

-- the next one wasn't read, and its name wasn't asked
pub unasked_at_fault : (names : List (List ℕ)) (place : ℕ) (name : List ℕ) (before mid now : Option (List (List ℕ))) (taken earlier : ℕ) → slice_get names place ≡ Some name →
    mid ≡ option_map (λ all. all ++ take place names) before → (now ≡ ask name mid) ⊎ (taken ≡ 0) → AskedNone before now → taken ≤ earlier
unasked_at_fault names place name before mid now taken earlier at sofar (inr none) alone = omega arith
unasked_at_fault names place name None mid now taken earlier at sofar (inl asked) alone = absurd alone
unasked_at_fault names place name (Some all) mid now taken earlier at sofar (inl asked) alone =
    let none : length (take (place + 1) names) ≡ 0 = asked_of_told now all (take (place + 1) names) (asked_more names place name (Some all) mid now at sofar asked) alone in
    absurd (omega (arith, ap length (take-at names place name at), length-append (take place names) (name ∷ [])))

-- all were read, or there are none
pub unasked_at_end : (names : List (List ℕ)) (place : ℕ) (before now : Option (List (List ℕ))) (taken earlier : ℕ) → place ≤ length names →
    now ≡ option_map (λ all. all ++ take place names) before → (place ≡ 0 → taken ≡ earlier) → AskedNone before now → taken ≤ earlier
unasked_at_end names place None now taken earlier within asked still alone = absurd alone
unasked_at_end names place (Some all) now taken earlier within asked still alone =
    let none : length (take place names) ≡ 0 = asked_of_told now all (take place names) asked alone in
    let first : place ≡ 0 = omega (arith, length-take-le place names within) in
    omega (arith, still first)
