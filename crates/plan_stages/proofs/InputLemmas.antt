-- Files read one after the other, and the names that are asked meanwhile.
use Rattle.std.proofs.Common.{◌≡◌, ◌<◌, ◌≤◌, ℕ, ◌+◌, false, List, [], ◌∷◌, ◌++◌, length, take, drop, Option, None, Some, Result, Ok, Err, inl, inr, refl, ap, sym, ◌∙◌, arith}
use Rattle.std.specs.Prelude.{◌⊎◌, IfSome, slice_get, nat_lt, if◌then◌else◌}
use Rattle.std.specs.Option.{option_map}
use Rattle.std.proofs.lemmas.Bool.Decides.{nat_tests}
use Rattle.std.proofs.lemmas.List.{length-append, map-append, take_all}
use Rattle.std.proofs.Math.ListN.{drop_of_length-le}
use Rattle.std.proofs.lemmas.List.Sums.{sum_by_push}
use Rattle.pd_outside.specs.Files.{File, bytes_of}
use Rattle.pd_outside.specs.Library.{Content, ask, read_out, AskedAtMost}
use Rattle.pd_outside.specs.declared.faults.ReadFault.{ReadFault}
use Rattle.pd_outside.specs.declared.faults.ReadFault.TheVariants as reading
use Rattle.plan_stages.specs.Inputs.{all_read_out, first_too_long, input_fault, inputs_in, inputs_of, taken_of_last, total_length, unless_too_long, AskedInTurn, AskedToFault}
use Rattle.plan_stages.specs.Stages.{told_files}
use Rattle.plan_stages.proofs.DictionaryLemmas.{asked_more, drop-at, take-at, IfSome-same}
use Rattle.refusals.specs.Statuses.{is_free, reading_status}

-- ---- one file more

unless_below : (limit n : ℕ) (passed other : Option ℕ) → n ≤ limit → (if nat_lt limit n then passed else other) ≡ other
unless_below limit n passed other below = grind (arith, nat_tests)

where_passed : (limit n : ℕ) (passed other : Option ℕ) → limit < n → (if nat_lt limit n then passed else other) ≡ passed
where_passed limit n passed other above = grind (arith, nat_tests)

first_too_long-fits : (limit : ℕ) (before : List (List ℕ)) (bytes : List ℕ) (rest : List (List ℕ)) → total_length (before ++ bytes ∷ []) ≤ limit →
    first_too_long limit before (bytes ∷ rest) ≡ first_too_long limit (before ++ bytes ∷ []) rest
first_too_long-fits limit before bytes rest fits =
    unless_below limit (total_length (before ++ bytes ∷ [])) (Some (length before)) (first_too_long limit (before ++ bytes ∷ []) rest) fits

first_too_long-passes : (limit : ℕ) (before : List (List ℕ)) (bytes : List ℕ) (rest : List (List ℕ)) → limit < total_length (before ++ bytes ∷ []) →
    first_too_long limit before (bytes ∷ rest) ≡ Some (length before)
first_too_long-passes limit before bytes rest passes =
    where_passed limit (total_length (before ++ bytes ∷ [])) (Some (length before)) (first_too_long limit (before ++ bytes ∷ []) rest) passes

total_length-push : (before : List (List ℕ)) (bytes : List ℕ) → total_length (before ++ bytes ∷ []) ≡ total_length before + length bytes
total_length-push before bytes = sum_by_push (length {A = ℕ}) before bytes

taken_of_last-push : (before : List (List ℕ)) (bytes : List ℕ) (earlier : ℕ) → taken_of_last (before ++ bytes ∷ []) earlier ≡ length bytes
taken_of_last-push [] bytes earlier = refl
taken_of_last-push (first ∷ before) bytes earlier = taken_of_last-push before bytes (length first)

-- one more input after others
pub length_more : (before after : List (List ℕ)) (bytes : List ℕ) → after ≡ before ++ bytes ∷ [] → length after ≡ length before + 1
length_more before after bytes is = ap length is ∙ length-append before (bytes ∷ [])

pub total_more : (before after : List (List ℕ)) (bytes : List ℕ) → after ≡ before ++ bytes ∷ [] → total_length after ≡ total_length before + length bytes
total_more before after bytes is = ap total_length is ∙ total_length-push before bytes

pub taken_more : (before after : List (List ℕ)) (bytes : List ℕ) (earlier : ℕ) → after ≡ before ++ bytes ∷ [] → taken_of_last after earlier ≡ length bytes
taken_more before after bytes earlier is = ap (λ (inputs : List (List ℕ)). taken_of_last inputs earlier) is ∙ taken_of_last-push before bytes earlier

all_read_out-push : (names : List (List ℕ)) (name : List ℕ) (content : Content) → all_read_out (names ++ name ∷ []) content ≡ read_out (all_read_out names content)
all_read_out-push [] name content = refl
all_read_out-push (first ∷ names) name content = all_read_out-push names name (read_out content)

-- files stay
files-all_read_out : (names : List (List ℕ)) (content : Content) → (all_read_out names content).files ≡ content.files
files-all_read_out [] content = refl
files-all_read_out (name ∷ names) content = files-all_read_out names (read_out content)

pub files_stay : (names : List (List ℕ)) (before now : Option Content) → now ≡ option_map (all_read_out names) before → told_files now ≡ told_files before
files_stay names None now is = ap told_files is
files_stay names (Some c) now is = ap told_files is ∙ ap Some (files-all_read_out names c)

read_out_next : (names : List (List ℕ)) (name : List ℕ) (before : Option Content) →
    option_map read_out (option_map (all_read_out names) before) ≡ option_map (all_read_out (names ++ name ∷ [])) before
read_out_next names name None = refl
read_out_next names name (Some c) = ap Some (sym (all_read_out-push names name c))

pub none_read_out : (before : Option Content) → before ≡ option_map (all_read_out []) before
none_read_out None = refl
none_read_out (Some c) = refl

-- one more was read to its end
pub read_out_more : (names : List (List ℕ)) (place : ℕ) (name : List ℕ) (before mid now : Option Content) → slice_get names place ≡ Some name →
    mid ≡ option_map (all_read_out (take place names)) before → now ≡ option_map read_out mid → now ≡ option_map (all_read_out (take (place + 1) names)) before
read_out_more names place name before mid now at sofar read =
    read ∙ ap (option_map read_out) sofar ∙ read_out_next (take place names) name before
    ∙ ap (λ (front : List (List ℕ)). option_map (all_read_out front) before) (sym (take-at names place name at))

-- ---- what was read so far

-- the inputs so far are those of the first names, and none of them is too long
pub record AreReadSoFar (names : List (List ℕ)) (limit : ℕ) (so_far : List (List ℕ)) (place : ℕ) (files : List File) : Type 0 where
  pub inputs : so_far ≡ inputs_of files (take place names)
  pub first : first_too_long limit [] (inputs_of files names) ≡ first_too_long limit so_far (inputs_of files (drop place names))

pub no_input : (told : Option (List File)) (names : List (List ℕ)) (limit : ℕ) (before : List (List ℕ)) → before ≡ [] → IfSome told (AreReadSoFar names limit before 0)
no_input None names limit before is = tt
no_input (Some files) names limit before is = record {
  inputs = is;
  first = ap (λ (front : List (List ℕ)). first_too_long limit front (inputs_of files names)) (sym is);
}

-- a fact on the files of what is told
told_fact : (P : List File → Type 0) (content : Option Content) → IfSome content (λ c. P c.files) → IfSome (told_files content) P
told_fact P None fact = tt
told_fact P (Some c) fact = fact

input_more : (files : List File) (names : List (List ℕ)) (limit : ℕ) (before : List (List ℕ)) (place : ℕ) (name bytes : List ℕ) → slice_get names place ≡ Some name →
    AreReadSoFar names limit before place files → bytes ≡ bytes_of files name → total_length (before ++ bytes ∷ []) ≤ limit →
    AreReadSoFar names limit (before ++ bytes ∷ []) (place + 1) files
input_more files names limit before place name bytes at sofar whole fits = record {
  inputs =
      ap (λ (front : List (List ℕ)). front ++ bytes ∷ []) sofar.inputs
      ∙ ap (λ (last : List ℕ). inputs_of files (take place names) ++ last ∷ []) whole
      ∙ sym (map-append (bytes_of files) (take place names) (name ∷ []))
      ∙ ap (inputs_of files) (sym (take-at names place name at));
  first =
      sofar.first
      ∙ ap (λ (rest : List (List ℕ)). first_too_long limit before (inputs_of files rest)) (drop-at names place name at)
      ∙ ap (λ (next : List ℕ). first_too_long limit before (next ∷ inputs_of files (drop (place + 1) names))) (sym whole)
      ∙ first_too_long-fits limit before bytes (inputs_of files (drop (place + 1) names)) fits;
}

-- one more was read
pub inputs_more : (told : Option (List File)) (mid : Option Content) (names : List (List ℕ)) (limit : ℕ) (before after : List (List ℕ)) (place : ℕ) (name bytes : List ℕ) →
    told_files mid ≡ told → slice_get names place ≡ Some name → IfSome told (AreReadSoFar names limit before place) → IfSome mid (λ c. bytes ≡ bytes_of c.files name) →
    after ≡ before ++ bytes ∷ [] → total_length after ≤ limit → IfSome told (AreReadSoFar names limit after (place + 1))
inputs_more None mid names limit before after place name bytes same at sofar whole appended fits = tt
inputs_more (Some files) mid names limit before after place name bytes same at sofar whole appended fits =
    rw appended
    (input_more files names limit before place name bytes at sofar
    (IfSome-same (λ (f : List File). bytes ≡ bytes_of f name) (told_files mid) (Some files) same (told_fact (λ (f : List File). bytes ≡ bytes_of f name) mid whole))
    (rw appended at fits))

-- ---- how it ends

-- the next one is at fault
pub inputs_to_fault : (told : Option (List File)) (mid : Option Content) (names : List (List ℕ)) (limit own : ℕ) (before : List (List ℕ)) (place : ℕ) (name : List ℕ) (cause : ReadFault) →
    told_files mid ≡ told → slice_get names place ≡ Some name → length before ≡ place → total_length before + own ≡ limit → IfSome told (AreReadSoFar names limit before place) →
    (cause ≡ reading.TooLong → IfSome mid (λ c. own < length (bytes_of c.files name))) →
    IfSome told (λ files. is_free (reading_status cause) ≡ false → inputs_in files names limit ≡ Err (input_fault place cause))
inputs_to_fault None mid names limit own before place name cause same at count limits sofar longer = tt
inputs_to_fault (Some files) mid names limit own before place name reading.Failed same at count limits sofar longer = λ free. absurd (cc)
inputs_to_fault (Some files) mid names limit own before place name reading.Memory same at count limits sofar longer = λ free. absurd (cc)
inputs_to_fault (Some files) mid names limit own before place name reading.TooLong same at count limits sofar longer =
    let above : own < length (bytes_of files name) =
    IfSome-same (λ (f : List File). own < length (bytes_of f name)) (told_files mid) (Some files) same
    (told_fact (λ (f : List File). own < length (bytes_of f name)) mid (longer refl)) in
    let passes : limit < total_length (before ++ bytes_of files name ∷ []) = omega (arith, total_length-push before (bytes_of files name)) in
    λ free. ap (λ (number : Option ℕ). unless_too_long number (inputs_of files names))
    (sofar.first
    ∙ ap (λ (rest : List (List ℕ)). first_too_long limit before (inputs_of files rest)) (drop-at names place name at)
    ∙ first_too_long-passes limit before (bytes_of files name) (inputs_of files (drop (place + 1) names)) passes
    ∙ ap Some count)

-- all were read
pub inputs_at_end : (told : Option (List File)) (names : List (List ℕ)) (limit : ℕ) (inputs : List (List ℕ)) (place : ℕ) → length names ≤ place →
    IfSome told (AreReadSoFar names limit inputs place) → IfSome told (λ files. inputs_in files names limit ≡ Ok inputs)
inputs_at_end None names limit inputs place all sofar = tt
inputs_at_end (Some files) names limit inputs place all sofar =
    ap (λ (number : Option ℕ). unless_too_long number (inputs_of files names))
    (sofar.first ∙ ap (λ (rest : List (List ℕ)). first_too_long limit inputs (inputs_of files rest)) (drop_of_length-le names all))
    ∙ ap Ok (sym (sofar.inputs ∙ ap (inputs_of files) (take_all place names all)))

pub cause_of : {A : Type 0} (cause : ReadFault) → ◌≡◌ {A = Result A ReadFault} (Err cause) (Err reading.TooLong) → cause ≡ reading.TooLong
cause_of cause same = cc

-- what those before the next one leave of the limit
pub limit_of_next : (told : Option (List File)) (names : List (List ℕ)) (limit own : ℕ) (before : List (List ℕ)) (place : ℕ) → total_length before + own ≡ limit →
    IfSome told (AreReadSoFar names limit before place) → IfSome told (λ files. total_length (inputs_of files (take place names)) + own ≡ limit)
limit_of_next None names limit own before place limits sofar = tt
limit_of_next (Some files) names limit own before place limits sofar = ap (λ (inputs : List (List ℕ)). total_length inputs + own) (sym sofar.inputs) ∙ limits

-- the names up to and with that of the next one, which wasn't read
pub asked_to_fault : (names : List (List ℕ)) (place : ℕ) (name : List ℕ) (cause : ReadFault) (taken : ℕ) (before mid now : Option (List (List ℕ))) → slice_get names place ≡ Some name →
    AskedInTurn (take place names) before mid → AskedAtMost name mid now → (now ≡ ask name mid) ⊎ (taken ≡ 0) → (cause ≡ reading.TooLong → now ≡ ask name mid) →
    AskedToFault (input_fault place cause) names taken before now
asked_to_fault names place name cause taken before mid now at sofar (inl once) unasked long = record {
  at_most = inl (asked_more names place name before mid now at sofar once);
  too_long = λ is. asked_more names place name before mid now at sofar (long is);
}
asked_to_fault names place name cause taken before mid now at sofar (inr never) (inl once) long = record {
  at_most = inl (asked_more names place name before mid now at sofar once);
  too_long = λ is. asked_more names place name before mid now at sofar (long is);
}
asked_to_fault names place name cause taken before mid now at sofar (inr never) (inr nothing) long = record {
  at_most = inr (never ∙ sofar, nothing);
  too_long = λ is. asked_more names place name before mid now at sofar (long is);
}
