-- What the inputs of tables make that are replayed, table by table.
use Rattle.std.proofs.Common.{◌≡◌, ◌≢◌, ◌<◌, ◌≤◌, ◌+◌, ◌*◌, ℕ, zero, suc, false, List, [], ◌∷◌, ◌++◌, drop, get_or, length, map, take, Option, Some, Result, Ok, Err, inl, inr, ap, refl, sym, subst, ◌∙◌, arith}
use Rattle.std.proofs.Math.Seq.{get_or-append_seam}
use Rattle.std.proofs.lemmas.Bool.{cases_lt}
use Rattle.std.specs.Prelude.{◌⊎◌, IfErr, zip}
use Rattle.std.proofs.lemmas.List.{drop-map, get_or_append_left, length-append, take-map}
use Rattle.std.proofs.lemmas.Nat.{mul-le}
use Rattle.plan_stages.specs.Stages.{ended}
use Rattle.pd_outside.specs.Files.{File}
use Rattle.refusals.specs.declared.refusal.InputCause.{InputCause}
use Rattle.refusals.specs.declared.refusal.InputCause.TheVariants.{Applying, BadRecord, Reading, Reverting}
use Rattle.refusals.specs.declared.refusal.JobFault.{JobFault}
use Rattle.stream_apply.specs.declared.fault.ApplyFault.{ApplyFault}
use Rattle.stream_apply.specs.declared.fault.ApplyFault.TheVariants as fault
use Rattle.refusals.specs.Statuses.{applying_status, is_free, job_status}
use Rattle.request_words.specs.declared.usage.Header.{Header}
use Rattle.request_words.specs.declared.usage.Request.{Request}
use Rattle.run_jobs.specs.Formats.{AreWritten, each_after, in_directory, made_files, named_files}
use Rattle.run_jobs.specs.Jobs.{due_of}
use Rattle.schema_facts.proofs.Lists.{map-map}
use Rattle.replay_files.specs.Replay.{AreDueFor, AreReplayed, IsCsvMade, IsFirstFault, IsMadeOf, IsReplayFaultAt, IsReplayedText, IsUnreadRecord, IsUnreplayed, cause_after, fault_after, input_names, inputs_at, inputs_each, named_fault, format_of, records_before, text_headings}
use Rattle.run_jobs.specs.InputFiles.{AreReadAs, text_name}
use Rattle.run_jobs.specs.Outcome.{IsDecided}
use Rattle.run_jobs.specs.declared.job.Job.{Job}
use Rattle.replay_files.specs.declared.replay.Replay.{Replay}
use Rattle.replay_files.specs.declared.replay.Way.{Way}

-- no text is made
pub none_replayed : (w : Way) (delimiter each : ℕ) (inputs texts : List (List ℕ)) → texts ≡ [] → AreReplayed w delimiter each inputs texts
none_replayed w delimiter each inputs texts is = record {
  replayed = λ place below. absurd (omega (arith, below, ap length is));
}

-- one more is
pub replayed_more : (w : Way) (delimiter each : ℕ) (inputs texts after : List (List ℕ)) (text : List ℕ) → after ≡ texts ++ text ∷ [] → AreReplayed w delimiter each inputs texts →
    IsReplayedText w delimiter (inputs_at each inputs (length texts)) text → AreReplayed w delimiter each inputs after
replayed_more w delimiter each inputs texts after text is before own = record {
  replayed = λ place below.
      subst (λ (list : List (List ℕ)). IsReplayedText w delimiter (inputs_at each inputs place) (get_or list place [])) (sym is)
      (elim (cases_lt place (length texts)) [
        | inl earlier ↦ subst (λ (t : List ℕ). IsReplayedText w delimiter (inputs_at each inputs place) t)
            (sym (get_or_append_left texts (text ∷ []) [] place earlier)) (before.replayed place earlier)
        | inr last ↦
            let here : place ≡ length texts = omega (arith, last, below, ap length is, length-append texts (text ∷ [])) in
            subst (λ (p : ℕ). IsReplayedText w delimiter (inputs_at each inputs p) (get_or (texts ++ text ∷ []) p [])) (sym here)
            (subst (λ (t : List ℕ). IsReplayedText w delimiter (inputs_at each inputs (length texts)) t) (sym (get_or-append_seam texts text [] [])) own)
      ]);
}

-- the inputs of a table are a part of all
pub inputs_in_turn : {V : Type 0} (view : V → List ℕ) (each place from : ℕ) (files own : List V) (inputs : List (List ℕ)) → map view files ≡ inputs → from ≡ place * each →
    own ≡ take each (drop from files) → map view own ≡ inputs_at each inputs place
inputs_in_turn view each place from files own inputs are at is =
    ap (map view) is
    ∙ sym (take-map view each (drop from files))
    ∙ ap (take each) (sym (drop-map view from files) ∙ ap (drop from) are)
    ∙ ap (λ (f : ℕ). take each (drop f inputs)) at

-- no more are taken than are asked for
pub taken_few : {V : Type 0} (count : ℕ) (files : List V) → length (take count files) ≤ count
taken_few zero files = omega arith
taken_few (suc count) [] = omega arith
taken_few (suc count) (file ∷ files) = omega (arith, taken_few count files)

-- an input of one of the tables is one of all
pub in_all : (count each texts place number : ℕ) → texts < count → place < each → number ≡ texts * each + place → number < count * each
in_all count each texts place number within below is =
    let rows : suc texts * each ≤ count * each = mul-le (suc texts) each count each within (omega arith) in
    let next : suc texts * each ≡ texts * each + each = grind (arith) in
    omega (arith, rows, next, is, below)

-- why a table's inputs aren't replayed
pub unreplayed_at : (w : Way) (delimiter records : ℕ) (names : List (List ℕ)) (each : ℕ) (inputs texts : List (List ℕ)) (count place number : ℕ) (cause : InputCause) (told : JobFault) →
    AreReplayed w delimiter each inputs texts → length texts < count → place < each → number ≡ length texts * each + place →
    IsReplayFaultAt w delimiter (inputs_at each inputs (length texts)) place cause → told ≡ named_fault names number (cause_after records cause) →
    IsUnreplayed w delimiter records names each inputs count told
unreplayed_at w delimiter records names each inputs texts count place number cause told before within below is has told_is =
    inr (
      number,
      cause,
      record { texts = texts; place = place; before = before; within = within; below = below; number_is = is; has = has },
      told_is,
    )

-- what is due in a directory for texts that are written
pub due_in_directory : (delimiter : ℕ) (r : Request) (replay : Replay) (texts rows written names paths : List (List ℕ)) (directory : List ℕ) →
    r.out ≡ Some directory → AreWritten (format_of replay) delimiter texts rows → written ≡ each_after (text_headings r.header replay.csv) rows →
    names ≡ map (text_name (format_of replay)) replay.names → paths ≡ map (in_directory directory) names → AreDueFor delimiter r replay texts (named_files paths written)
due_in_directory delimiter r replay texts rows written names paths directory out_is are headed named in_there =
    let whole : List (List ℕ) = each_after (text_headings r.header replay.csv) rows in
    record {
      written = rows;
      are = are;
      due_is =
          ap (named_files paths) headed
          ∙ ap (λ (p : List (List ℕ)). named_files p whole)
          (in_there ∙ ap (map (in_directory directory)) named ∙ map-map (in_directory directory) (text_name (format_of replay)) replay.names)
          ∙ ap (λ (o : Option (List ℕ)). made_files (text_name (format_of replay)) o replay.names whole) (sym out_is);
    }

-- texts that are made, as they are written
pub made_of_texts : (delimiter : ℕ) (r : Request) (replay : Replay) (each : ℕ) (inputs texts : List (List ℕ)) (due : List File) → each ≡ inputs_each r replay →
    length texts ≡ length replay.names → AreReplayed replay.way delimiter each inputs texts → AreDueFor delimiter r replay texts due → IsMadeOf delimiter r replay inputs (Ok due)
made_of_texts delimiter r replay each inputs texts due each_is many are due_for =
    (texts, many, subst (λ (e : ℕ). AreReplayed replay.way delimiter e inputs texts) each_is are, due_for)

-- why none are
pub unreplayed_decided : (delimiter : ℕ) (r : Request) (replay : Replay) (records each count : ℕ) (names inputs : List (List ℕ)) (fault : JobFault) →
    records ≡ records_before r.header replay.csv → each ≡ inputs_each r replay → count ≡ length replay.names → names ≡ input_names r replay →
    IsUnreplayed replay.way delimiter records names each inputs count fault → is_free (job_status fault) ≡ false → IsMadeOf delimiter r replay inputs (Err fault)
unreplayed_decided delimiter r replay records each count names inputs fault records_are each_is count_is named (inl memory) =
    λ free. let never = ap (λ (f : JobFault). is_free (job_status f)) memory in absurd (cc)
unreplayed_decided delimiter r replay records each count names inputs fault records_are each_is count_is named (inr found) = λ free. (
  found.0,
  found.1,
  subst (λ (e : ℕ). IsFirstFault replay.way delimiter e inputs (length replay.names) found.0 found.1) each_is
      (subst (λ (n : ℕ). IsFirstFault replay.way delimiter each inputs n found.0 found.1) count_is found.2),
  found.3 ∙ ap (λ (n : List (List ℕ)). named_fault n found.0 (cause_after records found.1)) named
      ∙ ap (λ (n : ℕ). named_fault (input_names r replay) found.0 (cause_after n found.1)) records_are,
)

-- it is want of memory, or a line at fault
applying : (records : ℕ) (cause : ApplyFault) → (applying_status (fault_after records cause) ≡ 7) ⊎ (applying_status (fault_after records cause) ≡ 9)
applying records (fault.BadLine line) = inr refl
applying records (fault.DoubleKey line) = inr refl
applying records (fault.NoSuchKey line) = inr refl
applying records (fault.KeyExists line) = inr refl
applying records fault.Memory = inl refl

replaying : (w : Way) (delimiter records : ℕ) (inputs names : List (List ℕ)) (place number : ℕ) (cause : InputCause) → IsReplayFaultAt w delimiter inputs place cause →
    (job_status (named_fault names number (cause_after records cause)) ≡ 7) ⊎ (job_status (named_fault names number (cause_after records cause)) ≡ 9)
replaying w delimiter records inputs names place number (Applying fault) has = applying records fault
replaying w delimiter records inputs names place number (Reverting fault) has = inr refl
replaying w delimiter records inputs names place number (Reading cause) has = absurd has
replaying w delimiter records inputs names place number (BadRecord at) has = absurd has

pub unreplayed_status : (w : Way) (delimiter records : ℕ) (names : List (List ℕ)) (each : ℕ) (inputs : List (List ℕ)) (count : ℕ) (fault : JobFault) →
    IsUnreplayed w delimiter records names each inputs count fault → (job_status fault ≡ 7) ⊎ (job_status fault ≡ 9)
unreplayed_status w delimiter records names each inputs count fault (inl memory) = inl (ap job_status memory)
unreplayed_status w delimiter records names each inputs count fault (inr found) =
    subst (λ (s : ℕ). (s ≡ 7) ⊎ (s ≡ 9)) (sym (ap job_status found.3))
    (replaying w delimiter records (inputs_at each inputs (length found.2.texts)) names found.2.place found.0 found.1 found.2.has)

-- what is made tells of no read
pub made_of_itself : (made : Result Job JobFault) → IfErr made (λ fault. (job_status fault ≡ 7) ⊎ (job_status fault ≡ 9)) →
    (ended job_status made ≢ 5) × (ended job_status made ≢ 10)
made_of_itself (Ok job) refused = (λ e. absurd (cc), λ e. absurd (cc))
made_of_itself (Err fault) (inl seven) = (λ e. absurd (omega (arith, seven, e)), λ e. absurd (omega (arith, seven, e)))
made_of_itself (Err fault) (inr nine) = (λ e. absurd (omega (arith, nine, e)), λ e. absurd (omega (arith, nine, e)))

-- ---- inputs in CSV

-- the first bad record refuses the inputs
pub unread_record_decided : (delimiter : ℕ) (r : Request) (replay : Replay) (names : List (List ℕ)) (columns : List (List (List ℕ))) (inputs : List (List ℕ)) (fault : JobFault) →
    names ≡ input_names r replay → IsUnreadRecord r.header delimiter names (zip columns inputs) fault → is_free (job_status fault) ≡ false →
    IsCsvMade delimiter r replay columns inputs (Err fault)
unread_record_decided delimiter r replay names columns inputs fault named (inl memory) =
    λ free. let never = ap (λ (f : JobFault). is_free (job_status f)) memory in absurd (cc)
unread_record_decided delimiter r replay names columns inputs fault named (inr found) = λ free.
    inr (found.0, found.1, found.2, ap Err (found.3 ∙ ap (λ (n : List (List ℕ)). named_fault n found.0 (BadRecord found.1)) named))

pub unread_record_status : (asked : Header) (delimiter : ℕ) (names : List (List ℕ)) (inputs : List (List (List ℕ) × List ℕ)) (fault : JobFault) →
    IsUnreadRecord asked delimiter names inputs fault → (job_status fault ≡ 7) ⊎ (job_status fault ≡ 9)
unread_record_status asked delimiter names inputs fault (inl memory) = inl (ap job_status memory)
unread_record_status asked delimiter names inputs fault (inr found) = inr (ap job_status found.3)

-- what the inputs are in COPY text form decides
pub copies_decided : (delimiter : ℕ) (r : Request) (replay : Replay) (columns : List (List (List ℕ))) (inputs copies : List (List ℕ)) (made : Result Job JobFault) →
    AreReadAs r.header delimiter (zip columns inputs) copies → IsDecided job_status due_of (IsMadeOf delimiter r replay copies) made →
    IsDecided job_status due_of (IsCsvMade delimiter r replay columns inputs) made
copies_decided delimiter r replay columns inputs copies (Ok job) are decided = inl (copies, are, decided)
copies_decided delimiter r replay columns inputs copies (Err fault) are decided = λ free. inl (copies, are, decided free)
