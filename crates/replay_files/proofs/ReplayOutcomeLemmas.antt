-- What is replayed comes to one answer.
use Rattle.std.proofs.Common.{◌≡◌, ◌≢◌, ◌<◌, ◌+◌, ◌*◌, ℕ, List, [], length, Option, None, Some, Result, Ok, Err, ap, arith, inl, inr, refl, subst, sym, ◌∙◌}
use Rattle.std.proofs.lemmas.Bool.{cases_eq, cases_lt}
use Rattle.pd_outside.specs.Files.{File}
use Rattle.plan_stages.specs.Inputs.{inputs_in}
use Rattle.plan_stages.specs.declared.inputs.UnreadInput.{UnreadInput}
use Rattle.refusals.specs.declared.refusal.InputCause.{InputCause}
use Rattle.refusals.specs.declared.refusal.InputCause.TheVariants.{Applying, BadRecord, Reading, Reverting}
use Rattle.refusals.specs.declared.refusal.JobFault.{JobFault}
use Rattle.refusals.specs.declared.refusal.LineFault.{LineFault}
use Rattle.refusals.specs.declared.refusal.LineReason.{LineReason}
use Rattle.refusals.specs.declared.refusal.LineReason.TheVariants as reason
use Rattle.request_words.specs.declared.usage.Request.{Request}
use Rattle.row_text.specs.Fields.{IsDelimiter}
use Rattle.stream_apply.proofs.InTurnLemmas.{one-first, one-made}
use Rattle.stream_apply.specs.InTurn.{IsAppliedText}
use Rattle.stream_apply.specs.KeyedLines.{lines_text}
use Rattle.stream_apply.specs.declared.key_fields.KeyFields.{KeyFields}
use Rattle.undo_streams.proofs.TurnOutcomeLemmas.{one-revert_fault, one-reverted, reverted-no_fault}
use Rattle.undo_streams.specs.declared.fault.RevertFault.{RevertFault}
use Rattle.undo_streams.specs.declared.fault.RevertFault.TheVariants.{Memory}
use Rattle.run_jobs.specs.Formats.{each_after, made_files}
use Rattle.replay_files.specs.Replay.{AreDueFor, AreReplayed, IsCsvMade, IsFirstFault, IsMadeIn, IsMadeOf, IsReadAndMade, IsReplayFaultAt, IsReplayOf, IsReplayedText, cause_after, fault_at, fault_of_reason, fault_told, format_of, input_columns, input_paths, inputs_at, inputs_each, records_before, text_headings}
use Rattle.run_jobs.specs.InputFiles.{input_limit, text_name}
use Rattle.replay_files.specs.declared.replay.Replay.{Replay}
use Rattle.replay_files.specs.declared.replay.Way.{Way}
use Rattle.replay_files.specs.declared.replay.Way.TheVariants as way
use Rattle.replay_files.proofs.ListLemmas.{same_items}
use Rattle.run_jobs.proofs.CsvLemmas.{no_bad, one_bad, one_copies, one_written}
use Rattle.run_jobs.proofs.RowLemmas.{applied-no_fault}

-- ---- a line

-- no two faults of lines are told as one
one_told : (told other : LineFault) → fault_told told ≡ fault_told other → told ≡ other
one_told told other same = by told.reason other.reason told.line other.line same
  where
    by : (one two : LineReason) (line line' : ℕ) → fault_of_reason one line ≡ fault_of_reason two line' → ◌≡◌ {A = LineFault} (record { line = line; reason = one }) (record { line = line'; reason = two })
    by reason.BadLine reason.BadLine line line' is = ap (λ (n : ℕ). record { line = n; reason = reason.BadLine }) (let n : line ≡ line' = cc in n)
    by reason.BadLine reason.DoubleKey line line' is = absurd (cc)
    by reason.BadLine reason.NoSuchKey line line' is = absurd (cc)
    by reason.BadLine reason.KeyExists line line' is = absurd (cc)
    by reason.BadLine reason.BadPlace line line' is = absurd (cc)
    by reason.DoubleKey reason.DoubleKey line line' is = ap (λ (n : ℕ). record { line = n; reason = reason.DoubleKey }) (let n : line ≡ line' = cc in n)
    by reason.DoubleKey reason.BadLine line line' is = absurd (cc)
    by reason.DoubleKey reason.NoSuchKey line line' is = absurd (cc)
    by reason.DoubleKey reason.KeyExists line line' is = absurd (cc)
    by reason.DoubleKey reason.BadPlace line line' is = absurd (cc)
    by reason.NoSuchKey reason.NoSuchKey line line' is = ap (λ (n : ℕ). record { line = n; reason = reason.NoSuchKey }) (let n : line ≡ line' = cc in n)
    by reason.NoSuchKey reason.BadLine line line' is = absurd (cc)
    by reason.NoSuchKey reason.DoubleKey line line' is = absurd (cc)
    by reason.NoSuchKey reason.KeyExists line line' is = absurd (cc)
    by reason.NoSuchKey reason.BadPlace line line' is = absurd (cc)
    by reason.KeyExists reason.KeyExists line line' is = ap (λ (n : ℕ). record { line = n; reason = reason.KeyExists }) (let n : line ≡ line' = cc in n)
    by reason.KeyExists reason.BadLine line line' is = absurd (cc)
    by reason.KeyExists reason.DoubleKey line line' is = absurd (cc)
    by reason.KeyExists reason.NoSuchKey line line' is = absurd (cc)
    by reason.KeyExists reason.BadPlace line line' is = absurd (cc)
    by reason.BadPlace reason.BadPlace line line' is = ap (λ (n : ℕ). record { line = n; reason = reason.BadPlace }) (let n : line ≡ line' = cc in n)
    by reason.BadPlace reason.BadLine line line' is = absurd (cc)
    by reason.BadPlace reason.DoubleKey line line' is = absurd (cc)
    by reason.BadPlace reason.NoSuchKey line line' is = absurd (cc)
    by reason.BadPlace reason.KeyExists line line' is = absurd (cc)

-- what is told of a line is no want of memory
pub told_known : (told : LineFault) (fault : RevertFault) → fault_told told ≡ fault → fault ≢ Memory
told_known told fault same memory = known told.reason told.line (same ∙ memory)
  where
    known : (reason : LineReason) (line : ℕ) → fault_of_reason reason line ≢ Memory
    known reason.BadLine line is = cc
    known reason.DoubleKey line is = cc
    known reason.NoSuchKey line is = cc
    known reason.KeyExists line is = cc
    known reason.BadPlace line is = cc

-- ---- one table

pub one_text : (keys : KeyFields) (delimiter : ℕ) (inputs : List (List ℕ)) (text other : List ℕ) → IsDelimiter delimiter → IsAppliedText keys delimiter inputs text → IsAppliedText keys delimiter inputs other → text ≡ other
one_text keys delimiter inputs text other delimits is other_is =
    is.is ∙ ap lines_text (one-made keys delimiter _ [] is.lines other_is.lines delimits is.made other_is.made) ∙ sym other_is.is

one_replayed : (w : Way) (delimiter : ℕ) (inputs : List (List ℕ)) (text other : List ℕ) → IsDelimiter delimiter → IsReplayedText w delimiter inputs text → IsReplayedText w delimiter inputs other → text ≡ other
one_replayed (way.Apply keys) delimiter inputs text other delimits is other_is = one_text keys delimiter inputs text other delimits is other_is
one_replayed way.Undo delimiter inputs text other delimits is other_is = one-reverted delimiter delimits inputs text other is other_is

-- inputs have no fault where they are replayed
never_both : (w : Way) (delimiter : ℕ) (inputs : List (List ℕ)) (text : List ℕ) (place : ℕ) (cause : InputCause) → IsDelimiter delimiter → IsReplayedText w delimiter inputs text →
    IsReplayFaultAt w delimiter inputs place cause → ⊥
never_both (way.Apply keys) delimiter inputs text place (Applying fault) delimits is has = applied-no_fault keys delimiter inputs text place fault delimits is has.1 has.0
never_both (way.Apply keys) delimiter inputs text place (Reverting fault) delimits is has = has
never_both (way.Apply keys) delimiter inputs text place (Reading cause) delimits is has = has
never_both (way.Apply keys) delimiter inputs text place (BadRecord at) delimits is has = has
never_both way.Undo delimiter inputs text place (Applying fault) delimits is has = has
never_both way.Undo delimiter inputs text place (Reverting fault) delimits is has =
    reverted-no_fault delimiter delimits inputs text place (fault_told fault) is (told_known fault (fault_told fault) refl) has
never_both way.Undo delimiter inputs text place (Reading cause) delimits is has = has
never_both way.Undo delimiter inputs text place (BadRecord at) delimits is has = has

-- they have one first fault
one_first : (w : Way) (delimiter : ℕ) (inputs : List (List ℕ)) (place other_place : ℕ) (cause other : InputCause) → IsDelimiter delimiter → IsReplayFaultAt w delimiter inputs place cause →
    IsReplayFaultAt w delimiter inputs other_place other → (place ≡ other_place) × (cause ≡ other)
one_first (way.Apply keys) delimiter inputs place other_place (Applying fault) (Applying other) delimits has other_has =
    let one = one-first keys delimiter _ [] place other_place fault other delimits has.0 other_has.0 has.1 other_has.1 in
    (one.0, ap Applying one.1)
one_first (way.Apply keys) delimiter inputs place other_place (Applying fault) (Reverting other) delimits has other_has = absurd other_has
one_first (way.Apply keys) delimiter inputs place other_place (Applying fault) (Reading other) delimits has other_has = absurd other_has
one_first (way.Apply keys) delimiter inputs place other_place (Applying fault) (BadRecord other) delimits has other_has = absurd other_has
one_first (way.Apply keys) delimiter inputs place other_place (Reverting fault) other delimits has other_has = absurd has
one_first (way.Apply keys) delimiter inputs place other_place (Reading fault) other delimits has other_has = absurd has
one_first (way.Apply keys) delimiter inputs place other_place (BadRecord at) other delimits has other_has = absurd has
one_first way.Undo delimiter inputs place other_place (Reverting fault) (Reverting other) delimits has other_has =
    let one = one-revert_fault delimiter delimits inputs place other_place (fault_told fault) (fault_told other) has other_has
    (told_known fault (fault_told fault) refl) (told_known other (fault_told other) refl) in
    (one.0, ap Reverting (one_told fault other one.1))
one_first way.Undo delimiter inputs place other_place (Reverting fault) (Applying other) delimits has other_has = absurd other_has
one_first way.Undo delimiter inputs place other_place (Reverting fault) (Reading other) delimits has other_has = absurd other_has
one_first way.Undo delimiter inputs place other_place (Reverting fault) (BadRecord other) delimits has other_has = absurd other_has
one_first way.Undo delimiter inputs place other_place (Applying fault) other delimits has other_has = absurd has
one_first way.Undo delimiter inputs place other_place (Reading fault) other delimits has other_has = absurd has
one_first way.Undo delimiter inputs place other_place (BadRecord at) other delimits has other_has = absurd has

-- ---- all tables

one_list : (w : Way) (delimiter each : ℕ) (inputs texts others : List (List ℕ)) → IsDelimiter delimiter → length texts ≡ length others →
    AreReplayed w delimiter each inputs texts → AreReplayed w delimiter each inputs others → texts ≡ others
one_list w delimiter each inputs texts others delimits count are others_are =
    same_items texts others count (λ i below. one_replayed w delimiter (inputs_at each inputs i) _ _ delimits (are.replayed i below) (others_are.replayed i (omega (arith, below, count))))

no_fault_within : (w : Way) (delimiter each : ℕ) (inputs texts : List (List ℕ)) (count number : ℕ) (cause : InputCause) → IsDelimiter delimiter → AreReplayed w delimiter each inputs texts →
    (is_first : IsFirstFault w delimiter each inputs count number cause) → length is_first.texts < length texts → ⊥
no_fault_within w delimiter each inputs texts count number cause delimits are is_first below =
    never_both w delimiter (inputs_at each inputs (length is_first.texts)) _ is_first.place cause delimits (are.replayed (length is_first.texts) below) is_first.has

one_fault : (w : Way) (delimiter each : ℕ) (inputs : List (List ℕ)) (count number other_number : ℕ) (cause other : InputCause) → IsDelimiter delimiter →
    IsFirstFault w delimiter each inputs count number cause → IsFirstFault w delimiter each inputs count other_number other → (number ≡ other_number) × (cause ≡ other)
one_fault w delimiter each inputs count number other_number cause other delimits is other_is = elim (cases_eq (length is.texts) (length other_is.texts)) [
  | inl same ↦
      let here : IsReplayFaultAt w delimiter (inputs_at each inputs (length is.texts)) other_is.place other =
      subst (λ (t : ℕ). IsReplayFaultAt w delimiter (inputs_at each inputs t) other_is.place other) (sym same) other_is.has in
      let one = one_first w delimiter (inputs_at each inputs (length is.texts)) is.place other_is.place cause other delimits is.has here in
      (is.number_is ∙ ap (λ (t : ℕ). t * each + is.place) same ∙ ap (λ (p : ℕ). length other_is.texts * each + p) one.0 ∙ sym other_is.number_is, one.1)
  | inr apart ↦ elim (cases_lt (length is.texts) (length other_is.texts)) [
    | inl earlier ↦ absurd (no_fault_within w delimiter each inputs other_is.texts count number cause delimits other_is.before is earlier)
    | inr later ↦ absurd (no_fault_within w delimiter each inputs is.texts count other_number other delimits is.before other_is (omega (arith, apart, later)))
  ]
]

-- ---- a request

-- what is due for texts is one
one_due : (delimiter : ℕ) (r : Request) (replay : Replay) (texts : List (List ℕ)) (due other : List File) → IsDelimiter delimiter →
    AreDueFor delimiter r replay texts due → AreDueFor delimiter r replay texts other → due ≡ other
one_due delimiter r replay texts due other delimits is other_is =
    is.due_is
    ∙ ap (λ (rows : List (List ℕ)). made_files (text_name (format_of replay)) r.out replay.names (each_after (text_headings r.header replay.csv) rows))
    (one_written (format_of replay) delimiter texts is.written other_is.written delimits is.are other_is.are)
    ∙ sym other_is.due_is

one_made : (delimiter : ℕ) (r : Request) (replay : Replay) (inputs : List (List ℕ)) (answer other : Result (List File) JobFault) → IsDelimiter delimiter →
    IsMadeOf delimiter r replay inputs answer → IsMadeOf delimiter r replay inputs other → answer ≡ other
one_made delimiter r replay inputs (Ok due) (Ok other) delimits made other_made =
    let same : made.0 ≡ other_made.0 =
    one_list replay.way delimiter (inputs_each r replay) inputs made.0 other_made.0 delimits (made.1 ∙ sym other_made.1) made.2 other_made.2 in
    let other_due : AreDueFor delimiter r replay made.0 other = subst (λ (texts : List (List ℕ)). AreDueFor delimiter r replay texts other) (sym same) other_made.3 in
    ap Ok (one_due delimiter r replay made.0 due other delimits made.3 other_due)
one_made delimiter r replay inputs (Ok due) (Err fault) delimits made other_made =
    absurd (no_fault_within replay.way delimiter (inputs_each r replay) inputs made.0 _ other_made.0 other_made.1 delimits made.2 other_made.2
    (omega (arith, other_made.2.within, made.1)))
one_made delimiter r replay inputs (Err fault) (Ok due) delimits made other_made =
    absurd (no_fault_within replay.way delimiter (inputs_each r replay) inputs other_made.0 _ made.0 made.1 delimits other_made.2 made.2
    (omega (arith, made.2.within, other_made.1)))
one_made delimiter r replay inputs (Err fault) (Err other) delimits made other_made =
    let one = one_fault replay.way delimiter (inputs_each r replay) inputs _ made.0 other_made.0 made.1 other_made.1 delimits made.2 other_made.2 in
    let records : ℕ = records_before r.header replay.csv in
    ap Err (made.3 ∙ ap (λ (n : ℕ). fault_at r replay n (cause_after records made.1)) one.0 ∙ ap (λ (cause : InputCause). fault_at r replay other_made.0 (cause_after records cause)) one.1
    ∙ sym other_made.3)

-- inputs in CSV
one_csv_made : (delimiter : ℕ) (r : Request) (replay : Replay) (columns : List (List (List ℕ))) (inputs : List (List ℕ)) (answer other : Result (List File) JobFault) → IsDelimiter delimiter →
    IsCsvMade delimiter r replay columns inputs answer → IsCsvMade delimiter r replay columns inputs other → answer ≡ other
one_csv_made delimiter r replay columns inputs answer other delimits (inl made) (inl other_made) =
    let same : made.0 ≡ other_made.0 = one_copies r.header delimiter _ made.0 other_made.0 made.1 other_made.1 in
    one_made delimiter r replay made.0 answer other delimits made.2
    (subst (λ (copies : List (List ℕ)). IsMadeOf delimiter r replay copies other) (sym same) other_made.2)
one_csv_made delimiter r replay columns inputs answer other delimits (inl made) (inr bad) = absurd (no_bad r.header delimiter _ made.0 bad.0 bad.1 made.1 bad.2)
one_csv_made delimiter r replay columns inputs answer other delimits (inr bad) (inl made) = absurd (no_bad r.header delimiter _ made.0 bad.0 bad.1 made.1 bad.2)
one_csv_made delimiter r replay columns inputs answer other delimits (inr bad) (inr other_bad) =
    let one = one_bad r.header delimiter _ bad.0 other_bad.0 bad.1 other_bad.1 bad.2 other_bad.2 in
    bad.3 ∙ ap Err (ap (λ (n : ℕ). fault_at r replay n (BadRecord bad.1)) one.0 ∙ ap (λ (at : ℕ). fault_at r replay other_bad.0 (BadRecord at)) one.1) ∙ sym other_bad.3

one_made_in : (csv : Option (List (List (List ℕ)))) (delimiter : ℕ) (r : Request) (replay : Replay) (inputs : List (List ℕ)) (answer other : Result (List File) JobFault) → IsDelimiter delimiter →
    IsMadeIn csv delimiter r replay inputs answer → IsMadeIn csv delimiter r replay inputs other → answer ≡ other
one_made_in None delimiter r replay inputs answer other delimits is other_is = one_made delimiter r replay inputs answer other delimits is other_is
one_made_in (Some tables) delimiter r replay inputs answer other delimits is other_is = one_csv_made delimiter r replay (input_columns r tables) inputs answer other delimits is other_is

one_read : (delimiter : ℕ) (r : Request) (replay : Replay) (inputs : Result (List (List ℕ)) UnreadInput) (answer other : Result (List File) JobFault) → IsDelimiter delimiter →
    IsReadAndMade delimiter r replay inputs answer → IsReadAndMade delimiter r replay inputs other → answer ≡ other
one_read delimiter r replay (Ok inputs) answer other delimits is other_is = one_made_in replay.csv delimiter r replay inputs answer other delimits is other_is
one_read delimiter r replay (Err fault) answer other delimits is other_is = is ∙ sym other_is

pub one_replay : {A : Type 0} (of : A → Replay) (delimiter : ℕ) (r : Request) (files : List File) (asked : Result A JobFault) (answer other : Result (List File) JobFault) → IsDelimiter delimiter →
    IsReplayOf of delimiter r files asked answer → IsReplayOf of delimiter r files asked other → answer ≡ other
one_replay of delimiter r files (Ok asked) answer other delimits is other_is =
    one_read delimiter r (of asked) (inputs_in files (input_paths r (of asked)) input_limit) answer other delimits is other_is
one_replay of delimiter r files (Err fault) answer other delimits is other_is = is ∙ sym other_is
