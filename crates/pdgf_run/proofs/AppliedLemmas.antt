-- Inputs that a plain simulation gives make what it holds later.
use Rattle.std.proofs.Common.{◌≡◌, ◌≢◌, ◌<◌, ◌≤◌, ◌+◌, ◌-◌, ◌*◌, ℕ, zero, suc, All, Bool, true, false, List, [], ◌++◌, flat_map, get_or, length, length-append, map, take, Option, None, Some, Result, Ok, Err, cond, inl, inr, ap, arith, refl, subst, sym, ◌∙◌}
use Rattle.std.specs.Prelude.{IfOk, IfSome, nat_lt, if◌then◌else◌}
use Rattle.std.specs.Option.{option_map}
use Rattle.std.specs.List.{AllZip, position_or_len, range_with_len}
use Rattle.std.proofs.lemmas.Bool.{cases_lt, le-ltb, lt-ltb, true≢false}
use Rattle.std.proofs.lemmas.List.{get_or-map, length-map}
use Rattle.std.proofs.lemmas.List.Elements.{All-map}
use Rattle.std.proofs.lemmas.List.FromFn.{get_or-range_with_len, length-range_with_len}
use Rattle.std.proofs.lemmas.List.Sums.{sum_by-take-drop}
use Rattle.pd_outside.specs.Files.{File}
use Rattle.pd_outside.specs.Shelf.{Held}
use Rattle.plan_stages.specs.Inputs.{first_too_long, inputs_in, inputs_of, total_length, unless_too_long}
use Rattle.plan_stages.specs.Plans.{plan_in}
use Rattle.refusals.specs.declared.refusal.JobFault.{JobFault}
use Rattle.refusals.specs.declared.refusal.JobFault.TheVariants as job
use Rattle.refusals.specs.declared.refusal.PlanFault.{PlanFault}
use Rattle.refusals.specs.declared.refusal.Refusal.{Refusal}
use Rattle.request_words.specs.Words.{request}
use Rattle.request_words.specs.declared.usage.Mode.TheVariants.{Apply, Play}
use Rattle.request_words.specs.declared.usage.Mode.{Mode}
use Rattle.request_words.specs.declared.usage.OptionName.TheVariants as option
use Rattle.request_words.specs.declared.usage.Request.{Request}
use Rattle.row_lines.specs.Lines.{table_text}
use Rattle.life_intervals.specs.Generator.{generator_of, last_unit}
use Rattle.row_text.specs.Fields.{IsDelimiter}
use Rattle.schema_model.specs.declared.table.Table.{Table}
use Rattle.schema_facts.specs.Dictionaries.{Project}
use Rattle.schema_facts.specs.Layout.{layout_of}
use Rattle.schema_plan.specs.Limits.{IsInLimits}
use Rattle.schema_facts.specs.Names.{same_text}
use Rattle.schema_plan.specs.Rules.{IsAccepted, column_names}
use Rattle.schema_plan.specs.Planned.{table_named}
use Rattle.stream_apply.specs.InTurn.{IsAppliedText}
use Rattle.stream_apply.specs.declared.key_fields.KeyFields.TheVariants.{One}
use Rattle.update_box.proofs.ApplyLawLemmas.{units-applied}
use Rattle.update_box.specs.TextLaws.{unit_streams}
use Rattle.run_jobs.specs.DueFiles.{chosen_table}
use Rattle.pdgf_run.specs.ReadingList.{reads_schema}
use Rattle.pdgf_run.specs.TopCall.{Carries, GivesLater}
use Rattle.pdgf_run.specs.Verdict.{IsInMode, IsVerdict}
use Rattle.pdgf_run.specs.declared.report.Report.{Report}
use Rattle.update_box.specs.Packages.{chosen_places}
use Rattle.update_box.specs.Parts.{name_at}
use Rattle.csv_face.specs.Csv.{BeginInAscii, HasRows}
use Rattle.request_words.specs.declared.usage.Format.{Format}
use Rattle.request_words.specs.declared.usage.Format.TheVariants.{Copy, Csv, Sql}
use Rattle.run_jobs.specs.Formats.{AreWritten, each_after, made_files}
use Rattle.replay_files.specs.Replay.{AreReplayed, IsMadeIn, IsMadeOf, format_of, input_columns, input_headings, input_paths, inputs_at, text_headings}
use Rattle.run_jobs.specs.InputFiles.{input_limit, text_name}
use Rattle.replay_files.specs.declared.replay.Replay.{Replay}
use Rattle.replay_files.specs.declared.replay.Way.TheVariants as way
use Rattle.replay_files.specs.modes.Apply.{AreLaterFiles, HoldInputs, IsApplyDue, apply_of, columns_by, of_choice, table_inputs, tables_asked}
use Rattle.run_jobs.proofs.ColumnLemmas.{accepted, names-ascii}
use Rattle.replay_files.proofs.KeyedTextLemmas.{IsKeyedOf, chosen-within, columns-are, columns_at, format_is, input_columns-ascii, inputs-keyed, later-rows, some-csvs, texts-read}
use Rattle.replay_files.proofs.ChunkLemmas.{chunk}
use Rattle.replay_files.proofs.ApplyLemmas.{due_asked}
use Rattle.replay_files.proofs.ReplayLemmas.{long_behind, read_and_made}
use Rattle.pdgf_run.proofs.CarriedLemmas.{Carried, Gives, Refuses, carried_gives, due_carried, refused_gives}
use Rattle.run_jobs.proofs.PageLemmas.{delimits}

-- ---- what is asked is within the plan

pub passes : {A : Type 0} (test : Bool) (fault : JobFault) (rest : Result A JobFault) (asked : A) → (if test then Err fault else rest) ≡ Ok asked → (test ≡ false) × (rest ≡ Ok asked)
passes true fault rest asked is = absurd (cc)
passes false fault rest asked is = (refl, is)

pub not_less : (a b : ℕ) → nat_lt a b ≡ false → b ≤ a
not_less a b is = elim (cases_lt a b) [
  | inl less ↦ absurd (true≢false (sym (lt-ltb a b less) ∙ is))
  | inr order ↦ order
]

pub choice_is : (chosen : Option (Option ℕ)) (table : Option ℕ) → of_choice chosen ≡ Ok table → chosen ≡ Some table
choice_is None table is = absurd (cc)
choice_is (Some choice) table is = ap Some (let same : choice ≡ table = cc in same)

-- the table that is chosen is there
found_at : (test : Bool) (k found : ℕ) → cond test (Some k) None ≡ Some found → (test ≡ true) × (k ≡ found)
found_at true k found is = (refl, let same : k ≡ found = cc in same)
found_at false k found is = absurd (cc)

less : (a b : ℕ) → nat_lt a b ≡ true → a < b
less a b is = elim (cases_lt a b) [
  | inl below ↦ below
  | inr past ↦ absurd (true≢false (sym is ∙ le-ltb a b past))
]

found_within : (plan : Project) (found : Option ℕ) (place : ℕ) (name : List ℕ) → found ≡ table_named plan.schema name → option_map Some found ≡ Some (Some place) →
    place < length plan.schema.tables
found_within plan None place name at is = absurd (cc)
found_within plan (Some found) place name at is =
    let same : found ≡ place = cc in
    let here = found_at (nat_lt (position_or_len (λ (table : Table). same_text table.name name) plan.schema.tables) (length plan.schema.tables)) _ found (sym at) in
    omega (arith, same, here.1, less _ (length plan.schema.tables) here.0)

pub chosen_within : (plan : Project) (name : Option (List ℕ)) (place : ℕ) → chosen_table plan.schema name ≡ Some (Some place) → place < length plan.schema.tables
chosen_within plan None place is = absurd (cc)
chosen_within plan (Some name) place is = found_within plan (table_named plan.schema name) place name refl is

-- ---- the inputs of a table among all

length-streams : (plan : Project) (place first count : ℕ) → length (flat_map (unit_streams plan place) (range_with_len first count)) ≡ 3 * count
length-streams plan place first zero = refl
length-streams plan place first (suc count) =
    let rest = flat_map (unit_streams plan place) (range_with_len (first + 1) count) in
    let more : length (unit_streams plan place first ++ rest) ≡ 3 + length rest = length-append (unit_streams plan place first) rest in
    omega (arith, more, length-streams plan place (first + 1) count)

length-table_inputs : (plan : Project) (r : Request) (place : ℕ) → length (table_inputs plan r.from (r.to - r.from) place) ≡ 1 + 3 * (r.to - r.from)
length-table_inputs plan r place = omega (arith, length-streams plan place (r.from + 1) (r.to - r.from))

-- ---- they make what the tables hold later

pub place_within : (plan : Project) (table : Option ℕ) (i : ℕ) → IfSome table (λ place. place < length plan.schema.tables) → i < length (chosen_places plan table) →
    get_or (chosen_places plan table) i 0 < length plan.schema.tables
place_within plan None i within below =
    let count = length-range_with_len 0 (length plan.schema.tables) in
    let inside : i < length plan.schema.tables = omega (arith, below, count) in
    omega (arith, get_or-range_with_len 0 (length plan.schema.tables) i 0 inside, inside)
place_within plan (Some place) zero within below = within
place_within plan (Some place) (suc i) within below = absurd (omega (arith, below))

later_applied : (plan : Project) (r : Request) (table : Option ℕ) (inputs : List (List ℕ)) → IsInLimits plan → r.from ≤ r.to → r.to ≤ last_unit plan →
    IfSome table (λ place. place < length plan.schema.tables) →
    inputs ≡ flat_map (table_inputs plan r.from (r.to - r.from)) (chosen_places plan table) →
    AreReplayed (way.Apply One) (layout_of plan).delimiter (1 + 3 * (r.to - r.from)) inputs (map (table_text (generator_of plan) r.to) (chosen_places plan table))
later_applied plan r table inputs limits order units within are = record {
  replayed = λ i below.
      let places : List ℕ = chosen_places plan table in
      let inside : i < length places = omega (arith, below, length-map places (table_text (generator_of plan) r.to)) in
      let place : ℕ = get_or places i 0 in
      let sum : r.from + (r.to - r.from) ≡ r.to = omega (arith, order) in
      let at_end : r.from + (r.to - r.from) ≤ last_unit plan = omega (arith, sum, units) in
      let own : inputs_at (1 + 3 * (r.to - r.from)) inputs i ≡ table_inputs plan r.from (r.to - r.from) place =
      ap (λ (l : List (List ℕ)). inputs_at (1 + 3 * (r.to - r.from)) l i) are
      ∙ chunk (table_inputs plan r.from (r.to - r.from)) (1 + 3 * (r.to - r.from)) places i 0 (length-table_inputs plan r) inside in
      let text : get_or (map (table_text (generator_of plan) r.to) places) i [] ≡ table_text (generator_of plan) r.to place =
      get_or-map (table_text (generator_of plan) r.to) places i 0 [] inside in
      let made : IsAppliedText One (layout_of plan).delimiter (table_inputs plan r.from (r.to - r.from) place) (table_text (generator_of plan) r.to place) =
      subst (λ (t : ℕ). IsAppliedText One (layout_of plan).delimiter (table_inputs plan r.from (r.to - r.from) place) (table_text (generator_of plan) t place)) sum
      (units-applied plan limits place (place_within plan table i within inside) r.from (r.to - r.from) at_end) in
      subst (λ (t : List ℕ). IsAppliedText One (layout_of plan).delimiter (inputs_at (1 + 3 * (r.to - r.from)) inputs i) t) (sym text)
      (subst (λ (l : List (List ℕ)). IsAppliedText One (layout_of plan).delimiter l (table_text (generator_of plan) r.to place)) (sym own) made);
}

-- inputs within the limit are all read
less_taken : (inputs : List (List ℕ)) (n : ℕ) → total_length (take n inputs) ≤ total_length inputs
less_taken inputs n = omega (arith, sum_by-take-drop length inputs n)

none_too_long : (inputs : List (List ℕ)) (long : Option ℕ) → first_too_long input_limit [] inputs ≡ long → total_length inputs ≤ input_limit → long ≡ None
none_too_long inputs None is within = refl
none_too_long inputs (Some number) is within =
    let past = (long_behind input_limit [] inputs number is).1 in
    let all : total_length ([] ++ take (number + 1 - length {A = List ℕ} []) inputs) ≡ total_length (take (number + 1) inputs) =
    ap (λ (count : ℕ). total_length (take count inputs)) (let same : number + 1 - 0 ≡ number + 1 = omega arith in same) in
    absurd (omega (arith, within, past, all, less_taken inputs (number + 1)))

pub all_read : (files : List File) (paths : List (List ℕ)) → total_length (inputs_of files paths) ≤ input_limit → inputs_in files paths input_limit ≡ Ok (inputs_of files paths)
all_read files paths within =
    ap (λ (long : Option ℕ). unless_too_long long (inputs_of files paths)) (none_too_long (inputs_of files paths) (first_too_long input_limit [] (inputs_of files paths)) refl within)

-- what they come to in a format
written_made : (format : Format) (plan : Project) (r : Request) (replay : Replay) (places : List ℕ) (texts rows inputs : List (List ℕ)) (answer : Result (List File) JobFault) →
    IsDelimiter (layout_of plan).delimiter → All BeginInAscii (columns_at plan places) → AllZip (IsKeyedOf (layout_of plan).delimiter) (input_columns r (columns_at plan places)) texts →
    AreWritten format (layout_of plan).delimiter texts rows → inputs ≡ each_after (input_headings r (columns_by format plan places)) rows →
    IsMadeOf (layout_of plan).delimiter r replay texts answer → IsMadeIn (columns_by format plan places) (layout_of plan).delimiter r replay inputs answer
written_made Copy plan r replay places texts rows inputs answer delimits ascii of are headed made =
    subst (λ (l : List (List ℕ)). IsMadeOf (layout_of plan).delimiter r replay l answer) (sym (headed ∙ are)) made
written_made Csv plan r replay places texts rows inputs answer delimits ascii of are headed made =
    subst (λ (l : List (List ℕ)). IsMadeIn (columns_by Csv plan places) (layout_of plan).delimiter r replay l answer) (sym headed)
    (inl (
      texts,
      texts-read r.header (layout_of plan).delimiter delimits (input_columns r (columns_at plan places)) texts rows (input_columns-ascii r (columns_at plan places) ascii) of are,
      made,
    ))
written_made Sql plan r replay places texts rows inputs answer delimits ascii of are headed made = absurd are

-- the names of columns of an accepted schema begin with a letter
columns-ascii : (plan : Project) → IsAccepted plan → IsInLimits plan → (table : Option ℕ) → IfSome table (λ place. place < length plan.schema.tables) →
    All BeginInAscii (columns_at plan (chosen_places plan table))
columns-ascii plan is limits table choice =
    let places : List ℕ = chosen_places plan table in
    let columns = columns-are plan limits table choice in
    All-map BeginInAscii (column_names plan.schema) places (λ k d inside.
    let below : k < length (columns_at plan places) = omega (arith, inside, length-map places (column_names plan.schema)) in
    names-ascii plan is (get_or places k d) (chosen-within plan table choice k d inside)
    (subst (λ (names : List (List ℕ)). 0 < length names) (get_or-map (column_names plan.schema) places k d [] inside) (columns k [] below).some))

-- what is read was written in a format in which rows are read
was_read : (format : Format) (delimiter : ℕ) (texts written : List (List ℕ)) → AreWritten format delimiter texts written → format ≢ Sql
was_read Copy delimiter texts written are = λ same. absurd (cc)
was_read Csv delimiter texts written are = λ same. absurd (cc)
was_read Sql delimiter texts written are = λ same. are

-- what is written of texts with rows, in such a format
some_written : (format : Format) (delimiter : ℕ) (texts : List (List ℕ)) → format ≢ Sql → All (λ (text : List ℕ). HasRows delimiter text) texts → (written : List (List ℕ)) × AreWritten format delimiter texts written
some_written Copy delimiter texts read all = (texts, refl)
some_written Csv delimiter texts read all = some-csvs delimiter texts all
some_written Sql delimiter texts read all = absurd (read refl)

later_due : (plan : Project) (r : Request) (files : List File) (table : Option ℕ) → IsDelimiter (layout_of plan).delimiter → IsAccepted plan → IsInLimits plan → tables_asked plan r ≡ Ok table →
    HoldInputs plan r table files → (due : List File) × AreLaterFiles plan r table due × IsApplyDue plan r files (Ok due)
later_due plan r files table delimits is_accepted limits asked hold =
    let first = passes (nat_lt r.to r.from) (job.Range option.From) _ table asked in
    let second = passes (nat_lt (layout_of plan).units r.to) (job.Range option.To) _ table first.1 in
    let chosen : chosen_table plan.schema r.table ≡ Some table = choice_is (chosen_table plan.schema r.table) table second.1 in
    let delimiter : ℕ = (layout_of plan).delimiter in
    let places : List ℕ = chosen_places plan table in
    let replay : Replay = apply_of plan r table in
    let inputs : List (List ℕ) = inputs_of files (input_paths r replay) in
    let texts : List (List ℕ) = flat_map (table_inputs plan r.from (r.to - r.from)) places in
    let later : List (List ℕ) = map (table_text (generator_of plan) r.to) places in
    let read : r.format ≢ Sql = was_read r.format delimiter texts hold.written hold.texts in
    let written = some_written r.format delimiter later read (later-rows plan limits r.to table (there table chosen)) in
    let due : List File = made_files (text_name (format_of replay)) r.out replay.names (each_after (text_headings r.header replay.csv) written.0) in
    let are : AreLaterFiles plan r table due =
    record { written = written.0; are = subst (λ (f : Format). AreWritten f delimiter later written.0) (sym (format_is r.format plan places read)) written.1; due_is = refl } in
    let within : r.to ≤ last_unit plan = not_less (layout_of plan).units r.to second.0 in
    let order : r.from ≤ r.to = not_less r.to r.from first.0 in
    let made : IsMadeOf delimiter r replay texts (Ok due) = (
      later,
      length-map places (table_text (generator_of plan) r.to) ∙ sym (length-map places (name_at plan.schema)),
      later_applied plan r table texts limits order within (there table chosen) refl,
      are,
    ) in (
      due,
      are,
      due_asked (apply_of plan r) delimiter delimiter r files (tables_asked plan r) table replay (Ok due) (sym asked) refl refl
          (read_and_made delimiter r replay files (Ok inputs) (Ok due) (all_read files (input_paths r replay) hold.within)
          (written_made r.format plan r replay places texts hold.written inputs (Ok due) delimits (columns-ascii plan is_accepted limits table (there table chosen))
          (inputs-keyed plan limits r table order within (there table chosen)) hold.texts hold.are made)),
    )
  where
    there : (table : Option ℕ) → chosen_table plan.schema r.table ≡ Some table → IfSome table (λ place. place < length plan.schema.tables)
    there None chosen = tt
    there (Some place) chosen = chosen_within plan r.table place chosen

-- ---- the verdict

of_asked : (words : List (List ℕ)) (files : List File) (r : Request) (plan : Project) (asked : Result (Option ℕ) JobFault) (verdict : Result (List File) Refusal) (report : Report)
    (before now : Option Held) → request words ≡ Ok r → r.mode ≡ Apply → plan_in files r.schema ≡ Ok plan → tables_asked plan r ≡ asked → IsInLimits plan →
    IsVerdict words files verdict → Carries verdict report before now →
    IfOk asked (λ (table : Option ℕ). HoldInputs plan r table files → (due : List File) × AreLaterFiles plan r table due × Carries (Ok due) report before now)
of_asked words files r plan (Err fault) verdict report before now given mode planned asked limits is carries = tt
of_asked words files r plan (Ok table) verdict report before now given mode planned asked limits is carries = λ hold.
    let found = later_due plan r files table (delimits plan) (accepted files r.schema plan planned) limits asked hold in
    let due : IsInMode r.mode r plan files (Ok found.0) = subst (λ (m : Mode). IsInMode m r plan files (Ok found.0)) (sym mode) found.2 in
    (found.0, found.1, due_carried delimits words files r plan found.0 verdict report before now given (ap reads_schema mode) planned due is carries)

of_plan : (words : List (List ℕ)) (files : List File) (r : Request) (made : Result Project PlanFault) (verdict : Result (List File) Refusal) (report : Report) (before now : Option Held) →
    request words ≡ Ok r → r.mode ≡ Apply → plan_in files r.schema ≡ made → IfOk made IsInLimits → IsVerdict words files verdict → Carries verdict report before now →
    IfOk made (λ (plan : Project). IfOk (tables_asked plan r) (λ (table : Option ℕ).
    HoldInputs plan r table files → (due : List File) × AreLaterFiles plan r table due × Carries (Ok due) report before now))
of_plan words files r (Err fault) verdict report before now given mode planned limits is carries = tt
of_plan words files r (Ok plan) verdict report before now given mode planned limits is carries =
    of_asked words files r plan (tables_asked plan r) verdict report before now given mode planned refl limits is carries

gives_later : Gives Apply GivesLater
gives_later words files r verdict report before now given mode limits is carries =
    of_plan words files r (plan_in files r.schema) verdict report before now given mode refl limits is carries

-- ---- the report

apart : Apply ≡ Play → ⊥
apart is = cc

pub applied_refused : Refuses Apply GivesLater
applied_refused = refused_gives Apply refl GivesLater gives_later

pub applied_carried : Carried Apply GivesLater
applied_carried = carried_gives Apply refl apart GivesLater gives_later
