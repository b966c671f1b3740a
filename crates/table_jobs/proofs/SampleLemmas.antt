-- What a sample's tables are made of, text by text.
use Rattle.std.proofs.Common.{◌≡◌, ◌≢◌, ◌<◌, ◌≤◌, ◌+◌, ℕ, zero, suc, Bool, false, List, [], ◌∷◌, ◌++◌, append_assoc, decimal, flat_map, get_or, length, map, nat_lt, Option, Some, Ok, sum, ap, arith, refl, subst, sym, ◌∙◌}
use Rattle.std.specs.Prelude.{slice_get}
use Rattle.std.specs.List.{AllZip, range_with_len, sum_by}
use Rattle.std.specs.Option.{option_map}
use Rattle.std.proofs.lemmas.List.{length-map}
use Rattle.std.proofs.lemmas.List.Concat.{flat_map-append}
use Rattle.std.proofs.lemmas.List.Sums.{sum_by-append}
use Rattle.life_intervals.specs.Generator.{generator_of, last_unit}
use Rattle.life_intervals.proofs.Ranges.{range_with_len-add}
use Rattle.pd_outside.specs.Files.{File, file_at}
use Rattle.pd_outside.specs.Shelf.{Held, finish_files}
use Rattle.request_words.specs.declared.usage.Request.{Request}
use Rattle.row_lines.specs.Lines.{table_text}
use Rattle.sample_tables.specs.Schema.{sample_project}
use Rattle.schema_facts.specs.Dictionaries.{Project}
use Rattle.schema_facts.specs.Layout.{layout_of}
use Rattle.schema_facts.specs.TableFacts.{reach}
use Rattle.schema_plan.specs.Limits.{IsInLimits}
use Rattle.update_box.specs.Packages.{share_of, share_text}
use Rattle.update_box.specs.Parts.{content_text, name_at, snapshot_contents, unit_contents}
use Rattle.update_box.specs.TextLaws.{unit_streams}
use Rattle.update_box.specs.declared.parts.Content.{Content}
use Rattle.update_box.specs.declared.parts.Job.{Job}
use Rattle.update_box.specs.declared.parts.Content.TheVariants as content
use Rattle.update_box.proofs.ApplyLawLemmas.{units-applied}
use Rattle.update_box.proofs.ShareLawLemmas.{share-alone}
use Rattle.stream_apply.specs.InTurn.{IsFaultAt}
use Rattle.stream_apply.specs.declared.key_fields.KeyFields.TheVariants.{One}
use Rattle.stream_apply.specs.declared.fault.ApplyFault.{ApplyFault}
use Rattle.stream_apply.specs.declared.fault.ApplyFault.TheVariants.{Memory}
use Rattle.run_jobs.specs.DueFiles.{most_page_bytes, package_of, page_bytes, table_files, text_files}
use Rattle.table_jobs.specs.InMemory.{no_files}
use Rattle.table_jobs.specs.Sampled.{whole_job}
use Rattle.table_jobs.specs.modes.Sample.{IsLaterText, IsSampleDue, IsSampleOf, IsSampleUnless, IsSummary, later_units, lines_at, lines_in, sum_of_bytes, table_line, text_and_changes}
use Rattle.run_jobs.proofs.PageLemmas.{delimits}
use Rattle.run_jobs.proofs.CsvLemmas.{pushed}
use Rattle.run_jobs.proofs.RowLemmas.{applied-no_fault}

-- ---- the files of a table alone

abbrev bytes_in : List File → List (List ℕ)
bytes_in files = map (λ (file : File). file.bytes) files

whole : (plan : Project) → IsInLimits plan → (request : Request) (place unit : ℕ) → place < length plan.schema.tables → unit ≤ last_unit plan → (told : Content) →
    share_text plan unit (share_of plan (whole_job plan request place unit) (record { place = place; content = told })) ≡ content_text plan unit place told
whole plan limits request place unit below reached told =
    share-alone plan limits (whole_job plan request place unit) reached refl refl (record { place = place; content = told }) below

pub snapshot-files : (plan : Project) → IsInLimits plan → (request : Request) (place unit : ℕ) → place < length plan.schema.tables → unit ≤ last_unit plan →
    bytes_in (table_files snapshot_contents plan (Some []) (whole_job plan request place unit)) ≡ table_text (generator_of plan) unit place ∷ []
snapshot-files plan limits request place unit below reached =
    ap (λ (text : List ℕ). text ∷ []) (whole plan limits request place unit below reached content.Snapshot)

pub unit-files : (plan : Project) → IsInLimits plan → (request : Request) (place unit : ℕ) → place < length plan.schema.tables → unit ≤ last_unit plan →
    bytes_in (table_files unit_contents plan (Some []) (whole_job plan request place unit)) ≡ unit_streams plan place unit
unit-files plan limits request place unit below reached =
    let deletes = whole plan limits request place unit below reached content.Deleted in
    let updates = whole plan limits request place unit below reached content.Updated in
    let inserts = whole plan limits request place unit below reached content.Inserted in
    cc

-- the bytes of the file at a place are the text there
pub bytes-at : (files : List File) (place : ℕ) → (file_at files place).bytes ≡ get_or (bytes_in files) place []
bytes-at [] place = refl
bytes-at (file ∷ files) zero = refl
bytes-at (file ∷ files) (suc place) = bytes-at files place

-- ---- one unit more

range-next : (from count : ℕ) → range_with_len from (count + 1) ≡ range_with_len from count ++ (from + count) ∷ []
range-next from count = range_with_len-add from count 1

pub changes-next : (plan : Project) (place count unit : ℕ) → unit ≡ 1 + count →
    text_and_changes plan place (range_with_len 1 (count + 1)) ≡ text_and_changes plan place (range_with_len 1 count) ++ unit_streams plan place unit
changes-next plan place count unit at =
    ap (λ (units : List ℕ). text_and_changes plan place units) (range-next 1 count)
    ∙ ap (λ (rest : List (List ℕ)). table_text (generator_of plan) 0 place ∷ rest)
    (flat_map-append (unit_streams plan place) (range_with_len 1 count) ((1 + count) ∷ [])
    ∙ ap (λ (streams : List (List ℕ)). flat_map (unit_streams plan place) (range_with_len 1 count) ++ streams) (ap (λ (u : ℕ). unit_streams plan place u) (sym at)))

pub lines-next : (plan : Project) (place count unit : ℕ) (told : Content) → unit ≡ 1 + count →
    lines_at plan place told (range_with_len 1 (count + 1)) ≡ lines_at plan place told (range_with_len 1 count) + lines_in (content_text plan unit place told)
lines-next plan place count unit told at =
    let lines : ℕ → ℕ = λ u. lines_in (content_text plan u place told) in
    let one : sum_by lines ((1 + count) ∷ []) ≡ lines (1 + count) = omega arith in
    ap (λ (units : List ℕ). lines_at plan place told units) (range-next 1 count)
    ∙ sum_by-append lines (range_with_len 1 count) ((1 + count) ∷ [])
    ∙ ap (λ (more : ℕ). lines_at plan place told (range_with_len 1 count) + more) (one ∙ ap lines (sym at))

-- with the lines of a text of it
pub lines-more : (plan : Project) (place count unit : ℕ) (told : Content) (before now : ℕ) (text : List ℕ) → unit ≡ 1 + count → before ≡ lines_at plan place told (range_with_len 1 count) →
    text ≡ content_text plan unit place told → now ≡ before + lines_in text → now ≡ lines_at plan place told (range_with_len 1 (count + 1))
lines-more plan place count unit told before now text at before_is text_is now_is =
    now_is ∙ ap (λ (lines : ℕ). lines + lines_in text) before_is ∙ ap (λ (t : List ℕ). lines_at plan place told (range_with_len 1 count) + lines_in t) text_is
    ∙ sym (lines-next plan place count unit told at)

-- ---- what a shelf holds of them

files-held : (files : List File) (before now : Held) → before ≡ no_files → Some now ≡ option_map (finish_files files) (Some before) → now.finished ≡ files
files-held files before now none is =
    let done : now ≡ finish_files files before = cc in
    ap (λ (held : Held). held.finished) done ∙ ap (λ (held : Held). held.finished ++ files) none

-- the one text of a snapshot
pub snapshot-held : (plan : Project) → IsInLimits plan → (request : Request) (place unit : ℕ) → place < length plan.schema.tables → unit ≤ last_unit plan →
    (of : Project) (out : Option (List ℕ)) (asked : Job) → of ≡ plan → out ≡ Some [] → asked ≡ whole_job plan request place unit → (before now : Held) → before ≡ no_files →
    Some now ≡ option_map (finish_files (table_files snapshot_contents of out asked)) (Some before) → (file_at now.finished 0).bytes ≡ table_text (generator_of plan) unit place
snapshot-held plan limits request place unit below reached of out asked of_is out_is asked_is before now none is =
    let same : table_files snapshot_contents of out asked ≡ table_files snapshot_contents plan (Some []) (whole_job plan request place unit) = cc in
    let texts : bytes_in now.finished ≡ table_text (generator_of plan) unit place ∷ [] =
    ap bytes_in (files-held _ before now none is ∙ same) ∙ snapshot-files plan limits request place unit below reached in
    bytes-at now.finished 0 ∙ ap (λ (list : List (List ℕ)). get_or list 0 []) texts

-- the three of what a unit changes
pub unit-held : (plan : Project) → IsInLimits plan → (request : Request) (place unit : ℕ) → place < length plan.schema.tables → unit ≤ last_unit plan →
    (of : Project) (out : Option (List ℕ)) (asked : Job) → of ≡ plan → out ≡ Some [] → asked ≡ whole_job plan request place unit → (before now : Held) → before ≡ no_files →
    Some now ≡ option_map (finish_files (table_files unit_contents of out asked)) (Some before) → bytes_in now.finished ≡ unit_streams plan place unit
unit-held plan limits request place unit below reached of out asked of_is out_is asked_is before now none is =
    let same : table_files unit_contents of out asked ≡ table_files unit_contents plan (Some []) (whole_job plan request place unit) = cc in
    ap bytes_in (files-held _ before now none is ∙ same) ∙ unit-files plan limits request place unit below reached

pub three-held : (plan : Project) (place unit : ℕ) (files : List File) → bytes_in files ≡ unit_streams plan place unit →
    (length files ≡ 3) × ((file_at files 0).bytes ≡ content_text plan unit place content.Deleted) × ((file_at files 1).bytes ≡ content_text plan unit place content.Updated)
    × ((file_at files 2).bytes ≡ content_text plan unit place content.Inserted)
three-held plan place unit files same = (
  omega (arith, ap length same, length-map files (λ (file : File). file.bytes)),
  bytes-at files 0 ∙ ap (λ (texts : List (List ℕ)). get_or texts 0 []) same,
  bytes-at files 1 ∙ ap (λ (texts : List (List ℕ)). get_or texts 1 []) same,
  bytes-at files 2 ∙ ap (λ (texts : List (List ℕ)). get_or texts 2 []) same,
)

-- ---- what is told

-- the first of the inputs is the table's text
pub first-text : (plan : Project) (place : ℕ) (units : List ℕ) (inputs : List (List ℕ)) (first : List ℕ) → inputs ≡ text_and_changes plan place units → slice_get inputs 0 ≡ Some first →
    first ≡ table_text (generator_of plan) 0 place
first-text plan place units inputs first is at =
    let told : slice_get (text_and_changes plan place units) 0 ≡ Some first = subst (λ (list : List (List ℕ)). slice_get list 0 ≡ Some first) is at in
    cc

pub line-put : (plan : Project) (place : ℕ) (name first last : List ℕ) (firsts deleted updated inserted lasts : ℕ) (a b c d e f g h i j : List ℕ) →
    name ≡ name_at plan.schema place → first ≡ table_text (generator_of plan) 0 place → last ≡ table_text (generator_of plan) (last_unit plan) place → firsts ≡ lines_in first →
    deleted ≡ lines_at plan place content.Deleted (later_units plan) → updated ≡ lines_at plan place content.Updated (later_units plan) →
    inserted ≡ lines_at plan place content.Inserted (later_units plan) → lasts ≡ lines_in last → b ≡ a ++ name → c ≡ b ++ 9 ∷ [] → d ≡ (c ++ decimal firsts) ++ 9 ∷ [] →
    e ≡ (d ++ decimal (length first)) ++ 9 ∷ [] → f ≡ (e ++ decimal deleted) ++ 9 ∷ [] → g ≡ (f ++ decimal updated) ++ 9 ∷ [] → h ≡ (g ++ decimal inserted) ++ 9 ∷ [] →
    i ≡ (h ++ decimal lasts) ++ 9 ∷ [] → j ≡ (i ++ decimal (length last)) ++ 10 ∷ [] → j ≡ a ++ table_line plan place
line-put plan place name first last firsts deleted updated inserted lasts a b c d e f g h i j
    name_is first_is last_is firsts_are deleted_are updated_are inserted_are lasts_are b_is c_is d_is e_is f_is g_is h_is i_is j_is =
    rw (j_is, i_is, h_is, g_is, f_is, e_is, d_is, c_is, b_is, firsts_are, deleted_are, updated_are, inserted_are, lasts_are, name_is, first_is, last_is)
    (simp append_assoc)

-- ---- the sum

-- one more later text
pub sums-next : (plan : Project) (count total more : ℕ) (text : List ℕ) (made : List (List ℕ)) → AllZip (IsLaterText plan) (range_with_len 0 count) made → total ≡ sum_of_bytes made →
    IsLaterText plan count text → more ≡ sum text →
    (all : List (List ℕ)) × AllZip (IsLaterText plan) (range_with_len 0 (count + 1)) all × (total + more ≡ sum_of_bytes all)
sums-next plan count total more text made are total_is is more_is = (
  made ++ text ∷ [],
  subst (λ (places : List ℕ). AllZip (IsLaterText plan) places (made ++ text ∷ [])) (sym (range-next 0 count))
      (pushed (IsLaterText plan) (range_with_len 0 count) made (0 + count) text are (subst (λ (place : ℕ). IsLaterText plan place text) (let here : count ≡ 0 + count = omega arith in here) is)),
  omega (arith, total_is, more_is, sum_by-append sum made (text ∷ [])),
)

-- what the units change can be applied
pub no-fault : (plan : Project) → IsInLimits plan → (place : ℕ) → place < length plan.schema.tables → (inputs : List (List ℕ)) → inputs ≡ text_and_changes plan place (later_units plan) →
    (at : ℕ) (fault : ApplyFault) → fault ≢ Memory → IsFaultAt One (layout_of plan).delimiter inputs at fault → ⊥
no-fault plan limits place below inputs is at fault told has =
    applied-no_fault One (layout_of plan).delimiter (text_and_changes plan place (later_units plan)) _ at fault (delimits plan)
    (units-applied plan limits place below 0 (last_unit plan) (omega arith)) told
    (subst (λ (list : List (List ℕ)). IsFaultAt One (layout_of plan).delimiter list at fault) is has)

-- ---- what is due

pub sample-due : (plan : Project) (request : Request) (past : Bool) (text : List ℕ) → plan ≡ sample_project request.size →
    past ≡ nat_lt most_page_bytes (page_bytes request.workers (package_of plan request) (reach (layout_of plan))) → past ≡ false → IsSummary plan text →
    IsSampleDue request (Ok (text_files text))
sample-due plan request past text is past_is not summary =
    subst (λ (p : Project). IsSampleOf p request (Ok (text_files text))) is
    (subst (λ (b : Bool). IsSampleUnless b plan (Ok (text_files text))) (sym not ∙ past_is) (text, summary, refl))
