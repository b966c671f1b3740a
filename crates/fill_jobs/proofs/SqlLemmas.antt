-- The parts of scripts, their packages and their files.
use Rattle.std.proofs.Common.{◌≡◌, ◌<◌, ◌≤◌, ℕ, true, zero, suc, ◌+◌, ◌*◌, All, List, [], ◌∷◌, ◌++◌, append-nil, append_assoc, flat_map, get_or, length, length-append, map, reverse, Option, None, Some, ap, ap₂, arith, refl, subst, sym, ◌∙◌}
use Rattle.std.specs.Prelude.{◌==◌, IfSome}
use Rattle.std.specs.List.{range_with_len}
use Rattle.std.proofs.lemmas.Bool.{eq-eqb}
use Rattle.std.proofs.lemmas.List.{length-map, length-reverse, reverse-append}
use Rattle.std.proofs.lemmas.List.Elements.{All-append, All-cons, All-head, All-nil, All-tail}
use Rattle.std.proofs.lemmas.List.FromFn.{length-range_with_len}
use Rattle.schema_facts.specs.Dictionaries.{Project}
use Rattle.schema_plan.specs.Limits.{IsInLimits}
use Rattle.life_intervals.proofs.Ranges.{range_with_len-add}
use Rattle.sql_lines.specs.Packages.{Packages, count_of, text_numbered}
use Rattle.sql_lines.specs.Script.{packages_of_part, part_statements}
use Rattle.sql_lines.proofs.ShareLemmas.{part-packages}
use Rattle.request_words.specs.declared.usage.Format.TheVariants.{Sql}
use Rattle.update_box.specs.Packages.{IsJobOf, chosen_places}
use Rattle.update_box.specs.Parts.{Part, parts_at, parts_of}
use Rattle.update_box.specs.Prepared.{AreChosen, IsAmong, Prepared}
use Rattle.update_box.specs.declared.parts.Content.{Content}
use Rattle.update_box.specs.declared.parts.Content.TheVariants as content
use Rattle.update_box.specs.declared.parts.Job.{Job}
use Rattle.update_box.specs.TableLists.{HasLists, HoldLists, is_chosen}
use Rattle.update_box.specs.UnitLists.{UnitLists}
use Rattle.run_jobs.specs.DueFiles.{contents_of, text_files, told_by}
use Rattle.run_jobs.specs.Formats.{file_name, in_directory, named_files}
use Rattle.run_jobs.specs.Jobs.{CanState, IsPartOf, IsToldAs}
use Rattle.run_jobs.specs.Joined.{joined_text, part_files, whole_text}
use Rattle.run_jobs.specs.SqlFiles.{files_of_parts, parts_told, statement_files}
use Rattle.run_jobs.specs.declared.job.ScriptJob.{ScriptJob}
use Rattle.run_jobs.specs.declared.job.Told.{Told}
use Rattle.run_jobs.specs.declared.job.Told.TheVariants as telling
use Rattle.fill_jobs.proofs.DetailFilesLemmas.{joined-whole, part_files-named}
use Rattle.run_jobs.proofs.MoreLemmas.{flat_map_more}

-- ---- parts in order

-- those of one more table
pub parts_behind : (contents : List Content) (first number : ℕ) (before mid now : List Part) → mid ≡ before ++ parts_of contents (range_with_len first number) →
    now ≡ mid ++ parts_at contents (first + number) → now ≡ before ++ parts_of contents (range_with_len first (number + 1))
parts_behind contents first number before mid now so_far step =
    step
    ∙ ap (λ (front : List Part). front ++ parts_at contents (first + number)) so_far
    ∙ append_assoc before (parts_of contents (range_with_len first number)) (parts_at contents (first + number))
    ∙ ap (λ (rest : List Part). before ++ rest) (sym (flat_map_more (parts_at contents) first number))

-- the last place comes first backwards
backwards : (first number : ℕ) → reverse (range_with_len first (suc number)) ≡ (first + number) ∷ reverse (range_with_len first number)
backwards first number =
    let more : number + 1 ≡ suc number = omega arith in
    ap (λ (n : ℕ). reverse (range_with_len first n)) (sym more)
    ∙ ap reverse (range_with_len-add first number 1)
    ∙ reverse-append (range_with_len first number) ((first + number) ∷ [])

-- those of tables that are left are all
pub parts_left : (contents : List Content) (first count left : ℕ) (before : List Part) → left ≡ count →
    before ++ parts_of contents (reverse (range_with_len first left)) ≡ before ++ parts_of contents (reverse (range_with_len first count))
parts_left contents first count left before same = ap (λ (n : ℕ). before ++ parts_of contents (reverse (range_with_len first n))) same

-- those of one fewer
pub parts_before : (contents : List Content) (first left rest number : ℕ) (mid now all : List Part) → left ≡ suc rest → number ≡ rest →
    mid ++ parts_of contents (reverse (range_with_len first left)) ≡ all → now ≡ mid ++ parts_at contents (first + number) →
    now ++ parts_of contents (reverse (range_with_len first rest)) ≡ all
parts_before contents first left rest number mid now all more at so_far step =
    let behind : List Part = parts_of contents (reverse (range_with_len first rest)) in
    ap (λ (front : List Part). front ++ behind) (step ∙ ap (λ (n : ℕ). mid ++ parts_at contents (first + n)) at)
    ∙ append_assoc mid (parts_at contents (first + rest)) behind
    ∙ ap (λ (places : List ℕ). mid ++ parts_of contents places) (sym (backwards first rest))
    ∙ sym (ap (λ (n : ℕ). mid ++ parts_of contents (reverse (range_with_len first n))) more)
    ∙ so_far

-- none is left
pub parts_done : (contents : List Content) (first left : ℕ) (now all : List Part) → left ≡ 0 → now ++ parts_of contents (reverse (range_with_len first left)) ≡ all → now ≡ all
parts_done contents first left now all none so_far =
    sym (append-nil now) ∙ sym (ap (λ (n : ℕ). now ++ parts_of contents (reverse (range_with_len first n))) none) ∙ so_far

-- ---- parts of a job

places-range : (P : ℕ → Type 0) (first count : ℕ) → ((place : ℕ) → first ≤ place → place < first + count → P place) → All P (range_with_len first count)
places-range P first zero each = All-nil P
places-range P first (suc count) each =
    All-cons P first (range_with_len (first + 1) count) (each first (omega arith) (omega arith))
    (places-range P (first + 1) count (λ place above below. each place (omega (arith, above)) (omega (arith, below))))

-- each table that is chosen is prepared
places-among : (plan : Project) (table : Option ℕ) (tables : Prepared) → AreChosen plan table tables → All (IsAmong tables) (chosen_places plan table)
places-among plan table tables chosen =
    subst (λ (places : List ℕ). All (IsAmong tables) places) chosen
    (places-range (IsAmong tables) tables.from (length tables.lines) (λ place above below. record { begun = above; not_ended = below }))

reversed : (P : ℕ → Type 0) (places : List ℕ) → All P places → All P (reverse places)
reversed P [] all = All-nil P
reversed P (place ∷ places) all =
    subst (λ (list : List ℕ). All P list) (sym (reverse-append (place ∷ []) places))
    (All-append P (reverse places) (place ∷ []) (reversed P places (All-tail P place places all)) (All-cons P place [] (All-head P place places all) (All-nil P)))

module _ (P : Part → Type 0) where
  contents-all : (contents : List Content) (place : ℕ) → ((c : Content) → P (record { place = place; content = c })) → All P (parts_at contents place)
  contents-all [] place each = All-nil P
  contents-all (c ∷ contents) place each = All-cons P (record { place = place; content = c }) (parts_at contents place) (each c) (contents-all contents place each)

  -- all contents of tables
  tables-all : (contents : List Content) (places : List ℕ) → All (λ place. (c : Content) → P (record { place = place; content = c })) places → All P (parts_of contents places)
  tables-all contents [] all = All-nil P
  tables-all contents (place ∷ places) all =
      All-append P (parts_at contents place) (parts_of contents places)
      (contents-all contents place (All-head (λ (p : ℕ). (c : Content) → P (record { place = p; content = c })) place places all))
      (tables-all contents places (All-tail (λ (p : ℕ). (c : Content) → P (record { place = p; content = c })) place places all))

  -- one content of tables
  tables-one : (c : Content) (places : List ℕ) → All (λ place. P (record { place = place; content = c })) places → All P (parts_of (c ∷ []) places)
  tables-one c [] all = All-nil P
  tables-one c (place ∷ places) all =
      All-cons P (record { place = place; content = c }) (parts_of (c ∷ []) places) (All-head (λ (p : ℕ). P (record { place = p; content = c })) place places all)
      (tables-one c places (All-tail (λ (p : ℕ). P (record { place = p; content = c })) place places all))

module _ (of_tables : Prepared) (IsPart : Part → Type 0) (changes : Option UnitLists)
    (of : (part : Part) → IsAmong of_tables part.place → IsToldAs (told_by changes) part.content → IsPart part) where
  of-snapshot : changes ≡ None → (places : List ℕ) → All (IsAmong of_tables) places → All IsPart (parts_of (content.Snapshot ∷ []) places)
  of-snapshot none places all = tables-one IsPart content.Snapshot places (λ k d below.
      of (record { place = get_or places k d; content = content.Snapshot }) (all k d below)
      (subst (λ (it : Option UnitLists). IsToldAs (told_by it) content.Snapshot) (sym none) refl))

  of-changes : (lists : UnitLists) → changes ≡ Some lists → (contents : List Content) (places : List ℕ) → All (IsAmong of_tables) places → All IsPart (parts_of contents places)
  of-changes lists some contents places all = tables-all IsPart contents places (λ k d below c.
      of (record { place = get_or places k d; content = c }) (all k d below) (subst (λ (it : Option UnitLists). IsToldAs (told_by it) c) (sym some) tt))

  of-told : (told : Option UnitLists) (plan : Project) (out : Option (List ℕ)) (table : Option ℕ) → changes ≡ told → All (IsAmong of_tables) (chosen_places plan table) →
      All IsPart (parts_told (told_by told) plan out table)
  of-told None plan None table is all = of-snapshot is (chosen_places plan table) all
  of-told None plan (Some directory) table is all = of-snapshot is (chosen_places plan table) all
  of-told (Some lists) plan (Some directory) table is all = of-changes lists is (contents_of telling.Changes) (chosen_places plan table) all
  of-told (Some lists) plan None table is all =
      let places : List ℕ = chosen_places plan table in
      let back : List ℕ = reverse places in
      All-append IsPart (parts_of (content.Updated ∷ []) places ++ parts_of (content.Deleted ∷ []) back) (parts_of (content.Inserted ∷ []) places)
      (All-append IsPart (parts_of (content.Updated ∷ []) places) (parts_of (content.Deleted ∷ []) back) (of-changes lists is (content.Updated ∷ []) places all)
      (of-changes lists is (content.Deleted ∷ []) back (reversed (IsAmong of_tables) places all)))
      (of-changes lists is (content.Inserted ∷ []) places all)

pub parts-are : (job : ScriptJob) → CanState job → All (IsPartOf job) (parts_told (told_by job.changes) job.of.plan job.of.out job.of.asked.table)
parts-are job can =
    of-told job.of.tables (IsPartOf job) job.changes (λ part among told. record { among = among; told = told }) job.changes job.of.plan job.of.out job.of.asked.table refl
    (places-among job.of.plan job.of.asked.table job.of.tables can.of.chosen)

-- a table among those that are prepared is chosen
chosen-one : (first count one place : ℕ) → range_with_len first count ≡ one ∷ [] → first ≤ place → place < first + count → (place == one) ≡ true
chosen-one first zero one place is above below = absurd (omega (arith, above, below))
chosen-one first (suc count) one place is above below =
    let begin : first ≡ one = cc in
    let many : suc count ≡ 1 = sym (length-range_with_len first (suc count)) ∙ ap (λ (places : List ℕ). length places) is in
    eq-eqb place one (omega (arith, begin, many, above, below))

chosen-among : (plan : Project) (table : Option ℕ) (tables : Prepared) → AreChosen plan table tables → (place : ℕ) → IsAmong tables place → is_chosen table place ≡ true
chosen-among plan None tables chosen place among = refl
chosen-among plan (Some one) tables chosen place among = chosen-one tables.from (length tables.lines) one place chosen among.begun among.not_ended

-- so what the unit changes in the table of a part is at hand
lists-held : (plan : Project) (unit : ℕ) (table : Option ℕ) (changes : Option UnitLists) (lists : UnitLists) → changes ≡ Some lists →
    IfSome changes (λ (found : UnitLists). HoldLists plan unit table found) → HoldLists plan unit table lists
lists-held plan unit table changes lists some found = subst (λ (it : Option UnitLists). IfSome it (λ (found : UnitLists). HoldLists plan unit table found)) some found

pub part-lists : (job : ScriptJob) → CanState job → (part : Part) → IsPartOf job part → (lists : UnitLists) → job.changes ≡ Some lists →
    HasLists job.of.plan job.of.asked.unit lists part.place
part-lists job can part is lists some =
    (lists-held job.of.plan job.of.asked.unit job.of.asked.table job.changes lists some can.found).each part.place (omega (arith, is.among.not_ended, can.of.prepared.within))
    (chosen-among job.of.plan job.of.asked.table job.of.tables can.of.chosen part.place is.among)

-- ---- how many they are

count-at : (contents : List Content) (places : List ℕ) → length (parts_of contents places) ≡ length places * length contents
count-at contents [] = omega arith
count-at contents (place ∷ places) =
    length-append (parts_at contents place) (parts_of contents places)
    ∙ ap₂ (λ (a b : ℕ). a + b) (length-map contents (λ (c : Content). record { place = place; content = c })) (count-at contents places)
    ∙ one_more (length contents) (length places)
  where
    one_more : (each count : ℕ) → each + count * each ≡ suc count * each
    one_more each count = grind (arith)

-- between one and three of each table
pub record AreSome (places : ℕ) (parts : ℕ) : Type 0 where
  pub least : places ≤ parts
  pub most : parts ≤ 3 * places

count-told : (told : Told) (plan : Project) (out : Option (List ℕ)) (table : Option ℕ) → AreSome (length (chosen_places plan table)) (length (parts_told told plan out table))
count-told telling.Text plan None table = let count = count-at (content.Snapshot ∷ []) (chosen_places plan table) in record { least = omega (arith, count); most = omega (arith, count) }
count-told telling.Text plan (Some directory) table =
    let count = count-at (content.Snapshot ∷ []) (chosen_places plan table) in record { least = omega (arith, count); most = omega (arith, count) }
count-told telling.Changes plan (Some directory) table =
    let count = count-at (contents_of telling.Changes) (chosen_places plan table) in record { least = omega (arith, count); most = omega (arith, count) }
count-told telling.Changes plan None table =
    let places : List ℕ = chosen_places plan table in
    let first : List Part = parts_of (content.Updated ∷ []) places in
    let second : List Part = parts_of (content.Deleted ∷ []) (reverse places) in
    let third : List Part = parts_of (content.Inserted ∷ []) places in
    let all : length (first ++ second ++ third) ≡ length first + length second + length third = length-append (first ++ second) third ∙ ap (λ (n : ℕ). n + length third) (length-append first second) in
    let one = count-at (content.Updated ∷ []) places in
    let two = count-at (content.Deleted ∷ []) (reverse places) in
    let three = count-at (content.Inserted ∷ []) places in
    let back = length-reverse places in
    record { least = omega (arith, all, one, two, three, back); most = omega (arith, all, one, two, three, back) }

count-places : (job : ScriptJob) → CanState job → length (chosen_places job.of.plan job.of.asked.table) ≡ length job.of.tables.lines
count-places job can =
    sym (ap (λ (places : List ℕ). length places) can.of.chosen) ∙ length-range_with_len job.of.tables.from (length job.of.tables.lines)

pub parts-some : (job : ScriptJob) → CanState job → 0 < length (parts_told (told_by job.changes) job.of.plan job.of.out job.of.asked.table)
parts-some job can =
    omega (arith, (count-told (told_by job.changes) job.of.plan job.of.out job.of.asked.table).least, count-places job can, can.of.prepared.some)

pub parts-few : (job : ScriptJob) → CanState job → length (parts_told (told_by job.changes) job.of.plan job.of.out job.of.asked.table) ≤ 192
parts-few job can =
    omega (arith, (count-told (told_by job.changes) job.of.plan job.of.out job.of.asked.table).most, count-places job can, can.of.prepared.few)

-- the table of a part is the plan's
pub part-there : (job : ScriptJob) → CanState job → (part : Part) → IsPartOf job part → part.place < length job.of.plan.schema.tables
part-there job can part is = omega (arith, is.among.not_ended, can.of.prepared.within)

-- ---- statements and lines

-- ---- files

-- the packages of a part, together
whole-part : (plan : Project) → IsInLimits plan → (job : Job) → IsJobOf plan job → (part : Part) → part.place < length plan.schema.tables →
    whole_text count_of text_numbered (packages_of_part plan job part) ≡ part_statements plan job part
whole-part plan limits job of part there = part-packages plan limits job of part there

module _ (job : ScriptJob) (can : CanState job) (limits : IsInLimits job.of.plan) where
  abbrev packages : Part → Packages
  packages = packages_of_part job.of.plan job.of.asked

  abbrev statements : Part → List ℕ
  statements = part_statements job.of.plan job.of.asked

  wholes : (parts : List Part) → All (IsPartOf job) parts → map (whole_text count_of text_numbered) (map packages parts) ≡ map statements parts
  wholes [] are = refl
  wholes (part ∷ parts) are =
      ap₂ (λ (text : List ℕ) (texts : List (List ℕ)). text ∷ texts)
      (whole-part job.of.plan limits job.of.asked can.of.asked part (part-there job can part (All-head (IsPartOf job) part parts are)))
      (wholes parts (All-tail (IsPartOf job) part parts are))

  -- the files of parts that are those of the job
  due-parts : (parts : List Part) → parts ≡ parts_told (told_by job.changes) job.of.plan job.of.out job.of.asked.table →
      files_of_parts job.of.plan job.of.out job.of.asked parts ≡ statement_files (told_by job.changes) job.of.plan job.of.out job.of.asked
  due-parts parts told = ap (files_of_parts job.of.plan job.of.out job.of.asked) told

  -- all joined on the standard output
  pub files-joined : (parts : List Part) (packers : List Packages) → parts ≡ parts_told (told_by job.changes) job.of.plan job.of.out job.of.asked.table → All (IsPartOf job) parts →
      packers ≡ map packages parts → job.of.out ≡ None →
      text_files (joined_text count_of text_numbered packers) ≡ statement_files (told_by job.changes) job.of.plan job.of.out job.of.asked
  files-joined parts packers told are made none =
      ap text_files (joined-whole count_of text_numbered packers ∙ ap (flat_map (λ (text : List ℕ). text)) (ap (map (whole_text count_of text_numbered)) made ∙ wholes parts are))
      ∙ ap (λ (out : Option (List ℕ)). files_of_parts job.of.plan out job.of.asked parts) (sym none)
      ∙ due-parts parts told

  -- or each in a directory
  pub files-named : (parts : List Part) (packers : List Packages) (directory : List ℕ) → parts ≡ parts_told (told_by job.changes) job.of.plan job.of.out job.of.asked.table →
      All (IsPartOf job) parts → packers ≡ map packages parts → job.of.out ≡ Some directory → (names : List (List ℕ)) →
      names ≡ map (λ part. in_directory directory (file_name Sql job.of.plan.schema job.of.asked.unit part)) parts →
      part_files count_of text_numbered names packers ≡ statement_files (told_by job.changes) job.of.plan job.of.out job.of.asked
  files-named parts packers directory told are made some names named =
      part_files-named count_of text_numbered names packers
      ∙ ap₂ named_files named (ap (map (whole_text count_of text_numbered)) made ∙ wholes parts are)
      ∙ ap (λ (out : Option (List ℕ)). files_of_parts job.of.plan out job.of.asked parts) (sym some)
      ∙ due-parts parts told
