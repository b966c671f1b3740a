-- The files of a detail table's lines: their names, their texts, and the packers of these.
use Rattle.std.proofs.Common.{◌≡◌, ◌<◌, ◌≤◌, ◌+◌, ◌^◌, ℕ, Bool, false, true, List, [], ◌∷◌, ◌++◌, get_or, length, map, Option, None, Some, refl, ap, arith, subst, sym, ◌∙◌}
use Rattle.std.specs.Prelude.{◌==◌, ◌||◌, All, IfSome, flat_map, nat_lt}
use Rattle.std.specs.List.{sum_by}
use Rattle.std.specs.Option.{option_map}
use Rattle.std.proofs.lemmas.Bool.{eq-eqb, ltb-false}
use Rattle.std.proofs.lemmas.List.{length-map, map-append}
use Rattle.std.proofs.lemmas.List.Folds.{flat_map-map}
use Rattle.pd_outside.specs.Files.{File}
use Rattle.cohort_sizes.specs.Births.{born_count}
use Rattle.schema_facts.specs.Dictionaries.{Project}
use Rattle.schema_plan.specs.Limits.{IsInLimits}
use Rattle.life_intervals.specs.Generator.{generator_of, last_unit, table_of}
use Rattle.life_intervals.specs.Streams.{deleted, updated}
use Rattle.life_intervals.proofs.CohortParentLemmas.{row_limit}
use Rattle.update_box.specs.TableLists.{HasLists, HoldLists, table_lists_at}
use Rattle.update_box.specs.UnitLists.{TableLists, UnitLists, ordinals}
use Rattle.update_box.specs.declared.parts.Content.{Content}
use Rattle.update_box.specs.declared.parts.Content.TheVariants as content
use Rattle.update_box.proofs.CutLemmas.{package_count-least}
use Rattle.update_box.proofs.EntryLemmas.{content_count-few, listed-count}
use Rattle.update_box.proofs.StreamTextLemmas.{deleted-born, updated-born}
use Rattle.detail_plan.specs.Kept.{Kept, KeepsRules}
use Rattle.detail_lines.specs.Lines.{detail_deleted_text, detail_inserted_text, detail_text, detail_updated_text, parent_place}
use Rattle.detail_lines.specs.Rows.{born_by}
use Rattle.detail_rows.specs.Packages.{Packages, count_of, range_text, rows_in, size_born, text_numbered}
use Rattle.detail_rows.specs.declared.packer.PackedRows.{PackedRows}
use Rattle.detail_rows.specs.declared.packer.PackedRows.TheVariants as rows
use Rattle.detail_lines.proofs.DeclaredLemmas.{parent-below}
use Rattle.fill_jobs.proofs.DetailTextLemmas.{all-text, born-text, keys-whole, lines-whole, packages-whole}
use Rattle.run_jobs.specs.DueFiles.{contents_of, text_files}
use Rattle.run_jobs.specs.Formats.{named_files}
use Rattle.run_jobs.specs.Joined.{joined_text, part_files, whole_text}
use Rattle.run_jobs.specs.declared.job.Told.{Told}
use Rattle.run_jobs.specs.declared.job.Told.TheVariants.{Changes, Text}
use Rattle.run_jobs.specs.modes.Details.{files_by, is_refused, told_texts}
use Rattle.run_jobs.proofs.JoinedLemmas.{sum_by-push}

-- ---- files and texts

-- a file for each packer has its whole text
pub part_files-named : {P : Type 0} (count : P → ℕ) (text : P → ℕ → List ℕ) (names : List (List ℕ)) (parts : List P) →
    part_files count text names parts ≡ named_files names (map (whole_text count text) parts)
part_files-named count text [] parts = refl
part_files-named count text (name ∷ names) [] = refl
part_files-named count text (name ∷ names) (part ∷ parts) =
    ap (λ (files : List File). record { name = name; bytes = whole_text count text part } ∷ files) (part_files-named count text names parts)

pub joined-whole : {P : Type 0} (count : P → ℕ) (text : P → ℕ → List ℕ) (parts : List P) → joined_text count text parts ≡ flat_map (λ t. t) (map (whole_text count text) parts)
joined-whole count text parts = sym (flat_map-map (λ t. t) (whole_text count text) parts)

-- the files of packers, by their texts: one on the standard output, or one of each name
pub one-file : (files : List File) (names : Option (List (List ℕ))) (parts : List Packages) (told : List (List ℕ)) → names ≡ None → map (whole_text count_of text_numbered) parts ≡ told →
    files ≡ text_files (joined_text count_of text_numbered parts) → files ≡ files_by names told
one-file files names parts told none texts are =
    are ∙ ap text_files (joined-whole count_of text_numbered parts ∙ ap (flat_map (λ t. t)) texts) ∙ ap (λ (n : Option (List (List ℕ))). files_by n told) (sym none)

pub files-each : (files : List File) (names : Option (List (List ℕ))) (list : List (List ℕ)) (parts : List Packages) (told : List (List ℕ)) → names ≡ Some list →
    map (whole_text count_of text_numbered) parts ≡ told → files ≡ part_files count_of text_numbered list parts → files ≡ files_by names told
files-each files names list parts told some texts are =
    are ∙ part_files-named count_of text_numbered list parts ∙ ap (named_files list) texts ∙ ap (λ (n : Option (List (List ℕ))). files_by n told) (sym some)

-- there is a packer for each name
length-told : (told : Told) (plan : Project) (kept : Kept) (unit : ℕ) → length (told_texts told plan kept unit) ≡ length (contents_of told)
length-told Text plan kept unit = refl
length-told Changes plan kept unit = refl

pub names-alike : (names : Option (List (List ℕ))) (list : List (List ℕ)) (told : Told) (plan : Project) (kept : Kept) (unit : ℕ) (parts : List Packages) → names ≡ Some list →
    IfSome names (λ (all : List (List ℕ)). length all ≡ length (contents_of told)) → map (whole_text count_of text_numbered) parts ≡ told_texts told plan kept unit →
    length list ≡ length parts
names-alike names list told plan kept unit parts some named texts =
    let each : length list ≡ length (contents_of told) = subst (λ (n : Option (List (List ℕ))). IfSome n (λ (all : List (List ℕ)). length all ≡ length (contents_of told))) some named in
    each ∙ sym (length-told told plan kept unit) ∙ sym (ap length texts) ∙ length-map parts (whole_text count_of text_numbered)

-- ---- one more packer

-- with the packages of some rows, of so many rows each
module _ (plan : Project) (kept : Kept) (told : PackedRows) (size : ℕ) (some : 1 ≤ size) where
  abbrev packages : Packages
  packages = record { plan = plan; kept = kept; rows = told; size = size }

  -- as they are made over the plan of the rows
  pub packer-is : (made : Packages) (of : Project) → of ≡ plan → made ≡ record { plan = of; kept = kept; rows = told; size = size } → made ≡ packages
  packer-is made of same is = is ∙ ap (λ (p : Project). record { plan = p; kept = kept; rows = told; size = size }) same

  few : count_of packages ≤ rows_in plan kept told
  few = package_count-least (rows_in plan kept told) size some

  pub room-push : (old : List Packages) (packer : Packages) → packer ≡ packages → sum_by count_of old + rows_in plan kept told ≤ 2 ^ 60 → sum_by count_of old + count_of packer ≤ 2 ^ 60
  room-push old packer is roomy = omega (arith, roomy, few, ap count_of is)

  pub texts-push : (old now : List Packages) (packer : Packages) → packer ≡ packages → now ≡ old ++ packer ∷ [] →
      map (whole_text count_of text_numbered) now ≡ map (whole_text count_of text_numbered) old ++ range_text plan kept told 0 (rows_in plan kept told) ∷ []
  texts-push old now packer is pushed =
      ap (map (whole_text count_of text_numbered)) (pushed ∙ ap (λ (p : Packages). old ++ p ∷ []) is)
      ∙ map-append (whole_text count_of text_numbered) old (packages ∷ [])
      ∙ ap (λ (text : List ℕ). map (whole_text count_of text_numbered) old ++ text ∷ []) (packages-whole packages some)

  pub count-push : (old now : List Packages) (packer : Packages) → packer ≡ packages → now ≡ old ++ packer ∷ [] → sum_by count_of now ≤ sum_by count_of old + rows_in plan kept told
  count-push old now packer is pushed = omega (arith, sum_by-push count_of old now packer pushed, few, ap count_of is)

-- ---- the rows of the parent

-- the lists of the parent are there
pub parent-lists : (plan : Project) (kept : Kept) → KeepsRules plan kept → (unit : ℕ) (lists : UnitLists) → HoldLists plan unit (Some (parent_place plan kept.detail)) lists →
    HasLists plan unit lists (parent_place plan kept.detail)
parent-lists plan kept keeps unit lists held = held.each (parent_place plan kept.detail) (parent-below plan kept keeps) (eq-eqb (parent_place plan kept.detail) (parent_place plan kept.detail) refl)

module _ (plan : Project) (limits : IsInLimits plan) (kept : Kept) (keeps : KeepsRules plan kept) (unit : ℕ) (within : unit ≤ last_unit plan) where
  abbrev place : ℕ
  place = parent_place plan kept.detail

  below : place < length plan.schema.tables
  below = parent-below plan kept keeps

  most : born_count (table_of plan place).births (last_unit plan) ≤ 2 ^ 40
  most = row_limit plan limits place below

  pub born-few : born_by plan kept unit ≤ 2 ^ 40
  born-few = omega (arith, content_count-few plan limits place below unit within content.Snapshot, most)

  pub size-few : size_born plan kept unit ≤ 2 ^ 40
  size-few = omega (arith, content_count-few plan limits place below unit within content.Inserted, most)

  -- the one text
  pub text-told : (old now : List Packages) → old ≡ [] →
      map (whole_text count_of text_numbered) now ≡ map (whole_text count_of text_numbered) old ++ range_text plan kept (rows.All unit) 0 (rows_in plan kept (rows.All unit)) ∷ [] →
      map (whole_text count_of text_numbered) now ≡ detail_text plan kept unit ∷ []
  text-told old now none pushed =
      pushed
      ∙ ap (λ (ps : List Packages). map (whole_text count_of text_numbered) ps ++ range_text plan kept (rows.All unit) 0 (rows_in plan kept (rows.All unit)) ∷ []) none
      ∙ ap (λ (text : List ℕ). text ∷ []) (all-text plan limits kept below unit within)

  module _ (lists : UnitLists) (held : HoldLists plan unit (Some place) lists) where
    has : HasLists plan unit lists place
    has = parent-lists plan kept keeps unit lists held

    pub deleted-are : (xs : List ℕ) → xs ≡ (table_lists_at lists place).deleted → xs ≡ ordinals (deleted (generator_of plan) place unit)
    deleted-are xs are = are ∙ ap (λ (l : TableLists). l.deleted) has.are

    pub updated-are : (xs : List ℕ) → xs ≡ (table_lists_at lists place).updated → xs ≡ ordinals (updated (generator_of plan) place unit)
    updated-are xs are = are ∙ ap (λ (l : TableLists). l.updated) has.are

    pub deleted-few : (xs : List ℕ) → xs ≡ (table_lists_at lists place).deleted → length xs ≤ 2 ^ 40
    deleted-few xs are =
        omega (arith, listed-count (deleted (generator_of plan) place unit) xs (deleted-are xs are), content_count-few plan limits place below unit within content.Deleted, most)

    pub updated-few : (xs : List ℕ) → xs ≡ (table_lists_at lists place).updated → length xs ≤ 2 ^ 40
    updated-few xs are =
        omega (arith, listed-count (updated (generator_of plan) place unit) xs (updated-are xs are), content_count-few plan limits place below unit within content.Updated, most)

    pub deleted-told : (xs : List ℕ) → xs ≡ (table_lists_at lists place).deleted → (i : ℕ) → i < length xs → get_or xs i 0 < born_by plan kept (last_unit plan)
    deleted-told xs are =
        λ i inside. subst (λ (js : List ℕ). All (λ j. j < born_by plan kept (last_unit plan)) js) (sym (deleted-are xs are)) (deleted-born plan limits place below unit within) i 0 inside

    pub updated-told : (xs : List ℕ) → xs ≡ (table_lists_at lists place).updated → (i : ℕ) → i < length xs → get_or xs i 0 < born_by plan kept unit
    updated-told xs are =
        λ i inside. subst (λ (js : List ℕ). All (λ j. j < born_by plan kept unit) js) (sym (updated-are xs are)) (updated-born plan limits place below unit within) i 0 inside

    -- the three texts
    pub changes-told : (gone changed : PackedRows) (xs ys : _) (p0 p1 p2 p3 : List Packages) → gone ≡ rows.Keys xs → changed ≡ rows.Lines ys unit →
        xs.now ≡ (table_lists_at lists place).deleted → ys.now ≡ (table_lists_at lists place).updated → p0 ≡ [] →
        map (whole_text count_of text_numbered) p1 ≡ map (whole_text count_of text_numbered) p0 ++ range_text plan kept gone 0 (rows_in plan kept gone) ∷ [] →
        map (whole_text count_of text_numbered) p2 ≡ map (whole_text count_of text_numbered) p1 ++ range_text plan kept changed 0 (rows_in plan kept changed) ∷ [] →
        map (whole_text count_of text_numbered) p3 ≡ map (whole_text count_of text_numbered) p2 ++ range_text plan kept (rows.Born unit) 0 (rows_in plan kept (rows.Born unit)) ∷ [] →
        map (whole_text count_of text_numbered) p3 ≡ detail_deleted_text plan kept unit ∷ detail_updated_text plan kept unit ∷ detail_inserted_text plan kept unit ∷ []
    changes-told gone changed xs ys p0 p1 p2 p3 gone_is changed_is are also none first second third =
        let one : map (whole_text count_of text_numbered) p1 ≡ detail_deleted_text plan kept unit ∷ [] =
        first
        ∙ ap (λ (ps : List Packages). map (whole_text count_of text_numbered) ps ++ range_text plan kept gone 0 (rows_in plan kept gone) ∷ []) none
        ∙ ap (λ (text : List ℕ). text ∷ []) (keys-whole plan limits kept below gone xs gone_is unit within (deleted-are xs.now are)) in
        let two : map (whole_text count_of text_numbered) p2 ≡ detail_deleted_text plan kept unit ∷ detail_updated_text plan kept unit ∷ [] =
        second
        ∙ ap (λ (front : List (List ℕ)). front ++ range_text plan kept changed 0 (rows_in plan kept changed) ∷ []) one
        ∙ ap (λ (text : List ℕ). detail_deleted_text plan kept unit ∷ text ∷ []) (lines-whole plan limits kept below changed ys unit changed_is within (updated-are ys.now also)) in
        third
        ∙ ap (λ (front : List (List ℕ)). front ++ range_text plan kept (rows.Born unit) 0 (rows_in plan kept (rows.Born unit)) ∷ []) two
        ∙ ap (λ (text : List ℕ). detail_deleted_text plan kept unit ∷ detail_updated_text plan kept unit ∷ text ∷ []) (born-text plan limits kept below unit within)

-- ---- what is asked

or-right : (a b : Bool) → (a || b) ≡ false → b ≡ false
or-right true b none = cc
or-right false b none = none

pub unit-within : (told : Told) (plan : Project) (unit : ℕ) → is_refused told plan unit ≡ false → unit ≤ last_unit plan
unit-within Text plan unit fits = ltb-false (last_unit plan) unit fits
unit-within Changes plan unit fits = ltb-false (last_unit plan) unit (or-right (unit == 0) (nat_lt (last_unit plan) unit) fits)

-- there is a name for each file
pub named-alike : (out : Option (List ℕ)) (name : List ℕ → Content → List ℕ) (told now : Told) (names : Option (List (List ℕ))) → names ≡ option_map (λ directory. map (name directory) (contents_of told)) out →
    now ≡ told → IfSome names (λ (all : List (List ℕ)). length all ≡ length (contents_of now))
named-alike None name told now names are same = subst (λ (n : Option (List (List ℕ))). IfSome n (λ (all : List (List ℕ)). length all ≡ length (contents_of now))) (sym are) tt
named-alike (Some directory) name told now names are same =
    subst (λ (n : Option (List (List ℕ))). IfSome n (λ (all : List (List ℕ)). length all ≡ length (contents_of now))) (sym are)
    (length-map (contents_of told) (name directory) ∙ ap (λ (t : Told). length (contents_of t)) (sym same))
