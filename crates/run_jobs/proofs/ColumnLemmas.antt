-- The names of columns: as many as there are columns, and of an accepted schema they begin with a letter.
use Rattle.std.proofs.Common.{◌≡◌, ◌<◌, ℕ, zero, suc, Bool, true, false, ◌&&◌, List, [], ◌∷◌, get_or, length, map, take, Option, None, Some, Result, Ok, Err, ap, arith, refl, subst, sym, ◌∙◌}
use Rattle.std.specs.Prelude.{nat_le, nat_lt, not, slice_get, if◌then◌else◌}
use Rattle.std.specs.Option.{option_map}
use Rattle.std.specs.List.{list_all, list_any}
use Rattle.std.proofs.lemmas.Bool.{and_parts, leb-true}
use Rattle.std.proofs.lemmas.List.{length-map}
use Rattle.csv_face.specs.Csv.{BeginInAscii}
use Rattle.life_intervals.specs.Generator.{table_of}
use Rattle.pd_outside.specs.Files.{File, bytes_of}
use Rattle.plan_stages.specs.Limits.{schema_limit}
use Rattle.plan_stages.specs.Plans.{accepted_with, citations_of, plan_in, plan_of_text, planned, planned_with, unless_refused}
use Rattle.plan_stages.specs.Stages.{in_stage, on_ok}
use Rattle.refusals.specs.declared.refusal.PlanFault.TheVariants as plan_fault
use Rattle.schema_check.proofs.FirstBreak.{none_of_rule}
use Rattle.schema_check.proofs.Kept.{keeps_from_none, none_at}
use Rattle.schema_check.specs.Faults.{refusal_of, told}
use Rattle.schema_check.specs.declared.checker.CheckFault.{CheckFault}
use Rattle.schema_model.specs.declared.column.Column.{Column}
use Rattle.schema_model.specs.declared.table.Schema.{Schema}
use Rattle.schema_model.specs.declared.table.Table.{Table}
use Rattle.schema_facts.specs.Dictionaries.{Project, project_of}
use Rattle.schema_facts.specs.Layout.{TableLayout, no_table, table_layout}
use Rattle.schema_facts.specs.Names.{begins_with_letter, is_letter, is_name, is_name_byte, same_text}
use Rattle.schema_plan.specs.Rules.{IsAccepted, Keeps, broken_rule, column_names, first_broken, rules}
use Rattle.schema_plan.specs.Sites.{columns_at}
use Rattle.schema_plan.specs.declared.broken.Broken.{Broken}
use Rattle.schema_plan.specs.declared.rules.Rule.TheVariants.{Columns}
use Rattle.schema_plan.specs.declared.site.Site.TheVariants.{OfColumn}
use Rattle.schema_read.specs.Schema.{schema_of}
use Rattle.schema_facts.proofs.Lists.{map-map}
use Rattle.request_words.specs.declared.usage.Header.{Header}
use Rattle.update_box.specs.Parts.{parts_at}
use Rattle.update_box.specs.declared.parts.Content.{Content}
use Rattle.run_jobs.specs.CsvFiles.{part_heading}
use Rattle.run_jobs.specs.Formats.{heading_of, names_for}
use Rattle.plan_stages.specs.DictionaryFiles.{with_dictionaries}

-- ---- how many they are

as_many : (f : Table → TableLayout) → ((table : Table) → length (f table).columns ≡ length table.columns) → (tables : List Table) (place : ℕ) → place < length tables →
    length (get_or (map (λ (table : Table). table.columns) tables) place []) ≡ length (get_or (map f tables) place no_table).columns
as_many f same [] place below = absurd (omega (arith, below))
as_many f same (table ∷ tables) zero below = sym (same table)
as_many f same (table ∷ tables) (suc place) below = as_many f same tables place (omega (arith, below))

pub length-column_names : (plan : Project) (place : ℕ) → place < length plan.schema.tables → length (column_names plan.schema place) ≡ length (table_of plan place).columns
length-column_names plan place below =
    length-map (columns_at plan.schema place) (λ (column : Column). column.name)
    ∙ as_many (table_layout plan.dictionaries plan.schema.tables) (λ table. length-map table.columns _) plan.schema.tables place below

columns_got : (tables : List Table) (place : ℕ) (table : Table) → slice_get tables place ≡ Some table → get_or (map (λ (t : Table). t.columns) tables) place [] ≡ table.columns
columns_got [] place table at = absurd (cc)
columns_got (first ∷ tables) zero table at = let same : first ≡ table = cc in ap (λ (t : Table). t.columns) same
columns_got (first ∷ tables) (suc place) table at = columns_got tables place table at

-- the columns of a table that is found
pub columns-found : (schema : Schema) (place : ℕ) (table : Table) → slice_get schema.tables place ≡ Some table → columns_at schema place ≡ table.columns
columns-found schema place table at = columns_got schema.tables place table at

pub one_name : (names : List (List ℕ)) → 0 < length names → length (take 1 names) ≡ 1
one_name [] some = absurd (omega (arith, some))
one_name (name ∷ names) some = refl

-- ---- a plan is of an accepted schema

from_ok : {A B F : Type 0} (answer : Result A F) (next : A → Result B F) (made : B) → on_ok answer next ≡ Ok made → (value : A) × (next value ≡ Ok made)
from_ok (Ok value) next made is = (value, is)
from_ok (Err fault) next made is = absurd (cc)

from_else : {A F : Type 0} (test : Bool) (fault : F) (rest : Result A F) (made : A) → (if test then Err fault else rest) ≡ Ok made → rest ≡ Ok made
from_else true fault rest made is = absurd (cc)
from_else false fault rest made is = is

unrefused : (refusal : Option CheckFault) (project plan : Project) → unless_refused refusal project ≡ Ok plan → (refusal ≡ None) × (project ≡ plan)
unrefused None project plan is = (refl, let same : project ≡ plan = cc is in same)
unrefused (Some fault) project plan is = absurd (cc)

none_broken : (broken : Option Broken) → option_map told broken ≡ None → broken ≡ None
none_broken None is = refl
none_broken (Some broken) is = absurd (cc)

pub accepted : (files : List File) (name : List ℕ) (plan : Project) → plan_in files name ≡ Ok plan → IsAccepted plan
accepted files name plan is =
    let bytes : List ℕ = bytes_of files name in
    let of_text : plan_of_text files bytes ≡ Ok plan = from_else (nat_lt schema_limit (length bytes)) _ (plan_of_text files bytes) plan is in
    let (schema, of_schema) = from_ok (in_stage plan_fault.Schema (schema_of bytes)) (planned files) plan of_text in
    let (cited, of_cited) = from_ok (citations_of schema) (planned_with files schema) plan of_schema in
    let (dictionaries, of_all) = from_ok (in_stage plan_fault.Dictionary (with_dictionaries files [] cited)) (accepted_with schema) plan of_cited in
    let project : Project = project_of schema dictionaries in
    let kept = unrefused (refusal_of project) project plan of_all in
    subst IsAccepted kept.1 (none_broken (first_broken project) kept.0)

-- ---- they begin with a letter

letter_is_ascii : (byte : ℕ) → is_letter byte ≡ true → byte < 128
letter_is_ascii byte is = omega (arith, leb-true byte 122 (and_parts (nat_le 97 byte) (nat_le byte 122) is).1)

letter_first : (name : List ℕ) (names : List (List ℕ)) → begins_with_letter name ≡ true → BeginInAscii (name ∷ names)
letter_first [] names is = absurd (cc)
letter_first (byte ∷ bytes) names is = letter_is_ascii byte is

named_first : (names : List (List ℕ)) → 0 < length names →
    (is_name (get_or names 0 []) && not (list_any (λ other. same_text other (get_or names 0 [])) (take 0 names))) ≡ true → BeginInAscii names
named_first [] some is = absurd (omega (arith, some))
named_first (name ∷ names) some is =
    let named : is_name name ≡ true = (and_parts (is_name name) _ is).0 in
    letter_first name names (and_parts (begins_with_letter name) _ (and_parts (begins_with_letter name && nat_le (length name) 32) (list_all is_name_byte name) named).0).0

keeps_columns : (plan : Project) → IsAccepted plan → Keeps Columns plan
unfolding first_broken
keeps_columns plan is = keeps_from_none Columns plan (none_of_rule plan Columns (none_at (broken_rule plan) rules is 4 Columns refl))

pub names-ascii : (plan : Project) → IsAccepted plan → (place : ℕ) → place < length plan.schema.tables → 0 < length (column_names plan.schema place) → BeginInAscii (column_names plan.schema place)
names-ascii plan is place below some =
    let columns : 0 < length (columns_at plan.schema place) = omega (arith, some, length-map (columns_at plan.schema place) (λ (column : Column). column.name)) in
    named_first (column_names plan.schema place) some (keeps_columns plan is (OfColumn place 0) (below, columns))

-- ---- what files begin with

pub headings-at : (asked : Header) (schema : Schema) (names : List (List ℕ)) (contents : List Content) (place : ℕ) → names ≡ column_names schema place →
    map (λ content. heading_of asked (names_for names content)) contents ≡ map (part_heading asked schema) (parts_at contents place)
headings-at asked schema names contents place are =
    ap (λ (own : List (List ℕ)). map (λ content. heading_of asked (names_for own content)) contents) are
    ∙ sym (map-map (part_heading asked schema) (λ (content : Content). record { place = place; content = content }) contents)
