-- A value of the reader beside the data that it stands for, as plain lists.
use Rattle.std.proofs.Common.{◌≡◌, ℕ, Bool, ◌&&◌, is_some, false, true, List, [], ◌∷◌, map, Option, Some, None, option_map, String, Global, string_bytes, refl, ap, sym, ◌∙◌, inl, inr}
use Rattle.std.specs.List.{list_all}
use Rattle.std.specs.Map.{keys_of as map_keys}
use Rattle.std.specs.Option.{option_and_then}
use Rattle.std.specs.Str.{IsUtf8, is_utf8}
use Rattle.std.proofs.lemmas.Bool.{cases_Bool, and_parts}
use Rattle.std.proofs.lemmas.Str.{is_utf8-from_IsUtf8, IsUtf8-from_is_utf8}
use Rattle.toml.specs.Parse.{parse_document}
use Rattle.std.proofs.lemmas.Option.{same_Some}
use Rattle.std.proofs.lemmas.List.Folds.{list_all-map}
use Rattle.toml.specs.Data.{Data, Items, Members, no_members, table, as_array, as_table}
use Rattle.toml.specs.View.{view, items_of, items_view, members_view}
use Rattle.toml.specs.declared.value.Value.{Value}
use Rattle.schema_read.specs.Document.{document, elements, member_names, members_of, members_of_value, members_of_values}
use Rattle.schema_read.specs.Types.{all_read, as_list_of}

pub elements-items_of : (ds : List Data) → elements (items_of ds) ≡ ds
elements-items_of [] = refl
elements-items_of (d ∷ ds) = ap (λ xs. d ∷ xs) (elements-items_of ds)

-- a test of all keys of a table, on the entries of the map that it is
pub list_all-member_names : (p : List ℕ → Bool) (es : List (String Global × Value)) → list_all p (member_names (members_view es)) ≡ list_all (λ k. p (string_bytes k)) (map_keys es)
list_all-member_names p [] = refl
list_all-member_names p (e ∷ es) = rw (list_all-member_names p es)

-- the elements of an array that was found
pub elements-view : (vs : List Value) (d : Data) → Some (items_view vs) ≡ as_array d → Some (map view vs) ≡ option_map elements (as_array d)
elements-view vs d found = ap Some (sym (elements-items_of (map view vs))) ∙ ap (option_map elements) found

first_read : {A : Type 0} {b : Bool} (o : Option A) (p : Option (List A)) → is_some p ≡ b → is_some (option_and_then (λ x. option_map (λ xs. x ∷ xs) p) o) ≡ (is_some o && b)
first_read None p e = refl
first_read (Some x) None e = e
first_read (Some x) (Some xs) e = e

is_some-all_read : {A : Type 0} (read : Data → Option A) (ds : List Data) → is_some (all_read read ds) ≡ list_all (λ d. is_some (read d)) ds
is_some-all_read read [] = refl
is_some-all_read read (d ∷ ds) = first_read (read d) (all_read read ds) (is_some-all_read read ds)

found_list : {A : Type 0} (read : Data → Option A) (xs : List Data) (o : Option Items) → Some xs ≡ option_map elements o → option_and_then (λ ds. all_read read (elements ds)) o ≡ all_read read xs
found_list read xs None found = absurd cc
found_list read xs (Some ds) found = ap (all_read read) (same_Some (elements ds) xs (sym found))

-- an array that was found, each element read
pub as_list_of-found : {A : Type 0} (read : Data → Option A) (vs : List Value) (d : Data) → Some (map view vs) ≡ option_map elements (as_array d) → as_list_of read d ≡ all_read read (map view vs)
as_list_of-found read vs d found = found_list read (map view vs) (as_array d) found

-- whether each element of an array that was found can be read
pub are_all_read : {A : Type 0} (read : Data → Option A) (vs : List Value) (d : Data) → Some (map view vs) ≡ option_map elements (as_array d) → is_some (as_list_of read d) ≡ list_all (λ v. is_some (read (view v))) vs
are_all_read read vs d found = ap is_some (as_list_of-found read vs d found) ∙ is_some-all_read read (map view vs) ∙ list_all-map (λ d. is_some (read d)) view vs

table_there : (d : Data) → is_some (as_table d) ≡ true → as_table d ≡ Some (members_of d)
table_there (table ms) there = refl
table_there _ there = absurd cc

tables_read : (vs : List Value) → list_all (λ v. is_some (as_table (view v))) vs ≡ true → Some (members_of_values vs) ≡ all_read as_table (map view vs)
tables_read [] all = refl
tables_read (v ∷ vs) all =
    let (first, others) = and_parts (is_some (as_table (view v))) (list_all (λ v. is_some (as_table (view v))) vs) all in
    rw (table_there (view v) first, ← tables_read vs others) refl

-- the tables of an array that was found, if its elements are all tables
pub tables-view : (vs : List Value) (d : Data) → Some (map view vs) ≡ option_map elements (as_array d) → list_all (λ v. is_some (as_table (view v))) vs ≡ true → Some (members_of_values vs) ≡ as_list_of as_table d
tables-view vs d found all = tables_read vs all ∙ sym (as_list_of-found as_table vs d found)

none_there : {A : Type 0} (o : Option A) → is_some o ≡ false → None ≡ o
none_there None e = refl
none_there (Some x) e = absurd cc

pub no_tables-view : (vs : List Value) (d : Data) → Some (map view vs) ≡ option_map elements (as_array d) → list_all (λ v. is_some (as_table (view v))) vs ≡ false → None ≡ as_list_of as_table d
no_tables-view vs d found not_all =
    none_there _ (are_all_read as_table vs d found ∙ not_all)

members_of-is : (d : Data) (ms : Members) → Some ms ≡ as_table d → members_of d ≡ ms
members_of-is (table ns) ms found = sym (same_Some ms ns found)
members_of-is _ ms found = absurd cc

-- what a value holds that was found to be a table
pub members_of_value-is : (v : Value) (ms : Members) → Some ms ≡ as_table (view v) → members_of_value v ≡ ms
members_of_value-is v ms found = members_of-is (view v) ms found

no_members-there : (d : Data) → None ≡ as_table d → members_of d ≡ no_members
no_members-there (table ns) found = absurd cc
no_members-there _ found = refl

pub members_of_value-none : (v : Value) → None ≡ as_table (view v) → members_of_value v ≡ no_members
members_of_value-none v found = no_members-there (view v) found

pub document-text : (bytes : List ℕ) → IsUtf8 bytes → document bytes ≡ parse_document bytes
document-text bytes valid = rw (is_utf8-from_IsUtf8 bytes valid)

pub document-no_text : (bytes : List ℕ) → ¬ IsUtf8 bytes → document bytes ≡ None
document-no_text bytes broken =
    elim (cases_Bool (is_utf8 bytes)) [
      | inl valid ↦ absurd (broken (IsUtf8-from_is_utf8 bytes valid))
      | inr invalid ↦ rw invalid
    ]
