-- What reading a document finds, beside what it says of its lists.
use Rattle.std.proofs.Common.{◌≡◌, not, List, [], ◌∷◌, map, Option, Some, None, option_map, unwrap_or, find, refl, ap, ◌∙◌, inl, inr}
use Rattle.std.specs.Option.{option_and_then}
use Rattle.std.proofs.lemmas.Bool.{cases_Bool}
use Rattle.toml.specs.Data.{Data, Items, Members, get_member, as_array, as_table}
use Rattle.schema_read.specs.declared.fault.Place.{Place}
use Rattle.schema_read.specs.declared.schema_key.SchemaKey.{SchemaKey}
use Rattle.schema_read.specs.declared.wanted.Wanted.{Wanted}
use Rattle.schema_read.specs.Document.{elements}
use Rattle.schema_read.specs.Keys.{key_name}
use Rattle.schema_read.specs.Types.{all_read, as_list_of}
use Rattle.schema_read.specs.Values.{value_or, tables}
use Rattle.schema_read.specs.Wanted.{wanted_key, expected_of, wrong_at, is_right_in, first_of}

-- the first wanted key that is wrong is told of the first that a test finds
pub first_of-find : (p : Place) (ws : List Wanted) (ms : Members) → first_of p ws ms ≡ option_map (λ w. wrong_at p (wanted_key w) (expected_of w)) (find (λ w. not (is_right_in ms w)) ws)
first_of-find p [] ms = refl
first_of-find p (w ∷ ws) ms =
    elim (cases_Bool (is_right_in ms w)) [
      | inl right ↦ rw (right, first_of-find p ws ms) refl
      | inr wrong ↦ rw wrong refl
    ]

joined-map : {A : Type 0} (f : Members → A) (o : Option Members) (p : Option (List Members))
    → option_and_then (λ x. option_map (λ xs. x ∷ xs) (option_map (map f) p)) (option_map f o) ≡ option_map (map f) (option_and_then (λ x. option_map (λ xs. x ∷ xs) p) o)
joined-map f None p = refl
joined-map f (Some x) None = refl
joined-map f (Some x) (Some xs) = refl

-- tables, each read as what its members give
all_read-tables : {A : Type 0} (f : Members → A) (ds : List Data) → all_read (λ d. option_map f (as_table d)) ds ≡ option_map (map f) (all_read as_table ds)
all_read-tables f [] = refl
all_read-tables f (d ∷ ds) = rw (all_read-tables f ds) (joined-map f (as_table d) (all_read as_table ds))

unwrap_or-map : {A : Type 0} (f : Members → A) (o : Option (List Members)) → unwrap_or (option_map (map f) o) [] ≡ map f (unwrap_or o [])
unwrap_or-map f None = refl
unwrap_or-map f (Some mss) = refl

items-tables : {A : Type 0} (f : Members → A) (o : Option Items)
    → unwrap_or (option_and_then (λ ds. all_read (λ d. option_map f (as_table d)) (elements ds)) o) [] ≡ map f (unwrap_or (option_and_then (λ ds. all_read as_table (elements ds)) o) [])
items-tables f None = refl
items-tables f (Some ds) = ap (λ (o : _). unwrap_or o []) (all_read-tables f (elements ds)) ∙ unwrap_or-map f (all_read as_table (elements ds))

data-tables : {A : Type 0} (f : Members → A) (o : Option Data)
    → unwrap_or (option_and_then (as_list_of (λ d. option_map f (as_table d))) o) [] ≡ map f (unwrap_or (option_and_then (as_list_of as_table) o) [])
data-tables f None = refl
data-tables f (Some d) = items-tables f (as_array d)

-- the tables under a key, each read as what its members give
pub value_or-tables : {A : Type 0} (f : Members → A) (k : SchemaKey) (ms : Members) → value_or (as_list_of (λ d. option_map f (as_table d))) [] k ms ≡ map f (tables k ms)
value_or-tables f k ms = data-tables f (get_member (key_name k) ms)
