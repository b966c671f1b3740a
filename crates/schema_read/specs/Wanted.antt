-- The keys that a table of a document is to have, and the first that is wrong.
use Rattle.std.specs.Prelude.{ℕ, suc, List, [], ◌∷◌, Bool, true, false, Option, Some, None, if◌then◌else◌}
use Rattle.std.specs.Option.{option_or}
use Rattle.std.specs.List.{list_all, list_any}
use Rattle.toml.specs.Data.{Data, Members, get_member}
use Rattle.schema_read.specs.declared.schema_key.SchemaKey.{SchemaKey}
use Rattle.schema_read.specs.declared.schema_key.SchemaKey.TheVariants.{Other}
use Rattle.schema_read.specs.declared.fault.Expected.{Expected}
use Rattle.schema_read.specs.declared.fault.Expected.TheVariants.{NoSuchKey}
use Rattle.schema_read.specs.declared.fault.Place.{Place}
use Rattle.schema_read.specs.declared.fault.Wrong.{Wrong}
use Rattle.schema_read.specs.declared.wanted.Wanted.{Wanted}
use Rattle.schema_read.specs.declared.wanted.Wanted.TheVariants.{Required, Optional}
use Rattle.schema_read.specs.Document.{member_names, same_bytes}
use Rattle.schema_read.specs.Keys.{key_name}
use Rattle.schema_read.specs.Types.{fits}

abbrev pub wanted_key : Wanted → SchemaKey
wanted_key (Required k e) = k
wanted_key (Optional k e) = k

abbrev pub expected_of : Wanted → Expected
expected_of (Required k e) = e
expected_of (Optional k e) = e

abbrev pub may_be_missing : Wanted → Bool
may_be_missing (Required k e) = false
may_be_missing (Optional k e) = true

-- that the key is wrong, told at its place
abbrev pub wrong_at : Place → SchemaKey → Expected → Wrong
wrong_at p k e = record { place = p; key = k; expected = e }

-- whether what stands under a wanted key will do: it is of the type, or it is missing and may be
abbrev pub is_right : Wanted → Option Data → Bool
is_right w None = may_be_missing w
is_right w (Some d) = fits (expected_of w) d

-- whether a wanted key of a table is right
abbrev pub is_right_in : Members → Wanted → Bool
is_right_in ms w = is_right w (get_member (key_name (wanted_key w)) ms)

-- the wanted key, where it is wrong: required and missing, or of another type
abbrev pub wrong_key : Place → Wanted → Members → Option Wrong
wrong_key p w ms = if is_right_in ms w then None else Some (wrong_at p (wanted_key w) (expected_of w))

-- the first wanted key that is wrong
abbrev pub first_of : Place → List Wanted → Members → Option Wrong
first_of p [] ms = None
first_of p (w ∷ ws) ms = option_or (wrong_key p w ms) (first_of p ws ms)

-- a key of a table is one of those that are wanted
abbrev pub is_wanted : List Wanted → List ℕ → Bool
is_wanted ws name = list_any (λ w. same_bytes (key_name (wanted_key w)) name) ws

-- a further key, where the table has one beside these
abbrev pub further_key : Place → List Wanted → Members → Option Wrong
further_key p ws ms = if list_all (is_wanted ws) (member_names ms) then None else Some (wrong_at p Other NoSuchKey)

-- the first wrong key of a table that is to have these keys and no others
abbrev pub first_wrong : Place → List Wanted → Members → Option Wrong
first_wrong p ws ms = option_or (first_of p ws ms) (further_key p ws ms)

-- the first wrong key among tables, which are counted from n
abbrev pub each_from : (ℕ → Members → Option Wrong) → ℕ → List Members → Option Wrong
each_from wrong n [] = None
each_from wrong n (ms ∷ mss) = option_or (wrong n ms) (each_from wrong (suc n) mss)
