-- The document that bytes are, and its parts as plain lists; of a value of the reader, the data that it stands for.
use Rattle.std.specs.Prelude.{ℕ, Bool, List, [], ◌∷◌, Option, None, ◌==◌, map, if◌then◌else◌}
use Rattle.std.specs.Cmp.Lexicographic.{pointwise}
use Rattle.std.specs.Str.{is_utf8}
use Rattle.toml.specs.Data.{Data, Items, no_items, item, Members, no_members, member, table}
use Rattle.toml.specs.View.{view}
use Rattle.toml.specs.declared.value.Value.{Value}
use Rattle.toml.specs.Parse.{parse_document}

-- the TOML document that the bytes are
abbrev pub document : List ℕ → Option Members
document bytes = if is_utf8 bytes then parse_document bytes else None

-- the elements of an array, in order
abbrev pub elements : Items → List Data
elements no_items = []
elements (item d ds) = d ∷ elements ds

-- the keys of a table
abbrev pub member_names : Members → List (List ℕ)
member_names no_members = []
member_names (member k d ms) = k ∷ member_names ms

-- the two texts have the same bytes
abbrev pub same_bytes : List ℕ → List ℕ → Bool
same_bytes = pointwise ◌==◌

-- what a table holds; nothing, where the value is no table
abbrev pub members_of : Data → Members
members_of (table ms) = ms
members_of _ = no_members

-- the members of a value of the reader
abbrev pub members_of_value : Value → Members
members_of_value v = members_of (view v)

abbrev pub members_of_values : List Value → List Members
members_of_values vs = map members_of_value vs
