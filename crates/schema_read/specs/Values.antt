-- What stands under a key, as a value of a type. A key that is missing, or of another type, gives the default.
use Rattle.std.specs.Prelude.{ℕ, ℤ, pos, List, [], Bool, Option, option_and_then, unwrap_or}
use Rattle.toml.specs.Data.{Data, Members, get_member, as_integer, as_str, as_bool, as_table}
use Rattle.schema_read.specs.declared.schema_key.SchemaKey.{SchemaKey}
use Rattle.schema_read.specs.Keys.{key_name}
use Rattle.schema_read.specs.Types.{as_list_of}

-- the value under a key, where there is one of the type
abbrev pub value_under : {A : Type 0} → (Data → Option A) → SchemaKey → Members → Option A
value_under read k ms = option_and_then read (get_member (key_name k) ms)

abbrev pub value_or : {A : Type 0} → (Data → Option A) → A → SchemaKey → Members → A
value_or read default k ms = unwrap_or (value_under read k ms) default

abbrev pub whole_or : ℤ → SchemaKey → Members → ℤ
whole_or = value_or as_integer

abbrev pub whole : SchemaKey → Members → ℤ
whole = whole_or (pos 0)

abbrev pub text : SchemaKey → Members → List ℕ
text = value_or as_str []

abbrev pub flag_or : Bool → SchemaKey → Members → Bool
flag_or = value_or as_bool

abbrev pub tables : SchemaKey → Members → List Members
tables = value_or (as_list_of as_table) []

abbrev pub text_list : SchemaKey → Members → List (List ℕ)
text_list = value_or (as_list_of as_str) []
