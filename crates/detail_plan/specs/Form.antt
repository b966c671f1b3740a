-- The document that declares a detail table: which keys stand where, of which types, and what they declare.
use Rattle.std.specs.Prelude.{pos, List, [], ◌∷◌, false, Option, Some, None, if◌then◌else◌, option_and_then, option_map}
use Rattle.toml.specs.Data.{Data, Members, as_str, as_table}
use Rattle.schema_read.specs.declared.fault.Expected.TheVariants.{Whole, TextValue, TableList}
use Rattle.schema_read.specs.declared.schema_key.SchemaKey.TheVariants as key
use Rattle.schema_read.specs.declared.wanted.Wanted.{Wanted}
use Rattle.schema_read.specs.declared.wanted.Wanted.TheVariants.{Required}
use Rattle.schema_read.specs.Shape.{are_right, leaf_given}
use Rattle.schema_read.specs.Types.{as_list_of}
use Rattle.schema_read.specs.Values.{flag_or, text, text_list, value_under, whole, whole_or}
use Rattle.detail_plan.specs.declared.detail.Detail.{Detail}
use Rattle.detail_plan.specs.declared.detail.DetailColumn.{DetailColumn}
use Rattle.detail_plan.specs.declared.detail.DetailKind.{DetailKind}
use Rattle.detail_plan.specs.declared.detail.DetailKind.TheVariants as kind
use Rattle.detail_plan.specs.declared.kind_name.DetailKindName.{DetailKindName}
use Rattle.detail_plan.specs.declared.kind_name.DetailKindName.TheVariants.{Leaf, Parent, After, Sum, Product}
use Rattle.detail_plan.specs.Kinds.{column_keys, kind_named}

-- ---- a column

-- the kind that a table names
abbrev pub kind_under : Members → Option DetailKindName
kind_under ms = option_and_then kind_named (value_under as_str key.Kind ms)

-- what a column of a kind holds
abbrev pub kind_given : DetailKindName → Members → DetailKind
kind_given (Leaf leaf) ms = kind.Leaf (leaf_given leaf ms)
kind_given Parent ms = kind.Parent (text key.Column ms)
kind_given After ms = kind.After (text key.Of ms) (whole key.Lo ms) (whole key.Hi ms)
kind_given Sum ms = kind.Sum (text_list key.Of ms)
kind_given Product ms = kind.Product (text_list key.Of ms)

abbrev pub column_of : DetailKindName → Members → DetailColumn
column_of kind ms =
    record { name = text key.Name ms; kind = kind_given kind ms; changes = flag_or false key.Changes ms; null = whole_or (pos 0) key.Null ms }

-- the column of a kind, where each key is right
abbrev pub column_of_kind : Members → DetailKindName → Option DetailColumn
column_of_kind ms kind = if are_right (column_keys kind) ms then Some (column_of kind ms) else None

-- the column that a table declares; None where it has a wrong key
abbrev pub column_given : Members → Option DetailColumn
column_given ms = option_and_then (column_of_kind ms) (kind_under ms)

abbrev pub as_column : Data → Option DetailColumn
as_column value = option_and_then column_given (as_table value)

-- ---- the document

abbrev pub top_keys : List Wanted
top_keys =
    Required key.Seed Whole
    ∷ Required key.Lo Whole
    ∷ Required key.Hi Whole
    ∷ Required key.Name TextValue
    ∷ Required key.Parent TextValue
    ∷ Required key.Column TableList
    ∷ []

abbrev pub columns_under : Members → Option (List DetailColumn)
columns_under ms = value_under (as_list_of as_column) key.Column ms

abbrev pub detail_of : Members → List DetailColumn → Detail
detail_of ms columns =
    record {
      seed = whole key.Seed ms;
      lo = whole key.Lo ms;
      hi = whole key.Hi ms;
      name = text key.Name ms;
      parent = text key.Parent ms;
      columns = columns;
    }

-- the detail table that a document declares; None where it has a wrong key: one is missing, of another type, or has no place there
abbrev pub detail_given : Members → Option Detail
detail_given ms = if are_right top_keys ms then option_map (detail_of ms) (columns_under ms) else None
