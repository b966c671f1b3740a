-- The kinds of a column of a detail table, by name, and the keys of each. Those that schemas have too are those of schemas.
use Rattle.std.specs.Prelude.{ℕ, List, [], ◌∷◌, Option, option_map, codes}
use Rattle.std.specs.List.{find}
use Rattle.std.specs.Option.{option_or}
use Rattle.schema_read.specs.declared.fault.Expected.TheVariants.{Whole, TextValue, Flag}
use Rattle.schema_read.specs.declared.kind_name.KindName.TheVariants as schema
use Rattle.schema_read.specs.declared.schema_key.SchemaKey.TheVariants as key
use Rattle.schema_read.specs.declared.wanted.Wanted.{Wanted}
use Rattle.schema_read.specs.declared.wanted.Wanted.TheVariants.{Required, Optional}
use Rattle.schema_read.specs.Document.{same_bytes}
use Rattle.schema_read.specs.Kinds.{kind_text as schema_text, leaf_named}
use Rattle.schema_read.specs.Shape.{kind_keys as schema_keys}
use Rattle.detail_plan.specs.declared.kind_name.DetailKindName.{DetailKindName}
use Rattle.detail_plan.specs.declared.kind_name.DetailKindName.TheVariants.{Leaf, Parent, After, Sum, Product}

-- the name of a kind, as it is written
abbrev pub kind_text : DetailKindName → List ℕ
kind_text (Leaf leaf) = schema_text (schema.Leaf leaf)
kind_text Parent = codes "parent"
kind_text After = schema_text schema.After
kind_text Sum = schema_text schema.Sum
kind_text Product = schema_text schema.Product

abbrev pub kinds_but_leaves : List DetailKindName
kinds_but_leaves = Parent ∷ After ∷ Sum ∷ Product ∷ []

-- the kind of this name
abbrev pub kind_named : List ℕ → Option DetailKindName
kind_named name = option_or (find (λ kind. same_bytes name (kind_text kind)) kinds_but_leaves) (option_map Leaf (leaf_named name))

-- the keys of a kind
abbrev pub kind_keys : DetailKindName → List Wanted
kind_keys (Leaf leaf) = schema_keys (schema.Leaf leaf)
kind_keys Parent = Required key.Column TextValue ∷ []
kind_keys After = schema_keys schema.After
kind_keys Sum = schema_keys schema.Sum
kind_keys Product = schema_keys schema.Product

-- those of a column of this kind
abbrev pub column_keys : DetailKindName → List Wanted
column_keys kind =
    Required key.Name TextValue
    ∷ Required key.Kind TextValue
    ∷ Optional key.Changes Flag
    ∷ Optional key.Null Whole
    ∷ kind_keys kind
