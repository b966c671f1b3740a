-- The dictionaries that a schema cites.
use Rattle.std.specs.Prelude.{ℕ, Bool, ◌&&◌, nat_le, if◌then◌else◌, List, [], ◌∷◌, ◌++◌, flat_map, length, take, Option, Some, None}
use Rattle.std.specs.List.{fold, list_all, list_any}
use Rattle.schema_model.specs.declared.table.Table.{Table}
use Rattle.schema_model.specs.declared.column.Column.{Column}
use Rattle.schema_model.specs.declared.column.Kind.{Kind}
use Rattle.schema_model.specs.declared.column.Kind.TheVariants as kind
use Rattle.schema_model.specs.declared.column.Leaf.{Leaf}
use Rattle.schema_model.specs.declared.column.Leaf.TheVariants as drawn
use Rattle.schema_facts.specs.Names.{same_text}

-- the dictionaries that a drawn value cites
abbrev pub names_in_leaf : Leaf → List (List ℕ)
names_in_leaf (drawn.Dict file) = file ∷ []
names_in_leaf (drawn.Words file lo hi) = file ∷ []
names_in_leaf _ = []

-- the values that are drawn for a column: the one of a leaf, or those of the branches of a case
abbrev pub leaves_of : Kind → List Leaf
leaves_of (kind.Leaf leaf) = leaf ∷ []
leaves_of (kind.Case on branches) = branches
leaves_of _ = []

-- the dictionaries that a column cites: the one of a list, or those of what is drawn for it
abbrev pub names_in_kind : Kind → List (List ℕ)
names_in_kind (kind.List file) = file ∷ []
names_in_kind held = flat_map names_in_leaf (leaves_of held)

-- the dictionaries that the columns of a table cite, in order, a name for each citation
abbrev pub names_in_columns : List Column → List (List ℕ)
names_in_columns columns = flat_map (λ (column : Column). names_in_kind column.kind) columns

-- the dictionaries that tables cite, in order, a name for each citation
abbrev pub names_in_tables : List Table → List (List ℕ)
names_in_tables tables = flat_map (λ (table : Table). names_in_columns table.columns) tables

-- whether one of some names is this one
abbrev pub has_name : List (List ℕ) → List ℕ → Bool
has_name names file = list_any (λ name. same_text name file) names

-- some names with one more, where it isn't among them
abbrev pub with_name : List (List ℕ) → List ℕ → List (List ℕ)
with_name names file = if has_name names file then names else names ++ file ∷ []

-- of some names each different one, in the order in which they come first
abbrev pub different_names : List (List ℕ) → List (List ℕ)
different_names names = fold with_name [] names

-- the first 64 different dictionaries that tables cite, in the order of their first citations: no accepted schema cites more
unfoldable pub cited_names : List Table → List (List ℕ)
cited_names tables = take 64 (different_names (names_in_tables tables))

-- whether a dictionary may be cited: its name has 1 to 255 bytes, and it is one of these first names
abbrev pub may_cite : List (List ℕ) → List ℕ → Bool
may_cite names name = nat_le 1 (length name) && nat_le (length name) 255 && has_name names name

-- whether all that a drawn value cites may be cited
abbrev pub may_cite_all : List (List ℕ) → Leaf → Bool
may_cite_all names leaf = list_all (may_cite names) (names_in_leaf leaf)

-- whether all that a column cites may be cited
abbrev pub may_cite_of_kind : List (List ℕ) → Kind → Bool
may_cite_of_kind names (kind.List file) = may_cite names file
may_cite_of_kind names held = list_all (may_cite_all names) (leaves_of held)

-- ---- of some columns alone

-- the first 64 different dictionaries that some columns cite, in the order of their first citations
unfoldable pub cited_in : List Column → List (List ℕ)
cited_in columns = take 64 (different_names (names_in_columns columns))

-- whether some columns cite only dictionaries that may be cited
abbrev pub may_cite_in : List (List ℕ) → List Column → Bool
may_cite_in names columns = list_all (λ (column : Column). may_cite_of_kind names column.kind) columns

-- the different dictionaries that some columns cite; None where they cite one that may not be cited
abbrev pub citable_in : List Column → Option (List (List ℕ))
citable_in columns = if may_cite_in (cited_in columns) columns then Some (cited_in columns) else None
