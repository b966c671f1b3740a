-- The kinds of a column and of a branch, by name.
use Rattle.std.specs.Prelude.{ℕ, List, [], ◌∷◌, Option, option_map, codes}
use Rattle.std.specs.List.{find}
use Rattle.std.specs.Option.{option_or}
use Rattle.schema_read.specs.declared.kind_name.LeafName.{LeafName}
use Rattle.schema_read.specs.declared.kind_name.LeafName.TheVariants.{Int, Fixed, Date, Pick, Skew, Dict, Words, Chars, Uuid}
use Rattle.schema_read.specs.declared.kind_name.KindName.{KindName}
use Rattle.schema_read.specs.declared.kind_name.KindName.TheVariants.{Key, Born, Changed, Template, Case, Ref, Lookup, List as Listed, BornDate, ChangedDate, After, Sum, Product, Leaf}
use Rattle.schema_read.specs.Document.{same_bytes}

-- the name of a leaf kind, as it is written
abbrev pub leaf_text : LeafName → List ℕ
leaf_text Int = codes "int"
leaf_text Fixed = codes "fixed"
leaf_text Date = codes "date"
leaf_text Pick = codes "pick"
leaf_text Skew = codes "skew"
leaf_text Dict = codes "dict"
leaf_text Words = codes "words"
leaf_text Chars = codes "chars"
leaf_text Uuid = codes "uuid"

abbrev pub leaves : List LeafName
leaves = Int ∷ Fixed ∷ Date ∷ Pick ∷ Skew ∷ Dict ∷ Words ∷ Chars ∷ Uuid ∷ []

-- the leaf kind of this name
abbrev pub leaf_named : List ℕ → Option LeafName
leaf_named name = find (λ k. same_bytes name (leaf_text k)) leaves

-- the name of a kind, as it is written
abbrev pub kind_text : KindName → List ℕ
kind_text Key = codes "key"
kind_text Born = codes "born"
kind_text Changed = codes "changed"
kind_text Template = codes "template"
kind_text Case = codes "case"
kind_text Ref = codes "ref"
kind_text Lookup = codes "lookup"
kind_text Listed = codes "list"
kind_text BornDate = codes "born_date"
kind_text ChangedDate = codes "changed_date"
kind_text After = codes "after"
kind_text Sum = codes "sum"
kind_text Product = codes "product"
kind_text (Leaf k) = leaf_text k

abbrev pub kinds_but_leaves : List KindName
kinds_but_leaves = Key ∷ Born ∷ Changed ∷ Template ∷ Case ∷ Ref ∷ Lookup ∷ Listed ∷ BornDate ∷ ChangedDate ∷ After ∷ Sum ∷ Product ∷ []

-- the kind of this name
abbrev pub kind_named : List ℕ → Option KindName
kind_named name = option_or (find (λ k. same_bytes name (kind_text k)) kinds_but_leaves) (option_map Leaf (leaf_named name))
