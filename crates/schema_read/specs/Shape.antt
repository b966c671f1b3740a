-- The document of a schema: which keys stand where, of which types, and the schema that they give.
-- Keys are tried in the order of these lists. The default of an optional key stands with the value that it gives, below.
use Rattle.std.specs.Prelude.{ℕ, pos, List, [], ◌∷◌, map, Bool, false, Option, None, is_none}
use Rattle.std.specs.Option.{option_or}
use Rattle.toml.specs.Data.{Members, as_integer}
use Rattle.schema_model.specs.declared.table.Schema.{Schema}
use Rattle.schema_model.specs.declared.table.Table.{Table}
use Rattle.schema_model.specs.declared.table.Delimiter.TheVariants.{Tab}
use Rattle.schema_model.specs.declared.column.Column.{Column}
use Rattle.schema_model.specs.declared.column.Kind.{Kind}
use Rattle.schema_model.specs.declared.column.Kind.TheVariants as kind
use Rattle.schema_model.specs.declared.column.Leaf.{Leaf}
use Rattle.schema_model.specs.declared.column.Leaf.TheVariants as leaf
use Rattle.schema_model.specs.declared.column.Deal.TheVariants.{Turn}
use Rattle.schema_model.specs.declared.column.OnDelete.TheVariants.{Cascade}
use Rattle.schema_model.specs.declared.column.Window.TheVariants.{All}
use Rattle.schema_read.specs.declared.fault.Place.{Place}
use Rattle.schema_read.specs.declared.fault.Wrong.{Wrong}
use Rattle.schema_read.specs.declared.fault.Expected.TheVariants.{Whole, TextValue, Flag, DelimiterName, TableList, TwoWholes, KindName as NameOfKind, LeafName as NameOfLeaf, DateText, TextList, Wholes, PartList, WindowValue, InsertValue, DeleteName, DealName}
use Rattle.schema_read.specs.declared.schema_key.SchemaKey.TheVariants as key
use Rattle.schema_read.specs.declared.kind_name.KindName.{KindName}
use Rattle.schema_read.specs.declared.kind_name.KindName.TheVariants.{Key, Born, Changed, Leaf as LeafOf, Template, Case, Ref, Lookup, List as Listed, BornDate, ChangedDate, After, Sum, Product}
use Rattle.schema_read.specs.declared.kind_name.LeafName.{LeafName}
use Rattle.schema_read.specs.declared.kind_name.LeafName.TheVariants.{Int, Fixed, Date, Pick, Skew, Dict, Words, Chars, Uuid}
use Rattle.schema_read.specs.Types.{as_delimiter, as_life, as_phases, one_phase, as_kind, as_leaf, as_day, as_list_of, as_part, as_window, as_deletion, as_deal}
use Rattle.schema_read.specs.Values.{value_under, value_or, whole, whole_or, text, text_list, flag_or, tables}
use Rattle.schema_read.specs.declared.wanted.Wanted.{Wanted}
use Rattle.schema_read.specs.declared.wanted.Wanted.TheVariants.{Required, Optional}
use Rattle.schema_read.specs.Wanted.{first_wrong, each_from}

-- ---- the places

abbrev pub top : Place
top = record { table = 0; column = 0; branch = 0 }

abbrev pub table_place : ℕ → Place
table_place i = record { table = i; column = 0; branch = 0 }

abbrev pub column_place : ℕ → ℕ → Place
column_place i j = record { table = i; column = j; branch = 0 }

abbrev pub branch_place : ℕ → ℕ → ℕ → Place
branch_place i j b = record { table = i; column = j; branch = b }

-- ---- the keys of each place, in order

abbrev pub top_keys : List Wanted
top_keys =
    Required key.Seed Whole
    ∷ Required key.Units Whole
    ∷ Optional key.Delimiter DelimiterName
    ∷ Required key.Table TableList
    ∷ []

abbrev pub table_keys : List Wanted
table_keys =
    Required key.Name TextValue
    ∷ Required key.Rows Whole
    ∷ Optional key.Insert InsertValue
    ∷ Optional key.Life TwoWholes
    ∷ Optional key.Update Whole
    ∷ Required key.Column TableList
    ∷ []

abbrev pub leaf_keys : LeafName → List Wanted
leaf_keys Int = Required key.Lo Whole ∷ Required key.Hi Whole ∷ Optional key.Step Whole ∷ []
leaf_keys Fixed = Required key.Lo Whole ∷ Required key.Hi Whole ∷ Required key.Decimals Whole ∷ []
leaf_keys Date = Required key.Lo DateText ∷ Required key.Hi DateText ∷ []
leaf_keys Pick = Required key.Entries TextList ∷ Optional key.Weights Wholes ∷ []
leaf_keys Skew = Required key.Lo Whole ∷ Required key.Size Whole ∷ Required key.Power Whole ∷ []
leaf_keys Dict = Required key.File TextValue ∷ []
leaf_keys Words = Required key.File TextValue ∷ Required key.Lo Whole ∷ Required key.Hi Whole ∷ []
leaf_keys Chars = Required key.Alphabet TextValue ∷ Required key.Lo Whole ∷ Required key.Hi Whole ∷ []
leaf_keys Uuid = []

abbrev pub unit_date_keys : List Wanted
unit_date_keys = Required key.Start DateText ∷ Optional key.Step Whole ∷ []

abbrev pub operand_keys : List Wanted
operand_keys = Required key.Of TextList ∷ []

abbrev pub kind_keys : KindName → List Wanted
kind_keys Key = Required key.Base Whole ∷ Optional key.Scramble Flag ∷ []
kind_keys Born = []
kind_keys Changed = []
kind_keys (LeafOf l) = leaf_keys l
kind_keys Template = Required key.Parts PartList ∷ []
kind_keys Case = Required key.On TextValue ∷ Required key.Branches TableList ∷ []
kind_keys Ref = Required key.Table TextValue ∷ Required key.Window WindowValue ∷ Optional key.Spread Wholes ∷ Optional key.OnDelete DeleteName ∷ Optional key.Deal DealName ∷ []
kind_keys Lookup = Required key.Via TextValue ∷ Required key.Column TextValue ∷ []
kind_keys Listed = Required key.File TextValue ∷ []
kind_keys BornDate = unit_date_keys
kind_keys ChangedDate = unit_date_keys
kind_keys After = Required key.Of TextValue ∷ Required key.Lo Whole ∷ Required key.Hi Whole ∷ []
kind_keys Sum = operand_keys
kind_keys Product = operand_keys

-- of a column of this kind
abbrev pub column_keys : KindName → List Wanted
column_keys k =
    Required key.Name TextValue
    ∷ Required key.Kind NameOfKind
    ∷ Optional key.Changes Flag
    ∷ Optional key.Null Whole
    ∷ kind_keys k

-- of a branch of this kind
abbrev pub branch_keys : LeafName → List Wanted
branch_keys l = Required key.Kind NameOfLeaf ∷ leaf_keys l

-- ---- the first wrong key, depth first: of a place, and then of the places inside it

abbrev pub kind_of : Members → KindName
kind_of = value_or as_kind Born key.Kind

abbrev pub leaf_of : Members → LeafName
leaf_of = value_or as_leaf Int key.Kind

abbrev pub branch_wrong : ℕ → ℕ → ℕ → Members → Option Wrong
branch_wrong i j b ms = first_wrong (branch_place i j b) (branch_keys (leaf_of ms)) ms

abbrev pub branches_wrong : ℕ → ℕ → KindName → Members → Option Wrong
branches_wrong i j Case ms = each_from (branch_wrong i j) 1 (tables key.Branches ms)
branches_wrong i j _ ms = None

abbrev pub column_wrong : ℕ → ℕ → Members → Option Wrong
column_wrong i j ms = option_or (first_wrong (column_place i j) (column_keys (kind_of ms)) ms) (branches_wrong i j (kind_of ms) ms)

abbrev pub table_wrong : ℕ → Members → Option Wrong
table_wrong i ms = option_or (first_wrong (table_place i) table_keys ms) (each_from (column_wrong i) 1 (tables key.Column ms))

abbrev pub first_wrong_key : Members → Option Wrong
first_wrong_key ms = option_or (first_wrong top top_keys ms) (each_from table_wrong 1 (tables key.Table ms))

-- a table has each of these keys right, and no others
abbrev pub are_right : List Wanted → Members → Bool
are_right ws ms = is_none (first_wrong top ws ms)

-- ---- the schema that the keys give

abbrev pub pick : Members → Leaf
pick ms = let entries = text_list key.Entries ms in leaf.Pick entries (value_or (as_list_of as_integer) (map (λ _. pos 1) entries) key.Weights ms)

abbrev pub leaf_given : LeafName → Members → Leaf
leaf_given Int ms = leaf.Int (whole key.Lo ms) (whole key.Hi ms) (whole_or (pos 1) key.Step ms)
leaf_given Fixed ms = leaf.Fixed (whole key.Lo ms) (whole key.Hi ms) (whole key.Decimals ms)
leaf_given Date ms = leaf.Date (value_or as_day (pos 0) key.Lo ms) (value_or as_day (pos 0) key.Hi ms)
leaf_given Pick ms = pick ms
leaf_given Skew ms = leaf.Skew (whole key.Lo ms) (whole key.Size ms) (whole key.Power ms)
leaf_given Dict ms = leaf.Dict (text key.File ms)
leaf_given Words ms = leaf.Words (text key.File ms) (whole key.Lo ms) (whole key.Hi ms)
leaf_given Chars ms = leaf.Chars (text key.Alphabet ms) (whole key.Lo ms) (whole key.Hi ms)
leaf_given Uuid ms = leaf.Uuid

abbrev pub branch : Members → Leaf
branch ms = leaf_given (leaf_of ms) ms

abbrev pub kind_value : KindName → Members → Kind
kind_value Key ms = kind.Key (whole key.Base ms) (flag_or false key.Scramble ms)
kind_value Born ms = kind.Born
kind_value Changed ms = kind.Changed
kind_value (LeafOf l) ms = kind.Leaf (leaf_given l ms)
kind_value Template ms = kind.Template (value_or (as_list_of as_part) [] key.Parts ms)
kind_value Case ms = kind.Case (text key.On ms) (map branch (tables key.Branches ms))
kind_value Ref ms = kind.Ref (text key.Table ms) (value_or as_window All key.Window ms) (value_or (as_list_of as_integer) (pos 1 ∷ []) key.Spread ms) (value_or as_deletion Cascade key.OnDelete ms) (value_or as_deal Turn key.Deal ms)
kind_value Lookup ms = kind.Lookup (text key.Via ms) (text key.Column ms)
kind_value Listed ms = kind.List (text key.File ms)
kind_value BornDate ms = kind.BornDate (value_or as_day (pos 0) key.Start ms) (whole_or (pos 1) key.Step ms)
kind_value ChangedDate ms = kind.ChangedDate (value_or as_day (pos 0) key.Start ms) (whole_or (pos 1) key.Step ms)
kind_value After ms = kind.After (text key.Of ms) (whole key.Lo ms) (whole key.Hi ms)
kind_value Sum ms = kind.Sum (text_list key.Of ms)
kind_value Product ms = kind.Product (text_list key.Of ms)

abbrev pub column : Members → Column
column ms = record { name = text key.Name ms; kind = kind_value (kind_of ms) ms; changes = flag_or false key.Changes ms; null = whole_or (pos 0) key.Null ms }

abbrev pub table : Members → Table
table ms =
    record {
      name = text key.Name ms;
      rows = whole key.Rows ms;
      insert = value_or as_phases (one_phase (pos 0)) key.Insert ms;
      life = value_under as_life key.Life ms;
      update = value_under as_integer key.Update ms;
      columns = map column (tables key.Column ms);
    }

abbrev pub schema : Members → Schema
schema ms =
    record {
      seed = whole key.Seed ms;
      units = whole key.Units ms;
      delimiter = value_or as_delimiter Tab key.Delimiter ms;
      tables = map table (tables key.Table ms);
    }
