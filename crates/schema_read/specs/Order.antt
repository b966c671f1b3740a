-- The readings of a document, in the order in which its keys are tried: a reading gives nothing where the key is right,
-- and else that it is wrong.
use Rattle.std.specs.Prelude.{◌≡◌, ℕ, suc, List, [], ◌∷◌, ◌++◌, map, All, Option, Some, None}
use Rattle.toml.specs.Data.{Members}
use Rattle.schema_read.specs.declared.fault.Place.{Place}
use Rattle.schema_read.specs.declared.fault.Wrong.{Wrong}
use Rattle.schema_read.specs.declared.schema_key.SchemaKey.TheVariants as key
use Rattle.schema_read.specs.declared.kind_name.KindName.{KindName}
use Rattle.schema_read.specs.declared.kind_name.KindName.TheVariants.{Case}
use Rattle.schema_read.specs.Shape.{top, table_place, column_place, branch_place, top_keys, table_keys, column_keys, branch_keys, kind_of, leaf_of}
use Rattle.schema_read.specs.Values.{tables}
use Rattle.schema_read.specs.declared.wanted.Wanted.{Wanted}
use Rattle.schema_read.specs.Wanted.{wrong_key, further_key}

-- each reading found the key right
abbrev pub AreRight : List (Option Wrong) → Type 0
AreRight readings = All (λ reading. reading ≡ None) readings

-- the readings up to one are right, and that one is wrong
pub record IsFirstOf (wrong : Wrong) (readings : List (Option Wrong)) : Type 0 where
  pub before : List (Option Wrong)
  pub after : List (Option Wrong)
  pub in_order : readings ≡ before ++ Some wrong ∷ after
  pub are_right : AreRight before

-- what is told of readings: nothing where each is right, and else the first that is wrong
abbrev pub TellsFirst : Option Wrong → List (Option Wrong) → Type 0
TellsFirst None readings = AreRight readings
TellsFirst (Some wrong) readings = IsFirstOf wrong readings

-- of a place: its wanted keys in order, and then the further ones
abbrev pub place_readings : Place → List Wanted → Members → List (Option Wrong)
place_readings p wanted ms = map (λ w. wrong_key p w ms) wanted ++ further_key p wanted ms ∷ []

-- of tables, which are counted from n: one table after the other
abbrev pub readings_from : (ℕ → Members → List (Option Wrong)) → ℕ → List Members → List (Option Wrong)
readings_from readings n [] = []
readings_from readings n (ms ∷ mss) = readings n ms ++ readings_from readings (suc n) mss

abbrev pub branch_readings : ℕ → ℕ → ℕ → Members → List (Option Wrong)
branch_readings i j b ms = place_readings (branch_place i j b) (branch_keys (leaf_of ms)) ms

-- of the branches of a column, where its kind has any
abbrev pub branches_readings : ℕ → ℕ → KindName → Members → List (Option Wrong)
branches_readings i j Case ms = readings_from (branch_readings i j) 1 (tables key.Branches ms)
branches_readings i j _ ms = []

-- of a column: its own keys, and then its branches
abbrev pub column_readings : ℕ → ℕ → Members → List (Option Wrong)
column_readings i j ms = place_readings (column_place i j) (column_keys (kind_of ms)) ms ++ branches_readings i j (kind_of ms) ms

-- of a table: its own keys, and then its columns
abbrev pub table_readings : ℕ → Members → List (Option Wrong)
table_readings i ms = place_readings (table_place i) table_keys ms ++ readings_from (column_readings i) 1 (tables key.Column ms)

-- of a document: its own keys, and then its tables
abbrev pub document_readings : Members → List (Option Wrong)
document_readings ms = place_readings top top_keys ms ++ readings_from table_readings 1 (tables key.Table ms)
