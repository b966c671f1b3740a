-- What the rules give for the numbers of an accepted schema.
use Rattle.std.specs.Prelude.{◌≡◌, ◌≢◌, Bool, true, false, ◌||◌, ℕ, ℤ, suc, pos, neg_ℤ, ◌-◌, ◌*◌, ◌^◌, ◌<◌, ◌≤◌, ◌+ℤ◌, ◌-ℤ◌, ◌<ℤ◌, ◌≤ℤ◌, List, length, map, sum, All, IfSome, Some, is_some, ⊤}
use Rattle.std.specs.Str.{chars}
use Rattle.dictionaries.specs.WordList.{IsWordList}
use Rattle.schema_model.specs.declared.column.Kind.{Kind}
use Rattle.schema_model.specs.declared.column.Kind.TheVariants as kind
use Rattle.schema_facts.specs.declared.column_facts.ColumnFacts.{ColumnFacts}
use Rattle.schema_facts.specs.declared.layout.Span.{Span}
use Rattle.schema_plan.specs.Citations.{leaves_of}
use Rattle.cohort_sizes.specs.Births.{Births, born_count}
use Rattle.cohort_sizes.specs.Rates.{AreRates}
use Rattle.schema_facts.specs.ColumnFacts.{column_facts_at}
use Rattle.schema_facts.specs.Counts.{count}
use Rattle.schema_facts.specs.Dictionaries.{Dictionary, Project, words_named}
use Rattle.schema_facts.specs.FactsBefore.{facts_among}
use Rattle.schema_facts.specs.Layout.{LeafLayout, int_leaf, fixed_leaf, date_leaf, pick_leaf, skew_leaf, dict_leaf, words_leaf, chars_leaf, uuid_leaf, PartLayout, literal_part, cited_part, KindLayout, key_kind, born_kind, changed_kind, leaf_kind, template_kind, case_kind, reference_kind, lookup_kind, ColumnLayout, column_at, Layout, TableLayout, layout_of, leaf_layout, table_at, list_kind, unit_date_kind, after_kind, sum_kind, product_kind}
use Rattle.schema_facts.specs.References.{IsReferenceInLimits, IsSpread, Reference, reference_at, references_of}
use Rattle.schema_facts.specs.TableFacts.{cost, max_line}

-- a number that isn't below 0
abbrev pub IsCount : ℤ → Type 0
IsCount n = n ≡ pos (count n)

-- numbers from lo to hi, which is less than 2^63 past lo
pub record IsRange (lo hi : ℤ) : Type 0 where
  pub ordered : lo ≤ℤ hi
  pub near : (hi -ℤ lo) <ℤ pos (2 ^ 63)

-- days of the years 1 to 9999
pub record IsDateRange (lo hi : ℤ) : Type 0 where
  pub first_day : neg_ℤ (pos 719162) ≤ℤ lo
  pub ordered : lo ≤ℤ hi
  pub last_day : hi ≤ℤ pos 2932896

-- entries with a weight each
pub record IsWeighted (entries : List (List ℕ)) (weights : List ℕ) : Type 0 where
  pub some_entry : 1 ≤ length entries
  pub entry_limit : length entries ≤ 256
  pub one_each : length weights ≡ length entries
  pub positive : All (λ weight. 1 ≤ weight) weights
  pub total_limit : sum weights ≤ 2 ^ 32

-- numbers from lo on, as many as a size says, with the weights of a power
pub record IsSkew (lo : ℤ) (size power : ℕ) : Type 0 where
  pub some_number : 1 ≤ size
  pub size_limit : size ≤ 4096
  pub least_power : 1 ≤ power
  pub greatest_power : power ≤ 3
  pub last_number : (lo +ℤ pos (size - 1)) <ℤ pos (2 ^ 63)

-- characters or words: from lo to hi, which is at most 1,000
pub record IsLengthRange (lo hi : ℕ) : Type 0 where
  pub ordered : lo ≤ hi
  pub length_limit : hi ≤ 1000

-- an alphabet of characters
pub record IsAlphabet (alphabet : List ℕ) : Type 0 where
  pub some_character : 1 ≤ length (chars alphabet)
  pub character_limit : length (chars alphabet) ≤ 256

-- a drawn value within its limits
abbrev pub IsLeafInLimits : LeafLayout → Type 0
IsLeafInLimits (int_leaf lo hi step) = IsRange lo hi × (1 ≤ step)
IsLeafInLimits (fixed_leaf lo hi decimals) = IsRange lo hi × (decimals ≤ 9)
IsLeafInLimits (date_leaf lo hi) = IsDateRange lo hi
IsLeafInLimits (pick_leaf entries weights) = IsWeighted entries weights
IsLeafInLimits (skew_leaf lo size power) = IsSkew lo size power
IsLeafInLimits (dict_leaf words) = IsWordList words
IsLeafInLimits (words_leaf words lo hi) = IsWordList words × IsLengthRange lo hi
IsLeafInLimits (chars_leaf alphabet lo hi) = IsAlphabet alphabet × IsLengthRange lo hi
IsLeafInLimits uuid_leaf = ⊤

-- by how many days a date follows another: from lo to hi, at most 36,525, before or after
pub record IsAfterRange (lo hi : ℤ) : Type 0 where
  pub least : neg_ℤ (pos 36525) ≤ℤ lo
  pub ordered : lo ≤ℤ hi
  pub most : hi ≤ℤ pos 36525

-- a kind that a template may cite
abbrev pub is_cited : KindLayout → Bool
is_cited (template_kind parts) = false
is_cited (case_kind on branches) = false
is_cited (lookup_kind via parent column) = false
is_cited _ = true

-- what is made ready of a kind: what it draws is within its limits, and so is its spread, and so are the words of a list, and so is by
-- how many days a date follows another
abbrev pub IsSpreadOf : Kind → Type 0
IsSpreadOf (kind.Ref table window spread on_delete deal) = IsSpread (map count spread)
IsSpreadOf _ = ⊤

abbrev pub IsListOf : List Dictionary → Kind → Type 0
IsListOf dictionaries (kind.List file) = IsWordList (words_named dictionaries file)
IsListOf dictionaries _ = ⊤

abbrev pub IsAfterOf : Kind → Type 0
IsAfterOf (kind.After of lo hi) = IsAfterRange lo hi
IsAfterOf _ = ⊤

pub record CanBeReady (dictionaries : List Dictionary) (kind : Kind) : Type 0 where
  pub drawn : All (λ leaf. IsLeafInLimits (leaf_layout dictionaries leaf)) (leaves_of kind)
  pub spread : IsSpreadOf kind
  pub listed : IsListOf dictionaries kind
  pub after : IsAfterOf kind

-- a part of the template at a place: a text, or an earlier column that may be cited
abbrev pub IsPart : List ColumnLayout → ℕ → PartLayout → Type 0
IsPart columns place (literal_part bytes) = ⊤
IsPart columns place (cited_part column width) = (column < place) × (is_cited (column_at columns column).kind ≡ true)

-- a template's parts
pub record AreParts (columns : List ColumnLayout) (place : ℕ) (parts : List PartLayout) : Type 0 where
  pub some_part : 1 ≤ length parts
  pub part_limit : length parts ≤ 32
  pub each : All (IsPart columns place) parts

-- a pick column of so many entries
abbrev pub IsPickOf : ℕ → KindLayout → Type 0
IsPickOf count (leaf_kind (pick_leaf entries weights)) = length entries ≡ count
IsPickOf count _ = ⊥

-- a case of an earlier pick column, with a branch for each entry
pub record IsCase (columns : List ColumnLayout) (place on : ℕ) (branches : List LeafLayout) : Type 0 where
  pub earlier : on < place
  pub pick : IsPickOf (length branches) (column_at columns on).kind
  pub each : All IsLeafInLimits branches

abbrev pub is_lookup_kind : KindLayout → Bool
is_lookup_kind (lookup_kind via parent column) = true
is_lookup_kind _ = false

-- a reference to the table at a place, with whose row its own is deleted
abbrev pub IsCascadeTo : ℕ → KindLayout → Type 0
IsCascadeTo place (reference_kind parent window spread false drawn) = parent ≡ place
IsCascadeTo place _ = ⊥

-- the column at a place within its limits, by its kind
abbrev pub IsKindInLimits : List ColumnLayout → ℕ → KindLayout → Type 0
IsKindInLimits columns place (leaf_kind leaf) = IsLeafInLimits leaf
IsKindInLimits columns place (template_kind parts) = AreParts columns place parts
IsKindInLimits columns place (case_kind on branches) = IsCase columns place on branches
IsKindInLimits columns place (reference_kind parent window spread nulls drawn) = IsSpread spread
IsKindInLimits columns place (list_kind words) = IsWordList words
IsKindInLimits columns place (after_kind of lo hi) = IsAfterRange lo hi
IsKindInLimits columns place _ = ⊤

-- the dates of units up to a last one are of the years 1 to 9999
abbrev pub IsUnitDateInLimits : ℕ → KindLayout → Type 0
IsUnitDateInLimits units (unit_date_kind changed start step) = IsDateRange start (start +ℤ pos (step * units))
IsUnitDateInLimits units _ = ⊤

-- a kind whose fields are whole numbers
abbrev pub is_whole_leaf : LeafLayout → Bool
is_whole_leaf (int_leaf lo hi step) = true
is_whole_leaf (skew_leaf lo size power) = true
is_whole_leaf _ = false

abbrev pub is_whole_kind : KindLayout → Bool
is_whole_kind key_kind = true
is_whole_kind born_kind = true
is_whole_kind changed_kind = true
is_whole_kind (leaf_kind leaf) = is_whole_leaf leaf
is_whole_kind (reference_kind parent window spread nulls drawn) = true
is_whole_kind _ = false

-- a part of a template that fills nothing, or a whole number up to at most 64 bytes
pub record IsFilled (columns : List ColumnLayout) (column width : ℕ) : Type 0 where
  pub whole : is_whole_kind (column_at columns column).kind ≡ true
  pub few : width ≤ 64

abbrev pub IsFilledPart : List ColumnLayout → PartLayout → Type 0
IsFilledPart columns (literal_part bytes) = ⊤
IsFilledPart columns (cited_part column width) = 1 ≤ width → IsFilled columns column width

-- the column at a place, where it is a template
abbrev pub AreFilledParts : List ColumnLayout → KindLayout → Type 0
AreFilledParts columns (template_kind parts) = All (IsFilledPart columns) parts
AreFilledParts columns _ = ⊤

-- a kind whose fields may be drawn anew where a row changes: no key, no unit, no list, and none that other rows tell
abbrev pub can_change : KindLayout → Bool
can_change (leaf_kind leaf) = true
can_change (template_kind parts) = true
can_change (case_kind on branches) = true
can_change (after_kind of lo hi) = true
can_change (sum_kind of) = true
can_change (product_kind of) = true
can_change _ = false

-- a kind whose fields move though nothing is drawn anew: the unit of a row's last change, the date of that unit, and a reference that
-- becomes null
abbrev pub is_moving_kind : KindLayout → Bool
is_moving_kind changed_kind = true
is_moving_kind (unit_date_kind changed start step) = changed
is_moving_kind (reference_kind parent window spread nulls drawn) = nulls
is_moving_kind _ = false

-- whether a column moves: it is drawn anew where a row changes, or is of such a kind
abbrev pub moves : ColumnLayout → Bool
moves column = column.changes || is_moving_kind column.kind

-- a part of a template that cites no column that moves
abbrev pub IsStillPart : List ColumnLayout → PartLayout → Type 0
IsStillPart columns (literal_part bytes) = ⊤
IsStillPart columns (cited_part column width) = moves (column_at columns column) ≡ false

-- the column at a place doesn't move
abbrev pub IsStillPlace : List ColumnLayout → ℕ → Type 0
IsStillPlace columns column = moves (column_at columns column) ≡ false

-- a kind that cites no column that moves
abbrev pub CitesStill : List ColumnLayout → KindLayout → Type 0
CitesStill columns (template_kind parts) = All (IsStillPart columns) parts
CitesStill columns (case_kind on branches) = moves (column_at columns on) ≡ false
CitesStill columns (after_kind of lo hi) = moves (column_at columns of) ≡ false
CitesStill columns (sum_kind of) = All (IsStillPlace columns) of
CitesStill columns (product_kind of) = All (IsStillPlace columns) of
CitesStill columns _ = ⊤

-- a column that may be looked up: it doesn't move and is no lookup
pub record IsStillColumn (table : TableLayout) (column : ℕ) : Type 0 where
  pub within : column < length table.columns
  pub still : moves (column_at table.columns column) ≡ false
  pub no_lookup : is_lookup_kind (column_at table.columns column).kind ≡ false

-- a lookup by an earlier reference of its table, with whose parent the row is deleted, of such a column of the parent's table
pub record IsLookup (tables : List TableLayout) (columns : List ColumnLayout) (place via parent column : ℕ) : Type 0 where
  pub earlier : via < place
  pub reference : IsCascadeTo parent (column_at columns via).kind
  pub looked_up : IsStillColumn (table_at tables parent) column

-- the column at a place, where it is a lookup
abbrev pub IsLookupInLimits : List TableLayout → List ColumnLayout → ℕ → KindLayout → Type 0
IsLookupInLimits tables columns place (lookup_kind via parent column) = IsLookup tables columns place via parent column
IsLookupInLimits tables columns place _ = ⊤

-- by the facts of some columns, a date after that of a dated column that stands before it
pub record IsLaterDateAmong (facts : List ColumnFacts) (column of : ℕ) : Type 0 where
  pub earlier : of < column
  pub dated : is_some (facts_among facts column).days ≡ true

-- a sum or a product of numeric columns that stand before it
pub record IsTotalAmong (facts : List ColumnFacts) (column : ℕ) (of : List ℕ) : Type 0 where
  pub some_operand : 1 ≤ length of
  pub operand_limit : length of ≤ 8
  pub earlier : All (λ operand. operand < column) of
  pub numeric : is_some (facts_among facts column).numbers ≡ true

-- the column at a place, where it is made of other columns' dates or numbers
abbrev pub IsOfOthersAmong : List ColumnFacts → ℕ → KindLayout → Type 0
IsOfOthersAmong facts column (after_kind of lo hi) = IsLaterDateAmong facts column of
IsOfOthersAmong facts column (sum_kind of) = IsTotalAmong facts column of
IsOfOthersAmong facts column (product_kind of) = IsTotalAmong facts column of
IsOfOthersAmong facts column _ = ⊤

-- the same of the table at a place
abbrev pub IsLaterDate : Layout → ℕ → ℕ → ℕ → Type 0
IsLaterDate layout table column of = IsLaterDateAmong (column_facts_at layout table) column of

abbrev pub IsTotal : Layout → ℕ → ℕ → List ℕ → Type 0
IsTotal layout table column of = IsTotalAmong (column_facts_at layout table) column of

abbrev pub IsOfOthersInLimits : Layout → ℕ → ℕ → KindLayout → Type 0
IsOfOthersInLimits layout table column kind = IsOfOthersAmong (column_facts_at layout table) column kind

-- a number of units that is at least one, from its least to its most
pub record IsSpan (span : Span) : Type 0 where
  pub some_unit : 1 ≤ span.least
  pub ordered : span.least ≤ span.most

-- a life within its limits, in units
pub record IsLife (life : Span) : Type 0 where
  pub span : IsSpan life
  pub life_limit : life.most ≤ 20000

-- the units from one change of a row to its next
pub record IsUpdatePeriod (units : ℕ) : Type 0 where
  pub some_unit : 1 ≤ units
  pub unit_limit : units ≤ 10000

-- births within their limits, up to a last unit
pub record AreBirthsInLimits (units : ℕ) (births : Births) : Type 0 where
  pub rates : AreRates births.rates
  pub row_limit : born_count births units ≤ 2 ^ 40

-- a table within its limits, up to a last unit: its first column is its key, and no other is
pub record IsTableInLimits (units : ℕ) (table : TableLayout) : Type 0 where
  pub births : AreBirthsInLimits units table.births
  pub life : IfSome table.life IsLife
  pub update : IfSome table.update IsUpdatePeriod
  pub base_limit : table.key.base ≤ 2 ^ 62
  pub some_column : 1 ≤ length table.columns
  pub column_limit : length table.columns ≤ 64
  pub key_first : (column_at table.columns 0).kind ≡ key_kind
  pub no_other_key : (place : ℕ) → suc place < length table.columns → (column_at table.columns (suc place)).kind ≢ key_kind
  pub kinds : (place : ℕ) → place < length table.columns → IsKindInLimits table.columns place (column_at table.columns place).kind
  pub unit_dates : (place : ℕ) → place < length table.columns → IsUnitDateInLimits units (column_at table.columns place).kind
  pub filled : (place : ℕ) → place < length table.columns → AreFilledParts table.columns (column_at table.columns place).kind
  pub nulls : (place : ℕ) → place < length table.columns → (column_at table.columns place).null ≤ 999
  pub changes : (place : ℕ) → place < length table.columns → can_change (column_at table.columns place).kind ≡ false → (column_at table.columns place).changes ≡ false
  pub still : (place : ℕ) → place < length table.columns → (column_at table.columns place).changes ≡ false → CitesStill table.columns (column_at table.columns place).kind
  pub key_never_null : (column_at table.columns 0).null ≡ 0
  pub reference_never_null : (place : ℕ) (reference : Reference) → place < length table.columns → reference_at table place ≡ Some reference → (column_at table.columns place).null ≡ 0

-- an accepted schema within its limits, with its dictionaries
pub record IsInLimits (project : Project) : Type 0 where
  pub seed : IsCount project.schema.seed
  pub units : IsCount project.schema.units
  pub unit_limit : count project.schema.units ≤ 10000
  pub some_table : 1 ≤ length project.schema.tables
  pub table_limit : length project.schema.tables ≤ 64
  pub tables : All (IsTableInLimits (count project.schema.units)) (layout_of project).tables
  pub references : (place : ℕ) → place < length project.schema.tables →
      All (IsReferenceInLimits (count project.schema.units) (layout_of project).tables place) (references_of (table_at (layout_of project).tables place))
  pub lookups : (place column : ℕ) → place < length project.schema.tables → column < length (table_at (layout_of project).tables place).columns →
      IsLookupInLimits (layout_of project).tables (table_at (layout_of project).tables place).columns column (column_at (table_at (layout_of project).tables place).columns column).kind
  pub of_others : (place column : ℕ) → place < length project.schema.tables → column < length (table_at (layout_of project).tables place).columns →
      IsOfOthersInLimits (layout_of project) place column (column_at (table_at (layout_of project).tables place).columns column).kind
  pub costs : (place : ℕ) → place < length project.schema.tables → cost (layout_of project) place ≤ 4096
  pub lines : (place : ℕ) → place < length project.schema.tables → max_line (layout_of project) place ≤ 65536
