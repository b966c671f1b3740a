-- What a statement takes at most.
use Rattle.std.proofs.Common.{◌≡◌, ◌<◌, ◌≤◌, ℕ, ◌+◌, ◌*◌, ◌^◌, Bool, true, false, List, [], ◌∷◌, get_or, length, map, sum_by, take, refl, ap, ap₂, sym, ◌∙◌, arith}
use Rattle.std.proofs.lemmas.Nat.{mul-le}
use Rattle.std.proofs.lemmas.List.Sums.{sum_by-cons, sum_by-le-sum_by, sum_by_more_le}
use Rattle.std.proofs.lemmas.List.{take_all}
use Rattle.schema_facts.specs.Dictionaries.{Project}
use Rattle.schema_facts.specs.FieldSizes.{greatest_by, size_of}
use Rattle.schema_facts.specs.Layout.{ColumnLayout, Layout, TableLayout, column_at, layout_of, no_column, no_table, table_at}
use Rattle.schema_plan.specs.Limits.{IsInLimits}
use Rattle.schema_facts.specs.TableFacts.{max_line}
use Rattle.draw_values.proofs.SizeLemmas.{greatest_by-each}
use Rattle.life_intervals.proofs.AcceptedLemmas.{place-below}
use Rattle.sql_lines.specs.Bare.{is_bare_at}
use Rattle.sql_lines.specs.Reach.{literal_of_column, literal_size, statement_of_table, statement_reach, statement_size}

-- ---- no statement is much longer than a line twice

literal-few : (bare : Bool) (size : ℕ) → 40 + literal_size bare size ≤ 42 + 2 * (size + 1)
literal-few true size = omega arith
literal-few false size = omega arith

sum-split : (size : ColumnLayout → ℕ) (columns : List ColumnLayout) → sum_by (λ (c : ColumnLayout). 42 + 2 * (size c + 1)) columns ≡ 42 * length columns + 2 * sum_by (λ (c : ColumnLayout). size c + 1) columns
sum-split size [] = refl
sum-split size (column ∷ columns) =
    omega (
      arith,
      sum_by-cons (λ (c : ColumnLayout). 42 + 2 * (size c + 1)) column columns,
      sum_by-cons (λ (c : ColumnLayout). size c + 1) column columns,
      sum-split size columns,
    )

sum-fields : (taken : ℕ → ℕ) (size : ColumnLayout → ℕ) (columns : List ColumnLayout) → sum_by taken (map size columns) ≡ sum_by (λ (c : ColumnLayout). taken (size c)) columns
sum-fields taken size [] = refl
sum-fields taken size (column ∷ columns) =
    sum_by-cons taken (size column) (map size columns)
    ∙ ap (λ (n : ℕ). taken (size column) + n) (sum-fields taken size columns)
    ∙ sym (sum_by-cons (λ (c : ColumnLayout). taken (size c)) column columns)

module _ (layout : Layout) (place : ℕ) where
  abbrev table : TableLayout
  table = table_at layout.tables place

  abbrev size : ColumnLayout → ℕ
  size column = size_of layout.delimiter layout.tables table.columns column.kind

  abbrev most : ColumnLayout → ℕ
  most column = 40 + literal_of_column layout table column

  line-is : max_line layout place ≡ sum_by (λ (c : ColumnLayout). size c + 1) table.columns
  unfolding max_line
  line-is = sum-fields (λ n. n + 1) size table.columns

  columns-few : sum_by most table.columns ≤ 42 * length table.columns + 2 * max_line layout place
  columns-few =
      omega (
        arith,
        sum_by-le-sum_by most (λ (c : ColumnLayout). 42 + 2 * (size c + 1)) table.columns (λ c. literal-few _ (size c)),
        sum-split size table.columns,
        line-is,
      )

  -- the columns so far, and one more
  pub size-so_far : (column : ℕ) (d : ColumnLayout) → column < length table.columns →
      sum_by most (take column table.columns) + most (get_or table.columns column d) ≤ 42 * length table.columns + 2 * max_line layout place
  size-so_far column d below = omega (arith, columns-few, sum_by_more_le most table.columns column d below)

  pub size-few : statement_size layout place ≤ 128 + (42 * length table.columns + 2 * max_line layout place)
  unfolding statement_size
  size-few = omega (arith, columns-few)

-- of an accepted schema
pub statement-few : (plan : Project) → IsInLimits plan → (place : ℕ) → place < length plan.schema.tables → statement_size (layout_of plan) place ≤ 2 ^ 18
statement-few plan limits place below =
    omega (
      arith,
      size-few (layout_of plan) place,
      limits.lines place below,
      (limits.tables place no_table (place-below plan place below)).column_limit,
    )

pub size-within : (plan : Project) (place : ℕ) → place < length plan.schema.tables → statement_size (layout_of plan) place ≤ statement_reach (layout_of plan)
unfolding statement_size statement_reach
size-within plan place below = greatest_by-each (statement_of_table (layout_of plan)) (layout_of plan).tables place no_table (place-below plan place below)

-- ---- as it is counted, column by column

-- the sizes of so many columns
abbrev pub size_to : Layout → ℕ → ℕ → ℕ
size_to layout place column =
    128 + sum_by (λ (of : ColumnLayout). 40 + literal_of_column layout (table_at layout.tables place) of) (take column (table_at layout.tables place).columns)

pub literal-is : (plan : Project) (place column : ℕ) (bare : Bool) (size literal : ℕ) → literal ≡ literal_size bare size → bare ≡ is_bare_at plan place column →
    size ≡ size_of (layout_of plan).delimiter (layout_of plan).tables (table_at (layout_of plan).tables place).columns (column_at (table_at (layout_of plan).tables place).columns column).kind →
    literal ≡ literal_of_column (layout_of plan) (table_at (layout_of plan).tables place) (column_at (table_at (layout_of plan).tables place).columns column)
literal-is plan place column bare size literal is bare_is size_is = is ∙ ap₂ literal_size bare_is size_is

pub size-next : (plan : Project) → IsInLimits plan → (place column : ℕ) → place < length plan.schema.tables → column < length (table_at (layout_of plan).tables place).columns → (size literal : ℕ) →
    size ≡ size_to (layout_of plan) place column →
    literal ≡ literal_of_column (layout_of plan) (table_at (layout_of plan).tables place) (column_at (table_at (layout_of plan).tables place).columns column) → size + (40 + literal) ≤ 2 ^ 18
size-next plan limits place column below within size literal so_far is =
    omega (
      arith,
      so_far,
      is,
      size-so_far (layout_of plan) place column no_column within,
      limits.lines place below,
      (limits.tables place no_table (place-below plan place below)).column_limit,
    )

pub size-whole : (layout : Layout) (place column size : ℕ) → size ≡ size_to layout place column → length (table_at layout.tables place).columns ≤ column → size ≡ statement_size layout place
unfolding statement_size
size-whole layout place column size so_far all =
    so_far ∙ ap (λ (columns : List ColumnLayout). 128 + sum_by (λ (of : ColumnLayout). 40 + literal_of_column layout (table_at layout.tables place) of) columns) (take_all column (table_at layout.tables place).columns all)

pub room-within : (plan : Project) (place size many : ℕ) → place < length plan.schema.tables → many ≤ size → many * statement_size (layout_of plan) place ≤ size * statement_reach (layout_of plan)
room-within plan place size many below few =
    mul-le many (statement_size (layout_of plan) place) size (statement_reach (layout_of plan)) few (size-within plan place below)

-- ---- as it is looked for, table by table

pub size-of_table : (layout : Layout) (place : ℕ) → statement_size layout place ≡ statement_of_table layout (table_at layout.tables place)
unfolding statement_size
size-of_table layout place = refl

pub reach-whole : (layout : Layout) (place most : ℕ) → most ≡ greatest_by (statement_of_table layout) (take place layout.tables) → length layout.tables ≤ place → most ≡ statement_reach layout
unfolding statement_reach
reach-whole layout place most is all = is ∙ ap (greatest_by (statement_of_table layout)) (take_all place layout.tables all)
