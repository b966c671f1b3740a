-- How long statements are.
use Rattle.std.proofs.Common.{◌≡◌, ◌<◌, ◌≤◌, ℕ, suc, ◌+◌, ◌*◌, ◌^◌, Bool, true, false, List, [], ◌∷◌, ◌++◌, Option, Some, None, codes, decimal, drop, length, length-append, map, sum_by, flat_map, inl, inr, refl, ap, arith}
use Rattle.std.specs.List.{join_by, range_with_len}
use Rattle.std.proofs.lemmas.Bool.{cases_eq, cases_lt, lt-leb, le-leb}
use Rattle.std.proofs.lemmas.List.Sums.{sum_by-cons}
use Rattle.row_text.specs.Fields.{escaped, escaped_text, field_text}
use Rattle.row_text.proofs.EscapeLemmas.{escape, form, itself}
use Rattle.schema_facts.specs.Dictionaries.{Project}
use Rattle.schema_facts.specs.FieldSizes.{size_of}
use Rattle.schema_facts.specs.Layout.{ColumnLayout, Layout, TableLayout, column_at, layout_of, table_at}
use Rattle.schema_plan.specs.Rules.{IsAccepted}
use Rattle.schema_facts.specs.TableFacts.{max_line}
use Rattle.life_intervals.specs.Generator.{generator_of, last_unit}
use Rattle.life_intervals.specs.Intervals.{row_at}
use Rattle.life_intervals.specs.Keys.{key_of}
use Rattle.life_intervals.specs.Rows.{Row}
use Rattle.row_lines.specs.Lines.{field}
use Rattle.row_lines.specs.RunFields.{HasSizes}
use Rattle.row_lines.proofs.FieldLemmas.{length-decimal-le_20}
use Rattle.sql_lines.specs.Bare.{is_bare}
use Rattle.sql_lines.specs.Literals.{literal, quoted}
use Rattle.sql_lines.specs.Reach.{literal_of_column, literal_size, statement_size}
use Rattle.sql_lines.specs.Statements.{assignment, column_count, column_name, deletion, insertion, insertion_of, literal_at, table_name, update, update_of, where_key}
use Rattle.sql_lines.proofs.NameLemmas.{column_name-few, table_name-few}
use Rattle.sql_lines.proofs.ReadingLemmas.{quoted-other, quoted-quote}

-- ---- literals

-- no byte is written shorter than it is
escaped-longer : (delimiter byte : ℕ) → 1 ≤ length (escaped delimiter byte)
escaped-longer delimiter byte = elim (form delimiter byte) [
  | itself written _ _ _ _ _ ↦ omega (arith, ap (λ (bytes : List ℕ). length bytes) written)
  | escape letter written _ _ _ _ _ ↦ omega (arith, ap (λ (bytes : List ℕ). length bytes) written)
]

text-longer : (delimiter : ℕ) (text : List ℕ) → length text ≤ length (escaped_text delimiter text)
text-longer delimiter [] = omega arith
text-longer delimiter (byte ∷ text) =
    omega (arith, escaped-longer delimiter byte, text-longer delimiter text, length-append (escaped delimiter byte) (escaped_text delimiter text))

quoted-few : (byte : ℕ) → length (quoted byte) ≤ 2
quoted-few byte = elim (cases_eq byte 39) [
  | inl is ↦ omega (arith, ap (λ (bytes : List ℕ). length bytes) (quoted-quote byte is))
  | inr other ↦ omega (arith, ap (λ (bytes : List ℕ). length bytes) (quoted-other byte other))
]

text-quoted : (text : List ℕ) → length (flat_map quoted text) ≤ 2 * length text
text-quoted [] = omega arith
text-quoted (byte ∷ text) = omega (arith, quoted-few byte, text-quoted text, length-append (quoted byte) (flat_map quoted text))

-- a literal is no longer than the size of its field allows
pub literal-size : (delimiter size : ℕ) (bare : Bool) (field : Option (List ℕ)) → length (field_text delimiter field) ≤ size → length (literal bare field) ≤ literal_size bare size
literal-size delimiter size true None few = omega arith
literal-size delimiter size false None few = omega (arith, few)
literal-size delimiter size true (Some text) few = omega (arith, few, text-longer delimiter text)
literal-size delimiter size false (Some text) few =
    omega (arith, few, text-longer delimiter text, text-quoted text, length-append (39 ∷ flat_map quoted text) (39 ∷ []))

-- ---- sums over columns

-- texts that are no longer than what each column allows
sum-of : (f : ℕ → List ℕ) (most : ColumnLayout → ℕ) (columns : List ColumnLayout) (a : ℕ) →
    ((i : ℕ) → i < length columns → length (f (a + i)) ≤ most (column_at columns i)) → length (flat_map f (range_with_len a (length columns))) ≤ sum_by most columns
sum-of f most [] a each = omega arith
sum-of f most (column ∷ columns) a each =
    let here : a + 0 ≡ a = omega arith in
    let first : length (f (a + 0)) ≤ most column = each 0 (omega arith) in
    let others : List ℕ = flat_map f (range_with_len (a + 1) (length columns)) in
    let rest : length (flat_map f (range_with_len (a + 1) (length columns))) ≤ sum_by most columns = sum-of f most columns (a + 1)
    (λ i below. let next : a + suc i ≡ a + 1 + i = omega arith in omega (arith, each (suc i) (omega (arith, below)), ap (λ (n : ℕ). length (f n)) next)) in
    let whole : length (f a ++ flat_map f (range_with_len (a + 1) (length columns))) ≤ sum_by most (column ∷ columns) =
    omega (arith, length-append (f a) others, first, ap (λ (n : ℕ). length (f n)) here, rest, sum_by-cons most column columns) in
    whole

-- those of all columns but the first
sum-others : (f : ℕ → List ℕ) (most : ColumnLayout → ℕ) (columns : List ColumnLayout) →
    ((i : ℕ) → i < length columns → length (f i) ≤ most (column_at columns i)) → length (flat_map f (drop 1 (range_with_len 0 (length columns)))) ≤ sum_by most columns
sum-others f most [] each = omega arith
sum-others f most (column ∷ columns) each =
    let rest : length (flat_map f (range_with_len 1 (length columns))) ≤ sum_by most columns = sum-of f most columns 1
    (λ i below. let next : 1 + i ≡ suc i = omega arith in omega (arith, each (suc i) (omega (arith, below)), ap (λ (n : ℕ). length (f n)) next)) in
    let whole : length (flat_map f (range_with_len 1 (length columns))) ≤ sum_by most (column ∷ columns) = omega (arith, rest, sum_by-cons most column columns) in
    whole

-- what is joined takes no more than with a separator before each
join-few : (f : ℕ → List ℕ) (separator : List ℕ) (xs : List ℕ) → length (join_by f separator xs) ≤ length (flat_map (λ x. separator ++ f x) xs)
join-few f separator [] = omega arith
join-few f separator (x ∷ xs) =
    let others : List ℕ = flat_map (λ y. separator ++ f y) xs in
    omega (arith, length-append (f x) others, length-append (separator ++ f x) others, length-append separator (f x))

-- ---- lines

-- a literal takes no less than its field
literal-longer : (bare : Bool) (size : ℕ) → size ≤ literal_size bare size
literal-longer true size = omega arith
literal-longer false size = omega arith

-- what the sizes of fields give, where it is no more than what each column allows
sum-fields : (size : ColumnLayout → ℕ) (most : ColumnLayout → ℕ) (columns : List ColumnLayout) → ((column : ColumnLayout) → size column + 1 ≤ most column) →
    sum_by (λ n. n + 1) (map size columns) ≤ sum_by most columns
sum-fields size most [] each = omega arith
sum-fields size most (column ∷ columns) each =
    omega (
      arith,
      each column,
      sum-fields size most columns each,
      sum_by-cons (λ n. n + 1) (size column) (map size columns),
      sum_by-cons most column columns,
    )

-- a line takes no more than its statement
pub line-within : (layout : Layout) (place : ℕ) → max_line layout place ≤ statement_size layout place
unfolding max_line statement_size
line-within layout place =
    let table : TableLayout = table_at layout.tables place in
    let size : ColumnLayout → ℕ = λ (column : ColumnLayout). size_of layout.delimiter layout.tables table.columns column.kind in
    omega (
      arith,
      sum-fields size (λ (column : ColumnLayout). 40 + literal_of_column layout table column) table.columns
          (λ column. omega (arith, literal-longer (is_bare layout.tables column.kind) (size column))),
    )

-- ---- statements

module _ (plan : Project) (accepted : IsAccepted plan) (place : ℕ) (below : place < length plan.schema.tables) (some : 1 ≤ column_count plan place) where
  abbrev table : TableLayout
  table = table_at (layout_of plan).tables place

  abbrev most : ColumnLayout → ℕ
  most column = 40 + literal_of_column (layout_of plan) table column

  abbrev small : ℕ → Type 0
  small ordinal = key_of (generator_of plan) place (last_unit plan) ordinal < 2 ^ 64

  size-is : statement_size (layout_of plan) place ≡ 128 + sum_by most table.columns
  unfolding statement_size
  size-is = refl

  where-few : (ordinal : ℕ) → small ordinal → length (where_key plan place ordinal) ≤ 66
  where-few ordinal key =
      let name : List ℕ = column_name plan place 0 in
      let number : List ℕ = decimal (key_of (generator_of plan) place (last_unit plan) ordinal) in
      omega (
        arith,
        column_name-few plan accepted place 0 below some,
        length-decimal-le_20 (key_of (generator_of plan) place (last_unit plan) ordinal) key,
        length-append (codes " WHERE " ++ name ++ codes " = " ++ number) (codes ";\n"),
        length-append (codes " WHERE " ++ name ++ codes " = ") number,
        length-append (codes " WHERE " ++ name) (codes " = "),
        length-append (codes " WHERE ") name,
      )

  pub deletion-size : (ordinal : ℕ) → small ordinal → length (deletion plan place ordinal) ≤ statement_size (layout_of plan) place
  unfolding deletion
  deletion-size ordinal key =
      let name : List ℕ = table_name plan place in
      omega (
        arith,
        size-is,
        table_name-few plan accepted place below,
        where-few ordinal key,
        length-append (codes "DELETE FROM " ++ name) (where_key plan place ordinal),
        length-append (codes "DELETE FROM ") name,
      )

  module _ (unit ordinal : ℕ) (sizes : HasSizes (record { plan = plan; table = place; unit = unit }) ordinal) where
    abbrev row : Row
    row = row_at (generator_of plan) place unit ordinal

    literal-few : (column : ℕ) → column < length table.columns → length (literal_at plan unit place row column) ≤ literal_of_column (layout_of plan) table (column_at table.columns column)
    literal-few column within =
        literal-size (layout_of plan).delimiter _ _ (field (generator_of plan) unit place row column) (sizes.each column within)

    pub insertion-size : length (insertion_of plan unit place ordinal) ≤ statement_size (layout_of plan) place
    unfolding insertion
    insertion-size =
        let name : List ℕ = table_name plan place in
        let one : ℕ → List ℕ = literal_at plan unit place row in
        let comma : ℕ → List ℕ = λ column. codes ", " ++ one column in
        let values : List ℕ = join_by one (codes ", ") (range_with_len 0 (length table.columns)) in
        omega (
          arith,
          size-is,
          table_name-few plan accepted place below,
          join-few one (codes ", ") (range_with_len 0 (length table.columns)),
          sum-of comma most table.columns 0
              (λ column within. let at : 0 + column ≡ column = omega arith in omega (arith, literal-few column within, length-append (codes ", ") (one column), ap (λ (n : ℕ). length (comma n)) at)),
          length-append (codes "INSERT INTO " ++ name ++ codes " VALUES (" ++ values) (codes ");\n"),
          length-append (codes "INSERT INTO " ++ name ++ codes " VALUES (") values,
          length-append (codes "INSERT INTO " ++ name) (codes " VALUES ("),
          length-append (codes "INSERT INTO ") name,
        )

    pub update-size : small ordinal → length (update_of plan unit place ordinal) ≤ statement_size (layout_of plan) place
    unfolding update
    update-size key = elim (cases_lt 1 (column_count plan place)) [
      | inr alone ↦ rw (le-leb (column_count plan place) 1 alone) (omega arith)
      | inl several ↦
          let name : List ℕ = table_name plan place in
          let one : ℕ → List ℕ = assignment plan unit place row in
          let comma : ℕ → List ℕ = λ column. codes ", " ++ one column in
          let own : ℕ → List ℕ = column_name plan place in
          let held : ℕ → List ℕ = literal_at plan unit place row in
          let others : List ℕ = drop 1 (range_with_len 0 (length table.columns)) in
          let values : List ℕ = join_by one (codes ", ") others in
          let whole : length (codes "UPDATE " ++ name ++ codes " SET " ++ values ++ where_key plan place ordinal) ≤ statement_size (layout_of plan) place =
          omega (
            arith,
            size-is,
            table_name-few plan accepted place below,
            where-few ordinal key,
            join-few one (codes ", ") others,
            sum-others comma most table.columns
                (λ column within. omega (
                  arith,
                  literal-few column within,
                  column_name-few plan accepted place column below within,
                  length-append (codes ", ") (one column),
                  length-append (own column ++ codes " = ") (held column),
                  length-append (own column) (codes " = "),
                )),
            length-append (codes "UPDATE " ++ name ++ codes " SET " ++ values) (where_key plan place ordinal),
            length-append (codes "UPDATE " ++ name ++ codes " SET ") values,
            length-append (codes "UPDATE " ++ name) (codes " SET "),
            length-append (codes "UPDATE ") name,
          ) in
          rw (lt-leb (column_count plan place) 1 several) whole
    ]
