-- Pages that take statements take lines, and what stands between the fields of a line.
use Rattle.std.proofs.Common.{◌≤◌, ℕ, Bool, true, false, ◌+◌, ◌*◌, List, [], ◌∷◌, fold, map, max, arith, refl, inl, inr}
use Rattle.std.specs.Prelude.{sum_by}
use Rattle.std.proofs.lemmas.List.Sums.{sum_by-cons}
use Rattle.std.proofs.lemmas.Nat.{mul-le}
use Rattle.schema_facts.specs.Dictionaries.{Project}
use Rattle.schema_facts.specs.FieldSizes.{size_of}
use Rattle.schema_facts.specs.Layout.{ColumnLayout, Layout, TableLayout, layout_of}
use Rattle.schema_facts.specs.TableFacts.{line_of_table, reach}
use Rattle.sql_lines.specs.Bare.{is_bare}
use Rattle.sql_lines.specs.Reach.{literal_of_column, literal_size, statement_of_table, statement_reach}
use Rattle.run_jobs.specs.DueFiles.{most_page_bytes, page_bytes}
use Rattle.row_text.specs.Fields.{IsDelimiter}
use Rattle.schema_model.specs.declared.table.Delimiter.{Delimiter}
use Rattle.schema_model.specs.declared.table.Delimiter.TheVariants.{Bar, Tab}
use Rattle.schema_facts.specs.Delimiters.{delimiter_byte}

-- no line is longer than the longest statement
greatest-more : {A : Type 0} (f g : A → ℕ) (xs : List A) (a b : ℕ) → a ≤ b → ((x : A) → f x ≤ g x) → fold (λ m x. max m (f x)) a xs ≤ fold (λ m x. max m (g x)) b xs
greatest-more f g [] a b less each = less
greatest-more f g (x ∷ xs) a b less each = greatest-more f g xs (max a (f x)) (max b (g x)) (omega (arith, less, each x)) each

literal-more : (bare : Bool) (size : ℕ) → size ≤ literal_size bare size
literal-more true size = omega arith
literal-more false size = omega arith

fields-more : (size literal : ColumnLayout → ℕ) (columns : List ColumnLayout) → ((column : ColumnLayout) → size column ≤ literal column) →
    sum_by (λ n. n + 1) (map size columns) ≤ sum_by (λ (column : ColumnLayout). 40 + literal column) columns
fields-more size literal [] each = omega arith
fields-more size literal (column ∷ columns) each =
    omega (
      arith,
      sum_by-cons (λ n. n + 1) (size column) (map size columns),
      sum_by-cons (λ (c : ColumnLayout). 40 + literal c) column columns,
      each column,
      fields-more size literal columns each,
    )

table-more : (layout : Layout) (table : TableLayout) → line_of_table layout table ≤ statement_of_table layout table
table-more layout table =
    omega (
      arith,
      fields-more (λ (column : ColumnLayout). size_of layout.delimiter layout.tables table.columns column.kind) (literal_of_column layout table) table.columns
          (λ column. literal-more (is_bare layout.tables column.kind) (size_of layout.delimiter layout.tables table.columns column.kind)),
    )

pub reach-more : (layout : Layout) → reach layout ≤ statement_reach layout
unfolding reach statement_reach
reach-more layout = greatest-more (line_of_table layout) (statement_of_table layout) layout.tables 0 0 (omega arith) (table-more layout)

-- so pages that take statements take lines
pub pages-more : (layout : Layout) (workers lines : ℕ) → page_bytes workers lines (statement_reach layout) ≤ most_page_bytes → page_bytes workers lines (reach layout) ≤ most_page_bytes
pages-more layout workers lines few =
    omega (arith, few, mul-le (8 * workers * lines) (reach layout) (8 * workers * lines) (statement_reach layout) (omega arith) (reach-more layout))

pub delimits : (plan : Project) → IsDelimiter (layout_of plan).delimiter
delimits plan = of_delimiter plan.schema.delimiter
  where
    of_delimiter : (delimiter : Delimiter) → IsDelimiter (delimiter_byte delimiter)
    of_delimiter Tab = inl refl
    of_delimiter Bar = inr refl
