-- A field is within the greatest line.
use Rattle.std.proofs.Common.{◌≡◌, ◌<◌, ◌≤◌, ℕ, ◌+◌, List, map, length, sum_by, arith}
use Rattle.std.proofs.lemmas.List.Folds.{fold-map}
use Rattle.std.proofs.lemmas.List.Sums.{get_or-le-sum_by}
use Rattle.schema_facts.specs.FieldSizes.{size_of}
use Rattle.schema_facts.specs.Layout.{ColumnLayout, Layout, no_column, table_at}
use Rattle.schema_facts.specs.TableFacts.{max_line}
use Rattle.draw_values.specs.Values.{size_at}

pub sum_by-map : {A B : Type 0} (f : A → B) (number : B → ℕ) (xs : List A) → sum_by number (map f xs) ≡ sum_by (λ x. number (f x)) xs
sum_by-map f number xs = fold-map (λ all y. all + number y) f 0 xs

pub size_at-within : (layout : Layout) (table place : ℕ) → place < length (table_at layout.tables table).columns → size_at layout table place ≤ max_line layout table
unfolding max_line
size_at-within layout table place within =
    let columns : List ColumnLayout = (table_at layout.tables table).columns in
    let taken : ColumnLayout → ℕ = λ (column : ColumnLayout). size_of layout.delimiter layout.tables columns column.kind + 1 in
    omega (
      arith,
      sum_by-map (λ (column : ColumnLayout). size_of layout.delimiter layout.tables columns column.kind) (λ size. size + 1) columns,
      get_or-le-sum_by taken columns place no_column within,
    )
