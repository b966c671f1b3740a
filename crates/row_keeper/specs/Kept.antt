-- The rows that a store keeps, and what a statement makes of them.
use Rattle.std.specs.Prelude.{ℕ, ◌==◌, Bool, ◌&&◌, List, fold, if◌then◌else◌, All, IfSome, IsSome, Option, Some, None}
use Rattle.row_keeper.specs.declared.keeper.RefTo.{RefTo}

-- a row: where its references lead that aren't null, and its line
pub record KeptRow : Type 0 where
  pub refs : List RefTo
  pub line : List ℕ

-- rows by the place of their table and their key
abbrev pub KeptRows : Type 0
KeptRows = ℕ → ℕ → Option KeptRow

abbrev pub no_rows : KeptRows
no_rows table key = None

-- whether a row of a table and a key is that of others
abbrev pub is_row : ℕ → ℕ → ℕ → ℕ → Bool
is_row table key other_table other_key = table == other_table && key == other_key

-- under a key of a table stands this, and all others stay
abbrev pub with_row : ℕ → ℕ → Option KeptRow → KeptRows → KeptRows
with_row table key row rows other_table other_key =
    if is_row table key other_table other_key then row else rows other_table other_key

-- a statement: a row of a table is put under its key, or the row with a key is dropped
pub data Statement : Type 0 where
  put_row : ℕ → ℕ → KeptRow → Statement
  drop_row : ℕ → ℕ → Statement

-- the rows after it
abbrev pub after_statement : KeptRows → Statement → KeptRows
after_statement rows (put_row table key row) = with_row table key (Some row) rows
after_statement rows (drop_row table key) = with_row table key None rows

-- and after several, in order
abbrev pub after_statements : List Statement → KeptRows → KeptRows
after_statements statements rows = fold after_statement rows statements

-- each reference of each row leads to a row: none dangles
abbrev pub NoneDangles : KeptRows → Type 0
NoneDangles rows =
    (table key : ℕ) → IfSome (rows table key) (λ row. All (λ (ref : RefTo). IsSome (rows ref.table ref.key)) row.refs)
