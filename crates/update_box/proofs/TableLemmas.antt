-- What is made ready for the lines of tables, one after the other.
use Rattle.std.proofs.Common.{◌<◌, ℕ, ◌+◌, List, get_or, arith}
use Rattle.schema_facts.specs.Dictionaries.{Project}
use Rattle.row_lines.specs.TableLines.{AreTableLines, TableLinesOf}

-- the lines of the tables from a place on, as many as `count`
abbrev pub AreFirstLines : Project → ℕ → ℕ → List TableLinesOf → Type 0
AreFirstLines plan from count lines = (number : ℕ) (d : TableLinesOf) → number < count → AreTableLines plan (from + number) (get_or lines number d)

-- none
pub first_lines-none : (plan : Project) (from : ℕ) (lines : List TableLinesOf) → AreFirstLines plan from 0 lines
first_lines-none plan from lines number d below = absurd (omega (arith, below))
