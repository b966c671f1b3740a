-- What a reader of CSV has read.
use Rattle.std.specs.Borrow.{Bor}
use Rattle.std.specs.Prelude.{◌≡◌, ℕ, List, Some, true}
use Rattle.csv.specs.Reading.{Reached, Ready, default_config, source_of, strip_bom}
use Rattle.csv.specs.declared.parser.State.TheVariants as st
use Rattle.csv.specs.declared.reader.Reader.{Reader}
use Rattle.csv.specs.declared.reader.Trim.TheVariants as trim

-- it gives each record as it stands, whatever its length, as the crate `csv` does where nothing else is asked for
pub record CanRead (reader : Reader (Bor (List ℕ))) : Type 0 where
  pub flexible : reader.flexible ≡ true
  pub trim : reader.trim ≡ trim.None
  pub ready : Ready reader
  pub config : reader.config ≡ default_config

-- it stands after these records of bytes, the first ones
pub record StandsAfter (bytes : List ℕ) (records : List (List (List ℕ))) (reader : Reader (Bor (List ℕ))) : Type 0 where
  pub left : List ℕ
  pub source : source_of (λ s. Some s.now) reader ≡ Some left
  pub reached : Reached default_config st.StartRecord (strip_bom bytes) records reader.state left
