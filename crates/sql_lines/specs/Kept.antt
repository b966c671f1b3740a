-- What a packer of statements keeps.
use Rattle.std.specs.Prelude.{◌≡◌, ◌≤◌, ℕ, ◌^◌, [], ⊤}
use Rattle.schema_facts.specs.Dictionaries.{Project}
use Rattle.row_lines.specs.Runs.{run_text}
use Rattle.update_box.specs.Prepared.{ArePrepared, IsAmong, Prepared}
use Rattle.sql_lines.specs.Frames.{FrameOf, deletion_frame, insertion_frame, update_frame}
use Rattle.sql_lines.specs.Packages.{AreRowsOf, Packages, StatedRows, count_of, deleted_rows, inserted_rows, room_of, row_count, updated_rows}

-- the frame of the statements of some rows
abbrev pub frame_stated : Project → ℕ → StatedRows → FrameOf
frame_stated plan table (inserted_rows from to unit) = insertion_frame plan table
frame_stated plan table (deleted_rows ordinals) = deletion_frame plan table
frame_stated plan table (updated_rows ordinals unit) = update_frame plan table

-- an ordinal before which no row that is inserted is alive
abbrev pub IsLivingFrom : Project → ℕ → StatedRows → ℕ → Type 0
IsLivingFrom plan table (inserted_rows from to unit) living = run_text (record { plan = plan; table = table; unit = unit }) 0 living ≡ []
IsLivingFrom plan table (deleted_rows ordinals) living = ⊤
IsLivingFrom plan table (updated_rows ordinals unit) living = ⊤

-- the packages as they are kept, with the frame of their statements, their number, the room that they want, and such an ordinal
pub record AreKept (packages : Packages) (tables : Prepared) (frame : FrameOf) (count room living : ℕ) : Type 0 where
  pub prepared : ArePrepared packages.plan tables
  pub among : IsAmong tables packages.table
  pub rows : AreRowsOf packages.plan packages.table packages.rows
  pub few : row_count packages.rows ≤ 2 ^ 60
  pub some_row : 1 ≤ packages.size
  pub size_limit : packages.size ≤ 1000000
  pub frame_is : frame ≡ frame_stated packages.plan packages.table packages.rows
  pub count_is : count ≡ count_of packages
  pub room_is : room ≡ room_of packages
  pub living_from : IsLivingFrom packages.plan packages.table packages.rows living
