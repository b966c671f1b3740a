-- The types of values that keys want: for each, the value that some data are, where they are of the type.
use Rattle.std.specs.Prelude.{ℕ, ℤ, pos, List, [], ◌∷◌, Bool, false, Option, Some, None, is_some, option_map, option_and_then, codes, if◌then◌else◌}
use Rattle.std.specs.Option.{option_or}
use Rattle.std.specs.List.{list_all}
use Rattle.toml.specs.Data.{Data, Members, get_member, as_integer, as_str, as_bool, as_array, as_table}
use Rattle.schema_model.specs.declared.table.Delimiter.{Delimiter}
use Rattle.schema_model.specs.declared.table.Delimiter.TheVariants.{Tab, Bar}
use Rattle.schema_model.specs.declared.table.Life.{Life}
use Rattle.schema_model.specs.declared.table.Phase.{Phase}
use Rattle.schema_model.specs.declared.column.Deal.{Deal}
use Rattle.schema_model.specs.declared.column.Deal.TheVariants.{Turn, Drawn}
use Rattle.schema_model.specs.declared.column.OnDelete.{OnDelete}
use Rattle.schema_model.specs.declared.column.OnDelete.TheVariants.{Cascade, Null}
use Rattle.schema_model.specs.declared.column.Part.{Part}
use Rattle.schema_model.specs.declared.column.Part.TheVariants.{Literal, Cited, Padded}
use Rattle.schema_model.specs.declared.column.Window.{Window}
use Rattle.schema_model.specs.declared.column.Window.TheVariants.{Units, All}
use Rattle.schema_read.specs.declared.fault.Expected.{Expected}
use Rattle.schema_read.specs.declared.fault.Expected.TheVariants as type
use Rattle.schema_read.specs.declared.kind_name.KindName.{KindName}
use Rattle.schema_read.specs.declared.kind_name.LeafName.{LeafName}
use Rattle.schema_read.specs.Dates.{day_named}
use Rattle.schema_read.specs.Document.{elements, member_names, same_bytes}
use Rattle.schema_read.specs.Keys.{key_name, is_among}
use Rattle.schema_read.specs.declared.schema_key.SchemaKey.TheVariants.{Column, Width}
use Rattle.schema_read.specs.Kinds.{kind_named, leaf_named}

-- the items, each read, where each can be
abbrev pub all_read : {A : Type 0} → (Data → Option A) → List Data → Option (List A)
all_read read [] = Some []
all_read read (d ∷ ds) = option_and_then (λ x. option_map (λ xs. x ∷ xs) (all_read read ds)) (read d)

-- the elements of an array, each read, where each can be
abbrev pub as_list_of : {A : Type 0} → (Data → Option A) → Data → Option (List A)
as_list_of read d = option_and_then (λ ds. all_read read (elements ds)) (as_array d)

abbrev pub delimiter_named : List ℕ → Option Delimiter
delimiter_named name = if same_bytes name (codes "tab") then Some Tab else (if same_bytes name (codes "bar") then Some Bar else None)

abbrev pub as_delimiter : Data → Option Delimiter
as_delimiter d = option_and_then delimiter_named (as_str d)

-- two whole numbers, and no more
abbrev pub pair_of : List Data → Option (ℤ × ℤ)
pair_of (first ∷ second ∷ []) = option_and_then (λ a. option_map (λ b. (a, b)) (as_integer second)) (as_integer first)
pair_of _ = None

abbrev pub as_pair : Data → Option (ℤ × ℤ)
as_pair d = option_and_then (λ ds. pair_of (elements ds)) (as_array d)

abbrev pub as_life : Data → Option Life
as_life d = option_map (λ pair. record { lo = pair.0; hi = pair.1 }) (as_pair d)

abbrev pub as_phase : Data → Option Phase
as_phase d = option_map (λ pair. record { from = pair.0; rate = pair.1 }) (as_pair d)

-- the one phase of a rate that stays
abbrev pub one_phase : ℤ → List Phase
one_phase n = record { from = pos 1; rate = n } ∷ []

-- a whole number is the rate of one phase; an array has a pair for each
abbrev pub as_phases : Data → Option (List Phase)
as_phases d = option_or (option_map one_phase (as_integer d)) (as_list_of as_phase d)

abbrev pub as_kind : Data → Option KindName
as_kind d = option_and_then kind_named (as_str d)

abbrev pub as_leaf : Data → Option LeafName
as_leaf d = option_and_then leaf_named (as_str d)

-- the day number of a date
abbrev pub as_day : Data → Option ℤ
as_day d = option_and_then day_named (as_str d)

-- the name of the column that a table with the one key `column` cites
abbrev pub cited : Members → Option (List ℕ)
cited ms = if list_all (is_among (Column ∷ [])) (member_names ms) then option_and_then as_str (get_member (key_name Column) ms) else None

-- the column that a table with the two keys `column` and `width` cites, and the width
abbrev pub padded : Members → Option (List ℕ × ℤ)
padded ms =
    if list_all (is_among (Column ∷ Width ∷ [])) (member_names ms)
    then option_and_then (λ name. option_map (λ width. (name, width)) (option_and_then as_integer (get_member (key_name Width) ms)))
    (option_and_then as_str (get_member (key_name Column) ms))
    else None

abbrev pub part_of_table : Members → Option Part
part_of_table ms = option_or (option_map Cited (cited ms)) (option_map (λ at. Padded at.0 at.1) (padded ms))

abbrev pub as_part : Data → Option Part
as_part d = option_or (option_map Literal (as_str d)) (option_and_then part_of_table (as_table d))

abbrev pub window_named : List ℕ → Option Window
window_named name = if same_bytes name (codes "all") then Some All else None

abbrev pub as_window : Data → Option Window
as_window d = option_or (option_map Units (as_integer d)) (option_and_then window_named (as_str d))

abbrev pub deletion_named : List ℕ → Option OnDelete
deletion_named name = if same_bytes name (codes "cascade") then Some Cascade else (if same_bytes name (codes "null") then Some Null else None)

abbrev pub as_deletion : Data → Option OnDelete
as_deletion d = option_and_then deletion_named (as_str d)

abbrev pub deal_named : List ℕ → Option Deal
deal_named name = if same_bytes name (codes "turn") then Some Turn else (if same_bytes name (codes "drawn") then Some Drawn else None)

abbrev pub as_deal : Data → Option Deal
as_deal d = option_and_then deal_named (as_str d)

-- whether a value is of a type
abbrev pub fits : Expected → Data → Bool
fits type.Whole d = is_some (as_integer d)
fits type.TextValue d = is_some (as_str d)
fits type.Flag d = is_some (as_bool d)
fits type.DelimiterName d = is_some (as_delimiter d)
fits type.TableList d = is_some (as_list_of as_table d)
fits type.TwoWholes d = is_some (as_life d)
fits type.KindName d = is_some (as_kind d)
fits type.LeafName d = is_some (as_leaf d)
fits type.DateText d = is_some (as_day d)
fits type.TextList d = is_some (as_list_of as_str d)
fits type.Wholes d = is_some (as_list_of as_integer d)
fits type.PartList d = is_some (as_list_of as_part d)
fits type.WindowValue d = is_some (as_window d)
fits type.InsertValue d = is_some (as_phases d)
fits type.DeleteName d = is_some (as_deletion d)
fits type.DealName d = is_some (as_deal d)
fits type.NoSuchKey d = false
