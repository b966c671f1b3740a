-- The options: how each is written, which mode takes it, and what it gives a request.
use Rattle.std.specs.Prelude.{ℕ, ◌^◌, Bool, false, true, ◌&&◌, nat_lt, nat_le, List, [], ◌∷◌, length, Option, Some, None, codes, unwrap_or, if◌then◌else◌}
use Rattle.std.specs.Char.{is_ascii_digit}
use Rattle.std.specs.List.{list_all}
use Rattle.std.specs.Option.{option_and_then}
use Rattle.std.specs.Str.{bytes_eq}
use Rattle.std.specs.Str.Parse.{digits_value}
use Rattle.request_words.specs.declared.options.Form.{Form}
use Rattle.request_words.specs.declared.options.Form.TheVariants.{Text, Number, FromOneTo, Directory, FormatName, InputFormat, HeaderName}
use Rattle.request_words.specs.declared.options.Take.{Take}
use Rattle.request_words.specs.declared.options.Take.TheVariants.{Unwanted, Optional, Preset, Needed}
use Rattle.request_words.specs.declared.usage.Format.{Format}
use Rattle.request_words.specs.declared.usage.Format.TheVariants.{Copy, Csv, Sql}
use Rattle.request_words.specs.declared.usage.Header.{Header}
use Rattle.request_words.specs.declared.usage.Header.TheVariants as header
use Rattle.request_words.specs.declared.usage.Mode.{Mode}
use Rattle.request_words.specs.declared.usage.Mode.TheVariants.{Check, Snapshot, Unit, Row, Apply, Sample, Play, Details, DetailsUnit, DetailsApply, Undo, Revert}
use Rattle.request_words.specs.declared.usage.OptionName.{OptionName}
use Rattle.request_words.specs.declared.usage.OptionName.TheVariants as option
use Rattle.request_words.specs.declared.usage.Request.{Request}

-- the mode of this name
abbrev pub mode_named : List ℕ → Option Mode
mode_named word =
    if bytes_eq word (codes "check") then Some Check
    else (if bytes_eq word (codes "snapshot") then Some Snapshot
    else (if bytes_eq word (codes "unit") then Some Unit
    else (if bytes_eq word (codes "row") then Some Row
    else (if bytes_eq word (codes "apply") then Some Apply
    else (if bytes_eq word (codes "sample") then Some Sample
    else (if bytes_eq word (codes "play") then Some Play
    else (if bytes_eq word (codes "details") then Some Details
    else (if bytes_eq word (codes "details-unit") then Some DetailsUnit
    else (if bytes_eq word (codes "details-apply") then Some DetailsApply
    else (if bytes_eq word (codes "undo") then Some Undo
    else (if bytes_eq word (codes "revert") then Some Revert else None)))))))))))

-- the format of this name of those in which rows are read, too
abbrev pub input_format_named : List ℕ → Option Format
input_format_named word = if bytes_eq word (codes "copy") then Some Copy else (if bytes_eq word (codes "csv") then Some Csv else None)

-- the format of this name
abbrev pub format_named : List ℕ → Option Format
format_named word = if bytes_eq word (codes "sql") then Some Sql else input_format_named word

-- what files in CSV begin with, by this name
abbrev pub header_named : List ℕ → Option Header
header_named word = if bytes_eq word (codes "none") then Some header.None else (if bytes_eq word (codes "names") then Some header.Names else None)

-- ---- options and modes

-- an option's name, as it stands after two hyphens, what its value has to be, and the number that stands where it isn't given
abbrev pub option_line : OptionName → List ℕ × Form × Option ℕ
option_line option.Schema = (codes "schema", Text, None)
option_line option.Unit = (codes "unit", Number, None)
option_line option.From = (codes "from", Number, None)
option_line option.To = (codes "to", Number, None)
option_line option.Table = (codes "table", Text, None)
option_line option.Key = (codes "key", Number, None)
option_line option.In = (codes "in", Directory, None)
option_line option.Out = (codes "out", Directory, None)
option_line option.Workers = (codes "workers", FromOneTo 64, Some 4)
option_line option.Package = (codes "package", FromOneTo 1000000, None)
option_line option.Node = (codes "node", Number, Some 0)
option_line option.Nodes = (codes "nodes", FromOneTo 1024, Some 1)
option_line option.Size = (codes "size", FromOneTo 1000, None)
option_line option.Format = (codes "format", FormatName, None)
option_line option.Store = (codes "store", Text, None)
option_line option.Spec = (codes "spec", Text, None)
option_line option.Header = (codes "header", HeaderName, None)

-- what a value of a form has to be in a mode that reads rows: statements aren't read
abbrev pub input_form : Form → Form
input_form FormatName = InputFormat
input_form form = form

-- what an option's value has to be in a mode
abbrev pub form_in : Mode → OptionName → Form
form_in Apply name = input_form (option_line name).1
form_in mode name = (option_line name).1

-- whether a mode needs an option: each but one needs a schema's name
abbrev pub needs : Mode → OptionName → Bool
needs Sample option.Size = true
needs Sample name = false
needs mode option.Schema = true
needs Snapshot option.Unit = true
needs Unit option.Unit = true
needs Row option.Unit = true
needs Row option.Table = true
needs Row option.Key = true
needs Apply option.From = true
needs Apply option.To = true
needs Apply option.In = true
needs Play option.To = true
needs Play option.Store = true
needs Details option.Unit = true
needs Details option.Spec = true
needs DetailsUnit option.Unit = true
needs DetailsUnit option.Spec = true
needs DetailsApply option.From = true
needs DetailsApply option.To = true
needs DetailsApply option.In = true
needs DetailsApply option.Spec = true
needs Undo option.Unit = true
needs Revert option.From = true
needs Revert option.To = true
needs Revert option.In = true
needs mode name = false

-- whether a mode that writes rows by workers may be given an option that it doesn't need: where the rows go, and how many workers make
-- them in packages of which size
abbrev pub may_pack : OptionName → Bool
may_pack option.Out = true
may_pack option.Workers = true
may_pack option.Package = true
may_pack name = false

-- the same of one that may be shared by nodes, too, and writes in a format
abbrev pub may_share : OptionName → Bool
may_share option.Table = true
may_share option.Node = true
may_share option.Nodes = true
may_share option.Format = true
may_share option.Header = true
may_share name = may_pack name

-- whether a mode may be given an option that it doesn't need
abbrev pub may_take : Mode → OptionName → Bool
may_take Snapshot name = may_share name
may_take Unit name = may_share name
may_take Apply option.Table = true
may_take Apply option.Out = true
may_take Apply option.Format = true
may_take Apply option.Header = true
may_take Sample option.Workers = true
may_take Sample option.Package = true
may_take Details name = may_pack name
may_take DetailsUnit name = may_pack name
may_take DetailsApply option.Out = true
may_take Undo option.Table = true
may_take Undo name = may_pack name
may_take Revert option.Table = true
may_take Revert option.Out = true
may_take mode name = false

-- what is done with an option that is needed or that may be given, by what its value has to be and the number that stands where it isn't
abbrev pub take_by : Bool → Bool → Form → Option ℕ → Take
take_by true may form preset = Needed form
take_by false true form None = Optional form
take_by false true form (Some number) = Preset form number
take_by false false form preset = Unwanted

-- what a mode does with an option
abbrev pub takes : Mode → OptionName → Take
takes mode name = take_by (needs mode name) (may_take mode name) (form_in mode name) (option_line name).2

-- the name of an option
abbrev pub word_of : OptionName → List ℕ
word_of name = (option_line name).0

-- the options that are written with two hyphens, in the order in which they are tried
abbrev pub options : List OptionName
options =
    option.Unit ∷ option.From ∷ option.To ∷ option.Table ∷ option.Key ∷ option.In ∷ option.Out
    ∷ option.Workers ∷ option.Package ∷ option.Node ∷ option.Nodes
    ∷ option.Size ∷ option.Format ∷ option.Store ∷ option.Spec ∷ option.Header ∷ []

-- and the schema's name before them
abbrev pub order : List OptionName
order = option.Schema ∷ options

-- ---- what a request takes from what is given

-- what is given: for each option the word that stands for it
abbrev pub Given : Type 0
Given = OptionName → Option (List ℕ)

-- whether these are one to twenty decimal digits that stand for a number of 64 bits
abbrev pub is_number : List ℕ → Bool
is_number digits =
    nat_le 1 (length digits)
    && nat_le (length digits) 20
    && list_all is_ascii_digit digits
    && nat_lt (digits_value 10 digits) (2 ^ 64)

-- whether a word is a number of this form: any of 64 bits, or one from 1 to a most one
abbrev pub is_number_of : Form → List ℕ → Bool
is_number_of Text word = false
is_number_of Number word = is_number word
is_number_of (FromOneTo most) word =
    is_number word && nat_le 1 (digits_value 10 word) && nat_le (digits_value 10 word) most
is_number_of Directory word = false
is_number_of FormatName word = false
is_number_of InputFormat word = false
is_number_of HeaderName word = false

-- the number of this form that a word stands for
abbrev pub number_in : Form → List ℕ → Option ℕ
number_in form word = if is_number_of form word then Some (digits_value 10 word) else None

-- the number that a mode has of an option, by what it does with it: the one that is given, or the one that stands where none is
abbrev pub number_given : Take → Option (List ℕ) → Option ℕ
number_given Unwanted value = None
number_given (Optional form) value = option_and_then (number_in form) value
number_given (Preset form number) None = Some number
number_given (Preset form number) (Some word) = number_in form word
number_given (Needed form) value = option_and_then (number_in form) value

abbrev pub number_for : Mode → Given → OptionName → Option ℕ
number_for mode given name = number_given (takes mode name) (given name)

-- the same, with 0 where the mode has none
abbrev pub number_or_zero : Mode → Given → OptionName → ℕ
number_or_zero mode given name = unwrap_or (number_for mode given name) 0

-- the format that is given: lines in COPY text form where none is
abbrev pub format_given : Option (List ℕ) → Format
format_given None = Copy
format_given (Some word) = unwrap_or (format_named word) Copy

-- what is given that files in CSV begin with: their rows where nothing is
abbrev pub header_given : Option (List ℕ) → Header
header_given None = header.None
header_given (Some word) = unwrap_or (header_named word) header.None

-- the request that is given for a mode
abbrev pub request_of : Mode → Given → Request
request_of mode given = record {
  mode = mode;
  schema = unwrap_or (given option.Schema) [];
  unit = number_or_zero mode given option.Unit;
  from = number_or_zero mode given option.From;
  to = number_or_zero mode given option.To;
  table = given option.Table;
  key = number_or_zero mode given option.Key;
  source = unwrap_or (given option.In) [];
  out = given option.Out;
  workers = number_or_zero mode given option.Workers;
  «package» = number_for mode given option.Package;
  node = number_or_zero mode given option.Node;
  nodes = number_or_zero mode given option.Nodes;
  size = number_or_zero mode given option.Size;
  format = format_given (given option.Format);
  store = unwrap_or (given option.Store) [];
  spec = unwrap_or (given option.Spec) [];
  header = header_given (given option.Header);
}
