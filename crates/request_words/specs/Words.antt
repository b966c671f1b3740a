-- The request that the words of a command line give, or what is wrong with them first.
use Rattle.std.specs.Prelude.{ℕ, Bool, List, [], ◌∷◌, Option, Some, None, Result, Ok, Err, if◌then◌else◌, is_some}
use Rattle.std.specs.Option.{option_and_then, option_or}
use Rattle.request_words.specs.Form.{given_in, has_form, mode_in}
use Rattle.request_words.specs.Options.{Given, format_given, format_named, header_given, header_named, input_format_named, is_number_of, mode_named, order, request_of, takes}
use Rattle.request_words.specs.declared.options.Form.{Form}
use Rattle.request_words.specs.declared.options.Form.TheVariants.{Text, Number, FromOneTo, Directory, FormatName, InputFormat, HeaderName}
use Rattle.request_words.specs.declared.options.Take.{Take}
use Rattle.request_words.specs.declared.options.Take.TheVariants.{Unwanted, Optional, Preset, Needed}
use Rattle.request_words.specs.declared.usage.Format.{Format}
use Rattle.request_words.specs.declared.usage.Format.TheVariants.{Copy, Sql}
use Rattle.request_words.specs.declared.usage.Header.{Header}
use Rattle.request_words.specs.declared.usage.Header.TheVariants.{Names}
use Rattle.request_words.specs.declared.usage.Mode.{Mode}
use Rattle.request_words.specs.declared.usage.OptionName.{OptionName}
use Rattle.request_words.specs.declared.usage.OptionName.TheVariants as option
use Rattle.request_words.specs.declared.usage.Request.{Request}
use Rattle.request_words.specs.declared.usage.UsageFault.{UsageFault}
use Rattle.request_words.specs.declared.usage.UsageFault.TheVariants as usage

-- what is wrong with a number of this form
abbrev pub number_fault : Form → OptionName → List ℕ → Option UsageFault
number_fault form name value = if is_number_of form value then None else Some (usage.Number name)

-- what is wrong with the name of a format, by whether there is such a format
abbrev pub format_fault : Bool → Option UsageFault
format_fault is = if is then None else Some usage.Format

-- what is wrong with a value: a number is to be one of its form, a directory isn't the empty text, and a format and a header have their names
abbrev pub value_fault : Form → OptionName → List ℕ → Option UsageFault
value_fault Text name value = None
value_fault Number name value = number_fault Number name value
value_fault (FromOneTo most) name value = number_fault (FromOneTo most) name value
value_fault Directory name [] = Some (usage.EmptyDirectory name)
value_fault Directory name (byte ∷ value) = None
value_fault FormatName name value = format_fault (is_some (format_named value))
value_fault InputFormat name value = format_fault (is_some (input_format_named value))
value_fault HeaderName name value = if is_some (header_named value) then None else Some usage.Header

-- what is wrong with what is given for an option, by what the mode does with it
abbrev pub option_fault : Take → OptionName → Option (List ℕ) → Option UsageFault
option_fault Unwanted name None = None
option_fault Unwanted name (Some value) = Some (usage.Unwanted name)
option_fault (Optional form) name None = None
option_fault (Optional form) name (Some value) = value_fault form name value
option_fault (Preset form number) name None = None
option_fault (Preset form number) name (Some value) = value_fault form name value
option_fault (Needed form) name None = Some (usage.Missing name)
option_fault (Needed form) name (Some value) = value_fault form name value

-- the first fault of these options, in turn
abbrev pub first_fault : Mode → Given → List OptionName → Option UsageFault
first_fault mode given [] = None
first_fault mode given (name ∷ names) =
    option_or (option_fault (takes mode name) name (given name)) (first_fault mode given names)

-- names are wanted of rows that aren't written as CSV
abbrev pub header_fault : Header → Format → Option UsageFault
header_fault Names Copy = Some (usage.Unwanted option.Header)
header_fault Names Sql = Some (usage.Unwanted option.Header)
header_fault _ _ = None

-- the first fault of all options, and then of the header in its format
abbrev pub fault_of : Mode → Given → Option UsageFault
fault_of mode given = option_or (first_fault mode given order) (header_fault (header_given (given option.Header)) (format_given (given option.Format)))

abbrev pub unless_fault : Option UsageFault → Request → Result Request UsageFault
unless_fault None request = Ok request
unless_fault (Some fault) request = Err fault

-- the request that is given for a mode, where there is such a mode
abbrev pub of_mode : Option Mode → Given → Result Request UsageFault
of_mode None given = Err usage.Mode
of_mode (Some mode) given = unless_fault (fault_of mode given) (request_of mode given)

-- the request of the words after the program's name
abbrev pub of_words : List (List ℕ) → Result Request UsageFault
of_words words =
    if has_form words then of_mode (option_and_then mode_named (mode_in words)) (given_in words) else Err usage.Words

-- the request that the words give, the program's name first, or their first fault
unfoldable pub request : List (List ℕ) → Result Request UsageFault
request [] = Err usage.Words
request (program ∷ words) = of_words words
