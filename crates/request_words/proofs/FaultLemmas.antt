-- The faults of words: none of them is want of memory.
use Rattle.std.proofs.Common.{◌≢◌, ℕ, Bool, true, false, List, [], ◌∷◌, Option, None, Some, Result, Err, subst}
use Rattle.std.specs.Prelude.{⊤, if◌then◌else◌, IfErr, IfSome, is_some}
use Rattle.std.specs.Option.{option_and_then, option_or}
use Rattle.request_words.specs.Form.{given_in, has_form, mode_in}
use Rattle.request_words.specs.Options.{Given, format_given, format_named, header_given, header_named, input_format_named, is_number_of, mode_named, order, request_of, takes}
use Rattle.request_words.specs.Words.{fault_of, first_fault, header_fault, of_mode, option_fault, request, unless_fault, value_fault}
use Rattle.request_words.specs.declared.options.Form.{Form}
use Rattle.request_words.specs.declared.options.Form.TheVariants.{Text, Number, FromOneTo, Directory, FormatName, InputFormat, HeaderName}
use Rattle.request_words.specs.declared.options.Take.{Take}
use Rattle.request_words.specs.declared.options.Take.TheVariants.{Unwanted, Optional, Preset, Needed}
use Rattle.request_words.specs.declared.usage.Format.{Format}
use Rattle.request_words.specs.declared.usage.Format.TheVariants.{Copy, Csv, Sql}
use Rattle.request_words.specs.declared.usage.Header.{Header}
use Rattle.request_words.specs.declared.usage.Header.TheVariants as header
use Rattle.request_words.specs.declared.usage.Mode.{Mode}
use Rattle.request_words.specs.declared.usage.OptionName.{OptionName}
use Rattle.request_words.specs.declared.usage.OptionName.TheVariants as option
use Rattle.request_words.specs.declared.usage.Request.{Request}
use Rattle.request_words.specs.declared.usage.UsageFault.{UsageFault}
use Rattle.request_words.specs.declared.usage.UsageFault.TheVariants as usage

-- a fault that words have
abbrev IsOfWords : UsageFault → Type 0
IsOfWords usage.Memory = ⊥
IsOfWords _ = ⊤

number_fault-of_words : (name : OptionName) (is : Bool) → IfSome (if is then None else Some (usage.Number name)) IsOfWords
number_fault-of_words name true = tt
number_fault-of_words name false = tt

format_fault-of_words : (is : Bool) → IfSome (if is then None else Some usage.Format) IsOfWords
format_fault-of_words true = tt
format_fault-of_words false = tt

header_name-of_words : (is : Bool) → IfSome (if is then None else Some usage.Header) IsOfWords
header_name-of_words true = tt
header_name-of_words false = tt

value_fault-of_words : (form : Form) (name : OptionName) (value : List ℕ) → IfSome (value_fault form name value) IsOfWords
value_fault-of_words Text name value = tt
value_fault-of_words Number name value = number_fault-of_words name (is_number_of Number value)
value_fault-of_words (FromOneTo most) name value = number_fault-of_words name (is_number_of (FromOneTo most) value)
value_fault-of_words Directory name [] = tt
value_fault-of_words Directory name (byte ∷ value) = tt
value_fault-of_words FormatName name value = format_fault-of_words (is_some (format_named value))
value_fault-of_words InputFormat name value = format_fault-of_words (is_some (input_format_named value))
value_fault-of_words HeaderName name value = header_name-of_words (is_some (header_named value))

option_fault-of_words : (take : Take) (name : OptionName) (value : Option (List ℕ)) → IfSome (option_fault take name value) IsOfWords
option_fault-of_words Unwanted name None = tt
option_fault-of_words Unwanted name (Some value) = tt
option_fault-of_words (Optional form) name None = tt
option_fault-of_words (Optional form) name (Some value) = value_fault-of_words form name value
option_fault-of_words (Preset form number) name None = tt
option_fault-of_words (Preset form number) name (Some value) = value_fault-of_words form name value
option_fault-of_words (Needed form) name None = tt
option_fault-of_words (Needed form) name (Some value) = value_fault-of_words form name value

option_or-of_words : (first second : Option UsageFault) → IfSome first IsOfWords → IfSome second IsOfWords → IfSome (option_or first second) IsOfWords
option_or-of_words None second one two = two
option_or-of_words (Some fault) second one two = one

first_fault-of_words : (mode : Mode) (given : Given) (names : List OptionName) → IfSome (first_fault mode given names) IsOfWords
first_fault-of_words mode given [] = tt
first_fault-of_words mode given (name ∷ names) =
    option_or-of_words _ _ (option_fault-of_words (takes mode name) name (given name)) (first_fault-of_words mode given names)

header_fault-of_words : (h : Header) (format : Format) → IfSome (header_fault h format) IsOfWords
header_fault-of_words header.None format = tt
header_fault-of_words header.Names Copy = tt
header_fault-of_words header.Names Csv = tt
header_fault-of_words header.Names Sql = tt

fault_of-of_words : (mode : Mode) (given : Given) → IfSome (fault_of mode given) IsOfWords
fault_of-of_words mode given =
    option_or-of_words _ _ (first_fault-of_words mode given order) (header_fault-of_words (header_given (given option.Header)) (format_given (given option.Format)))

-- that it is no want of memory
abbrev IsOther : UsageFault → Type 0
IsOther fault = fault ≢ usage.Memory

unless_fault-other : (fault : Option UsageFault) (r : Request) → IfSome fault IsOfWords → IfErr (unless_fault fault r) IsOther
unless_fault-other None r of = tt
unless_fault-other (Some fault) r of = λ same. subst IsOfWords same of

of_mode-other : (mode : Option Mode) (given : Given) → IfErr (of_mode mode given) IsOther
of_mode-other None given = λ same. subst IsOfWords same tt
of_mode-other (Some mode) given = unless_fault-other (fault_of mode given) (request_of mode given) (fault_of-of_words mode given)

if-other : (is : Bool) (q : Result Request UsageFault) → IfErr q IsOther → IfErr (if is then q else Err usage.Words) IsOther
if-other true q of = of
if-other false q of = λ same. subst IsOfWords same tt

pub request-other : (words : List (List ℕ)) → IfErr (request words) IsOther
unfolding request
request-other [] = λ same. subst IsOfWords same tt
request-other (program ∷ words) =
    if-other (has_form words) _ (of_mode-other (option_and_then mode_named (mode_in words)) (given_in words))
