-- The ranges of a request's numbers.
use Rattle.std.specs.Prelude.{ℕ, ◌≤◌, IfSome, ⊤}
use Rattle.request_words.specs.Options.{takes}
use Rattle.request_words.specs.declared.options.Form.{Form}
use Rattle.request_words.specs.declared.options.Form.TheVariants.{Text, Number, FromOneTo, Directory, FormatName, InputFormat, HeaderName}
use Rattle.request_words.specs.declared.options.Take.{Take}
use Rattle.request_words.specs.declared.options.Take.TheVariants.{Unwanted, Optional, Preset, Needed}
use Rattle.request_words.specs.declared.usage.OptionName.TheVariants as option
use Rattle.request_words.specs.declared.usage.Request.{Request}

-- a number of this form
abbrev pub IsOfForm : Form → ℕ → Type 0
IsOfForm Text n = ⊤
IsOfForm Number n = ⊤
IsOfForm (FromOneTo most) n = (1 ≤ n) × (n ≤ most)
IsOfForm Directory n = ⊤
IsOfForm FormatName n = ⊤
IsOfForm InputFormat n = ⊤
IsOfForm HeaderName n = ⊤

-- a number of the form that a mode wants of an option, where it takes it
abbrev pub IsTaken : Take → ℕ → Type 0
IsTaken Unwanted n = ⊤
IsTaken (Optional form) n = IsOfForm form n
IsTaken (Preset form number) n = IsOfForm form n
IsTaken (Needed form) n = IsOfForm form n

-- the numbers of a request are within the ranges of the options that its mode takes
pub record AreWithinRanges (request : Request) : Type 0 where
  pub workers : IsTaken (takes request.mode option.Workers) request.workers
  pub lines : IfSome request.package (IsTaken (takes request.mode option.Package))
  pub nodes : IsTaken (takes request.mode option.Nodes) request.nodes
  pub size : IsTaken (takes request.mode option.Size) request.size
