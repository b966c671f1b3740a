-- The detail table that bytes declare, or why they declare none.
use Rattle.std.specs.Prelude.{ℕ, List, Option, Some, None, Result, Ok, Err}
use Rattle.toml.specs.Data.{Members}
use Rattle.schema_read.specs.Document.{document}
use Rattle.detail_plan.specs.declared.detail.Detail.{Detail}
use Rattle.detail_plan.specs.declared.read.DetailReadFault.{DetailReadFault}
use Rattle.detail_plan.specs.declared.read.DetailReadFault.TheVariants.{Syntax, WrongForm}
use Rattle.detail_plan.specs.Form.{detail_given}

-- what is declared, where it is of the form
abbrev pub of_the_form : Option Detail → Result Detail DetailReadFault
of_the_form None = Err WrongForm
of_the_form (Some detail) = Ok detail

-- what a document declares, where there is one
abbrev pub declared_by : Option Members → Result Detail DetailReadFault
declared_by None = Err Syntax
declared_by (Some members) = of_the_form (detail_given members)

-- the detail table that the bytes declare: they are no document, or it isn't of the form, or this one
unfoldable pub declared : List ℕ → Result Detail DetailReadFault
declared bytes = declared_by (document bytes)
