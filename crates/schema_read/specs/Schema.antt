-- The schema that bytes stand for, or why they stand for none.
use Rattle.std.specs.Prelude.{ℕ, List, Option, Some, None, Result, Ok, Err}
use Rattle.toml.specs.Data.{Members}
use Rattle.schema_model.specs.declared.table.Schema.{Schema}
use Rattle.schema_read.specs.declared.fault.Wrong.{Wrong}
use Rattle.schema_read.specs.declared.read.ReadSchemaFault.{ReadSchemaFault}
use Rattle.schema_read.specs.declared.read.ReadSchemaFault.TheVariants.{Syntax, Shape}
use Rattle.schema_read.specs.Document.{document}
use Rattle.schema_read.specs.Shape.{first_wrong_key, schema}

-- the schema where no key is wrong, and else the wrong key
abbrev pub unless_wrong : Option Wrong → Schema → Result Schema ReadSchemaFault
unless_wrong None s = Ok s
unless_wrong (Some w) s = Err (Shape w.place w.key w.expected)

-- the schema of a document, or its first wrong key
abbrev pub schema_of_document : Option Members → Result Schema ReadSchemaFault
schema_of_document None = Err Syntax
schema_of_document (Some ms) = unless_wrong (first_wrong_key ms) (schema ms)

-- the schema that the bytes stand for, or the first wrong key of their document, or that they are no document
unfoldable pub schema_of : List ℕ → Result Schema ReadSchemaFault
schema_of bytes = schema_of_document (document bytes)
