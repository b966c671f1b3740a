-- What the schema of some bytes says of their document.
use Rattle.std.proofs.Common.{◌≡◌, ◌↔◌, Option, Some, None, Result, Ok, Err, refl, ap, subst}
use Rattle.toml.specs.Data.{Members}
use Rattle.schema_model.specs.declared.table.Schema.{Schema}
use Rattle.schema_read.specs.declared.fault.Expected.{Expected}
use Rattle.schema_read.specs.declared.fault.Place.{Place}
use Rattle.schema_read.specs.declared.fault.Wrong.{Wrong}
use Rattle.schema_read.specs.declared.read.ReadSchemaFault.{ReadSchemaFault}
use Rattle.schema_read.specs.declared.read.ReadSchemaFault.TheVariants.{Syntax, Shape}
use Rattle.schema_read.specs.declared.schema_key.SchemaKey.{SchemaKey}
use Rattle.schema_read.specs.Order.{AreRight, IsFirstOf, TellsFirst, document_readings}
use Rattle.schema_read.specs.Schema.{unless_wrong, schema_of_document}
use Rattle.schema_read.specs.Shape.{first_wrong_key, schema}
use Rattle.schema_read.specs.Wanted.{wrong_at}
use Rattle.schema_read.proofs.FirstWrong.{document-first}

-- the wrong key that an answer tells of
abbrev told : Result Schema ReadSchemaFault → Option Wrong
told (Err (Shape p k e)) = Some (wrong_at p k e)
told _ = None

wrong_from_shape : (o : Option Wrong) (s : Schema) (p : Place) (k : SchemaKey) (e : Expected) → unless_wrong o s ≡ Err (Shape p k e) → o ≡ Some (wrong_at p k e)
wrong_from_shape None s p k e is = absurd cc
wrong_from_shape (Some w) s p k e is = ap told is

right_from_schema : (o : Option Wrong) (s r : Schema) → unless_wrong o s ≡ Ok r → (o ≡ None) × (r ≡ s)
right_from_schema None s r is = (refl, cc)
right_from_schema (Some w) s r is = absurd cc

not_syntax : (o : Option Wrong) (s : Schema) → unless_wrong o s ≡ Err Syntax → ⊥
not_syntax None s is = cc
not_syntax (Some w) s is = cc

pub syntax_where_no_document : (o : Option Members) → (schema_of_document o ≡ Err Syntax) ↔ (o ≡ None)
syntax_where_no_document None = (λ is. refl, λ is. refl)
syntax_where_no_document (Some ms) = (λ is. absurd (not_syntax (first_wrong_key ms) (schema ms) is), λ is. absurd cc)

pub refused_for_first : (o : Option Members) (p : Place) (k : SchemaKey) (e : Expected) → schema_of_document o ≡ Err (Shape p k e)
    → (ms : Members) × (o ≡ Some ms) × IsFirstOf (wrong_at p k e) (document_readings ms)
refused_for_first None p k e is = absurd cc
refused_for_first (Some ms) p k e is =
    (ms, refl, subst (λ (o : Option Wrong). TellsFirst o (document_readings ms)) (wrong_from_shape (first_wrong_key ms) (schema ms) p k e is) (document-first ms))

pub read_where_right : (o : Option Members) (r : Schema) → schema_of_document o ≡ Ok r
    → (ms : Members) × (o ≡ Some ms) × AreRight (document_readings ms) × (r ≡ schema ms)
read_where_right None r is = absurd cc
read_where_right (Some ms) r is =
    let (right, same) = right_from_schema (first_wrong_key ms) (schema ms) r is in
    (ms, refl, subst (λ (o : Option Wrong). TellsFirst o (document_readings ms)) right (document-first ms), same)
