use Rattle.schema_read.specs.Document.{document}
use Rattle.schema_read.specs.Schema.{schema_of}
use Rattle.schema_read.proofs.Refusals.{syntax_where_no_document, refused_for_first, read_where_right}
use Rattle.schema_read.proofs.laws.bytes_are_refused_for_the_first_wrong_key.Goals as goal

pub returns : goal.returns
unfolding schema_of
returns c = record {
  syntax = λ bytes. syntax_where_no_document (document bytes);
  refused = λ bytes. refused_for_first (document bytes);
  read = λ bytes. read_where_right (document bytes);
}
