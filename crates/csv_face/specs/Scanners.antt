-- What is read of a text in COPY text form, and written of it as CSV.
use Rattle.std.specs.Prelude.{◌≡◌, ℕ, Bool, List, [], ◌++◌, Some, false, true}
use Rattle.std.specs.List.{list_all}
use Rattle.csv.specs.Records.{fields_of, partial_of}
use Rattle.csv.specs.Writing.{default_writer, fields_written, has_written, text_written, writer_setup}
use Rattle.csv_face.specs.Csv.{records_text}
use Rattle.csv_face.specs.Scan.{is_plain, records_behind}
use Rattle.csv_face.specs.declared.write.Scanner.{Scanner}

-- its writer stands between two records, after this text
pub record HasWritten (scanner : Scanner) (text : List ℕ) : Type 0 where
  pub setup : writer_setup scanner.writer ≡ default_writer
  pub no_field : fields_written scanner.writer ≡ 0
  pub none_shown : has_written scanner.writer ≡ false
  pub is : text_written (λ v. Some v.items) scanner.writer ≡ Some text
  pub whole_fields : partial_of scanner.fields ≡ []

-- with what is left of the text it writes the whole
pub record WillWrite (delimiter : ℕ) (scanner : Scanner) (whole rest : List ℕ) : Type 0 where
  pub text : List ℕ
  pub written : HasWritten scanner text
  pub behind :
      text ++ records_text (records_behind delimiter (fields_of scanner.fields) scanner.field.items scanner.is_escape rest) ≡ whole

-- bytes that stand for themselves where they are read next: none, where the letter after a backslash comes next
abbrev pub ArePlainBy : ℕ → Bool → List ℕ → Type 0
ArePlainBy delimiter true bytes = bytes ≡ []
ArePlainBy delimiter false bytes = list_all (is_plain delimiter) bytes ≡ true

abbrev pub ArePlain : ℕ → Scanner → List ℕ → Type 0
ArePlain delimiter scanner bytes = ArePlainBy delimiter scanner.is_escape bytes
