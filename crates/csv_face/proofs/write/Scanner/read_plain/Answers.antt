use Rattle.std.proofs.Common.{◌++◌, ◌∙◌, ap, List, ℕ, sym}
use Rattle.csv.specs.Records.{fields_of}
use Rattle.csv_face.specs.Csv.{records_text}
use Rattle.csv_face.specs.Scan.{records_behind}
use Rattle.csv_face.proofs.ScanLemmas.{plain-read}
use Rattle.csv_face.proofs.write.Scanner.read_plain.Goals as goal

pub returns : goal.returns
returns c = λ delimiter whole rest plain will.
    let scanner = c.args.self.now in
    let written = will.written in
    record {
      text = will.text;
      written = record { setup = written.setup; no_field = written.no_field; none_shown = written.none_shown; is = written.is; whole_fields = written.whole_fields };
      behind =
          ap (λ (field : List ℕ). will.text ++ records_text (records_behind delimiter (fields_of scanner.fields) field scanner.is_escape rest)) c.in_ok-extend_from_slice.ensures.items
          ∙ ap (λ (records : List (List (List ℕ))). will.text ++ records_text records) (sym (plain-read delimiter (fields_of scanner.fields) scanner.field.items scanner.is_escape c.args.bytes.now rest plain))
          ∙ will.behind;
    }
