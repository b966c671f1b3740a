use Rattle.std.proofs.Common.{◌≡◌, ◌≢◌, ◌∷◌, ◌++◌, [], ℕ, List, Bool, false, ◌∙◌, append_assoc}
use Rattle.std.proofs.lemmas.Bool.{ne_eqb}
use Rattle.std.specs.Prelude.{Result, Ok, Err, OnOk}
use Rattle.csv.specs.Records.{fields_of}
use Rattle.csv_face.specs.Csv.{record_text, records_text}
use Rattle.csv_face.specs.Scan.{records_behind}
use Rattle.csv_face.proofs.write.Scanner.read.Goals as goal

-- a line feed ends a record
ended : (delimiter : ℕ) → 10 ≢ delimiter → (fields : List (List ℕ)) (field text rest whole : List ℕ)
    → text ++ records_text (records_behind delimiter fields field false (10 ∷ rest)) ≡ whole
    → (text ++ record_text (fields ++ field ∷ [])) ++ records_text (records_behind delimiter [] [] false rest) ≡ whole
unfolding records_behind
ended delimiter other fields field text rest whole is =
    append_assoc text (record_text (fields ++ field ∷ [])) (records_text (records_behind delimiter [] [] false rest))
    ∙ (simp (ne_eqb 10 delimiter other) at is)

-- the same, of what the scanner holds then
held : (delimiter : ℕ) (fields : List (List ℕ)) (field text rest whole : List ℕ) (escape before : Bool) → fields ≡ [] → field ≡ [] → escape ≡ before → before ≡ false
    → text ++ records_text (records_behind delimiter [] [] false rest) ≡ whole
    → text ++ records_text (records_behind delimiter fields field escape rest) ≡ whole
held delimiter fields field text rest whole escape before no_fields no_bytes as_before none is = cc (no_fields, no_bytes, as_before, none, is)

on_ok_four : {T E P Q R S G : Type 0} (r : Result T E) → (P → Q → R → S → G) → OnOk r P → OnOk r Q → OnOk r R → OnOk r S → OnOk r G
on_ok_four (Ok v) f p q r s = f p q r s
on_ok_four (Err e) f p q r s = p

pub returns-then-byte-eq10 : goal.returns-then-byte-eq10
returns-then-byte-eq10 c whole rest will =
    let line_feed = c.if-byte-eq10.true in
    let apart : 10 ≢ c.args.delimiter = λ e. c.if-byte-delimiter.false (line_feed ∙ e) in
    let here = ended c.args.delimiter apart (fields_of c.args.self.now.fields) c.args.self.now.field.items will.text rest whole (rw (c.if-self.false, line_feed) at will.behind) in
    on_ok_four c.end_record.result
    (λ written fields field escape. record {
      text = will.text ++ record_text (fields_of c.args.self.now.fields ++ c.args.self.now.field.items ∷ []);
      written = written;
      behind = held _ _ _ _ _ _ _ _ fields field escape c.if-self.false here;
    })
    (c.end_record.ensures.written will.text will.written) c.end_record.ensures.fields c.end_record.ensures.field c.end_record.ensures.escape
