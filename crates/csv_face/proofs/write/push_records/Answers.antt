use Rattle.std.proofs.Common.{◌≡◌, [], ◌++◌, ℕ, List, Bool, ap, false, sym, ◌∙◌}
use Rattle.csv.specs.Records.{fields_of}
use Rattle.csv_face.specs.Csv.{records_text}
use Rattle.csv_face.specs.Scan.{records_behind}
use Rattle.csv_face.proofs.AlikeLemmas.{none-left}
use Rattle.csv_face.proofs.write.push_records.Goals as goal

-- nothing is read of no text
at_end : (delimiter : ℕ) (fields : List (List ℕ)) (field : List ℕ) (escape : Bool) (rest text whole csv : List ℕ) → rest ≡ [] → csv ≡ text
    → text ++ records_text (records_behind delimiter fields field escape rest) ≡ whole
    → csv ++ records_text (records_behind delimiter [] [] false rest) ≡ whole
unfolding records_behind
at_end delimiter fields field escape rest text whole csv none is behind =
    ap (λ (r : List ℕ). csv ++ records_text (records_behind delimiter [] [] false r)) none
    ∙ ap (λ (t : List ℕ). t ++ []) is
    ∙ sym (ap (λ (r : List ℕ). text ++ records_text (records_behind delimiter fields field escape r)) none)
    ∙ behind

pub returns-clause-csv : goal.returns-clause-csv
returns-clause-csv c =
    let scanner = c.loop-scanner.scanner in
    let will = c.loop-scanner.invariant.written in
    at_end c.args.delimiter (fields_of scanner.fields) scanner.field.items scanner.is_escape c.loop-scanner.rest.now will.text _ _
    (none-left c.loop-scanner.rest.now (sym c.is_empty.ensures ∙ c.loop-scanner-test.false))
    (c.in_ok-finish-2.ensures will.text will.written) will.behind
