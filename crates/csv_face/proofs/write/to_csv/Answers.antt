use Rattle.std.proofs.Common.{◌∙◌, ℕ, List, ap, [], false}
use Rattle.std.specs.Prelude.{Result, Ok, Err, IfOk}
use Rattle.csv_face.specs.Csv.{records_text}
use Rattle.csv_face.specs.Scan.{records_behind}
use Rattle.csv_face.proofs.ScanLemmas.{records_behind-rows_text}
use Rattle.csv_face.proofs.write.to_csv.Goals as goal

if_ok : {T E : Type 0} {P Q : T → Type 0} (r : Result T E) → ((v : T) → P v → Q v) → IfOk r P → IfOk r Q
if_ok (Ok v) f p = f v p
if_ok (Err e) f p = p

pub returns : goal.returns
returns c =
    let rows = c.requires.rows in
    let records = records_behind-rows_text c.args.delimiter c.requires.delimiter rows.fields rows.copy.some rows.rows rows.copy.alike in
    if_ok c.scanned.result (λ csv is. record {
      fields = rows.fields;
      rows = rows.rows;
      copy = rows.copy;
      is = is ∙ ap (λ (t : List ℕ). records_text (records_behind c.args.delimiter [] [] false t)) rows.copy.written ∙ ap records_text records;
    }) c.scanned.ensures
