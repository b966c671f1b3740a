-- What a reader of CSV has read, record by record.
use Rattle.std.proofs.Common.{◌≡◌, ℕ, ◌+◌, List, [], ◌∷◌, ◌++◌, Bor, Result, Ok, Err, false, inr, length, length-append, map, sym, subst, ap, ◌∙◌, arith, append-nil, append_assoc}
use Rattle.std.proofs.lemmas.List.Elements.{All-nil, All-push}
use Rattle.std.specs.Prelude.{IfErr}
use Rattle.csv.specs.declared.reader.Reader.{Reader}
use Rattle.row_text.specs.Lines.{line_text}
use Rattle.csv_face.specs.Csv.{rows_text}
use Rattle.csv_face.specs.Readers.{StandsAfter}
use Rattle.csv_face.specs.Reading.{AreGood, IsFaultAfter, IsNamedFault, is_bad_record, row_field}
use Rattle.csv_face.specs.declared.fault.CsvFault.{CsvFault}
use Rattle.csv_face.specs.declared.fault.CsvFault.TheVariants.{BadRecord, Memory}
use Rattle.csv_face.proofs.RowLemmas.{rows_text-more}

-- after some first records it has read good ones, whose rows are the text so far
pub record HasRead (bytes : List ℕ) (first : List (List (List ℕ))) (delimiter count next number : ℕ) (text : List ℕ) (reader : Reader (Bor (List ℕ))) : Type 0 where
  pub records : List (List (List ℕ))
  pub stands : StandsAfter bytes (first ++ records) reader
  pub good : AreGood count records
  pub counted : number ≡ next + length records
  pub is : text ≡ rows_text delimiter (map (map row_field) records)

-- nothing is read yet
pub read-none : (bytes : List ℕ) (first : List (List (List ℕ))) (delimiter count next : ℕ) (text : List ℕ) (reader : Reader (Bor (List ℕ))) → text ≡ [] → StandsAfter bytes first reader →
    HasRead bytes first delimiter count next next text reader
read-none bytes first delimiter count next text reader none stands = record {
  records = [];
  stands = subst (λ (records : List (List (List ℕ))). StandsAfter bytes records reader) (sym (append-nil first)) stands;
  good = All-nil (λ (fields : List (List ℕ)). is_bad_record count fields ≡ false);
  counted = omega arith;
  is = none;
}

-- the next record
pub next-stands : (bytes : List ℕ) (first records : List (List (List ℕ))) (fields : List (List ℕ)) (reader : Reader (Bor (List ℕ))) → StandsAfter bytes ((first ++ records) ++ fields ∷ []) reader →
    StandsAfter bytes (first ++ (records ++ fields ∷ [])) reader
next-stands bytes first records fields reader stands = subst (λ (all : List (List (List ℕ))). StandsAfter bytes all reader) (append_assoc first records (fields ∷ [])) stands

-- one more good record is read
pub read-more : (bytes : List ℕ) (first : List (List (List ℕ))) (delimiter count next number : ℕ) (text after : List ℕ) (fields : List (List ℕ)) (old new : Reader (Bor (List ℕ))) →
    (read : HasRead bytes first delimiter count next number text old) → StandsAfter bytes ((first ++ read.records) ++ fields ∷ []) new → is_bad_record count fields ≡ false →
    after ≡ text ++ (line_text delimiter (map row_field fields) ++ 10 ∷ []) → HasRead bytes first delimiter count next (number + 1) after new
read-more bytes first delimiter count next number text after fields old new read stands fine put = record {
  records = read.records ++ fields ∷ [];
  stands = next-stands bytes first read.records fields new stands;
  good = All-push (λ (f : List (List ℕ)). is_bad_record count f ≡ false) read.records fields read.good fine;
  counted = omega (arith, read.counted, length-append read.records (fields ∷ []));
  is = put ∙ ap (λ (t : List ℕ). t ++ (line_text delimiter (map row_field fields) ++ 10 ∷ [])) read.is ∙ sym (rows_text-more delimiter read.records fields);
}

-- a fault after the names
after_names : (names : List (List ℕ)) (bytes : List ℕ) (fault : CsvFault) → IsFaultAfter (names ∷ []) (length names) bytes fault → IsNamedFault names bytes fault
after_names names bytes (BadRecord number) bad = inr bad
after_names names bytes Memory bad = tt

pub fault-after_names : {A : Type 0} (names : List (List ℕ)) (bytes : List ℕ) (answer : Result A CsvFault) → IfErr answer (IsFaultAfter (names ∷ []) (length names) bytes) →
    IfErr answer (IsNamedFault names bytes)
fault-after_names names bytes (Ok text) bad = tt
fault-after_names names bytes (Err fault) bad = after_names names bytes fault bad
