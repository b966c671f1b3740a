-- Texts one after the other, and their CSV.
use Rattle.std.proofs.Common.{◌≡◌, ◌++◌, ℕ, List, length, map, ap, sym, ◌∙◌}
use Rattle.std.proofs.lemmas.List.{map-append}
use Rattle.std.proofs.lemmas.List.Concat.{flat_map-append}
use Rattle.std.proofs.lemmas.List.Elements.{All-append}
use Rattle.std.specs.Prelude.{[], ◌∷◌}
use Rattle.row_text.specs.Lines.{line_text}
use Rattle.csv_face.specs.Csv.{IsCopyText, Row, csv_field, csv_text, record_text, records_text, rows_text}

rows_text-joined : (delimiter : ℕ) (rows others : List Row) → rows_text delimiter (rows ++ others) ≡ rows_text delimiter rows ++ rows_text delimiter others
rows_text-joined delimiter rows others = flat_map-append (λ (row : Row). line_text delimiter row ++ 10 ∷ []) rows others

pub copy-joined : (delimiter fields : ℕ) (rows others : List Row) (text other : List ℕ) → IsCopyText delimiter fields rows text → IsCopyText delimiter fields others other →
    IsCopyText delimiter fields (rows ++ others) (text ++ other)
copy-joined delimiter fields rows others text other one two = record {
  some = one.some;
  alike = All-append (λ (row : Row). length row ≡ fields) rows others one.alike two.alike;
  written = rw (one.written, two.written) (sym (rows_text-joined delimiter rows others));
}

pub csv-joined : (rows others : List Row) → csv_text (rows ++ others) ≡ csv_text rows ++ csv_text others
csv-joined rows others =
    ap records_text (map-append (map csv_field) rows others) ∙ flat_map-append record_text (map (map csv_field) rows) (map (map csv_field) others)
