-- A field of a row, through a field of a record.
use Rattle.std.proofs.Common.{◌≡◌, ℕ, ◌==◌, List, [], ◌∷◌, Option, None, Some, false, map, refl, inl, inr}
use Rattle.std.specs.List.{list_any}
use Rattle.std.proofs.lemmas.Bool.{cases_Bool}
use Rattle.csv_face.specs.Csv.{Row, csv_field}
use Rattle.csv_face.specs.Reading.{is_bad_field, row_field}

row_field-csv_field : (field : Option (List ℕ)) → row_field (csv_field field) ≡ field
row_field-csv_field None = refl
row_field-csv_field (Some []) = refl
row_field-csv_field (Some (byte ∷ bytes)) = elim (cases_Bool (byte == 92)) [ inl is ↦ simp is refl | inr other ↦ simp other refl ]

is_bad_field-csv_field : (field : Option (List ℕ)) → is_bad_field (csv_field field) ≡ false
is_bad_field-csv_field None = refl
is_bad_field-csv_field (Some []) = refl
is_bad_field-csv_field (Some (byte ∷ bytes)) = elim (cases_Bool (byte == 92)) [ inl is ↦ simp is refl | inr other ↦ simp other refl ]

-- none of a row's is bad
pub has_bad_field-csv : (row : Row) → list_any is_bad_field (map csv_field row) ≡ false
has_bad_field-csv [] = refl
has_bad_field-csv (field ∷ row) = simp (is_bad_field-csv_field field) (has_bad_field-csv row)

row_fields-csv : (row : Row) → map row_field (map csv_field row) ≡ row
row_fields-csv [] = refl
row_fields-csv (field ∷ row) = cc (row_field-csv_field field, row_fields-csv row)

-- rows are those that their records stand for
pub rows-csv : (rows : List Row) → map (map row_field) (map (map csv_field) rows) ≡ rows
rows-csv [] = refl
rows-csv (row ∷ rows) = cc (row_fields-csv row, rows-csv rows)
