-- What the frames of a table's statements make of the lines of its rows.
use Rattle.std.proofs.Common.{◌≡◌, ◌<◌, ◌≤◌, ℕ, zero, suc, ◌+◌, Bool, if◌then◌else◌, List, [], ◌∷◌, ◌++◌, Option, codes, decimal, drop, length, map, nat_le, append_assoc, flat_map, inl, inr, refl, ap, ap₂, sym, subst, ◌∙◌, arith}
use Rattle.std.specs.List.{join_by, range_with_len}
use Rattle.std.proofs.lemmas.Bool.{cases_eq, eq-eqb, lt-leb, ne_eqb}
use Rattle.row_text.specs.Fields.{EndsField, IsDelimiter}
use Rattle.schema_facts.specs.Layout.{layout_of}
use Rattle.life_intervals.specs.Generator.{generator_of, last_unit}
use Rattle.life_intervals.specs.Intervals.{row_at}
use Rattle.life_intervals.specs.Keys.{key_of}
use Rattle.life_intervals.specs.Rows.{Row}
use Rattle.row_lines.specs.Lines.{field}
use Rattle.row_lines.specs.Runs.{RunLinesOf, behind, layout_for, line_for, text_at, text_behind}
use Rattle.row_lines.proofs.RunListLemmas.{flat_map-range_same}
use Rattle.row_lines.proofs.RunTextLemmas.{line_for-fields}
use Rattle.sql_lines.specs.Frames.{FramedColumn, behind_framed, framed, insertion_column, insertion_frame, insertion_from, key_lead, stop_before, update_column, update_frame, update_from}
use Rattle.sql_lines.specs.Literals.{literal}
use Rattle.sql_lines.specs.Reading.{field_before, field_behind as behind_field, field_read}
use Rattle.sql_lines.specs.Statements.{assignment, column_name, insertion, insertion_of, literal_at, table_name, update, update_of, where_key}
use Rattle.sql_lines.proofs.ReadingLemmas.{field-behind, field-whole, read-back}

-- ---- fields one after the other

module _ (lines : RunLinesOf) (ordinal : ℕ) (delimits : IsDelimiter (layout_of lines.plan).delimiter) where
  abbrev delimiter : ℕ
  delimiter = (layout_of lines.plan).delimiter

  abbrev count : ℕ
  count = length (layout_for lines).columns

  abbrev row : Row
  row = row_at (generator_of lines.plan) lines.table lines.unit ordinal

  abbrev field_of : ℕ → Option (List ℕ)
  field_of column = field (generator_of lines.plan) lines.unit lines.table row column

  -- what a frame makes of a column
  abbrev made_of : (ℕ → FramedColumn) → ℕ → List ℕ
  made_of column_of column = (column_of column).before ++ literal (column_of column).bare (field_of column)

  -- the byte after a column's field ends it
  ends : (column : ℕ) → EndsField (layout_of lines.plan).delimiter (behind (layout_of lines.plan).delimiter (length (layout_for lines).columns) column)
  ends column = elim (cases_eq (column + 1) count) [
    | inl last ↦ subst (EndsField delimiter) (sym (ap (λ (test : Bool). if test then 10 else delimiter) (eq-eqb (column + 1) count last))) (inr refl)
    | inr more ↦ subst (EndsField delimiter) (sym (ap (λ (test : Bool). if test then 10 else delimiter) (ne_eqb (column + 1) count more))) (inl refl)
  ]

  stop-is : (column_of : ℕ → FramedColumn) (column n : ℕ) → column + suc n ≡ length (layout_for lines).columns →
      stop_before (layout_of lines.plan).delimiter (map column_of (range_with_len (column + 1) n)) ≡ behind (layout_of lines.plan).delimiter (length (layout_for lines).columns) column
  stop-is column_of column zero all = sym (ap (λ (test : Bool). if test then 10 else delimiter) (eq-eqb (column + 1) count (omega (arith, all))))
  stop-is column_of column (suc n) all = sym (ap (λ (test : Bool). if test then 10 else delimiter) (ne_eqb (column + 1) count (λ last. omega (arith, all, last))))

  -- bytes that begin with the fields from a column on
  abbrev fields_from : ℕ → ℕ → List ℕ → List ℕ
  fields_from column n rest = flat_map (text_behind lines ordinal) (range_with_len column n) ++ rest

  next_field : (column n : ℕ) (rest : List ℕ) →
      fields_from column (suc n) rest
      ≡ text_at lines ordinal column ++ behind (layout_of lines.plan).delimiter (length (layout_for lines).columns) column ∷ fields_from (column + 1) n rest
  next_field column n rest =
      let byte : ℕ = behind delimiter count column in
      let more : List ℕ = flat_map (text_behind lines ordinal) (range_with_len (column + 1) n) in
      append_assoc (text_at lines ordinal column ++ byte ∷ []) more rest ∙ append_assoc (text_at lines ordinal column) (byte ∷ []) (more ++ rest)

  pub framed-fields : (column_of : ℕ → FramedColumn) (column n : ℕ) (rest : List ℕ) → column + n ≡ length (layout_for lines).columns →
      framed (layout_of lines.plan).delimiter (map column_of (range_with_len column n)) (fields_from column n rest) ≡ flat_map (made_of column_of) (range_with_len column n)
  framed-fields column_of column zero rest all = refl
  framed-fields column_of column (suc n) rest all =
      let byte : ℕ = behind delimiter count column in
      let of : FramedColumn = column_of column in
      let others : List FramedColumn = map column_of (range_with_len (column + 1) n) in
      let more : List ℕ = fields_from (column + 1) n rest in
      let at : ℕ → List ℕ → List ℕ = λ stop bytes. of.before ++ literal of.bare (field_read (field_before stop bytes)) ++ framed delimiter others (behind_field stop bytes) in
      ap (λ (stop : ℕ). at stop (fields_from column (suc n) rest)) (stop-is column_of column n all)
      ∙ ap (at byte) (next_field column n rest)
      ∙ ap₂ (λ (bytes behind_it : List ℕ). of.before ++ literal of.bare (field_read bytes) ++ framed delimiter others behind_it)
      (field-whole delimiter byte delimits (ends column) (field_of column) more) (field-behind delimiter byte delimits (ends column) (field_of column) more)
      ∙ ap₂ (λ (held : Option (List ℕ)) (texts : List ℕ). of.before ++ literal of.bare held ++ texts) (read-back delimiter (field_of column))
      (framed-fields column_of (column + 1) n rest (omega (arith, all)))

  pub behind-fields : (column_of : ℕ → FramedColumn) (column n : ℕ) (rest : List ℕ) → column + n ≡ length (layout_for lines).columns →
      behind_framed (layout_of lines.plan).delimiter (map column_of (range_with_len column n)) (fields_from column n rest) ≡ rest
  behind-fields column_of column zero rest all = refl
  behind-fields column_of column (suc n) rest all =
      let byte : ℕ = behind delimiter count column in
      let others : List FramedColumn = map column_of (range_with_len (column + 1) n) in
      let more : List ℕ = fields_from (column + 1) n rest in
      ap (λ (stop : ℕ). behind_framed delimiter others (behind_field stop (fields_from column (suc n) rest))) (stop-is column_of column n all)
      ∙ ap (λ (bytes : List ℕ). behind_framed delimiter others (behind_field byte bytes)) (next_field column n rest)
      ∙ ap (behind_framed delimiter others) (field-behind delimiter byte delimits (ends column) (field_of column) more)
      ∙ behind-fields column_of (column + 1) n rest (omega (arith, all))

  -- the line is its fields
  line-fields : (rest : List ℕ) → 1 ≤ length (layout_for lines).columns → line_for lines ordinal ++ rest ≡ fields_from 0 (length (layout_for lines).columns) rest
  line-fields rest some = ap (λ (line : List ℕ). line ++ rest) (sym (line_for-fields lines ordinal some))

  -- ---- insertions

  abbrev insertion_columns : ℕ → FramedColumn
  insertion_columns column = insertion_column lines.plan lines.table column

  -- what stands before the first column, and before another
  joined : (n : ℕ) → flat_map (made_of insertion_columns) (range_with_len 0 (suc n))
      ≡ codes "INSERT INTO " ++ table_name lines.plan lines.table ++ codes " VALUES ("
      ++ join_by (literal_at lines.plan lines.unit lines.table row) (codes ", ") (range_with_len 0 (suc n))
  joined n =
      let first : List ℕ = codes "INSERT INTO " ++ table_name lines.plan lines.table ++ codes " VALUES (" in
      let one : ℕ → List ℕ = literal_at lines.plan lines.unit lines.table row in
      let comma : ℕ → List ℕ = λ column. codes ", " ++ one column in
      ap (λ (texts : List ℕ). (first ++ one 0) ++ texts)
      (flat_map-range_same (made_of insertion_columns) comma 1 n
      (λ k below. ap (λ (test : Bool). (if test then first else codes ", ") ++ one (1 + k)) (ne_eqb (1 + k) 0 (λ same. omega (arith, same)))))
      ∙ append_assoc first (one 0) (flat_map comma (range_with_len 1 n))

  by_insertion : (n : ℕ) → n ≡ length (layout_for lines).columns → 1 ≤ n → (rest : List ℕ) →
      framed (layout_of lines.plan).delimiter (map insertion_columns (range_with_len 0 n)) (fields_from 0 n rest) ++ codes ");\n"
      ≡ codes "INSERT INTO " ++ table_name lines.plan lines.table ++ codes " VALUES ("
      ++ join_by (literal_at lines.plan lines.unit lines.table row) (codes ", ") (range_with_len 0 n) ++ codes ");\n"
  by_insertion zero all some rest = absurd (omega (arith, some))
  by_insertion (suc n) all some rest = ap (λ (texts : List ℕ). texts ++ codes ");\n") (framed-fields insertion_columns 0 (suc n) rest (omega (arith, all)) ∙ joined n)

  pub insertion-line : (rest : List ℕ) → 1 ≤ length (layout_for lines).columns →
      insertion_from (layout_of lines.plan).delimiter (insertion_frame lines.plan lines.table) (line_for lines ordinal ++ rest) ≡ insertion_of lines.plan lines.unit lines.table ordinal
  unfolding insertion
  insertion-line rest some =
      ap (insertion_from delimiter (insertion_frame lines.plan lines.table)) (line-fields rest some) ∙ by_insertion count refl some rest

  pub insertion-rest : (rest : List ℕ) → 1 ≤ length (layout_for lines).columns →
      behind_framed (layout_of lines.plan).delimiter (insertion_frame lines.plan lines.table).columns (line_for lines ordinal ++ rest) ≡ rest
  insertion-rest rest some =
      ap (behind_framed delimiter (insertion_frame lines.plan lines.table).columns) (line-fields rest some) ∙ behind-fields insertion_columns 0 count rest (omega arith)

  -- ---- updates

  abbrev update_columns : ℕ → FramedColumn
  update_columns column = update_column lines.plan lines.table column

  assigned : (n : ℕ) → flat_map (made_of update_columns) (range_with_len 1 (suc n))
      ≡ codes "UPDATE " ++ table_name lines.plan lines.table ++ codes " SET "
      ++ join_by (assignment lines.plan lines.unit lines.table row) (codes ", ") (range_with_len 1 (suc n))
  assigned n =
      let first : List ℕ = codes "UPDATE " ++ table_name lines.plan lines.table ++ codes " SET " in
      let one : ℕ → List ℕ = assignment lines.plan lines.unit lines.table row in
      let comma : ℕ → List ℕ = λ column. codes ", " ++ one column in
      let name : ℕ → List ℕ = column_name lines.plan lines.table in
      let held : ℕ → List ℕ = literal_at lines.plan lines.unit lines.table row in
      let regroup : (lead : List ℕ) (column : ℕ) → (lead ++ name column ++ codes " = ") ++ held column ≡ lead ++ one column = λ lead column.
      ap (λ (text : List ℕ). text ++ held column) (append_assoc lead (name column) (codes " = ")) ∙ append_assoc lead (name column ++ codes " = ") (held column) in
      ap₂ (λ (begin texts : List ℕ). begin ++ texts) (regroup first 1)
      (flat_map-range_same (made_of update_columns) comma 2 n
      (λ k below.
      ap (λ (test : Bool). ((if test then first else codes ", ") ++ name (2 + k) ++ codes " = ") ++ held (2 + k)) (ne_eqb (2 + k) 1 (λ same. omega (arith, same)))
      ∙ regroup (codes ", ") (2 + k)))
      ∙ append_assoc first (one 1) (flat_map comma (range_with_len 2 n))

  -- the key is the first field, and goes to the end. A line whose table has other columns
  by_update : (n : ℕ) → suc (suc n) ≡ length (layout_for lines).columns → (key : ℕ) → decimal key ≡ text_at lines ordinal 0 →
      key ≡ key_of (generator_of lines.plan) lines.table (last_unit lines.plan) ordinal → (rest : List ℕ) →
      framed (layout_of lines.plan).delimiter (map update_columns (drop 1 (range_with_len 0 (suc (suc n))))) (behind_field (layout_of lines.plan).delimiter (fields_from 0 (suc (suc n)) rest))
      ++ (key_lead lines.plan lines.table ++ field_before (layout_of lines.plan).delimiter (fields_from 0 (suc (suc n)) rest) ++ codes ";\n")
      ≡ codes "UPDATE " ++ table_name lines.plan lines.table ++ codes " SET "
      ++ join_by (assignment lines.plan lines.unit lines.table row) (codes ", ") (drop 1 (range_with_len 0 (suc (suc n)))) ++ where_key lines.plan lines.table ordinal
  by_update n all key key_text key_is rest =
      let lead : List ℕ = key_lead lines.plan lines.table in
      let others : List ℕ = fields_from 1 (suc n) rest in
      let byte : ℕ = behind delimiter count 0 in
      let is_delimiter : byte ≡ delimiter = ap (λ (test : Bool). if test then 10 else delimiter) (ne_eqb 1 count (λ same. omega (arith, all, same))) in
      let begin : fields_from 0 (suc (suc n)) rest ≡ text_at lines ordinal 0 ++ delimiter ∷ others =
      next_field 0 (suc n) rest ∙ ap (λ (b : ℕ). text_at lines ordinal 0 ++ b ∷ others) is_delimiter in
      ap (λ (bytes : List ℕ). framed delimiter (map update_columns (range_with_len 1 (suc n))) (behind_field delimiter bytes) ++ (lead ++ field_before delimiter bytes ++ codes ";\n")) begin
      ∙ ap₂ (λ (bytes own : List ℕ). framed delimiter (map update_columns (range_with_len 1 (suc n))) bytes ++ (lead ++ own ++ codes ";\n"))
      (field-behind delimiter delimiter delimits (inl refl) (field_of 0) others) (field-whole delimiter delimiter delimits (inl refl) (field_of 0) others ∙ sym key_text)
      ∙ ap₂ (λ (texts own : List ℕ). texts ++ (lead ++ own ++ codes ";\n")) (framed-fields update_columns 1 (suc n) rest (omega (arith, all)) ∙ assigned n) (ap decimal key_is)

  pub update-line : (rest : List ℕ) (key : ℕ) → 1 < length (layout_for lines).columns → decimal key ≡ text_at lines ordinal 0 →
      key ≡ key_of (generator_of lines.plan) lines.table (last_unit lines.plan) ordinal →
      update_from (layout_of lines.plan).delimiter (update_frame lines.plan lines.table) (line_for lines ordinal ++ rest) ≡ update_of lines.plan lines.unit lines.table ordinal
  unfolding update
  update-line rest key several key_text key_is =
      ap (update_from delimiter (update_frame lines.plan lines.table)) (line-fields rest (omega (arith, several)))
      ∙ by_count count refl several
    where
      by_count : (n : ℕ) → n ≡ length (layout_for lines).columns → 1 < n →
          framed (layout_of lines.plan).delimiter (map update_columns (drop 1 (range_with_len 0 n))) (behind_field (layout_of lines.plan).delimiter (fields_from 0 n rest))
          ++ (key_lead lines.plan lines.table ++ field_before (layout_of lines.plan).delimiter (fields_from 0 n rest) ++ codes ";\n")
          ≡ (if nat_le n 1 then [] else codes "UPDATE " ++ table_name lines.plan lines.table ++ codes " SET "
          ++ join_by (assignment lines.plan lines.unit lines.table row) (codes ", ") (drop 1 (range_with_len 0 n)) ++ where_key lines.plan lines.table ordinal)
      by_count zero all more = absurd (omega (arith, more))
      by_count (suc zero) all more = absurd (omega (arith, more))
      by_count (suc (suc n)) all more =
          by_update n all key key_text key_is rest
          ∙ ap (λ (test : Bool). if test then [] else codes "UPDATE " ++ table_name lines.plan lines.table ++ codes " SET "
          ++ join_by (assignment lines.plan lines.unit lines.table row) (codes ", ") (drop 1 (range_with_len 0 (suc (suc n)))) ++ where_key lines.plan lines.table ordinal)
          (sym (lt-leb (suc (suc n)) 1 more))

  pub update-rest : (rest : List ℕ) → 1 < length (layout_for lines).columns →
      behind_framed (layout_of lines.plan).delimiter (update_frame lines.plan lines.table).columns (behind_field (layout_of lines.plan).delimiter (line_for lines ordinal ++ rest)) ≡ rest
  update-rest rest several =
      ap (λ (bytes : List ℕ). behind_framed delimiter (update_frame lines.plan lines.table).columns (behind_field delimiter bytes)) (line-fields rest (omega (arith, several)))
      ∙ by_count count refl several
    where
      by_count : (n : ℕ) → n ≡ length (layout_for lines).columns → 1 < n →
          behind_framed (layout_of lines.plan).delimiter (map update_columns (drop 1 (range_with_len 0 n))) (behind_field (layout_of lines.plan).delimiter (fields_from 0 n rest)) ≡ rest
      by_count zero all more = absurd (omega (arith, more))
      by_count (suc zero) all more = absurd (omega (arith, more))
      by_count (suc (suc n)) all more =
          let others : List ℕ = fields_from 1 (suc n) rest in
          let is_delimiter : behind delimiter count 0 ≡ delimiter = ap (λ (test : Bool). if test then 10 else delimiter) (ne_eqb 1 count (λ same. omega (arith, all, same))) in
          let begin : fields_from 0 (suc (suc n)) rest ≡ text_at lines ordinal 0 ++ delimiter ∷ others =
          next_field 0 (suc n) rest ∙ ap (λ (b : ℕ). text_at lines ordinal 0 ++ b ∷ others) is_delimiter in
          ap (λ (bytes : List ℕ). behind_framed delimiter (map update_columns (range_with_len 1 (suc n))) (behind_field delimiter bytes)) begin
          ∙ ap (behind_framed delimiter (map update_columns (range_with_len 1 (suc n)))) (field-behind delimiter delimiter delimits (inl refl) (field_of 0) others)
          ∙ behind-fields update_columns 1 (suc n) rest (omega (arith, all))
