-- The rows of texts that tell of tables, and of texts that inputs make.
use Rattle.std.proofs.Common.{◌≡◌, ◌<◌, ◌≤◌, ◌+◌, ℕ, zero, suc, All, List, [], ◌∷◌, ◌++◌, append-nil, append_assoc, decimal, flat_map, get_or, length, map, Option, None, Some, ap, arith, refl, subst, sym, ◌∙◌, ◌≢◌}
use Rattle.std.specs.Prelude.{Contains}
use Rattle.std.specs.List.{AllZip, join_with_byte, range_with_len}
use Rattle.std.proofs.lemmas.List.{length-map}
use Rattle.std.proofs.lemmas.List.Elements.{All-append, All-cons, All-head, All-map, All-nil, All-tail}
use Rattle.std.proofs.lemmas.List.FromFn.{get_or-range_with_len, length-range_with_len}
use Rattle.csv_face.specs.Csv.{HasRows, rows_text}
use Rattle.csv_face.specs.Csv as csv
use Rattle.pd_outside.specs.Files.{File}
use Rattle.row_text.specs.Fields.{IsDelimiter, field_text}
use Rattle.row_text.specs.Lines.{IsLineBody, line_text}
use Rattle.row_text.proofs.ReadLemmas.{IsLineBody-line_feed}
use Rattle.schema_facts.specs.Dictionaries.{Project}
use Rattle.schema_facts.specs.Layout.{layout_of, no_table, table_at}
use Rattle.schema_plan.specs.Limits.{IsInLimits}
use Rattle.schema_facts.proofs.Lists.{map-map}
use Rattle.life_intervals.specs.Generator.{Generator, generator_of, last_unit, table_of}
use Rattle.life_intervals.specs.Keys.{key_of}
use Rattle.life_intervals.specs.Rows.{Row}
use Rattle.life_intervals.proofs.AcceptedLemmas.{place-below}
use Rattle.row_lines.specs.Lines.{field, key_line_of, line}
use Rattle.stream_apply.specs.InTurn.{IsAppliedText, IsFaultAt}
use Rattle.stream_apply.specs.KeyedLines.{KeyedLine, lines_text}
use Rattle.stream_apply.specs.declared.key_fields.KeyFields.TheVariants.{One}
use Rattle.stream_apply.proofs.KeptLineLemmas.{AllTexts, AreTrueOfChanges, AreTrueOfTable, IsTrueOfLines, applied-all}
use Rattle.stream_apply.proofs.KeyedLineLemmas.{join_with_byte-by}
use Rattle.stream_apply.proofs.LineLemmas.{first-cut, keyed-line_feed}
use Rattle.update_box.specs.Packages.{IsChoice, Share, chosen_places, packages_of, share_file, share_of, share_text}
use Rattle.update_box.specs.Parts.{Part, parts_at, parts_of, range_text}
use Rattle.update_box.specs.declared.parts.Content.{Content}
use Rattle.update_box.specs.declared.parts.Content.TheVariants as content
use Rattle.update_box.specs.declared.parts.Job.{Job}
use Rattle.run_jobs.specs.DueFiles.{table_files}
use Rattle.run_jobs.specs.Formats.{IsOfFields, IsOfNames}
use Rattle.run_jobs.specs.InputFiles.{change_names, names_in}
use Rattle.stream_apply.proofs.InTurnLemmas.{made-no_fault}
use Rattle.stream_apply.specs.declared.fault.ApplyFault.{ApplyFault}
use Rattle.stream_apply.specs.declared.fault.ApplyFault.TheVariants as apply
use Rattle.stream_apply.specs.declared.key_fields.KeyFields.{KeyFields}

-- ---- lines of rows

-- the fields of a row at a unit
abbrev pub row_fields : Generator → ℕ → ℕ → Row → csv.Row
row_fields generator unit place row = map (field generator unit place row) (range_with_len 0 (length (table_at generator.tables place).columns))

line-fields : (generator : Generator) (unit place : ℕ) (row : Row) → line generator unit place row ≡ line_text generator.delimiter (row_fields generator unit place row) ++ 10 ∷ []
unfolding line
line-fields generator unit place row =
    ap (λ (body : List ℕ). body ++ 10 ∷ [])
    (ap (join_with_byte generator.delimiter)
    (sym (map-map (field_text generator.delimiter) (field generator unit place row) (range_with_len 0 (length (table_at generator.tables place).columns))))
    ∙ join_with_byte-by (field_text generator.delimiter) generator.delimiter (row_fields generator unit place row))

lines-rows : (generator : Generator) (unit place : ℕ) (rows : List Row) →
    flat_map (line generator unit place) rows ≡ rows_text generator.delimiter (map (row_fields generator unit place) rows)
lines-rows generator unit place [] = refl
lines-rows generator unit place (row ∷ rows) =
    ap (λ (own : List ℕ). own ++ flat_map (line generator unit place) rows) (line-fields generator unit place row)
    ∙ ap (λ (rest : List ℕ). (line_text generator.delimiter (row_fields generator unit place row) ++ 10 ∷ []) ++ rest) (lines-rows generator unit place rows)

all-long : (generator : Generator) (unit place : ℕ) (rows : List Row) →
    All (λ (fields : csv.Row). length fields ≡ length (table_at generator.tables place).columns) (map (row_fields generator unit place) rows)
all-long generator unit place [] = All-nil (λ (fields : csv.Row). length fields ≡ length (table_at generator.tables place).columns)
all-long generator unit place (row ∷ rows) =
    All-cons (λ (fields : csv.Row). length fields ≡ length (table_at generator.tables place).columns) (row_fields generator unit place row) (map (row_fields generator unit place) rows)
    (length-map (range_with_len 0 (length (table_at generator.tables place).columns)) (field generator unit place row)
    ∙ length-range_with_len 0 (length (table_at generator.tables place).columns))
    (all-long generator unit place rows)

pub lines-copy : (generator : Generator) (unit place : ℕ) (rows : List Row) → 0 < length (table_at generator.tables place).columns →
    IsOfFields generator.delimiter (length (table_at generator.tables place).columns) (flat_map (line generator unit place) rows)
lines-copy generator unit place rows some = (
  map (row_fields generator unit place) rows,
  record { some = some; alike = all-long generator unit place rows; written = lines-rows generator unit place rows },
)

-- ---- key lines

-- the one field of a key line
abbrev pub key_field : Generator → ℕ → ℕ → Row → csv.Row
key_field generator last place row = Some (decimal (key_of generator place last row.ordinal)) ∷ []

keys-rows : (generator : Generator) (last place : ℕ) (rows : List Row) →
    flat_map (λ (row : Row). key_line_of generator last place row.ordinal) rows ≡ rows_text generator.delimiter (map (key_field generator last place) rows)
keys-rows generator last place [] = refl
keys-rows generator last place (row ∷ rows) =
    let own : List ℕ = field_text generator.delimiter (Some (decimal (key_of generator place last row.ordinal))) in
    ap (λ (body : List ℕ). (body ++ 10 ∷ []) ++ flat_map (λ (r : Row). key_line_of generator last place r.ordinal) rows) (sym (append-nil own))
    ∙ ap (λ (rest : List ℕ). ((own ++ []) ++ 10 ∷ []) ++ rest) (keys-rows generator last place rows)

all-one : (generator : Generator) (last place : ℕ) (rows : List Row) → All (λ (fields : csv.Row). length fields ≡ 1) (map (key_field generator last place) rows)
all-one generator last place [] = All-nil (λ (fields : csv.Row). length fields ≡ 1)
all-one generator last place (row ∷ rows) =
    All-cons (λ (fields : csv.Row). length fields ≡ 1) (key_field generator last place row) (map (key_field generator last place) rows) refl (all-one generator last place rows)

pub keys-copy : (generator : Generator) (last place : ℕ) (rows : List Row) →
    IsOfFields generator.delimiter 1 (flat_map (λ (row : Row). key_line_of generator last place row.ordinal) rows)
keys-copy generator last place rows = (
  map (key_field generator last place) rows,
  record { some = omega arith; alike = all-one generator last place rows; written = keys-rows generator last place rows },
)

-- ---- the files of a job

module _ (plan : Project) (limits : IsInLimits plan) where
  pub some_column : (place : ℕ) → place < length plan.schema.tables → 0 < length (table_of plan place).columns
  some_column place below = omega (arith, (limits.tables place no_table (place-below plan place below)).some_column)

  pub few_columns : (place : ℕ) → place < length plan.schema.tables → length (table_of plan place).columns ≤ 64
  few_columns place below = omega (arith, (limits.tables place no_table (place-below plan place below)).column_limit)

  has_rows : (count : ℕ) (text : List ℕ) → IsOfFields (generator_of plan).delimiter count text → HasRows (layout_of plan).delimiter text
  has_rows count text of = record { fields = count; rows = of.0; copy = of.1 }

  range-rows : (unit place : ℕ) (content : Content) (first end : ℕ) → place < length plan.schema.tables → HasRows (layout_of plan).delimiter (range_text plan unit place content first end)
  unfolding range_text
  range-rows unit place content.Snapshot first end below =
      has_rows (length (table_of plan place).columns) _ (lines-copy (generator_of plan) unit place _ (some_column place below))
  range-rows unit place content.Deleted first end below = has_rows 1 _ (keys-copy (generator_of plan) (last_unit plan) place _)
  range-rows unit place content.Updated first end below =
      has_rows (length (table_of plan place).columns) _ (lines-copy (generator_of plan) unit place _ (some_column place below))
  range-rows unit place content.Inserted first end below =
      has_rows (length (table_of plan place).columns) _ (lines-copy (generator_of plan) unit place _ (some_column place below))

  parts-within : (contents : List Content) (places : List ℕ) → All (λ place. place < length plan.schema.tables) places →
      All (λ (part : Part). part.place < length plan.schema.tables) (parts_of contents places)
  parts-within contents [] within = All-nil (λ (part : Part). part.place < length plan.schema.tables)
  parts-within contents (place ∷ places) within =
      let Within : Part → Type 0 = λ (part : Part). part.place < length plan.schema.tables in
      All-append Within (parts_at contents place) (parts_of contents places)
      (All-map Within (λ content. record { place = place; content = content }) contents (λ k d inside. All-head (λ p. p < length plan.schema.tables) place places within))
      (parts-within contents places (All-tail (λ p. p < length plan.schema.tables) place places within))

  chosen-within : (table : Option ℕ) → IsChoice plan table → All (λ place. place < length plan.schema.tables) (chosen_places plan table)
  chosen-within None choice = λ k d inside.
      let count = length-range_with_len 0 (length plan.schema.tables) in
      let below : k < length plan.schema.tables = omega (arith, inside, count) in
      omega (arith, get_or-range_with_len 0 (length plan.schema.tables) k d below, below)
  chosen-within (Some place) choice = All-cons (λ p. p < length plan.schema.tables) place [] choice (All-nil (λ p. p < length plan.schema.tables))

  -- each has rows
  pub files-rows : (contents : List Content) (job : Job) → IsChoice plan job.table →
      All (λ (file : File). HasRows (layout_of plan).delimiter file.bytes) (table_files contents plan (Some []) job)
  files-rows contents job choice =
      let parts : List Part = parts_of contents (chosen_places plan job.table) in
      All-map (λ (file : File). HasRows (layout_of plan).delimiter file.bytes) (share_file plan job.unit []) (packages_of contents plan job).shares
      (All-map (λ (share : Share). HasRows (layout_of plan).delimiter (share_text plan job.unit share)) (share_of plan job) parts
      (λ k d inside.
      let share : Share = share_of plan job (get_or parts k d) in
      range-rows job.unit share.part.place share.part.content share.first share.end
      (parts-within contents (chosen_places plan job.table) (chosen-within job.table choice) k d inside)))

-- ---- texts that inputs make

-- a line has so many fields
abbrev pub HasFields : ℕ → ℕ → List ℕ → Type 0
HasFields delimiter count text = (fields : csv.Row) × IsLineBody delimiter fields text × (length fields ≡ count)

-- the lines of rows with as many fields are lines with as many
lines-of_fields : (delimiter count : ℕ) → IsDelimiter delimiter → 0 < count → (lines : List KeyedLine) (rows : List csv.Row) → All (λ (line : KeyedLine). ¬ Contains line.text 10) lines →
    All (λ (row : csv.Row). length row ≡ count) rows → lines_text lines ≡ rows_text delimiter rows → AllTexts (HasFields delimiter count) lines
lines-of_fields delimiter count delimits some [] rows lacks alike same = All-nil (λ (line : KeyedLine). HasFields delimiter count line.text)
lines-of_fields delimiter count delimits some (line ∷ lines) [] lacks alike same =
    let none : (line.text ++ 10 ∷ []) ++ lines_text lines ≡ [] = same in
    absurd (never line.text (lines_text lines) none)
  where
    never : (text rest : List ℕ) → (text ++ 10 ∷ []) ++ rest ≡ [] → ⊥
    never [] rest is = cc is
    never (byte ∷ text) rest is = cc is
lines-of_fields delimiter count delimits some (line ∷ lines) (row ∷ rows) lacks alike same =
    let Alike : csv.Row → Type 0 = λ (r : csv.Row). length r ≡ count in
    let long : length row ≡ count = All-head Alike row rows alike in
    let body : IsLineBody delimiter row (line_text delimiter row) = record { some = omega (arith, long, some); written = refl } in
    let flat : line.text ++ 10 ∷ lines_text lines ≡ line_text delimiter row ++ 10 ∷ rows_text delimiter rows =
    sym (append_assoc line.text (10 ∷ []) (lines_text lines)) ∙ same ∙ append_assoc (line_text delimiter row) (10 ∷ []) (rows_text delimiter rows) in
    let first : line.text ≡ line_text delimiter row =
    first-cut 10 line.text (line_text delimiter row) (lines_text lines) (rows_text delimiter rows) (All-head (λ (l : KeyedLine). ¬ Contains l.text 10) line lines lacks)
    (IsLineBody-line_feed delimiter delimits row (line_text delimiter row) body) flat in
    let rest : lines_text lines ≡ rows_text delimiter rows = behind line.text (line_text delimiter row) (lines_text lines) (rows_text delimiter rows) first flat in
    All-cons (λ (l : KeyedLine). HasFields delimiter count l.text) line lines
    (row, subst (λ (t : List ℕ). IsLineBody delimiter row t) (sym first) body, long)
    (lines-of_fields delimiter count delimits some lines rows (All-tail (λ (l : KeyedLine). ¬ Contains l.text 10) line lines lacks) (All-tail Alike row rows alike) rest)
  where
    behind : (xs ys more others : List ℕ) → xs ≡ ys → xs ++ 10 ∷ more ≡ ys ++ 10 ∷ others → more ≡ others
    behind [] [] more others is same = cc same
    behind [] (y ∷ ys) more others is same = cc is
    behind (x ∷ xs) [] more others is same = cc is
    behind (x ∷ xs) (y ∷ ys) more others is same = let tails : xs ≡ ys = cc is in let rests : xs ++ 10 ∷ more ≡ ys ++ 10 ∷ others = cc same in behind xs ys more others tails rests

-- so do the lines of a stream
stream-fields : (delimiter count : ℕ) → IsDelimiter delimiter → (bytes : List ℕ) → IsOfFields delimiter count bytes → IsTrueOfLines (HasFields delimiter count) One delimiter bytes
stream-fields delimiter count delimits bytes of kind table lines stream =
    lines-of_fields delimiter count delimits of.1.some lines of.0
    (λ k d inside. keyed-line_feed One delimiter delimits kind _ (stream.keyed k d inside)) of.1.alike (sym stream.text ∙ of.1.written)

changes-fields : (delimiter : ℕ) (names : List (List ℕ)) → IsDelimiter delimiter → (first units : ℕ) (inputs : List (List ℕ)) →
    AllZip (IsOfNames delimiter) (flat_map (λ (unit : ℕ). change_names names) (range_with_len first units)) inputs → AreTrueOfChanges (HasFields delimiter (length names)) One delimiter inputs
changes-fields delimiter names delimits first zero [] are = tt
changes-fields delimiter names delimits first zero (input ∷ inputs) are = absurd are
changes-fields delimiter names delimits first (suc units) [] are = absurd are
changes-fields delimiter names delimits first (suc units) (deletes ∷ []) are = absurd are.1
changes-fields delimiter names delimits first (suc units) (deletes ∷ updates ∷ []) are = absurd are.1.1
changes-fields delimiter names delimits first (suc units) (deletes ∷ updates ∷ inserts ∷ inputs) are = (
  tt,
  (
    stream-fields delimiter (length names) delimits updates are.1.0,
    (stream-fields delimiter (length names) delimits inserts are.1.1.0, changes-fields delimiter names delimits (first + 1) units inputs are.1.1.1),
  ),
)

table-fields : (delimiter : ℕ) (names : List (List ℕ)) (units : ℕ) → IsDelimiter delimiter → (inputs : List (List ℕ)) → AllZip (IsOfNames delimiter) (names_in units names) inputs →
    AreTrueOfTable (HasFields delimiter (length names)) One delimiter inputs
table-fields delimiter names units delimits [] are = absurd are
table-fields delimiter names units delimits (text ∷ inputs) are =
    (stream-fields delimiter (length names) delimits text are.0, changes-fields delimiter names delimits 0 units inputs are.1)

-- lines with as many fields are rows
rows-of_lines : (delimiter count : ℕ) (lines : List KeyedLine) → AllTexts (HasFields delimiter count) lines →
    (rows : List csv.Row) × (lines_text lines ≡ rows_text delimiter rows) × All (λ (row : csv.Row). length row ≡ count) rows
rows-of_lines delimiter count [] all = ([], refl, All-nil (λ (row : csv.Row). length row ≡ count))
rows-of_lines delimiter count (line ∷ lines) all =
    let own : HasFields delimiter count line.text = All-head (λ (l : KeyedLine). HasFields delimiter count l.text) line lines all in
    let rest = rows-of_lines delimiter count lines (All-tail (λ (l : KeyedLine). HasFields delimiter count l.text) line lines all) in (
      own.0 ∷ rest.0,
      ap (λ (text : List ℕ). (text ++ 10 ∷ []) ++ lines_text lines) own.1.written
          ∙ ap (λ (text : List ℕ). (line_text delimiter own.0 ++ 10 ∷ []) ++ text) rest.1,
      All-cons (λ (row : csv.Row). length row ≡ count) own.0 rest.0 own.2 rest.2,
    )

pub applied-rows : (delimiter : ℕ) (names : List (List ℕ)) (units : ℕ) → IsDelimiter delimiter → 0 < length names → (inputs : List (List ℕ)) (text : List ℕ) →
    AllZip (IsOfNames delimiter) (names_in units names) inputs → IsAppliedText One delimiter inputs text → HasRows delimiter text
applied-rows delimiter names units delimits some inputs text are is =
    let all = applied-all (HasFields delimiter (length names)) One delimiter inputs text (table-fields delimiter names units delimits inputs are) is in
    let rows = rows-of_lines delimiter (length names) is.lines all in
    record { fields = length names; rows = rows.0; copy = record { some = some; alike = rows.2; written = is.is ∙ rows.1 } }

pub applied-no_fault : (keys : KeyFields) (delimiter : ℕ) (inputs : List (List ℕ)) (text : List ℕ) (place : ℕ) (fault : ApplyFault) → IsDelimiter delimiter → IsAppliedText keys delimiter inputs text →
    fault ≢ apply.Memory → ¬ IsFaultAt keys delimiter inputs place fault
applied-no_fault keys delimiter inputs text place fault delimits is told = made-no_fault keys delimiter _ [] is.lines place fault delimits is.made told
