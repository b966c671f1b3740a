-- Rows in a format: the names of their files, and their texts.
use Rattle.std.specs.Prelude.{◌≡◌, ℕ, zero, suc, ◌++◌, List, [], ◌∷◌, codes, decimal, flat_map, length, map, take, Option, Some, None}
use Rattle.std.specs.List.{AllZip}
use Rattle.pd_outside.specs.Files.{File}
use Rattle.csv_face.specs.Csv.{IsCopyText, IsCsvOf, Row, names_text}
use Rattle.request_words.specs.declared.usage.Format.{Format}
use Rattle.request_words.specs.declared.usage.Format.TheVariants.{Copy, Csv, Sql}
use Rattle.request_words.specs.declared.usage.Header.{Header}
use Rattle.request_words.specs.declared.usage.Header.TheVariants as header
use Rattle.schema_model.specs.declared.table.Schema.{Schema}
use Rattle.update_box.specs.Parts.{Part, ending_of, name_at}
use Rattle.update_box.specs.declared.parts.Content.{Content}
use Rattle.update_box.specs.declared.parts.Content.TheVariants as content
use Rattle.run_jobs.specs.DueFiles.{text_files}

-- ---- names

-- how the name of a file ends in a format that has an ending of its own: a table's file has this one, and a file of what a unit changes one more
abbrev pub ending_with : List ℕ → ℕ → Content → List ℕ
ending_with ending unit content.Snapshot = ending
ending_with ending unit content = ending_of unit content ++ ending

-- how the name of a file ends that holds nothing but this content of a table at a unit
abbrev pub ending_in : Format → ℕ → Content → List ℕ
ending_in Copy unit content = ending_of unit content
ending_in Csv unit content = ending_with (codes ".csv") unit content
ending_in Sql unit content = ending_with (codes ".sql") unit content

-- the name of a file that holds a part at a unit, without its directory
abbrev pub file_name : Format → Schema → ℕ → Part → List ℕ
file_name format schema unit part = name_at schema part.place ++ ending_in format unit part.content

-- the name of the file of a table's undo text of a unit
abbrev pub undo_name_of : List ℕ → ℕ → List ℕ
undo_name_of table unit = table ++ codes "." ++ decimal unit ++ codes ".undo"

abbrev pub in_directory : List ℕ → List ℕ → List ℕ
in_directory directory name = (directory ++ codes "/") ++ name

-- ---- files

-- texts under names
abbrev pub named_files : List (List ℕ) → List (List ℕ) → List File
named_files [] texts = []
named_files (name ∷ names) [] = []
named_files (name ∷ names) (text ∷ texts) = record { name = name; bytes = text } ∷ named_files names texts

-- the files that are due for the texts of some things that have names: one for each in a directory, or all joined on the standard output
abbrev pub made_files : {A : Type 0} → (A → List ℕ) → Option (List ℕ) → List A → List (List ℕ) → List File
made_files name None things texts = text_files (flat_map (λ text. text) texts)
made_files name (Some directory) things texts = named_files (map (λ thing. in_directory directory (name thing)) things) texts

-- ---- the names of columns

-- those of a file that holds nothing but this content of a table with such columns: what a unit deletes has the key alone
abbrev pub names_for : List (List ℕ) → Content → List (List ℕ)
names_for names content.Deleted = take 1 names
names_for names content.Snapshot = names
names_for names content.Updated = names
names_for names content.Inserted = names

-- the first record of a file with such columns
abbrev pub heading_of : Header → List (List ℕ) → List ℕ
heading_of header.None names = []
heading_of header.Names names = names_text names

-- of a file that is shared out over nodes share 0 alone begins with names
abbrev pub header_at : ℕ → Header → Header
header_at zero asked = asked
header_at (suc node) asked = header.None

-- texts, each after its heading
abbrev pub each_after : List (List ℕ) → List (List ℕ) → List (List ℕ)
each_after [] texts = texts
each_after (heading ∷ headings) [] = []
each_after (heading ∷ headings) (text ∷ texts) = (heading ++ text) ∷ each_after headings texts

-- ---- texts

-- texts in COPY text form whose rows have so many fields each
abbrev pub IsOfFields : ℕ → ℕ → List ℕ → Type 0
IsOfFields delimiter fields text = (rows : List Row) × IsCopyText delimiter fields rows text

-- the same of a text whose rows have a field for each of some names, and of texts
abbrev pub IsOfNames : ℕ → List (List ℕ) → List ℕ → Type 0
IsOfNames delimiter names text = IsOfFields delimiter (length names) text

abbrev pub AreRowsOf : ℕ → List (List (List ℕ)) → List (List ℕ) → Type 0
AreRowsOf delimiter names texts = AllZip (IsOfNames delimiter) names texts

-- texts in COPY text form, and each of them as CSV
abbrev pub AreCsvOf : ℕ → List (List ℕ) → List (List ℕ) → Type 0
AreCsvOf delimiter texts csvs = AllZip (IsCsvOf delimiter) texts csvs

-- texts in COPY text form, and what is written for them in a format: none is written as statements, which aren't read
abbrev pub AreWritten : Format → ℕ → List (List ℕ) → List (List ℕ) → Type 0
AreWritten Copy delimiter texts written = written ≡ texts
AreWritten Csv delimiter texts written = AreCsvOf delimiter texts written
AreWritten Sql delimiter texts written = ⊥
