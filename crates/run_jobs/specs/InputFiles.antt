-- The files that are read of tables: their names, their limit, and what they are in CSV.
use Rattle.std.specs.Prelude.{ℕ, zero, suc, List, [], ◌∷◌, ◌++◌, flat_map, length, map}
use Rattle.std.specs.List.{AllZip, range_with_len}
use Rattle.csv_face.specs.Reading.{HasBadNamed, HasBadRecord, IsNamedReadAs, IsReadAs}
use Rattle.request_words.specs.declared.usage.Format.{Format}
use Rattle.request_words.specs.declared.usage.Header.{Header}
use Rattle.request_words.specs.declared.usage.Header.TheVariants as header
use Rattle.update_box.specs.Parts.{unit_contents}
use Rattle.update_box.specs.declared.parts.Content.{Content}
use Rattle.update_box.specs.declared.parts.Content.TheVariants as content
use Rattle.run_jobs.specs.Formats.{ending_in, names_for}

-- the most bytes that all inputs have together
abbrev pub input_limit : ℕ
input_limit = 268435456

-- the file of a table's text in a format, and those of what a unit changes in it, in the order in which it is applied
abbrev pub text_name : Format → List ℕ → List ℕ
text_name format name = name ++ ending_in format 0 content.Snapshot

abbrev pub stream_names : Format → List ℕ → ℕ → List (List ℕ)
stream_names format name unit = map (λ (c : Content). name ++ ending_in format unit c) unit_contents

-- the names of the columns of what a unit deletes, updates and inserts in a table with such columns
abbrev pub change_names : List (List ℕ) → List (List (List ℕ))
change_names names = map (names_for names) unit_contents

-- those of the inputs of a table: of its text, and of what each of so many units changes
abbrev pub names_in : ℕ → List (List ℕ) → List (List (List ℕ))
names_in units names = names_for names content.Snapshot ∷ flat_map (λ unit. change_names names) (range_with_len 0 units)

-- bytes in CSV with such columns, and what they are in COPY text form
abbrev pub IsReadIn : Header → ℕ → List (List ℕ) × List ℕ → List ℕ → Type 0
IsReadIn header.None delimiter input copy = IsReadAs delimiter (length input.0) input.1 copy
IsReadIn header.Names delimiter input copy = IsNamedReadAs delimiter input.0 input.1 copy

abbrev pub AreReadAs : Header → ℕ → List (List (List ℕ) × List ℕ) → List (List ℕ) → Type 0
AreReadAs asked delimiter inputs copies = AllZip (IsReadIn asked delimiter) inputs copies

-- of bytes in CSV with such columns, the record of a number is the first bad one
abbrev pub HasBadIn : Header → List (List ℕ) → List ℕ → ℕ → Type 0
HasBadIn header.None names bytes at = HasBadRecord (length names) bytes at
HasBadIn header.Names names bytes at = HasBadNamed names bytes at

-- of the input of a number, counted from 0, which is the first with a bad record, the record of another number is the first bad one
abbrev pub HasBadAt : Header → ℕ → List (List (List ℕ) × List ℕ) → ℕ → ℕ → Type 0
HasBadAt asked delimiter [] number at = ⊥
HasBadAt asked delimiter (input ∷ rest) zero at = HasBadIn asked input.0 input.1 at
HasBadAt asked delimiter (input ∷ rest) (suc number) at = ((copy : List ℕ) × IsReadIn asked delimiter input copy) × HasBadAt asked delimiter rest number at
