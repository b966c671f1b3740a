-- The packages of several packers, one after the other, and the files of these.
use Rattle.std.specs.Prelude.{ℕ, List, flat_map, map, zip}
use Rattle.pd_outside.specs.Files.{File}
use Rattle.range_workers.specs.Marks.{texts}

-- the text of all packages of a packer
abbrev pub whole_text : {P : Type 0} → (P → ℕ) → (P → ℕ → List ℕ) → P → List ℕ
whole_text count text part = texts (text part) 0 (count part)

-- of a name and a packer: the name, and how many packages the packer has
abbrev pub part_name : {P : Type 0} → List ℕ × P → List ℕ
part_name named = named.0

abbrev pub part_count : {P : Type 0} → (P → ℕ) → List ℕ × P → ℕ
part_count count named = count named.1

-- a packer's packages under a name
abbrev pub named_text : {P : Type 0} → (P → ℕ) → (P → ℕ → List ℕ) → List ℕ × P → File
named_text count text named = record { name = named.0; bytes = whole_text count text named.1 }

-- a file for each packer, under these names
abbrev pub part_files : {P : Type 0} → (P → ℕ) → (P → ℕ → List ℕ) → List (List ℕ) → List P → List File
part_files count text names parts = map (named_text count text) (zip names parts)

-- the texts of all packers, joined
abbrev pub joined_text : {P : Type 0} → (P → ℕ) → (P → ℕ → List ℕ) → List P → List ℕ
joined_text count text parts = flat_map (whole_text count text) parts
