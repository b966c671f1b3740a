-- The schema of a sample: customers, who live and change, their orders, and the lines of these. As many rows are born as a size says.
use Rattle.std.specs.Prelude.{ℕ, ◌*◌, pos, true, false, List, [], ◌∷◌, None, Some, codes}
use Rattle.schema_model.specs.declared.column.Column.{Column}
use Rattle.schema_model.specs.declared.column.Kind.{Kind}
use Rattle.schema_model.specs.declared.column.Kind.TheVariants.{Born, Key, Leaf as Drawn, Ref}
use Rattle.schema_model.specs.declared.column.Leaf.TheVariants.{Chars, Date, Int}
use Rattle.schema_model.specs.declared.column.Deal.TheVariants.{Turn}
use Rattle.schema_model.specs.declared.column.OnDelete.TheVariants.{Cascade}
use Rattle.schema_model.specs.declared.column.Window.TheVariants.{Units}
use Rattle.schema_model.specs.declared.table.Delimiter.TheVariants.{Tab}
use Rattle.schema_model.specs.declared.table.Phase.{Phase}
use Rattle.schema_model.specs.declared.table.Schema.{Schema}
use Rattle.schema_model.specs.declared.table.Table.{Table}
use Rattle.schema_facts.specs.Dictionaries.{Project, project_of}

-- the one phase in which as many rows are born at each unit after the first
abbrev pub at_each_unit : ℕ → List Phase
at_each_unit rows = record { from = pos 1; rate = pos rows } ∷ []

-- a column that neither changes nor is null
abbrev pub plain : List ℕ → Kind → Column
plain name kind = record { name = name; kind = kind; changes = false; null = pos 0 }

-- keys of ten digits, which tell nothing of the order of birth
abbrev pub key : Column
key = plain (codes "id") (Key (pos 1000000000) true)

-- a reference to the rows of a table that are born at the same unit
abbrev pub reference : List ℕ → List ℕ → Column
reference name table = plain name (Ref table (Units (pos 0)) (pos 1 ∷ []) Cascade Turn)

-- customers live 2 to 11 units and change at each, a score of theirs anew
abbrev pub score : Column
score = record { name = codes "score"; kind = Drawn (Int (pos 100) (pos 999) (pos 1)); changes = true; null = pos 0 }

abbrev pub customer : ℕ → Table
customer size = record {
  name = codes "customer";
  rows = pos (100 * size);
  insert = at_each_unit (10 * size);
  life = Some (record { lo = pos 2; hi = pos 11 });
  update = Some (pos 1);
  columns = key ∷ plain (codes "name") (Drawn (Chars (codes "abcdefgh") (pos 8) (pos 8))) ∷ score ∷ [];
}

-- orders go with their customer
abbrev pub orders : ℕ → Table
orders size = record {
  name = codes "orders";
  rows = pos (300 * size);
  insert = at_each_unit (30 * size);
  life = None;
  update = None;
  columns = key ∷ reference (codes "customer") (codes "customer") ∷ plain (codes "placed") Born ∷ [];
}

-- lines go with their order. They are due on a day of 2024, of which the first is day 19,723 and the last day 20,088
abbrev pub order_lines : ℕ → Table
order_lines size = record {
  name = codes "lines";
  rows = pos (600 * size);
  insert = at_each_unit (60 * size);
  life = None;
  update = None;
  columns = key ∷ reference (codes "order_id") (codes "orders") ∷ plain (codes "due") (Drawn (Date (pos 19723) (pos 20088))) ∷ [];
}

-- the schema, over four units after the first
abbrev pub sample_of : ℕ → Schema
sample_of size = record {
  seed = pos size;
  units = pos 4;
  delimiter = Tab;
  tables = customer size ∷ orders size ∷ order_lines size ∷ [];
}

-- it cites no dictionary
abbrev pub sample_project : ℕ → Project
sample_project size = project_of (sample_of size) []
