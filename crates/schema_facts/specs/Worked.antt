-- Schemas whose lives, costs and sizes are worked out by hand.
use Rattle.std.specs.Prelude.{ℕ, ℤ, pos, true, false, List, [], ◌∷◌, ◌++◌, map, Option, Some, None, codes}
use Rattle.schema_model.specs.declared.table.Phase.{Phase}
use Rattle.schema_model.specs.declared.table.Table.{Table}
use Rattle.schema_model.specs.declared.table.Delimiter.TheVariants.{Tab}
use Rattle.schema_model.specs.declared.column.Column.{Column}
use Rattle.schema_model.specs.declared.column.Kind.{Kind}
use Rattle.schema_model.specs.declared.column.Kind.TheVariants.{Key, Born, Changed, Leaf as Drawn, Template, Ref, Lookup, After, Sum}
use Rattle.schema_model.specs.declared.column.Leaf.TheVariants.{Int, Date, Pick, Dict, Words, Chars}
use Rattle.schema_model.specs.declared.column.Deal.TheVariants as deal
use Rattle.schema_model.specs.declared.column.OnDelete.TheVariants.{Cascade, Null}
use Rattle.schema_model.specs.declared.column.Part.TheVariants.{Literal, Cited}
use Rattle.schema_facts.specs.declared.numbers.Numbers.{Numbers}
use Rattle.schema_facts.specs.Dictionaries.{Project, project_of}
use Rattle.schema_facts.specs.Numbers.{drawn_numbers, sum_of}
use Rattle.schema_facts.specs.FieldSizes.{field_sizes}
use Rattle.schema_facts.specs.Layout.{Layout, TableLayout}
use Rattle.schema_model.specs.declared.column.Window.TheVariants.{Units}

-- the one phase in which as many rows are born at each unit after the first
abbrev pub at_each_unit : ℕ → List Phase
at_each_unit rows = record { from = pos 1; rate = pos rows } ∷ []

-- a column that neither changes nor is null
abbrev pub plain : List ℕ → Kind → Column
plain name kind = record { name = name; kind = kind; changes = false; null = pos 0 }

abbrev pub key : Column
key = plain (codes "id") (Key (pos 1) false)

-- a reference to the rows of a table that were born in a window of units
abbrev pub reference : List ℕ → ℕ → Column
reference table units = plain table (Ref table (Units (pos units)) (pos 1 ∷ []) Cascade deal.Turn)

-- customers live three units and change every two
abbrev pub customer : Table
customer = record {
  name = codes "customer";
  rows = pos 1;
  insert = at_each_unit 1;
  life = Some (record { lo = pos 3; hi = pos 3 });
  update = Some (pos 2);
  columns = key ∷ plain (codes "born") Born ∷ plain (codes "changed") Changed ∷ [];
}

-- orders live nine units, or as long as their customer, who may be two units older
abbrev pub orders : Table
orders = record {
  name = codes "orders";
  rows = pos 1;
  insert = at_each_unit 1;
  life = Some (record { lo = pos 9; hi = pos 9 });
  update = None;
  columns = key ∷ reference (codes "customer") 2 ∷ [];
}

-- lines live as long as their order
abbrev pub order_lines : Table
order_lines = record {
  name = codes "lines";
  rows = pos 1;
  insert = at_each_unit 1;
  life = None;
  update = None;
  columns = key ∷ reference (codes "orders") 0 ∷ [];
}

abbrev pub sales : Project
sales = project_of (record { seed = pos 7; units = pos 5; delimiter = Tab; tables = customer ∷ orders ∷ order_lines ∷ [] }) []

-- a table with some columns more
abbrev pub with_columns : Table → List Column → Table
with_columns table columns = record table { columns = table.columns ++ columns }

-- customers with a day, and orders that are due up to 9 days after their customer's day
abbrev pub dues : Project
dues = project_of
    (record {
      seed = pos 7;
      units = pos 5;
      delimiter = Tab;
      tables =
          with_columns customer (plain (codes "day") (Drawn (Date (pos 19781) (pos 19781))) ∷ [])
          ∷ with_columns orders (plain (codes "look") (Lookup (codes "customer") (codes "day")) ∷ plain (codes "due") (After (codes "look") (pos 0) (pos 9)) ∷ [])
          ∷ [];
    })
    []

-- customers with a number, and orders with twice that of their customer
abbrev pub doubles : Project
doubles = project_of
    (record {
      seed = pos 7;
      units = pos 5;
      delimiter = Tab;
      tables =
          with_columns customer (plain (codes "n") (Drawn (Int (pos 3) (pos 3) (pos 1))) ∷ [])
          ∷ with_columns orders (plain (codes "look") (Lookup (codes "customer") (codes "n")) ∷ plain (codes "twice") (Sum (codes "look" ∷ codes "look" ∷ [])) ∷ [])
          ∷ [];
    })
    []

-- an operand that is read from one drawn value
abbrev pub drawn : ℕ → ℤ → ℤ → Option Numbers
drawn decimals least greatest = Some (drawn_numbers decimals least greatest)

-- the sum of some operands eight times
abbrev pub eight_times : Option Numbers → Option Numbers
eight_times operand = sum_of (operand ∷ operand ∷ operand ∷ operand ∷ operand ∷ operand ∷ operand ∷ operand ∷ [])

-- remarks stay when their customer goes; a label cites the customer too
abbrev pub remark : Table
remark = record {
  name = codes "remark";
  rows = pos 1;
  insert = at_each_unit 1;
  life = None;
  update = None;
  columns =
      key ∷ plain (codes "customer") (Ref (codes "customer") (Units (pos 2)) (pos 1 ∷ []) Null deal.Turn)
      ∷ plain (codes "label") (Template (Literal (codes "of ") ∷ Cited (codes "customer") ∷ []))
      ∷ [];
}

abbrev pub talks : Project
talks = project_of (record { seed = pos 7; units = pos 5; delimiter = Tab; tables = customer ∷ remark ∷ [] }) []

-- cities with a scrambled key, a picked name and a text made of it
abbrev pub city : Table
city = record {
  name = codes "city";
  rows = pos 3;
  insert = at_each_unit 0;
  life = None;
  update = None;
  columns =
      plain (codes "id") (Key (pos 1) true)
      ∷ plain (codes "name") (Drawn (Pick (codes "Oslo" ∷ codes "Li\tma" ∷ []) (pos 5 ∷ pos 3 ∷ [])))
      ∷ plain (codes "mark") (Drawn (Chars (codes "a\\b") (pos 0) (pos 3)))
      ∷ plain (codes "label") (Template (Literal (codes "in ") ∷ Cited (codes "name") ∷ Cited (codes "name") ∷ []))
      ∷ [];
}

-- houses with the key and the name of their city
abbrev pub house : Table
house = record {
  name = codes "house";
  rows = pos 9;
  insert = at_each_unit 0;
  life = None;
  update = None;
  columns =
      key ∷ reference (codes "city") 0
      ∷ plain (codes "where") (Lookup (codes "city") (codes "name"))
      ∷ plain (codes "again") (Template (Cited (codes "city") ∷ Cited (codes "city") ∷ []))
      ∷ [];
}

abbrev pub places : Project
places = project_of (record { seed = pos 1; units = pos 0; delimiter = Tab; tables = city ∷ house ∷ [] }) []

-- people with a name of the dictionary `n`, and up to three of its words
abbrev pub person : Table
person = record {
  name = codes "person";
  rows = pos 2;
  insert = at_each_unit 0;
  life = None;
  update = None;
  columns = key ∷ plain (codes "name") (Drawn (Dict (codes "n"))) ∷ plain (codes "remark") (Drawn (Words (codes "n") (pos 0) (pos 3))) ∷ [];
}

abbrev pub people : Project
people = project_of
    (record { seed = pos 1; units = pos 0; delimiter = Tab; tables = person ∷ [] })
    (record { name = codes "m"; words = record { entries = codes "Methuselah" ∷ []; weights = 1 ∷ [] } }
    ∷ record { name = codes "n"; words = record { entries = codes "Bo" ∷ codes "An\tn" ∷ []; weights = 1 ∷ 3 ∷ [] } }
    ∷ [])

-- a kind whose reference, if it is one, deals the candidates in a drawn order
abbrev pub drawn_kind : Kind → Kind
drawn_kind (Ref table window spread on_delete _) = Ref table window spread on_delete deal.Drawn
drawn_kind kind = kind

abbrev pub drawn_column : Column → Column
drawn_column column = record column { kind = drawn_kind column.kind }

abbrev pub drawn_table : Table → Table
drawn_table table = record table { columns = map drawn_column table.columns }

-- a project with the same tables, in which all references are drawn
abbrev pub drawn_project : Project → Project
drawn_project project = project_of (record project.schema { tables = map drawn_table project.schema.tables }) project.dictionaries

-- the greatest sizes of a table's fields
abbrev pub sizes_of : Layout → TableLayout → List ℕ
sizes_of layout table = field_sizes layout.delimiter layout.tables table.columns
