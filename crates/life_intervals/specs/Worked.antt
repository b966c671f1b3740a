-- Customers, their orders and the lines of these, and remarks on customers, worked out by hand for orders in which each index is its own
-- place.
use Rattle.std.specs.Prelude.{ℕ, [], ◌∷◌, Option, Some, None}
use Rattle.philox_seeds.specs.SeedTree.{field_draw}
use Rattle.schema_facts.specs.Layout.{layout_of}
use Rattle.schema_facts.specs.Worked.{sales, talks}
use Rattle.life_intervals.specs.declared.children.Block.{Block}
use Rattle.life_intervals.specs.Generator.{Generator, in_place}
use Rattle.life_intervals.specs.Rows.{Row}

-- at each unit a row of each table is born. A customer lives three units and changes at the ages 1 and 3; an order lives nine
-- units and has the oldest customer who was born in two units before or with it; a line has the order that is born with it
abbrev pub sales_in_place : Generator
sales_in_place = record { tables = (layout_of sales).tables; order = in_place; draw = field_draw 7; delimiter = 9 }

-- the customer that is born at a unit: its last change, how long it still lives, and how long it doesn't change
abbrev pub customer_row : ℕ → ℕ → ℕ → ℕ → Row
customer_row unit changed left wait =
    record { ordinal = unit; born = unit; changed = changed; left = Some left; wait = Some wait; parents = [] }

-- the order that is born at a unit: how long it lives by itself, and its customer
abbrev pub order_row : ℕ → ℕ → ℕ → Row
order_row unit left customer =
    record { ordinal = unit; born = unit; changed = unit; left = Some left; wait = None; parents = Some customer ∷ [] }

-- the line that is born at a unit
abbrev pub line_row : ℕ → Row
line_row unit =
    record { ordinal = unit; born = unit; changed = unit; left = None; wait = None; parents = Some unit ∷ [] }

-- the same customers, and at each unit a remark on the oldest of those who were born in two units before or with it. A remark stays when
-- its customer goes
abbrev pub talks_in_place : Generator
talks_in_place = record { tables = (layout_of talks).tables; order = in_place; draw = field_draw 7; delimiter = 9 }

-- the remark that is born at a unit: its last change, and its customer, as long as it has one
abbrev pub remark_row : ℕ → ℕ → Option ℕ → Row
remark_row unit changed customer =
    record { ordinal = unit; born = unit; changed = changed; left = None; wait = None; parents = customer ∷ [] }

-- the block of so many places from a first one on
abbrev pub block : ℕ → ℕ → Option Block
block first size = Some (record { first = first; size = size })
