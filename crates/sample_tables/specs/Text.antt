-- The text of a sample's schema.
use Rattle.std.specs.Prelude.{ℕ, ◌*◌, ◌++◌, List, codes, decimal}

-- a line of a key and a number
abbrev pub number_line : List ℕ → ℕ → List ℕ
number_line key number = key ++ codes " = " ++ decimal number ++ codes "\n"

-- a line of a key and a text in quotes
abbrev pub text_line : List ℕ → List ℕ → List ℕ
text_line key text = key ++ codes " = \"" ++ text ++ codes "\"\n"

-- how a table begins, after an empty line
abbrev pub table_head : List ℕ → ℕ → ℕ → List ℕ
table_head name rows insert =
    codes "\n[[table]]\n" ++ text_line (codes "name") name ++ number_line (codes "rows") rows ++ number_line (codes "insert") insert

-- how a column begins
abbrev pub column_head : List ℕ → List ℕ → List ℕ
column_head name kind = codes "[[table.column]]\n" ++ text_line (codes "name") name ++ text_line (codes "kind") kind

-- the key of each table
abbrev pub key_text : List ℕ
key_text = column_head (codes "id") (codes "key") ++ codes "base = 1000000000\nscramble = true\n"

-- a reference to the rows of a table that are born at the same unit
abbrev pub reference_text : List ℕ → List ℕ → List ℕ
reference_text name table = column_head name (codes "ref") ++ text_line (codes "table") table ++ codes "window = 0\n"

-- the tables
abbrev pub customer_text : ℕ → List ℕ
customer_text size =
    table_head (codes "customer") (100 * size) (10 * size) ++ codes "life = [2, 11]\nupdate = 1\n" ++ key_text
    ++ column_head (codes "name") (codes "chars") ++ codes "alphabet = \"abcdefgh\"\nlo = 8\nhi = 8\n"
    ++ column_head (codes "score") (codes "int") ++ codes "lo = 100\nhi = 999\nchanges = true\n"

abbrev pub orders_text : ℕ → List ℕ
orders_text size =
    table_head (codes "orders") (300 * size) (30 * size) ++ key_text
    ++ reference_text (codes "customer") (codes "customer")
    ++ column_head (codes "placed") (codes "born")

abbrev pub lines_text : ℕ → List ℕ
lines_text size =
    table_head (codes "lines") (600 * size) (60 * size) ++ key_text
    ++ reference_text (codes "order_id") (codes "orders")
    ++ column_head (codes "due") (codes "date") ++ codes "lo = \"2024-01-01\"\nhi = \"2024-12-31\"\n"

-- the text of the schema of a size
abbrev pub schema_text : ℕ → List ℕ
schema_text size =
    number_line (codes "seed") size ++ codes "units = 4\n" ++ customer_text size ++ orders_text size ++ lines_text size
