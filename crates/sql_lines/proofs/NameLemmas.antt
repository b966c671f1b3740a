-- The names of tables and columns: where the code finds them, and how long they are.
use Rattle.std.proofs.Common.{◌≡◌, ◌<◌, ◌≤◌, ℕ, zero, suc, true, not, ◌&&◌, nat_le, List, [], ◌∷◌, ◌++◌, Some, codes, length, length-append, get_or, map, slice_get, take, arith, refl, ap, sym, ◌∙◌}
use Rattle.std.specs.List.{list_all, list_any}
use Rattle.std.proofs.lemmas.Bool.{and_parts, leb-true}
use Rattle.std.proofs.lemmas.List.{get_or-map, length-map}
use Rattle.schema_model.specs.declared.table.Schema.{Schema}
use Rattle.schema_model.specs.declared.table.Table.{Table}
use Rattle.schema_model.specs.declared.column.Column.{Column}
use Rattle.schema_check.proofs.FirstBreak.{none_of_rule}
use Rattle.schema_check.proofs.Kept.{keeps_from_none, none_at}
use Rattle.schema_plan.specs.declared.rules.Rule.TheVariants.{Columns, TableNames}
use Rattle.schema_plan.specs.declared.site.Site.TheVariants.{OfColumn, OfTable}
use Rattle.schema_facts.specs.Dictionaries.{Project}
use Rattle.schema_facts.specs.Layout.{TableLayout, no_table, table_layout}
use Rattle.schema_facts.specs.Names.{begins_with_letter, is_name, is_name_byte, same_text}
use Rattle.schema_plan.specs.Rules.{IsAccepted, Keeps, broken_rule, column_names, first_broken, rules, table_names}
use Rattle.schema_plan.specs.Sites.{columns_at}
use Rattle.update_box.specs.Parts.{name_at}
use Rattle.sql_lines.specs.Statements.{column_count, column_name, table_name}

-- ---- where they are found

as_many : (f : Table → TableLayout) → ((table : Table) → length (f table).columns ≡ length table.columns) → (tables : List Table) (place : ℕ) → place < length tables →
    length (get_or (map (λ (table : Table). table.columns) tables) place []) ≡ length (get_or (map f tables) place no_table).columns
as_many f same [] place below = absurd (omega (arith, below))
as_many f same (table ∷ tables) zero below = sym (same table)
as_many f same (table ∷ tables) (suc place) below = as_many f same tables place (omega (arith, below))

-- a table has as many columns as its layout
pub length-columns_at : (plan : Project) (place : ℕ) → place < length plan.schema.tables → length (columns_at plan.schema place) ≡ column_count plan place
length-columns_at plan place below =
    as_many (table_layout plan.dictionaries plan.schema.tables) (λ table. length-map table.columns _) plan.schema.tables place below

columns_got : (tables : List Table) (place : ℕ) (table : Table) → slice_get tables place ≡ Some table → get_or (map (λ (t : Table). t.columns) tables) place [] ≡ table.columns
columns_got [] place table at = absurd (cc)
columns_got (first ∷ tables) zero table at = let same : first ≡ table = cc in ap (λ (t : Table). t.columns) same
columns_got (first ∷ tables) (suc place) table at = columns_got tables place table at

name_got : (tables : List Table) (place : ℕ) (table : Table) → slice_get tables place ≡ Some table → get_or (map (λ (t : Table). t.name) tables) place [] ≡ table.name
name_got [] place table at = absurd (cc)
name_got (first ∷ tables) zero table at = let same : first ≡ table = cc in ap (λ (t : Table). t.name) same
name_got (first ∷ tables) (suc place) table at = name_got tables place table at

-- the columns of a table that is found, and its name
pub columns-found : (schema : Schema) (place : ℕ) (table : Table) → slice_get schema.tables place ≡ Some table → columns_at schema place ≡ table.columns
columns-found schema place table at = columns_got schema.tables place table at

pub table_name-found : (schema : Schema) (place : ℕ) (table : Table) → slice_get schema.tables place ≡ Some table → name_at schema place ≡ table.name
table_name-found schema place table at = name_got schema.tables place table at

-- the name of a column of it
pub column_name-found : (schema : Schema) (place column : ℕ) (table : Table) (d : Column) → slice_get schema.tables place ≡ Some table → column < length table.columns →
    get_or (column_names schema place) column [] ≡ (get_or table.columns column d).name
column_name-found schema place column table d at below =
    ap (λ (columns : List Column). get_or (map (λ (c : Column). c.name) columns) column []) (columns-found schema place table at)
    ∙ get_or-map (λ (c : Column). c.name) table.columns column d [] below

-- ---- how long they are

keeps_tables : (plan : Project) → IsAccepted plan → Keeps TableNames plan
unfolding first_broken
keeps_tables plan is = keeps_from_none TableNames plan (none_of_rule plan TableNames (none_at (broken_rule plan) rules is 3 TableNames refl))

keeps_columns : (plan : Project) → IsAccepted plan → Keeps Columns plan
unfolding first_broken
keeps_columns plan is = keeps_from_none Columns plan (none_of_rule plan Columns (none_at (broken_rule plan) rules is 4 Columns refl))

named_few : (name : List ℕ) → is_name name ≡ true → length name ≤ 32
named_few name is =
    leb-true (length name) 32 (and_parts (begins_with_letter name) (nat_le (length name) 32) (and_parts (begins_with_letter name && nat_le (length name) 32) (list_all is_name_byte name) is).0).1

new_few : (names : List (List ℕ)) (place : ℕ) →
    (is_name (get_or names place []) && not (list_any (λ other. same_text other (get_or names place [])) (take place names))) ≡ true → length (get_or names place []) ≤ 32
new_few names place is = named_few (get_or names place []) (and_parts (is_name (get_or names place [])) _ is).0

-- with the double quotes around them
pub table_name-few : (plan : Project) → IsAccepted plan → (place : ℕ) → place < length plan.schema.tables → length (table_name plan place) ≤ 34
table_name-few plan is place below =
    let name : List ℕ = name_at plan.schema place in
    omega (arith, new_few (table_names plan.schema) place (keeps_tables plan is (OfTable place) below), length-append (codes "\"" ++ name) (codes "\""), length-append (codes "\"") name)

pub column_name-few : (plan : Project) → IsAccepted plan → (place column : ℕ) → place < length plan.schema.tables → column < column_count plan place → length (column_name plan place column) ≤ 34
column_name-few plan is place column below within =
    let inside : column < length (columns_at plan.schema place) = omega (arith, within, length-columns_at plan place below) in
    let name : List ℕ = get_or (column_names plan.schema place) column [] in
    omega (
      arith,
      new_few (column_names plan.schema place) column (keeps_columns plan is (OfColumn place column) (below, inside)),
      length-append (codes "\"" ++ name) (codes "\""),
      length-append (codes "\"") name,
    )
