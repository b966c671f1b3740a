-- The rules of a detail table over a schema, E1 to E6, and the first that is broken. The word lists are all that there are: the schema's
-- and those that are handed in after them.
use Rattle.std.specs.Prelude.{ℕ, pos, ◌+◌, ◌*◌, List, [], ◌∷◌, Bool, true, false, not, ◌&&◌, Option, Some, None, filter, int_le, is_some, length, nat_le, option_map}
use Rattle.std.specs.List.{list_all, range_with_len}
use Rattle.schema_model.specs.declared.column.Column.{Column}
use Rattle.schema_facts.specs.declared.column_facts.ColumnFacts.{ColumnFacts}
use Rattle.schema_plan.specs.Beside.{facts_beside, line_beside}
use Rattle.schema_plan.specs.Citations.{citable_in}
use Rattle.schema_facts.specs.Counts.{count}
use Rattle.schema_facts.specs.Dictionaries.{Dictionary, Project, dictionary_named}
use Rattle.schema_facts.specs.FactsBefore.{facts_among}
use Rattle.schema_facts.specs.Layout.{columns_of, place_of_table}
use Rattle.schema_facts.specs.Names.{is_name}
use Rattle.schema_plan.specs.Planned.{table_named}
use Rattle.schema_plan.specs.Rules.{are_columns_supplied, has_still_column, keeps_column_rules}
use Rattle.detail_plan.specs.declared.detail.Detail.{Detail}
use Rattle.detail_plan.specs.declared.detail.DetailColumn.{DetailColumn}
use Rattle.detail_plan.specs.declared.detail.DetailKind.{DetailKind}
use Rattle.detail_plan.specs.declared.detail.DetailKind.TheVariants.{Parent}
use Rattle.detail_plan.specs.Beside.{columns_beside, table_beside}

-- ---- word lists

-- whether a name is that of no word list of the schema
abbrev pub is_new_list : Project → List ℕ → Bool
is_new_list plan name = not (is_some (dictionary_named plan.dictionaries name))

-- the word lists that the file cites and the schema doesn't have, in the order of their first citations; None where the file cites one that
-- may not be cited
abbrev pub citations_of : Project → Detail → Option (List (List ℕ))
citations_of plan detail = option_map (filter (is_new_list plan)) (citable_in (columns_beside detail))

-- ---- facts and sizes

-- the facts of the columns, in order
abbrev pub facts_of : Project → Detail → List ColumnFacts
facts_of plan detail = facts_beside plan (table_beside detail)

-- the greatest size of a line, in bytes: its number with the byte after it takes 3, and the parent's key is the field of the reference
abbrev pub line_size : Project → List Dictionary → Detail → ℕ
line_size plan lists detail = line_beside plan lists (columns_beside detail) + 3

-- the greatest size of all lines of a row of the parent
abbrev pub reach_of : Project → List Dictionary → Detail → ℕ
reach_of plan lists detail = count detail.hi * line_size plan lists detail

-- ---- the rules

-- E6: each word list that the file cites has a name of 1 to 255 bytes, the file cites at most 64 different ones, and each is there
abbrev pub has_lists : List Dictionary → Detail → Bool
has_lists lists detail = are_columns_supplied lists (columns_beside detail)

-- E1: the seed is at least 0, and the name is a name that no table of the schema has
abbrev pub has_new_name : Project → Detail → Bool
has_new_name plan detail =
    int_le (pos 0) detail.seed && is_name detail.name && not (is_some (table_named plan.schema detail.name))

-- E2: the parent is a table of the schema
abbrev pub has_parent : Project → Detail → Bool
has_parent plan detail = is_some (table_named plan.schema detail.parent)

-- E3: a row of the parent has from lo to hi lines, at least 0, and hi is from 1 to 64
abbrev pub has_line_counts : Detail → Bool
has_line_counts detail =
    int_le (pos 0) detail.lo && int_le detail.lo detail.hi && int_le (pos 1) detail.hi && int_le detail.hi (pos 64)

-- each column keeps the rules of columns
abbrev pub keep_column_rules : List ColumnFacts → List Column → ℕ → Bool
keep_column_rules facts columns count =
    list_all (λ place. keeps_column_rules (facts_among facts place) columns place) (range_with_len 0 count)

-- the columns of the parent's table
abbrev pub parent_columns : Project → Detail → List Column
parent_columns plan detail = columns_of plan.schema.tables (place_of_table plan.schema.tables detail.parent)

-- a column of the parent that is shown stands in its table, doesn't move and is no lookup
abbrev pub is_shown : List Column → DetailKind → Bool
is_shown parent (Parent column) = has_still_column parent column
is_shown parent _ = true

abbrev pub are_shown : List Column → List DetailColumn → Bool
are_shown parent columns = list_all (λ (column : DetailColumn). is_shown parent column.kind) columns

-- E4: there are 1 to 32 columns, and each keeps the rules of columns
abbrev pub has_columns : Project → Detail → Bool
has_columns plan detail =
    nat_le 1 (length detail.columns) && nat_le (length detail.columns) 32
    && keep_column_rules (facts_of plan detail) (columns_beside detail) (length detail.columns)
    && are_shown (parent_columns plan detail) detail.columns

-- E5: all lines of a row of the parent together have at most 65,536 bytes
abbrev pub has_short_lines : Project → List Dictionary → Detail → Bool
has_short_lines plan lists detail = nat_le (reach_of plan lists detail) 65536

-- each rule by its number, and whether it holds, in the order in which they are tried
abbrev pub rules : Project → List Dictionary → Detail → List (ℕ × Bool)
rules plan lists detail =
    (6, has_lists lists detail)
    ∷ (1, has_new_name plan detail)
    ∷ (2, has_parent plan detail)
    ∷ (3, has_line_counts detail)
    ∷ (4, has_columns plan detail)
    ∷ (5, has_short_lines plan lists detail)
    ∷ []

-- the number of the first that doesn't hold
abbrev pub first_false : List (ℕ × Bool) → Option ℕ
first_false [] = None
first_false ((number, true) ∷ others) = first_false others
first_false ((number, false) ∷ others) = Some number

-- the first rule that is broken, E1 as 1
abbrev pub first_broken : Project → List Dictionary → Detail → Option ℕ
first_broken plan lists detail = first_false (rules plan lists detail)
