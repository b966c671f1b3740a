-- Word lists that stand after those of a schema: they change no table of it.
use Rattle.std.proofs.Common.{◌≡◌, ◌∙◌, ℕ, pos, ◌<◌, All, Bool, List, [], ◌∷◌, ◌++◌, get_or, length, map, Option, Some, None, refl, sym, ap, ap₂, subst, arith}
use Rattle.std.specs.Prelude.{⊤, unwrap_or}
use Rattle.std.specs.List.{find}
use Rattle.std.specs.Option.{option_map, option_or}
use Rattle.std.proofs.lemmas.List.{get_or-map, length-map}
use Rattle.std.proofs.lemmas.List.Elements.{All-head, All-tail}
use Rattle.std.proofs.lemmas.List.Folds.{find-append}
use Rattle.dictionaries.specs.WordList.{IsWordList, WordList}
use Rattle.schema_model.specs.declared.column.Column.{Column}
use Rattle.schema_model.specs.declared.column.Kind.{Kind}
use Rattle.schema_model.specs.declared.column.Kind.TheVariants as kind
use Rattle.schema_model.specs.declared.column.Leaf.{Leaf}
use Rattle.schema_model.specs.declared.column.Leaf.TheVariants as drawn
use Rattle.schema_model.specs.declared.table.Table.{Table}
use Rattle.schema_facts.specs.Counts.{count}
use Rattle.schema_facts.specs.Dictionaries.{Dictionary, no_words, words_named}
use Rattle.schema_facts.specs.Layout.{ColumnLayout, KindLayout, LeafLayout, TableLayout, case_kind, column_layout, dict_leaf, kind_layout, leaf_kind, leaf_layout, list_kind, no_table, place_of_column, table_at, table_layout, table_layouts, words_leaf}
use Rattle.schema_plan.specs.Limits.{IsKindInLimits, IsLeafInLimits, IsTableInLimits}
use Rattle.schema_facts.specs.Names.{same_text}
use Rattle.schema_plan.specs.Rules.{kind_at}
use Rattle.schema_check.proofs.ColumnLimits.{kind_at-layout}

-- ---- words

abbrev words_of : Option Dictionary → WordList
words_of found = unwrap_or (option_map (λ (dictionary : Dictionary). dictionary.words) found) no_words

found_first : (first second : Option Dictionary) → IsWordList (words_of first) → words_of (option_or first second) ≡ words_of first
found_first (Some dictionary) second is = refl
found_first None second is = absurd (omega (arith, is.some))

-- those of a name that the first have
words_first : (first others : List Dictionary) (name : List ℕ) → IsWordList (words_named first name) → words_named (first ++ others) name ≡ words_named first name
words_first first others name is =
    let test : Dictionary → Bool = λ (dictionary : Dictionary). same_text dictionary.name name in
    ap words_of (find-append test first others) ∙ found_first (find test first) (find test others) is

-- ---- drawn values

leaf_first : (first others : List Dictionary) (leaf : Leaf) → IsLeafInLimits (leaf_layout first leaf) → leaf_layout (first ++ others) leaf ≡ leaf_layout first leaf
leaf_first first others (drawn.Int lo hi step) is = refl
leaf_first first others (drawn.Fixed lo hi decimals) is = refl
leaf_first first others (drawn.Date lo hi) is = refl
leaf_first first others (drawn.Pick entries weights) is = refl
leaf_first first others (drawn.Skew lo size power) is = refl
leaf_first first others (drawn.Dict file) is = ap dict_leaf (words_first first others file is)
leaf_first first others (drawn.Words file lo hi) is = ap (λ (words : WordList). words_leaf words (count lo) (count hi)) (words_first first others file is.0)
leaf_first first others (drawn.Chars alphabet lo hi) is = refl
leaf_first first others drawn.Uuid is = refl

leaves_first : (first others : List Dictionary) (leaves : List Leaf) → All IsLeafInLimits (map (leaf_layout first) leaves) → map (leaf_layout (first ++ others)) leaves ≡ map (leaf_layout first) leaves
leaves_first first others [] all = refl
leaves_first first others (leaf ∷ leaves) all =
    ap₂ (λ (one : LeafLayout) (more : List LeafLayout). one ∷ more) (leaf_first first others leaf (All-head IsLeafInLimits (leaf_layout first leaf) (map (leaf_layout first) leaves) all))
    (leaves_first first others leaves (All-tail IsLeafInLimits (leaf_layout first leaf) (map (leaf_layout first) leaves) all))

-- ---- columns

-- what a kind draws and lists is within its limits
abbrev IsDrawnWithin : List Dictionary → Kind → Type 0
IsDrawnWithin first (kind.Leaf leaf) = IsLeafInLimits (leaf_layout first leaf)
IsDrawnWithin first (kind.Case on branches) = All IsLeafInLimits (map (leaf_layout first) branches)
IsDrawnWithin first (kind.List file) = IsWordList (words_named first file)
IsDrawnWithin first _ = ⊤

kind_first : (first others : List Dictionary) (tables : List Table) (columns : List Column) (of : Kind) → IsDrawnWithin first of → kind_layout (first ++ others) tables columns of ≡ kind_layout first tables columns of
kind_first first others tables columns (kind.Key base scramble) is = refl
kind_first first others tables columns kind.Born is = refl
kind_first first others tables columns kind.Changed is = refl
kind_first first others tables columns (kind.Leaf leaf) is = ap leaf_kind (leaf_first first others leaf is)
kind_first first others tables columns (kind.Template parts) is = refl
kind_first first others tables columns (kind.Case on branches) is = ap (λ (leaves : List LeafLayout). case_kind (place_of_column columns on) leaves) (leaves_first first others branches is)
kind_first first others tables columns (kind.Ref table window spread on_delete deal) is = refl
kind_first first others tables columns (kind.Lookup via column) is = refl
kind_first first others tables columns (kind.List file) is = ap list_kind (words_first first others file is)
kind_first first others tables columns (kind.BornDate start step) is = refl
kind_first first others tables columns (kind.ChangedDate start step) is = refl
kind_first first others tables columns (kind.After of lo hi) is = refl
kind_first first others tables columns (kind.Sum of) is = refl
kind_first first others tables columns (kind.Product of) is = refl

-- a kind within its limits
within_kind : (first : List Dictionary) (tables : List Table) (columns : List Column) (layouts : List ColumnLayout) (place : ℕ) (of : Kind) → IsKindInLimits layouts place (kind_layout first tables columns of) → IsDrawnWithin first of
within_kind first tables columns layouts place (kind.Leaf leaf) is = is
within_kind first tables columns layouts place (kind.Case on branches) is = is.each
within_kind first tables columns layouts place (kind.List file) is = is
within_kind first tables columns layouts place _ is = tt

columns_first : (first others : List Dictionary) (tables : List Table) (all columns : List Column) → All (λ (column : Column). IsDrawnWithin first column.kind) columns →
    map (column_layout (first ++ others) tables all) columns ≡ map (column_layout first tables all) columns
columns_first first others tables all [] within = refl
columns_first first others tables all (column ∷ columns) within =
    ap₂ (λ (of : KindLayout) (more : List ColumnLayout). record { kind = of; changes = column.changes; null = count column.null } ∷ more)
    (kind_first first others tables all column.kind (All-head (λ (c : Column). IsDrawnWithin first c.kind) column columns within))
    (columns_first first others tables all columns (All-tail (λ (c : Column). IsDrawnWithin first c.kind) column columns within))

-- ---- tables

a_table : Table
a_table = record { name = []; rows = pos 0; insert = []; life = None; update = None; columns = [] }

table_is : (dictionaries : List Dictionary) (tables : List Table) (place : ℕ) → place < length tables → table_at (table_layouts dictionaries tables) place ≡ table_layout dictionaries tables (get_or tables place a_table)
table_is dictionaries tables place below = get_or-map (table_layout dictionaries tables) tables place a_table no_table below

pub table_first : (units : ℕ) (first others : List Dictionary) (tables : List Table) (place : ℕ) → place < length tables → IsTableInLimits units (table_at (table_layouts first tables) place) →
    (table_at (table_layouts (first ++ others) tables) place).columns ≡ (table_at (table_layouts first tables) place).columns
table_first units first others tables place below limits =
    let columns : List Column = (get_or tables place a_table).columns in
    let here : IsTableInLimits units (table_layout first tables (get_or tables place a_table)) = subst (IsTableInLimits units) (table_is first tables place below) limits in
    let within : All (λ (column : Column). IsDrawnWithin first column.kind) columns =
    λ i d inside.
    let layouts : List ColumnLayout = map (column_layout first tables columns) columns in
    let kind_is : kind_at columns i ≡ (get_or columns i d).kind = get_or-map (λ (c : Column). c.kind) columns i d kind.Born inside in
    subst (IsDrawnWithin first) kind_is
    (within_kind first tables columns layouts i (kind_at columns i)
    (subst (IsKindInLimits layouts i) (kind_at-layout first tables columns i inside) (here.kinds i (omega (arith, inside, length-map columns (column_layout first tables columns)))))) in
    ap (λ (table : TableLayout). table.columns) (table_is (first ++ others) tables place below)
    ∙ columns_first first others tables columns columns within
    ∙ sym (ap (λ (table : TableLayout). table.columns) (table_is first tables place below))
