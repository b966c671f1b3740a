-- The greatest size of a line: that of its fields, its key and its number.
use Rattle.std.proofs.Common.{◌≡◌, ◌∙◌, ◌≤◌, ℕ, zero, suc, ◌+◌, ◌-◌, List, length, refl, ap, arith}
use Rattle.std.specs.List.{range_with_len, sum_by}
use Rattle.std.proofs.lemmas.List.{length-map}
use Rattle.std.proofs.lemmas.List.Folds.{fold-map}
use Rattle.std.proofs.lemmas.List.FromFn.{fill_by_all, sum_by-map-range_with_len_more}
use Rattle.schema_plan.specs.Beside.{line_beside}
use Rattle.schema_facts.specs.FieldSizes.{size_of}
use Rattle.schema_facts.specs.Layout.{ColumnLayout, KindLayout, column_at, column_layout, kind_layout, no_column, table_layouts}
use Rattle.row_lines.proofs.CohortLineLemmas.{sum_by-range_more}
use Rattle.schema_check.proofs.ColumnLimits.{kind_at-layout}
use Rattle.detail_plan.specs.Beside.{columns_beside, reference_to}
use Rattle.detail_plan.specs.Kept.{KeepsRules}
use Rattle.detail_plan.specs.Limits.{IsInLimits}
use Rattle.detail_plan.specs.Rules.{line_size}
use Rattle.detail_lines.specs.Made.{LinesOver, columns_over, delimiter_over, field_room, fields_room, own_over, size_over}
use Rattle.detail_lines.proofs.ColumnLemmas.{columns_count, reference_kind}

-- of a column, with the byte before it
abbrev room_of : LinesOver → ColumnLayout → ℕ
room_of over column =
    size_of (delimiter_over over) (table_layouts over.kept.lists over.plan.schema.tables) (columns_over over) column.kind + 1

-- all columns are those of the file and the reference to the parent
all_rooms : (over : LinesOver) (many : ℕ) → length (columns_over over) ≡ many + 1 → size_over over many ≡ 20 →
    line_beside over.plan over.kept.lists (columns_beside over.kept.detail) ≡ fields_room over many + 21
unfolding line_beside
all_rooms over many count_is reference_is =
    let columns : List ColumnLayout = columns_over over in
    let at : ℕ → ColumnLayout = column_at columns in
    let size : ColumnLayout → ℕ = λ column. size_of (delimiter_over over) (table_layouts over.kept.lists over.plan.schema.tables) columns column.kind in
    fold-map (λ total size. total + (size + 1)) size 0 columns
    ∙ ap (sum_by (room_of over)) (fill_by_all at columns (many + 1) no_column count_is (λ k below. refl))
    ∙ sum_by-map-range_with_len_more (room_of over) at 0 many many (omega arith)
    ∙ ap (λ n. n + (size_over over many + 1)) (fold-map (λ total column. total + room_of over column) at 0 (range_with_len 0 many))
    ∙ ap (λ n. fields_room over many + (n + 1)) reference_is

pub line-rooms : (over : LinesOver) → KeepsRules over.plan over.kept → IsInLimits over.kept.lists over.kept.detail →
    line_size over.plan over.kept.lists over.kept.detail ≡ fields_room over (own_over over) + 24
line-rooms over keeps limits =
    let plan = over.plan in
    let kept = over.kept in
    let columns = columns_beside kept.detail in
    let count_is : length (columns_over over) ≡ own_over over + 1 = length-map columns (column_layout kept.lists plan.schema.tables columns) ∙ columns_count plan kept keeps limits in
    let here : (column_at (columns_over over) (own_over over)).kind ≡ kind_layout kept.lists plan.schema.tables columns (reference_to kept.detail.parent).kind =
    kind_at-layout kept.lists plan.schema.tables columns (own_over over) (omega (arith, columns_count plan kept keeps limits))
    ∙ ap (kind_layout kept.lists plan.schema.tables columns) (reference_kind plan kept keeps limits) in
    let reference_is : size_over over (own_over over) ≡ 20 =
    ap (λ (kind : KindLayout). size_of (delimiter_over over) (table_layouts kept.lists plan.schema.tables) (columns_over over) kind) here in
    omega (arith, all_rooms over (own_over over) count_is reference_is)

-- ---- some fields

pub rooms-more : (over : LinesOver) (count : ℕ) → fields_room over (count + 1) ≡ fields_room over count + field_room over count
rooms-more over count = sum_by-range_more (field_room over) count

rooms-past : (over : LinesOver) (done more : ℕ) → fields_room over done ≤ fields_room over (done + more)
rooms-past over done zero =
    let none : done + 0 ≡ done = omega arith in
    omega (arith, ap (fields_room over) none)
rooms-past over done (suc more) =
    let next : done + suc more ≡ done + more + 1 = omega arith in
    omega (arith, rooms-past over done more, rooms-more over (done + more), ap (fields_room over) next)

-- fewer fields take less room
pub rooms-within : (over : LinesOver) (done count : ℕ) → done ≤ count → fields_room over done ≤ fields_room over count
rooms-within over done count within =
    let rest : done + (count - done) ≡ count = omega (arith, within) in
    omega (arith, rooms-past over done (count - done), ap (fields_room over) rest)
