-- The fields of a run that are of several items.
use Rattle.std.proofs.Common.{◌≡◌, ◌<◌, ◌≤◌, ℕ, ◌+◌, true, List, ◌++◌, ◌∷◌, [], get_or, length, length-take, take, refl, ap, sym, ◌∙◌, arith}
use Rattle.std.proofs.lemmas.List.{get_or-append-add, get_or_append_left, get_or-take}
use Rattle.std.proofs.lemmas.Slice.{take-put_mid}
use Rattle.row_text.specs.Fields.{field_text}
use Rattle.schema_facts.specs.Layout.{KindLayout, born_kind, case_kind, changed_kind, column_at, layout_of, leaf_kind, list_kind, unit_date_kind}
use Rattle.schema_plan.specs.Ready.{ready_kind}
use Rattle.draw_values.specs.declared.items.ItemizedField.{ItemizedField}
use Rattle.draw_values.specs.declared.runs.RunRows.{RunRows}
use Rattle.draw_values.specs.Items.{field_behind}
use Rattle.draw_values.specs.Runs.{RunColumnOf, is_itemized, run_row}
use Rattle.draw_values.specs.Values.{is_own, size_at, value_at}
use Rattle.row_lines.specs.RunFields.{AreItemized, AreRowsOf, size_for}
use Rattle.row_lines.specs.Runs.{RunLinesOf, layout_for, text_at, text_behind}
use Rattle.row_lines.specs.TableLines.{column_of}
use Rattle.row_lines.proofs.RunFieldLemmas.{run-birth, text_at-own}
use borrow.Rule.Slice.PartMut.{put_mid}

-- what is of several items is made of draws
own_from_itemized : (delimiter : ℕ) (kind : KindLayout) → is_itemized (ready_kind delimiter kind) ≡ true → is_own kind ≡ true
own_from_itemized delimiter born_kind itemized = refl
own_from_itemized delimiter changed_kind itemized = refl
own_from_itemized delimiter (leaf_kind leaf) itemized = refl
own_from_itemized delimiter (case_kind on branches) itemized = refl
own_from_itemized delimiter (list_kind words) itemized = refl
own_from_itemized delimiter (unit_date_kind changed start step) itemized = refl
own_from_itemized delimiter _ itemized = cc

-- what is written for the field of the row at a place
pub itemized-text : (lines : RunLinesOf) (rows : RunRows) (column row : ℕ) (run : RunColumnOf) → lines.table < length lines.plan.schema.tables → AreRowsOf lines rows →
    run ≡ column_of lines.plan lines.table column → run.itemized ≡ true → row < length rows.ordinals.now →
    field_text (layout_of lines.plan).delimiter (value_at (layout_of lines.plan) run.table run.column (run_row rows row)) ≡ text_at lines (get_or rows.ordinals.now row 0) column
itemized-text lines rows column row run below are is itemized inside =
    let own = own_from_itemized (layout_of lines.plan).delimiter (column_at (layout_for lines).columns column).kind (ap (λ (of : RunColumnOf). of.itemized) (sym is) ∙ itemized) in
    ap (λ (of : RunColumnOf). field_text (layout_of lines.plan).delimiter (value_at (layout_of lines.plan) of.table of.column (run_row rows row))) is
    ∙ text_at-own lines (get_or rows.ordinals.now row 0) column (get_or rows.births.now row 0) (get_or rows.changes.now row 0) below own
    (run-birth lines.plan lines.table lines.unit rows.ordinals.now rows.births.now are.living.run row inside) (are.changes.each row inside)

pub itemized-behind : (lines : RunLinesOf) (rows : RunRows) (column row : ℕ) (run : RunColumnOf) → lines.table < length lines.plan.schema.tables → AreRowsOf lines rows →
    run ≡ column_of lines.plan lines.table column → run.itemized ≡ true → row < length rows.ordinals.now →
    field_behind lines.plan run (run_row rows row) ≡ text_behind lines (get_or rows.ordinals.now row 0) column
itemized-behind lines rows column row run below are is itemized inside =
    ap (λ (text : List ℕ). text ++ run.behind ∷ []) (itemized-text lines rows column row run below are is itemized inside)
    ∙ ap (λ (of : RunColumnOf). text_at lines (get_or rows.ordinals.now row 0) column ++ of.behind ∷ []) is

-- what it takes at most
pub itemized-size : (lines : RunLinesOf) (column : ℕ) (run : RunColumnOf) → run ≡ column_of lines.plan lines.table column → size_at (layout_of lines.plan) run.table run.column ≡ size_for lines column
itemized-size lines column run is = ap (λ (of : RunColumnOf). size_at (layout_of lines.plan) of.table of.column) is

-- ---- a part of a list that is set

-- an item before it, and one of it
item-before : (start k : ℕ) (items fields : List ItemizedField) (i : ℕ) (d : ItemizedField) → i < start → start ≤ length items → get_or (put_mid start k items fields) i d ≡ get_or items i d
item-before start k items fields i d before within =
    sym (get_or-take (start + length fields) (put_mid start k items fields) i d (omega (arith, before)))
    ∙ ap (λ (all : List ItemizedField). get_or all i d) (take-put_mid start k items fields (start + length fields) (omega arith) within)
    ∙ get_or_append_left (take start items) fields d i (omega (arith, before, within, length-take start items))
    ∙ get_or-take start items i d before

item-in : (start k : ℕ) (items fields : List ItemizedField) (i : ℕ) (d : ItemizedField) → i < length fields → start ≤ length items → get_or (put_mid start k items fields) (start + i) d ≡ get_or fields i d
item-in start k items fields i d inside within =
    let front : length (take start items) ≡ start = omega (arith, within, length-take start items) in
    sym (get_or-take (start + length fields) (put_mid start k items fields) (start + i) d (omega (arith, inside)))
    ∙ ap (λ (all : List ItemizedField). get_or all (start + i) d) (take-put_mid start k items fields (start + length fields) (omega arith) within)
    ∙ ap (λ (place : ℕ). get_or (take start items ++ fields) (place + i) d) (sym front)
    ∙ get_or-append-add (take start items) fields i d

-- the column at a place is there where its part is, and those before stay
pub itemized_in : (lines : RunLinesOf) (rows : RunRows) (items fields : List ItemizedField) (start k column : ℕ) → start ≤ length items → length fields ≡ length rows.ordinals.now →
    AreItemized lines rows fields 0 column → AreItemized lines rows (put_mid start k items fields) start column
itemized_in lines rows items fields start k column within many are = record {
  each = λ i d below.
      let begun : 0 + i ≡ i = omega arith in
      item-in start k items fields i d (omega (arith, below, many)) within ∙ ap (λ (place : ℕ). get_or fields place d) (sym begun) ∙ are.each i d below;
}

pub itemized_before : (lines : RunLinesOf) (rows : RunRows) (items fields : List ItemizedField) (start k from column : ℕ) → start ≤ length items → from + length rows.ordinals.now ≤ start →
    AreItemized lines rows items from column → AreItemized lines rows (put_mid start k items fields) from column
itemized_before lines rows items fields start k from column within before are = record {
  each = λ i d below. item-before start k items fields (from + i) d (omega (arith, below, before)) within ∙ are.each i d below;
}
