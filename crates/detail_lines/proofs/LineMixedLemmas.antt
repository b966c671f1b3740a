-- Fields of lines side by side that give no piece.
use Rattle.std.proofs.Common.{◌≡◌, ◌<◌, ◌≤◌, ◌+◌, ℕ, Bool, true, false, List, Option, Some, None, ◌++◌, take, get_or, get_or-take, if◌then◌else◌, length, length-take, refl, ap, sym, ◌∙◌, arith}
use Rattle.std.proofs.lemmas.List.{get_or-append-add}
use Rattle.std.proofs.lemmas.Slice.{take-put_mid, take-put_mid_below}
use borrow.Rule.Slice.PartMut.{put_mid}
use Rattle.philox_seeds.specs.SeedTree.{column_seed, draw, row_seed, unit_seed}
use Rattle.row_text.specs.Fields.{field_text}
use Rattle.schema_plan.specs.declared.ready.ReadyKind.{ReadyKind}
use Rattle.schema_plan.specs.declared.ready.ReadyKind.TheVariants as kind
use Rattle.schema_plan.specs.declared.ready.ReadyLeaf.{ReadyLeaf}
use Rattle.schema_facts.specs.FieldSizes.{size_of}
use Rattle.schema_facts.specs.Layout.{column_at, table_layouts}
use Rattle.schema_plan.specs.Ready.{ready_kind}
use Rattle.draw_values.specs.declared.items.ItemizedField.{ItemizedField}
use Rattle.draw_values.specs.declared.values.RowAt.{RowAt}
use Rattle.draw_values.specs.Items.{item_count, item_texts, itemized_by, items_or_null, kind_count, kind_items}
use Rattle.draw_values.specs.ReadyValues.{ready_size, ready_text}
use Rattle.draw_values.specs.Runs.{is_itemized_leaf}
use Rattle.draw_values.specs.Values.{Draws, is_null, unless_null}
use Rattle.draw_values.proofs.ItemLemmas.{ready_text-items}
use Rattle.detail_plan.specs.Kept.{KeepsRules}
use Rattle.detail_plan.specs.Limits.{IsInLimits}
use Rattle.detail_lines.specs.declared.line_run.LineRun.{LineRun}
use Rattle.detail_lines.specs.Lines.{draws_of_line, line_value}
use Rattle.detail_lines.specs.LineRuns.{AreItems, AreLines, drawn_seed, is_drawn, line_of, text_or_null, text_over}
use Rattle.detail_lines.specs.Made.{LineOver, LinesOver, columns_over, delimiter_over, detail_seed, line_over, own_over, place_over, ready_over, size_over}
use Rattle.detail_lines.proofs.LineRunLemmas.{seen}
use Rattle.detail_lines.proofs.LineValueLemmas.{drawn_as, size-drawn, text-drawn}

-- what is drawn is of a leaf
pub drawn-from : (held : ReadyKind) → is_drawn held ≡ true → (leaf : ReadyLeaf) × (held ≡ kind.Drawn leaf)
drawn-from (kind.Drawn leaf) drawn = (leaf, refl)
drawn-from _ drawn = absurd (cc)

-- null, or so many items
by_null : (null : Bool) (d : ℕ) (leaf : ReadyLeaf) (draws : Draws) (count : ℕ) (held : Option (List ℕ)) → item_texts leaf draws 0 count ≡ field_text d held →
    items_or_null leaf draws (if null then None else Some count) ≡ field_text d (if null then None else held)
by_null true d leaf draws count held is = refl
by_null false d leaf draws count held is = is

null_or : (null : Bool) (d : ℕ) (held : Option (List ℕ)) (text : List ℕ) → text ≡ field_text d held → (if null then field_text d None else text) ≡ field_text d (if null then None else held)
null_or true d held text is = refl
null_or false d held text is = is

-- ---- what is drawn before items, by its place in a list of which a part is set

before-in : (start k : ℕ) (xs ys : List ItemizedField) (i : ℕ) (none : ItemizedField) → i < length ys → start ≤ length xs → get_or (put_mid start k xs ys) (start + i) none ≡ get_or ys i none
before-in start k xs ys i none inside within =
    let front : length (take start xs) ≡ start = omega (arith, within, length-take start xs) in
    sym (get_or-take (start + length ys) (put_mid start k xs ys) (start + i) none (omega (arith, inside)))
    ∙ ap (λ (zs : List ItemizedField). get_or zs (start + i) none) (take-put_mid start k xs ys (start + length ys) (omega arith) within)
    ∙ ap (λ (place : ℕ). get_or (take start xs ++ ys) (place + i) none) (sym front)
    ∙ get_or-append-add (take start xs) ys i none

before-before : (start k : ℕ) (xs ys : List ItemizedField) (i : ℕ) (none : ItemizedField) → i < start → start ≤ length xs → get_or (put_mid start k xs ys) i none ≡ get_or xs i none
before-before start k xs ys i none inside within =
    sym (get_or-take start (put_mid start k xs ys) i none inside)
    ∙ ap (λ (zs : List ItemizedField). get_or zs i none) (take-put_mid_below start k xs ys start (omega arith) within)
    ∙ get_or-take start xs i none inside

pub items-in : (over : LinesOver) (count : ℕ) (run : LineRun) (items fields : List ItemizedField) (start k column : ℕ) → start ≤ length items → length fields ≡ count → AreItems over count run fields 0 column → AreItems over count run (put_mid start k items fields) start column
items-in over count run items fields start k column within many made = record {
  each = λ i none below.
      let begun : 0 + i ≡ i = omega arith in
      before-in start k items fields i none (omega (arith, below, many)) within ∙ ap (λ (place : ℕ). get_or fields place none) (sym begun) ∙ made.each i none below;
}

pub items-before : (over : LinesOver) (count : ℕ) (run : LineRun) (items fields : List ItemizedField) (start k from column : ℕ) → start ≤ length items → from + count ≤ start → AreItems over count run items from column → AreItems over count run (put_mid start k items fields) from column
items-before over count run items fields start k from column within before made = record {
  each = λ i none below. before-before start k items fields (from + i) none (omega (arith, below, before)) within ∙ made.each i none below;
}

module _ (over : LinesOver) (unit count : ℕ) (run : LineRun) (lines : AreLines over unit count run) (keeps : KeepsRules over.plan over.kept) (limits : IsInLimits over.kept.lists over.kept.detail) (below : place_over over < length over.plan.schema.tables) (column : ℕ) (within : column < own_over over) (k : ℕ) (inside : k < count) where
  abbrev d : ℕ
  d = delimiter_over over

  abbrev line : LineOver
  line = line_of over unit run k

  abbrev null : ℕ
  null = (ready_over over column).null

  -- the draws of its field
  pub seed-seen : draw (drawn_seed over run column k) ≡ draws_of_line (line_over line) column
  seed-seen =
      ap (λ (row : RowAt). draw (row_seed (unit_seed (column_seed (detail_seed over.kept) column) (if (ready_over over column).changes then row.changed else row.born)) row.ordinal))
      (seen over unit count run lines keeps limits below k inside)

  module _ (leaf : ReadyLeaf) (leaf_is : ready_kind d (column_at (columns_over over) column).kind ≡ kind.Drawn leaf) where
    -- what is drawn, or a null
    pub text-long : text_or_null null leaf (draw (drawn_seed over run column k)) ≡ text_over line column
    text-long =
        ap (text_or_null null leaf) seed-seen
        ∙ null_or (is_null null (draws_of_line (line_over line) column)) d (line_value (line_over line) column (column_at (columns_over over) column).kind) (ready_text leaf (draws_of_line (line_over line) column))
        (text-drawn line keeps limits column within leaf leaf_is)

    -- the same by its items
    pub text-items : is_itemized_leaf leaf ≡ true →
        kind_items (ready_over over column).kind (draw (itemized_by (ready_over over column) (drawn_seed over run column k)).seed) (itemized_by (ready_over over column) (drawn_seed over run column k)).count ≡ text_over line column
    text-items itemized =
        ap (λ (held : ReadyKind). kind_items held (draw (drawn_seed over run column k)) (unless_null null (draw (drawn_seed over run column k)) (Some (kind_count held (draw (drawn_seed over run column k) 1))))) leaf_is
        ∙ ap (λ (draws : Draws). items_or_null leaf draws (if is_null null draws then None else Some (item_count leaf (draws 1)))) seed-seen
        ∙ by_null (is_null null (draws_of_line (line_over line) column)) d leaf (draws_of_line (line_over line) column) (item_count leaf (draws_of_line (line_over line) column 1))
        (line_value (line_over line) column (column_at (columns_over over) column).kind)
        (sym (ready_text-items leaf (draws_of_line (line_over line) column) itemized) ∙ text-drawn line keeps limits column within leaf leaf_is)

    pub leaf-fits : ready_size leaf ≤ size_over over column
    leaf-fits = size-drawn line keeps limits column within leaf leaf_is

    pub null-fits : 2 ≤ size_over over column
    null-fits =
        let found = drawn_as line keeps limits column within leaf leaf_is in
        omega (arith, ap (size_of d (table_layouts over.kept.lists over.plan.schema.tables) (columns_over over)) found.is)
