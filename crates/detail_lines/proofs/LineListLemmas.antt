-- Lists of lines: rows whose lines are spread in them, and the pieces that are put together to lines.
use Rattle.std.proofs.Common.{◌≡◌, ◌<◌, ◌≤◌, ◌+◌, ◌-◌, ◌*◌, ◌^◌, ℕ, zero, suc, List, [], ◌∷◌, ◌++◌, Some, append_assoc, append-nil, decimal, flat_map, get_or, get_or-set_other, get_or-set_same, get_or-take, inl, inr, length, length-append, length-set, length-take, map, set, take, refl, ap, sym, subst, ◌∙◌, arith}
use Rattle.std.specs.List.{range_with_len}
use Rattle.std.proofs.lemmas.Bool.{cases_lt}
use Rattle.std.proofs.lemmas.Bool.Decides.{nat_tests}
use Rattle.std.proofs.lemmas.List.{get_or-map}
use Rattle.std.proofs.lemmas.List.Concat.{flat_map-append}
use Rattle.std.proofs.lemmas.List.FromFn.{get_or-map-range_with_len}
use borrow.Rule.Slice.PartMut.{put_mid}
use Rattle.line_pages.specs.Pieces.{piece_text}
use Rattle.row_lines.proofs.PieceLemmas.{piece_text_at-before, piece_text_at-in}
use Rattle.std.proofs.lemmas.List.Folds.{flat_map-map}
use Rattle.line_pages.specs.declared.piece.Piece.{Piece}
use Rattle.line_pages.specs.Rows.{piece_text_at, row_of_pieces, rows_of_pieces}
use Rattle.draw_values.specs.Runs.{with_behind}
use Rattle.life_intervals.specs.Generator.{generator_of, last_unit}
use Rattle.life_intervals.proofs.Ranges.{flat_map-range_with_len_add, flat_map-range_with_len_more, range_with_len-add}
use Rattle.row_lines.specs.Runs.{behind}
use Rattle.detail_lines.specs.declared.detail_lines.LineKind.TheVariants.{Whole}
use Rattle.detail_lines.specs.declared.line_run.LineLists.{LineLists}
use Rattle.detail_lines.specs.declared.line_run.LineRun.{LineRun}
use Rattle.detail_lines.specs.declared.parent_row.ParentRow.{ParentRow}
use Rattle.detail_lines.specs.declared.parent_row.ParentRows.{ParentRows}
use Rattle.std.proofs.lemmas.Nat.{mod_below}
use Rattle.philox_seeds.specs.SeedTree.{field_draw}
use Rattle.schema_facts.specs.Counts.{count}
use Rattle.detail_lines.specs.Lines.{count_column, key_of_row, line_by, line_field, line_ordinal, lines_of_row}
use Rattle.detail_lines.specs.LineRuns.{AreAmong, AreFields, AreHeads, AreLines, AreListed, ArePlaced, AreSpread, HasRoom, line_of, listed_lines, row_in, run_text, text_over}
use Rattle.detail_lines.specs.Made.{AreMany, AreToldRows, IsToldRow, LineOver, LinesOver, behind_over, delimiter_over, fields_room, line_over, made_line, made_row, number_texts, own_over, place_over, row_of, row_over, size_over, told_count}
use Rattle.detail_plan.specs.Limits.{IsInLimits}
use Rattle.detail_lines.proofs.DeclaredLemmas.{few-lines}
use Rattle.std.proofs.lemmas.Fmt.{length-decimal-le}
use Rattle.std.proofs.Math.Nat.{mul-le-mul_right}
use Rattle.row_lines.proofs.FieldLemmas.{length-decimal-le_20}
use Rattle.detail_plan.specs.Kept.{KeepsRules}
use Rattle.detail_plan.specs.Rules.{line_size}
use Rattle.detail_lines.proofs.LineSizeLemmas.{line-rooms, rooms-more}
use Rattle.detail_lines.proofs.LineLemmas.{after_delimiter, line-joined}
use Rattle.detail_lines.proofs.ToldLemmas.{count-told, key-told}

-- ---- rows in lists

abbrev pub row_by : ℕ → ℕ → ℕ → ℕ → ParentRow
row_by key ordinal born changed = record { key = key; ordinal = ordinal; born = born; changed = changed }

pub row-both : {a b c d x y z u : ℕ} → a ≡ x → b ≡ y → c ≡ z → d ≡ u → row_by a b c d ≡ row_by x y z u
row-both {a} {b} {c} {d} {x} {y} {z} {u} p q r s = ap (λ (n : ℕ). row_by n b c d) p ∙ ap (λ (n : ℕ). row_by x n c d) q ∙ ap (λ (n : ℕ). row_by x y n d) r ∙ ap (row_by x y z) s

-- lists in which a line of a row is set at a place
abbrev pub with_line : ParentRow → ℕ → ℕ → ℕ → ℕ → LineLists → LineLists
with_line row place number drawn at lists = record {
  keys = set lists.keys at row.key;
  ordinals = set lists.ordinals at row.ordinal;
  births = set lists.births at row.born;
  changes = set lists.changes at row.changed;
  numbers = set lists.numbers at number;
  drawn = set lists.drawn at drawn;
  places = set lists.places at place;
}

pub spread-none : (row : ParentRow) (place from : ℕ) (lists : LineLists) → AreSpread row place from 0 lists lists
spread-none row place from lists = record {
  row_before = λ k inside. refl;
  number_before = λ k inside. refl;
  drawn_before = λ k inside. refl;
  place_before = λ k inside. refl;
  row_here = λ k inside. absurd (omega (arith, inside));
  number_here = λ k inside. absurd (omega (arith, inside));
  drawn_here = λ k inside. absurd (omega (arith, inside));
  place_here = λ k inside. absurd (omega (arith, inside));
}

-- one more line of a row that is put after others
pub spread-more : (row : ParentRow) (place from k : ℕ) (before now : LineLists) → HasRoom now → from + k < 256 → AreSpread row place from k before now →
    AreSpread row place from (k + 1) before (with_line row place (k + 1) (64 * row.ordinal + k) (from + k) now)
spread-more row place from k before now room within spread = record {
  row_before = λ i inside. row_other i (omega (arith, inside)) ∙ spread.row_before i inside;
  number_before = λ i inside. other now.numbers (k + 1) i (omega (arith, inside)) ∙ spread.number_before i inside;
  drawn_before = λ i inside. other now.drawn (64 * row.ordinal + k) i (omega (arith, inside)) ∙ spread.drawn_before i inside;
  place_before = λ i inside. other now.places place i (omega (arith, inside)) ∙ spread.place_before i inside;
  row_here = λ i inside. elim (cases_lt i k) [
    | inl earlier ↦ row_other (from + i) (omega (arith, earlier)) ∙ spread.row_here i earlier
    | inr last ↦ ap (row_in after) (last_place i inside last) ∙ row_same
  ];
  number_here = λ i inside. elim (cases_lt i k) [
    | inl earlier ↦ other now.numbers (k + 1) (from + i) (omega (arith, earlier)) ∙ spread.number_here i earlier
    | inr last ↦
        let next : k + 1 ≡ i + 1 = omega (arith, inside, last) in
        ap (λ (at : ℕ). get_or after.numbers at 0) (last_place i inside last) ∙ same now.numbers (k + 1) room.numbers ∙ next
  ];
  drawn_here = λ i inside. elim (cases_lt i k) [
    | inl earlier ↦ other now.drawn (64 * row.ordinal + k) (from + i) (omega (arith, earlier)) ∙ spread.drawn_here i earlier
    | inr last ↦
        let next : 64 * row.ordinal + k ≡ 64 * row.ordinal + i = omega (arith, inside, last) in
        ap (λ (at : ℕ). get_or after.drawn at 0) (last_place i inside last) ∙ same now.drawn (64 * row.ordinal + k) room.drawn ∙ next
  ];
  place_here = λ i inside. elim (cases_lt i k) [
    | inl earlier ↦ other now.places place (from + i) (omega (arith, earlier)) ∙ spread.place_here i earlier
    | inr last ↦ ap (λ (at : ℕ). get_or after.places at 0) (last_place i inside last) ∙ same now.places place room.places
  ];
}
  where
    after : LineLists
    after = with_line row place (k + 1) (64 * row.ordinal + k) (from + k) now

    other : (xs : List ℕ) (x i : ℕ) → i < from + k → get_or (set xs (from + k) x) i 0 ≡ get_or xs i 0
    other xs x i earlier = get_or-set_other xs (from + k) i x 0 (λ is. absurd (omega (arith, earlier, is)))

    same : (xs : List ℕ) (x : ℕ) → length xs ≡ 256 → get_or (set xs (from + k) x) (from + k) 0 ≡ x
    same xs x many = get_or-set_same xs (from + k) x 0 (omega (arith, within, many))

    last_place : (i : ℕ) → i < k + 1 → k ≤ i → from + i ≡ from + k
    last_place i inside last = omega (arith, inside, last)

    row_other : (i : ℕ) → i < from + k → row_in after i ≡ row_in now i
    row_other i earlier = row-both (other now.keys row.key i earlier) (other now.ordinals row.ordinal i earlier) (other now.births row.born i earlier) (other now.changes row.changed i earlier)

    row_same : row_in after (from + k) ≡ row
    row_same = row-both (same now.keys row.key room.keys) (same now.ordinals row.ordinal room.ordinals) (same now.births row.born room.births) (same now.changes row.changed room.changes)

pub room-with : (row : ParentRow) (place number drawn at : ℕ) (lists : LineLists) → HasRoom lists → HasRoom (with_line row place number drawn at lists)
room-with row place number drawn at lists room = record {
  keys = length-set lists.keys at row.key ∙ room.keys;
  ordinals = length-set lists.ordinals at row.ordinal ∙ room.ordinals;
  births = length-set lists.births at row.born ∙ room.births;
  changes = length-set lists.changes at row.changed ∙ room.changes;
  numbers = length-set lists.numbers at number ∙ room.numbers;
  drawn = length-set lists.drawn at drawn ∙ room.drawn;
  places = length-set lists.places at place ∙ room.places;
}

-- ---- ranges

pub flat_map-shift : {A : Type 0} (f g : ℕ → List A) (a b n : ℕ) → ((k : ℕ) → k < n → f (a + k) ≡ g (b + k)) → flat_map f (range_with_len a n) ≡ flat_map g (range_with_len b n)
flat_map-shift f g a b zero same = refl
flat_map-shift f g a b (suc n) same =
    let first : a + 0 ≡ a = omega arith in
    let second : b + 0 ≡ b = omega arith in
    ap (λ xs. xs ++ flat_map f (range_with_len (a + 1) n)) (ap f (sym first) ∙ same 0 (omega arith) ∙ ap g second)
    ∙ ap (λ xs. g b ++ xs) (flat_map-shift f g (a + 1) (b + 1) n (λ k inside. next k inside))
  where
    next : (k : ℕ) → k < n → f (a + 1 + k) ≡ g (b + 1 + k)
    next k inside =
        let one : a + 1 + k ≡ a + (k + 1) = omega arith in
        let other : b + (k + 1) ≡ b + 1 + k = omega arith in
        ap f one ∙ same (k + 1) (omega (arith, inside)) ∙ ap g other

-- one more at the end
pub flat_map-range_more : {A : Type 0} (f : ℕ → List A) (a n : ℕ) → flat_map f (range_with_len a n) ++ f (a + n) ≡ flat_map f (range_with_len a (n + 1))
flat_map-range_more f a n =
    ap (λ xs. flat_map f (range_with_len a n) ++ xs) (sym (append-nil (f (a + n))))
    ∙ sym (flat_map-append f (range_with_len a n) ((a + n) ∷ []))
    ∙ ap (flat_map f) (sym (range_with_len-add a n 1))

-- ---- rows whose lines are spread

-- all lines of a row
pub all_lines : (over : LinesOver) (unit : ℕ) (row : ParentRow) (done : ℕ) → IsToldRow over unit Whole row → done ≡ told_count over row →
    flat_map (made_line over unit row.ordinal) (range_with_len 1 done) ≡ made_row over Whole unit row.ordinal
unfolding lines_of_row
all_lines over unit row done told is = ap (λ (many : ℕ). flat_map (made_line over unit row.ordinal) (range_with_len 1 many)) (is ∙ count-told over unit Whole row told)

-- a row has at most 64 lines
pub told-few : (over : LinesOver) (unit : ℕ) (row : ParentRow) → IsInLimits over.kept.lists over.kept.detail → IsToldRow over unit Whole row → told_count over row ≤ 64
told-few over unit row limits told = omega (arith, count-told over unit Whole row told, few-lines over.plan over.kept limits (row_over over unit row.ordinal))

-- and as many as the detail table's greatest number
pub told-most : (over : LinesOver) (row : ParentRow) → IsInLimits over.kept.lists over.kept.detail → told_count over row ≤ count over.kept.detail.hi
told-most over row limits =
    let draw : ℕ = field_draw (count over.kept.detail.seed) 0 count_column row.born row.ordinal 1 in
    omega (arith, limits.ordered, mod_below draw (count over.kept.detail.hi - count over.kept.detail.lo + 1) (omega arith))

pub listed-none : (over : LinesOver) (unit : ℕ) (lists : LineLists) → HasRoom lists → AreListed over unit 0 lists
listed-none over unit lists room = record {
  few = omega arith;
  room = room;
  told = λ k inside. absurd (omega (arith, inside));
  first = λ k inside. absurd (omega (arith, inside));
  last = λ k inside. absurd (omega (arith, inside));
  drawn_are = λ k inside. absurd (omega (arith, inside));
}

-- a place after others
past : (k from count : ℕ) → from ≤ k → k < from + count → (j : ℕ) × (j < count) × (k ≡ from + j)
past k from count behind inside = (k - from, omega (arith, behind, inside), omega (arith, behind))

pub listed-more : (over : LinesOver) (unit place from count : ℕ) (row : ParentRow) (before after : LineLists) → AreListed over unit from before → AreSpread row place from count before after → HasRoom after → IsToldRow over unit Whole row →
    count ≤ 64 → from + count ≤ 256 → AreListed over unit (from + count) after
listed-more over unit place from count row before after listed spread room told few within = record {
  few = within;
  room = room;
  told = λ k inside. elim (cases_lt k from) [
    | inl earlier ↦ subst (IsToldRow over unit Whole) (sym (spread.row_before k earlier)) (listed.told k earlier)
    | inr behind ↦
        let here = past k from count behind inside in
        subst (λ (place : ℕ). IsToldRow over unit Whole (row_in after place)) (sym here.2) (subst (IsToldRow over unit Whole) (sym (spread.row_here here.0 here.1)) told)
  ];
  first = λ k inside. elim (cases_lt k from) [
    | inl earlier ↦ omega (arith, spread.number_before k earlier, listed.first k earlier)
    | inr behind ↦ let here = past k from count behind inside in omega (arith, spread.number_here here.0 here.1, ap (λ (place : ℕ). get_or after.numbers place 0) here.2)
  ];
  last = λ k inside. elim (cases_lt k from) [
    | inl earlier ↦ omega (arith, spread.number_before k earlier, listed.last k earlier)
    | inr behind ↦ let here = past k from count behind inside in omega (arith, few, here.1, spread.number_here here.0 here.1, ap (λ (place : ℕ). get_or after.numbers place 0) here.2)
  ];
  drawn_are = λ k inside. elim (cases_lt k from) [
    | inl earlier ↦
        spread.drawn_before k earlier ∙ listed.drawn_are k earlier
        ∙ ap (λ (other : ParentRow). line_ordinal other.ordinal (get_or before.numbers k 0)) (sym (spread.row_before k earlier))
        ∙ ap (line_ordinal (get_or after.ordinals k 0)) (sym (spread.number_before k earlier))
    | inr behind ↦
        let here = past k from count behind inside in
        let number : line_ordinal row.ordinal (here.0 + 1) ≡ 64 * row.ordinal + here.0 = omega arith in
        subst (λ (place : ℕ). get_or after.drawn place 0 ≡ line_ordinal (get_or after.ordinals place 0) (get_or after.numbers place 0)) (sym here.2)
        (spread.drawn_here here.0 here.1 ∙ sym number
        ∙ ap (λ (other : ParentRow). line_ordinal other.ordinal (here.0 + 1)) (sym (spread.row_here here.0 here.1))
        ∙ ap (line_ordinal (get_or after.ordinals (from + here.0) 0)) (sym (spread.number_here here.0 here.1)))
  ];
}

-- the places of their rows
pub placed-none : (rows : ParentRows) (first : ℕ) (lists : LineLists) → ArePlaced rows first 0 0 lists
placed-none rows first lists = record { placed = λ k inside. absurd (omega (arith, inside)); row_is = λ k inside. absurd (omega (arith, inside)) }

pub placed-more : (rows : ParentRows) (first some from count : ℕ) (before after : LineLists) → ArePlaced rows first some from before → AreSpread (row_of rows (first + some)) some from count before after →
    ArePlaced rows first (some + 1) (from + count) after
placed-more rows first some from count before after placed spread = record {
  placed = λ k inside. elim (cases_lt k from) [
    | inl earlier ↦ omega (arith, spread.place_before k earlier, placed.placed k earlier)
    | inr behind ↦ let here = past k from count behind inside in omega (arith, spread.place_here here.0 here.1, ap (λ (place : ℕ). get_or after.places place 0) here.2)
  ];
  row_is = λ k inside. elim (cases_lt k from) [
    | inl earlier ↦ ap (λ (place : ℕ). row_of rows (first + place)) (spread.place_before k earlier) ∙ placed.row_is k earlier ∙ sym (spread.row_before k earlier)
    | inr behind ↦
        let here = past k from count behind inside in
        subst (λ (place : ℕ). row_of rows (first + get_or after.places place 0) ≡ row_in after place) (sym here.2)
        (ap (λ (place : ℕ). row_of rows (first + place)) (spread.place_here here.0 here.1) ∙ sym (spread.row_here here.0 here.1))
  ];
}

-- where these rows are a part by themselves
pub among-part : (over : LinesOver) (unit first some count : ℕ) (rows part : ParentRows) (lists : LineLists) → AreToldRows over unit Whole rows → first + some ≤ length rows.ordinals.now → some ≤ 256 → AreMany some part →
    ((i : ℕ) → i < some → row_of part i ≡ row_of rows (first + i)) → ArePlaced rows first some count lists → AreAmong over unit count part lists
among-part over unit first some count rows part lists told within few many part_is placed = record {
  told = record {
    few = omega (arith, few, many.ordinals);
    many = subst (λ (n : ℕ). AreMany n part) (sym many.ordinals) many;
    told = λ i inside.
        let here : i < some = omega (arith, inside, many.ordinals) in
        subst (IsToldRow over unit Whole) (sym (part_is i here)) (told (first + i) (omega (arith, here, within)));
  };
  placed = λ k inside. omega (arith, placed.placed k inside, many.ordinals);
  row_is = λ k inside. part_is (get_or lists.places k 0) (placed.placed k inside) ∙ placed.row_is k inside;
}

pub lines-spread : (over : LinesOver) (unit place from count : ℕ) (row : ParentRow) (before after : LineLists) → AreSpread row place from count before after →
    listed_lines over unit after (from + count) ≡ listed_lines over unit before from ++ flat_map (made_line over unit row.ordinal) (range_with_len 1 count)
lines-spread over unit place from count row before after spread =
    flat_map-range_with_len_add (line_in after) from count
    ∙ ap (λ (text : List ℕ). text ++ flat_map (line_in after) (range_with_len from count)) (flat_map-shift (line_in after) (line_in before) 0 0 from (λ k inside. kept (0 + k) (omega (arith, inside))))
    ∙ ap (λ (text : List ℕ). listed_lines over unit before from ++ text) (flat_map-shift (line_in after) (made_line over unit row.ordinal) from 1 count new)
  where
    line_in : LineLists → ℕ → List ℕ
    line_in lists k = made_line over unit (get_or lists.ordinals k 0) (get_or lists.numbers k 0)

    kept : (k : ℕ) → k < from → line_in after k ≡ line_in before k
    kept k earlier =
        ap (λ (other : ParentRow). made_line over unit other.ordinal (get_or after.numbers k 0)) (spread.row_before k earlier)
        ∙ ap (made_line over unit (get_or before.ordinals k 0)) (spread.number_before k earlier)

    new : (k : ℕ) → k < count → line_in after (from + k) ≡ made_line over unit row.ordinal (1 + k)
    new k inside =
        let next : k + 1 ≡ 1 + k = omega arith in
        ap (λ (other : ParentRow). made_line over unit other.ordinal (get_or after.numbers (from + k) 0)) (spread.row_here k inside)
        ∙ ap (made_line over unit row.ordinal) (spread.number_here k inside ∙ next)

-- the text of rows from a first one on
abbrev pub rows_between : LinesOver → ℕ → ParentRows → ℕ → ℕ → List ℕ
rows_between over unit rows first end = flat_map (λ i. made_row over Whole unit (row_of rows i).ordinal) (range_with_len first (end - first))

pub rows_between-more : (over : LinesOver) (unit : ℕ) (rows : ParentRows) (first i : ℕ) → first ≤ i →
    rows_between over unit rows first i ++ made_row over Whole unit (row_of rows i).ordinal ≡ rows_between over unit rows first (i + 1)
rows_between-more over unit rows first i ordered =
    let here : i ≡ first + (i - first) = omega (arith, ordered) in
    let next : i - first + 1 ≡ i + 1 - first = omega (arith, ordered) in
    ap (λ (place : ℕ). rows_between over unit rows first i ++ made_row over Whole unit (row_of rows place).ordinal) here
    ∙ flat_map-range_more (λ k. made_row over Whole unit (row_of rows k).ordinal) first (i - first)
    ∙ ap (λ (n : ℕ). flat_map (λ k. made_row over Whole unit (row_of rows k).ordinal) (range_with_len first n)) next

pub gathered-more : (over : LinesOver) (unit place first i from count : ℕ) (rows : ParentRows) (before after : LineLists) → first ≤ i → AreSpread (row_of rows i) place from count before after → IsToldRow over unit Whole (row_of rows i) →
    count ≡ told_count over (row_of rows i) → listed_lines over unit before from ≡ rows_between over unit rows first i → listed_lines over unit after (from + count) ≡ rows_between over unit rows first (i + 1)
gathered-more over unit place first i from count rows before after ordered spread told many so_far =
    lines-spread over unit place from count (row_of rows i) before after spread
    ∙ ap (λ (text : List ℕ). text ++ flat_map (made_line over unit (row_of rows i).ordinal) (range_with_len 1 count)) so_far
    ∙ ap (λ (text : List ℕ). rows_between over unit rows first i ++ text) (all_lines over unit (row_of rows i) count told many)
    ∙ rows_between-more over unit rows first i ordered

-- ---- lines of pieces

-- the delimiter before each field and a line feed after the last, and the byte after each
fields-shifted : (d : ℕ) (f : ℕ → List ℕ) (a n : ℕ) →
    flat_map (λ column. d ∷ f column) (range_with_len a (n + 1)) ++ 10 ∷ [] ≡ d ∷ flat_map (λ column. f column ++ behind d (a + (n + 1)) column ∷ []) (range_with_len a (n + 1))
fields-shifted d f a zero =
    let last : behind d (a + (0 + 1)) a ≡ 10 = grind (arith, nat_tests) in
    ap (λ (text : List ℕ). (d ∷ text) ++ 10 ∷ []) (append-nil (f a))
    ∙ ap (λ (byte : ℕ). d ∷ (f a ++ byte ∷ [])) (sym last)
    ∙ ap (λ (text : List ℕ). d ∷ text) (sym (append-nil (f a ++ behind d (a + (0 + 1)) a ∷ [])))
fields-shifted d f a (suc n) =
    let front : suc n + 1 ≡ suc (n + 1) = omega arith in
    let shift : (a + 1) + (n + 1) ≡ a + (suc n + 1) = omega arith in
    let more : behind d (a + (suc n + 1)) a ≡ d = grind (arith, nat_tests) in
    let before : ℕ → List ℕ = λ column. d ∷ f column in
    let piece : ℕ → List ℕ = λ column. f column ++ behind d (a + (suc n + 1)) column ∷ [] in
    ap (λ (many : ℕ). flat_map before (range_with_len a many) ++ 10 ∷ []) front
    ∙ append_assoc (d ∷ f a) (flat_map before (range_with_len (a + 1) (n + 1))) (10 ∷ [])
    ∙ ap (λ (text : List ℕ). (d ∷ f a) ++ text) (fields-shifted d f (a + 1) n)
    ∙ ap (λ (count : ℕ). (d ∷ f a) ++ d ∷ flat_map (λ column. f column ++ behind d count column ∷ []) (range_with_len (a + 1) (n + 1))) shift
    ∙ ap (λ (byte : ℕ). (d ∷ f a) ++ byte ∷ flat_map piece (range_with_len (a + 1) (n + 1))) (sym more)
    ∙ ap (λ (text : List ℕ). d ∷ text) (sym (append_assoc (f a) (behind d (a + (suc n + 1)) a ∷ []) (flat_map piece (range_with_len (a + 1) (n + 1)))))
    ∙ ap (λ (many : ℕ). d ∷ flat_map piece (range_with_len a many)) (sym front)

fields-behind : (d : ℕ) (f : ℕ → List ℕ) (count : ℕ) → 1 ≤ count →
    flat_map (λ column. d ∷ f column) (range_with_len 0 count) ++ 10 ∷ [] ≡ d ∷ flat_map (λ column. with_behind (behind d count column) (f column)) (range_with_len 0 count)
fields-behind d f count some =
    let is : (count - 1) + 1 ≡ count = omega (arith, some) in
    let start : 0 + ((count - 1) + 1) ≡ count = omega (arith, some) in
    ap (λ (many : ℕ). flat_map (λ column. d ∷ f column) (range_with_len 0 many) ++ 10 ∷ []) (sym is)
    ∙ fields-shifted d f 0 (count - 1)
    ∙ ap (λ (many : ℕ). d ∷ flat_map (λ column. f column ++ behind d many column ∷ []) (range_with_len 0 ((count - 1) + 1))) start
    ∙ ap (λ (many : ℕ). d ∷ flat_map (λ column. f column ++ behind d count column ∷ []) (range_with_len 0 many)) is

-- a line of its key, its number and its fields, each with the byte after it
pub line-behind : (over : LinesOver) (unit ordinal key number : ℕ) → 1 ≤ own_over over → key < 2 ^ 64 → number < 2 ^ 64 → key ≡ key_of_row (generator_of over.plan) (place_over over) (row_over over unit ordinal) →
    with_behind (delimiter_over over) (decimal key) ++ (with_behind (delimiter_over over) (decimal number)
    ++ flat_map (λ column. with_behind (behind_over over column) (text_over (record { over = over; unit = unit; ordinal = ordinal; number = number }) column)) (range_with_len 0 (own_over over)))
    ≡ made_line over unit ordinal number
line-behind over unit ordinal key number some small few key_is =
    append_assoc (decimal key) (d ∷ []) (with_behind d (decimal number) ++ fields)
    ∙ ap (λ (text : List ℕ). decimal key ++ d ∷ text) (append_assoc (decimal number) (d ∷ []) fields)
    ∙ ap (λ (text : List ℕ). decimal key ++ d ∷ (decimal number ++ text)) (sym (fields-behind d (text_over line) (own_over over) some))
    ∙ ap (λ (text : List ℕ). decimal key ++ d ∷ text) (sym (append_assoc (decimal number) before (10 ∷ [])))
    ∙ sym (append_assoc (decimal key) (d ∷ (decimal number ++ before)) (10 ∷ []))
    ∙ ap (λ (text : List ℕ). text ++ 10 ∷ []) (sym (append_assoc (decimal key) (d ∷ decimal number) before))
    ∙ ap (λ (text : List ℕ). ((decimal key ++ d ∷ decimal number) ++ text) ++ 10 ∷ []) (sym (flat_map-map (after_delimiter d) (line_field (line_over line)) (range_with_len 0 (own_over over))))
    ∙ line-joined d key number (map (line_field (line_over line)) (range_with_len 0 (own_over over))) small few
    ∙ ap (λ (k : ℕ). made_by k) key_is
  where
    d : ℕ
    d = delimiter_over over

    line : LineOver
    line = record { over = over; unit = unit; ordinal = ordinal; number = number }

    fields : List ℕ
    fields = flat_map (λ column. with_behind (behind_over over column) (text_over line column)) (range_with_len 0 (own_over over))

    before : List ℕ
    before = flat_map (λ column. d ∷ text_over line column) (range_with_len 0 (own_over over))

    made_by : ℕ → List ℕ
    made_by k = line_by d (Some (decimal k) ∷ Some (decimal number) ∷ map (line_field (line_over line)) (range_with_len 0 (own_over over)))

-- where the keys, the numbers and the fields of all columns are made, the rows of pieces are the lines
pub pieces-lines : (over : LinesOver) (unit count columns : ℕ) (run : LineRun) (pieces : List Piece) → unit ≤ last_unit over.plan → 1 ≤ own_over over → columns ≡ own_over over + 2 →
    ((k : ℕ) → k < count → get_or run.rows.keys.now k 0 < 2 ^ 64) → AreLines over unit count run → AreHeads over count run pieces →
    ((column : ℕ) → column < own_over over → AreFields over unit count run pieces ((column + 2) * count) column) → rows_of_pieces pieces columns count count ≡ run_text over unit run count
pieces-lines over unit count columns run pieces within some columns_are small lines heads fields =
    ap (λ (n : ℕ). rows_of_pieces pieces n count count) (columns_are ∙ two)
    ∙ flat_map-shift (row_of_pieces pieces (suc (suc (own_over over))) count) (λ k. made_line over unit (get_or run.rows.ordinals.now k 0) (get_or run.numbers.now k 0)) 0 0 count (λ k inside. row_is (0 + k) (omega (arith, inside)))
  where
    two : own_over over + 2 ≡ suc (suc (own_over over))
    two = omega arith

    row_is : (k : ℕ) → k < count → row_of_pieces pieces (suc (suc (own_over over))) count k ≡ made_line over unit (get_or run.rows.ordinals.now k 0) (get_or run.numbers.now k 0)
    row_is k inside =
        let first : 0 * count + k ≡ k = omega arith in
        let second : 1 * count + k ≡ count + k = omega arith in
        ap (λ (text : List ℕ). text ++ (piece_text_at pieces (1 * count + k) ++ flat_map (λ column. piece_text_at pieces (column * count + k)) (range_with_len 2 (own_over over))))
        (ap (piece_text_at pieces) first ∙ heads.keys k inside)
        ∙ ap (λ (text : List ℕ). with_behind (delimiter_over over) (decimal (get_or run.rows.keys.now k 0)) ++ (text ++ flat_map (λ column. piece_text_at pieces (column * count + k)) (range_with_len 2 (own_over over))))
        (ap (piece_text_at pieces) second ∙ heads.numbers k inside)
        ∙ ap (λ (text : List ℕ). with_behind (delimiter_over over) (decimal (get_or run.rows.keys.now k 0)) ++ (with_behind (delimiter_over over) (decimal (get_or run.numbers.now k 0)) ++ text))
        (flat_map-shift (λ column. piece_text_at pieces (column * count + k)) (λ column. with_behind (behind_over over column) (text_over (line_of over unit run k) column)) 2 0 (own_over over)
        (λ column below. field_is column below))
        ∙ line-behind over unit (get_or run.rows.ordinals.now k 0) (get_or run.rows.keys.now k 0) (get_or run.numbers.now k 0) some (small k inside) (omega (arith, lines.last k inside))
        (key-told over.plan (place_over over) unit (get_or run.rows.ordinals.now k 0) (get_or run.rows.keys.now k 0) within (lines.told k inside).ordinal (lines.told k inside).key)
      where
        field_is : (column : ℕ) → column < own_over over → piece_text_at pieces ((2 + column) * count + k) ≡ with_behind (behind_over over (0 + column)) (text_over (line_of over unit run k) (0 + column))
        field_is column below =
            let place : (2 + column) * count ≡ (column + 2) * count = omega arith in
            let same : column ≡ 0 + column = omega arith in
            ap (λ (start : ℕ). piece_text_at pieces (start + k)) place
            ∙ (fields column below).text k inside
            ∙ ap (λ (c : ℕ). with_behind (behind_over over c) (text_over (line_of over unit run k) c)) same

-- ---- the first lines of lists

first-part : (many : ℕ) (xs ys : List ℕ) → ys ≡ take many xs → (k : ℕ) → k < many → get_or ys k 0 ≡ get_or xs k 0
first-part many xs ys is k inside = ap (λ (zs : List ℕ). get_or zs k 0) is ∙ get_or-take many xs k 0 inside

first-length : (many : ℕ) (xs ys : List ℕ) → ys ≡ take many xs → length xs ≡ 256 → many ≤ 256 → length ys ≡ many
first-length many xs ys is room few = omega (arith, ap (λ (zs : List ℕ). length zs) is, length-take many xs, room, few)

pub lines-first : (over : LinesOver) (unit many : ℕ) (lists : LineLists) (run : LineRun) → AreListed over unit many lists → AreAmong over unit many run.parents lists → run.rows.keys.now ≡ take many lists.keys → run.rows.ordinals.now ≡ take many lists.ordinals →
    run.rows.births.now ≡ take many lists.births → run.rows.changes.now ≡ take many lists.changes → run.numbers.now ≡ take many lists.numbers → run.drawn.now ≡ take many lists.drawn → run.places.now ≡ take many lists.places → AreLines over unit many run
lines-first over unit many lists run listed among keys ordinals births changes numbers drawn places = record {
  few = listed.few;
  many = record {
    keys = first-length many lists.keys run.rows.keys.now keys listed.room.keys listed.few;
    ordinals = first-length many lists.ordinals run.rows.ordinals.now ordinals listed.room.ordinals listed.few;
    births = first-length many lists.births run.rows.births.now births listed.room.births listed.few;
    changes = first-length many lists.changes run.rows.changes.now changes listed.room.changes listed.few;
  };
  numbers = first-length many lists.numbers run.numbers.now numbers listed.room.numbers listed.few;
  drawn = first-length many lists.drawn run.drawn.now drawn listed.room.drawn listed.few;
  told = λ k inside. subst (IsToldRow over unit Whole) (sym (row_is k inside)) (listed.told k inside);
  first = λ k inside. omega (arith, number k inside, listed.first k inside);
  last = λ k inside. omega (arith, number k inside, listed.last k inside);
  drawn_are = λ k inside.
      first-part many lists.drawn run.drawn.now drawn k inside ∙ listed.drawn_are k inside
      ∙ ap (λ (ordinal : ℕ). line_ordinal ordinal (get_or lists.numbers k 0)) (sym (first-part many lists.ordinals run.rows.ordinals.now ordinals k inside))
      ∙ ap (line_ordinal (get_or run.rows.ordinals.now k 0)) (sym (number k inside));
  parents = among.told;
  places = first-length many lists.places run.places.now places listed.room.places listed.few;
  placed = λ k inside. omega (arith, first-part many lists.places run.places.now places k inside, among.placed k inside);
  parent_is = λ k inside.
      ap (row_of run.parents) (first-part many lists.places run.places.now places k inside) ∙ among.row_is k inside ∙ sym (row_is k inside);
}
  where
    number : (k : ℕ) → k < many → get_or run.numbers.now k 0 ≡ get_or lists.numbers k 0
    number k inside = first-part many lists.numbers run.numbers.now numbers k inside

    row_is : (k : ℕ) → k < many → row_of run.rows k ≡ row_in lists k
    row_is k inside =
        ap (λ (n : ℕ). record { key = n; ordinal = get_or run.rows.ordinals.now k 0; born = get_or run.rows.births.now k 0; changed = get_or run.rows.changes.now k 0 }) (first-part many lists.keys run.rows.keys.now keys k inside)
        ∙ ap (λ (n : ℕ). record { key = get_or lists.keys k 0; ordinal = n; born = get_or run.rows.births.now k 0; changed = get_or run.rows.changes.now k 0 }) (first-part many lists.ordinals run.rows.ordinals.now ordinals k inside)
        ∙ ap (λ (n : ℕ). record { key = get_or lists.keys k 0; ordinal = get_or lists.ordinals k 0; born = n; changed = get_or run.rows.changes.now k 0 }) (first-part many lists.births run.rows.births.now births k inside)
        ∙ ap (λ (n : ℕ). record { key = get_or lists.keys k 0; ordinal = get_or lists.ordinals k 0; born = get_or lists.births k 0; changed = n }) (first-part many lists.changes run.rows.changes.now changes k inside)

-- the text of the lines is that of the lists
pub text-first : (over : LinesOver) (unit many : ℕ) (lists : LineLists) (ordinals numbers : List ℕ) → ordinals ≡ take many lists.ordinals → numbers ≡ take many lists.numbers →
    flat_map (λ k. made_line over unit (get_or ordinals k 0) (get_or numbers k 0)) (range_with_len 0 many) ≡ listed_lines over unit lists many
text-first over unit many lists ordinals numbers ordinals_are numbers_are =
    flat_map-shift (λ k. made_line over unit (get_or ordinals k 0) (get_or numbers k 0)) (λ k. made_line over unit (get_or lists.ordinals k 0) (get_or lists.numbers k 0)) 0 0 many
    (λ k inside.
    ap (λ (ordinal : ℕ). made_line over unit ordinal (get_or numbers (0 + k) 0)) (first-part many lists.ordinals ordinals ordinals_are (0 + k) (omega (arith, inside)))
    ∙ ap (made_line over unit (get_or lists.ordinals (0 + k) 0)) (first-part many lists.numbers numbers numbers_are (0 + k) (omega (arith, inside))))

-- ---- pieces that are made

-- numbers as pieces
text-numbered : (numbers : List ℕ) (pieces : List Piece) (byte k : ℕ) → map piece_text pieces ≡ map (λ number. decimal number ++ byte ∷ []) numbers → k < length numbers → piece_text_at pieces k ≡ with_behind byte (decimal (get_or numbers k 0))
text-numbered numbers pieces byte k are below = ap (λ (texts : List (List ℕ)). get_or texts k []) are ∙ get_or-map (λ number. decimal number ++ byte ∷ []) numbers k 0 [] below

-- the keys of lines, picked from those of their rows
pub keys-picked : (over : LinesOver) (unit count byte : ℕ) (run : LineRun) (of_rows pieces : List Piece) → AreLines over unit count run → byte ≡ delimiter_over over → map piece_text of_rows ≡ map (λ number. decimal number ++ byte ∷ []) run.parents.keys.now →
    ((k : ℕ) → k < count → piece_text_at pieces k ≡ piece_text_at of_rows (get_or run.places.now k 0)) → (k : ℕ) → k < count →
    piece_text_at pieces k ≡ with_behind (delimiter_over over) (decimal (get_or run.rows.keys.now k 0))
keys-picked over unit count byte run of_rows pieces lines byte_is made picked k inside =
    picked k inside
    ∙ text-numbered run.parents.keys.now of_rows byte (get_or run.places.now k 0) made (omega (arith, lines.placed k inside, lines.parents.many.keys))
    ∙ ap (λ (row : ParentRow). with_behind byte (decimal row.key)) (lines.parent_is k inside)
    ∙ ap (λ (d : ℕ). with_behind d (decimal (get_or run.rows.keys.now k 0))) byte_is

-- and none is longer than these
pub keys-short : (over : LinesOver) (unit count : ℕ) (run : LineRun) → AreLines over unit count run → ((i : ℕ) → i < length run.parents.keys.now → get_or run.parents.keys.now i 0 < 10 ^ 15) → (k : ℕ) → k < count → get_or run.rows.keys.now k 0 < 10 ^ 15
keys-short over unit count run lines short k inside =
    omega (
      arith,
      short (get_or run.places.now k 0) (omega (arith, lines.placed k inside, lines.parents.many.keys)),
      ap (λ (row : ParentRow). row.key) (lines.parent_is k inside),
    )

-- the numbers of lines, picked from all
pub numbers-picked : (over : LinesOver) (unit count : ℕ) (run : LineRun) (all pieces : List Piece) → AreLines over unit count run → map piece_text all ≡ number_texts (delimiter_over over) →
    ((k : ℕ) → k < count → piece_text_at pieces k ≡ piece_text_at all (get_or run.numbers.now k 0)) → (k : ℕ) → k < count →
    piece_text_at pieces k ≡ with_behind (delimiter_over over) (decimal (get_or run.numbers.now k 0))
numbers-picked over unit count run all pieces lines made picked k inside =
    picked k inside
    ∙ ap (λ (texts : List (List ℕ)). get_or texts (get_or run.numbers.now k 0) []) made
    ∙ get_or-map-range_with_len (λ number. with_behind (delimiter_over over) (decimal number)) 0 65 (get_or run.numbers.now k 0) (get_or run.numbers.now k 0) [] (omega (arith, lines.last k inside)) (omega arith)

-- first the keys and then the numbers
pub heads-made : (over : LinesOver) (count a b : ℕ) (run : LineRun) (pieces keys numbers : List Piece) → length keys ≡ count → length numbers ≡ count → 2 * count ≤ length pieces → length (put_mid 0 a pieces keys) ≡ length pieces →
    ((k : ℕ) → k < count → piece_text_at keys k ≡ with_behind (delimiter_over over) (decimal (get_or run.rows.keys.now k 0))) →
    ((k : ℕ) → k < count → piece_text_at numbers k ≡ with_behind (delimiter_over over) (decimal (get_or run.numbers.now k 0))) →
    AreHeads over count run (put_mid count b (put_mid 0 a pieces keys) numbers)
heads-made over count a b run pieces keys numbers many_keys many_numbers room same keys_are numbers_are = record {
  keys = λ k inside.
      let begun : 0 + k ≡ k = omega arith in
      piece_text_at-before count b (put_mid 0 a pieces keys) numbers k inside (omega (arith, room, same))
      ∙ ap (piece_text_at (put_mid 0 a pieces keys)) (sym begun)
      ∙ piece_text_at-in 0 a pieces keys k (omega (arith, inside, many_keys)) (omega arith)
      ∙ keys_are k inside;
  numbers = λ k inside.
      piece_text_at-in count b (put_mid 0 a pieces keys) numbers k (omega (arith, inside, many_numbers)) (omega (arith, room, same))
      ∙ numbers_are k inside;
}

-- a part that is set after them leaves them
pub heads-before : (over : LinesOver) (count start k : ℕ) (run : LineRun) (pieces fields : List Piece) → 2 * count ≤ start → start ≤ length pieces → AreHeads over count run pieces → AreHeads over count run (put_mid start k pieces fields)
heads-before over count start k run pieces fields behind within heads = record {
  keys = λ place inside. piece_text_at-before start k pieces fields place (omega (arith, inside, behind)) within ∙ heads.keys place inside;
  numbers = λ place inside. piece_text_at-before start k pieces fields (count + place) (omega (arith, inside, behind)) within ∙ heads.numbers place inside;
}

-- the column at a place is made where its part is, and those before stay
pub fields-in : (over : LinesOver) (unit count : ℕ) (run : LineRun) (pieces fields : List Piece) (start k column : ℕ) → start ≤ length pieces → length fields ≡ count → AreFields over unit count run fields 0 column → AreFields over unit count run (put_mid start k pieces fields) start column
fields-in over unit count run pieces fields start k column within many made = record {
  text = λ i below.
      let begun : 0 + i ≡ i = omega arith in
      piece_text_at-in start k pieces fields i (omega (arith, below, many)) within ∙ ap (piece_text_at fields) (sym begun) ∙ made.text i below;
  size = made.size;
}

pub fields-before : (over : LinesOver) (unit count : ℕ) (run : LineRun) (pieces fields : List Piece) (start k from column : ℕ) → start ≤ length pieces → from + count ≤ start → AreFields over unit count run pieces from column → AreFields over unit count run (put_mid start k pieces fields) from column
fields-before over unit count run pieces fields start k from column within before made = record {
  text = λ i below. piece_text_at-before start k pieces fields (from + i) (omega (arith, below, before)) within ∙ made.text i below;
  size = made.size;
}

-- ---- sizes

-- fields with the byte after each
pub fields-length : (over : LinesOver) (line : LineOver) → ((column : ℕ) → column < own_over over → length (text_over line column) ≤ size_over over column) → (n : ℕ) → n ≤ own_over over →
    length (flat_map (λ column. with_behind (behind_over over column) (text_over line column)) (range_with_len 0 n)) ≤ fields_room over n
fields-length over line size zero within = omega arith
fields-length over line size (suc n) within =
    let next : suc n ≡ n + 1 = omega arith in
    let field : List ℕ = with_behind (behind_over over n) (text_over line n) in
    let all : ℕ → List ℕ = λ column. with_behind (behind_over over column) (text_over line column) in
    omega (
      arith,
      ap (λ (m : ℕ). length (flat_map all (range_with_len 0 m))) next,
      ap (fields_room over) next,
      ap (λ (text : List ℕ). length text) (flat_map-range_with_len_more all n),
      length-append (flat_map all (range_with_len 0 n)) field,
      length-append (text_over line n) (behind_over over n ∷ []),
      size n (omega (arith, within)),
      fields-length over line size n (omega (arith, within)),
      rooms-more over n,
    )

pub two_digits : (n : ℕ) → n ≤ 64 → length (decimal n) ≤ 2
two_digits n few = length-decimal-le 2 n (omega arith) (omega arith) (omega arith)

pub line-length : (over : LinesOver) (unit ordinal key number : ℕ) → KeepsRules over.plan over.kept → IsInLimits over.kept.lists over.kept.detail → key < 2 ^ 64 → number ≤ 64 →
    key ≡ key_of_row (generator_of over.plan) (place_over over) (row_over over unit ordinal) →
    ((column : ℕ) → column < own_over over → length (text_over (record { over = over; unit = unit; ordinal = ordinal; number = number }) column) ≤ size_over over column) →
    length (made_line over unit ordinal number) ≤ line_size over.plan over.kept.lists over.kept.detail
line-length over unit ordinal key number keeps limits small few key_is size =
    let line : LineOver = record { over = over; unit = unit; ordinal = ordinal; number = number } in
    let d : ℕ = delimiter_over over in
    let fields : List ℕ = flat_map (λ column. with_behind (behind_over over column) (text_over line column)) (range_with_len 0 (own_over over)) in
    omega (
      arith,
      ap (λ (text : List ℕ). length text) (line-behind over unit ordinal key number limits.some_column small (omega (arith, few)) key_is),
      length-append (with_behind d (decimal key)) (with_behind d (decimal number) ++ fields),
      length-append (with_behind d (decimal number)) fields,
      length-append (decimal key) (d ∷ []),
      length-append (decimal number) (d ∷ []),
      length-decimal-le_20 key small,
      two_digits number few,
      fields-length over line size (own_over over) (omega arith),
      line-rooms over keeps limits,
    )

pub run-length : (over : LinesOver) (unit count : ℕ) (run : LineRun) (pieces : List Piece) → KeepsRules over.plan over.kept → IsInLimits over.kept.lists over.kept.detail → unit ≤ last_unit over.plan →
    ((k : ℕ) → k < count → get_or run.rows.keys.now k 0 < 2 ^ 64) → AreLines over unit count run →
    ((column : ℕ) → column < own_over over → AreFields over unit count run pieces ((column + 2) * count) column) → (n : ℕ) → n ≤ count → length (run_text over unit run n) ≤ n * line_size over.plan over.kept.lists over.kept.detail
run-length over unit count run pieces keeps limits within small lines fields zero inside = omega arith
run-length over unit count run pieces keeps limits within small lines fields (suc n) inside =
    let next : suc n ≡ n + 1 = omega arith in
    let line : ℕ → List ℕ = λ k. made_line over unit (get_or run.rows.ordinals.now k 0) (get_or run.numbers.now k 0) in
    omega (
      arith,
      ap (λ (m : ℕ). length (flat_map line (range_with_len 0 m))) next,
      ap (λ (text : List ℕ). length text) (flat_map-range_with_len_more line n),
      length-append (flat_map line (range_with_len 0 n)) (line n),
      run-length over unit count run pieces keeps limits within small lines fields n (omega (arith, inside)),
      line-length over unit (get_or run.rows.ordinals.now n 0) (get_or run.rows.keys.now n 0) (get_or run.numbers.now n 0) keeps limits (small n (omega (arith, inside))) (lines.last n (omega (arith, inside)))
          (key-told over.plan (place_over over) unit (get_or run.rows.ordinals.now n 0) (get_or run.rows.keys.now n 0) within (lines.told n (omega (arith, inside))).ordinal (lines.told n (omega (arith, inside))).key)
          (λ column below. (fields column below).size n (omega (arith, inside))),
    )

-- rows of at most so many lines
pub rows-room : (lines rows most size : ℕ) → lines ≤ rows * most → lines * size ≤ rows * (most * size)
rows-room lines rows most size few = omega (arith, mul-le-mul_right size few)
