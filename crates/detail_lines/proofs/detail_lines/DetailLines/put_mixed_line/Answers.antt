use Rattle.std.proofs.Common.{◌≡◌, ◌≤◌, ◌++◌, ◌+◌, ◌*◌, ◌<◌, ◌^◌, ℕ, List, [], ◌∷◌, append-nil, append_assoc, decimal, flat_map, get_or, length, length-append, arith, ap, sym, ◌∙◌}
use Rattle.std.specs.List.{range_with_len}
use Rattle.std.proofs.lemmas.List.{get_or-map}
use Rattle.std.proofs.Math.Nat.{mul-le-mul_left}
use Rattle.line_pages.specs.declared.piece.Piece.{Piece}
use Rattle.line_pages.specs.Pages.{Page}
use Rattle.line_pages.specs.Pieces.{piece_text}
use Rattle.line_pages.specs.Rows.{piece_text_at}
use Rattle.draw_values.specs.Runs.{with_behind}
use Rattle.life_intervals.proofs.Ranges.{flat_map-range_with_len_more}
use Rattle.row_lines.proofs.FieldLemmas.{length-decimal-le_20}
use Rattle.row_lines.proofs.RunTextLemmas.{appended-more}
use Rattle.life_intervals.specs.Generator.{last_unit}
use Rattle.detail_plan.specs.Kept.{KeepsRules}
use Rattle.detail_plan.specs.Limits.{IsInLimits}
use Rattle.detail_lines.specs.declared.line_run.LineRun.{LineRun}
use Rattle.detail_lines.specs.LineRuns.{AreLines, line_of, text_over}
use Rattle.detail_lines.specs.Made.{LinesOver, behind_over, delimiter_over, fields_room, made_line, own_over, place_over}
use Rattle.detail_lines.proofs.LineListLemmas.{line-behind, two_digits}
use Rattle.detail_lines.proofs.LineSizeLemmas.{line-rooms, rooms-more, rooms-within}
use Rattle.detail_lines.proofs.ToldLemmas.{key-told}
use Rattle.detail_lines.proofs.TextLemmas.{put-twice}
use Rattle.detail_lines.proofs.detail_lines.DetailLines.put_mixed_line.Goals as goal

pub piece-at : (pieces : List Piece) (place : ℕ) (piece : Piece) → place < length pieces → piece ≡ get_or pieces place piece → piece_text piece ≡ piece_text_at pieces place
piece-at pieces place piece below is = ap piece_text is ∙ sym (get_or-map piece_text pieces place piece [] below)

-- where columns stand that have so many pieces each
within_all : (column own count k : ℕ) → column + 1 ≤ own → k < count → (column + 2) * count + k < count * (own + 2)
within_all column own count k below inside = let next : column + 3 ≤ own + 2 = omega (arith, below) in omega (arith, inside, mul-le-mul_left count next)

pub put_piece-requires : goal.put_piece-requires
put_piece-requires c =
    let over : LinesOver = c.args.self.now in
    let key : ℕ = get_or c.args.run.now.rows.keys.now c.args.k 0 in
    omega (
      arith,
      c.requires.room,
      ap (λ (t : List ℕ). length t) (piece-at c.args.pieces.now c.args.k c.index-pieces-k.result (omega (arith, c.requires.line, c.requires.pieces, within_all 0 (own_over over) c.args.count c.args.k c.declared-limits.ensures.limits.some_column c.requires.line)) c.index-pieces-k.is
          ∙ c.requires.heads.keys c.args.k c.requires.line),
      length-append (decimal key) (delimiter_over over ∷ []),
      length-decimal-le_20 key (omega (arith, c.requires.small)),
      line-rooms over c.declared-limits.ensures.keeps c.declared-limits.ensures.limits,
    )

pub put_piece-requires-2 : goal.put_piece-requires-2
put_piece-requires-2 c =
    let over : LinesOver = c.args.self.now in
    let key : ℕ = get_or c.args.run.now.rows.keys.now c.args.k 0 in
    let number : ℕ = get_or c.args.run.now.numbers.now c.args.k 0 in
    let inside = within_all 0 (own_over over) c.args.count c.args.k c.declared-limits.ensures.limits.some_column c.requires.line in
    omega (
      arith,
      c.requires.room,
      ap (λ (t : List ℕ). length t) (piece-at c.args.pieces.now c.args.k c.index-pieces-k.result (omega (arith, c.requires.line, c.requires.pieces, inside)) c.index-pieces-k.is ∙ c.requires.heads.keys c.args.k c.requires.line),
      ap (λ (t : List ℕ). length t) (piece-at c.args.pieces.now (c.args.count + c.args.k) c.index-pieces-count.result (omega (arith, c.requires.line, c.requires.pieces, inside)) c.index-pieces-count.is ∙ c.requires.heads.numbers c.args.k c.requires.line),
      length-append (decimal key) (delimiter_over over ∷ []),
      length-append (decimal number) (delimiter_over over ∷ []),
      length-decimal-le_20 key (omega (arith, c.requires.small)),
      two_digits number (c.requires.lines.last c.args.k c.requires.line),
      ap (λ (page : Page). length page.text) c.put_piece.ensures,
      ap (λ (page : Page). page.room) c.put_piece.ensures,
      length-append c.args.page.now.text (piece_text c.index-pieces-k.result),
      line-rooms over c.declared-limits.ensures.keeps c.declared-limits.ensures.limits,
    )

pub loop-column-init : goal.loop-column-init
loop-column-init c =
    let over : LinesOver = c.args.self.now in
    let key : List ℕ = with_behind (delimiter_over over) (decimal (get_or c.args.run.now.rows.keys.now c.args.k 0)) in
    let number : List ℕ = with_behind (delimiter_over over) (decimal (get_or c.args.run.now.numbers.now c.args.k 0)) in
    let inside = within_all 0 (own_over over) c.args.count c.args.k c.declared-limits.ensures.limits.some_column c.requires.line in
    record {
      text = put-twice c.args.page.now c.put_piece.new.self c.put_piece-2.new.self (piece_text c.index-pieces-k.result) (piece_text c.index-pieces-count.result) _ c.put_piece.ensures c.put_piece-2.ensures
          (ap (λ (t : List ℕ). t ++ piece_text c.index-pieces-count.result) (piece-at c.args.pieces.now c.args.k c.index-pieces-k.result (omega (arith, c.requires.line, c.requires.pieces, inside)) c.index-pieces-k.is ∙ c.requires.heads.keys c.args.k c.requires.line)
          ∙ ap (λ (t : List ℕ). key ++ t) (piece-at c.args.pieces.now (c.args.count + c.args.k) c.index-pieces-count.result (omega (arith, c.requires.line, c.requires.pieces, inside)) c.index-pieces-count.is ∙ c.requires.heads.numbers c.args.k c.requires.line
          ∙ sym (append-nil number)));
      size = omega arith;
    }

pub put_mixed_field-requires-clause-text : goal.put_mixed_field-requires-clause-text
put_mixed_field-requires-clause-text c = λ made.
    let column : ℕ = c.loop-column.column in
    let below : column < own_over c.args.self.now = omega (arith, c.loop-column-test.true, c.loop-column.auto.column-end, c.columns-column-end.ensures.many) in
    piece-at c.args.pieces.now ((column + 2) * c.args.count + c.args.k) c.index-pieces-place.result
    (omega (arith, within_all column (own_over c.args.self.now) c.args.count c.args.k (omega (arith, below)) c.requires.line, c.requires.pieces)) c.index-pieces-place.is
    ∙ (c.requires.made column below made).text c.args.k c.requires.line

pub put_mixed_field-requires-clause-size : goal.put_mixed_field-requires-clause-size
put_mixed_field-requires-clause-size c = λ made.
    (c.requires.made c.loop-column.column (omega (arith, c.loop-column-test.true, c.loop-column.auto.column-end, c.columns-column-end.ensures.many)) made).size c.args.k c.requires.line

pub put_mixed_field-requires-clause-itemized : goal.put_mixed_field-requires-clause-itemized
put_mixed_field-requires-clause-itemized c = λ itemized.
    (c.requires.itemized c.loop-column.column (omega (arith, c.loop-column-test.true, c.loop-column.auto.column-end, c.columns-column-end.ensures.many)) itemized).each c.args.k _ c.requires.line

pub put_mixed_field-requires-clause-room : goal.put_mixed_field-requires-clause-room
put_mixed_field-requires-clause-room c =
    let over : LinesOver = c.args.self.now in
    let column : ℕ = c.loop-column.column in
    let key : ℕ = get_or c.args.run.now.rows.keys.now c.args.k 0 in
    let number : ℕ = get_or c.args.run.now.numbers.now c.args.k 0 in
    let fields : List ℕ = flat_map (λ (place : ℕ). with_behind (behind_over over place) (text_over (line_of over c.args.at.now.unit c.args.run.now c.args.k) place)) (range_with_len 0 column) in
    let below : column < own_over over = omega (arith, c.loop-column-test.true, c.loop-column.auto.column-end, c.columns-column-end.ensures.many) in
    omega (
      arith,
      c.requires.room,
      ap (λ (page : Page). length page.text) c.loop-column.invariant.text,
      ap (λ (page : Page). page.room) c.loop-column.invariant.text,
      length-append c.args.page.now.text (with_behind (delimiter_over over) (decimal key) ++ (with_behind (delimiter_over over) (decimal number) ++ fields)),
      length-append (with_behind (delimiter_over over) (decimal key)) (with_behind (delimiter_over over) (decimal number) ++ fields),
      length-append (with_behind (delimiter_over over) (decimal number)) fields,
      length-append (decimal key) (delimiter_over over ∷ []),
      length-append (decimal number) (delimiter_over over ∷ []),
      length-decimal-le_20 key (omega (arith, c.requires.small)),
      two_digits number (c.requires.lines.last c.args.k c.requires.line),
      c.loop-column.invariant.size,
      rooms-more over column,
      rooms-within over (column + 1) (own_over over) (omega (arith, below)),
      line-rooms over c.declared-limits.ensures.keeps c.declared-limits.ensures.limits,
    )

pub loop-column-preserved : goal.loop-column-preserved
loop-column-preserved c =
    let over : LinesOver = c.args.self.now in
    let column : ℕ = c.loop-column.column in
    let key : List ℕ = with_behind (delimiter_over over) (decimal (get_or c.args.run.now.rows.keys.now c.args.k 0)) in
    let number : List ℕ = with_behind (delimiter_over over) (decimal (get_or c.args.run.now.numbers.now c.args.k 0)) in
    let line = line_of over c.args.at.now.unit c.args.run.now c.args.k in
    let field : ℕ → List ℕ = λ (place : ℕ). with_behind (behind_over over place) (text_over line place) in
    let fields : List ℕ = flat_map field (range_with_len 0 column) in
    let more = append_assoc key (number ++ fields) (field column) ∙ ap (λ (t : List ℕ). key ++ t) (append_assoc number fields (field column) ∙ ap (λ (t : List ℕ). number ++ t) (sym (flat_map-range_with_len_more field column))) in
    record {
      text = appended-more c.args.page.now c.loop-column.page c.put_mixed_field.new.page (key ++ (number ++ fields)) (field column) _ c.loop-column.invariant.text c.put_mixed_field.ensures.text more;
      size = omega (
        arith,
        ap (λ (t : List ℕ). length t) (flat_map-range_with_len_more field column),
        length-append fields (field column),
        length-append (text_over line column) (behind_over over column ∷ []),
        c.loop-column.invariant.size,
        c.put_mixed_field.ensures.size,
        rooms-more over column,
      );
    }

-- all fields are put
line_is : (over : LinesOver) (unit k count column : ℕ) (run : LineRun) → KeepsRules over.plan over.kept → IsInLimits over.kept.lists over.kept.detail → unit ≤ last_unit over.plan → AreLines over unit count run → k < count → get_or run.rows.keys.now k 0 < 10 ^ 15 → column ≡ own_over over →
    with_behind (delimiter_over over) (decimal (get_or run.rows.keys.now k 0)) ++ (with_behind (delimiter_over over) (decimal (get_or run.numbers.now k 0))
    ++ flat_map (λ (place : ℕ). with_behind (behind_over over place) (text_over (line_of over unit run k) place)) (range_with_len 0 column))
    ≡ made_line over unit (get_or run.rows.ordinals.now k 0) (get_or run.numbers.now k 0)
line_is over unit k count column run keeps limits within lines inside small all =
    ap (λ (n : ℕ). with_behind (delimiter_over over) (decimal (get_or run.rows.keys.now k 0)) ++ (with_behind (delimiter_over over) (decimal (get_or run.numbers.now k 0))
    ++ flat_map (λ (place : ℕ). with_behind (behind_over over place) (text_over (line_of over unit run k) place)) (range_with_len 0 n))) all
    ∙ line-behind over unit (get_or run.rows.ordinals.now k 0) (get_or run.rows.keys.now k 0) (get_or run.numbers.now k 0) limits.some_column (omega (arith, small)) (omega (arith, lines.last k inside))
    (key-told over.plan (place_over over) unit (get_or run.rows.ordinals.now k 0) (get_or run.rows.keys.now k 0) within (lines.told k inside).ordinal (lines.told k inside).key)

pub returns-clause-text : goal.returns-clause-text
returns-clause-text c =
    let all : c.loop-column.column ≡ own_over c.args.self.now = omega (arith, c.loop-column-test.false, c.loop-column.auto.column-end, c.columns-column-end.ensures.many) in
    c.loop-column.invariant.text
    ∙ ap (λ (t : List ℕ). record { text = c.args.page.now.text ++ t; room = c.args.page.now.room })
    (line_is c.args.self.now c.args.at.now.unit c.args.k c.args.count c.loop-column.column c.args.run.now c.declared-limits.ensures.keeps c.declared-limits.ensures.limits c.requires.at.unit c.requires.lines c.requires.line c.requires.small all)

pub returns-clause-size : goal.returns-clause-size
returns-clause-size c =
    let over : LinesOver = c.args.self.now in
    let all : c.loop-column.column ≡ own_over over = omega (arith, c.loop-column-test.false, c.loop-column.auto.column-end, c.columns-column-end.ensures.many) in
    let key : ℕ = get_or c.args.run.now.rows.keys.now c.args.k 0 in
    let number : ℕ = get_or c.args.run.now.numbers.now c.args.k 0 in
    let fields : List ℕ = flat_map (λ (place : ℕ). with_behind (behind_over over place) (text_over (line_of over c.args.at.now.unit c.args.run.now c.args.k) place)) (range_with_len 0 c.loop-column.column) in
    omega (
      arith,
      ap (λ (t : List ℕ). length t) (line_is over c.args.at.now.unit c.args.k c.args.count c.loop-column.column c.args.run.now c.declared-limits.ensures.keeps c.declared-limits.ensures.limits c.requires.at.unit c.requires.lines c.requires.line c.requires.small all),
      length-append (with_behind (delimiter_over over) (decimal key)) (with_behind (delimiter_over over) (decimal number) ++ fields),
      length-append (with_behind (delimiter_over over) (decimal number)) fields,
      length-append (decimal key) (delimiter_over over ∷ []),
      length-append (decimal number) (delimiter_over over ∷ []),
      length-decimal-le_20 key (omega (arith, c.requires.small)),
      two_digits number (c.requires.lines.last c.args.k c.requires.line),
      c.loop-column.invariant.size,
      ap (fields_room over) all,
      line-rooms over c.declared-limits.ensures.keeps c.declared-limits.ensures.limits,
    )
