use Rattle.std.proofs.Common.{◌≡◌, ◌<◌, ◌==◌, ◌++◌, if◌then◌else◌, [], ◌∷◌, ℕ, List, length, map, codes, true, ap, ◌∙◌, arith, length-append}
use Rattle.std.specs.List.{join_with_byte, range_with_len}
use Rattle.std.proofs.lemmas.List.{append_assoc}
use Rattle.std.proofs.lemmas.List.Sums.{sum_by-take-le, sum_by_more, sum_by_more_le}
use Rattle.schema_facts.specs.Layout.{ColumnLayout, layout_of, no_column}
use Rattle.line_pages.specs.Pages.{Page}
use Rattle.row_lines.specs.CohortLines.{LinesOf, asked_for, layout_for, text_in_cohort}
use Rattle.row_lines.proofs.CohortLineLemmas.{AreLinesOf-view, asked_before, asked_for_line-is, length-delimiter, line_in_cohort-fields, max_line-columns, room_in, sum_by-range_more}
use Rattle.draw_values.proofs.JoinLemmas.{join_with_byte-range_more}
use Rattle.row_lines.proofs.CohortFieldLemmas.{length-columns}
use Rattle.row_lines.proofs.cohort_lines.CohortLines.put_fields.Goals as goal

pub put_delimiter-requires : goal.put_delimiter-requires
put_delimiter-requires g c =
    let lines : LinesOf = c.args.self.now in
    omega (
      arith,
      c.loop-column.invariant.short,
      c.loop-column.invariant.room,
      sum_by-take-le (room_in lines) (layout_for lines).columns c.loop-column.column,
      max_line-columns lines,
      c.requires.room,
    )

pub put_field-requires-clause-column : goal.put_field-requires-clause-column
put_field-requires-clause-column g c =
    let known = AreLinesOf-view _ c.args.self.now c.self.inside.columns.now c.self.inside.fields c.self.inside.delimiter c.self.view_is c.self.invariant in
    omega (arith, c.loop-column-test.true, length-columns c.args.self.now _ known.columns_are)

pub put_field-requires-clause-room : goal.put_field-requires-clause-room
put_field-requires-clause-room g c =
    let lines : LinesOf = c.args.self.now in
    let n : ℕ = c.loop-column.column in
    omega (
      arith,
      c.loop-column.invariant.short,
      c.loop-column.invariant.room,
      ap (λ (page : Page). length page.text) c.put_delimiter.ensures,
      ap (λ (page : Page). page.room) c.put_delimiter.ensures,
      length-append c.loop-column.buf.text (if n == 0 then [] else c.self.inside.delimiter ∷ []),
      length-delimiter n c.self.inside.delimiter,
      sum_by_more_le (room_in lines) (layout_for lines).columns n no_column (put_field-requires-clause-column g c),
      max_line-columns lines,
      c.requires.room,
    )

pub loop-column-preserved : goal.loop-column-preserved
loop-column-preserved g c =
    let lines : LinesOf = c.args.self.now in
    let known = AreLinesOf-view _ lines c.self.inside.columns.now c.self.inside.fields c.self.inside.delimiter c.self.view_is c.self.invariant in
    let columns : List ColumnLayout = (layout_for lines).columns in
    let n : ℕ = c.loop-column.column in
    let below : n < length columns = omega (arith, c.loop-column-test.true, length-columns lines _ known.columns_are) in
    let own : List ℕ = text_in_cohort lines c.args.index n in
    let delimiter : ℕ = (layout_of lines.plan).delimiter in
    record {
      text = ap (λ (page : Page). page.text) c.put_field.ensures.text
          ∙ ap (λ (page : Page). page.text ++ own) c.put_delimiter.ensures
          ∙ ap (λ (d : ℕ). (c.loop-column.buf.text ++ (if n == 0 then [] else d ∷ [])) ++ own) known.delimiter
          ∙ join_with_byte-range_more delimiter (text_in_cohort lines c.args.index) n c.args.buf.now.text c.loop-column.buf.text c.loop-column.invariant.text;
      steps = omega (arith, c.loop-column.invariant.steps, c.put_field.ensures.steps, sum_by-range_more (asked_for true lines) n);
      room = ap (λ (page : Page). page.room) c.put_field.ensures.text ∙ ap (λ (page : Page). page.room) c.put_delimiter.ensures ∙ c.loop-column.invariant.room;
      short = omega (
        arith,
        c.loop-column.invariant.short,
        c.put_field.ensures.size,
        ap (λ (page : Page). length page.text) c.put_field.ensures.text,
        ap (λ (page : Page). length page.text) c.put_delimiter.ensures,
        length-append c.loop-column.buf.text (if n == 0 then [] else c.self.inside.delimiter ∷ []),
        length-append (c.loop-column.buf.text ++ (if n == 0 then [] else c.self.inside.delimiter ∷ [])) own,
        ap (λ (page : Page). length (page.text ++ own)) c.put_delimiter.ensures,
        length-delimiter n c.self.inside.delimiter,
        sum_by_more (room_in lines) columns n no_column below,
      );
    }

pub put_piece-requires : goal.put_piece-requires
put_piece-requires g c =
    let lines : LinesOf = c.args.self.now in
    let known = AreLinesOf-view _ lines c.self.inside.columns.now c.self.inside.fields c.self.inside.delimiter c.self.view_is c.self.invariant in
    omega (
      arith,
      known.limits.some_column,
      length-columns lines _ known.columns_are,
      c.loop-column-test.false,
      ap (λ (bytes : List ℕ). length bytes) c.of_byte.ensures,
      c.loop-column.invariant.short,
      c.loop-column.invariant.room,
      sum_by-take-le (room_in lines) (layout_for lines).columns c.loop-column.column,
      max_line-columns lines,
      c.requires.room,
    )

pub returns-clause-line : goal.returns-clause-line
returns-clause-line g c =
    let lines : LinesOf = c.args.self.now in
    let known = AreLinesOf-view _ lines c.self.inside.columns.now c.self.inside.fields c.self.inside.delimiter c.self.view_is c.self.invariant in
    let n : ℕ = c.loop-column.column in
    let all : n ≡ length (layout_for lines).columns =
    omega (arith, length-columns lines _ known.columns_are, c.loop-column-test.false, c.loop-column.auto.column-end) in
    let joined : List ℕ = join_with_byte (layout_of lines.plan).delimiter (map (text_in_cohort lines c.args.index) (range_with_len 0 n)) in
    c.put_piece.ensures
    ∙ ap (λ (end : List ℕ). record { text = c.loop-column.buf.text ++ end; room = c.loop-column.buf.room }) c.of_byte.ensures
    ∙ ap (λ (room : ℕ). record { text = c.loop-column.buf.text ++ codes "\n"; room = room }) c.loop-column.invariant.room
    ∙ ap (λ (text : List ℕ). record { text = text; room = c.args.buf.now.room })
    (ap (λ (text : List ℕ). text ++ codes "\n") c.loop-column.invariant.text
    ∙ append_assoc c.args.buf.now.text joined (codes "\n")
    ∙ ap (λ (text : List ℕ). c.args.buf.now.text ++ text) (line_in_cohort-fields lines c.args.index n all))

pub returns-clause-size : goal.returns-clause-size
returns-clause-size g c =
    let lines : LinesOf = c.args.self.now in
    let known = AreLinesOf-view _ lines c.self.inside.columns.now c.self.inside.fields c.self.inside.delimiter c.self.view_is c.self.invariant in
    let n : ℕ = c.loop-column.column in
    let all : n ≡ length (layout_for lines).columns =
    omega (arith, length-columns lines _ known.columns_are, c.loop-column-test.false, c.loop-column.auto.column-end) in
    let joined : List ℕ = join_with_byte (layout_of lines.plan).delimiter (map (text_in_cohort lines c.args.index) (range_with_len 0 n)) in
    omega (
      arith,
      all,
      known.limits.some_column,
      c.loop-column.invariant.short,
      ap (λ (text : List ℕ). length text) c.loop-column.invariant.text,
      length-append c.args.buf.now.text joined,
      length-append joined (codes "\n"),
      ap (λ (text : List ℕ). length text) (line_in_cohort-fields lines c.args.index n all),
      sum_by-take-le (room_in lines) (layout_for lines).columns n,
      max_line-columns lines,
    )

pub returns-clause-steps : goal.returns-clause-steps
returns-clause-steps g c =
    let lines : LinesOf = c.args.self.now in
    let known = AreLinesOf-view _ lines c.self.inside.columns.now c.self.inside.fields c.self.inside.delimiter c.self.view_is c.self.invariant in
    let all : c.loop-column.column ≡ length (layout_for lines).columns = omega (arith, length-columns lines _ known.columns_are, c.loop-column-test.false, c.loop-column.auto.column-end) in
    omega (arith, c.loop-column.invariant.steps, ap (asked_before lines) all, asked_for_line-is lines)
