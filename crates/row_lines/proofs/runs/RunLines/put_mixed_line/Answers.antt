use Rattle.std.proofs.Common.{◌≡◌, ◌≤◌, ◌+◌, ◌++◌, ℕ, List, flat_map, get_or, length, ap, arith, subst, sym, ◌∙◌, inl, inr}
use Rattle.std.specs.List.{range_with_len}
use Rattle.std.proofs.lemmas.Bool.{cases_lt}
use Rattle.life_intervals.proofs.Ranges.{flat_map-range_with_len_more}
use Rattle.row_lines.specs.RunFields.{asked_long, size_for}
use Rattle.row_lines.specs.Runs.{RunLinesOf, layout_for, text_at, text_behind}
use Rattle.row_lines.proofs.CohortLineLemmas.{sum_by-range_more}
use Rattle.row_lines.proofs.RunFieldLemmas.{mixed-line, mixed-room, mixed-size}
use Rattle.row_lines.proofs.RunTextLemmas.{appended-more}
use Rattle.row_lines.proofs.runs.RunLines.put_mixed_line.Goals as goal

pub put_mixed_field-requires-clause-room : goal.put_mixed_field-requires-clause-room
put_mixed_field-requires-clause-room g c =
    mixed-room c.args.self.now (get_or c.args.rows.ordinals.now c.args.row 0) c.loop-column.column c.args.page.now c.loop-column.page
    (omega (arith, c.loop-column-test.true, c.column_count-column-end.ensures.many)) c.loop-column.invariant.text c.loop-column.invariant.sizes c.requires.room

pub loop-column-preserved : goal.loop-column-preserved
loop-column-preserved g c =
    let lines : RunLinesOf = c.args.self.now in
    let ordinal : ℕ = get_or c.args.rows.ordinals.now c.args.row 0 in
    let column : ℕ = c.loop-column.column in
    let text : ℕ → List ℕ = text_behind lines ordinal in
    record {
      text = appended-more c.args.page.now c.loop-column.page c.put_mixed_field.new.page (flat_map text (range_with_len 0 column)) (text column) (flat_map text (range_with_len 0 (column + 1))) c.loop-column.invariant.text
          c.put_mixed_field.ensures.text (sym (flat_map-range_with_len_more text column));
      sizes = λ k below. elim (cases_lt k column) [
        | inl before ↦ c.loop-column.invariant.sizes k before
        | inr here ↦
            let same : k ≡ column = omega (arith, below, here) in
            subst (λ (j : ℕ). length (text_at lines ordinal j) ≤ size_for lines j) (sym same) c.put_mixed_field.ensures.size
      ];
      steps = omega (arith, c.loop-column.invariant.steps, c.put_mixed_field.ensures.steps, sum_by-range_more (asked_long lines) column);
    }

pub returns-clause-text : goal.returns-clause-text
returns-clause-text g c =
    let lines : RunLinesOf = c.args.self.now in
    let ordinal : ℕ = get_or c.args.rows.ordinals.now c.args.row 0 in
    let all : c.loop-column.column ≡ length (layout_for lines).columns = omega (arith, c.column_count-column-end.ensures.many) in
    c.loop-column.invariant.text
    ∙ ap (λ (text : List ℕ). record { text = c.args.page.now.text ++ text; room = c.args.page.now.room })
    (mixed-line lines ordinal c.loop-column.column all (omega (arith, c.column_count-column-end.ensures.many, c.column_count-column-end.ensures.some)))

pub returns-clause-size : goal.returns-clause-size
returns-clause-size g c =
    let lines : RunLinesOf = c.args.self.now in
    let all : c.loop-column.column ≡ length (layout_for lines).columns = omega (arith, c.column_count-column-end.ensures.many) in
    mixed-size lines (get_or c.args.rows.ordinals.now c.args.row 0) c.loop-column.column all (omega (arith, c.column_count-column-end.ensures.many, c.column_count-column-end.ensures.some)) c.loop-column.invariant.sizes

pub returns-clause-fields : goal.returns-clause-fields
returns-clause-fields g c = record {
  each = λ column below. c.loop-column.invariant.sizes column (omega (arith, below, c.column_count-column-end.ensures.many));
}
