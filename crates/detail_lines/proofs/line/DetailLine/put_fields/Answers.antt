use Rattle.std.proofs.Common.{rules, ◌<◌, ◌+◌, ℕ, List, ap, arith, length, length-append, sym}
use Rattle.line_pages.specs.Pages.{Page}
use Rattle.life_intervals.proofs.Ranges.{flat_map-range_with_len_more}
use Rattle.row_lines.proofs.RunTextLemmas.{appended-more}
use Rattle.detail_plan.specs.declared.detail.Detail.{Detail}
use Rattle.detail_lines.specs.Made.{LineOver, own_over, written_field, written_fields}
use Rattle.detail_lines.proofs.LineSizeLemmas.{rooms-more, rooms-within}
use Rattle.detail_lines.proofs.line.DetailLine.put_fields.Goals as goal

pub put_field-requires-clause-room : goal.put_field-requires-clause-room
put_field-requires-clause-room g c =
    let line : LineOver = c.args.self.now in
    let column : ℕ = c.loop-column.column in
    let within : column < own_over line.over =
    omega (arith, c.loop-column-test.true, c.len-column-end.ensures, ap (λ (detail : Detail). length detail.columns) c.detail.ensures.value, ap (λ (l : LineOver). own_over l.over) c.self.view_is) in
    omega (
      arith,
      c.requires.room,
      ap (λ (page : Page). length page.text) c.loop-column.invariant.text,
      ap (λ (page : Page). page.room) c.loop-column.invariant.text,
      length-append c.args.page.now.text (written_fields line column),
      c.loop-column.invariant.size,
      rooms-more line.over column,
      rooms-within line.over (column + 1) (own_over line.over) (omega (arith, within)),
    )

pub loop-column-init : goal.loop-column-init
loop-column-init g c =
    record {
      shown = record {
        days = c.requires.wide.days;
        numbers = c.requires.wide.numbers;
        each_day = λ column n below. absurd (omega (arith, below));
        each_number = λ column n below. absurd (omega (arith, below));
        days_within = λ column below. absurd (omega (arith, below));
        numbers_within = λ column below. absurd (omega (arith, below));
      };
      text = search rules;
      size = omega arith;
    }

pub returns-clause-wide : goal.returns-clause-wide
returns-clause-wide g c = record { days = c.loop-column.invariant.shown.days; numbers = c.loop-column.invariant.shown.numbers }

pub loop-column-preserved : goal.loop-column-preserved
loop-column-preserved g c =
    let line : LineOver = c.args.self.now in
    let column : ℕ = c.loop-column.column in
    let so_far : List ℕ = written_fields line column in
    let more = sym (flat_map-range_with_len_more (written_field line) column) in
    record {
      shown = c.put_field.ensures.shown;
      text = appended-more c.args.page.now c.loop-column.page c.put_field.new.page so_far (written_field line column) (written_fields line (column + 1)) c.loop-column.invariant.text c.put_field.ensures.text more;
      size = omega (arith, ap (λ (text : List ℕ). length text) more, length-append so_far (written_field line column), c.loop-column.invariant.size, c.put_field.ensures.size, rooms-more line.over column);
    }
