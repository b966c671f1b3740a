use Rattle.std.proofs.Common.{◌≡◌, ◌<◌, ◌+◌, ◌*◌, ◌++◌, ℕ, List, length, get_or, sum_by, take, refl, ap, arith, subst, sym, ◌∙◌}
use Rattle.std.specs.Prelude.{All}
use Rattle.std.specs.List.{range_with_len}
use Rattle.std.proofs.lemmas.List.{take_all}
use Rattle.std.proofs.lemmas.List.Elements.{All-from_get_or, All-more}
use Rattle.schema_facts.specs.Layout.{layout_of}
use Rattle.schema_facts.specs.TableFacts.{max_line}
use Rattle.row_lines.specs.CohortLines.{LinesOf}
use Rattle.row_lines.specs.RunFields.{AreMade, HasSizes, asked_long}
use Rattle.row_lines.specs.Runs.{RunLinesOf, layout_for, line_for, listed_text}
use Rattle.row_lines.specs.TableLines.{TableLinesOf, table_lines}
use Rattle.row_lines.proofs.RowOfRunLemmas.{of_unit}
use Rattle.row_lines.proofs.RunPieceLemmas.{AreRunLines-view, length-short, made-size, rows-lines, short-at}
use Rattle.row_lines.proofs.RunTextLemmas.{appended-more, listed_text-more, room-more, sizes-more}
use Rattle.row_lines.proofs.runs.RunLines.put_lines.Goals as goal
use Rattle.row_lines.proofs.runs.RunLines.put_lines.Goals.{Then-are_all}

-- all columns are made as pieces
all_made : (g : _) (c : Then-are_all g) → (column : ℕ) → column < length (layout_for c.args.self.now).columns →
    AreMade c.args.self.now c.args.rows.ordinals.now c.args.pieces.now (column * length c.args.rows.ordinals.now) column
all_made g c = λ column within.
    let lines : RunLinesOf = c.args.self.now in
    let known = AreRunLines-view _ lines c.self.inside.lines.now c.self.view_is c.self.invariant in
    let are : c.short-short.result.now ≡ (table_lines lines.plan lines.table).short = c.short-short.ensures ∙ ap (λ (kept : TableLinesOf). kept.short) known.kept_are in
    c.requires.made column within
    (sym (short-at lines.plan lines.table column c.short-short.result.now are within)
    ∙ c.are_all.ensures c.if-are_all.true column (omega (arith, within, length-short lines.plan lines.table c.short-short.result.now are)))

pub put_rows-requires-clause-room : goal.put_rows-requires-clause-room
put_rows-requires-clause-room g c =
    let here = (goal.at.put_rows-requires-clause-room g c).Then-are_all in
    let lines : RunLinesOf = c.args.self.now in
    let known = AreRunLines-view _ lines c.self.inside.lines.now c.self.view_is c.self.invariant in
    let is = rows-lines lines c.args.rows.ordinals.now c.args.pieces.now c.column_count.result (length c.args.rows.ordinals.now) c.column_count.ensures.many refl known.limits.some_column (all_made g here) in
    omega (
      arith,
      c.requires.room,
      ap (λ (text : List ℕ). length text) is,
      made-size lines c.args.rows.ordinals.now c.args.pieces.now known.limits.some_column (all_made g here),
    )

pub returns-then-are_all : goal.returns-then-are_all
returns-then-are_all g c =
    let here = (goal.at.returns-then-are_all g c).Then-are_all in
    let lines : RunLinesOf = c.args.self.now in
    let known = AreRunLines-view _ lines c.self.inside.lines.now c.self.view_is c.self.invariant in
    let is = rows-lines lines c.args.rows.ordinals.now c.args.pieces.now c.column_count.result (length c.args.rows.ordinals.now) c.column_count.ensures.many refl known.limits.some_column (all_made g here) in
    record {
      text = c.put_rows.ensures ∙ ap (λ (text : List ℕ). record { text = c.args.page.now.text ++ text; room = c.args.page.now.room }) is;
      size = made-size lines c.args.rows.ordinals.now c.args.pieces.now known.limits.some_column (all_made g here);
      fields = All-from_get_or (HasSizes lines) c.args.rows.ordinals.now 0 (λ i below. record { each = λ column within. (all_made g here column within).size i below });
      steps = omega arith;
    }

pub put_mixed_line-requires-clause-room : goal.put_mixed_line-requires-clause-room
put_mixed_line-requires-clause-room g c =
    let lines : RunLinesOf = c.args.self.now in
    let ordinals : List ℕ = c.args.rows.ordinals.now in
    let left = room-more c.args.page.now c.loop-row.page (listed_text lines (take c.loop-row.row ordinals)) c.loop-row.row 1 (length ordinals) (max_line (layout_of lines.plan) lines.table)
    c.loop-row.invariant.text c.loop-row.invariant.size (omega arith) c.requires.room in
    omega (arith, left)

pub loop-row-preserved : goal.loop-row-preserved
loop-row-preserved g c =
    let lines : RunLinesOf = c.args.self.now in
    let ordinals : List ℕ = c.args.rows.ordinals.now in
    let row : ℕ = c.loop-row.row in
    let line : List ℕ = line_for lines (get_or ordinals row 0) in
    let more = listed_text-more lines ordinals row (omega arith) in
    record {
      lines = c.turn_to.ensures ∙ ap (of_unit lines) (sym (ap (λ (of : LinesOf). of.born) c.turn_to.ensures));
      text = appended-more c.args.page.now c.loop-row.page c.put_mixed_line.new.page (listed_text lines (take row ordinals)) line (listed_text lines (take (row + 1) ordinals))
          c.loop-row.invariant.text c.put_mixed_line.ensures.text more;
      size = sizes-more (listed_text lines (take row ordinals)) line (listed_text lines (take (row + 1) ordinals)) row 1 (max_line (layout_of lines.plan) lines.table) more c.loop-row.invariant.size
          (omega (arith, c.put_mixed_line.ensures.size));
      fields = All-more (HasSizes lines) ordinals row 0 (omega arith) c.loop-row.invariant.fields c.put_mixed_line.ensures.fields;
      steps = omega (arith, c.loop-row.invariant.steps, c.put_mixed_line.ensures.steps);
    }

pub returns : goal.returns
returns g c =
    let lines : RunLinesOf = c.args.self.now in
    let ordinals : List ℕ = c.args.rows.ordinals.now in
    let all : take c.loop-row.row ordinals ≡ ordinals = take_all c.loop-row.row ordinals (omega arith) in
    let many : c.loop-row.row ≡ length ordinals = omega arith in
    record {
      text = c.loop-row.invariant.text ∙ ap (λ (xs : List ℕ). record { text = c.args.page.now.text ++ listed_text lines xs; room = c.args.page.now.room }) all;
      size = omega (
        arith,
        ap (λ (xs : List ℕ). length (listed_text lines xs)) all,
        c.loop-row.invariant.size,
        ap (λ (n : ℕ). n * max_line (layout_of lines.plan) lines.table) many,
      );
      fields = subst (All (HasSizes lines)) all c.loop-row.invariant.fields;
      steps = omega (arith, c.loop-row.invariant.steps, ap (λ (n : ℕ). n * sum_by (asked_long lines) (range_with_len 0 (length (layout_for lines).columns))) many);
    }
