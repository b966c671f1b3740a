use Rattle.std.proofs.Common.{◌≡◌, ◌<◌, ◌+◌, List, ℕ, drop, get_or, inl, inr, length, length-append, ap, sym, ◌∙◌, arith}
use Rattle.std.proofs.lemmas.Bool.{cases_lt}
use Rattle.line_pages.specs.Pages.{Page}
use Rattle.sql_lines.specs.Frames.{FrameOf, FramedColumn, behind_framed, field_framed, framed, stop_before}
use Rattle.sql_lines.specs.Reading.{field_behind}
use Rattle.sql_lines.proofs.FramedLemmas.{behind_framed-next, framed-next, framed-put, stop-last, stop-other}
use Rattle.sql_lines.proofs.frame.Frame.put_fields.Goals as goal
use Rattle.sql_lines.proofs.frame.Frame.put_fields.Goals.{then-number-len, else-number-len}

pub put_field-at-requires-clause-room : goal.put_field-at-requires-clause-room
put_field-at-requires-clause-room c =
    let columns : List FramedColumn = c.args.self.now.columns in
    let number : ℕ = c.loop-number.number in
    let bytes : List ℕ = drop c.loop-number.at c.args.lines.now in
    let items_are : c.deref-column-items.result.now ≡ columns = c.deref-column-items.ensures.value ∙ ap (λ (f : FrameOf). f.columns) c.self.view_is in
    let count_is : c.len.result ≡ length columns = c.len.ensures ∙ sym c.deref-column-items.ensures.len ∙ ap (λ (xs : List FramedColumn). length xs) items_are in
    let below : number < length columns = omega (arith, c.loop-number-test.true, ap (λ (xs : List FramedColumn). length xs) items_are) in
    let column_is : c.column-item.result ≡ get_or columns number c.column-item.result =
    c.column-item.is ∙ ap (λ (xs : List FramedColumn). get_or xs number c.column-item.result) items_are in
    let stop_is : c.if-number-len.stop ≡ stop_before c.args.delimiter (drop (number + 1) columns) = elim c.if-number-len.branch [
      | then-number-len w ↦ w.stop-is ∙ sym (stop-last c.args.delimiter columns number (w.if-number-len.true ∙ count_is))
      | else-number-len w ↦ w.stop-is ∙ sym (stop-other c.args.delimiter columns number c.column-item.result below (λ same. w.if-number-len.false (same ∙ sym count_is)))
    ] in
    let rest : List ℕ = framed c.args.delimiter (drop (number + 1) columns) (field_behind c.if-number-len.stop bytes) in
    omega (
      arith,
      c.requires.room,
      c.loop-number.invariant.room,
      ap length c.loop-number.invariant.text,
      ap length (framed-next c.args.delimiter columns number c.column-item.result c.if-number-len.stop below column_is stop_is bytes),
      length-append (field_framed c.column-item.result c.if-number-len.stop bytes) rest,
      length-append c.loop-number.page.text (framed c.args.delimiter (drop number columns) bytes),
      length-append c.args.page.now.text (framed c.args.delimiter columns (drop c.args.at c.args.lines.now)),
    )

pub loop-number-preserved : goal.loop-number-preserved
loop-number-preserved c =
    let columns : List FramedColumn = c.args.self.now.columns in
    let number : ℕ = c.loop-number.number in
    let bytes : List ℕ = drop c.loop-number.at c.args.lines.now in
    let items_are : c.deref-column-items.result.now ≡ columns = c.deref-column-items.ensures.value ∙ ap (λ (f : FrameOf). f.columns) c.self.view_is in
    let count_is : c.len.result ≡ length columns = c.len.ensures ∙ sym c.deref-column-items.ensures.len ∙ ap (λ (xs : List FramedColumn). length xs) items_are in
    let below : number < length columns = omega (arith, c.loop-number-test.true, ap (λ (xs : List FramedColumn). length xs) items_are) in
    let column_is : c.column-item.result ≡ get_or columns number c.column-item.result =
    c.column-item.is ∙ ap (λ (xs : List FramedColumn). get_or xs number c.column-item.result) items_are in
    let stop_is : c.if-number-len.stop ≡ stop_before c.args.delimiter (drop (number + 1) columns) = elim c.if-number-len.branch [
      | then-number-len w ↦ w.stop-is ∙ sym (stop-last c.args.delimiter columns number (w.if-number-len.true ∙ count_is))
      | else-number-len w ↦ w.stop-is ∙ sym (stop-other c.args.delimiter columns number c.column-item.result below (λ same. w.if-number-len.false (same ∙ sym count_is)))
    ] in
    record {
      within = c.put_field-at.ensures.within;
      order = omega (arith, c.loop-number.invariant.order, c.put_field-at.ensures.order);
      further = λ some inside. elim (cases_lt c.loop-number.at (length c.args.lines.now)) [
        | inl here ↦ omega (arith, c.loop-number.invariant.order, c.put_field-at.ensures.further here)
        | inr past ↦ omega (arith, past, inside, c.put_field-at.ensures.order)
      ];
      text = framed-put c.args.delimiter columns number c.column-item.result c.if-number-len.stop below column_is stop_is c.args.page.now c.loop-number.page c.put_field-at.new.page bytes _ _
          c.loop-number.invariant.text c.put_field-at.ensures.text c.put_field-at.ensures.rest;
      room = ap (λ (page : Page). page.room) c.put_field-at.ensures.text ∙ c.loop-number.invariant.room;
      rest = ap (behind_framed c.args.delimiter (drop (number + 1) columns)) c.put_field-at.ensures.rest
          ∙ sym (behind_framed-next c.args.delimiter columns number c.column-item.result c.if-number-len.stop below column_is stop_is bytes)
          ∙ c.loop-number.invariant.rest;
    }
