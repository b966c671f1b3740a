use Rattle.std.proofs.Common.{◌+◌, ◌++◌, ℕ, [], ◌∷◌, length, ap, ◌∙◌, arith, length-append}
use Rattle.std.specs.List.{slice_range}
use Rattle.line_pages.specs.Pages.{Page}
use Rattle.row_text.proofs.PieceLemmas.{run_longer, run_fits, last_run_fits, escape_written}
use Rattle.sql_lines.specs.Literals.{quoted}
use Rattle.sql_lines.proofs.ReadingLemmas.{quoted-other, quoted-quote}
use Rattle.sql_lines.proofs.literals.put_quoted.Goals as goal
use Rattle.sql_lines.proofs.literals.put_quoted.Goals.{then-byte-eq-QUOTE, else-byte-eq-QUOTE}

pub put-requires : goal.put-requires
put-requires c =
    omega (
      arith,
      run_fits quoted c.args.bytes.now c.loop-index.start c.loop-index.index c.args.buf.now.room c.args.buf.now.text c.loop-index.buf.text
          c.loop-index-test.true c.loop-index.invariant.text c.requires.room,
      c.loop-index.invariant.room,
    )

pub put-requires-then-byte-eq-QUOTE : goal.put-requires-then-byte-eq-QUOTE
put-requires-then-byte-eq-QUOTE c =
    omega (
      arith,
      run_fits quoted c.args.bytes.now c.loop-index.start c.loop-index.index c.args.buf.now.room c.args.buf.now.text c.loop-index.buf.text
          c.loop-index-test.true c.loop-index.invariant.text c.requires.room,
      c.loop-index.invariant.room,
      ap length (quoted-quote _ c.if-byte-eq-QUOTE.true),
      ap (λ (page : Page). length page.text) c.put.ensures,
      ap (λ (page : Page). page.room) c.put.ensures,
      length-append c.loop-index.buf.text (slice_range c.args.bytes.now c.loop-index.start c.loop-index.index),
    )

pub loop-index-preserved : goal.loop-index-preserved
loop-index-preserved c =
    elim c.if-byte-eq-QUOTE.branch [
      | then-byte-eq-QUOTE w ↦ record {
        order = omega arith;
        text = ap (λ (start : ℕ). c.if-byte-eq-QUOTE.buf.text ++ slice_range c.args.bytes.now start (c.loop-index.index + 1)) w.start-is
            ∙ escape_written quoted c.args.bytes.now c.loop-index.start c.loop-index.index c.args.buf.now.text c.loop-index.buf.text c.if-byte-eq-QUOTE.buf.text (39 ∷ 39 ∷ [])
            c.loop-index-test.true c.loop-index.invariant.text (quoted-quote _ w.if-byte-eq-QUOTE.true)
            (ap (λ (page : Page). page.text) w.buf-is
            ∙ ap (λ (page : Page). page.text) w.put-then-byte-eq-QUOTE.ensures
            ∙ ap (λ (page : Page). page.text ++ 39 ∷ 39 ∷ []) w.put.ensures);
        room = ap (λ (page : Page). page.room) w.buf-is
            ∙ ap (λ (page : Page). page.room) w.put-then-byte-eq-QUOTE.ensures
            ∙ ap (λ (page : Page). page.room) w.put.ensures
            ∙ c.loop-index.invariant.room;
      }
      | else-byte-eq-QUOTE w ↦ record {
        order = omega (arith, c.loop-index.invariant.order, w.start-is);
        text = ap (λ (start : ℕ). c.if-byte-eq-QUOTE.buf.text ++ slice_range c.args.bytes.now start (c.loop-index.index + 1)) w.start-is
            ∙ ap (λ (page : Page). page.text ++ slice_range c.args.bytes.now c.loop-index.start (c.loop-index.index + 1)) w.buf-is
            ∙ run_longer quoted c.args.bytes.now c.loop-index.start c.loop-index.index c.args.buf.now.text c.loop-index.buf.text
            c.loop-index.invariant.order c.loop-index-test.true c.loop-index.invariant.text (quoted-other _ w.if-byte-eq-QUOTE.false);
        room = ap (λ (page : Page). page.room) w.buf-is ∙ c.loop-index.invariant.room;
      }
    ]

pub put-requires-2 : goal.put-requires-2
put-requires-2 c =
    omega (
      arith,
      last_run_fits quoted c.args.bytes.now c.loop-index.start c.loop-index.index c.args.buf.now.room c.args.buf.now.text c.loop-index.buf.text
          c.loop-index.auto.index-end c.loop-index-test.false c.loop-index.invariant.text c.requires.room,
      c.loop-index.invariant.room,
    )
