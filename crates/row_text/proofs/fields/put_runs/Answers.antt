use Rattle.std.proofs.Common.{◌+◌, ◌++◌, ℕ, [], ◌∷◌, length, ap, ◌∙◌, arith, length-append}
use Rattle.std.specs.List.{slice_range}
use Rattle.line_pages.specs.Pages.{Page}
use Rattle.row_text.specs.Fields.{escaped}
use Rattle.row_text.proofs.PieceLemmas.{run_longer, run_fits, last_run_fits, escape_written}
use Rattle.row_text.proofs.fields.put_runs.Goals as goal
use Rattle.row_text.proofs.fields.put_runs.Goals.{in-Some, in_default}

pub put-requires : goal.put-requires
put-requires c =
    omega (
      arith,
      run_fits (escaped c.args.delimiter) c.args.bytes.now c.loop-index.start c.loop-index.index c.args.buf.now.room c.args.buf.now.text c.loop-index.buf.text
          c.loop-index-test.true c.loop-index.invariant.text c.requires,
      c.loop-index.invariant.room,
    )

pub put-requires-in-Some : goal.put-requires-in-Some
put-requires-in-Some c =
    omega (
      arith,
      run_fits (escaped c.args.delimiter) c.args.bytes.now c.loop-index.start c.loop-index.index c.args.buf.now.room c.args.buf.now.text c.loop-index.buf.text
          c.loop-index-test.true c.loop-index.invariant.text c.requires,
      c.loop-index.invariant.room,
      ap length c.in-Some.ensures.escape,
      ap (λ (page : Page). length page.text) c.put.ensures,
      ap (λ (page : Page). page.room) c.put.ensures,
      length-append c.loop-index.buf.text (slice_range c.args.bytes.now c.loop-index.start c.loop-index.index),
    )

pub loop-index-preserved : goal.loop-index-preserved
loop-index-preserved c =
    elim c.match-letter_of.branch [
      | in-Some w ↦ record {
        order = omega arith;
        text = ap (λ (start : ℕ). c.match-letter_of.buf.text ++ slice_range c.args.bytes.now start (c.loop-index.index + 1)) w.start-is
            ∙ escape_written (escaped c.args.delimiter) c.args.bytes.now c.loop-index.start c.loop-index.index c.args.buf.now.text c.loop-index.buf.text c.match-letter_of.buf.text (92 ∷ w.in-Some.letter ∷ [])
            c.loop-index-test.true c.loop-index.invariant.text w.in-Some.ensures.escape
            (ap (λ (page : Page). page.text) w.buf-is
            ∙ ap (λ (page : Page). page.text) w.put-in-Some.ensures
            ∙ ap (λ (page : Page). page.text ++ 92 ∷ w.in-Some.letter ∷ []) w.put.ensures);
        room = ap (λ (page : Page). page.room) w.buf-is
            ∙ ap (λ (page : Page). page.room) w.put-in-Some.ensures
            ∙ ap (λ (page : Page). page.room) w.put.ensures
            ∙ c.loop-index.invariant.room;
      }
      | in_default w ↦ record {
        order = omega arith;
        text = ap (λ (start : ℕ). c.match-letter_of.buf.text ++ slice_range c.args.bytes.now start (c.loop-index.index + 1)) w.start-is
            ∙ ap (λ (page : Page). page.text ++ slice_range c.args.bytes.now c.loop-index.start (c.loop-index.index + 1)) w.buf-is
            ∙ run_longer (escaped c.args.delimiter) c.args.bytes.now c.loop-index.start c.loop-index.index c.args.buf.now.text c.loop-index.buf.text
            c.loop-index.invariant.order c.loop-index-test.true c.loop-index.invariant.text w.in_default.ensures.itself;
        room = ap (λ (page : Page). page.room) w.buf-is ∙ c.loop-index.invariant.room;
      }
    ]

pub put-requires-2 : goal.put-requires-2
put-requires-2 c =
    omega (
      arith,
      last_run_fits (escaped c.args.delimiter) c.args.bytes.now c.loop-index.start c.loop-index.index c.args.buf.now.room c.args.buf.now.text c.loop-index.buf.text
          c.loop-index.auto.index-end c.loop-index-test.false c.loop-index.invariant.text c.requires,
      c.loop-index.invariant.room,
    )
