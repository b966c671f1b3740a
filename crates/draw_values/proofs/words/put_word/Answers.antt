use Rattle.std.proofs.Common.{◌++◌, ℕ, [], length, ap, ◌∙◌, arith}
use Rattle.std.specs.Prelude.{slice_index_or}
use Rattle.draw_values.proofs.words.put_word.Goals as goal

pub returns-clause-text : goal.returns-clause-text
returns-clause-text c =
    c.put_entry.ensures.text
    ∙ ap (λ (place : ℕ). record { text = c.args.buf.now.text ++ slice_index_or c.args.words.now.entries place []; room = c.args.buf.now.room }) c.choose.ensures.exact

pub returns-clause-size : goal.returns-clause-size
returns-clause-size c =
    omega (arith, c.put_entry.ensures.size, ap (λ (place : ℕ). length (slice_index_or c.args.words.now.entries place [])) c.choose.ensures.exact)
