use Rattle.std.proofs.Common.{◌≡◌, ◌+◌, ◌*◌, ◌-◌, ◌++◌, ◌<◌, ◌≤◌, ℕ, List, get_or, take, drop, length, ap, arith, append-nil, ◌∙◌}
use Rattle.schema_facts.specs.Layout.{layout_of}
use Rattle.schema_facts.specs.TableFacts.{max_line}
use Rattle.row_lines.specs.Runs.{RunLinesOf, line_for, listed_text}
use Rattle.undo_streams.proofs.ListLemmas.{part-one}
use Rattle.undo_streams.proofs.undo_packer.put_row.Goals as goal

one : (lines : RunLinesOf) (ordinals : List ℕ) (i : ℕ) → i < length ordinals → listed_text lines (take (i + 1 - i) (drop i ordinals)) ≡ line_for lines (get_or ordinals i 0)
one lines ordinals i below = ap (listed_text lines) (part-one ordinals i 0 below) ∙ append-nil (line_for lines (get_or ordinals i 0))

pub returns-clause-text : goal.returns-clause-text
returns-clause-text g c =
    c.put_listed.ensures.text
    ∙ ap (λ (text : List ℕ). record { text = c.args.page.now.text ++ text; room = c.args.page.now.room }) (one c.args.before.now c.args.ordinals.now c.args.i c.requires.i)

pub returns-clause-size : goal.returns-clause-size
returns-clause-size g c =
    let most : ℕ = max_line (layout_of c.args.before.now.plan) c.args.before.now.table in
    omega (
      arith,
      ap (λ (text : List ℕ). length text) (one c.args.before.now c.args.ordinals.now c.args.i c.requires.i),
      c.put_listed.ensures.size,
      ap (λ (xs : List ℕ). length xs * most) (part-one c.args.ordinals.now c.args.i 0 c.requires.i),
    )
