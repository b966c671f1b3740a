use Rattle.std.proofs.Common.{◌≤◌, ℕ, length, ap, refl, ◌∙◌, arith}
use Rattle.std.proofs.Math.Nat.{mul-le-mul_right}
use Rattle.schema_facts.specs.Layout.{layout_of}
use Rattle.schema_facts.specs.TableFacts.{max_line}
use Rattle.row_tests.proofs.line_tests.text_checksum.Goals as goal

pub loop-first-init : goal.loop-first-init
loop-first-init g c = refl

pub put_run-requires-clause-room : goal.put_run-requires-clause-room
put_run-requires-clause-room g c =
    let most : ℕ = max_line (layout_of c.args.lines.now.plan) c.args.lines.now.table in
    let few : c.min-count.result ≤ 100 = omega (arith, c.min-count.ensures) in
    omega (
      arith,
      mul-le-mul_right most few,
      c.requires.room,
      c.loop-first.invariant,
      ap (λ page. page.room) c.clear.ensures,
      ap (λ page. length page.text) c.clear.ensures,
    )

pub loop-first-preserved : goal.loop-first-preserved
loop-first-preserved g c =
    ap (λ page. page.room) c.put_run.ensures.text ∙ ap (λ page. page.room) c.clear.ensures ∙ c.loop-first.invariant
