use Rattle.std.proofs.Common.{ℕ, List, [], ◌∷◌, if◌then◌else◌, length, ap, ◌∙◌, length-append, arith}
use Rattle.philox_seeds.specs.SeedTree.{draw}
use Rattle.draw_values.specs.Runs.{null_behind, run_seed, short_value}
use Rattle.draw_values.specs.Values.{is_null}
use Rattle.draw_values.proofs.RunLemmas.{text-short}
use Rattle.draw_values.proofs.drawn_column.DrawnColumn.fill.Goals as goal

pub returns-clause-text : goal.returns-clause-text
returns-clause-text c = λ i within.
    c.null_out.ensures i (omega (arith, within, c.fill_values.auto.pieces))
    ∙ ap (λ (text : List ℕ). if is_null c.args.own.now.null (draw (run_seed c.args.self.now.seed c.args.own.now.changes c.args.rows i)) then null_behind c.args.self.now.behind else text)
    (c.fill_values.ensures i within)

pub returns-clause-short : goal.returns-clause-short
returns-clause-short c = λ i within.
    let value : List ℕ = short_value c.args.self.now.seed c.args.own.now.changes c.args.own.now.kind c.args.rows i in
    omega (arith, ap (length {A = ℕ}) (c.fill_values.ensures i within), length-append value (c.args.self.now.behind ∷ []), text-short c.fill_values.new.pieces i)
