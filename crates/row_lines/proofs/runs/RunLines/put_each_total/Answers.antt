use Rattle.std.proofs.Common.{◌∷◌, ◌++◌, [], ℕ, get_or, pos, ap, arith, ◌∙◌}
use Rattle.draw_values.specs.Values.{number_text}
use Rattle.row_lines.specs.Runs.{RunLinesOf}
use Rattle.row_lines.proofs.RunTotalLemmas.{made-told}
use Rattle.row_lines.proofs.runs.RunLines.put_each_total.Goals as goal

pub fill_numbers-requires-clause-short : goal.fill_numbers-requires-clause-short
fill_numbers-requires-clause-short g c = λ i inside. c.find_totals.ensures.told.small i (omega (arith, inside, c.find_totals.auto.totals, c.requires.totals))

pub returns-clause-made : goal.returns-clause-made
returns-clause-made g c =
    let lines : RunLinesOf = c.args.self.now in
    made-told lines c.args.rows.ordinals.now c.find_totals.new.live c.find_totals.new.totals c.args.column c.args.behind c.fill_numbers.new.pieces c.put_nulls.new.pieces c.null_piece.result
    c.requires.column c.requires.total (omega (arith, c.decimals-decimals.ensures.digits, c.decimals-decimals.ensures.few)) c.requires.behind c.find_totals.ensures.told
    (λ i inside. c.fill_numbers.ensures i (omega (arith, inside, c.requires.pieces))
    ∙ ap (λ (digits : ℕ). number_text (record { value = get_or c.find_totals.new.totals i (pos 0); decimals = digits }) ++ c.args.behind ∷ []) c.decimals-decimals.ensures.digits)
    c.null_piece.ensures
    (λ i inside. c.put_nulls.ensures i (omega (arith, inside, c.fill_numbers.auto.pieces, c.requires.pieces)))
