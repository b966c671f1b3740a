use Rattle.row_lines.specs.Runs.{RunLinesOf, layout_for}
use Rattle.row_lines.proofs.CohortFieldLemmas.{key_never_null}
use Rattle.row_lines.proofs.RunPieceLemmas.{AreRunLines-view, keys-short, made-keys}
use Rattle.row_lines.proofs.runs.RunLines.put_own_keys.Goals as goal

pub fill-requires-clause-numbers : goal.fill-requires-clause-numbers
fill-requires-clause-numbers c =
    let lines : RunLinesOf = c.args.self.now in
    let known = AreRunLines-view _ lines c.self.inside.lines.now c.self.view_is c.self.invariant in
    keys-short lines.plan lines.table lines.unit c.args.rows.ordinals.now c.args.rows.births.now c.args.keys.now known.unit c.requires.rows.living.run
    c.requires.keys.same_length c.requires.keys.each c.requires.short

pub returns : goal.returns
returns c =
    let lines : RunLinesOf = c.args.self.now in
    let known = AreRunLines-view _ lines c.self.inside.lines.now c.self.view_is c.self.invariant in
    made-keys lines c.args.rows.ordinals.now c.args.rows.births.now c.args.keys.now c.args.column c.args.behind c.fill.new.pieces known.unit known.limits c.requires.rows.living.run c.requires.keys
    c.requires.short c.requires.key
    (key_never_null (layout_for lines).columns c.args.column known.limits.key_never_null known.limits.no_other_key c.requires.column c.requires.key) c.requires.behind c.fill.ensures
