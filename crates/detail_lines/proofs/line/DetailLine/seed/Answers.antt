use Rattle.std.proofs.Common.{ap, arith, subst, ◌∙◌}
use Rattle.philox_seeds.specs.SeedTree.{draw}
use Rattle.schema_plan.specs.declared.ready.ReadyColumn.{ReadyColumn}
use Rattle.detail_lines.specs.Made.{IsLineOver, LineOver}
use Rattle.detail_lines.proofs.LineValueLemmas.{seed-draws}
use Rattle.detail_lines.proofs.line.DetailLine.seed.Goals as goal

pub offset_bounds-self-inside-column : goal.offset_bounds-self-inside-column
offset_bounds-self-inside-column c =
    let own = subst (λ (l : LineOver). IsLineOver l c.self.inside.row.now c.self.inside.delimiter c.self.inside.seeds.now c.self.inside.drawn) c.self.view_is c.self.invariant in
    omega (arith, c.requires, own.limits.few_columns)

pub returns-in-Drawn : goal.returns-in-Drawn
returns-in-Drawn c = λ leaf is.
    let line : LineOver = c.args.self.now in
    let own = subst (λ (l : LineOver). IsLineOver l c.self.inside.row.now c.self.inside.delimiter c.self.inside.seeds.now c.self.inside.drawn) c.self.view_is c.self.invariant in
    ap draw c.row_seed.ensures.seed
    ∙ seed-draws line c.self.inside.row.now c.self.inside.delimiter c.self.inside.seeds.now c.self.inside.drawn own c.args.column c.requires

pub returns-in_default : goal.returns-in_default
returns-in_default c = λ leaf is.
    absurd (c.in_default.not-Drawn leaf (ap (λ (ready : ReadyColumn). ready.kind) c.column.ensures ∙ is))
