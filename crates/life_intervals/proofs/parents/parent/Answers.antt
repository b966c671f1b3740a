use Rattle.std.proofs.Common.{◌≡◌, ℕ, Some, ap, subst, ◌∙◌}
use Rattle.schema_facts.specs.Dictionaries.{Project}
use Rattle.schema_facts.specs.References.{Reference, reference_at}
use Rattle.life_intervals.specs.Generator.{generator_of, last_unit, table_of}
use Rattle.life_intervals.specs.Intervals.{parent_of}
use Rattle.life_intervals.specs.Simulation.{holds_row, rows_at}
use Rattle.life_intervals.proofs.HeldParentLemmas.{parent-held}
use Rattle.life_intervals.proofs.parents.parent.Goals as goal

pub returns-clause-parent : goal.returns-clause-parent
returns-clause-parent g c =
    subst (λ (p : Project). (reference : Reference) → reference_at (table_of p c.args.table) c.args.column ≡ Some reference → c.parent.result ≡ parent_of (generator_of p) c.args.table (last_unit p) c.args.j reference)
    c.of.ensures c.parent.ensures.parent

pub returns-clause-held : goal.returns-clause-held
returns-clause-held g c = λ reference is takes_along t within held.
    let plan : Project = c.args.plan.now in
    let parent : c.parent.result ≡ parent_of (generator_of plan) c.args.table (last_unit plan) c.args.j reference =
    subst (λ (p : Project). (r : Reference) → reference_at (table_of p c.args.table) c.args.column ≡ Some r → c.parent.result ≡ parent_of (generator_of p) c.args.table (last_unit p) c.args.j r)
    c.of.ensures c.parent.ensures.parent reference is in
    ap (λ (p : ℕ). holds_row (rows_at (generator_of plan) reference.parent t) p) parent
    ∙ parent-held plan c.schema-sound.ensures.limits c.args.table c.requires.table c.args.column reference is takes_along t c.args.j within held
