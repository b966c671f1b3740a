use Rattle.std.proofs.Common.{◌≡◌, ℕ, Option, Some, subst, sym, true}
use Rattle.std.specs.Prelude.{IfSome}
use Rattle.schema_facts.specs.Dictionaries.{Project}
use Rattle.schema_facts.specs.References.{Reference, reference_at}
use Rattle.life_intervals.specs.Generator.{generator_of, table_of}
use Rattle.life_intervals.specs.Intervals.{held_parent}
use Rattle.life_intervals.specs.Simulation.{holds_row, rows_at}
use Rattle.life_intervals.proofs.HeldParentLemmas.{held_parent-held}
use Rattle.life_intervals.proofs.parents.held_parent.Goals as goal

pub returns-clause-held : goal.returns-clause-held
returns-clause-held g c =
    subst (λ (p : Project). (r : Reference) → reference_at (table_of p c.args.table) c.args.column ≡ Some r → c.held_parent.result ≡ held_parent (generator_of p) c.args.table c.args.t c.args.j r)
    c.of.ensures c.held_parent.ensures.held

pub returns-clause-alive : goal.returns-clause-alive
returns-clause-alive g c = λ reference is held.
    let plan : Project = c.args.plan.now in
    let result : c.held_parent.result ≡ held_parent (generator_of plan) c.args.table c.args.t c.args.j reference =
    subst (λ (p : Project). (r : Reference) → reference_at (table_of p c.args.table) c.args.column ≡ Some r → c.held_parent.result ≡ held_parent (generator_of p) c.args.table c.args.t c.args.j r)
    c.of.ensures c.held_parent.ensures.held reference is in
    subst (λ (found : Option ℕ). IfSome found (λ parent. holds_row (rows_at (generator_of plan) reference.parent c.args.t) parent ≡ true)) (sym result)
    (held_parent-held plan c.schema-sound.ensures.limits c.args.table c.requires.table c.args.column reference is c.args.t c.args.j c.requires.unit held)
