use Rattle.std.proofs.Common.{Some, refl, subst}
use Rattle.std.proofs.lemmas.Bool.{eq-eqb}
use Rattle.schema_facts.specs.Dictionaries.{Project}
use Rattle.update_box.specs.TableLists.{HoldLists}
use Rattle.statement_tests.proofs.statements.lists_of.Goals as goal

pub returns-in-Ok : goal.returns-in-Ok
returns-in-Ok g c =
    let hold : HoldLists c.args.plan.now c.args.unit (Some c.args.table) c.in-Ok.lists =
    subst (λ (plan : Project). HoldLists plan c.args.unit (Some c.args.table) c.in-Ok.lists) c.rows-rows.ensures c.in-Ok.ensures.held in
    hold.each c.args.table c.requires.table (eq-eqb c.args.table c.args.table refl)
