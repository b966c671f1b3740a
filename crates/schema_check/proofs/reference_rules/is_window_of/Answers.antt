use Rattle.std.proofs.Common.{◌≡◌, ℕ, ◌<◌, ◌||◌, false, List, Option, map, nat_le, sym, ap, ◌∙◌, arith}
use Rattle.std.proofs.lemmas.Bool.Decides.{nat_tests}
use Rattle.schema_model.specs.declared.table.Schema.{Schema}
use Rattle.schema_model.specs.declared.table.Table.{Table}
use Rattle.schema_facts.specs.declared.facts.TableFacts.{TableFacts}
use Rattle.schema_facts.specs.declared.lineage.Lineage.{Lineage}
use Rattle.schema_facts.specs.Layout.{layout_of, place_of_table}
use Rattle.schema_facts.specs.Lineage.{lineage_at, sure_life}
use Rattle.schema_plan.specs.Rules.{is_within_life}
use Rattle.schema_check.proofs.ReferenceLemmas.{sure_life-first}
use Rattle.schema_check.proofs.reference_rules.is_window_of.Goals as goal

pub returns : goal.returns
returns c = λ spread on_delete deal.
    let project = c.args.candidate.now in
    let place = c.place_of_table-parent.result in
    let named : place ≡ place_of_table project.schema.tables c.args.parent.now =
    c.place_of_table-parent.ensures.place
    ∙ ap (λ (tables : List Table). place_of_table tables c.args.parent.now) (c.as_slice.ensures ∙ ap (λ (schema : Schema). schema.tables) c.schema.ensures) in
    let few : place < 64 = c.if-parent-ge-MAX_ITEMS.false in
    let known : c.lineage_at.result.sure_life ≡ sure_life (layout_of project).tables place =
    ap (λ (lineage : Lineage). lineage.sure_life) (c.lineage_at.ensures ∙ ap (λ (facts : List TableFacts). lineage_at (map (λ (fact : TableFacts). fact.lineage) facts) place) c.facts.ensures)
    ∙ sure_life-first project place few in
    let asked : nat_le 64 place ≡ false = grind (arith, nat_tests) in
    c.is_within_life.ensures
    ∙ ap (λ (sure : Option ℕ). is_within_life sure c.args.window) known
    ∙ ap (λ test. test || is_within_life (sure_life (layout_of project).tables place) c.args.window) (sym asked)
    ∙ ap (λ (at : ℕ). nat_le 64 at || is_within_life (sure_life (layout_of project).tables at) c.args.window) named
