use Rattle.std.proofs.Common.{◌∙◌, ap, map}
use Rattle.schema_facts.specs.declared.facts.TableFacts.{TableFacts}
use Rattle.schema_facts.specs.Capped.{capped_lineage}
use Rattle.schema_facts.proofs.LineageLemmas.{loss_added, no_parent, parent_added}
use Rattle.schema_facts.proofs.lineage.with_kind.Goals as goal

pub returns-in-Cascade : goal.returns-in-Cascade
returns-in-Cascade c = λ dictionaries given before columns premise own.
    parent_added given (map (λ (facts : TableFacts). facts.lineage) c.args.earlier.now) before c.args.own c.lineage_at-parent.result c.with_parent.result dictionaries c.args.tables.now columns c.args.kind.now c.in-Ref.table c.in-Ref.window _ c.in-Ref.on_delete c.in-Ref.deal c.is_drawn_deal-drawn.result c.place_of_table.result
    c.in-Ref.is c.is_drawn_deal-drawn.ensures c.in-Cascade.is premise own c.place_of_table.ensures.place c.lineage_at-parent.ensures c.with_parent.ensures

pub returns-in-Null : goal.returns-in-Null
returns-in-Null c = λ dictionaries given before columns premise own.
    loss_added given (map (λ (facts : TableFacts). facts.lineage) c.args.earlier.now) before c.args.own c.lineage_at-parent.result c.with_loss.result dictionaries c.args.tables.now columns c.args.kind.now c.in-Ref.table c.in-Ref.window _ c.in-Ref.on_delete c.in-Ref.deal c.is_drawn_deal-drawn.result c.place_of_table.result
    c.in-Ref.is c.is_drawn_deal-drawn.ensures c.in-Null.is premise own c.place_of_table.ensures.place c.lineage_at-parent.ensures c.with_loss.ensures

pub returns-in_default : goal.returns-in_default
returns-in_default c = λ dictionaries given before columns premise own.
    own ∙ ap capped_lineage (no_parent given before dictionaries c.args.tables.now columns c.args.kind.now c.in_default.not-Ref)
