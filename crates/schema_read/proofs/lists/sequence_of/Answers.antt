use Rattle.std.proofs.Common.{arith, sym, ◌∙◌}
use Rattle.toml.specs.View.{view}
use Rattle.schema_read.proofs.Sequences.{begins, goes_on, stops, ends}
use Rattle.schema_read.proofs.lists.sequence_of.Goals as goal

pub loop-item-init : goal.loop-item-init
loop-item-init g c = rw c.new-sequence.ensures (begins _ _)

pub returns-in-None : goal.returns-in-None
returns-in-None g c =
    stops g.T.Element.read view c.args.items.now c.loop-item.item-index c.loop-item.sequence c.item-item.result (omega arith) c.item-item.is (sym c.in-None.is ∙ c.in_ok-element.ensures) c.loop-item.invariant

pub loop-item-preserved : goal.loop-item-preserved
loop-item-preserved g c =
    rw c.in_ok-push-in-Some.ensures.appended
    (goes_on g.T.Element.read view c.args.items.now c.loop-item.item-index c.loop-item.sequence c.item-item.result c.in-Some.element (omega arith) c.item-item.is (sym c.in-Some.is ∙ c.in_ok-element.ensures) c.loop-item.invariant)

pub returns : goal.returns
returns g c = ends g.T.Element.read view c.args.items.now c.loop-item.item-index c.loop-item.sequence (omega arith) c.loop-item.invariant
