use Rattle.life_intervals.proofs.ChildLemmas.{child_block-ends, child_block-over, children-blocks}
use Rattle.life_intervals.proofs.laws.blocks_have_the_children.Goals as goal

pub returns : goal.returns
returns c = record { children = children-blocks; ends = child_block-ends; over = child_block-over }
