use Rattle.std.proofs.Common.{refl, ◌∙◌}
use Rattle.schema_read.proofs.wrong_key.wrong_in_branch_members.Goals as goal

pub returns : goal.returns
returns c = c.first_wrong.ensures ∙ rw (c.keys_of_leaf-own.ensures, c.leaf_kind_at.ensures) refl
