use Rattle.std.proofs.Common.{◌∙◌, List, ℕ, ap, sym, flat_map, take}
use Rattle.std.specs.List.{fold}
use Rattle.schema_plan.specs.Citations.{names_in_leaf, with_name}
use Rattle.schema_plan.proofs.WordListLemmas.{names_in_kind-drawn}
use Rattle.schema_plan.proofs.cited_names.CitedNames.add_column.Goals as goal

pub returns-in_default : goal.returns-in_default
returns-in_default c = λ before first.
    c.add_leaves.ensures before first
    ∙ ap (λ (names : List (List ℕ)). take 64 (fold with_name before names))
    (ap (flat_map names_in_leaf) c.leaves_of.ensures ∙ sym (names_in_kind-drawn c.args.column.now.kind c.in_default.not-List))
