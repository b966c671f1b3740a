use Rattle.std.proofs.Common.{◌∙◌, ap, sym, ℕ, List}
use Rattle.schema_plan.specs.Citations.{has_name}
use Rattle.schema_facts.specs.Names.{same_text}
use Rattle.schema_facts.proofs.Lists.{list_any-map}
use Rattle.schema_plan.proofs.cited_names.CitedNames.has.Goals as goal

pub returns : goal.returns
returns c =
    c.is_among.ensures
    ∙ sym (list_any-map (λ (other : List ℕ). same_text other c.args.name.now) (λ name. name.now) c.as_slice.result.now)
    ∙ ap (λ names. has_name names c.args.name.now) c.as_slice.ensures
