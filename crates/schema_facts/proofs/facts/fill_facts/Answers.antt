use Rattle.std.proofs.Common.{◌∙◌, arith}
use Rattle.std.proofs.lemmas.List.{length-set}
use Rattle.schema_facts.proofs.FactsLemmas.{one_more}
use Rattle.schema_facts.proofs.facts.fill_facts.Goals as goal
use Rattle.schema_facts.specs.Dictionaries.{project_of}

pub loop-place-preserved : goal.loop-place-preserved
loop-place-preserved c =
    record {
      size = length-set c.loop-place.facts c.loop-place.place c.facts_of.result ∙ c.loop-place.invariant.size;
      filled = one_more (project_of c.args.schema.now c.args.dictionaries.now) c.loop-place.facts c.loop-place.place c.facts_of.result (omega arith) c.loop-place.invariant.filled c.facts_of.ensures;
    }
