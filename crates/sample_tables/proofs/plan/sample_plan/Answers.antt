use Rattle.std.proofs.Common.{◌≡◌}
use Rattle.schema_check.specs.declared.checker.CheckFault.TheVariants.{Memory}
use Rattle.sample_tables.proofs.AcceptedLemmas.{refused-memory}
use Rattle.sample_tables.proofs.plan.sample_plan.Goals as goal

pub unreachable-requires : goal.unreachable-requires
unreachable-requires c =
    let memory : c.in-Err-Rule.field-0 ≡ Memory =
    refused-memory c.args.size c.requires.some c.requires.limit c.in_ok-schema.schema c.new.result c.in_ok-schema.ensures c.new.ensures c.in-Err-Rule.field-0 c.in-Err-Rule.ensures.refused in
    cc
