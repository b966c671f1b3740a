use Rattle.std.proofs.Common.{map, ap, sym, ◌∙◌, []}
use Rattle.std.specs.Option.{option_map}
use Rattle.std.proofs.lemmas.Option.{get_or_from_slice_get, slice_get-map}
use Rattle.schema_model.specs.declared.table.Table.{Table}
use Rattle.run_jobs.proofs.names.name_of.Goals as goal

pub returns : goal.returns
returns c =
    c.as_str.ensures.value
    ∙ sym (get_or_from_slice_get (map (λ (table : Table). table.name) c.args.plan.now.schema.tables) c.args.table _ []
    (slice_get-map (λ (table : Table). table.name) c.args.plan.now.schema.tables c.args.table ∙ ap (option_map (λ (table : Table). table.name)) c.table.ensures.found))
