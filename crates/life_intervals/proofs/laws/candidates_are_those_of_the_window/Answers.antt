use Rattle.std.proofs.Common.{get_or}
use Rattle.schema_facts.specs.Layout.{table_at}
use Rattle.schema_facts.specs.References.{references_of}
use Rattle.life_intervals.proofs.SoundLemmas.{candidates-rows_at, count_in_window-some}
use Rattle.life_intervals.proofs.laws.candidates_are_those_of_the_window.Goals as goal

pub returns : goal.returns
returns c = record {
  whole =
      λ units generator sound place below unit within some k d in_list.
      candidates-rows_at units generator sound place below unit within some (get_or (references_of (table_at generator.tables place)) k d) ((sound place below).references k d in_list);
  some =
      λ units tables sound place below unit within some k d in_list.
      count_in_window-some units tables place unit within some (get_or (references_of (table_at tables place)) k d) ((sound place below).references k d in_list);
}
