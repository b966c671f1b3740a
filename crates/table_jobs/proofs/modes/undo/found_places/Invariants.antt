use Rattle.std.proofs.Common.{◌≡◌, ◌-◌, ℕ, Global, Vec, map}
use Rattle.std.specs.List.{range_with_len}
use Rattle.undo_streams.specs.Places.{places_of}
use Rattle.update_box.specs.TableLists.{table_lists_at}
use Rattle.table_jobs.proofs.modes.undo.found_places.Given as goal

abbrev pub invariant-loop-number : goal.invariant-loop-number
invariant-loop-number g l =
    map (λ (found : Vec ℕ Global). found.items) l.found.items
    ≡ map (λ place. places_of l.job.of.plan place (l.job.of.asked.unit - 1) (table_lists_at l.job.rows place).deleted) (range_with_len l.from l.number)
