use Rattle.std.proofs.Common.{◌≡◌, ◌-◌, ◌++◌, reverse}
use Rattle.std.specs.List.{range_with_len}
use Rattle.update_box.specs.Parts.{parts_of}
use Rattle.fill_jobs.proofs.sql.push_backwards.Given as goal

abbrev pub invariant-loop-behind : goal.invariant-loop-behind
invariant-loop-behind l =
    l.parts.items ++ parts_of l.contents (reverse (range_with_len l.places.from (l.places.count - l.behind)))
    ≡ l.initial.parts.items ++ parts_of l.contents (reverse (range_with_len l.places.from l.places.count))
