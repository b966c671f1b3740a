use Rattle.std.proofs.Common.{◌≡◌, true, take}
use Rattle.std.specs.List.{list_all}
use Rattle.draw_values.specs.Runs.{is_short_text}
use Rattle.draw_values.proofs.kept.are_short.Given as goal

abbrev pub invariant-loop-i : goal.invariant-loop-i
invariant-loop-i l = list_all is_short_text (take l.i l.texts) ≡ true
