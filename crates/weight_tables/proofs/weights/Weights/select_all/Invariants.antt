use Rattle.std.proofs.Common.{◌≡◌, ◌++◌, map, take, drop}
use Rattle.weight_tables.specs.Weights.{selected}
use Rattle.weight_tables.proofs.weights.Weights.select_all.Given as goal

abbrev pub invariant-loop-searched : goal.invariant-loop-searched
invariant-loop-searched l =
    l.numbers ≡ map (selected l.self) (take l.searched-index l.initial.numbers) ++ drop l.searched-index l.initial.numbers

abbrev pub invariant-loop-tabled : goal.invariant-loop-tabled
invariant-loop-tabled l =
    l.numbers ≡ map (selected l.self) (take l.tabled-index l.initial.numbers) ++ drop l.tabled-index l.initial.numbers
