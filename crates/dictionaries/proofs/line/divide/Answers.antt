use Rattle.std.proofs.Common.{◌≡◌, Some, Bool, lit<, length, ap, if◌then◌else◌}
use Rattle.std.specs.List.{after_first, position_or_len}
use Rattle.dictionaries.specs.Grammar.{is_tab, weight_named}
use Rattle.dictionaries.proofs.LineLemmas.{list_any-from_position}
use Rattle.dictionaries.proofs.line.divide.Goals as goal

pub returns-in-None-clause-weight : goal.returns-in-None-clause-weight
returns-in-None-clause-weight c =
    let line = c.args.line.now in
    let no_tab : position_or_len is_tab line ≡ length line = c.in-None.ensures.byte (lit< tt) (λ w o found. found) in
    ap (λ (tab : Bool). if tab then weight_named (after_first is_tab line) else Some 1) (list_any-from_position is_tab line no_tab)
