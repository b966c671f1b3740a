-- Whether hints are shown.
use Rattle.std.specs.Prelude.{ℕ, Bool, List, codes, if◌then◌else◌}
use Rattle.std.specs.Str.{bytes_eq}
use Rattle.hints.specs.declared.shown.Setting.{Setting}
use Rattle.hints.specs.declared.shown.Setting.TheVariants.{Shown, Hidden, OnTerminal}

-- what a value of the variable says: 1 shows hints, 0 hides them, and any other leaves them to terminals
abbrev pub setting_named : List ℕ → Setting
setting_named value = if bytes_eq value (codes "1") then Shown else (if bytes_eq value (codes "0") then Hidden else OnTerminal)

-- whether a setting shows hints, where the standard error is a terminal or isn't
abbrev pub shows : Setting → Bool → Bool
shows Shown is_terminal = Bool.true
shows Hidden is_terminal = Bool.false
shows OnTerminal is_terminal = is_terminal
