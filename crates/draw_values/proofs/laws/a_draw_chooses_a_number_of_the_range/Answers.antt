use Rattle.std.proofs.Common.{ℕ, ◌*◌, pos, ◌+ℤ◌, ap}
use Rattle.std.proofs.Math.Nat.{mod-eq_of_lt}
use Rattle.draw_values.proofs.laws.a_draw_chooses_a_number_of_the_range.Goals as goal

pub returns-clause-each : goal.returns-clause-each
returns-clause-each c = λ lo hi step number below. ap (λ (steps : ℕ). lo +ℤ pos (step * steps)) (mod-eq_of_lt below)
