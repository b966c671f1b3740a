-- Rows that are kept in a map.
use Rattle.std.proofs.Common.{◌≡◌, ℕ, Bool, true, false, Option, cond, refl, ap, option_map, ◌∙◌}
use Rattle.std.specs.Prelude.{if◌then◌else◌}
use Rattle.std.proofs.Math.Path.{fun_ext}
use Rattle.row_keeper.specs.Kept.{with_row}
use Rattle.row_keeper.specs.MapKeeper.{row_of, same_key}
use Rattle.row_keeper.specs.declared.map_keeper.Kept.{Kept}

chosen : (here : Bool) (row other : Option Kept) → option_map row_of (cond here row other) ≡ (if here then option_map row_of row else option_map row_of other)
chosen true row other = refl
chosen false row other = refl

-- what is put under a key stands there, and all else stays
pub rows-updated : (now before : ℕ × ℕ → Option Kept) (table key : ℕ) (row : Option Kept) → ((q : ℕ × ℕ) → now q ≡ cond (same_key (table, key) q) row (before q)) →
    (λ (t : ℕ) (k : ℕ). option_map row_of (now (t, k))) ≡ with_row table key (option_map row_of row) (λ (t : ℕ) (k : ℕ). option_map row_of (before (t, k)))
rows-updated now before table key row updates =
    fun_ext (λ (t : ℕ). fun_ext (λ (k : ℕ). ap (option_map row_of) (updates (t, k)) ∙ chosen (same_key (table, key) (t, k)) row (before (t, k))))
