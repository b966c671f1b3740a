use Rattle.std.proofs.Common.{◌≡◌, ℕ, Bool, true, false, List, if◌then◌else◌, get_or, refl, ap, ◌∙◌, arith}
use Rattle.philox_seeds.specs.SeedTree.{row_seed, unit_seed}
use Rattle.draw_values.proofs.run_loops.put_run_seeds.Goals as goal

get_or-if : (changes : Bool) (xs ys : List ℕ) (i : ℕ) → get_or (if changes then xs else ys) i 0 ≡ (if changes then get_or xs i 0 else get_or ys i 0)
get_or-if true xs ys i = refl
get_or-if false xs ys i = refl

pub returns : goal.returns
returns c = λ i within.
    let rows = c.args.rows in
    c.put_row_seeds.ensures i (omega (arith, c.put_unit_seeds.auto.seeds))
    ∙ ap (λ (seed : ℕ). row_seed seed (get_or rows.ordinals.now i 0))
    (c.put_unit_seeds.ensures i within
    ∙ ap (unit_seed c.args.column.now) (ap (λ (units : List ℕ). get_or units i 0) c.units_of.ensures ∙ get_or-if c.args.changes rows.changes.now rows.births.now i))
