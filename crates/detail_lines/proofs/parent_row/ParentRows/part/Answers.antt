use Rattle.std.proofs.Common.{◌≡◌, ◌≤◌, ◌+◌, ◌-◌, ℕ, List, ap, arith, drop, length, sym, take, ◌∙◌}
use Rattle.row_lines.proofs.ListLemmas.{get_or-part, part_length}
use Rattle.detail_lines.proofs.LineListLemmas.{row-both}
use Rattle.detail_lines.proofs.parent_row.ParentRows.part.Goals as goal

-- so many numbers from a place on
many_of : (first end many : ℕ) (xs : List ℕ) → first ≤ end → end ≤ many → length xs ≡ many → length (take (end - first) (drop first xs)) ≡ end - first
many_of first end many xs ordered within same =
    let some : first + (end - first) - first ≡ end - first = omega arith in
    ap (λ (n : ℕ). length (take n (drop first xs))) (sym some) ∙ part_length first (end - first) xs (omega (arith, ordered, within, same))

pub returns-clause-many : goal.returns-clause-many
returns-clause-many c =
    let rows = c.args.self.now in
    record {
      keys = many_of c.args.first c.args.end c.args.many rows.keys.now c.requires.ordered c.requires.within c.requires.many.keys;
      ordinals = many_of c.args.first c.args.end c.args.many rows.ordinals.now c.requires.ordered c.requires.within c.requires.many.ordinals;
      births = many_of c.args.first c.args.end c.args.many rows.births.now c.requires.ordered c.requires.within c.requires.many.births;
      changes = many_of c.args.first c.args.end c.args.many rows.changes.now c.requires.ordered c.requires.within c.requires.many.changes;
    }

pub returns-clause-rows : goal.returns-clause-rows
returns-clause-rows c = λ i inside.
    let rows = c.args.self.now in
    row-both (get_or-part c.args.first (c.args.end - c.args.first) rows.keys.now i 0 inside) (get_or-part c.args.first (c.args.end - c.args.first) rows.ordinals.now i 0 inside)
    (get_or-part c.args.first (c.args.end - c.args.first) rows.births.now i 0 inside) (get_or-part c.args.first (c.args.end - c.args.first) rows.changes.now i 0 inside)
