use Rattle.std.proofs.Common.{◌≡◌, ◌<◌, ◌≤◌, ◌+◌, ◌-◌, ◌*◌, ℕ, ap, arith, length, min, subst}
use Rattle.std.proofs.Math.Nat.{add-mul, mul-le-mul_right}
use Rattle.detail_rows.proofs.PackageLemmas.{package-begins}
use Rattle.detail_rows.specs.Packages.{Packages, count_of, package_count, range_text, room_of, rows_in, text_numbered}
use Rattle.detail_rows.proofs.packer.DetailPacker.put_package.Goals as goal
use Rattle.detail_rows.proofs.packer.DetailPacker.put_package.Goals.{After-self}

-- the package begins before the end of the rows
begins : (g : _) (c : After-self g) → c.args.n * c.self.inside.size < c.self.inside.many
begins g c =
    package-begins c.args.n c.self.inside.many c.self.inside.size c.self.invariant.can.some_row
    (omega (arith, c.requires.number, ap count_of c.self.view_is, ap (package_count c.self.inside.size) c.self.invariant.many_are))

pub overflow_mul-first : goal.overflow_mul-first
overflow_mul-first g c = omega (arith, begins g (goal.at.overflow_mul-first g c).After-self, c.self.invariant.few_rows)

pub overflow_add-first : goal.overflow_add-first
overflow_add-first g c = omega (arith, begins g (goal.at.overflow_add-first g c).After-self, c.self.invariant.few_rows, c.self.invariant.can.size_limit)

pub put_range-requires-clause-room : goal.put_range-requires-clause-room
put_range-requires-clause-room g c =
    let self = c.self.inside in
    let few : c.min-end.result - c.args.n * self.size ≤ min self.size self.many = omega (arith, begins g (goal.at.put_range-requires-clause-room g c).After-self) in
    omega (
      arith,
      mul-le-mul_right (self.lines.kept.reach) few,
      ap (λ (many : ℕ). min self.size many * self.lines.kept.reach) c.self.invariant.many_are,
      ap room_of c.self.view_is,
      c.requires.room,
    )

pub returns-clause-size : goal.returns-clause-size
returns-clause-size g c =
    let self = c.self.inside in
    let plan = self.lines.plan in
    let kept = self.lines.kept in
    let first : ℕ = c.args.n * self.size in
    let few : c.min-end.result - first ≤ min self.size self.many = omega (arith, begins g (goal.at.returns-clause-size g c).After-self) in
    let end : c.min-end.result ≡ min (rows_in plan kept self.told) ((c.args.n + 1) * self.size) = omega (arith, c.self.invariant.many_are, add-mul c.args.n 1 self.size) in
    subst (λ (p : Packages). length (text_numbered p c.args.n) ≤ room_of p) c.self.view_is
    (subst (λ (last : ℕ). length (range_text plan kept self.told first last) ≤ min self.size (rows_in plan kept self.told) * kept.reach) end
    (omega (
      arith,
      c.put_range.ensures.size,
      mul-le-mul_right kept.reach few,
      ap (λ (many : ℕ). min self.size many * kept.reach) c.self.invariant.many_are,
    )))
