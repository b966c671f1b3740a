use Rattle.std.proofs.Common.{◌≡◌, ◌<◌, ◌≤◌, ◌+◌, ◌-◌, ◌*◌, ℕ, drop, length, min, subst, sym, take, arith}
use Rattle.std.specs.List.{concat}
use Rattle.undo_streams.specs.Packages.{Packages, count_of, most_bytes, room_of, text_numbered}
use Rattle.undo_streams.specs.UndoText.{undo_lines_of}
use Rattle.undo_streams.proofs.ListLemmas.{package-last}
use Rattle.undo_streams.proofs.undo_packer.UndoPacker.pack_with.Goals as goal

pub overflow_mul-first : goal.overflow_mul-first
overflow_mul-first c =
    let self = c.self.inside in
    let lines : ℕ = length (undo_lines_of self.rows.now self.unit self.table) in
    let last : c.args.n * self.size + self.size ≤ lines + (self.size - 1) =
    package-last lines self.size c.args.n (subst (λ (p : Packages). c.args.n < count_of p) (sym c.self.view_is) c.requires.number) in
    omega (arith, last, c.self.invariant.few, c.self.invariant.size_limit)

pub overflow_add-lines : goal.overflow_add-lines
overflow_add-lines c =
    let self = c.self.inside in
    let lines : ℕ = length (undo_lines_of self.rows.now self.unit self.table) in
    let last : c.args.n * self.size + self.size ≤ lines + (self.size - 1) =
    package-last lines self.size c.args.n (subst (λ (p : Packages). c.args.n < count_of p) (sym c.self.view_is) c.requires.number) in
    omega (arith, last, c.self.invariant.few, c.self.invariant.size_limit)

pub returns-clause-size : goal.returns-clause-size
returns-clause-size c =
    let self = c.self.inside in
    let plan = self.rows.now in
    let lines = undo_lines_of plan self.unit self.table in
    let first : ℕ = c.args.n * self.size in
    let same : first + self.size - first ≡ self.size = omega arith in
    subst (λ (p : Packages). length (text_numbered p c.args.n) ≤ room_of p) c.self.view_is
    (subst (λ (size : ℕ). length (concat (take size (drop first lines))) ≤ min size (length lines) * most_bytes plan self.table) same c.put_undo.ensures.size)
