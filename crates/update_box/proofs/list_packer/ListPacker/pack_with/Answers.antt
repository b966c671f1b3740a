use Rattle.std.proofs.Common.{◌≤◌, List, ℕ, ap, length, subst, sym, ◌∙◌}
use Rattle.update_box.specs.Packages.{Packages, room_of, text_numbered}
use Rattle.update_box.proofs.PackLemmas.{package-room, package-size, package-text}
use Rattle.update_box.proofs.list_packer.ListPacker.pack_with.Goals as goal

pub returns-clause-text : goal.returns-clause-text
returns-clause-text c =
    let self = c.self.inside in
    c.put_entries.ensures.text
    ∙ ap (λ (text : List ℕ). record { text = text; room = c.args.page.now.room })
    (sym (
    ap (λ (p : Packages). text_numbered p c.args.n) (sym c.self.view_is)
    ∙ package-text self.plan.now self.tables.now self.unit c.args.n self.shares c.package.result.0.now c.package.result.1 c.self.invariant.0 c.package.ensures
    ))

pub returns-clause-size : goal.returns-clause-size
returns-clause-size c =
    let self = c.self.inside in
    subst (λ (p : Packages). length (text_numbered p c.args.n) ≤ room_of p) c.self.view_is
    (package-size self.plan.now self.tables.now self.unit c.args.n self.shares c.package.result.0.now c.package.result.1 c.self.invariant.0 c.package.ensures c.put_entries.ensures.size)

pub put_entries-requires-clause-room : goal.put_entries-requires-clause-room
put_entries-requires-clause-room c =
    let self = c.self.inside in
    package-room self.plan.now self.tables.now self.unit c.args.n c.args.page.now.room self.shares c.package.result.0.now c.package.result.1 c.self.invariant.0 c.package.ensures
    (subst (λ (p : Packages). room_of p ≤ c.args.page.now.room) (sym c.self.view_is) c.requires.room)
