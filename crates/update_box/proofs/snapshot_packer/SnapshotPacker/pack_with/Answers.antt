use Rattle.std.proofs.Common.{◌≤◌, ◌*◌, ◌-◌, ℕ, List, ap, arith, length, subst, sym, ◌∙◌}
use Rattle.update_box.specs.Packages.{Packages, most_bytes, room_of, text_numbered}
use Rattle.update_box.specs.Parts.{range_text}
use Rattle.update_box.specs.declared.parts.Content.{Content}
use Rattle.update_box.proofs.PackLemmas.{package-room, package-size, package-text, snapshot-found}
use Rattle.update_box.proofs.snapshot_packer.SnapshotPacker.pack_with.Goals as goal

pub returns-clause-text : goal.returns-clause-text
returns-clause-text c =
    let self = c.self.inside in
    let share = c.package.result.0.now in
    let entries = c.package.result.1 in
    let kept = snapshot-found self.plan.now self.unit c.args.n self.shares share entries c.self.invariant.1 c.package.ensures in
    c.put_living.ensures.text
    ∙ ap (λ (text : List ℕ). record { text = text; room = c.args.page.now.room })
    (sym (
    ap (λ (p : Packages). text_numbered p c.args.n) (sym c.self.view_is)
    ∙ package-text self.plan.now self.tables.now self.unit c.args.n self.shares share entries c.self.invariant.0 c.package.ensures
    ∙ ap (λ (told : Content). range_text self.plan.now self.unit share.place told entries.first entries.end) kept.content
    ))

pub returns-clause-size : goal.returns-clause-size
returns-clause-size c =
    let self = c.self.inside in
    let share = c.package.result.0.now in
    let entries = c.package.result.1 in
    let kept = snapshot-found self.plan.now self.unit c.args.n self.shares share entries c.self.invariant.1 c.package.ensures in
    subst (λ (p : Packages). length (text_numbered p c.args.n) ≤ room_of p) c.self.view_is
    (package-size self.plan.now self.tables.now self.unit c.args.n self.shares share entries c.self.invariant.0 c.package.ensures
    (subst (λ (told : Content). length (range_text self.plan.now self.unit share.place told entries.first entries.end) ≤ (entries.end - entries.first) * most_bytes self.plan.now share.place told)
    (sym kept.content) c.put_living.ensures.size))

pub put_living-requires-clause-room : goal.put_living-requires-clause-room
put_living-requires-clause-room c =
    let self = c.self.inside in
    let share = c.package.result.0.now in
    let entries = c.package.result.1 in
    let kept = snapshot-found self.plan.now self.unit c.args.n self.shares share entries c.self.invariant.1 c.package.ensures in
    omega (
      arith,
      package-room self.plan.now self.tables.now self.unit c.args.n c.args.page.now.room self.shares share entries c.self.invariant.0 c.package.ensures
          (subst (λ (p : Packages). room_of p ≤ c.args.page.now.room) (sym c.self.view_is) c.requires.room),
      ap (λ (told : Content). (entries.end - entries.first) * most_bytes self.plan.now share.place told) kept.content,
    )
