use Rattle.std.proofs.Common.{◌≡◌, ◌≤◌, ◌+◌, ◌-◌, ◌*◌, ℕ, List, length, take, drop, ap, arith, ◌∙◌}
use Rattle.schema_facts.specs.Dictionaries.{Project}
use Rattle.row_lines.proofs.ListLemmas.{part_length}
use Rattle.row_lines.proofs.RunTextLemmas.{appended-more, room-more, sizes-more}
use Rattle.detail_plan.specs.Kept.{Kept}
use Rattle.detail_rows.specs.Packages.{listed_text}
use Rattle.detail_rows.proofs.ParentLemmas.{listed_text-part}
use Rattle.detail_rows.proofs.parent_lines.ParentLines.put_listed.Goals as goal

pub put_run-requires-clause-room : goal.put_run-requires-clause-room
put_run-requires-clause-room g c =
    let plan : Project = c.args.self.now.plan in
    let kept : Kept = c.args.self.now.kept in
    let ordinals : List ℕ = c.args.ordinals.now in
    let done : ℕ = c.loop-done.done in
    let some : ℕ = c.min-some.result in
    let many : length (take (done + some - done) (drop done ordinals)) ≡ some = part_length done some ordinals (omega arith) in
    omega (
      arith,
      ap (λ (n : ℕ). n * kept.reach) many,
      room-more c.args.page.now c.loop-done.page (listed_text plan kept c.args.kind c.args.t (take done ordinals)) done some (length ordinals) kept.reach c.loop-done.invariant.text c.loop-done.invariant.size (omega arith) c.requires.room,
    )

pub loop-done-preserved : goal.loop-done-preserved
loop-done-preserved g c =
    let plan : Project = c.args.self.now.plan in
    let kept : Kept = c.args.self.now.kept in
    let ordinals : List ℕ = c.args.ordinals.now in
    let done : ℕ = c.loop-done.done in
    let some : ℕ = c.min-some.result in
    let within : done + some ≤ length ordinals = omega arith in
    let many : length (take (done + some - done) (drop done ordinals)) ≡ some = part_length done some ordinals within in
    let end : done + (done + some - done) ≡ done + some = omega arith in
    let so_far : List ℕ = listed_text plan kept c.args.kind c.args.t (take done ordinals) in
    let more = listed_text-part plan kept c.args.kind c.args.t ordinals done (done + some - done) ∙ ap (λ (n : ℕ). listed_text plan kept c.args.kind c.args.t (take n ordinals)) end in
    record {
      within = within;
      text = appended-more c.args.page.now c.loop-done.page c.put_run.new.page so_far _ _ c.loop-done.invariant.text c.put_run.ensures.text more;
      size = sizes-more so_far _ _ done some kept.reach more c.loop-done.invariant.size (omega (arith, c.put_run.ensures.size, ap (λ (n : ℕ). n * kept.reach) many));
    }
