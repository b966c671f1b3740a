use Rattle.std.proofs.Common.{◌≡◌, ◌+◌, ◌-◌, ◌*◌, ◌++◌, ◌<◌, ◌≤◌, ℕ, All, List, [], true, length, length-append, length-take, min, take, drop, ap, ap₂, arith, subst, sym, ◌∙◌}
use Rattle.std.proofs.Math.Nat.{mul-le-mul_right}
use Rattle.std.specs.List.{concat, range_with_len}
use Rattle.std.proofs.lemmas.List.Elements.{All-drop, All-take}
use Rattle.line_pages.specs.Pages.{Page}
use Rattle.cohort_sizes.specs.Births.{Births, born_count}
use Rattle.cohort_sizes.proofs.CohortLemmas.{cohort-within}
use Rattle.schema_facts.specs.Dictionaries.{Project}
use Rattle.schema_plan.specs.Limits.{IsInLimits}
use Rattle.life_intervals.specs.Generator.{generator_of, last_unit, table_of}
use Rattle.life_intervals.specs.Intervals.{is_live}
use Rattle.row_lines.specs.Runs.{RunLinesOf}
use Rattle.undo_streams.specs.Packages.{most_bytes}
use Rattle.undo_streams.specs.Parts.{adding_each, dropping_each, setting_each, taken_by}
use Rattle.undo_streams.specs.UndoText.{undo_lines_of}
use Rattle.undo_streams.proofs.ListLemmas.{page-length, page-room, page-two, part}
use Rattle.undo_streams.proofs.UndoLineLemmas.{deleted-born, deleted-live, room-parts, text-lists, updated-born, updated-live}
use Rattle.undo_streams.proofs.undo_packer.put_undo.Goals as goal
use Rattle.undo_streams.proofs.undo_packer.put_undo.Goals.{After-put_adds}

pub put_drops-requires-clause-rows : goal.put_drops-requires-clause-rows
put_drops-requires-clause-rows g c =
    let births : Births = (table_of c.args.rows.now c.args.table).births in
    omega (
      arith,
      c.requires.changes.inserted.first,
      c.requires.changes.inserted.size,
      c.taken-first.ensures.ordered,
      c.taken-first.ensures.within,
      cohort-within births c.args.unit (last_unit c.args.rows.now) c.requires.unit,
    )

pub put_drops-requires-clause-room : goal.put_drops-requires-clause-room
put_drops-requires-clause-room g c =
    let plan : Project = c.args.rows.now in
    let limits : IsInLimits plan = subst IsInLimits c.plan-plan.ensures c.schema-sound.ensures.limits in
    let most : ℕ = most_bytes plan c.args.table in
    omega (
      arith,
      room-parts plan limits c.args.table c.requires.table c.args.unit c.requires.later c.requires.unit c.args.changes.now c.requires.changes c.args.lines.first c.args.lines.end c.args.page.now.room c.requires.ordered c.requires.room,
      ap₂ (λ (first end : ℕ). (end - first) * most) c.taken-first.ensures.first c.taken-first.ensures.end,
      ap (λ (text : List ℕ). length text) c.requires.empty,
    )

-- no more items than asked for
few : (xs : List ℕ) (first end most : ℕ) → length (take (end - first) (drop first xs)) * most ≤ (end - first) * most
few xs first end most =
    let least : length (take (end - first) (drop first xs)) ≤ end - first = omega (arith, length-take (end - first) (drop first xs)) in mul-le-mul_right most least

-- what a line takes at most
alike : (lines of : RunLinesOf) → lines ≡ of → (n : ℕ) → n * most_bytes lines.plan lines.table ≡ n * most_bytes of.plan of.table
alike lines of is n = ap (λ (l : RunLinesOf). n * most_bytes l.plan l.table) is

pub put_sets-requires-clause-born : goal.put_sets-requires-clause-born
put_sets-requires-clause-born g c =
    let plan : Project = c.args.rows.now in
    let limits : IsInLimits plan = subst IsInLimits c.plan-plan.ensures c.schema-sound.ensures.limits in
    let is : ℕ → Type 0 = λ (ordinal : ℕ). ordinal < born_count (table_of c.args.before.now.plan c.args.before.now.table).births c.args.before.now.unit in
    let from : ℕ = c.taken-first-2.result.first in
    All-take is (c.taken-first-2.result.end - from) (drop from c.args.changes.now.updated.now)
    (All-drop is from c.args.changes.now.updated.now (updated-born plan limits c.args.table c.requires.table c.args.unit c.requires.later c.requires.unit c.args.changes.now c.requires.changes c.args.before.now c.requires.before))

pub put_sets-requires-clause-alive : goal.put_sets-requires-clause-alive
put_sets-requires-clause-alive g c =
    let plan : Project = c.args.rows.now in
    let limits : IsInLimits plan = subst IsInLimits c.plan-plan.ensures c.schema-sound.ensures.limits in
    let is : ℕ → Type 0 = λ (ordinal : ℕ). is_live (generator_of c.args.before.now.plan) c.args.before.now.table c.args.before.now.unit ordinal ≡ true in
    let from : ℕ = c.taken-first-2.result.first in
    All-take is (c.taken-first-2.result.end - from) (drop from c.args.changes.now.updated.now)
    (All-drop is from c.args.changes.now.updated.now (updated-live plan limits c.args.table c.requires.table c.args.unit c.requires.later c.requires.unit c.args.changes.now c.requires.changes c.args.before.now c.requires.before))

pub put_adds-requires-clause-born : goal.put_adds-requires-clause-born
put_adds-requires-clause-born g c =
    let plan : Project = c.args.rows.now in
    let limits : IsInLimits plan = subst IsInLimits c.plan-plan.ensures c.schema-sound.ensures.limits in
    let is : ℕ → Type 0 = λ (ordinal : ℕ). ordinal < born_count (table_of c.args.before.now.plan c.args.before.now.table).births c.args.before.now.unit in
    let from : ℕ = c.taken-first-3.result.first in
    All-take is (c.taken-first-3.result.end - from) (drop from c.args.changes.now.deleted.now)
    (All-drop is from c.args.changes.now.deleted.now (deleted-born plan limits c.args.table c.requires.table c.args.unit c.requires.later c.requires.unit c.args.changes.now c.requires.changes c.args.before.now c.requires.before))

pub put_adds-requires-clause-alive : goal.put_adds-requires-clause-alive
put_adds-requires-clause-alive g c =
    let plan : Project = c.args.rows.now in
    let limits : IsInLimits plan = subst IsInLimits c.plan-plan.ensures c.schema-sound.ensures.limits in
    let is : ℕ → Type 0 = λ (ordinal : ℕ). is_live (generator_of c.args.before.now.plan) c.args.before.now.table c.args.before.now.unit ordinal ≡ true in
    let from : ℕ = c.taken-first-3.result.first in
    All-take is (c.taken-first-3.result.end - from) (drop from c.args.changes.now.deleted.now)
    (All-drop is from c.args.changes.now.deleted.now (deleted-live plan limits c.args.table c.requires.table c.args.unit c.requires.later c.requires.unit c.args.changes.now c.requires.changes c.args.before.now c.requires.before))

pub put_sets-requires-clause-room : goal.put_sets-requires-clause-room
put_sets-requires-clause-room g c =
    let plan : Project = c.args.rows.now in
    let limits : IsInLimits plan = subst IsInLimits c.plan-plan.ensures c.schema-sound.ensures.limits in
    let most : ℕ = most_bytes plan c.args.table in
    let from : ℕ = c.taken-first-2.result.first in
    let listed : List ℕ = take (c.taken-first-2.result.end - from) (drop from c.args.changes.now.updated.now) in
    omega (
      arith,
      room-parts plan limits c.args.table c.requires.table c.args.unit c.requires.later c.requires.unit c.args.changes.now c.requires.changes c.args.lines.first c.args.lines.end c.args.page.now.room c.requires.ordered c.requires.room,
      ap₂ (λ (first end : ℕ). (end - first) * most) c.taken-first.ensures.first c.taken-first.ensures.end,
      ap₂ (λ (first end : ℕ). (end - first) * most) c.taken-first-2.ensures.first c.taken-first-2.ensures.end,
      ap (λ (text : List ℕ). length text) c.requires.empty,
      page-length c.args.page.now c.put_drops.new.page _ c.put_drops.ensures.text,
      page-room c.args.page.now c.put_drops.new.page _ c.put_drops.ensures.text,
      c.put_drops.ensures.size,
      few c.args.changes.now.updated.now from c.taken-first-2.result.end most,
      alike c.args.before.now _ c.requires.before (length listed),
    )

pub put_adds-requires-clause-room : goal.put_adds-requires-clause-room
put_adds-requires-clause-room g c =
    let plan : Project = c.args.rows.now in
    let limits : IsInLimits plan = subst IsInLimits c.plan-plan.ensures c.schema-sound.ensures.limits in
    let most : ℕ = most_bytes plan c.args.table in
    let set_from : ℕ = c.taken-first-2.result.first in
    let set_rows : List ℕ = take (c.taken-first-2.result.end - set_from) (drop set_from c.args.changes.now.updated.now) in
    let from : ℕ = c.taken-first-3.result.first in
    let listed : List ℕ = take (c.taken-first-3.result.end - from) (drop from c.args.changes.now.deleted.now) in
    omega (
      arith,
      room-parts plan limits c.args.table c.requires.table c.args.unit c.requires.later c.requires.unit c.args.changes.now c.requires.changes c.args.lines.first c.args.lines.end c.args.page.now.room c.requires.ordered c.requires.room,
      ap₂ (λ (first end : ℕ). (end - first) * most) c.taken-first.ensures.first c.taken-first.ensures.end,
      ap₂ (λ (first end : ℕ). (end - first) * most) c.taken-first-2.ensures.first c.taken-first-2.ensures.end,
      ap₂ (λ (first end : ℕ). (end - first) * most) c.taken-first-3.ensures.first c.taken-first-3.ensures.end,
      ap (λ (text : List ℕ). length text) c.requires.empty,
      page-length c.args.page.now c.put_drops.new.page _ c.put_drops.ensures.text,
      page-room c.args.page.now c.put_drops.new.page _ c.put_drops.ensures.text,
      page-length c.put_drops.new.page c.put_sets.new.page _ c.put_sets.ensures.text,
      page-room c.put_drops.new.page c.put_sets.new.page _ c.put_sets.ensures.text,
      c.put_drops.ensures.size,
      c.put_sets.ensures.size,
      few c.args.changes.now.updated.now set_from c.taken-first-2.result.end most,
      alike c.args.before.now _ c.requires.before (length set_rows),
      few c.args.changes.now.deleted.now from c.taken-first-3.result.end most,
      alike c.args.before.now _ c.requires.before (length listed),
    )

-- the texts of the three parts are that of the lines
parts_are : (g : _) (c : After-put_adds g) →
    (dropping_each c.args.rows.now c.args.table (range_with_len (c.args.changes.now.inserted.first + c.taken-first.result.first) (c.taken-first.result.end - c.taken-first.result.first))
    ++ setting_each c.args.before.now (part c.args.changes.now.updated.now c.taken-first-2.result.first c.taken-first-2.result.end))
    ++ adding_each c.args.before.now (part c.args.changes.now.deleted.now c.taken-first-3.result.first c.taken-first-3.result.end)
    (part c.args.changes.now.places.now c.taken-first-3.result.first c.taken-first-3.result.end)
    ≡ concat (part (undo_lines_of c.args.rows.now c.args.unit c.args.table) c.args.lines.first c.args.lines.end)
parts_are g c =
    let plan : Project = c.args.rows.now in
    let limits : IsInLimits plan = subst IsInLimits c.plan-plan.ensures c.schema-sound.ensures.limits in
    let lines : RunLinesOf = c.args.before.now in
    let changes = c.args.changes.now in
    let drops : ℕ → ℕ → List ℕ = λ first end. dropping_each plan c.args.table (range_with_len (changes.inserted.first + first) (end - first)) in
    let sets : ℕ → ℕ → List ℕ = λ first end. setting_each lines (part changes.updated.now first end) in
    let adds : ℕ → ℕ → List ℕ = λ first end. adding_each lines (part changes.deleted.now first end) (part changes.places.now first end) in
    ap₂ (λ (x y : List ℕ). x ++ y)
    (ap₂ (λ (x y : List ℕ). x ++ y) (ap₂ drops c.taken-first.ensures.first c.taken-first.ensures.end) (ap₂ sets c.taken-first-2.ensures.first c.taken-first-2.ensures.end))
    (ap₂ adds c.taken-first-3.ensures.first c.taken-first-3.ensures.end)
    ∙ text-lists plan limits c.args.table c.requires.table c.args.unit c.requires.later c.requires.unit c.args.changes.now c.requires.changes lines c.requires.before c.args.lines.first c.args.lines.end c.requires.ordered

pub returns-clause-text : goal.returns-clause-text
returns-clause-text g c =
    let two = page-two c.args.page.now c.put_drops.new.page c.put_sets.new.page _ _ c.put_drops.ensures.text c.put_sets.ensures.text in
    let three = page-two c.args.page.now c.put_sets.new.page c.put_adds.new.page _ _ two c.put_adds.ensures.text in
    three
    ∙ ap₂ (λ (front back : List ℕ). record { text = front ++ back; room = c.args.page.now.room }) c.requires.empty (parts_are g (goal.at.returns-clause-text g c).After-put_adds)

pub returns-clause-size : goal.returns-clause-size
returns-clause-size g c =
    let plan : Project = c.args.rows.now in
    let limits : IsInLimits plan = subst IsInLimits c.plan-plan.ensures c.schema-sound.ensures.limits in
    let changes = c.args.changes.now in
    let most : ℕ = most_bytes plan c.args.table in
    let first_set : ℕ = c.taken-first-2.result.first in
    let first_added : ℕ = c.taken-first-3.result.first in
    let set_rows : List ℕ = part changes.updated.now first_set c.taken-first-2.result.end in
    let added_rows : List ℕ = part changes.deleted.now first_added c.taken-first-3.result.end in
    let drops : List ℕ = dropping_each plan c.args.table (range_with_len (changes.inserted.first + c.taken-first.result.first) (c.taken-first.result.end - c.taken-first.result.first)) in
    let sets : List ℕ = setting_each c.args.before.now set_rows in
    let adds : List ℕ = adding_each c.args.before.now added_rows (part changes.places.now first_added c.taken-first-3.result.end) in
    omega (
      arith,
      room-parts plan limits c.args.table c.requires.table c.args.unit c.requires.later c.requires.unit changes c.requires.changes c.args.lines.first c.args.lines.end
          (min (c.args.lines.end - c.args.lines.first) (length (undo_lines_of plan c.args.unit c.args.table)) * most) c.requires.ordered (omega arith),
      ap₂ (λ (first end : ℕ). (end - first) * most) c.taken-first.ensures.first c.taken-first.ensures.end,
      ap₂ (λ (first end : ℕ). (end - first) * most) c.taken-first-2.ensures.first c.taken-first-2.ensures.end,
      ap₂ (λ (first end : ℕ). (end - first) * most) c.taken-first-3.ensures.first c.taken-first-3.ensures.end,
      c.put_drops.ensures.size,
      c.put_sets.ensures.size,
      c.put_adds.ensures.size,
      few changes.updated.now first_set c.taken-first-2.result.end most,
      alike c.args.before.now _ c.requires.before (length set_rows),
      few changes.deleted.now first_added c.taken-first-3.result.end most,
      alike c.args.before.now _ c.requires.before (length added_rows),
      length-append (drops ++ sets) adds,
      length-append drops sets,
      ap (λ (text : List ℕ). length text) (parts_are g (goal.at.returns-clause-size g c).After-put_adds),
    )
