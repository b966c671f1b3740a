use Rattle.std.proofs.Common.{◌≡◌, ◌<◌, ◌-◌, ◌*◌, ℕ, List, true, ap, arith, drop, sym, take, ◌∙◌}
use Rattle.std.proofs.lemmas.List.Elements.{All-drop, All-take}
use Rattle.cohort_sizes.specs.Births.{born_count}
use Rattle.schema_facts.specs.Dictionaries.{Project}
use Rattle.schema_facts.specs.Layout.{layout_of}
use Rattle.schema_facts.specs.TableFacts.{max_line}
use Rattle.life_intervals.specs.Generator.{generator_of, table_of}
use Rattle.life_intervals.specs.Intervals.{is_live}
use Rattle.life_intervals.specs.Streams.{updated}
use Rattle.row_lines.specs.Runs.{RunLinesOf, listed_text}
use Rattle.update_box.specs.Kept.{lines_at}
use Rattle.update_box.specs.Parts.{range_text}
use Rattle.update_box.specs.declared.parts.Content.TheVariants as content
use Rattle.update_box.specs.UnitLists.{ordinals}
use Rattle.update_box.proofs.EntryLemmas.{range_text-updated}
use Rattle.update_box.proofs.PackLemmas.{few-taken, put-text, text-size}
use Rattle.update_box.proofs.StreamTextLemmas.{listed-born, listed-live}
use Rattle.update_box.proofs.list_packer.put_updated.Goals as goal
use Rattle.update_box.proofs.list_packer.put_updated.Goals.{After-put_listed}

pub put_listed-requires-clause-rows : goal.put_listed-requires-clause-rows
put_listed-requires-clause-rows g c =
    let lines : RunLinesOf = c.args.lines.now in
    let first : ℕ = c.args.entries.first in
    let is_born : ℕ → Type 0 = λ j. j < born_count (table_of lines.plan lines.table).births lines.unit in
    let all = listed-born lines c.args.plan.now c.args.listed.now c.requires.plan c.schema-sound.ensures.limits c.requires.table c.requires.unit c.requires.list in
    λ i below. All-take is_born (c.args.entries.end - first) (drop first c.args.listed.now) (All-drop is_born first c.args.listed.now all) i 0 below

pub put_listed-requires-clause-alive : goal.put_listed-requires-clause-alive
put_listed-requires-clause-alive g c =
    let lines : RunLinesOf = c.args.lines.now in
    let first : ℕ = c.args.entries.first in
    let lives : ℕ → Type 0 = λ j. is_live (generator_of lines.plan) lines.table lines.unit j ≡ true in
    let all = listed-live lines c.args.plan.now c.args.listed.now c.requires.plan c.schema-sound.ensures.limits c.requires.table c.requires.unit c.requires.list in
    λ i below. All-take lives (c.args.entries.end - first) (drop first c.args.listed.now) (All-drop lives first c.args.listed.now all) i 0 below

-- the listed rows' text is that of the entries
lines_are : (g : _) (c : After-put_listed g) →
    listed_text c.args.lines.now (take (c.args.entries.end - c.args.entries.first) (drop c.args.entries.first c.args.listed.now))
    ≡ range_text c.args.plan.now c.args.lines.now.unit c.args.lines.now.table content.Updated c.args.entries.first c.args.entries.end
lines_are g c =
    let lines : RunLinesOf = c.args.lines.now in
    let plan : Project = c.args.plan.now in
    let first : ℕ = c.args.entries.first in
    let size : ℕ = c.args.entries.end - first in
    ap (λ (js : List ℕ). listed_text lines (take size (drop first js))) c.requires.list
    ∙ ap (λ (p : Project). listed_text (lines_at p lines.unit lines.table) (take size (drop first (ordinals (updated (generator_of plan) lines.table lines.unit))))) c.requires.plan
    ∙ sym (range_text-updated plan c.schema-sound.ensures.limits lines.table c.requires.table lines.unit c.requires.unit first c.args.entries.end)

pub returns-clause-text : goal.returns-clause-text
returns-clause-text g c =
    put-text c.args.page.now c.put_listed.new.page _ _ c.requires.empty c.put_listed.ensures.text (lines_are g (goal.at.returns-clause-text g c).After-put_listed)

pub returns-clause-size : goal.returns-clause-size
returns-clause-size g c =
    let first : ℕ = c.args.entries.first in
    let end : ℕ = c.args.entries.end in
    let table : ℕ = c.args.lines.now.table in
    text-size _ _ _ (lines_are g (goal.at.returns-clause-size g c).After-put_listed)
    (omega (
      arith,
      c.put_listed.ensures.size,
      few-taken c.args.listed.now first end (max_line (layout_of c.args.lines.now.plan) table),
      ap (λ (plan : Project). (end - first) * max_line (layout_of plan) table) c.requires.plan,
    ))
