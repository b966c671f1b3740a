use Rattle.std.proofs.Common.{◌≡◌, ◌<◌, ◌-◌, ℕ, List, ap, arith, drop, subst, sym, take, ◌∙◌}
use Rattle.std.proofs.lemmas.List.Elements.{All-drop, All-take}
use Rattle.schema_plan.specs.Limits.{IsInLimits}
use Rattle.life_intervals.specs.Generator.{rows_in_all}
use Rattle.row_lines.specs.declared.run_keys.TheConstants.{KEY_LINE}
use Rattle.row_lines.specs.Runs.{keys_text}
use Rattle.update_box.specs.Parts.{range_text}
use Rattle.update_box.specs.declared.parts.Content.TheVariants as content
use Rattle.update_box.proofs.EntryLemmas.{range_text-deleted}
use Rattle.update_box.proofs.PackLemmas.{few-taken, put-text, text-size}
use Rattle.update_box.proofs.StreamTextLemmas.{keys-born}
use Rattle.update_box.proofs.list_packer.put_deleted.Goals as goal
use Rattle.update_box.proofs.list_packer.put_deleted.Goals.{After-put_keys}

pub put_keys-requires-clause-rows : goal.put_keys-requires-clause-rows
put_keys-requires-clause-rows g c =
    let is_born : ℕ → Type 0 = λ j. j < rows_in_all c.args.rows.now c.args.place in
    let first : ℕ = c.args.entries.first in
    let all = keys-born c.args.rows.now (subst IsInLimits c.plan.ensures c.schema-sound.ensures.limits) c.args.place c.requires.table c.args.unit c.requires.unit c.args.listed.now c.requires.list in
    λ i below. All-take is_born (c.args.entries.end - first) (drop first c.args.listed.now) (All-drop is_born first c.args.listed.now all) i 0 below

-- the listed keys' text is that of the entries
keys_are : (g : _) (c : After-put_keys g) →
    keys_text c.args.rows.now c.args.place (take (c.args.entries.end - c.args.entries.first) (drop c.args.entries.first c.args.listed.now))
    ≡ range_text c.args.rows.now c.args.unit c.args.place content.Deleted c.args.entries.first c.args.entries.end
keys_are g c =
    let first : ℕ = c.args.entries.first in
    let size : ℕ = c.args.entries.end - first in
    ap (λ (js : List ℕ). keys_text c.args.rows.now c.args.place (take size (drop first js))) c.requires.list
    ∙ sym (range_text-deleted c.args.rows.now c.args.place c.args.unit first c.args.entries.end)

pub returns-clause-text : goal.returns-clause-text
returns-clause-text g c =
    put-text c.args.page.now c.put_keys.new.page _ _ c.requires.empty c.put_keys.ensures.text (keys_are g (goal.at.returns-clause-text g c).After-put_keys)

pub returns-clause-size : goal.returns-clause-size
returns-clause-size g c =
    text-size _ _ _ (keys_are g (goal.at.returns-clause-size g c).After-put_keys)
    (omega (arith, c.put_keys.ensures.size, few-taken c.args.listed.now c.args.entries.first c.args.entries.end KEY_LINE))
