use Rattle.std.proofs.Common.{◌≡◌, ◌<◌, ◌≤◌, ◌*◌, ◌^◌, ◌++◌, ℕ, List, length, get_or, ap, arith, subst, sym, ◌∙◌}
use Rattle.std.specs.List.{flat_map}
use Rattle.schema_facts.specs.Dictionaries.{Project}
use Rattle.schema_plan.specs.Limits.{IsTableInLimits}
use Rattle.life_intervals.specs.Generator.{last_unit, table_of}
use Rattle.row_lines.specs.Runs.{keys_text}
use Rattle.row_lines.specs.TableLines.{has_short_keys}
use Rattle.row_lines.proofs.RunKeyLemmas.{key_text, keys-limit, keys-lines, keys-rows, keys-size}
use Rattle.row_lines.proofs.RunPieceLemmas.{keys-short}
use Rattle.row_lines.proofs.run_keys.put_few_keys.Goals as goal
use Rattle.row_lines.proofs.run_keys.put_few_keys.Goals.{After-put_keys}

-- the keys are below 2^63
small : (g : _) (c : After-put_keys g) → (i : ℕ) → i < length c.args.ordinals.now → get_or c.put_keys.new.keys i 0 < 2 ^ 63
small g c =
    keys-limit c.args.rows.now c.args.table c.args.ordinals.now c.put_keys.new.keys
    (subst (λ (plan : Project). IsTableInLimits (last_unit plan) (table_of plan c.args.table)) c.plan-plan.ensures c.table-limits.ensures.limits)
    c.requires.rows c.put_keys.ensures.keys

-- their lines are those of the rows
lines_are : (g : _) (c : After-put_keys g) → flat_map key_text c.put_keys.new.keys ≡ keys_text c.args.rows.now c.args.table c.args.ordinals.now
lines_are g c = keys-lines c.args.rows.now c.args.table c.args.ordinals.now c.put_keys.new.keys c.put_keys.ensures.same_length c.put_keys.ensures.keys (small g c)

lines_size : (g : _) (c : After-put_keys g) → length (keys_text c.args.rows.now c.args.table c.args.ordinals.now) ≤ length c.args.ordinals.now * 21
lines_size g c = keys-size c.args.rows.now c.args.table c.args.ordinals.now c.put_keys.new.keys c.put_keys.ensures.same_length c.put_keys.ensures.keys (small g c)

pub fill-requires-clause-numbers : goal.fill-requires-clause-numbers
fill-requires-clause-numbers g c =
    keys-short c.args.rows.now c.args.table c.units.result c.args.ordinals.now c.put_births.new.births c.put_keys.new.keys
    (omega (arith, c.units.ensures, ap last_unit c.plan-plan.ensures)) c.put_births.ensures c.put_keys.ensures.same_length c.put_keys.ensures.keys
    (ap (λ (plan : Project). has_short_keys plan c.args.table) (sym c.plan-plan.ensures) ∙ sym c.has_short_keys.ensures ∙ c.if-has_short_keys.true)

pub put_rows-requires-clause-room : goal.put_rows-requires-clause-room
put_rows-requires-clause-room g c =
    let here = (goal.at.put_rows-requires-clause-room g c).After-put_keys in
    let are = keys-rows c.put_keys.new.keys c.fill.new.pieces (length c.args.ordinals.now) c.fill.ensures c.put_keys.ensures.same_length ∙ lines_are g here in
    omega (arith, c.requires.room, ap (λ (text : List ℕ). length text) are, lines_size g here)

pub returns-then-has_short_keys-clause-text : goal.returns-then-has_short_keys-clause-text
returns-then-has_short_keys-clause-text g c =
    let here = (goal.at.returns-then-has_short_keys-clause-text g c).After-put_keys in
    let are = keys-rows c.put_keys.new.keys c.fill.new.pieces (length c.args.ordinals.now) c.fill.ensures c.put_keys.ensures.same_length ∙ lines_are g here in
    c.put_rows.ensures ∙ ap (λ (text : List ℕ). record { text = c.args.page.now.text ++ text; room = c.args.page.now.room }) are

pub returns-then-has_short_keys-clause-size : goal.returns-then-has_short_keys-clause-size
returns-then-has_short_keys-clause-size g c = lines_size g (goal.at.returns-then-has_short_keys-clause-size g c).After-put_keys

pub returns-else-has_short_keys-clause-text : goal.returns-else-has_short_keys-clause-text
returns-else-has_short_keys-clause-text g c =
    let here = (goal.at.returns-else-has_short_keys-clause-text g c).After-put_keys in
    c.put_long_keys.ensures ∙ ap (λ (text : List ℕ). record { text = c.args.page.now.text ++ text; room = c.args.page.now.room }) (lines_are g here)

pub returns-else-has_short_keys-clause-size : goal.returns-else-has_short_keys-clause-size
returns-else-has_short_keys-clause-size g c = lines_size g (goal.at.returns-else-has_short_keys-clause-size g c).After-put_keys
