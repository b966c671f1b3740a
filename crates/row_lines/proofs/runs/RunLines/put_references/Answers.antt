use Rattle.std.proofs.Common.{◌≡◌, ◌<◌, ◌≤◌, ◌+◌, ◌*◌, ℕ, Bool, true, false, List, get_or, length, if◌then◌else◌, refl, ap, arith, subst, sym, ◌∙◌}
use Rattle.std.proofs.Math.Nat.{mul-le-mul_left}
use Rattle.schema_facts.specs.Dictionaries.{Project}
use Rattle.schema_facts.specs.Layout.{TableLayout, layout_of}
use Rattle.schema_facts.specs.Lineage.{choice_cost, death_cost, one_if}
use Rattle.life_intervals.specs.CohortParents.{asked_for_death, held_cost, parent_cost, reference_by}
use Rattle.life_intervals.specs.Generator.{generator_of, last_unit, table_of}
use Rattle.life_intervals.specs.Intervals.{is_live, parent_of}
use Rattle.life_intervals.specs.Keys.{key_of}
use Rattle.life_intervals.specs.Runs.{IsRun}
use Rattle.life_intervals.proofs.CohortParentLemmas.{asked_for_death-cost, parent_below}
use Rattle.row_lines.specs.RunFields.{AreRunLines}
use Rattle.row_lines.specs.Runs.{RunLinesOf}
use Rattle.row_lines.proofs.RunPieceLemmas.{AreRunLines-view, key_pieces, keys-short, made-references, nulled_pieces}
use Rattle.row_lines.proofs.runs.RunLines.put_references.Goals as goal
use Rattle.row_lines.proofs.runs.RunLines.put_references.Goals.{After-put_keys}

clash : true ≡ false → ⊥
clash same = cc

-- ---- the parents

known : (g : _) (c : After-put_keys g) → AreRunLines c.args.self.now c.self.inside.lines.now
known g c = AreRunLines-view _ c.args.self.now c.self.inside.lines.now c.self.view_is c.self.invariant

-- are born by the unit
run_is : (g : _) (c : After-put_keys g) → IsRun c.args.self.now.plan c.args.reference.now.parent c.args.self.now.unit c.find_parents.new.parents.ordinals c.find_parents.new.parents.births
run_is g c = c.find_parents.ensures.found.run

-- are those of the rows
parents_are : (g : _) (c : After-put_keys g) → (i : ℕ) → i < length c.args.rows.ordinals.now →
    get_or c.find_parents.new.parents.ordinals i 0 ≡ parent_of (generator_of c.args.self.now.plan) c.args.self.now.table (last_unit c.args.self.now.plan) (get_or c.args.rows.ordinals.now i 0) (reference_by c.args.column c.args.reference.now)
parents_are g c = c.find_parents.ensures.found.each

-- and have these keys
keys_are : (g : _) (c : After-put_keys g) → (i : ℕ) → i < length c.find_parents.new.parents.ordinals →
    get_or c.put_keys.new.keys i 0 ≡ key_of (generator_of c.args.self.now.plan) c.args.reference.now.parent (last_unit c.args.self.now.plan) (get_or c.find_parents.new.parents.ordinals i 0)
keys_are g c =
    subst (λ (ordinals : List ℕ). (i : ℕ) → i < length ordinals →
    get_or c.put_keys.new.keys i 0 ≡ key_of (generator_of c.args.self.now.plan) c.args.reference.now.parent (last_unit c.args.self.now.plan) (get_or ordinals i 0)) c.ordinals-ordinals.ensures
    (subst (λ (of : RunLinesOf). (i : ℕ) → i < length c.ordinals-ordinals.result.now →
    get_or c.put_keys.new.keys i 0 ≡ key_of (generator_of of.plan) c.args.reference.now.parent (last_unit of.plan) (get_or c.ordinals-ordinals.result.now i 0)) c.self.view_is c.put_keys.ensures.keys)

keys_many : (g : _) (c : After-put_keys g) → length c.put_keys.new.keys ≡ length c.find_parents.new.parents.ordinals
keys_many g c = c.put_keys.ensures.same_length ∙ ap (λ (ordinals : List ℕ). length ordinals) c.ordinals-ordinals.ensures

-- ---- the goals

pub put_keys-requires-clause-table : goal.put_keys-requires-clause-table
put_keys-requires-clause-table g c =
    let lines : RunLinesOf = c.args.self.now in
    let here = AreRunLines-view _ lines c.self.inside.lines.now c.self.view_is c.self.invariant in
    subst (λ (plan : Project). c.args.reference.now.parent < length plan.schema.tables) (sym (ap (λ (of : RunLinesOf). of.plan) c.self.view_is))
    (parent_below lines.plan here.sound lines.table c.args.column c.args.reference.now here.table c.requires.reference)

pub fill-requires-clause-numbers : goal.fill-requires-clause-numbers
fill-requires-clause-numbers g c =
    let here = (goal.at.fill-requires-clause-numbers g c).After-put_keys in
    keys-short c.args.self.now.plan c.args.reference.now.parent c.args.self.now.unit c.find_parents.new.parents.ordinals c.find_parents.new.parents.births c.put_keys.new.keys (known g here).unit (run_is g here)
    (keys_many g here) (keys_are g here) c.requires.short

pub returns-then-not-reference-clause-made : goal.returns-then-not-reference-clause-made
returns-then-not-reference-clause-made g c =
    let here = (goal.at.returns-then-not-reference-clause-made g c).After-put_keys in
    let of = known g here in
    made-references c.args.self.now c.args.rows.ordinals.now c.args.rows.births.now c.find_parents.new.parents.ordinals c.find_parents.new.parents.births c.put_keys.new.keys c.args.column c.args.behind c.args.reference.now
    (λ i. true) c.fill.new.pieces of.sound of.limits of.table of.unit c.requires.rows.living.run c.requires.reference c.requires.short c.requires.behind c.find_parents.ensures.found.same_length (keys_many g here)
    (parents_are g here) (run_is g here) (keys_are g here) (λ cascades i below. refl) (λ nulls i below. absurd (clash (sym nulls ∙ c.if-not-reference.true)))
    (λ i below. key_pieces c.put_keys.new.keys c.fill.new.pieces c.args.behind i c.fill.ensures (omega (arith, below, c.find_parents.ensures.found.same_length, (keys_many g here))))

pub put_lives-requires-clause-table : goal.put_lives-requires-clause-table
put_lives-requires-clause-table g c =
    let lines : RunLinesOf = c.args.self.now in
    let here = AreRunLines-view _ lines c.self.inside.lines.now c.self.view_is c.self.invariant in
    subst (λ (plan : Project). c.args.reference.now.parent < length plan.schema.tables) (sym (ap (λ (of : RunLinesOf). of.plan) c.self.view_is))
    (parent_below lines.plan here.sound lines.table c.args.column c.args.reference.now here.table c.requires.reference)

pub returns-clause-made : goal.returns-clause-made
returns-clause-made g c =
    let here = (goal.at.returns-clause-made g c).After-put_keys in
    let of = known g here in
    made-references c.args.self.now c.args.rows.ordinals.now c.args.rows.births.now c.find_parents.new.parents.ordinals c.find_parents.new.parents.births c.put_keys.new.keys c.args.column c.args.behind c.args.reference.now
    (λ i. get_or c.put_lives.new.live i false) c.put_nulls.new.pieces of.sound of.limits of.table of.unit c.requires.rows.living.run c.requires.reference c.requires.short c.requires.behind
    c.find_parents.ensures.found.same_length (keys_many g here) (parents_are g here) (run_is g here) (keys_are g here)
    (λ cascades i below. absurd (clash (sym c.if-not-reference.false ∙ cascades)))
    (λ nulls. subst (λ (ordinals : List ℕ). (i : ℕ) → i < length ordinals →
    get_or c.put_lives.new.live i false ≡ is_live (generator_of c.args.self.now.plan) c.args.reference.now.parent c.args.self.now.unit (get_or ordinals i 0)) c.ordinals-ordinals.ensures
    (subst (λ (lines : RunLinesOf). (i : ℕ) → i < length c.ordinals-ordinals.result.now →
    get_or c.put_lives.new.live i false ≡ is_live (generator_of lines.plan) c.args.reference.now.parent lines.unit (get_or c.ordinals-ordinals.result.now i 0)) c.self.view_is c.put_lives.ensures.live))
    (λ i below.
    nulled_pieces c.put_keys.new.keys c.fill.new.pieces c.put_nulls.new.pieces c.null_piece.result c.put_lives.new.live c.args.behind i c.fill.ensures
    (omega (arith, below, c.find_parents.ensures.found.same_length, (keys_many g here))) c.null_piece.ensures
    (c.put_nulls.ensures i (omega (arith, below, c.fill.auto.pieces, c.requires.pieces))))

pub returns-clause-steps : goal.returns-clause-steps
returns-clause-steps g c =
    let here = (goal.at.returns-clause-steps g c).After-put_keys in
    let of = known g here in
    let plan : Project = c.args.self.now.plan in
    let parent : ℕ = c.args.reference.now.parent in
    let count : ℕ = length c.args.rows.ordinals.now in
    let many : length c.ordinals-ordinals.result.now ≡ count = ap (λ (ordinals : List ℕ). length ordinals) c.ordinals-ordinals.ensures ∙ c.find_parents.ensures.found.same_length in
    let keys : c.put_keys.new.steps ≡ c.find_parents.new.steps + count * one_if (table_of plan parent).key.scramble =
    c.put_keys.ensures.steps
    ∙ ap (λ (n : ℕ). c.find_parents.new.steps + n * one_if (table_of c.self.inside.rows.now parent).key.scramble) many
    ∙ ap (λ (lines : RunLinesOf). c.find_parents.new.steps + count * one_if (table_of lines.plan parent).key.scramble) c.self.view_is in
    let lives : c.put_lives.new.steps ≤ c.put_keys.new.steps + count * asked_for_death plan parent =
    subst (λ (lines : RunLinesOf). c.put_lives.new.steps ≤ c.put_keys.new.steps + count * asked_for_death lines.plan parent) c.self.view_is
    (subst (λ (n : ℕ). c.put_lives.new.steps ≤ c.put_keys.new.steps + n * asked_for_death c.self.inside.rows.now parent) many c.put_lives.ensures.steps) in
    let tables : List TableLayout = (layout_of plan).tables in
    let chosen : ℕ = choice_cost c.args.reference.now.drawn in
    let cost : held_cost tables (reference_by c.args.column c.args.reference.now) ≡ chosen + death_cost tables parent =
    ap (λ (nulls : Bool). if nulls then parent_cost tables (reference_by c.args.column c.args.reference.now) else chosen) c.if-not-reference.false in
    let death : count * asked_for_death plan parent ≤ count * death_cost tables parent =
    mul-le-mul_left count (asked_for_death-cost plan of.sound parent (parent_below plan of.sound c.args.self.now.table c.args.column c.args.reference.now of.table c.requires.reference)) in
    omega (
      arith,
      c.find_parents.ensures.steps,
      keys,
      lives,
      death,
      ap (λ (n : ℕ). count * (n + one_if (table_of plan parent).key.scramble)) cost,
    )
