use Rattle.std.proofs.Common.{◌≡◌, ◌≤◌, ◌+◌, ◌-◌, ◌*◌, ℕ, List, ap, arith, drop, length, subst, sym, take, ◌∙◌}
use Rattle.schema_facts.specs.Dictionaries.{Project}
use Rattle.schema_facts.specs.Layout.{layout_of}
use Rattle.row_lines.specs.Runs.{RunLinesOf}
use Rattle.update_box.proofs.PackLemmas.{few-taken, text-size}
use Rattle.sql_lines.specs.Packages.{AreAlive, AreBorn, AreRowsOf, Packages, insertions_between, range_text, row_count, rows_stated}
use Rattle.sql_lines.specs.Reach.{statement_size}
use Rattle.sql_lines.specs.Statements.{deletions_of, updates_of}
use Rattle.sql_lines.specs.declared.stated.Stated.{Stated}
use Rattle.sql_lines.proofs.PackageLemmas.{born-few}
use Rattle.sql_lines.proofs.PutLemmas.{alive-part, range-deleted, range-inserted, range-updated}
use Rattle.sql_lines.proofs.packer.put_range.Goals as goal
use Rattle.sql_lines.proofs.packer.put_range.Goals.{After-lines_of-lines, After-put_insertions, After-put_deletions, After-put_updates}

-- no row of the table has a greater ordinal
within : (g : _) (c : After-lines_of-lines g) → c.in-Inserted.from + c.args.end ≤ 1099511627776
within g c =
    let plan = c.packer.inside.plan.now in
    let table = c.packer.inside.table in
    let rows : AreBorn plan table c.in-Inserted.from c.in-Inserted.to c.in-Inserted.unit = subst (λ (stated : Stated). AreRowsOf plan table (rows_stated stated)) c.in-Inserted.is c.packer.invariant.rows in
    omega (
      arith,
      rows.ordered,
      born-few plan table c.in-Inserted.from c.in-Inserted.to c.in-Inserted.unit c.table-limits.ensures.limits rows,
      c.requires.within,
      ap (λ (packages : Packages). row_count packages.rows) c.packer.view_is,
      ap (λ (stated : Stated). row_count (rows_stated stated)) c.in-Inserted.is,
    )

pub overflow_add-first : goal.overflow_add-first
overflow_add-first g c = record { fits = omega (arith, within g (goal.at.overflow_add-first g c).After-lines_of-lines, c.requires.ordered) }

pub overflow_add-end : goal.overflow_add-end
overflow_add-end g c = record { fits = omega (arith, within g (goal.at.overflow_add-end g c).After-lines_of-lines) }

-- ---- insertions

inserted_is : (g : _) (c : After-put_insertions g) →
    insertions_between c.packer.inside.plan.now c.packer.inside.table c.in-Inserted.unit (c.in-Inserted.from + c.args.first) (c.in-Inserted.from + c.args.end)
    ≡ range_text c.packer.inside.plan.now c.packer.inside.table (rows_stated c.packer.inside.stated) c.args.first c.args.end
inserted_is g c =
    let plan = c.packer.inside.plan.now in
    let table = c.packer.inside.table in
    sym (ap (λ (stated : Stated). range_text plan table (rows_stated stated) c.args.first c.args.end) c.in-Inserted.is
    ∙ range-inserted plan table c.in-Inserted.from c.in-Inserted.to c.in-Inserted.unit c.args.first c.args.end)

pub returns-in-Inserted-clause-text : goal.returns-in-Inserted-clause-text
returns-in-Inserted-clause-text g c =
    subst (λ (p : Packages). c.put_insertions.new.page ≡ record { text = range_text p.plan p.table p.rows c.args.first c.args.end; room = c.args.page.now.room }) c.packer.view_is
    (c.put_insertions.ensures.text
    ∙ ap (λ (text : List ℕ). record { text = text; room = c.args.page.now.room }) (inserted_is g (goal.at.returns-in-Inserted-clause-text g c).After-put_insertions))

pub returns-in-Inserted-clause-size : goal.returns-in-Inserted-clause-size
returns-in-Inserted-clause-size g c =
    let size : ℕ = statement_size (layout_of c.packer.inside.plan.now) c.packer.inside.table in
    let many : c.in-Inserted.from + c.args.end - (c.in-Inserted.from + c.args.first) ≡ c.args.end - c.args.first = omega arith in
    subst (λ (p : Packages). length (range_text p.plan p.table p.rows c.args.first c.args.end) ≤ (c.args.end - c.args.first) * statement_size (layout_of p.plan) p.table) c.packer.view_is
    (text-size _ _ _ (inserted_is g (goal.at.returns-in-Inserted-clause-size g c).After-put_insertions)
    (omega (arith, c.put_insertions.ensures.size, ap (λ (n : ℕ). n * size) many)))

-- ---- deletions

deleted_is : (g : _) (c : After-put_deletions g) →
    deletions_of c.rows-rows.result c.packer.inside.table (take (c.args.end - c.args.first) (drop c.args.first c.in-Deleted.ordinals.now))
    ≡ range_text c.packer.inside.plan.now c.packer.inside.table (rows_stated c.packer.inside.stated) c.args.first c.args.end
deleted_is g c =
    let plan = c.packer.inside.plan.now in
    let table = c.packer.inside.table in
    ap (λ (p : Project). deletions_of p table (take (c.args.end - c.args.first) (drop c.args.first c.in-Deleted.ordinals.now))) c.rows-rows.ensures
    ∙ sym (ap (λ (stated : Stated). range_text plan table (rows_stated stated) c.args.first c.args.end) c.in-Deleted.is
    ∙ range-deleted plan table c.in-Deleted.ordinals.now c.args.first c.args.end)

pub returns-in-Deleted-clause-text : goal.returns-in-Deleted-clause-text
returns-in-Deleted-clause-text g c =
    subst (λ (p : Packages). c.put_deletions.new.page ≡ record { text = range_text p.plan p.table p.rows c.args.first c.args.end; room = c.args.page.now.room }) c.packer.view_is
    (c.put_deletions.ensures.text
    ∙ ap (λ (text : List ℕ). record { text = text; room = c.args.page.now.room }) (deleted_is g (goal.at.returns-in-Deleted-clause-text g c).After-put_deletions))

pub returns-in-Deleted-clause-size : goal.returns-in-Deleted-clause-size
returns-in-Deleted-clause-size g c =
    let table = c.packer.inside.table in
    let ordinals : List ℕ = c.in-Deleted.ordinals.now in
    subst (λ (p : Packages). length (range_text p.plan p.table p.rows c.args.first c.args.end) ≤ (c.args.end - c.args.first) * statement_size (layout_of p.plan) p.table) c.packer.view_is
    (text-size _ _ _ (deleted_is g (goal.at.returns-in-Deleted-clause-size g c).After-put_deletions)
    (omega (
      arith,
      c.put_deletions.ensures.size,
      ap (λ (p : Project). length (take (c.args.end - c.args.first) (drop c.args.first ordinals)) * statement_size (layout_of p) table) c.rows-rows.ensures,
      few-taken ordinals c.args.first c.args.end (statement_size (layout_of c.packer.inside.plan.now) table),
    )))

-- ---- updates

pub put_updates-requires-clause-rows : goal.put_updates-requires-clause-rows
put_updates-requires-clause-rows g c =
    let plan = c.packer.inside.plan.now in
    let table = c.packer.inside.table in
    let rows : AreAlive plan table c.in-Updated.ordinals.now c.in-Updated.unit = subst (λ (stated : Stated). AreRowsOf plan table (rows_stated stated)) c.in-Updated.is c.packer.invariant.rows in
    subst (AreAlive plan table (take (c.args.end - c.args.first) (drop c.args.first c.in-Updated.ordinals.now))) (sym (ap (λ (lines : RunLinesOf). lines.unit) c.lines_of-lines-in-Updated.ensures))
    (alive-part plan table c.in-Updated.ordinals.now c.in-Updated.unit (c.args.end - c.args.first) c.args.first rows)

updated_is : (g : _) (c : After-put_updates g) →
    updates_of c.packer.inside.plan.now c.lines_of-lines-in-Updated.result.unit c.packer.inside.table (take (c.args.end - c.args.first) (drop c.args.first c.in-Updated.ordinals.now))
    ≡ range_text c.packer.inside.plan.now c.packer.inside.table (rows_stated c.packer.inside.stated) c.args.first c.args.end
updated_is g c =
    let plan = c.packer.inside.plan.now in
    let table = c.packer.inside.table in
    ap (λ (lines : RunLinesOf). updates_of plan lines.unit table (take (c.args.end - c.args.first) (drop c.args.first c.in-Updated.ordinals.now))) c.lines_of-lines-in-Updated.ensures
    ∙ sym (ap (λ (stated : Stated). range_text plan table (rows_stated stated) c.args.first c.args.end) c.in-Updated.is
    ∙ range-updated plan table c.in-Updated.ordinals.now c.in-Updated.unit c.args.first c.args.end)

pub returns-clause-text : goal.returns-clause-text
returns-clause-text g c =
    subst (λ (p : Packages). c.put_updates.new.page ≡ record { text = range_text p.plan p.table p.rows c.args.first c.args.end; room = c.args.page.now.room }) c.packer.view_is
    (c.put_updates.ensures.text
    ∙ ap (λ (text : List ℕ). record { text = text; room = c.args.page.now.room }) (updated_is g (goal.at.returns-clause-text g c).After-put_updates))

pub returns-clause-size : goal.returns-clause-size
returns-clause-size g c =
    let table = c.packer.inside.table in
    let ordinals : List ℕ = c.in-Updated.ordinals.now in
    subst (λ (p : Packages). length (range_text p.plan p.table p.rows c.args.first c.args.end) ≤ (c.args.end - c.args.first) * statement_size (layout_of p.plan) p.table) c.packer.view_is
    (text-size _ _ _ (updated_is g (goal.at.returns-clause-size g c).After-put_updates)
    (omega (arith, c.put_updates.ensures.size, few-taken ordinals c.args.first c.args.end (statement_size (layout_of c.packer.inside.plan.now) table))))
