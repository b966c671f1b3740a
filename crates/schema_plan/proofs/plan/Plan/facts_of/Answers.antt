use Rattle.std.proofs.Common.{◌≡◌, ◌<◌, ◌≤◌, sym, ap, ◌∙◌, subst, arith, length}
use Rattle.schema_facts.specs.declared.facts.TableFacts.{TableFacts}
use Rattle.schema_facts.specs.Layout.{layout_of}
use Rattle.schema_facts.specs.Dictionaries.{Project, project_of}
use Rattle.schema_facts.specs.TableFacts.{facts_at, reach}
use Rattle.schema_plan.proofs.PlannedLemmas.{length-kept, get_or-kept, max_line-reach}
use Rattle.schema_plan.proofs.plan.Plan.facts_of.Goals as goal

pub index-requires : goal.index-requires
index-requires c =
    let inside = c.self.inside in
    let within : c.args.table < length inside.schema.tables =
    subst (λ (p : Project). c.args.table < length p.schema.tables) (sym c.self.view_is) c.requires in
    omega (arith, within, length-kept (facts_at (layout_of (project_of inside.schema inside.dictionaries))) (length inside.schema.tables) inside.facts.items c.self.invariant.facts, inside.facts.ok.0)

pub returns : goal.returns
returns c =
    let inside = c.self.inside in
    let table = c.args.table in
    let within : table < length inside.schema.tables =
    subst (λ (p : Project). table < length p.schema.tables) (sym c.self.view_is) c.requires in
    let facts : c.index.result.now ≡ facts_at (layout_of c.args.self.now) table =
    c.index.ensures
    ∙ get_or-kept (facts_at (layout_of (project_of inside.schema inside.dictionaries))) (length inside.schema.tables) inside.facts.items c.self.invariant.facts table _ within
    ∙ ap (λ (p : Project). facts_at (layout_of p) table) c.self.view_is in
    record {
      facts = facts;
      within_reach = subst (λ (f : TableFacts). f.max_line ≤ reach (layout_of c.args.self.now)) (sym facts) (max_line-reach (layout_of c.args.self.now) table);
    }
