use Rattle.std.proofs.Common.{ℕ, ◌<◌, List, get_or, length, sym, ap, ◌∙◌, subst, arith}
use Rattle.std.proofs.lemmas.List.{length-map}
use Rattle.cohort_sizes.specs.Kept.{BirthsUpTo}
use Rattle.schema_facts.specs.Counts.{count}
use Rattle.schema_facts.specs.Dictionaries.{Project, project_of}
use Rattle.schema_facts.specs.Layout.{layout_of, table_at}
use Rattle.schema_plan.specs.Planned.{births_through}
use Rattle.schema_plan.proofs.PlannedLemmas.{cohorts_kept}
use Rattle.schema_plan.proofs.plan.Plan.cohorts.Goals as goal

-- what is told of the cohorts of the table at a place
abbrev births_and_last : Project → ℕ → BirthsUpTo
births_and_last p table = record { births = (table_at (layout_of p).tables table).births; last = (layout_of p).units }

pub index-requires : goal.index-requires
index-requires c =
    let inside = c.self.inside in
    let within : c.args.table < length inside.schema.tables = subst (λ (p : Project). c.args.table < length p.schema.tables) (sym c.self.view_is) c.requires in
    omega (arith, within, ap length c.self.invariant.cohorts_are ∙ length-map inside.schema.tables (births_through (count inside.schema.units)), inside.cohorts.ok.0)

pub returns : goal.returns
returns c =
    let inside = c.self.inside in
    let project = project_of inside.schema inside.dictionaries in
    let within : c.args.table < length inside.schema.tables = subst (λ (p : Project). c.args.table < length p.schema.tables) (sym c.self.view_is) c.requires in
    c.index.ensures
    ∙ ap (λ (kept : List BirthsUpTo). get_or kept c.args.table c.index.result.now) c.self.invariant.cohorts_are
    ∙ cohorts_kept project c.args.table c.index.result.now within
    ∙ ap (λ (p : Project). births_and_last p c.args.table) c.self.view_is
