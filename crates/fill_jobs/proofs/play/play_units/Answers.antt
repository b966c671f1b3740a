use Rattle.std.proofs.Common.{ℕ, suc, ◌+◌, ◌-◌, List, [], length, ap, arith, subst, sym, ◌∙◌}
use Rattle.std.specs.List.{flat_map, range_with_len}
use Rattle.std.proofs.lemmas.Result.{err_from_is_err_and}
use Rattle.pd_outside.proofs.Counts.{unfailed_then}
use Rattle.schema_facts.specs.Dictionaries.{Project}
use Rattle.cohort_sizes.specs.Births.{cohort_size, first_ordinal}
use Rattle.life_intervals.specs.Generator.{generator_of, table_of}
use Rattle.keeper_play.specs.Played.{TellsUnit}
use Rattle.life_intervals.proofs.Ranges.{flat_map-range_with_len_more}
use Rattle.row_keeper.specs.Kept.{Statement}
use Rattle.keeper_play.specs.Statements.{statements_to, unit_statements}
use Rattle.row_keeper.specs.Store.{perform_all}
use Rattle.keeper_play.proofs.StoreLemmas.{made-more, made-none, places-at}
use Rattle.fill_jobs.proofs.PlayLemmas.{first-told, made-behind, some-made}
use Rattle.fill_jobs.proofs.play.play_units.Goals as goal

pub play_rows-requires-clause-source : goal.play_rows-requires-clause-source
play_rows-requires-clause-source g c =
    subst (λ (plan : Project). TellsUnit c.args.rows.now 0 (length plan.schema.tables)
    (λ place. record { deleted = []; updated = []; inserted = record { first = first_ordinal (table_of plan place).births 0; size = cohort_size (table_of plan place).births 0 } }))
    (sym c.plan.ensures) (first-told c.args.rows.now)

pub returns-in_err-play_rows-clause-some : goal.returns-in_err-play_rows-clause-some
returns-in_err-play_rows-clause-some g c =
    let made = err_from_is_err_and c.from_residual.result c.from_residual.ensures.1 in
    let unit : ℕ → List Statement = unit_statements (generator_of c.args.rows.now) in
    rw made.1
    (made-behind (statements_to (generator_of c.args.rows.now) c.args.to) [] (unit 0) (flat_map unit (range_with_len 1 (c.args.to + 1 - 1))) _ _ _
    (places-at unit 0 (c.args.to + 1) (omega arith)) (made-none (g.K.Keeper.store c.args.keeper.now))
    (some-made (unit 0) _ _ c.in_err-play_rows.ensures.stopped))

pub returns-in_err-play_changes-clause-some : goal.returns-in_err-play_changes-clause-some
returns-in_err-play_changes-clause-some g c =
    let made = err_from_is_err_and c.from_residual-in_err-play_changes.result c.from_residual-in_err-play_changes.ensures.1 in
    let unit : ℕ → List Statement = unit_statements (generator_of c.args.rows.now) in
    let at : ℕ = c.loop-before.before + 1 in
    rw made.1
    (made-behind (statements_to (generator_of c.args.rows.now) c.args.to) (flat_map unit (range_with_len 0 at)) (unit at) (flat_map unit (range_with_len (suc at) (c.args.to + 1 - suc at))) _ _ _
    (places-at unit at (c.args.to + 1) (omega (arith, c.loop-before-test.true))) c.loop-before.invariant.made c.in_err-play_changes.ensures.some)

pub loop-before-preserved : goal.loop-before-preserved
loop-before-preserved g c =
    let unit : ℕ → List Statement = unit_statements (generator_of c.args.rows.now) in
    let at : ℕ = c.loop-before.before + 1 in
    record {
      made =
          made-more (flat_map unit (range_with_len 0 at)) (unit at) _ _ _ c.loop-before.invariant.made c.in_ok-play_changes.ensures.made
          ∙ ap (λ (statements : List Statement). perform_all statements (g.K.Keeper.store c.args.keeper.now)) (sym (flat_map-range_with_len_more unit at));
      unfailed = unfailed_then _ _ _ c.loop-before.invariant.unfailed c.in_ok-play_changes.ensures.unfailed;
      page = c.in_ok-play_changes.ensures.page ∙ c.loop-before.invariant.page;
    }
