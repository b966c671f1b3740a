use Rattle.std.proofs.Common.{ℕ, List, ap, sym, subst, ◌∙◌}
use Rattle.std.proofs.lemmas.Bool.{true≢false}
use Rattle.std.proofs.lemmas.Result.{err_from_is_err_and}
use Rattle.schema_facts.specs.Dictionaries.{Project}
use Rattle.life_intervals.specs.Generator.{generator_of}
use Rattle.keeper_play.specs.Statements.{statements_to}
use Rattle.row_keeper.specs.Store.{Store, finish_store, perform_all, start_store}
use Rattle.fill_jobs.specs.Playing.{AreMade}
use Rattle.fill_jobs.proofs.PlayLemmas.{all-made, broken-off, finished, still-open}
use Rattle.fill_jobs.proofs.play.play.Goals as goal

pub returns-clause-plays : goal.returns-clause-plays
returns-clause-plays g c =
    let plan : Project = c.args.job.now.plan in
    let start = c.in_ok-start.ensures.started ∙ ap (λ (name : List ℕ). start_store name (g.K.Keeper.store c.args.keeper.now)) c.as_str.ensures.value in
    let made =
    c.in_ok-play_units.ensures.made
    ∙ ap (λ (p : Project). perform_all (statements_to (generator_of p) c.args.job.now.to) (g.K.Keeper.store c.start.new.self)) c.with-rows.ensures
    ∙ ap (perform_all (statements_to (generator_of plan) c.args.job.now.to)) start in
    record {
      played = finished plan c.args.job.now.to c.args.job.now.store (g.K.Keeper.store c.args.keeper.now) (g.K.Keeper.store c.finish.new.self) c.schema-limits.ensures.limits c.requires.can.unit (c.in_ok-finish.ensures.finished ∙ ap finish_store made);
      broken_off = tt;
      not_opened = tt;
    }

pub returns-in_err-play_units-clause-plays : goal.returns-in_err-play_units-clause-plays
returns-in_err-play_units-clause-plays g c =
    let answer = err_from_is_err_and c.from_residual-in_err-play_units.result c.from_residual-in_err-play_units.ensures.1 in
    let plan : Project = c.args.job.now.plan in
    let start = c.in_ok-start.ensures.started ∙ ap (λ (name : List ℕ). start_store name (g.K.Keeper.store c.args.keeper.now)) c.as_str.ensures.value in
    let are = subst (λ (store : Store). AreMade (statements_to (generator_of plan) c.args.job.now.to) store (g.K.Keeper.store c.play_units.new.keeper)) start
    (subst (λ (p : Project). AreMade (statements_to (generator_of p) c.args.job.now.to) (g.K.Keeper.store c.start.new.self) (g.K.Keeper.store c.play_units.new.keeper)) c.with-rows.ensures c.in_err-play_units.ensures.some) in
    rw answer.1
    (record {
      played = tt;
      broken_off = λ is_open. broken-off plan c.args.job.now.to c.args.job.now.store (g.K.Keeper.store c.args.keeper.now) (g.K.Keeper.store c.play_units.new.keeper) are;
      not_opened = λ closed. absurd (true≢false (sym (still-open plan c.args.job.now.to c.args.job.now.store (g.K.Keeper.store c.args.keeper.now) (g.K.Keeper.store c.play_units.new.keeper) are) ∙ closed));
    })

pub returns-in_err-finish-clause-plays : goal.returns-in_err-finish-clause-plays
returns-in_err-finish-clause-plays g c =
    let answer = err_from_is_err_and c.from_residual-in_err-finish.result c.from_residual-in_err-finish.ensures.1 in
    let plan : Project = c.args.job.now.plan in
    let start = c.in_ok-start.ensures.started ∙ ap (λ (name : List ℕ). start_store name (g.K.Keeper.store c.args.keeper.now)) c.as_str.ensures.value in
    let made =
    c.in_ok-play_units.ensures.made
    ∙ ap (λ (p : Project). perform_all (statements_to (generator_of p) c.args.job.now.to) (g.K.Keeper.store c.start.new.self)) c.with-rows.ensures
    ∙ ap (perform_all (statements_to (generator_of plan) c.args.job.now.to)) start in
    let are = all-made (statements_to (generator_of plan) c.args.job.now.to) (start_store c.args.job.now.store (g.K.Keeper.store c.args.keeper.now)) (g.K.Keeper.store c.finish.new.self) (c.in_err-finish.ensures.unchanged ∙ made) in
    rw answer.1
    (record {
      played = tt;
      broken_off = λ is_open. broken-off plan c.args.job.now.to c.args.job.now.store (g.K.Keeper.store c.args.keeper.now) (g.K.Keeper.store c.finish.new.self) are;
      not_opened = λ closed. absurd (true≢false (sym (still-open plan c.args.job.now.to c.args.job.now.store (g.K.Keeper.store c.args.keeper.now) (g.K.Keeper.store c.finish.new.self) are) ∙ closed));
    })
