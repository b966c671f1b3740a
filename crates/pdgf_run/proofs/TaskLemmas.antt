-- What is known of a store once a task is done.
use Rattle.std.proofs.Common.{◌≡◌, ◌≢◌, ℕ, true, false, List, Option, None, Some, Result, Ok, Err, refl, sym, subst, ap, ◌∙◌}
use Rattle.std.specs.Prelude.{IfErr, IfOk, IfSome}
use Rattle.std.specs.Option.{option_map}
use Rattle.std.proofs.lemmas.Bool.{true≢false}
use Rattle.pd_outside.specs.Files.{File}
use Rattle.plan_stages.specs.Plans.{plan_in}
use Rattle.refusals.specs.declared.refusal.Refusal.TheVariants as refusal
use Rattle.request_words.specs.declared.usage.Mode.{Mode}
use Rattle.request_words.specs.declared.usage.Mode.TheVariants as mode
use Rattle.request_words.specs.declared.usage.Request.{Request}
use Rattle.request_words.specs.declared.usage.UsageFault.{UsageFault}
use Rattle.row_keeper.specs.Store.{Store}
use Rattle.fill_jobs.specs.Playing.{HasBrokenOff, HasPlayed, IsBrokenOff, IsTaskOf, is_play, is_playing, played_store, plays_for}
use Rattle.run_jobs.specs.declared.job.Task.{Task}
use Rattle.run_jobs.specs.declared.job.Task.TheVariants as task

is_mode : (m : Mode) → is_play m ≡ true → m ≡ mode.Play
is_mode mode.Check is = absurd (cc)
is_mode mode.Snapshot is = absurd (cc)
is_mode mode.Unit is = absurd (cc)
is_mode mode.Row is = absurd (cc)
is_mode mode.Apply is = absurd (cc)
is_mode mode.Sample is = absurd (cc)
is_mode mode.Play is = refl
is_mode mode.Details is = absurd (cc)
is_mode mode.DetailsUnit is = absurd (cc)
is_mode mode.DetailsApply is = absurd (cc)
is_mode mode.Undo is = absurd (cc)
is_mode mode.Revert is = absurd (cc)

played_of : (asked : Request) (told : Option (List File)) (t : Task) (before now : Store) → IsTaskOf asked told t → HasPlayed t before now → is_play asked.mode ≡ true →
    IfSome told (λ files. IfOk (plan_in files asked.schema) (λ plan. now ≡ played_store plan asked.to asked.store before))
played_of asked None t before now of played plays = tt
played_of asked (Some files) (task.Write job) before now of played plays = absurd (of (is_mode asked.mode plays))
played_of asked (Some files) (task.Play job) before now of played plays =
    rw of.plan (subst (λ name. now ≡ played_store job.plan asked.to name before) of.store
    (subst (λ unit. now ≡ played_store job.plan unit job.store before) of.to played))

-- a store into which the units of a request were played
pub played_where_asked : (q : Result Request UsageFault) (told : Option (List File)) (t : Task) (before now : Store) →
    IfOk q (λ asked. IsTaskOf asked told t) → HasPlayed t before now →
    IfOk q (λ asked. is_play asked.mode ≡ true →
    IfSome told (λ files. IfOk (plan_in files asked.schema) (λ plan. now ≡ played_store plan asked.to asked.store before)))
played_where_asked (Err fault) told t before now of played = tt
played_where_asked (Ok asked) told t before now of played = λ plays. played_of asked told t before now of played plays

broken_of : (asked : Request) (told : Option (List File)) (t : Task) (before now : Store) → IsTaskOf asked told t → HasBrokenOff t before now →
    IfSome told (λ files. IfOk (plan_in files asked.schema) (λ plan. IsBrokenOff plan asked.to asked.store before now))
broken_of asked None t before now of broken = tt
broken_of asked (Some files) (task.Write job) before now of broken = absurd broken
broken_of asked (Some files) (task.Play job) before now of broken =
    rw of.plan (subst (λ name. IsBrokenOff job.plan asked.to name before now) of.store
    (subst (λ unit. IsBrokenOff job.plan unit job.store before now) of.to broken))

-- one into which only some were played
pub broken_where_asked : (q : Result Request UsageFault) (told : Option (List File)) (t : Task) (before now : Store) →
    IfOk q (λ asked. IsTaskOf asked told t) → HasBrokenOff t before now →
    IfOk q (λ asked. IfSome told (λ files. IfOk (plan_in files asked.schema) (λ plan. IsBrokenOff plan asked.to asked.store before now)))
broken_where_asked (Err fault) told t before now of broken = tt
broken_where_asked (Ok asked) told t before now of broken = broken_of asked told t before now of broken

-- a task of words that don't ask to play isn't one to play
pub plays_not : (q : Result Request UsageFault) (told : Option (List File)) (t : Task) → IfErr q (λ (fault : UsageFault). Ok t ≡ Err (refusal.Words fault)) →
    IfOk q (λ asked. IsTaskOf asked told t) → plays_for q ≡ false → is_playing t ≡ false
plays_not (Err fault) told t given of is = absurd (cc)
plays_not (Ok asked) told (task.Write job) given of is = refl
plays_not (Ok asked) told (task.Play job) given of is = absurd (true≢false (sym (ap is_play of.mode) ∙ is))

-- nor is one of a request of another mode
pub plays_no_other : (asked : Request) (told : Option (List File)) (t : Task) → IsTaskOf asked told t → asked.mode ≢ mode.Play → is_playing t ≡ false
plays_no_other asked told (task.Write job) of other = refl
plays_no_other asked told (task.Play job) of other = absurd (other of.mode)

named_of : (asked : Request) (told : Option (List File)) (t : Task) (before now : Store) → IsTaskOf asked told t → HasPlayed t before now → is_play asked.mode ≡ true →
    now.name ≡ option_map (λ (last : List ℕ). asked.store) before.name
named_of asked told (task.Write job) before now of played plays = absurd (of (is_mode asked.mode plays))
named_of asked told (task.Play job) before now of played plays =
    ap (λ (store : Store). store.name) played ∙ ap (λ (name : List ℕ). option_map (λ (last : List ℕ). name) before.name) of.store

-- a store that was played into has the name that was asked for, whatever is told
pub named_where_asked : (q : Result Request UsageFault) (told : Option (List File)) (t : Task) (before now : Store) →
    IfOk q (λ asked. IsTaskOf asked told t) → HasPlayed t before now →
    IfOk q (λ asked. is_play asked.mode ≡ true → now.name ≡ option_map (λ (last : List ℕ). asked.store) before.name)
named_where_asked (Err fault) told t before now of played = tt
named_where_asked (Ok asked) told t before now of played = λ plays. named_of asked told t before now of played plays
