-- Modes that replay: what they ask, and what comes of it.
use Rattle.std.proofs.Common.{◌≡◌, ◌<◌, ◌≤◌, ℕ, All, List, length, map, Option, None, Some, Result, Ok, Err, ap, arith, refl, subst, sym, ◌∙◌}
use Rattle.std.specs.List.{range_with_len}
use Rattle.std.proofs.lemmas.List.FromFn.{length-map-range_with_len}
use Rattle.detail_plan.specs.declared.detail.Detail.{Detail}
use Rattle.request_words.specs.declared.usage.Format.{Format}
use Rattle.request_words.specs.declared.usage.Format.TheVariants.{Copy, Csv, Sql}
use Rattle.schema_facts.specs.Dictionaries.{Project}
use Rattle.schema_facts.specs.Layout.{layout_of}
use Rattle.schema_plan.specs.Limits.{IsInLimits}
use Rattle.schema_plan.specs.Rules.{column_names}
use Rattle.stream_apply.specs.declared.key_fields.KeyFields.TheVariants.{One}
use Rattle.update_box.specs.Packages.{chosen_places}
use Rattle.update_box.specs.Parts.{name_at}
use Rattle.replay_files.specs.declared.replay.Way.TheVariants as way
use Rattle.replay_files.specs.modes.Apply.{columns_by}
use Rattle.replay_files.specs.modes.DetailsApply.{apply_of_detail}
use Rattle.replay_files.proofs.KeyedTextLemmas.{columns-are}
use Rattle.std.specs.Prelude.{IfSome}
use Rattle.pd_outside.specs.Files.{File}
use Rattle.pd_outside.specs.Library.{AskedPrefixOf}
use Rattle.refusals.specs.Statuses.{job_status}
use Rattle.refusals.specs.declared.refusal.JobFault.{JobFault}
use Rattle.refusals.specs.declared.refusal.JobFault.TheVariants as job
use Rattle.request_words.specs.declared.usage.Request.{Request}
use Rattle.run_jobs.specs.Jobs.{due_of}
use Rattle.replay_files.specs.Replay.{AreColumns, CanReplay, IsCsvOfTables, IsReplayDue, IsReplayOf, input_paths, paths_of, paths_read, possible_of}
use Rattle.run_jobs.specs.Outcome.{IsDecided}
use Rattle.run_jobs.specs.declared.job.Job.{Job}
use Rattle.replay_files.specs.declared.replay.Replay.{Replay}
use Rattle.run_jobs.proofs.AskedNameLemmas.{none_first}

-- ---- what comes of it

pub due_asked : {A : Type 0} (of : A → Replay) (delimiter layout : ℕ) (r : Request) (files : List File) (asked : Result A JobFault) (own : A) (replay : Replay) (answer : Result (List File) JobFault) →
    Ok own ≡ asked → replay ≡ of own → delimiter ≡ layout → IsReplayDue delimiter r replay files answer → IsReplayOf of layout r files asked answer
due_asked {A} of delimiter layout r files asked own replay answer is same delimits due =
    subst (λ (a : Result A JobFault). IsReplayOf of layout r files a answer) is
    (subst (λ (d : ℕ). IsReplayDue d r (of own) files answer) delimits (subst (λ (p : Replay). IsReplayDue delimiter r p files answer) same due))

refused_due : {A : Type 0} (of : A → Replay) (layout : ℕ) (r : Request) (files : List File) (asked : Result A JobFault) (fault : JobFault) → Err fault ≡ asked →
    IsReplayOf of layout r files asked (Err fault)
refused_due {A} of layout r files asked fault is = subst (λ (a : Result A JobFault). IsReplayOf of layout r files a (Err fault)) is refl

-- what is asked is refused
pub refused_asked : {A : Type 0} (of : A → Replay) (told : Option (List File)) (layout : ℕ) (r : Request) (asked : Result A JobFault) (fault : JobFault) → Err fault ≡ asked →
    IfSome told (λ files. IsDecided job_status due_of (IsReplayOf of layout r files asked) (Err fault))
refused_asked of None layout r asked fault is = tt
refused_asked of (Some files) layout r asked fault is = λ free. refused_due of layout r files asked fault is

-- memory ran out
pub no_memory_asked : {A : Type 0} (of : A → Replay) (told : Option (List File)) (layout : ℕ) (r : Request) (asked : Result A JobFault) →
    IfSome told (λ files. IsDecided job_status due_of (IsReplayOf of layout r files asked) (Err job.Memory))
no_memory_asked of None layout r asked = tt
no_memory_asked of (Some files) layout r asked = λ free. absurd (cc)

-- it is replayed
pub replayed_asked : {A : Type 0} (of : A → Replay) (told : Option (List File)) (delimiter layout : ℕ) (r : Request) (asked : Result A JobFault) (own : A) (replay : Replay) (answer : Result Job JobFault) →
    Ok own ≡ asked → replay ≡ of own → delimiter ≡ layout → IfSome told (λ files. IsDecided job_status due_of (IsReplayDue delimiter r replay files) answer) →
    IfSome told (λ files. IsDecided job_status due_of (IsReplayOf of layout r files asked) answer)
replayed_asked of None delimiter layout r asked own replay answer is same delimits decided = tt
replayed_asked of (Some files) delimiter layout r asked own replay (Ok job) is same delimits decided =
    due_asked of delimiter layout r files asked own replay (Ok (due_of job)) is same delimits decided
replayed_asked of (Some files) delimiter layout r asked own replay (Err fault) is same delimits decided = λ free.
    due_asked of delimiter layout r files asked own replay (Err fault) is same delimits (decided free)

-- ---- the names that are asked

pub no_name_told : {A : Type 0} (of : A → Replay) (told : Option (List File)) (r : Request) (asked : Result A JobFault) (before : Option (List (List ℕ))) →
    IfSome told (λ files. AskedPrefixOf (paths_of of r files asked) before before)
no_name_told of None r asked before = tt
no_name_told of (Some files) r asked before = none_first (paths_of of r files asked) before

pub no_name : {A : Type 0} (of : A → Replay) (r : Request) (asked : Result A JobFault) (before : Option (List (List ℕ))) → AskedPrefixOf (possible_of of r asked) before before
no_name of r asked before = none_first (possible_of of r asked) before

pub names_told : {A : Type 0} (of : A → Replay) (told : Option (List File)) (r : Request) (asked : Result A JobFault) (own : A) (replay : Replay) (before now : Option (List (List ℕ))) →
    Ok own ≡ asked → replay ≡ of own → IfSome told (λ files. AskedPrefixOf (paths_read r replay files) before now) →
    IfSome told (λ files. AskedPrefixOf (paths_of of r files asked) before now)
names_told of None r asked own replay before now is same first = tt
names_told {A} of (Some files) r asked own replay before now is same first =
    subst (λ (a : Result A JobFault). AskedPrefixOf (paths_of of r files a) before now) is
    (subst (λ (p : Replay). AskedPrefixOf (paths_read r p files) before now) same first)

pub names_possible : {A : Type 0} (of : A → Replay) (r : Request) (asked : Result A JobFault) (own : A) (replay : Replay) (before now : Option (List (List ℕ))) →
    Ok own ≡ asked → replay ≡ of own → AskedPrefixOf (input_paths r replay) before now → AskedPrefixOf (possible_of of r asked) before now
names_possible {A} of r asked own replay before now is same first =
    subst (λ (a : Result A JobFault). AskedPrefixOf (possible_of of r a) before now) is
    (subst (λ (p : Replay). AskedPrefixOf (input_paths r p) before now) same first)

-- ---- it can be replayed

module _ (plan : Project) (limits : IsInLimits plan) (table : Option ℕ) (first count : ℕ) (places : range_with_len first count ≡ chosen_places plan table) (some : 1 ≤ count) (few : count ≤ 64) where
  names-some : (names : List (List ℕ)) → names ≡ map (name_at plan.schema) (range_with_len first count) → 1 ≤ length names
  names-some names are = omega (arith, some, ap length are, length-map-range_with_len (name_at plan.schema) first count)

  names-few : (names : List (List ℕ)) → names ≡ map (name_at plan.schema) (range_with_len first count) → length names ≤ 64
  names-few names are = omega (arith, few, ap length are, length-map-range_with_len (name_at plan.schema) first count)

  csv-can : (format : Format) → IfSome table (λ place. place < length plan.schema.tables) → (long : ℕ) → long ≡ count →
      IfSome (columns_by format plan (range_with_len first count)) (IsCsvOfTables (way.Apply One) long)
  csv-can Copy choice long is = tt
  csv-can Sql choice long is = tt
  csv-can Csv choice long is = record {
    applies = refl;
    alike = length-map-range_with_len (column_names plan.schema) first count ∙ sym is;
    columns = subst (λ (list : List ℕ). All AreColumns (map (column_names plan.schema) list)) (sym places) (columns-are plan limits table choice);
  }

  pub can-apply : (r : Request) (names : List (List ℕ)) (csv : Option (List (List (List ℕ)))) → IfSome table (λ place. place < length plan.schema.tables) → r.from ≤ r.to → r.to ≤ (layout_of plan).units →
      names ≡ map (name_at plan.schema) (range_with_len first count) → csv ≡ columns_by r.format plan (range_with_len first count) →
      CanReplay r (record { way = way.Apply One; names = names; csv = csv })
  can-apply r names csv choice order within named told = record {
    some = names-some names named;
    few = names-few names named;
    units = record { order = order; most = omega (arith, within, limits.unit_limit) };
    csv = subst (λ (tables : Option (List (List (List ℕ)))). IfSome tables (IsCsvOfTables (way.Apply One) (length names))) (sym told)
        (csv-can r.format choice (length names) (ap length named ∙ length-map-range_with_len (name_at plan.schema) first count));
  }

  pub can-revert : (r : Request) (names : List (List ℕ)) → r.to ≤ r.from → r.from ≤ (layout_of plan).units → names ≡ map (name_at plan.schema) (range_with_len first count) →
      CanReplay r (record { way = way.Undo; names = names; csv = None })
  can-revert r names order within named = record {
    some = names-some names named;
    few = names-few names named;
    units = record { order = order; most = omega (arith, within, limits.unit_limit) };
    csv = tt;
  }

pub can-apply_detail : (plan : Project) → IsInLimits plan → (r : Request) (detail : Detail) (replay : Replay) → r.from ≤ r.to → r.to ≤ (layout_of plan).units → replay ≡ apply_of_detail detail →
    CanReplay r replay
can-apply_detail plan limits r detail replay order within is = subst (CanReplay r) (sym is) (record {
  some = omega arith;
  few = omega arith;
  units = record { order = order; most = omega (arith, within, limits.unit_limit) };
  csv = tt;
})
