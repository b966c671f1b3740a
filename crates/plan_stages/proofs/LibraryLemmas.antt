-- What is left of the library, stage by stage.
use Rattle.std.proofs.Common.{◌≡◌, ◌≢◌, ◌≤◌, ◌+◌, ℕ, Bool, false, List, Option, None, Some, Result, Ok, Err, inl, inr, refl, sym, subst, ◌∙◌}
use Rattle.std.specs.Prelude.{◌⊎◌}
use Rattle.std.specs.Option.{option_map}
use Rattle.dictionaries.specs.declared.fault.DictFault.{DictFault}
use Rattle.dictionaries.specs.declared.fault.DictFault.TheVariants as grammar
use Rattle.pd_outside.proofs.Counts.{failed_then, unfailed_same, unfailed_then}
use Rattle.pd_outside.specs.Faults.{Counts, FailedAtLast, Unfailed}
use Rattle.pd_outside.specs.Files.{File}
use Rattle.pd_outside.specs.Library.{Content, read_out}
use Rattle.pd_outside.specs.declared.faults.ReadFault.{ReadFault}
use Rattle.pd_outside.specs.declared.faults.ReadFault.TheVariants as reading
use Rattle.refusals.specs.Statuses.{cause_status, plan_status, reading_status}
use Rattle.refusals.specs.declared.refusal.DictionaryCause.TheVariants as cause
use Rattle.refusals.specs.declared.refusal.PlanFault.TheVariants as plan
use Rattle.schema_check.specs.declared.checker.CheckFault.{CheckFault}
use Rattle.schema_check.specs.declared.checker.CheckFault.TheVariants as check
use Rattle.schema_read.specs.declared.read.ReadSchemaFault.{ReadSchemaFault}
use Rattle.schema_read.specs.declared.read.ReadSchemaFault.TheVariants as schema
use Rattle.plan_stages.specs.Limits.{dictionary_limit}
use Rattle.plan_stages.specs.Stages.{told_files, IsReadOut, LibraryAfter}

-- ---- where all that was asked was read

-- a status that tells of the library neither a failed read nor a file that is too long
abbrev pub IsOfItself : ℕ → Type 0
IsOfItself status = (status ≢ 5) × (status ≢ 10)

-- nothing was done to the library after what was read
pub after_done : (status limit other : ℕ) (before : Option (List File)) (now : Option Content) (taken : ℕ) (is_started : Bool) (counts_before counts_now : Counts) →
    IsOfItself status → LibraryAfter 0 limit before now taken is_started counts_before counts_now →
    LibraryAfter status other before now taken is_started counts_before counts_now
after_done status limit other before now taken is_started counts_before counts_now of_itself done = record {
  files = done.files;
  read_out = λ zero. done.read_out refl;
  within = λ zero. done.within refl;
  too_long = λ ten. absurd (of_itself.1 ten);
  failed = λ five. absurd (of_itself.0 five);
  stopped = λ five. absurd (of_itself.0 five);
  unfailed = λ five. done.unfailed (λ e. absurd (cc));
}

-- what was read is read to its end
pub all_read : (before : Option (List File)) (now : Option Content) (taken : ℕ) (is_started : Bool) (counts_before counts_now : Counts) →
    told_files now ≡ before → IsReadOut now → taken ≤ dictionary_limit → Unfailed counts_before counts_now →
    LibraryAfter 0 0 before now taken is_started counts_before counts_now
all_read before now taken is_started counts_before counts_now files out within same = record {
  files = files;
  read_out = λ zero. out;
  within = λ zero. within;
  too_long = λ ten. absurd (cc);
  failed = λ five. absurd (cc);
  stopped = λ five. absurd (cc);
  unfailed = λ other. same;
}

-- nothing more was read
pub untouched : (status limit : ℕ) (content : Option Content) (taken : ℕ) (is_started : Bool) (counts : Counts) → IsOfItself status → IsReadOut content →
    taken ≤ dictionary_limit → LibraryAfter status limit (told_files content) content taken is_started counts counts
untouched status limit content taken is_started counts of_itself out within =
    after_done status 0 limit (told_files content) content taken is_started counts counts of_itself
    (all_read (told_files content) content taken is_started counts counts refl out within (unfailed_same counts))

-- ---- one file after what was read

read_out_is : (before now : Option Content) → now ≡ option_map read_out before → IsReadOut now
read_out_is None now is = subst IsReadOut (sym is) tt
read_out_is (Some c) now is = subst IsReadOut (sym is) refl

pub unfailed_on_ok : {A : Type 0} (items : A) (before now : Counts) → (◌≡◌ {A = Result A ReadFault} (Ok items) (Err reading.Failed)) ⊎ Unfailed before now → Unfailed before now
unfailed_on_ok items before now (inl failed) = absurd (cc)
unfailed_on_ok items before now (inr same) = same

-- a file was read to its end
pub file_read : {A : Type 0} (items : A) (name : List ℕ) (before now : Option Content) (taken : ℕ) (is_started : Bool) (counts_before counts_now : Counts) →
    told_files now ≡ told_files before → now ≡ option_map read_out before → taken ≤ dictionary_limit →
    (◌≡◌ {A = Result A ReadFault} (Ok items) (Err reading.Failed)) ⊎ Unfailed counts_before counts_now →
    LibraryAfter 0 0 (told_files before) now taken is_started counts_before counts_now
file_read items name before now taken is_started counts_before counts_now files out within same =
    all_read (told_files before) now taken is_started counts_before counts_now files (read_out_is before now out) within
    (unfailed_on_ok items counts_before counts_now same)

unfailed_on_other : {A : Type 0} (fault : ReadFault) (before now : Counts) → fault ≢ reading.Failed →
    (◌≡◌ {A = Result A ReadFault} (Err fault) (Err reading.Failed)) ⊎ Unfailed before now → Unfailed before now
unfailed_on_other fault before now other (inl failed) = absurd (other (cc))
unfailed_on_other fault before now other (inr same) = same

-- a file wasn't read
pub file_unread : {A : Type 0} (fault : ReadFault) (limit : ℕ) (before : Option (List File)) (now : Option Content) (taken : ℕ) (is_started : Bool) (counts_before counts_now : Counts) →
    told_files now ≡ before → (◌≡◌ {A = Result A ReadFault} (Err fault) (Err reading.TooLong) → taken ≡ limit + 1) →
    (◌≡◌ {A = Result A ReadFault} (Err fault) (Err reading.Failed) → FailedAtLast counts_before counts_now) →
    (◌≡◌ {A = Result A ReadFault} (Err fault) (Err reading.Failed) → is_started ≡ false) →
    (◌≡◌ {A = Result A ReadFault} (Err fault) (Err reading.Failed)) ⊎ Unfailed counts_before counts_now →
    LibraryAfter (reading_status fault) limit before now taken is_started counts_before counts_now
file_unread reading.Failed limit before now taken is_started counts_before counts_now files long failed stopped same = record {
  files = files;
  read_out = λ zero. absurd (cc);
  within = λ zero. absurd (cc);
  too_long = λ ten. absurd (cc);
  failed = λ five. failed refl;
  stopped = λ five. stopped refl;
  unfailed = λ other. absurd (other refl);
}
file_unread reading.TooLong limit before now taken is_started counts_before counts_now files long failed stopped same = record {
  files = files;
  read_out = λ zero. absurd (cc);
  within = λ zero. absurd (cc);
  too_long = λ ten. long refl;
  failed = λ five. absurd (cc);
  stopped = λ five. absurd (cc);
  unfailed = λ other. unfailed_on_other reading.TooLong counts_before counts_now (λ e. absurd (cc)) same;
}
file_unread reading.Memory limit before now taken is_started counts_before counts_now files long failed stopped same = record {
  files = files;
  read_out = λ zero. absurd (cc);
  within = λ zero. absurd (cc);
  too_long = λ ten. absurd (cc);
  failed = λ five. absurd (cc);
  stopped = λ five. absurd (cc);
  unfailed = λ other. unfailed_on_other reading.Memory counts_before counts_now (λ e. absurd (cc)) same;
}

-- what was read before left the files as they were, and no call failed in it
pub after_step : (status limit : ℕ) (before mid : Option (List File)) (now : Option Content) (taken : ℕ) (is_started : Bool) (counts_before counts_mid counts_now : Counts) →
    mid ≡ before → Unfailed counts_before counts_mid → LibraryAfter status limit mid now taken is_started counts_mid counts_now →
    LibraryAfter status limit before now taken is_started counts_before counts_now
after_step status limit before mid now taken is_started counts_before counts_mid counts_now files sofar after = record {
  files = after.files ∙ files;
  read_out = after.read_out;
  within = after.within;
  too_long = after.too_long;
  failed = λ five. failed_then counts_before counts_mid counts_now sofar (after.failed five);
  stopped = after.stopped;
  unfailed = λ other. unfailed_then counts_before counts_mid counts_now sofar (after.unfailed other);
}

-- ---- what tells nothing of the library

pub grammar_of_itself : (fault : DictFault) → IsOfItself (cause_status (cause.Grammar fault))
grammar_of_itself (grammar.NotUtf8 at) = (λ e. absurd (cc), λ e. absurd (cc))
grammar_of_itself (grammar.LongEntry line) = (λ e. absurd (cc), λ e. absurd (cc))
grammar_of_itself (grammar.BadWeight line) = (λ e. absurd (cc), λ e. absurd (cc))
grammar_of_itself (grammar.TooMany line) = (λ e. absurd (cc), λ e. absurd (cc))
grammar_of_itself grammar.Empty = (λ e. absurd (cc), λ e. absurd (cc))
grammar_of_itself grammar.Memory = (λ e. absurd (cc), λ e. absurd (cc))

pub memory_of_itself : IsOfItself 7
memory_of_itself = (λ e. absurd (cc), λ e. absurd (cc))

pub done_of_itself : IsOfItself 0
done_of_itself = (λ e. absurd (cc), λ e. absurd (cc))

pub check_of_itself : (fault : CheckFault) → IsOfItself (plan_status (plan.Check fault))
check_of_itself check.Memory = (λ e. absurd (cc), λ e. absurd (cc))
check_of_itself (check.Rule number table column) = (λ e. absurd (cc), λ e. absurd (cc))

pub schema_of_itself : (fault : ReadSchemaFault) → IsOfItself (plan_status (plan.Schema fault))
schema_of_itself schema.Syntax = (λ e. absurd (cc), λ e. absurd (cc))
schema_of_itself (schema.Shape place key expected) = (λ e. absurd (cc), λ e. absurd (cc))
schema_of_itself schema.Memory = (λ e. absurd (cc), λ e. absurd (cc))
schema_of_itself schema.ParseMemory = (λ e. absurd (cc), λ e. absurd (cc))
