-- What a schema's name comes to, as it is found.
use Rattle.std.proofs.Common.{◌≡◌, ◌≤◌, ℕ, suc, List, [], ◌∷◌, ◌++◌, length, take, Option, None, Some, Result, Ok, Err, inl, inr, refl, ap, sym, subst, ◌∙◌, arith}
use Rattle.std.specs.Prelude.{IfOk, IfSome, OnOk}
use Rattle.std.specs.Option.{option_map}
use Rattle.std.proofs.lemmas.Bool.Decides.{nat_tests}
use Rattle.pd_outside.specs.Files.{File, bytes_of}
use Rattle.pd_outside.specs.Library.{Content, ask, AskedAtMost, AskedPrefixOf}
use Rattle.refusals.specs.Statuses.{plan_status}
use Rattle.refusals.specs.declared.refusal.PlanFault.{PlanFault}
use Rattle.schema_facts.specs.Dictionaries.{Project}
use Rattle.schema_read.specs.Schema.{schema_of}
use Rattle.plan_stages.specs.Limits.{schema_limit}
use Rattle.plan_stages.specs.PlanNames.{cited_by_read, cited_in, plan_names, possible_names, up_to_fault, AsksForPlan, AsksNames, PlanRead}
use Rattle.plan_stages.specs.Plans.{plan_in, plan_of_bytes, plan_of_text}
use Rattle.plan_stages.specs.Stages.{told_files, Decides}
use Rattle.plan_stages.proofs.DictionaryLemmas.{asked_also, asked_first, none_asked, IfSome-same}

-- ---- the schema's file

plan_of_bytes-within : (files : List File) (bytes : List ℕ) → length bytes ≤ schema_limit → plan_of_bytes files bytes ≡ plan_of_text files bytes
plan_of_bytes-within files bytes within = grind (arith, nat_tests)

-- what is decided of bytes is decided of their file
decided_for_file : (files : List File) (name bytes : List ℕ) (made : Result Project PlanFault) → bytes ≡ bytes_of files name → length bytes ≤ schema_limit →
    Decides plan_status (λ plan. plan) made (plan_of_text files bytes) → Decides plan_status (λ plan. plan) made (plan_in files name)
decided_for_file files name bytes (Ok made) whole within decided =
    ap (plan_of_bytes files) (sym whole) ∙ plan_of_bytes-within files bytes within ∙ decided
decided_for_file files name bytes (Err fault) whole within decided = λ free.
    ap (plan_of_bytes files) (sym whole) ∙ plan_of_bytes-within files bytes within ∙ decided free

pub decided_for_name : (content : Option Content) (told : Option (List File)) (name bytes text : List ℕ) (made : Result Project PlanFault) →
    told ≡ told_files content → IfSome content (λ c. bytes ≡ bytes_of c.files name) → length bytes ≤ schema_limit → text ≡ bytes →
    IfSome told (λ files. Decides plan_status (λ plan. plan) made (plan_of_text files text)) →
    IfSome (told_files content) (λ files. Decides plan_status (λ plan. plan) made (plan_in files name))
decided_for_name None told name bytes text made same whole within is decided = tt
decided_for_name (Some c) told name bytes text made same whole within is decided =
    decided_for_file c.files name text made (is ∙ whole) (subst (λ (b : List ℕ). length b ≤ schema_limit) (sym is) within)
    (IfSome-same (λ files. Decides plan_status (λ plan. plan) made (plan_of_text files text)) told (Some c.files) same decided)

-- ---- the names that are asked

-- nothing was asked
asks_nothing : (name : List ℕ) (told : Option (List File)) (before : Option (List (List ℕ))) → AsksForPlan name told before before
asks_nothing name None before = record { told = tt; bytes = []; untold = record { count = 0; asked = none_asked before } }
asks_nothing name (Some files) before = record {
  told = record { count = 0; asked = none_asked before };
  bytes = [];
  untold = record { count = 0; asked = none_asked before };
}

-- the schema's name was asked, and nothing else
asks_schema : (name : List ℕ) (told : Option (List File)) (before now : Option (List (List ℕ))) → now ≡ ask name before → AsksForPlan name told before now
asks_schema name None before now once = record { told = tt; bytes = []; untold = asked_first _ (name ∷ []) (cited_in []) before now once refl }
asks_schema name (Some files) before now once = record {
  told = asked_first _ (name ∷ []) (up_to_fault files (cited_in (bytes_of files name))) before now once refl;
  bytes = [];
  untold = asked_first _ (name ∷ []) (cited_in []) before now once refl;
}

pub asks_schema_at_most : (name : List ℕ) (told : Option (List File)) (before now : Option (List (List ℕ))) → AskedAtMost name before now → AsksForPlan name told before now
asks_schema_at_most name told before now (inl once) = asks_schema name told before now once
asks_schema_at_most name told before now (inr never) = subst (AsksForPlan name told before) (sym never) (asks_nothing name told before)

-- one name, and after it the first of a list
asked_behind : (name : List ℕ) (list : List (List ℕ)) (before mid now : Option (List (List ℕ))) → mid ≡ ask name before → AskedPrefixOf list mid now →
    AskedPrefixOf (name ∷ list) before now
asked_behind name list before mid now once more = record {
  count = suc more.count;
  asked = more.asked ∙ ap (option_map (λ (names : List (List ℕ)). names ++ take more.count list)) once ∙ asked_also (name ∷ []) (take more.count list) before;
}

cited_in-within : (bytes : List ℕ) → length bytes ≤ schema_limit → cited_in bytes ≡ cited_by_read (schema_of bytes)
cited_in-within bytes within = grind (arith, nat_tests)

cited_in-text : (bytes text : List ℕ) → length bytes ≤ schema_limit → text ≡ bytes → cited_by_read (schema_of text) ≡ cited_in bytes
cited_in-text bytes text within is = ap (λ (b : List ℕ). cited_by_read (schema_of b)) is ∙ sym (cited_in-within bytes within)

-- the schema's name was asked, and then some of its dictionaries'
asks_cited : (content : Option Content) (told : Option (List File)) (name bytes text : List ℕ) (before mid now : Option (List (List ℕ))) →
    told ≡ told_files content → IfSome content (λ c. bytes ≡ bytes_of c.files name) → cited_by_read (schema_of text) ≡ cited_in bytes → mid ≡ ask name before →
    AsksNames (cited_by_read (schema_of text)) told mid now → AsksForPlan name (told_files content) before now
asks_cited None told name bytes text before mid now same whole cited once asks = record {
  told = tt;
  bytes = bytes;
  untold = asked_behind name (cited_in bytes) before mid now once (subst (λ (list : List (List ℕ)). AskedPrefixOf list mid now) cited asks.untold);
}
asks_cited (Some c) told name bytes text before mid now same whole cited once asks = record {
  told =
      asked_behind name (up_to_fault c.files (cited_in (bytes_of c.files name))) before mid now once
      (subst (λ (list : List (List ℕ)). AskedPrefixOf (up_to_fault c.files list) mid now) (cited ∙ ap cited_in whole)
      (IfSome-same (λ (f : List File). AskedPrefixOf (up_to_fault f (cited_by_read (schema_of text))) mid now) told (Some c.files) same asks.told));
  bytes = bytes;
  untold = asked_behind name (cited_in bytes) before mid now once (subst (λ (list : List (List ℕ)). AskedPrefixOf list mid now) cited asks.untold);
}

pub asks_then : (content : Option Content) (told : Option (List File)) (name bytes text : List ℕ) (before mid now : Option (List (List ℕ))) →
    told ≡ told_files content → IfSome content (λ c. bytes ≡ bytes_of c.files name) → length bytes ≤ schema_limit → text ≡ bytes → mid ≡ ask name before →
    AsksNames (cited_by_read (schema_of text)) told mid now → AsksForPlan name (told_files content) before now
asks_then content told name bytes text before mid now same whole within is once asks =
    asks_cited content told name bytes text before mid now same whole (cited_in-text bytes text within is) once asks

-- ---- a plan that was made

-- all names that may be asked for are asked for, where all dictionaries are read
names_in_all : (content : Option Content) (told : Option (List File)) (name bytes : List ℕ) (cited : List (List ℕ)) →
    told ≡ told_files content → IfSome content (λ c. bytes ≡ bytes_of c.files name) → cited ≡ cited_in bytes →
    IfSome told (λ files. up_to_fault files cited ≡ cited) → IfSome (told_files content) (λ files. plan_names files name ≡ possible_names bytes name)
names_in_all None told name bytes cited same whole is readable = tt
names_in_all (Some c) told name bytes cited same whole is readable =
    ap (λ (rest : List (List ℕ)). name ∷ rest)
    (ap (λ (b : List ℕ). up_to_fault c.files (cited_in b)) (sym whole) ∙ ap (up_to_fault c.files) (sym is)
    ∙ IfSome-same (λ (f : List File). up_to_fault f cited ≡ cited) told (Some c.files) same readable ∙ is)

-- a schema's name was asked, and then all of its dictionaries'
asked_in_all : (name : List ℕ) (cited dictionaries : List (List ℕ)) (before mid now : Option (List (List ℕ))) → cited ≡ dictionaries →
    mid ≡ ask name before → now ≡ option_map (λ all. all ++ cited) mid → now ≡ option_map (λ all. all ++ (name ∷ dictionaries)) before
asked_in_all name cited dictionaries before mid now is once asked =
    asked ∙ ap (λ (list : List (List ℕ)). option_map (λ (all : List (List ℕ)). all ++ list) mid) is
    ∙ ap (option_map (λ (all : List (List ℕ)). all ++ dictionaries)) once
    ∙ asked_also (name ∷ []) dictionaries before

-- a plan was made of the schema's text, and of dictionaries that were all read
pub plan_read : (content : Option Content) (told : Option (List File)) (name bytes text : List ℕ) (before mid now : Option (List (List ℕ)))
    (made : Result Project PlanFault) → told ≡ told_files content → IfSome content (λ c. bytes ≡ bytes_of c.files name) → length bytes ≤ schema_limit →
    text ≡ bytes → mid ≡ ask name before → IfOk made (λ plan. schema_of text ≡ Ok plan.schema) →
    OnOk made (now ≡ option_map (λ all. all ++ cited_by_read (schema_of text)) mid) →
    OnOk made (IfSome told (λ files. up_to_fault files (cited_by_read (schema_of text)) ≡ cited_by_read (schema_of text))) →
    IfOk made (λ plan. PlanRead plan.schema name (told_files content) before now)
plan_read content told name bytes text before mid now (Err fault) same whole within is once read asked readable = tt
plan_read content told name bytes text before mid now (Ok plan) same whole within is once read asked readable =
    let cited : cited_by_read (schema_of text) ≡ cited_in bytes = cited_in-text bytes text within is in
    record {
      bytes = bytes;
      within = within;
      read = ap schema_of (sym is) ∙ read;
      told = names_in_all content told name bytes (cited_by_read (schema_of text)) same whole cited readable;
      asked = asked_in_all name (cited_by_read (schema_of text)) (cited_in bytes) before mid now cited once asked;
    }
