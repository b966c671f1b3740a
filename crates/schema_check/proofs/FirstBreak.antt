-- The site of a broken rule is the first at which it is broken.
use Rattle.std.proofs.Common.{◌≡◌, ◌⊎◌, inl, inr, ℕ, suc, ◌<◌, if◌then◌else◌, Bool, true, false, length, List, slice_get, Option, Some, None, refl, ap, ◌∙◌, subst, arith}
use Rattle.std.specs.Option.{option_or, option_map}
use Rattle.schema_plan.specs.declared.broken.Broken.{Broken}
use Rattle.schema_plan.specs.declared.rules.Rule.{Rule}
use Rattle.schema_plan.specs.declared.site.Site.{Site}
use Rattle.schema_plan.specs.declared.site.Site.TheVariants.{Whole, OfTable, OfColumn}
use Rattle.schema_facts.specs.Dictionaries.{Project}
use Rattle.schema_plan.specs.Rules.{holds, first_found, break_at, break_in_table, first_break, broken_rule, IsFirstBreak, Keeps}
use Rattle.schema_plan.specs.Sites.{columns_at, IsSiteOf, table_number, column_number}
use Rattle.schema_check.proofs.Kept.{table_holds, found_at_first_place, holds_from_none, one_of_some, keeps_from_none, FoundAt}

broken_from_some : (rule : Rule) (project : Project) (at site : Site) → break_at rule project at ≡ Some site → (holds rule project at ≡ false) × (at ≡ site)
broken_from_some rule project at site h = of_test (holds rule project at) h
  where
    of_test : (test : Bool) → if test then None else Some at ≡ Some site → (test ≡ false) × (at ≡ site)
    of_test true h = cc
    of_test false h = (refl, one_of_some _ _ h)

-- something is found first, or else later
found_cases : {A : Type 0} (o rest : Option A) (b : A) → option_or o rest ≡ Some b → (o ≡ Some b) ⊎ ((o ≡ None) × (rest ≡ Some b))
found_cases None rest b h = inr (refl, h)
found_cases (Some x) rest b h = inl h

-- a rule holds at the sites of one table before a column
abbrev HoldsBefore : Rule → Project → ℕ → ℕ → Type 0
HoldsBefore rule project table column =
    (other : Site) → IsSiteOf project.schema other → table_number other ≡ suc table → column_number other < column → holds rule project other ≡ true

-- what holds of the whole, in the tables before one and in it before a column holds at each site before
before_site : (rule : Rule) (project : Project) (i column : ℕ) → holds rule project Whole ≡ true → ((k : ℕ) → k < i → break_in_table rule project k ≡ None) → HoldsBefore rule project i column → (other : Site) → IsSiteOf project.schema other → (table_number other < suc i) ⊎ ((table_number other ≡ suc i) × (column_number other < column)) → holds rule project other ≡ true
before_site rule project i column whole tables own Whole is_site before = whole
before_site rule project i column whole tables own (OfTable k) is_site (inl lt) = table_holds rule project k (tables k (omega arith)) (OfTable k) is_site refl
before_site rule project i column whole tables own (OfColumn k c) is_site (inl lt) = table_holds rule project k (tables k (omega arith)) (OfColumn k c) is_site refl
before_site rule project i column whole tables own other is_site (inr e) = own other is_site e.0 e.1

own_columns : (rule : Rule) (project : Project) (i j : ℕ) → holds rule project (OfTable i) ≡ true → ((k : ℕ) → k < j → break_at rule project (OfColumn i k) ≡ None) → HoldsBefore rule project i (suc j)
own_columns rule project i j table columns Whole is_site at lt = absurd (omega arith)
own_columns rule project i j table columns (OfTable t) is_site at lt =
    let same : i ≡ t = omega arith in
    subst (λ (p : ℕ). holds rule project (OfTable p) ≡ true) same table
own_columns rule project i j table columns (OfColumn t c) is_site at lt =
    let same : i ≡ t = omega arith in
    subst (λ (p : ℕ). holds rule project (OfColumn p c) ≡ true) same (holds_from_none rule project (OfColumn i c) (columns c (omega arith)))

in_tables : (rule : Rule) (project : Project) (site : Site) (i : ℕ) → i < length project.schema.tables → holds rule project Whole ≡ true → ((k : ℕ) → k < i → break_in_table rule project k ≡ None) → break_in_table rule project i ≡ Some site → IsFirstBreak rule project site
in_tables rule project site i within whole tables h =
    elim (found_cases (break_at rule project (OfTable i)) (first_found (λ column. break_at rule project (OfColumn i column)) _) site h) [
      | inl here ↦
          let out = broken_from_some rule project (OfTable i) site here in
          subst (IsFirstBreak rule project) out.1 (record {
            is_site = within;
            breaks = out.0;
            before = before_site rule project i 0 whole tables (λ other is_site at lt. absurd (omega arith));
          })
      | inr behind ↦
          let found = found_at_first_place (λ column. break_at rule project (OfColumn i column)) (length (columns_at project.schema i)) site behind.1 in
          let out = broken_from_some rule project (OfColumn i found.0) site found.2 in
          subst (IsFirstBreak rule project) out.1 (record {
            is_site = (within, found.1);
            breaks = out.0;
            before = before_site rule project i (suc found.0) whole tables (own_columns rule project i found.0 (holds_from_none rule project (OfTable i) behind.0) found.3);
          })
    ]

pub is_first_break : (rule : Rule) (project : Project) (site : Site) → first_break rule project ≡ Some site → IsFirstBreak rule project site
is_first_break rule project site h =
    elim (found_cases (break_at rule project Whole) (first_found (break_in_table rule project) _) site h) [
      | inl here ↦
          let out = broken_from_some rule project Whole site here in
          subst (IsFirstBreak rule project) out.1 (record {
            is_site = tt;
            breaks = out.0;
            before = λ other is_site before. elim before [ inl lt ↦ absurd (omega arith) | inr e ↦ absurd (omega (arith, e.1)) ];
          })
      | inr behind ↦
          let found = found_at_first_place (break_in_table rule project) (length project.schema.tables) site behind.1 in
          in_tables rule project site found.0 found.1 (holds_from_none rule project Whole behind.0) found.3 found.2
    ]

-- ---- a rule with its site

abbrev broken_at : Rule → Site → Broken
broken_at rule site = record { rule = rule; site = site }

none_of_map : {A B : Type 0} (f : A → B) (o : Option A) → option_map f o ≡ None → o ≡ None
none_of_map f None h = refl
none_of_map f (Some x) h = cc

pub none_of_rule : (project : Project) (rule : Rule) → broken_rule project rule ≡ None → first_break rule project ≡ None
none_of_rule project rule h = none_of_map _ (first_break rule project) h

pub none_for_rule : (project : Project) (rule : Rule) → first_break rule project ≡ None → broken_rule project rule ≡ None
none_for_rule project rule h = ap (option_map (λ site. record { rule = rule; site = site })) h

-- a rule that is broken at a site, with the site
pub some_for_rule : (project : Project) (rule : Rule) (site : Site) → first_break rule project ≡ Some site → broken_rule project rule ≡ Some (broken_at rule site)
some_for_rule project rule site h = ap (option_map (broken_at rule)) h

some_of_rule : (rule : Rule) (o : Option Site) (broken : Broken) → option_map (λ (site : Site). broken_at rule site) o ≡ Some broken → (o ≡ Some broken.site) × (rule ≡ broken.rule)
some_of_rule rule None broken h = cc
some_of_rule rule (Some site) broken h =
    let same : broken_at rule site ≡ broken = one_of_some _ _ h in
    (ap (λ (b : Broken). Some b.site) same, ap (λ (b : Broken). b.rule) same)

-- the first rule of a list that is broken, at its first site
pub first_rule : (project : Project) (rules : List Rule) (broken : Broken) → FoundAt (broken_rule project) rules broken → (i : ℕ) × (slice_get rules i ≡ Some broken.rule) × IsFirstBreak broken.rule project broken.site × ((k : ℕ) (other : Rule) → k < i → slice_get rules k ≡ Some other → Keeps other project)
first_rule project rules broken found =
    let out = some_of_rule found.1 (first_break found.1 project) broken found.3 in (
      found.0,
      found.2 ∙ ap (λ rule. Some rule) out.1,
      subst (λ (rule : Rule). IsFirstBreak rule project broken.site) out.1 (is_first_break found.1 project broken.site out.0),
      λ k other lt at. keeps_from_none other project (none_of_rule project other (found.4 k other lt at)),
    )
