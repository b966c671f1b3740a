-- A rule that isn't broken holds at each site, and one that holds at each site isn't broken.
use Rattle.std.proofs.Common.{◌≡◌, ℕ, suc, zero, ◌<◌, if◌then◌else◌, Bool, true, false, List, [], ◌∷◌, length, slice_get, Option, Some, None, refl, sym, ap, ◌∙◌, subst, arith}
use Rattle.std.specs.List.{range_with_len}
use Rattle.std.specs.Option.{option_or}
use Rattle.std.proofs.lemmas.List.FromFn.{length-range_with_len, get_or-range_with_len}
use Rattle.std.proofs.lemmas.Option.{slice_get_within, slice_get-get_or}
use Rattle.schema_plan.specs.declared.rules.Rule.{Rule}
use Rattle.schema_plan.specs.declared.site.Site.{Site}
use Rattle.schema_plan.specs.declared.site.Site.TheVariants.{Whole, OfTable, OfColumn}
use Rattle.schema_facts.specs.Dictionaries.{Project}
use Rattle.schema_plan.specs.Rules.{holds, first_found, break_at, break_in_table, first_break, Keeps}
use Rattle.schema_plan.specs.Sites.{columns_at, IsSiteOf, table_number}

pub one_of_some : {A : Type 0} (a b : A) → Some a ≡ Some b → a ≡ b
one_of_some a b h = cc

-- where nothing is found first or second, nothing is found at either
pub option_or-None : {A : Type 0} (a b : Option A) → option_or a b ≡ None → (a ≡ None) × (b ≡ None)
option_or-None None b h = (refl, h)
option_or-None (Some x) b h = cc

both_none : {A : Type 0} (a b : Option A) → a ≡ None → b ≡ None → option_or a b ≡ None
both_none a b p q = ap (λ o. option_or o b) p ∙ q

-- where nothing is found in a list, nothing is found at any item
pub none_at : {A B : Type 0} (look : A → Option B) (xs : List A) → first_found look xs ≡ None → (i : ℕ) (x : A) → slice_get xs i ≡ Some x → look x ≡ None
none_at look [] h i x at = cc
none_at look (y ∷ xs) h zero x at =
    ap look (sym (one_of_some y x at)) ∙ (option_or-None (look y) (first_found look xs) h).0
none_at look (y ∷ xs) h (suc i) x at = none_at look xs ((option_or-None (look y) (first_found look xs) h).1) i x at

-- where nothing is found at any item, nothing is found in a list
pub none_found : {A B : Type 0} (look : A → Option B) (xs : List A) → ((i : ℕ) (x : A) → slice_get xs i ≡ Some x → look x ≡ None) → first_found look xs ≡ None
none_found look [] each = refl
none_found look (x ∷ xs) each =
    both_none (look x) (first_found look xs) (each 0 x refl) (none_found look xs (λ i y at. each (suc i) y at))

-- something is found at an item, and nothing at any before it
abbrev pub FoundAt : {A B : Type 0} → (A → Option B) → List A → B → Type 0
FoundAt {A} look xs b =
    (i : ℕ) × (x : A) × (slice_get xs i ≡ Some x) × (look x ≡ Some b)
    × ((k : ℕ) (y : A) → k < i → slice_get xs k ≡ Some y → look y ≡ None)

found_step : {A B : Type 0} (look : A → Option B) (xs : List A) (x : A) (b : B) (o : Option B) → look x ≡ o → option_or o (first_found look xs) ≡ Some b → (first_found look xs ≡ Some b → FoundAt look xs b) → FoundAt look (x ∷ xs) b
found_step look xs x b (Some y) e h behind =
    (0, x, refl, e ∙ h, λ k y lt at. absurd (omega arith))
found_step {A} look xs x b None e h behind =
    let later = behind h in
    (suc later.0, later.1, later.2, later.3, earlier later.0 later.4)
  where
    earlier : (i : ℕ) → ((k : ℕ) (y : A) → k < i → slice_get xs k ≡ Some y → look y ≡ None) → (k : ℕ) (y : A) → k < suc i → slice_get (x ∷ xs) k ≡ Some y → look y ≡ None
    earlier i none zero y lt at = ap look (sym (one_of_some x y at)) ∙ e
    earlier i none (suc k) y lt at = none k y (omega arith) at

-- what is found in a list is found at an item, and at none before it
pub found_at : {A B : Type 0} (look : A → Option B) (xs : List A) (b : B) → first_found look xs ≡ Some b → FoundAt look xs b
found_at look [] b h = cc
found_at look (x ∷ xs) b h = found_step look xs x b (look x) refl h (λ rest. found_at look xs b rest)

-- ---- places in a row

slice_get-range : (n k : ℕ) → k < n → slice_get (range_with_len 0 n) k ≡ Some k
slice_get-range n k h =
    slice_get-get_or (range_with_len 0 n) k 0 (omega (arith, length-range_with_len 0 n))
    ∙ ap (λ m. Some m) (get_or-range_with_len 0 n k 0 h ∙ omega arith)

place_of_item : (n i x : ℕ) → slice_get (range_with_len 0 n) i ≡ Some x → (i < n) × (x ≡ i)
place_of_item n i x at =
    let within : i < n = omega (arith, slice_get_within (range_with_len 0 n) i x at, length-range_with_len 0 n) in
    (within, one_of_some x i (sym at ∙ slice_get-range n i within))

pub none_at_place : {B : Type 0} (look : ℕ → Option B) (n : ℕ) → first_found look (range_with_len 0 n) ≡ None → (k : ℕ) → k < n → look k ≡ None
none_at_place look n h k lt = none_at look (range_with_len 0 n) h k k (slice_get-range n k lt)

none_at_places : {B : Type 0} (look : ℕ → Option B) (n : ℕ) → ((k : ℕ) → k < n → look k ≡ None) → first_found look (range_with_len 0 n) ≡ None
none_at_places look n each =
    none_found look (range_with_len 0 n)
    (λ i x at. let place = place_of_item n i x at in ap look place.1 ∙ each i place.0)

abbrev pub FoundAtPlace : {B : Type 0} → (ℕ → Option B) → ℕ → B → Type 0
FoundAtPlace look n b = (i : ℕ) × (i < n) × (look i ≡ Some b) × ((k : ℕ) → k < i → look k ≡ None)

pub found_at_first_place : {B : Type 0} (look : ℕ → Option B) (n : ℕ) (b : B) → first_found look (range_with_len 0 n) ≡ Some b → FoundAtPlace look n b
found_at_first_place look n b h =
    let found = found_at look (range_with_len 0 n) b h in
    let place = place_of_item n found.0 found.1 found.2 in
    (found.0, place.0, ap look (sym place.1) ∙ found.3, λ k lt. found.4 k k lt (slice_get-range n k (omega (arith, place.0, lt))))

-- ---- rules

pub holds_from_none : (rule : Rule) (project : Project) (site : Site) → break_at rule project site ≡ None → holds rule project site ≡ true
holds_from_none rule project site h = of_test (holds rule project site) site h
  where
    of_test : (test : Bool) (site : Site) → if test then None else Some site ≡ None → test ≡ true
    of_test true site h = refl
    of_test false site h = cc

pub none_from_holds : (rule : Rule) (project : Project) (site : Site) → holds rule project site ≡ true → break_at rule project site ≡ None
none_from_holds rule project site h = ap (λ test. if test then None else Some site) h

pub some_from_broken : (rule : Rule) (project : Project) (site : Site) → holds rule project site ≡ false → break_at rule project site ≡ Some site
some_from_broken rule project site h = ap (λ test. if test then None else Some site) h

-- a table in which a rule isn't broken keeps it, itself and its columns
pub table_holds : (rule : Rule) (project : Project) (k : ℕ) → break_in_table rule project k ≡ None → (site : Site) → IsSiteOf project.schema site → table_number site ≡ suc k → holds rule project site ≡ true
table_holds rule project k none Whole is_site at = absurd (omega arith)
table_holds rule project k none (OfTable t) is_site at =
    let same : k ≡ t = omega arith in
    subst (λ (p : ℕ). holds rule project (OfTable p) ≡ true) same
    (holds_from_none rule project (OfTable k) ((option_or-None _ _ none).0))
table_holds rule project k none (OfColumn t c) is_site at =
    let same : k ≡ t = omega arith in
    let within : c < length (columns_at project.schema k) = subst (λ (p : ℕ). c < length (columns_at project.schema p)) (sym same) is_site.1 in
    subst (λ (p : ℕ). holds rule project (OfColumn p c) ≡ true) same
    (holds_from_none rule project (OfColumn k c) (none_at_place (λ column. break_at rule project (OfColumn k column)) (length (columns_at project.schema k)) ((option_or-None _ _ none).1) c within))

pub keeps_from_none : (rule : Rule) (project : Project) → first_break rule project ≡ None → Keeps rule project
keeps_from_none rule project h Whole is_site = holds_from_none rule project Whole ((option_or-None _ _ h).0)
keeps_from_none rule project h (OfTable t) is_site =
    table_holds rule project t (none_at_place (break_in_table rule project) (length project.schema.tables) ((option_or-None _ _ h).1) t is_site) (OfTable t) is_site refl
keeps_from_none rule project h (OfColumn t c) is_site =
    table_holds rule project t (none_at_place (break_in_table rule project) (length project.schema.tables) ((option_or-None _ _ h).1) t is_site.0) (OfColumn t c) is_site refl

pub none_from_keeps : (rule : Rule) (project : Project) → Keeps rule project → first_break rule project ≡ None
none_from_keeps rule project keeps =
    both_none _ _ (none_from_holds rule project Whole (keeps Whole tt))
    (none_at_places (break_in_table rule project) (length project.schema.tables)
    (λ t within. both_none _ _ (none_from_holds rule project (OfTable t) (keeps (OfTable t) within))
    (none_at_places (λ column. break_at rule project (OfColumn t column)) (length (columns_at project.schema t))
    (λ c below. none_from_holds rule project (OfColumn t c) (keeps (OfColumn t c) (within, below))))))
