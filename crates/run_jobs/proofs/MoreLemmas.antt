-- Lists that are made item by item.
use Rattle.std.proofs.Common.{◌≡◌, ◌<◌, ◌≤◌, ◌+◌, ℕ, zero, suc, List, [], ◌∷◌, ◌++◌, append-nil, append_assoc, flat_map, get_or, length, map, take, Some, ap, arith, refl, sym, ◌∙◌, ap₂}
use Rattle.std.specs.Prelude.{slice_get}
use Rattle.std.specs.List.{range_with_len, flat_map}
use Rattle.std.proofs.lemmas.List.{map-append, take_all}
use Rattle.std.proofs.lemmas.List.FromFn.{map-range_with_len_more}
use Rattle.std.proofs.lemmas.Option.{slice_get-get_or}
use Rattle.schema_plan.proofs.WordListLemmas.{take_more_got}
use Rattle.update_box.specs.Parts.{Part, parts_at, parts_of}
use Rattle.update_box.specs.declared.parts.Content.{Content}

pub flat_map_more : {A : Type 0} (f : ℕ → List A) (first count : ℕ) → flat_map f (range_with_len first (count + 1)) ≡ flat_map f (range_with_len first count) ++ f (first + count)
flat_map_more f first zero =
    let here : first ≡ first + 0 = omega arith in
    append-nil (f first) ∙ ap f here
flat_map_more f first (suc count) =
    let all : suc count + 1 ≡ suc (count + 1) = omega arith in
    let there : first + 1 + count ≡ first + suc count = omega arith in
    ap (λ n. flat_map f (range_with_len first n)) all
    ∙ ap (λ rest. f first ++ rest) (flat_map_more f (first + 1) count ∙ ap (λ n. flat_map f (range_with_len (first + 1) count) ++ f n) there)
    ∙ sym (append_assoc (f first) (flat_map f (range_with_len (first + 1) count)) (f (first + suc count)))

-- one more item, as it is seen
pub viewed_more : {A B : Type 0} (view : A → B) (before now : List A) (item : A) → now ≡ before ++ item ∷ [] → map view now ≡ map view before ++ view item ∷ []
viewed_more view before now item is = ap (map view) is ∙ map-append view before (item ∷ [])

-- the parts of one more table
pub parts_more : (name : Part → List ℕ) (contents : List Content) (first number : ℕ) (mid now : List (List ℕ)) → mid ≡ map name (parts_of contents (range_with_len first number)) →
    now ≡ mid ++ map name (parts_at contents (first + number)) → now ≡ map name (parts_of contents (range_with_len first (number + 1)))
parts_more name contents first number mid now so_far step =
    step ∙ ap (λ front. front ++ map name (parts_at contents (first + number))) so_far
    ∙ sym (map-append name (parts_of contents (range_with_len first number)) (parts_at contents (first + number)))
    ∙ ap (map name) (sym (flat_map_more (parts_at contents) first number))

-- those of one more table
pub flat_map_got : {A B : Type 0} (f : A → List B) (items : List A) (place : ℕ) (item : A) → slice_get items place ≡ Some item →
    flat_map f (take (suc place) items) ≡ flat_map f (take place items) ++ f item
flat_map_got f [] place item at = absurd (cc)
flat_map_got f (i ∷ items) zero item at =
    let is : i ≡ item = cc in
    append-nil (f i) ∙ ap f is
flat_map_got f (i ∷ items) (suc place) item at =
    ap (λ rest. f i ++ rest) (flat_map_got f items place item at) ∙ sym (append_assoc (f i) (flat_map f (take place items)) (f item))

pub listed_more : {A B : Type 0} (f : A → List B) (items : List A) (place : ℕ) (item : A) (mid now : List B) → slice_get items place ≡ Some item →
    mid ≡ flat_map f (take place items) → now ≡ mid ++ f item → now ≡ flat_map f (take (place + 1) items)
listed_more f items place item mid now at so_far step =
    step ∙ ap (λ front. front ++ f item) so_far ∙ sym (flat_map_got f items place item at)
    ∙ ap (λ (n : ℕ). flat_map f (take n items)) (let more : suc place ≡ place + 1 = omega arith in more)

pub listed_at : {A B : Type 0} (f : A → List B) (items : List A) (place : ℕ) (d : A) (mid now : List B) → place < length items → mid ≡ flat_map f (take place items) →
    now ≡ mid ++ f (get_or items place d) → now ≡ flat_map f (take (place + 1) items)
listed_at f items place d mid now within so_far step = listed_more f items place (get_or items place d) mid now (slice_get-get_or items place d within) so_far step

pub all_listed : {A B : Type 0} (f : A → List B) (items : List A) (place : ℕ) (now : List B) → length items ≤ place → now ≡ flat_map f (take place items) → now ≡ flat_map f items
all_listed f items place now all so_far = so_far ∙ ap (flat_map f) (take_all place items all)

-- one more name of each
pub mapped_more : {A B : Type 0} (f : A → B) (items : List A) (place : ℕ) (item : A) (mid now : List B) → slice_get items place ≡ Some item →
    mid ≡ map f (take place items) → now ≡ mid ++ f item ∷ [] → now ≡ map f (take (place + 1) items)
mapped_more f items place item mid now at so_far step =
    step ∙ ap (λ front. front ++ f item ∷ []) so_far ∙ sym (map-append f (take place items) (item ∷ [])) ∙ ap (map f) (sym (take_more_got items place item at))

pub all_mapped : {A B : Type 0} (f : A → B) (items : List A) (place : ℕ) (now : List B) → length items ≤ place → now ≡ map f (take place items) → now ≡ map f items
all_mapped f items place now all so_far = so_far ∙ ap (map f) (take_all place items all)

-- one more of a range
pub ranged_more : {A : Type 0} (f : ℕ → A) (first number : ℕ) (mid now : List A) → mid ≡ map f (range_with_len first number) → now ≡ mid ++ f (first + number) ∷ [] →
    now ≡ map f (range_with_len first (number + 1))
ranged_more f first number mid now so_far step =
    step ∙ ap (λ front. front ++ f (first + number) ∷ []) so_far ∙ sym (map-range_with_len_more f first number (first + number) refl)

pub joined_more : (texts : List (List ℕ)) (place : ℕ) (text before now : List ℕ) → slice_get texts place ≡ Some text →
    before ≡ flat_map (λ t. t) (take place texts) → now ≡ before ++ text → now ≡ flat_map (λ t. t) (take (place + 1) texts)
joined_more texts place text before now at so_far step = listed_more (λ t. t) texts place text before now at so_far step

pub all_joined : (texts : List (List ℕ)) (place : ℕ) (now : List ℕ) → length texts ≤ place → now ≡ flat_map (λ t. t) (take place texts) → now ≡ flat_map (λ t. t) texts
all_joined texts place now all so_far = all_listed (λ t. t) texts place now all so_far

pub one_more : {A : Type 0} (f : ℕ → A) (from number : ℕ) (before now : List A) (made : A) → before ≡ map f (range_with_len from number) → made ≡ f (from + number) → now ≡ before ++ made ∷ [] →
    now ≡ map f (range_with_len from (number + 1))
one_more {A} f from number before now made so_far is pushed =
    pushed ∙ ap₂ (λ (xs : List A) (x : A). xs ++ x ∷ []) so_far is ∙ sym (map-range_with_len_more f from number (from + number) refl)
