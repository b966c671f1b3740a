-- What is kept stays as it was where more is kept.
use Rattle.std.proofs.Common.{◌≡◌, ℕ, zero, suc, ◌+◌, ◌-◌, ◌^◌, ◌<◌, ◌≤◌, List, [], ◌∷◌, ◌++◌, length, map, take, drop, get_or, refl, sym, ap, subst, ◌∙◌, arith}
use Rattle.std.specs.List.{slice_range, All}
use Rattle.std.proofs.lemmas.List.{length-append, length-drop, drop-append-le, take-append-le, append-nil, map_push}
use Rattle.std.proofs.lemmas.List.Elements.{All-append}
use Rattle.std.proofs.Math.Seq.{drop-append_seam, take-length}
use Rattle.id_permutation.specs.Placement.{height_of, width_of}
use Rattle.id_permutation.specs.Order.{Arrangement}
use Rattle.id_permutation.specs.OrderList.{OrderList}
use Rattle.id_permutation.specs.Kept.{arrangement_by, form_entries, tables_by, IsSmall, IsCountable, form_at, AreMore, arrangement_of, IsKeptOrder, AreKept}
use Rattle.id_permutation.specs.declared.forms.Form.{Form}
use Rattle.id_permutation.specs.declared.forms.Form.TheVariants.{InPlace, Rounds, Tables}
use Rattle.id_permutation.specs.declared.kept.KeptOrder.{KeptOrder}
use Rattle.id_permutation.proofs.TableLaws.{length-tables_of}

pub length-tables_by : (form : Form) (seed : ℕ) → length (tables_by form seed) ≡ form_entries form
length-tables_by (InPlace size) seed = refl
length-tables_by (Rounds size) seed = refl
length-tables_by (Tables size) seed = length-tables_of (height_of size) (width_of size) seed

pub IsSmall-fits : (form : Form) (kept : ℕ) → IsCountable form kept → IsSmall form
IsSmall-fits (InPlace size) kept fits = tt
IsSmall-fits (Rounds size) kept fits = tt
IsSmall-fits (Tables size) kept fits = fits.0

counted-more : (form : Form) (kept : ℕ) → kept < 2 ^ 32 → IsCountable form kept → kept + form_entries form < 2 ^ 32
counted-more (InPlace size) kept h fits = omega arith
counted-more (Rounds size) kept h fits = omega arith
counted-more (Tables size) kept h fits = fits.1

-- a part of a list stays where more is appended
slice_range-append : (xs ys : List ℕ) (i n : ℕ) → i + n ≤ length xs → slice_range (xs ++ ys) i (i + n) ≡ slice_range xs i (i + n)
slice_range-append xs ys i n h =
    let long : length (drop i xs) ≡ length xs - i = length-drop i xs in
    ap (take (i + n - i)) (drop-append-le i xs ys (omega arith))
    ∙ take-append-le (i + n - i) (drop i xs) ys (omega arith)

-- and what is appended is a part
slice_range-appended : (xs ys : List ℕ) (i n : ℕ) → i ≡ length xs → n ≡ length ys → slice_range (xs ++ ys) i (i + n) ≡ ys
slice_range-appended xs ys i n first long =
    let past : i + n - i ≡ length ys = omega arith in
    ap (λ (k : ℕ). take k (drop i (xs ++ ys))) past
    ∙ ap (λ (k : ℕ). take (length ys) (drop k (xs ++ ys))) first
    ∙ ap (take (length ys)) (drop-append_seam xs ys)
    ∙ take-length ys

-- where no form changes, an order has the form that it had
arrangement_of-more : (forms more : List Form) (order : KeptOrder) → AreMore forms more → order.form < length forms → arrangement_of more order ≡ arrangement_of forms order
arrangement_of-more forms more order are h = ap (λ (form : Form). arrangement_by form order.seed) (are.same order.form h)

-- and its tables
IsKeptOrder-more : (forms more : List Form) (entries added : List ℕ) (order : KeptOrder) → AreMore forms more → IsKeptOrder forms entries order → IsKeptOrder more (entries ++ added) order
IsKeptOrder-more forms more entries added order are is =
    let longer : length forms ≤ length more = are.longer in
    let known : order.form < length forms = is.known in
    let same : form_at more order.form ≡ form_at forms order.form = are.same order.form known in
    let within : order.first + form_entries (form_at forms order.form) ≤ length entries = is.within in
    let all : length (entries ++ added) ≡ length entries + length added = length-append entries added in
    let HasTables : Form → Type 0 = λ form. (order.first + form_entries form ≤ length (entries ++ added)) × (slice_range (entries ++ added) order.first (order.first + form_entries form) ≡ tables_by form order.seed) in
    let has : HasTables (form_at more order.form) = subst HasTables (sym same) (
      (let fits : order.first + form_entries (form_at forms order.form) ≤ length (entries ++ added) = omega arith in fits),
      slice_range-append entries added order.first (form_entries (form_at forms order.form)) within ∙ is.exact,
    ) in
    record { known = omega arith; within = has.0; exact = has.1 }

-- the new order is kept
IsKeptOrder-new : (forms : List Form) (entries tables : List ℕ) (order : KeptOrder) (form : Form) → order.form < length forms → form_at forms order.form ≡ form → order.first ≡ length entries → tables ≡ tables_by form order.seed → IsKeptOrder forms (entries ++ tables) order
IsKeptOrder-new forms entries tables order form known at first made =
    let long : length tables ≡ form_entries form = ap length made ∙ length-tables_by form order.seed in
    let all : length (entries ++ tables) ≡ length entries + length tables = length-append entries tables in
    let HasTables : Form → Type 0 = λ form. (order.first + form_entries form ≤ length (entries ++ tables)) × (slice_range (entries ++ tables) order.first (order.first + form_entries form) ≡ tables_by form order.seed) in
    let has : HasTables (form_at forms order.form) = subst HasTables (sym at) (
      (let fits : order.first + form_entries form ≤ length (entries ++ tables) = omega arith in fits),
      slice_range-appended entries tables order.first (form_entries form) first (sym long) ∙ made,
    ) in
    record { known = known; within = has.0; exact = has.1 }

All-one : {X : Type 0} (P : X → Type 0) (x : X) → P x → All P (x ∷ [])
All-one P x h zero d w = h
All-one P x h (suc k) d w = absurd (omega arith)

-- what a contract sees
abbrev pub listed : List Arrangement → ℕ → OrderList
listed arrangements entries = record { orders = arrangements; entries = entries }

abbrev pub list_of : List Form → List ℕ → List KeptOrder → OrderList
list_of forms entries orders = listed (map (arrangement_of forms) orders) (length entries)

-- all orders are kept
AreKept-more : (forms more : List Form) (entries tables : List ℕ) (orders : List KeptOrder) (order : KeptOrder) (form : Form) → AreKept forms entries orders → AreMore forms more → order.form < length more → form_at more order.form ≡ form → order.first ≡ length entries → tables ≡ tables_by form order.seed → IsCountable form (length entries) → AreKept more (entries ++ tables) (orders ++ order ∷ [])
AreKept-more forms more entries tables orders order form kept are known at first made fits =
    let counted : length entries + form_entries form < 2 ^ 32 = counted-more form (length entries) kept.counted fits in
    let long : length tables ≡ form_entries form = ap length made ∙ length-tables_by form order.seed in
    let all : length (entries ++ tables) ≡ length entries + length tables = length-append entries tables in
    record {
      each = All-append (IsKeptOrder more (entries ++ tables)) orders (order ∷ [])
          (λ k d h. IsKeptOrder-more forms more entries tables (get_or orders k d) are (kept.each k d h))
          (All-one (IsKeptOrder more (entries ++ tables)) order (IsKeptOrder-new more entries tables order form known at first made));
      counted = omega arith;
    }

pub AreKept-added : (forms more : List Form) (entries tables new_entries : List ℕ) (orders new_orders : List KeptOrder) (order : KeptOrder) (form : Form) → AreKept forms entries orders → AreMore forms more → new_entries ≡ entries ++ tables → new_orders ≡ orders ++ order ∷ [] → order.form < length more → form_at more order.form ≡ form → order.first ≡ length entries → tables ≡ tables_by form order.seed → IsCountable form (length entries) → AreKept more new_entries new_orders
AreKept-added forms more entries tables new_entries orders new_orders order form kept are entries_added order_added known at first made fits =
    subst (λ (es : List ℕ). AreKept more es new_orders) (sym entries_added)
    (subst (λ (os : List KeptOrder). AreKept more (entries ++ tables) os) (sym order_added)
    (AreKept-more forms more entries tables orders order form kept are known at first made fits))

-- where only forms were added
pub AreKept-forms : (forms more : List Form) (entries new_entries : List ℕ) (orders new_orders : List KeptOrder) → AreKept forms entries orders → AreMore forms more → new_entries ≡ entries → new_orders ≡ orders → AreKept more new_entries new_orders
AreKept-forms forms more entries new_entries orders new_orders kept are same_entries same_orders =
    subst (λ (es : List ℕ). AreKept more es new_orders) (sym same_entries)
    (subst (λ (os : List KeptOrder). AreKept more entries os) (sym same_orders)
    (record {
      each = λ k d h. subst (λ (es : List ℕ). IsKeptOrder more es (get_or orders k d)) (append-nil entries) (IsKeptOrder-more forms more entries [] (get_or orders k d) are (kept.each k d h));
      counted = kept.counted;
    }))

-- f and g give the same of each
map-alike : {X Y : Type 0} (f g : X → Y) (xs : List X) → All (λ x. f x ≡ g x) xs → map f xs ≡ map g xs
map-alike f g [] same = refl
map-alike f g (x ∷ xs) same = ap (λ y. y ∷ map f xs) (same zero x (omega arith)) ∙ ap (λ ys. g x ∷ ys) (map-alike f g xs (λ k d h. same (suc k) d (omega arith)))

-- the orders that are kept stay
pub arrangements-more : (forms more : List Form) (entries : List ℕ) (orders : List KeptOrder) → AreKept forms entries orders → AreMore forms more → map (arrangement_of more) orders ≡ map (arrangement_of forms) orders
arrangements-more forms more entries orders kept are =
    map-alike (arrangement_of more) (arrangement_of forms) orders (λ k d h. arrangement_of-more forms more (get_or orders k d) are (kept.each k d h).known)

-- and the new one stands after them
pub arrangements-new : (forms more : List Form) (entries : List ℕ) (orders all : List KeptOrder) (order : KeptOrder) (form : Form) → AreKept forms entries orders → AreMore forms more → all ≡ orders ++ order ∷ [] → form_at more order.form ≡ form → map (arrangement_of more) all ≡ map (arrangement_of forms) orders ++ arrangement_by form order.seed ∷ []
arrangements-new forms more entries orders all order form kept are appended at =
    ap (map (arrangement_of more)) appended
    ∙ map_push (arrangement_of more) orders order
    ∙ ap (λ (ys : List Arrangement). ys ++ arrangement_of more order ∷ []) (arrangements-more forms more entries orders kept are)
    ∙ ap (λ (f : Form). map (arrangement_of forms) orders ++ arrangement_by f order.seed ∷ []) at

-- so do the entries
pub entries-added : (form : Form) (seed kept : ℕ) (entries tables new_entries : List ℕ) → new_entries ≡ entries ++ tables → tables ≡ tables_by form seed → length entries ≡ kept → length new_entries ≡ kept + form_entries form
entries-added form seed kept entries tables new_entries added made same =
    let long : length tables ≡ form_entries form = ap length made ∙ length-tables_by form seed in
    let all : length (entries ++ tables) ≡ length entries + length tables = length-append entries tables in
    ap length added ∙ omega arith

-- where only forms were added, a contract sees what it saw
pub view-forms : (forms more : List Form) (entries new_entries : List ℕ) (orders new_orders : List KeptOrder) → AreKept forms entries orders → AreMore forms more → new_entries ≡ entries → new_orders ≡ orders → list_of more new_entries new_orders ≡ list_of forms entries orders
view-forms forms more entries new_entries orders new_orders kept are same_entries same_orders =
    ap (λ (es : List ℕ). list_of more es new_orders) same_entries
    ∙ ap (λ (os : List KeptOrder). list_of more entries os) same_orders
    ∙ ap (λ (arrangements : List Arrangement). listed arrangements (length entries)) (arrangements-more forms more entries orders kept are)
