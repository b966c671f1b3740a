-- Shares, one after the other.
use Rattle.std.proofs.Common.{◌≡◌, ◌≤◌, ◌<◌, ℕ, zero, suc, ◌+◌, ◌^◌, Fits, w64, List, [], ◌∷◌, ◌++◌, map, max, take, get_or, length, length-append, append_assoc, All, Option, refl, ap, sym, arith, subst, ◌∙◌}
use Rattle.std.specs.List.{flat_map, range_with_len, sum_by}
use Rattle.std.proofs.lemmas.List.{append-nil, map-append, take_more}
use Rattle.std.proofs.lemmas.List.Concat.{flat_map-append}
use Rattle.std.proofs.lemmas.List.Elements.{All-head, All-push, All-tail, All-take}
use Rattle.std.proofs.lemmas.List.Sums.{sum_by-cons, sum_by_more, sum_by_more_le}
use Rattle.range_workers.specs.Marks.{Mark}
use Rattle.schema_facts.specs.Dictionaries.{Project}
use Rattle.life_intervals.proofs.Ranges.{range_with_len-add}
use Rattle.update_box.specs.Cuts.{greatest}
use Rattle.update_box.specs.Kept.{HasPackages, kept_share, packages_kept}
use Rattle.update_box.specs.Prepared.{AreChosen, Prepared}
use Rattle.update_box.specs.Packages.{Share, chosen_places, marks_from, packages_in, share_of}
use Rattle.update_box.specs.declared.shares.KeptShare.{KeptShare}
use Rattle.update_box.proofs.CutLemmas.{marks_from-push}
use Rattle.update_box.specs.Parts.{Part, parts_at, parts_of}
use Rattle.update_box.specs.declared.parts.Content.{Content}
use Rattle.update_box.specs.declared.parts.Job.{Job}

-- ---- parts, one table after the other

parts_of-more : (contents : List Content) (from count : ℕ) → parts_of contents (range_with_len from (count + 1)) ≡ parts_of contents (range_with_len from count) ++ parts_at contents (from + count)
parts_of-more contents from count =
    ap (flat_map (parts_at contents)) (range_with_len-add from count 1)
    ∙ flat_map-append (parts_at contents) (range_with_len from count) ((from + count) ∷ [])
    ∙ ap (λ (parts : List Part). parts_of contents (range_with_len from count) ++ parts) (append-nil (parts_at contents (from + count)))

-- the shares of one more table
pub shares-more : (contents : List Content) (plan : Project) (job : Job) (from count : ℕ) (before now : List Share) →
    before ≡ map (share_of plan job) (parts_of contents (range_with_len from count)) → now ≡ before ++ map (share_of plan job) (parts_at contents (from + count)) →
    now ≡ map (share_of plan job) (parts_of contents (range_with_len from (count + 1)))
shares-more contents plan job from count before now sofar one =
    one
    ∙ ap (λ (shares : List Share). shares ++ map (share_of plan job) (parts_at contents (from + count))) sofar
    ∙ sym (map-append (share_of plan job) (parts_of contents (range_with_len from count)) (parts_at contents (from + count)))
    ∙ ap (map (share_of plan job)) (sym (parts_of-more contents from count))

-- ---- the greatest number of some items

greatest-append : {A : Type 0} (number : A → ℕ) (items : List A) (item : A) → greatest number (items ++ item ∷ []) ≡ max (greatest number items) (number item)
greatest-append number [] item = omega arith
greatest-append number (one ∷ items) item = omega (arith, greatest-append number items item)

-- one more item
pub greatest-more : {A B : Type 0} (number : B → ℕ) (f : A → B) (items : List A) (i : ℕ) (d : A) → i < length items →
    greatest number (map f (take (i + 1) items)) ≡ max (greatest number (map f (take i items))) (number (f (get_or items i d)))
greatest-more number f items i d below =
    ap (λ (some : List _). greatest number (map f some)) (take_more items i d below)
    ∙ ap (greatest number) (map-append f (take i items) (get_or items i d ∷ []))
    ∙ greatest-append number (map f (take i items)) (f (get_or items i d))

pub greatest-next : {A B : Type 0} (number : B → ℕ) (f : A → B) (items : List A) (i : ℕ) (d : A) (so_far here now : ℕ) → i < length items → so_far ≡ greatest number (map f (take i items)) → here ≡ number (f (get_or items i d)) →
    now ≡ max so_far here → now ≡ greatest number (map f (take (i + 1) items))
greatest-next number f items i d so_far here now below before is most = omega (arith, greatest-more number f items i d below, before, is, most)

-- it is at least each one
pub greatest-least : {A : Type 0} (number : A → ℕ) (items : List A) (i : ℕ) (d : A) → i < length items → number (get_or items i d) ≤ greatest number items
greatest-least number [] i d below = absurd (omega (arith, below))
greatest-least number (item ∷ items) zero d below = omega arith
greatest-least number (item ∷ items) (suc i) d below = omega (arith, greatest-least number items i d (omega (arith, below)))

-- ---- the packages of shares, and their marks

-- shares have as many packages as they are kept with
pub packages-kept : (size : ℕ) (shares : List KeptShare) → All (HasPackages size) shares → packages_kept shares ≡ sum_by (packages_in size) (map kept_share shares)
packages-kept size [] are = refl
packages-kept size (kept ∷ shares) are =
    omega (
      arith,
      sum_by-cons (λ (share : KeptShare). share.packages) kept shares,
      sum_by-cons (packages_in size) (kept_share kept) (map kept_share shares),
      packages-kept size shares (All-tail (HasPackages size) kept shares are),
      All-head (HasPackages size) kept shares are,
    )

-- the mark of one more share
pub marks-next : (size : ℕ) (name : Share → List ℕ) (shares : List KeptShare) (i : ℕ) (d : KeptShare) (first : ℕ) (text : List ℕ) (before now : List Mark) → All (HasPackages size) shares → i < length shares →
    before ≡ marks_from (packages_in size) name 0 (map kept_share (take i shares)) → first ≡ packages_kept (take i shares) → now ≡ before ++ record { first = first; name = text } ∷ [] →
    text ≡ name (kept_share (get_or shares i d)) → now ≡ marks_from (packages_in size) name 0 (map kept_share (take (i + 1) shares))
marks-next size name shares i d first text before now are below sofar begin pushed named =
    let earlier : List Share = map kept_share (take i shares) in
    let next : Share = kept_share (get_or shares i d) in
    let number : first ≡ 0 + sum_by (packages_in size) earlier = omega (arith, begin, packages-kept size (take i shares) (All-take (HasPackages size) i shares are)) in
    pushed
    ∙ ap (λ (marks : List Mark). marks ++ record { first = first; name = text } ∷ []) sofar
    ∙ ap (λ (n : ℕ). marks_from (packages_in size) name 0 earlier ++ record { first = n; name = text } ∷ []) number
    ∙ ap (λ (t : List ℕ). marks_from (packages_in size) name 0 earlier ++ record { first = 0 + sum_by (packages_in size) earlier; name = t } ∷ []) named
    ∙ sym (marks_from-push (packages_in size) name 0 earlier next)
    ∙ ap (marks_from (packages_in size) name 0) (sym (ap (map kept_share) (take_more shares i d below) ∙ map-append kept_share (take i shares) (get_or shares i d ∷ [])))

-- the number of the first package of the next share
pub first-next : (shares : List KeptShare) (i : ℕ) (d : KeptShare) (first : ℕ) → i < length shares → first ≡ packages_kept (take i shares) →
    first + (get_or shares i d).packages ≡ packages_kept (take (i + 1) shares)
first-next shares i d first below begin = omega (arith, begin, sum_by_more (λ (kept : KeptShare). kept.packages) shares i d below)

pub first-within : (shares : List KeptShare) (i : ℕ) (d : KeptShare) (first : ℕ) → i < length shares → first ≡ packages_kept (take i shares) → packages_kept shares ≤ 2 ^ 60 →
    Fits w64 (first + (get_or shares i d).packages)
first-within shares i d first below begin most = omega (arith, begin, most, sum_by_more_le (λ (kept : KeptShare). kept.packages) shares i d below)

-- ---- lists of shares that grow

pub All-pushed : (P : KeptShare → Type 0) (before now : List KeptShare) (kept : KeptShare) → now ≡ before ++ kept ∷ [] → All P before → P kept → All P now
All-pushed P before now kept pushed are is = subst (λ (shares : List KeptShare). All P shares) (sym pushed) (All-push P before kept are is)

pub length-pushed : (before now : List KeptShare) (kept : KeptShare) (n : ℕ) → now ≡ before ++ kept ∷ [] → length before ≡ n → length now ≡ n + 1
length-pushed before now kept n pushed many = omega (arith, ap (λ (shares : List KeptShare). length shares) pushed, length-append before (kept ∷ []), many)

-- the shares of all tables that are prepared are those of the chosen ones
pub shares-all : (contents : List Content) (plan : Project) (job : Job) (tables : Prepared) (from number : ℕ) (now : List Share) (table : Option ℕ) → now ≡ map (share_of plan job) (parts_of contents (range_with_len from number)) →
    number ≡ length tables.lines → from ≡ tables.from → AreChosen plan table tables → now ≡ map (share_of plan job) (parts_of contents (chosen_places plan table))
shares-all contents plan job tables from number now table are all begin places =
    are
    ∙ ap (λ (n : ℕ). map (share_of plan job) (parts_of contents (range_with_len from n))) all
    ∙ ap (λ (a : ℕ). map (share_of plan job) (parts_of contents (range_with_len a (length tables.lines)))) begin
    ∙ ap (λ (at : List ℕ). map (share_of plan job) (parts_of contents at)) places

pub All-three : (P : KeptShare → Type 0) (before now : List KeptShare) (one two three : KeptShare) → now ≡ before ++ (one ∷ two ∷ three ∷ []) → All P before → P one → P two → P three → All P now
All-three P before now one two three pushed are is_one is_two is_three =
    subst (λ (shares : List KeptShare). All P shares) (sym (pushed ∙ sym (append_assoc before (one ∷ []) (two ∷ three ∷ [])) ∙ sym (append_assoc (before ++ one ∷ []) (two ∷ []) (three ∷ []))))
    (All-push P ((before ++ one ∷ []) ++ two ∷ []) three (All-push P (before ++ one ∷ []) two (All-push P before one are is_one) is_two) is_three)
