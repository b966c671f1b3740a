-- The caller's view as workers go out and come back, and the pages of a round when all are back.
use Rattle.std.proofs.Common.{◌≡◌, ◌+◌, ◌-◌, ◌*◌, ◌<◌, ◌≤◌, ◌==◌, ℕ, zero, suc, List, [], ◌∷◌, ◌++◌, ◌⊎◌, inl, inr, ap, arith, length, length-append, refl, subst, sym, ◌∙◌}
use Rattle.std.specs.Prelude.{All, Any, count_by, nat_lt}
use Rattle.std.proofs.lemmas.Bool.{cases_lt, le-ltb, lt-ltb}
use Rattle.std.proofs.lemmas.Bool.Decides.{nat_tests}
use Rattle.std.proofs.lemmas.List.{get_or-append-add, get_or_append_left}
use Rattle.std.proofs.lemmas.List.Elements.{All-append, All-head, All-same, All-tail}
use Rattle.std.proofs.lemmas.List.Sums.{sum_by-cons}
use Rattle.ordered_sink.specs.declared.offers.Numbered.{Numbered}
use Rattle.line_pages.specs.Pages.{Page}
use Rattle.range_workers.specs.declared.claims.Claims.{Claims}
use Rattle.range_workers.specs.declared.work.RoundClaims.{RoundClaims}
use Rattle.range_workers.specs.declared.work.RoundWorker.{RoundWorker}
use Rattle.range_workers.specs.declared.view.View.{View}
use Rattle.range_workers.specs.declared.view.View.TheVariants.{Caller, Worker}
use Rattle.range_workers.specs.Round.{HasRoom, HasWorked, IsPageOf, numbers_of}
use Rattle.range_workers.specs.Rule.{AreAllBelow, IsDone, once_below, times}
use Rattle.range_workers.specs.Views.{CanJoin, joined, new_worker, numbers, with_worker}
use Rattle.range_workers.proofs.LawLemmas.{times-any}
use Rattle.range_workers.proofs.NumberLemmas.{times-append}
use Rattle.range_workers.proofs.SeatLemmas.{one_if}
use Rattle.range_workers.proofs.WorkLemmas.{numbers_of-append}

-- the caller's view, with another worker out
pub split_caller : (v w : View) (ns : List ℕ) (n m : ℕ) → v ≡ Caller ns n → w ≡ with_worker v → m ≡ n + 1 → w ≡ Caller ns m
split_caller v w ns n m is more next = more ∙ ap with_worker is ∙ ap (Caller ns) (sym next)

pub split_worker : (v w : View) (ns : List ℕ) (n : ℕ) → v ≡ Caller ns n → w ≡ new_worker v → w ≡ Worker [] (length ns)
split_worker v w ns n is new = new ∙ ap new_worker is

pub caller_knows : (w : View) (ns : List ℕ) (m : ℕ) → w ≡ Caller ns m → w ≡ Caller (numbers w) m
caller_knows w ns m is = subst (λ (u : View). u ≡ Caller (numbers u) m) (sym is) refl

-- with one worker back
pub can_join : (v u : View) (ns ms : List ℕ) (n base : ℕ) → v ≡ Caller ns n → u ≡ Worker ms base → CanJoin (Caller ns n) (Worker ms base) → CanJoin v u
can_join v u ns ms n base is was can = subst (λ (w : View). CanJoin w u) (sym is) (subst (CanJoin (Caller ns n)) (sym was) can)

pub join_caller : (v u w : View) (ns ms : List ℕ) (n m base : ℕ) → v ≡ Caller ns n → u ≡ Worker ms base → w ≡ joined v u → n ≡ m + 1 → w ≡ Caller (ns ++ ms) m
join_caller v u w ns ms n m base is was both less =
    let left : n - 1 ≡ m = omega (arith, less) in
    both ∙ ap (λ (x : View). joined x u) is ∙ ap (joined (Caller ns n)) was ∙ ap (Caller (ns ++ ms)) left

-- each number below the round's end is one from before, or that of a page
pub each_back : (c base : ℕ) (all ns ms : List ℕ) (pages more now : List Numbered) → all ≡ ns ++ ms → now ≡ pages ++ more →
    times c ns ≡ once_below base c + times c (numbers_of pages) → times c ms ≡ times c (numbers_of more) →
    times c all ≡ once_below base c + times c (numbers_of now)
each_back c base all ns ms pages more now is joined before here =
    let there : times c (numbers_of now) ≡ times c (numbers_of pages ++ numbers_of more) =
    ap (times c) (ap numbers_of joined ∙ numbers_of-append pages more) in
    omega (arith, ap (times c) is, times-append c ns ms, there, times-append c (numbers_of pages) (numbers_of more), before, here)

any_of_first : (P : ℕ → Type 0) (ns ms : List ℕ) → Any P ns → Any P (ns ++ ms)
any_of_first P ns ms (k, n, here, there, holds) =
    (k, n, omega (arith, here, length-append ns ms), get_or_append_left ns ms n k here ∙ there, holds)

any_of_second : (P : ℕ → Type 0) (ns ms : List ℕ) → Any P ms → Any P (ns ++ ms)
any_of_second P ns ms (k, n, here, there, holds) =
    (length ns + k, n, omega (arith, here, length-append ns ms), get_or-append-add ns ms k n ∙ there, holds)

-- those who are back are done
pub done_back : (all ns ms : List ℕ) (u : View) (base end sum n m : ℕ) → all ≡ ns ++ ms → u ≡ Worker ms base → IsDone end u → n ≡ m + 1 →
    ((length ns + 8 * n ≡ sum) ⊎ Any (λ k. end ≤ k) ns) → (length all + 8 * m ≡ sum) ⊎ Any (λ k. end ≤ k) all
done_back all ns ms u base end sum n m is was worker less (inr past) =
    inr (subst (Any (λ k. end ≤ k)) (sym is) (any_of_first (λ k. end ≤ k) ns ms past))
done_back all ns ms u base end sum n m is was worker less (inl full) =
    elim (subst (IsDone end) was worker) [
      | inl eight ↦ inl (omega (arith, ap length is, length-append ns ms, eight, full, less))
      | inr past ↦ inr (subst (Any (λ k. end ≤ k)) (sym is) (any_of_second (λ k. end ≤ k) ns ms past))
    ]

-- then all numbers of the round were claimed
pub claimed_whole : (claimed end sum m : ℕ) (ns : List ℕ) → AreAllBelow claimed ns → end ≤ sum → m ≡ 0 → ((length ns + 8 * m ≡ sum) ⊎ Any (λ k. end ≤ k) ns) →
    end ≤ claimed
claimed_whole claimed end sum m ns all within none (inl full) = omega (arith, all.count, within, full, none)
claimed_whole claimed end sum m ns all within none (inr past) =
    let there = times-any end ns past in
    elim (cases_lt there.0 claimed) [
      | inl below ↦ omega (arith, there.1, below)
      | inr from ↦ let never : once_below claimed there.0 ≡ 0 = ap one_if (le-ltb there.0 claimed from) in absurd (omega (arith, never, all.each_once there.0, there.2))
    ]

-- and each of them has one page
pub one_page : (claimed base end c : ℕ) (ns : List ℕ) (pages : List Numbered) → AreAllBelow claimed ns → end ≤ claimed → base ≤ c → c < end →
    times c ns ≡ once_below base c + times c (numbers_of pages) → times c (numbers_of pages) ≡ 1
one_page claimed base end c ns pages all whole from below each =
    let none : once_below base c ≡ 0 = ap one_if (le-ltb c base from) in
    let one : once_below claimed c ≡ 1 = ap one_if (lt-ltb c claimed (omega (arith, below, whole))) in
    omega (arith, none, one, all.each_once c, each)

-- how many numbers are below another one
abbrev below : ℕ → List ℕ → ℕ
below k ns = count_by (λ n. nat_lt n k) ns

one_below : (n k : ℕ) → one_if (nat_lt n (suc k)) ≡ one_if (nat_lt n k) + one_if (n == k)
one_below n k = grind (arith, nat_tests)

below-more : (k : ℕ) (ns : List ℕ) → below (suc k) ns ≡ below k ns + times k ns
below-more k [] = refl
below-more k (n ∷ ns) =
    omega (
      arith,
      one_below n k,
      below-more k ns,
      sum_by-cons (λ (m : ℕ). one_if (nat_lt m (suc k))) n ns,
      sum_by-cons (λ (m : ℕ). one_if (nat_lt m k)) n ns,
      sum_by-cons (λ (m : ℕ). one_if (m == k)) n ns,
    )

below-first : (text : ℕ → List ℕ) (room : ℕ) (round : RoundClaims) (pages : List Numbered) → All (IsPageOf text room round) pages → below round.base (numbers_of pages) ≡ 0
below-first text room round [] are = refl
below-first text room round (page ∷ pages) are =
    let here : one_if (nat_lt page.n round.base) ≡ 0 = ap one_if (le-ltb page.n round.base (All-head (IsPageOf text room round) page pages are).from) in
    omega (arith, here, below-first text room round pages (All-tail (IsPageOf text room round) page pages are), sum_by-cons (λ (m : ℕ). one_if (nat_lt m round.base)) page.n (numbers_of pages))

below-last : (text : ℕ → List ℕ) (room : ℕ) (round : RoundClaims) (pages : List Numbered) → All (IsPageOf text room round) pages → below round.end (numbers_of pages) ≡ length pages
below-last text room round [] are = refl
below-last text room round (page ∷ pages) are =
    let here : one_if (nat_lt page.n round.end) ≡ 1 = ap one_if (lt-ltb page.n round.end (All-head (IsPageOf text room round) page pages are).below) in
    let rest = below-last text room round pages (All-tail (IsPageOf text room round) page pages are) in
    omega (arith, here, rest, sum_by-cons (λ (m : ℕ). one_if (nat_lt m round.end)) page.n (numbers_of pages))

below-part : (base end d : ℕ) (ns : List ℕ) → ((c : ℕ) → base ≤ c → c < end → times c ns ≡ 1) → below base ns ≡ 0 → base + d ≤ end → below (base + d) ns ≡ d
below-part base end zero ns each none within = let here : base + 0 ≡ base = omega arith in ap (λ k. below k ns) here ∙ none
below-part base end (suc d) ns each none within =
    let here : base + suc d ≡ suc (base + d) = omega arith in
    ap (λ k. below k ns) here
    ∙ omega (arith, below-more (base + d) ns, each (base + d) (omega arith) (omega (arith, within)), below-part base end d ns each none (omega (arith, within)))

-- there are as many pages as numbers in the round
pub as_many_pages : (text : ℕ → List ℕ) (room : ℕ) (round : RoundClaims) (pages : List Numbered) → All (IsPageOf text room round) pages → round.base < round.end →
    ((c : ℕ) → round.base ≤ c → c < round.end → times c (numbers_of pages) ≡ 1) → length pages ≡ round.end - round.base
as_many_pages text room round pages are some each =
    let d = round.end - round.base in
    let end : round.base + d ≡ round.end = omega (arith, some) in
    sym (below-last text room round pages are)
    ∙ ap (λ k. below k (numbers_of pages)) (sym end)
    ∙ below-part round.base round.end d (numbers_of pages) each (below-first text room round pages are) (omega (arith, end))

-- what is told of workers, pages and rooms is told of the same ones
pub still_out : (text : ℕ → List ℕ) (round : RoundClaims) (c d : Claims) (r s : ℕ) (ws vs : List RoundWorker) → d ≡ c → s ≡ r → vs ≡ ws →
    All (HasWorked c text r round) ws → All (HasWorked d text s round) vs
still_out text round c d r s ws vs claims room same out =
    subst (λ (e : Claims). All (HasWorked e text s round) vs) (sym claims)
    (subst (λ (q : ℕ). All (HasWorked c text q round) vs) (sym room) (All-same (HasWorked c text r round) vs ws same out))

pub more_made : (text : ℕ → List ℕ) (round : RoundClaims) (r s : ℕ) (pages more now : List Numbered) → s ≡ r → now ≡ pages ++ more →
    All (IsPageOf text r round) pages → All (IsPageOf text r round) more → All (IsPageOf text s round) now
more_made text round r s pages more now room same are others =
    subst (λ (q : ℕ). All (IsPageOf text q round) now) (sym room)
    (All-same (IsPageOf text r round) now (pages ++ more) same (All-append (IsPageOf text r round) pages more are others))

pub more_rooms : (r s : ℕ) (pages more now : List Page) → s ≡ r → now ≡ pages ++ more → All (HasRoom r) pages → All (HasRoom r) more → All (HasRoom s) now
more_rooms r s pages more now room same are others =
    subst (λ (q : ℕ). All (HasRoom q) now) (sym room) (All-same (HasRoom r) now (pages ++ more) same (All-append (HasRoom r) pages more are others))
