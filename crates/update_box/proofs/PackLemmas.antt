-- Packages as the code finds and makes them, and the files that are due by their marks.
use Rattle.std.proofs.Common.{◌≡◌, ◌≤◌, ◌<◌, ℕ, zero, suc, ◌+◌, ◌-◌, ◌*◌, ◌^◌, List, [], ◌∷◌, ◌++◌, map, min, take, drop, get_or, length, length-take, All, Option, Some, None, inl, inr, refl, ap, ap₂, sym, arith, subst, ◌∙◌}
use Rattle.std.specs.List.{flat_map, range_with_len, sum_by}
use Rattle.std.proofs.Math.ListN.{get_or-map}
use Rattle.std.proofs.Math.Nat.{mul-le-mul_right}
use Rattle.std.proofs.lemmas.Bool.{cases_lt}
use Rattle.std.proofs.lemmas.List.{length-map, take-map}
use Rattle.std.proofs.lemmas.List.Elements.{All-take}
use Rattle.std.proofs.lemmas.List.Sorted.{IsNonDecreasingBy-short}
use Rattle.line_pages.specs.Pages.{Page}
use Rattle.range_workers.specs.Marks.{AreMarksOf, Mark, due_files}
use Rattle.cohort_sizes.specs.Births.{born_count}
use Rattle.schema_facts.specs.Dictionaries.{Project}
use Rattle.schema_plan.specs.Limits.{IsInLimits}
use Rattle.life_intervals.specs.Generator.{last_unit, table_of}
use Rattle.row_lines.specs.Runs.{RunLinesOf, run_text}
use Rattle.row_lines.proofs.RunTextLemmas.{run_text-more}
use Rattle.update_box.specs.Cuts.{greatest, text_in}
use Rattle.update_box.specs.Kept.{AreKeptShares, HasPackages, IsKeptShare, IsPackage, IsSnapshot, kept_part, kept_share, lines_at, packages_by, packages_kept}
use Rattle.update_box.specs.Packages.{Packages, Share, count_of, share_files, marks_of, most_bytes, package_text, packages_in, room_of, share_path, share_room, share_text, text_numbered}
use Rattle.update_box.specs.Parts.{content_count, entries_in, range_text, standard_output}
use Rattle.update_box.specs.Prepared.{ArePrepared, Prepared}
use Rattle.update_box.specs.declared.parts.Content.TheVariants as content
use Rattle.update_box.specs.declared.shares.Entries.{Entries}
use Rattle.update_box.specs.declared.shares.KeptShare.{KeptShare}
use Rattle.update_box.specs.declared.shares.Shares.{Shares}
use Rattle.update_box.proofs.CutLemmas.{AreMarksOf-items, due_files-items, package_count-least, packages-joined, text_in-all, text_in-at}
use Rattle.update_box.proofs.EntryLemmas.{range_text-joined, range_text-snapshot}
use Rattle.update_box.proofs.ShareLemmas.{greatest-least, packages-kept}

-- ---- shares as they are kept

-- what holds of each that is kept
kept-each : (plan : Project) (tables : Prepared) (unit size : ℕ) (P : KeptShare → Type 0) → ((kept : KeptShare) → IsKeptShare plan tables unit size kept → P kept) →
    (shares : List KeptShare) → All (IsKeptShare plan tables unit size) shares → All P shares
kept-each plan tables unit size P each shares are = λ i d below. each (get_or shares i d) (are i d below)

pub kept-places : (plan : Project) (tables : Prepared) (unit size : ℕ) → ArePrepared plan tables → (shares : List KeptShare) → All (IsKeptShare plan tables unit size) shares →
    All (λ kept. kept.place < length plan.schema.tables) shares
kept-places plan tables unit size ready =
    kept-each plan tables unit size (λ kept. kept.place < length plan.schema.tables) (λ kept is. omega (arith, is.among.not_ended, ready.within))

pub kept-ordered : (plan : Project) (tables : Prepared) (unit size : ℕ) → (shares : List KeptShare) → All (IsKeptShare plan tables unit size) shares → All (λ kept. kept.first ≤ kept.end) shares
kept-ordered plan tables unit size = kept-each plan tables unit size (λ kept. kept.first ≤ kept.end) (λ kept is. is.cut.ordered)

pub kept-few : (plan : Project) (tables : Prepared) (unit size : ℕ) → 1 ≤ size → (shares : List KeptShare) → All (IsKeptShare plan tables unit size) shares → All (λ kept. kept.packages ≤ 2 ^ 40) shares
kept-few plan tables unit size some =
    kept-each plan tables unit size (λ kept. kept.packages ≤ 2 ^ 40) (λ kept is. omega (arith, is.cut.packages, is.cut.few, package_count-least (kept.end - kept.first) size some))

pub kept-cut : (plan : Project) (tables : Prepared) (unit size : ℕ) → (shares : List KeptShare) → All (IsKeptShare plan tables unit size) shares → All (HasPackages size) shares
kept-cut plan tables unit size = kept-each plan tables unit size (HasPackages size) (λ kept is. is.cut.packages)

pub AreKeptShares-made : (plan : Project) (tables : Prepared) (unit size : ℕ) (kept : List KeptShare) (shares : Shares) → ArePrepared plan tables → unit ≤ last_unit plan → 1 ≤ size → size ≤ 1000000 → 1 ≤ length kept →
    All (IsKeptShare plan tables unit size) kept → shares.kept.items ≡ kept → shares.size ≡ size → shares.count ≡ packages_kept kept → shares.count ≤ 2 ^ 60 →
    shares.room ≡ greatest (share_room plan size) (map kept_share kept) → AreKeptShares plan tables unit shares
AreKeptShares-made plan tables unit size kept shares ready reached some limit some_share are items same count most room =
    let of : ℕ → List KeptShare → Packages = λ n ks. record { plan = plan; unit = unit; size = n; shares = map kept_share ks } in
    let is : packages_by plan unit shares ≡ of size kept = ap (λ (n : ℕ). of n shares.kept.items) same ∙ ap (of size) items in
    record {
      prepared = ready;
      reached = reached;
      some_entry = omega (arith, same, some);
      size_limit = omega (arith, same, limit);
      some_share = omega (arith, some_share, ap (λ (ks : List KeptShare). length ks) items);
      each = subst (λ (n : ℕ). All (IsKeptShare plan tables unit n) shares.kept.items) (sym same) (subst (λ (ks : List KeptShare). All (IsKeptShare plan tables unit size) ks) (sym items) are);
      count = count ∙ packages-kept size kept (kept-cut plan tables unit size kept are) ∙ sym (ap count_of is);
      kept_count = count ∙ sym (ap packages_kept items);
      most = most;
      room = room ∙ sym (ap room_of is);
    }

-- the packages that they are
pub packages_by-is : (plan : Project) (unit size : ℕ) (kept : List KeptShare) (all : List Share) (shares : Shares) → shares.kept.items ≡ kept → shares.size ≡ size → map kept_share kept ≡ all →
    packages_by plan unit shares ≡ record { plan = plan; unit = unit; size = size; shares = all }
packages_by-is plan unit size kept all shares items same are =
    let of : ℕ → List Share → Packages = λ n ss. record { plan = plan; unit = unit; size = n; shares = ss } in
    ap (λ (n : ℕ). of n (map kept_share shares.kept.items)) same ∙ ap (of size) (ap (map kept_share) items ∙ are)

-- ---- a package that is found

pub package-kept : (plan : Project) (tables : Prepared) (unit n : ℕ) (shares : Shares) (kept : KeptShare) (entries : Entries) → AreKeptShares plan tables unit shares → IsPackage shares n kept entries →
    IsKeptShare plan tables unit shares.size kept
package-kept plan tables unit n shares kept entries are found =
    subst (λ (k : KeptShare). IsKeptShare plan tables unit shares.size k) (sym found.is) (are.each found.share _ found.there)

-- its entries are some of the share's
pub package-within : (plan : Project) (tables : Prepared) (unit n : ℕ) (shares : Shares) (kept : KeptShare) (entries : Entries) → AreKeptShares plan tables unit shares → IsPackage shares n kept entries →
    entries.end ≤ entries_in plan unit (kept_part kept)
package-within plan tables unit n shares kept entries are found =
    omega (arith, (package-kept plan tables unit n shares kept entries are found).within, found.end)

-- its text is that of the number
pub package-text : (plan : Project) (tables : Prepared) (unit n : ℕ) (shares : Shares) (kept : KeptShare) (entries : Entries) → AreKeptShares plan tables unit shares → IsPackage shares n kept entries →
    text_numbered (packages_by plan unit shares) n ≡ range_text plan unit kept.place kept.content entries.first entries.end
package-text plan tables unit n shares kept entries are found =
    let items : List KeptShare = shares.kept.items in
    let size : ℕ = shares.size in
    let i : ℕ = found.share in
    let k : ℕ = found.number in
    let d : KeptShare = record { place = 0; content = content.Snapshot; first = 0; end = 0; packages = 0; living = 0 } in
    let cut = kept-cut plan tables unit size items are.each in
    let number : n ≡ sum_by (packages_in size) (take i (map kept_share items)) + k =
    omega (arith, found.before, packages-kept size (take i items) (All-take (HasPackages size) i items cut), ap (sum_by (packages_in size)) (take-map kept_share i items)) in
    let there : get_or (map kept_share items) i (kept_share d) ≡ kept_share kept = get_or-map kept_share items i d ∙ ap kept_share (sym found.is) in
    let has : kept.packages ≡ packages_in size (kept_share kept) = (package-kept plan tables unit n shares kept entries are found).cut.packages in
    ap (text_in (packages_in size) (package_text plan unit size) (map kept_share items)) number
    ∙ text_in-at (packages_in size) (package_text plan unit size) (map kept_share items) i k (kept_share d) (omega (arith, found.there, length-map items kept_share))
    (omega (arith, found.inside, has, ap (packages_in size) there))
    ∙ ap (λ (share : Share). package_text plan unit size share k) there
    ∙ ap (λ (a : ℕ). range_text plan unit kept.place kept.content a (min kept.end (kept.first + (k + 1) * size))) (sym found.first)
    ∙ ap (range_text plan unit kept.place kept.content entries.first) (sym found.end)

-- and a page has room for it
pub package-room : (plan : Project) (tables : Prepared) (unit n room : ℕ) (shares : Shares) (kept : KeptShare) (entries : Entries) → AreKeptShares plan tables unit shares → IsPackage shares n kept entries →
    room_of (packages_by plan unit shares) ≤ room → (entries.end - entries.first) * most_bytes plan kept.place kept.content ≤ room
package-room plan tables unit n room shares kept entries are found fits =
    let items : List KeptShare = shares.kept.items in
    let d : KeptShare = record { place = 0; content = content.Snapshot; first = 0; end = 0; packages = 0; living = 0 } in
    let most : ℕ = most_bytes plan kept.place kept.content in
    let there : get_or (map kept_share items) found.share (kept_share d) ≡ kept_share kept = get_or-map kept_share items found.share d ∙ ap kept_share (sym found.is) in
    let few : entries.end - entries.first ≤ min shares.size (kept.end - kept.first) = omega (arith, found.first, found.end) in
    let within : (entries.end - entries.first) * most ≤ min shares.size (kept.end - kept.first) * most = mul-le-mul_right most few in
    let greatest_is : share_room plan shares.size (get_or (map kept_share items) found.share (kept_share d)) ≤ room_of (packages_by plan unit shares) =
    greatest-least (share_room plan shares.size) (map kept_share items) found.share (kept_share d) (omega (arith, found.there, length-map items kept_share)) in
    omega (arith, within, greatest_is, ap (share_room plan shares.size) there, fits)

-- ---- rows of a snapshot, from the first that may be alive on

pub living-text : (plan : Project) → IsInLimits plan → (place unit : ℕ) → unit ≤ last_unit plan → (first end begin living : ℕ) → first ≤ begin → begin ≤ end → end ≤ born_count (table_of plan place).births unit →
    (first < begin → begin ≤ living) → run_text (lines_at plan unit place) 0 living ≡ [] → run_text (lines_at plan unit place) begin (end - begin) ≡ range_text plan unit place content.Snapshot first end
living-text plan limits place unit reached first end begin living begun within born passed none =
    let lines : RunLinesOf = lines_at plan unit place in
    let all : end - first ≡ begin - first + (end - begin) = omega (arith, begun, within) in
    let start : first + (begin - first) ≡ begin = omega (arith, begun) in
    sym (
    range_text-snapshot plan limits place unit reached first end (omega (arith, begun, within)) born
    ∙ ap (run_text lines first) all
    ∙ run_text-more lines first (begin - first) (end - begin)
    ∙ ap (λ (text : List ℕ). text ++ run_text lines (first + (begin - first)) (end - begin)) nothing
    ∙ ap (λ (from : ℕ). run_text lines from (end - begin)) start
    )
  where
    middle : (a b c : List ℕ) → a ++ (b ++ c) ≡ [] → b ≡ []
    middle [] [] c e = refl
    middle [] (x ∷ b) c e = absurd (cc)
    middle (x ∷ a) b c e = absurd (cc)

    nothing : run_text (lines_at plan unit place) first (begin - first) ≡ []
    nothing = elim (cases_lt first begin) [
      | inl later ↦
          let lines : RunLinesOf = lines_at plan unit place in
          let before : living ≡ first + (begin - first + (living - begin)) = omega (arith, later, passed later) in
          let from : 0 + first ≡ first = omega arith in
          middle (run_text lines 0 first) (run_text lines first (begin - first)) (run_text lines (first + (begin - first)) (living - begin))
          (ap (λ (text : List ℕ). run_text lines 0 first ++ text) (sym (run_text-more lines first (begin - first) (living - begin)))
          ∙ ap (λ (a : ℕ). run_text lines 0 first ++ run_text lines a (begin - first + (living - begin))) (sym from)
          ∙ sym (run_text-more lines 0 first (begin - first + (living - begin)))
          ∙ ap (run_text lines 0) (sym before)
          ∙ none)
      | inr same ↦ let zero_rows : begin - first ≡ 0 = omega (arith, same) in ap (run_text (lines_at plan unit place) first) zero_rows
    ]

-- a text on a page that was empty
pub put-text : (before after : Page) (text whole : List ℕ) → before.text ≡ [] → after ≡ record { text = before.text ++ text; room = before.room } → text ≡ whole →
    after ≡ record { text = whole; room = before.room }
put-text before after text whole empty put is = put ∙ ap₂ (λ (front back : List ℕ). record { text = front ++ back; room = before.room }) empty is

-- where none may be alive, it stays as it is
pub put-none : (before : Page) (whole : List ℕ) → before.text ≡ [] → [] ≡ whole → before ≡ record { text = whole; room = before.room }
put-none before whole empty is = ap (λ (text : List ℕ). record { text = text; room = before.room }) (empty ∙ is)

-- ---- sizes

-- a text has as many bytes as the one that it is
pub text-size : (text whole : List ℕ) (most : ℕ) → text ≡ whole → length text ≤ most → length whole ≤ most
text-size text whole most is few = subst (λ (t : List ℕ). length t ≤ most) is few

-- no more rows are taken of a list than asked for
pub few-taken : (listed : List ℕ) (first end most : ℕ) → length (take (end - first) (drop first listed)) * most ≤ (end - first) * most
few-taken listed first end most =
    let few : length (take (end - first) (drop first listed)) ≤ end - first = omega (arith, length-take (end - first) (drop first listed)) in
    mul-le-mul_right most few

-- a package has at most as many bytes as its packer's room
pub package-size : (plan : Project) (tables : Prepared) (unit n : ℕ) (shares : Shares) (kept : KeptShare) (entries : Entries) → AreKeptShares plan tables unit shares → IsPackage shares n kept entries →
    length (range_text plan unit kept.place kept.content entries.first entries.end) ≤ (entries.end - entries.first) * most_bytes plan kept.place kept.content →
    length (text_numbered (packages_by plan unit shares) n) ≤ room_of (packages_by plan unit shares)
package-size plan tables unit n shares kept entries are found few =
    let room : ℕ = room_of (packages_by plan unit shares) in
    let fits = package-room plan tables unit n room shares kept entries are found (omega arith) in
    text-size _ _ room (sym (package-text plan tables unit n shares kept entries are found)) (omega (arith, few, fits))

-- ---- marks

-- the packages of each share are its text
shares-whole : (plan : Project) (tables : Prepared) (unit size : ℕ) → IsInLimits plan → unit ≤ last_unit plan → 1 ≤ size → (kept : List KeptShare) → All (IsKeptShare plan tables unit size) kept →
    All (λ share. flat_map (package_text plan unit size share) (range_with_len 0 (packages_in size share)) ≡ share_text plan unit share) (map kept_share kept)
shares-whole plan tables unit size limits reached some kept are = λ i d below.
    let inside : i < length kept = omega (arith, below, length-map kept kept_share) in
    let none : KeptShare = record { place = 0; content = content.Snapshot; first = 0; end = 0; packages = 0; living = 0 } in
    let here : KeptShare = get_or kept i none in
    let is = are i none inside in
    subst (λ (share : Share). flat_map (package_text plan unit size share) (range_with_len 0 (packages_in size share)) ≡ share_text plan unit share)
    (sym (get_or-mapped kept i none d inside))
    (packages-joined (range_text plan unit here.place here.content) (content_count plan unit here.place here.content)
    (range_text-joined plan limits here.place unit reached here.content) here.first here.end size some is.cut.ordered is.within)
  where
    get_or-mapped : (kept : List KeptShare) (i : ℕ) (none : KeptShare) (d : Share) → i < length kept → get_or (map kept_share kept) i d ≡ kept_share (get_or kept i none)
    get_or-mapped [] i none d below = absurd (omega (arith, below))
    get_or-mapped (k ∷ kept) zero none d below = refl
    get_or-mapped (k ∷ kept) (suc i) none d below = get_or-mapped kept i none d (omega (arith, below))

pub marks-right : (plan : Project) (tables : Prepared) (unit : ℕ) (shares : Shares) (dir : Option (List ℕ)) → IsInLimits plan → AreKeptShares plan tables unit shares →
    AreMarksOf (count_of (packages_by plan unit shares)) (marks_of (packages_by plan unit shares) dir)
marks-right plan tables unit shares None limits are = record {
  some = omega arith;
  first = refl;
  rising = IsNonDecreasingBy-short (λ (mark : Mark). mark.first) (marks_of (packages_by plan unit shares) None) (omega arith);
  within = λ i d below. one i d below;
}
  where
    one : (i : ℕ) (d : Mark) → i < 1 → (get_or (marks_of (packages_by plan unit shares) None) i d).first ≤ count_of (packages_by plan unit shares)
    one zero d below = omega arith
    one (suc i) d below = absurd (omega (arith, below))
marks-right plan tables unit shares (Some directory) limits are =
    AreMarksOf-items (packages_in shares.size) (share_path plan unit directory) (map kept_share shares.kept.items) (omega (arith, are.some_share, length-map shares.kept.items kept_share))

pub marks-due : (plan : Project) (tables : Prepared) (unit : ℕ) (shares : Shares) (dir : Option (List ℕ)) → IsInLimits plan → AreKeptShares plan tables unit shares →
    due_files (text_numbered (packages_by plan unit shares)) (count_of (packages_by plan unit shares)) (marks_of (packages_by plan unit shares) dir) ≡ share_files (packages_by plan unit shares) dir
marks-due plan tables unit shares None limits are =
    let items : List Share = map kept_share shares.kept.items in
    let all : count_of (packages_by plan unit shares) - 0 ≡ sum_by (packages_in shares.size) items = omega arith in
    let text : ℕ → List ℕ = text_numbered (packages_by plan unit shares) in
    let start : (n : ℕ) → text (0 + n) ≡ text n = λ n. let same : 0 + n ≡ n = omega arith in ap text same in
    ap (λ (bytes : List ℕ). record { name = standard_output; bytes = bytes } ∷ [])
    (ap (λ (n : ℕ). flat_map text (range_with_len 0 n)) all
    ∙ text_in-all (packages_in shares.size) (package_text plan unit shares.size) (share_text plan unit) items
    (shares-whole plan tables unit shares.size limits are.reached are.some_entry shares.kept.items are.each) text 0 start)
marks-due plan tables unit shares (Some directory) limits are =
    let items : List Share = map kept_share shares.kept.items in
    let all : count_of (packages_by plan unit shares) ≡ 0 + sum_by (packages_in shares.size) items = omega arith in
    let text : ℕ → List ℕ = text_numbered (packages_by plan unit shares) in
    let start : (n : ℕ) → text (0 + n) ≡ text n = λ n. let same : 0 + n ≡ n = omega arith in ap text same in
    ap (λ (n : ℕ). due_files text n (marks_of (packages_by plan unit shares) (Some directory))) all
    ∙ due_files-items (packages_in shares.size) (package_text plan unit shares.size) (share_text plan unit) (share_path plan unit directory) items
    (shares-whole plan tables unit shares.size limits are.reached are.some_entry shares.kept.items are.each) text 0 start

-- a share of a snapshot that is found
pub snapshot-found : (plan : Project) (unit n : ℕ) (shares : Shares) (kept : KeptShare) (entries : Entries) → All (IsSnapshot plan unit) shares.kept.items → IsPackage shares n kept entries → IsSnapshot plan unit kept
snapshot-found plan unit n shares kept entries are found = subst (λ (k : KeptShare). IsSnapshot plan unit k) (sym found.is) (are found.share _ found.there)
