use Rattle.std.proofs.Common.{◌≡◌, ℕ, List, sym, ap, ◌∙◌}
use Rattle.std.specs.Prelude.{nat_eq}
use Rattle.std.specs.List.{dedup}
use Rattle.std.proofs.lemmas.List.Filters.{dedup_is}
use Rattle.std.proofs.lemmas.List.Sorted.{list_any-IsPermutation}
use Rattle.std.proofs.lemmas.Map.Keys.{IsStrictlyIncreasing-dedup}
use Rattle.std.specs.List.Sorted.{IsStrictlyIncreasing}
use Rattle.std.proofs.Common.{subst}
use Rattle.update_box.specs.Ordinals.{is_one_of}
use Rattle.update_box.proofs.candidates.put_in_order.Goals as goal
use Rattle.update_box.proofs.OrdinalLemmas.{one_of-dedup}

pub returns-clause-rising : goal.returns-clause-rising
returns-clause-rising c =
    let sorted : List ℕ = c.sort_unstable.new.self.items in
    let is : c.dedup.new.self.items ≡ dedup nat_eq sorted = dedup_is nat_eq sorted c.dedup.new.self.items c.dedup.ensures.filtered in
    subst IsStrictlyIncreasing (sym is) (IsStrictlyIncreasing-dedup sorted c.sort_unstable.ensures.sorted)

pub returns-clause-same : goal.returns-clause-same
returns-clause-same c = λ ordinal.
    let sorted : List ℕ = c.sort_unstable.new.self.items in
    let is : c.dedup.new.self.items ≡ dedup nat_eq sorted = dedup_is nat_eq sorted c.dedup.new.self.items c.dedup.ensures.filtered in
    ap (λ (xs : List ℕ). is_one_of xs ordinal) is
    ∙ one_of-dedup ordinal sorted
    ∙ sym (list_any-IsPermutation (λ one. nat_eq one ordinal) c.args.list.now.items sorted c.sort_unstable.ensures.permutation)
