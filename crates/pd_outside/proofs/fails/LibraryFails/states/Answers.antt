use Rattle.std.proofs.Common.{◌≡◌, ℕ, ◌<◌, Bool, true, List, length, map, get_or, sym, ap, ◌∙◌, arith}
use Rattle.std.specs.List.{list_any}
use Rattle.std.proofs.Math.ListN.{get_or-map}
use Rattle.std.proofs.lemmas.List.{length-map}
use Rattle.std.proofs.lemmas.List.Folds.{list_any_at}
use Rattle.pd_outside.specs.StatedFails.{is_call}
use Rattle.pd_outside.specs.NamedCall.{name_and_call}
use Rattle.pd_outside.proofs.fails.LibraryFails.states.Goals as goal

list_any-map_at : {A B : Type 0} (p : B → Bool) (f : A → B) (xs : List A) (i : ℕ) (x : A) → i < length xs → x ≡ get_or xs i x → p (f x) ≡ true → list_any p (map f xs) ≡ true
list_any-map_at {A = A} {B = B} p f xs i x within is passes =
    list_any_at p (map f xs) i (f x) (omega (arith, length-map {A = A} {B = B}))
    (ap p (get_or-map f xs i x ∙ ap f (sym is)) ∙ passes)

pub returns-then-is_on : goal.returns-then-is_on
returns-then-is_on c =
    let items : c.args.self.now ≡ map name_and_call c.deref-fail-items.result.now = cc in
    let test = is_call c.args.name.now c.args.call in
    let found : list_any test (map name_and_call c.deref-fail-items.result.now) ≡ true =
    list_any-map_at test name_and_call _ c.loop-fail.fail-index c.fail-item.result (omega arith) c.fail-item.is (cc)
    in
    cc
