use Rattle.std.proofs.Common.{◌++◌, ◌∷◌, [], sym, ap, ◌∙◌, subst, arith}
use Rattle.std.proofs.lemmas.Result.{err_from_is_err_and}
use Rattle.id_permutation.specs.OrderList.{OrderList}
use Rattle.id_permutation.specs.Kept.{arrangement_by, IsCountable}
use Rattle.id_permutation.proofs.KeptLaws.{AreKept-added, AreKept-forms, arrangements-new, entries-added, view-forms}
use Rattle.id_permutation.proofs.kept.KeptOrders.push_form.Goals as goal

pub invariant_of-self-in_err-keep : goal.invariant_of-self-in_err-keep
invariant_of-self-in_err-keep c = AreKept-forms _ _ _ _ _ _ c.self.invariant c.form_index.ensures.more c.in_err-keep.ensures.no_tables c.in_err-keep.ensures.no_order

pub returns-in_err-keep-clause-refused : goal.returns-in_err-keep-clause-refused
returns-in_err-keep-clause-refused c =
    let answer = err_from_is_err_and c.from_residual-in_err-keep.result c.from_residual-in_err-keep.ensures.1 in
    let same = view-forms _ _ _ _ _ _ c.self.invariant c.form_index.ensures.more c.in_err-keep.ensures.no_tables c.in_err-keep.ensures.no_order ∙ c.self.view_is in
    rw answer.1 same

pub invariant_of-self-2 : goal.invariant_of-self-2
invariant_of-self-2 c =
    AreKept-added _ _ _ _ _ _ _ _ c.args.form c.self.invariant c.form_index.ensures.more c.in_ok-keep.ensures.tables c.in_ok-keep.ensures.order
    c.in_ok-index.ensures.below c.in_ok-index.ensures.exact (grind arith) (c.deref.ensures.value ∙ c.in_ok-tables.ensures)
    (subst (IsCountable c.args.form) (sym (ap (λ (list : OrderList). list.entries) c.self.view_is)) c.requires)

pub returns-clause-kept : goal.returns-clause-kept
returns-clause-kept c =
    arrangements-new _ _ _ _ _ _ c.args.form c.self.invariant c.form_index.ensures.more c.in_ok-keep.ensures.order c.in_ok-index.ensures.exact
    ∙ ap (λ (list : OrderList). list.orders ++ arrangement_by c.args.form c.args.seed ∷ []) c.self.view_is

pub returns-clause-entries : goal.returns-clause-entries
returns-clause-entries c =
    entries-added c.args.form c.args.seed _ _ _ _ c.in_ok-keep.ensures.tables (c.deref.ensures.value ∙ c.in_ok-tables.ensures) (ap (λ (list : OrderList). list.entries) c.self.view_is)
