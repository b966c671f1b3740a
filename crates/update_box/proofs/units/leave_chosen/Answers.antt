use Rattle.std.proofs.Common.{◌≡◌, ◌+◌, List, Vec, Global, false, true, arith, subst, sym, ◌∙◌}
use Rattle.update_box.specs.declared.table_rows.TableRows.{TableRows}
use Rattle.update_box.specs.TableLists.{is_chosen}
use Rattle.update_box.proofs.UnitLemmas.{AreLeft, left-kept, left-none, left-out}
use Rattle.update_box.proofs.units.leave_chosen.Goals as goal
use Rattle.update_box.proofs.units.leave_chosen.Goals.{then-not-is_chosen, else-not-is_chosen}

pub loop-place-init : goal.loop-place-init
loop-place-init c = left-none c.args.table c.args.tables.now.items

pub loop-place-preserved : goal.loop-place-preserved
loop-place-preserved c =
    let tables : List TableRows = c.loop-place.tables.items in
    elim c.if-not-is_chosen.branch [
      | then-not-is_chosen w ↦
          let other : is_chosen c.args.table c.loop-place.place ≡ false = sym c.is_chosen.ensures ∙ w.if-not-is_chosen.true in
          subst (λ (v : Vec TableRows Global). AreLeft c.args.table (c.loop-place.place + 1) c.args.tables.now.items v.items) (sym w.tables-is)
          (left-out c.args.table c.loop-place.place c.args.tables.now.items tables w.none.result (omega (arith, c.loop-place-test.true, c.len-place-end.ensures, c.loop-place.invariant.all)) w.none.ensures other c.loop-place.invariant)
      | else-not-is_chosen w ↦
          let chosen : is_chosen c.args.table c.loop-place.place ≡ true = sym c.is_chosen.ensures ∙ w.if-not-is_chosen.false in
          subst (λ (v : Vec TableRows Global). AreLeft c.args.table (c.loop-place.place + 1) c.args.tables.now.items v.items) (sym w.tables-is)
          (left-kept c.args.table c.loop-place.place c.args.tables.now.items tables chosen c.loop-place.invariant)
    ]
