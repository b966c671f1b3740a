use Rattle.std.proofs.Common.{ℕ, subst, sym}
use Rattle.update_box.specs.Kept.{HasItsLists, IsKeptShare}
use Rattle.update_box.specs.TableLists.{HasLists}
use Rattle.update_box.proofs.ShareLemmas.{All-three}
use Rattle.update_box.proofs.list_packer.push_changes.Goals as goal

pub returns-clause-kept : goal.returns-clause-kept
returns-clause-kept c =
    All-three (IsKeptShare c.args.plan.now c.args.tables.now c.args.job.now.unit c.args.job.now.package) _ _ _ _ _ c.in_ok-push_three.ensures c.requires.kept
    c.list_share-deleted.ensures.kept c.list_share-updated.ensures.kept c.list_share-inserted.ensures.kept

pub returns-clause-have : goal.returns-clause-have
returns-clause-have c =
    let has : ℕ → Type 0 = HasLists c.args.plan.now c.args.job.now.unit c.args.lists.now in
    All-three (HasItsLists c.args.plan.now c.args.job.now.unit c.args.lists.now) _ _ _ _ _ c.in_ok-push_three.ensures c.requires.have
    (subst has (sym c.list_share-deleted.ensures.place) c.requires.lists) (subst has (sym c.list_share-updated.ensures.place) c.requires.lists) (subst has (sym c.list_share-inserted.ensures.place) c.requires.lists)
