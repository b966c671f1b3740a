use Rattle.std.proofs.Common.{◌≡◌, ℕ, ◌+◌, arith, map, max, take}
use Rattle.update_box.specs.Cuts.{greatest}
use Rattle.update_box.specs.Kept.{kept_share}
use Rattle.update_box.specs.Packages.{share_room}
use Rattle.update_box.proofs.ShareLemmas.{greatest-next}
use Rattle.update_box.proofs.shares.room_for.Goals as goal
use Rattle.update_box.proofs.shares.room_for.Goals.{then-wanted-room, else-wanted-room}

pub loop-share-preserved : goal.loop-share-preserved
loop-share-preserved c =
    let next : (now : ℕ) → now ≡ max c.loop-share.room c.share_room-wanted.result → now ≡ greatest (share_room c.args.plan.now c.args.size) (map kept_share (take (c.loop-share.share-index + 1) c.args.shares.now)) =
    λ now most. greatest-next (share_room c.args.plan.now c.args.size) kept_share c.args.shares.now c.loop-share.share-index _ _ _ _ c.loop-share-test.true c.loop-share.invariant.so_far c.share_room-wanted.ensures.room most in
    elim c.if-wanted-room.branch [
      | then-wanted-room w ↦ record { so_far = next _ (omega (arith, w.room-is, w.if-wanted-room.true)); few = omega (arith, w.room-is, c.share_room-wanted.ensures.few) }
      | else-wanted-room w ↦ record { so_far = next _ (omega (arith, w.room-is, w.if-wanted-room.false)); few = omega (arith, w.room-is, c.loop-share.invariant.few) }
    ]
