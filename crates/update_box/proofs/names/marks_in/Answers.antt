use Rattle.std.proofs.Common.{◌∙◌}
use Rattle.update_box.specs.Packages.{share_path}
use Rattle.update_box.proofs.ShareLemmas.{first-next, first-within, marks-next}
use Rattle.update_box.proofs.names.marks_in.Goals as goal

pub loop-share-preserved : goal.loop-share-preserved
loop-share-preserved c = record {
  marks = marks-next c.args.size (share_path c.args.plan.now c.args.unit c.args.dir.now) c.args.shares.now c.loop-share.share-index _ c.loop-share.first _ _ _ c.requires.packages c.loop-share-test.true
      c.loop-share.invariant.marks c.loop-share.invariant.first c.in_ok-push_mark.ensures (c.as_str.ensures.value ∙ c.in_ok-name.ensures);
  first = first-next c.args.shares.now c.loop-share.share-index _ c.loop-share.first c.loop-share-test.true c.loop-share.invariant.first;
}

pub overflow_add-first : goal.overflow_add-first
overflow_add-first c = first-within c.args.shares.now c.loop-share.share-index _ c.loop-share.first c.loop-share-test.true c.loop-share.invariant.first c.requires.most
