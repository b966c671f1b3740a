use Rattle.std.proofs.Common.{rules, ◌≡◌, ◌+◌, ◌<◌, ℕ, List, [], ◌∷◌, arith, drop, length, subst, sym, ◌∙◌}
use Rattle.std.specs.Option.{option_map}
use Rattle.pd_outside.proofs.Counts.{failed_then, unfailed_same, unfailed_then}
use Rattle.pd_outside.specs.Files.{File}
use Rattle.pd_outside.specs.Shelf.{HoldsPrefixOf, finish_files}
use Rattle.range_workers.specs.Makers.{IsReadyToMake}
use Rattle.range_workers.proofs.MarkLemmas.{due_file-is, due_files-all, due_files-around, due_files-onto, end_before_mark, end_before_told, mark_ordered, mark_within, starts_at_0}
use Rattle.range_workers.proofs.WriteLemmas.{finished_then, next_in_part}
use Rattle.range_workers.proofs.job.write_files.Goals as goal

pub write_file-requires-clause-ordered : goal.write_file-requires-clause-ordered
write_file-requires-clause-ordered g c =
    let count = g.P.Packer.count c.args.packer.now in
    let below : c.loop-i.i < length c.args.marks.now = omega (arith, c.loop-i-test.true, c.len-i-end.ensures) in
    let end = end_before_told c.count-count.result count c.end-end.result (drop (c.loop-i.i + 1) c.args.marks.now) c.count-count.ensures.count c.end-end.ensures in
    omega (arith, end, c.first.ensures, mark_ordered count c.loop-i.i c.args.marks.now c.requires.marks below)

pub write_file-requires-clause-within : goal.write_file-requires-clause-within
write_file-requires-clause-within g c =
    let count = g.P.Packer.count c.args.packer.now in
    let end = end_before_told c.count-count.result count c.end-end.result (drop (c.loop-i.i + 1) c.args.marks.now) c.count-count.ensures.count c.end-end.ensures in
    omega (arith, end, mark_within count (c.loop-i.i + 1) c.args.marks.now c.requires.marks)

pub returns-in-Err-clause-prefix : goal.returns-in-Err-clause-prefix
returns-in-Err-clause-prefix g c =
    let text = g.P.Packer.text c.args.packer.now in
    let count = g.P.Packer.count c.args.packer.now in
    let marks = c.args.marks.now in
    let below : c.loop-i.i < length marks = omega (arith, c.loop-i-test.true, c.len-i-end.ensures) in
    let end = end_before_told c.count-count.result count c.end-end.result (drop (c.loop-i.i + 1) marks) c.count-count.ensures.count c.end-end.ensures in
    let file = due_file-is text count c.loop-i.i marks c.name.result.now c.first.result c.end-end.result c.name.ensures c.first.ensures end in
    next_in_part _ _ _ _ _ _ _ (due_files-around text count c.loop-i.i marks below) c.loop-i.invariant.files
    (subst (λ (it : File). HoldsPrefixOf (it ∷ []) (g.S.Shelf.held c.loop-i.shelf) (g.S.Shelf.held c.write_file.new.shelf)) file c.in-Err.ensures.prefix)

pub loop-i-preserved : goal.loop-i-preserved
loop-i-preserved g c =
    let text = g.P.Packer.text c.args.packer.now in
    let count = g.P.Packer.count c.args.packer.now in
    let marks = c.args.marks.now in
    let below : c.loop-i.i < length marks = omega (arith, c.loop-i-test.true, c.len-i-end.ensures) in
    let end = end_before_told c.count-count.result count c.end-end.result (drop (c.loop-i.i + 1) marks) c.count-count.ensures.count c.end-end.ensures in
    let file = due_file-is text count c.loop-i.i marks c.name.result.now c.first.result c.end-end.result c.name.ensures c.first.ensures end in
    record {
      files =
          finished_then _ _ _ _ _ _ (due_files-onto text count c.loop-i.i marks below) c.loop-i.invariant.files
          (subst (λ (it : File). g.S.Shelf.held c.write_file.new.shelf ≡ option_map (finish_files (it ∷ [])) (g.S.Shelf.held c.loop-i.shelf)) file c.in-Ok.ensures.file);
      none_begun = c.in-Ok.ensures.none_begun;
      unfailed = unfailed_then _ _ _ c.loop-i.invariant.unfailed c.in-Ok.ensures.counts.unfailed;
      ready = subst (λ (n : ℕ). IsReadyToMake text count (g.P.Packer.room c.args.packer.now) n c.write_file.new.makers) end c.in-Ok.ensures.ready;
    }

pub returns-clause-files : goal.returns-clause-files
returns-clause-files g c =
    let text = g.P.Packer.text c.args.packer.now in
    let count = g.P.Packer.count c.args.packer.now in
    subst (λ (files : List File). g.S.Shelf.held c.loop-i.shelf ≡ option_map (finish_files files) (g.S.Shelf.held c.args.shelf.now))
    (due_files-all text count c.loop-i.i c.args.marks.now (omega (arith, c.loop-i-test.false, c.len-i-end.ensures))) c.loop-i.invariant.files

pub loop-i-init : goal.loop-i-init
loop-i-init g c =
    let text = g.P.Packer.text c.args.packer.now in
    let count = g.P.Packer.count c.args.packer.now in
    record {
      files = search rules;
      none_begun = c.requires.none_begun;
      unfailed = unfailed_same _;
      ready =
          subst (λ (n : ℕ). IsReadyToMake text count (g.P.Packer.room c.args.packer.now) n c.args.makers.now) (sym (starts_at_0 count c.args.marks.now c.requires.marks)) c.requires.ready;
    }

pub write_file-requires-clause-ready : goal.write_file-requires-clause-ready
write_file-requires-clause-ready g c = λ lifetimes outlive.
    let text = g.P.Packer.text c.args.packer.now in
    let count = g.P.Packer.count c.args.packer.now in
    let below : c.loop-i.i < length c.args.marks.now = omega (arith, c.loop-i-test.true, c.len-i-end.ensures) in
    subst (λ (n : ℕ). IsReadyToMake text count (g.P.Packer.room c.args.packer.now) n c.loop-i.makers)
    (end_before_mark count c.loop-i.i c.args.marks.now below ∙ sym c.first.ensures) c.loop-i.invariant.ready

pub returns-in-Err-clause-counts : goal.returns-in-Err-clause-counts
returns-in-Err-clause-counts g c = record {
  unfailed = tt;
  failed = failed_then _ _ _ c.loop-i.invariant.unfailed c.in-Err.ensures.counts.failed;
}
