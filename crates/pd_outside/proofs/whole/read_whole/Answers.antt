use Rattle.std.proofs.Common.{◌≡◌, ◌<◌, ◌≤◌, ◌+◌, ◌++◌, take, drop, length-append, List, [], ℕ, length, inl, inr, sym, ap, subst, arith, ◌∙◌}
use Rattle.std.proofs.lemmas.List.{length-drop}
use Rattle.pd_outside.proofs.Counts.{failed_by, failed_then, unfailed_by, unfailed_then}
use Rattle.pd_outside.proofs.Pieces.{HasRead, read_nothing, read_more, read_all, read_past, files_stay, files_stay_stopped, files_stay_taken, prefix_piece}
use Rattle.pd_outside.proofs.whole.read_whole.Goals as goal

pub loop-n-init : goal.loop-n-init
loop-n-init g c =
    let none : ◌≡◌ {A = List ℕ} c.new-bytes.result.items [] = c.new-bytes.ensures.items in
    record {
      read =
          subst (λ (bytes : List ℕ). HasRead c.args.name.now bytes (g.L.Library.content c.args.library.now) (g.L.Library.content c.start.new.self)) (sym none)
          (read_nothing _ _ _ c.in-Ok.ensures.content);
      asked = c.in-Ok.ensures.asked;
      started = c.in-Ok.ensures.started;
      taken = c.in-Ok.ensures.taken ∙ sym (ap length none);
      within = omega (arith, ap length none);
      unfailed = unfailed_by _ _ _ c.in-Ok.ensures.counts;
      chunk = omega (arith, c.as_mut_slice-chunk.ensures.len, c.in_ok-buffer.ensures);
    }

pub returns-in-Err-read-clause-failed : goal.returns-in-Err-read-clause-failed
returns-in-Err-read-clause-failed g c = λ _. failed_then _ _ _ c.loop-n.invariant.unfailed (failed_by _ _ _ c.in-Err-read.ensures.counts)

pub returns-in-Err-read-clause-started : goal.returns-in-Err-read-clause-started
returns-in-Err-read-clause-started g c = λ answer. elim answer [ inl ok ↦ absurd (cc) | inr other ↦ absurd (cc) ]

pub returns-in-Err-read-clause-files : goal.returns-in-Err-read-clause-files
returns-in-Err-read-clause-files g c =
    files_stay_stopped _ _ _ (files_stay _ _ _ _ c.loop-n.invariant.read) c.in-Err-read.ensures.stopped

pub returns-then-n-eq0-clause-whole : goal.returns-then-n-eq0-clause-whole
returns-then-n-eq0-clause-whole g c =
    (read_all _ _ _ _ _ _ _ c.loop-n.invariant.read c.if-n-eq0.true c.in-Ok-read.ensures.content c.in-Ok-read.ensures.prefix).0

pub returns-then-n-eq0-clause-read_out : goal.returns-then-n-eq0-clause-read_out
returns-then-n-eq0-clause-read_out g c =
    (read_all _ _ _ _ _ _ _ c.loop-n.invariant.read c.if-n-eq0.true c.in-Ok-read.ensures.content c.in-Ok-read.ensures.prefix).1

pub returns-then-n-eq0-clause-files : goal.returns-then-n-eq0-clause-files
returns-then-n-eq0-clause-files g c =
    files_stay_taken _ _ _ _ (files_stay _ _ _ _ c.loop-n.invariant.read) c.in-Ok-read.ensures.content

pub returns-then-limit-len-clause-longer : goal.returns-then-limit-len-clause-longer
returns-then-limit-len-clause-longer g c =
    λ _. let past : c.args.limit < length c.loop-n.bytes.items + c.in-Ok-read.n = omega arith in
    read_past _ _ _ _ _ _ _ c.loop-n.invariant.read c.in-Ok-read.ensures.prefix past (omega arith)

pub returns-then-limit-len-clause-files : goal.returns-then-limit-len-clause-files
returns-then-limit-len-clause-files g c =
    files_stay_taken _ _ _ _ (files_stay _ _ _ _ c.loop-n.invariant.read) c.in-Ok-read.ensures.content

pub loop-n-preserved : goal.loop-n-preserved
loop-n-preserved g c =
    let inv = c.loop-n.invariant in
    let within : c.in-Ok-read.n ≤ length c.read.new.into = omega (arith, c.in-Ok-read.ensures.within, c.read.auto.into) in
    let piece = prefix_piece c.in-Ok-read.n c.read.new.into (drop c.min-wanted.result c.loop-n.chunk) within in
    let grown : ◌≡◌ {A = List ℕ} c.extend_from_slice.new.self.items
    (c.loop-n.bytes.items ++ take c.in-Ok-read.n (c.read.new.into ++ drop c.min-wanted.result c.loop-n.chunk)) =
    c.in_ok-extend_from_slice.ensures.items
    in
    let longer : length c.extend_from_slice.new.self.items ≡ length c.loop-n.bytes.items + c.in-Ok-read.n =
    ap length grown ∙ length-append _ _ ∙ ap (λ (k : ℕ). length c.loop-n.bytes.items + k) piece.1
    in
    record {
      read =
          subst (λ (bytes : List ℕ). HasRead c.args.name.now bytes (g.L.Library.content c.args.library.now) (g.L.Library.content c.read.new.self)) (sym grown)
          (read_more _ _ _ c.read.new.into c.in-Ok-read.n _ _ _ inv.read c.in-Ok-read.ensures.content c.in-Ok-read.ensures.prefix piece.0 piece.1);
      asked = c.in-Ok-read.ensures.asked ∙ inv.asked;
      started = c.in-Ok-read.ensures.started;
      taken = c.in-Ok-read.ensures.taken ∙ ap (λ (k : ℕ). k + c.in-Ok-read.n) inv.taken ∙ sym longer;
      within = omega (arith, longer);
      unfailed = unfailed_then _ _ _ inv.unfailed (unfailed_by _ _ _ c.in-Ok-read.ensures.counts);
      chunk = omega (arith, length-append c.read.new.into (drop c.min-wanted.result c.loop-n.chunk), length-drop c.min-wanted.result c.loop-n.chunk, c.read.auto.into, inv.chunk);
    }

pub returns-in_err-extend_from_slice-clause-files : goal.returns-in_err-extend_from_slice-clause-files
returns-in_err-extend_from_slice-clause-files g c =
    files_stay_taken _ _ _ _ (files_stay _ _ _ _ c.loop-n.invariant.read) c.in-Ok-read.ensures.content

pub returns-then-n-eq0-clause-unfailed : goal.returns-then-n-eq0-clause-unfailed
returns-then-n-eq0-clause-unfailed g c = inr (unfailed_then _ _ _ c.loop-n.invariant.unfailed (unfailed_by _ _ _ c.in-Ok-read.ensures.counts))

pub returns-then-limit-len-clause-unfailed : goal.returns-then-limit-len-clause-unfailed
returns-then-limit-len-clause-unfailed g c = inr (unfailed_then _ _ _ c.loop-n.invariant.unfailed (unfailed_by _ _ _ c.in-Ok-read.ensures.counts))

pub returns-in_err-extend_from_slice-clause-unfailed : goal.returns-in_err-extend_from_slice-clause-unfailed
returns-in_err-extend_from_slice-clause-unfailed g c = inr (unfailed_then _ _ _ c.loop-n.invariant.unfailed (unfailed_by _ _ _ c.in-Ok-read.ensures.counts))

pub returns-in-Err-clause-failed : goal.returns-in-Err-clause-failed
returns-in-Err-clause-failed g c = λ _. failed_by _ _ _ c.in-Err.ensures.counts
