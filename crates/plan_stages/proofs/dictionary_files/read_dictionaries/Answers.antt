use Rattle.std.proofs.Common.{arith, ◌≡◌, ◌+◌, ℕ, Some, ap, sym, ◌∙◌, refl, length}
use Rattle.std.specs.Prelude.{slice_get}
use Rattle.pd_outside.proofs.Counts.{unfailed_same, unfailed_then}
use Rattle.plan_stages.specs.Limits.{dictionary_limit}
use Rattle.plan_stages.specs.DictionaryFiles.{names_of}
use Rattle.plan_stages.proofs.DictionaryLemmas.{asked_at_end, asked_more, asks_at_most, names_more, none_asked, none_read, none_readable, readable_at_end, readable_more, read_more, read_to_fault, unasked_at_end, unasked_at_fault}
use Rattle.plan_stages.proofs.LibraryLemmas.{after_done, after_step, all_read, done_of_itself}
use Rattle.plan_stages.proofs.dictionary_files.read_dictionaries.Goals as goal

pub loop-place-init : goal.loop-place-init
loop-place-init g c = record {
  count = ap length c.new-dictionaries.ensures;
  read = none_read _ c.args.known.now _ _ c.new-dictionaries.ensures;
  named = ap names_of c.new-dictionaries.ensures;
  readable = none_readable _ _;
  asked = none_asked _;
  files = refl;
  taken = c.requires.taken;
  still = λ _. refl;
  read_out = c.requires.read_out;
  unfailed = unfailed_same _;
}

pub loop-place-preserved : goal.loop-place-preserved
loop-place-preserved g c =
    let inv = c.loop-place.invariant in
    let at : slice_get c.args.names.now c.loop-place.place ≡ Some c.as_str-name.result.now = c.get.ensures ∙ ap Some (sym c.as_str-name.ensures.value) in
    record {
      count = c.in-Ok.ensures.count ∙ ap (λ (k : ℕ). k + 1) inv.count;
      read = read_more _ _ c.args.known.now _ _ _ c.loop-place.place c.as_str-name.result.now inv.files at inv.read c.in-Ok.ensures.read;
      named = names_more _ c.loop-place.place c.as_str-name.result.now _ _ at inv.named c.in-Ok.ensures.named;
      readable = readable_more _ _ _ _ _ c.loop-place.place c.as_str-name.result.now inv.files at inv.readable c.in-Ok.ensures.read;
      asked = asked_more _ c.loop-place.place c.as_str-name.result.now _ _ _ at inv.asked c.in-Ok.ensures.asked;
      files = c.in-Ok.ensures.after.files ∙ inv.files;
      taken = c.in-Ok.ensures.after.within refl;
      still = λ first. absurd (omega (arith, first));
      read_out = c.in-Ok.ensures.after.read_out refl;
      unfailed = unfailed_then _ _ _ inv.unfailed (c.in-Ok.ensures.after.unfailed (λ e. absurd (cc)));
    }

pub returns-in-Err-clause-read : goal.returns-in-Err-clause-read
returns-in-Err-clause-read g c =
    let inv = c.loop-place.invariant in
    let at : slice_get c.args.names.now c.loop-place.place ≡ Some c.as_str-name.result.now = c.get.ensures ∙ ap Some (sym c.as_str-name.ensures.value) in
    read_to_fault _ _ c.args.known.now _ _ c.loop-place.place _ c.as_str-name.result.now c.in-Err.cause inv.files inv.count (omega arith) at inv.read c.in-Err.ensures.refused

pub returns-in-Err-clause-asked : goal.returns-in-Err-clause-asked
returns-in-Err-clause-asked g c =
    let inv = c.loop-place.invariant in
    let at : slice_get c.args.names.now c.loop-place.place ≡ Some c.as_str-name.result.now = c.get.ensures ∙ ap Some (sym c.as_str-name.ensures.value) in
    asks_at_most _ _ c.loop-place.place c.as_str-name.result.now _ _ _ at inv.readable inv.asked c.in-Err.ensures.asked_at_most

pub returns-in-Err-clause-unasked : goal.returns-in-Err-clause-unasked
returns-in-Err-clause-unasked g c =
    let inv = c.loop-place.invariant in
    let at : slice_get c.args.names.now c.loop-place.place ≡ Some c.as_str-name.result.now = c.get.ensures ∙ ap Some (sym c.as_str-name.ensures.value) in
    unasked_at_fault _ c.loop-place.place c.as_str-name.result.now _ _ _ _ _ at inv.asked c.in-Err.ensures.unasked

pub returns-clause-unasked : goal.returns-clause-unasked
returns-clause-unasked g c =
    unasked_at_end c.args.names.now c.loop-place.place _ _ _ _ (omega arith) c.loop-place.invariant.asked c.loop-place.invariant.still

pub returns-clause-asked_all : goal.returns-clause-asked_all
returns-clause-asked_all g c = asked_at_end c.args.names.now c.loop-place.place _ _ (omega arith) c.loop-place.invariant.asked

pub returns-clause-readable : goal.returns-clause-readable
returns-clause-readable g c = readable_at_end _ c.args.names.now c.loop-place.place (omega arith) c.loop-place.invariant.readable

pub returns-in-Err-clause-after : goal.returns-in-Err-clause-after
returns-in-Err-clause-after g c = after_step _ _ _ _ _ _ _ _ _ _ c.loop-place.invariant.files c.loop-place.invariant.unfailed c.in-Err.ensures.after

pub returns-clause-after : goal.returns-clause-after
returns-clause-after g c =
    let inv = c.loop-place.invariant in
    after_done _ 0 dictionary_limit _ _ _ _ _ _ done_of_itself (all_read _ _ _ _ _ _ inv.files inv.read_out inv.taken inv.unfailed)
