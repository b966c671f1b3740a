use Rattle.std.proofs.Common.{arith, ◌≡◌, ◌+◌, ◌++◌, ◌∙◌, Err, List, ℕ, Some, ap, inl, inr, length, refl, sym, take}
use Rattle.std.specs.Prelude.{slice_get}
use Rattle.std.specs.Option.{option_map}
use Rattle.std.proofs.lemmas.List.{take_all}
use Rattle.pd_outside.proofs.Counts.{unfailed_same, unfailed_then}
use Rattle.plan_stages.specs.Inputs.{all_read_out, taken_of_last, total_length}
use Rattle.plan_stages.proofs.DictionaryLemmas.{asked_more, none_asked}
use Rattle.plan_stages.proofs.InputLemmas.{asked_to_fault, cause_of, files_stay, inputs_at_end, inputs_more, inputs_to_fault, limit_of_next, no_input, none_read_out, read_out_more, length_more, taken_more, total_more}
use Rattle.plan_stages.proofs.LibraryLemmas.{after_step}
use Rattle.plan_stages.proofs.input_files.read_in_turn.Goals as goal

pub loop-place-init : goal.loop-place-init
loop-place-init g c = record {
  count = ap length c.new-inputs.ensures;
  limits = omega (arith, ap total_length c.new-inputs.ensures);
  read = no_input _ _ _ _ c.new-inputs.ensures;
  asked = none_asked _;
  content = none_read_out _;
  taken = ap (λ (inputs : List (List ℕ)). taken_of_last inputs (g.L.Library.taken c.args.library.now)) (sym c.new-inputs.ensures);
  unfailed = unfailed_same _;
}

pub loop-place-preserved : goal.loop-place-preserved
loop-place-preserved g c =
    let inv = c.loop-place.invariant in
    let one = c.in-Ok.ensures.read in
    let at : slice_get c.args.names.now c.loop-place.place ≡ Some c.as_str-name.result.now = c.get.ensures ∙ ap Some (sym c.as_str-name.ensures.value) in
    let total : total_length c.add_input.new.inputs ≡ total_length c.loop-place.inputs + length one.bytes = total_more c.loop-place.inputs c.add_input.new.inputs one.bytes one.appended in
    let files = files_stay (take c.loop-place.place c.args.names.now) _ _ inv.content in
    record {
      count = length_more c.loop-place.inputs c.add_input.new.inputs one.bytes one.appended ∙ ap (λ (k : ℕ). k + 1) inv.count;
      limits = omega (arith, c.in-Ok.ensures.length);
      read = inputs_more _ _ _ _ _ _ c.loop-place.place c.as_str-name.result.now one.bytes files at inv.read one.whole one.appended (omega arith);
      asked = asked_more _ c.loop-place.place c.as_str-name.result.now _ _ _ at inv.asked (c.in-Ok.ensures.asked (inl refl));
      content = read_out_more _ c.loop-place.place c.as_str-name.result.now _ _ _ at inv.content one.read_out;
      taken = one.taken ∙ sym (taken_more c.loop-place.inputs c.add_input.new.inputs one.bytes (g.L.Library.taken c.args.library.now) one.appended);
      unfailed = unfailed_then _ _ _ inv.unfailed one.unfailed;
    }

pub returns-in-Err-clause-inputs : goal.returns-in-Err-clause-inputs
returns-in-Err-clause-inputs g c =
    let inv = c.loop-place.invariant in
    let at : slice_get c.args.names.now c.loop-place.place ≡ Some c.as_str-name.result.now = c.get.ensures ∙ ap Some (sym c.as_str-name.ensures.value) in
    inputs_to_fault _ _ _ _ c.loop-place.left _ c.loop-place.place c.as_str-name.result.now c.in-Err.cause (files_stay (take c.loop-place.place c.args.names.now) _ _ inv.content) at inv.count inv.limits inv.read
    (λ same. c.in-Err.ensures.longer (ap Err same))

pub returns-in-Err-clause-unread : goal.returns-in-Err-clause-unread
returns-in-Err-clause-unread g c =
    let inv = c.loop-place.invariant in
    record {
      number = omega arith;
      own_limit = c.loop-place.left;
      within = omega (arith, inv.limits);
      limits = limit_of_next _ _ _ c.loop-place.left _ c.loop-place.place inv.limits inv.read;
      at_most = c.in-Err.ensures.at_most;
      only_too_long = λ more. cause_of c.in-Err.cause (c.in-Err.ensures.only_too_long more);
      library = after_step _ _ _ _ _ _ _ _ _ _ (files_stay (take c.loop-place.place c.args.names.now) _ _ inv.content) inv.unfailed c.in-Err.ensures.unread;
    }

pub returns-in-Err-clause-asked_to_fault : goal.returns-in-Err-clause-asked_to_fault
returns-in-Err-clause-asked_to_fault g c =
    let inv = c.loop-place.invariant in
    let at : slice_get c.args.names.now c.loop-place.place ≡ Some c.as_str-name.result.now = c.get.ensures ∙ ap Some (sym c.as_str-name.ensures.value) in
    asked_to_fault _ c.loop-place.place c.as_str-name.result.now c.in-Err.cause _ _ _ _ at inv.asked c.in-Err.ensures.asked_at_most c.in-Err.ensures.unasked
    (λ same. c.in-Err.ensures.asked (inr (ap Err same)))

pub returns-clause-inputs : goal.returns-clause-inputs
returns-clause-inputs g c = inputs_at_end _ _ _ _ c.loop-place.place (omega arith) c.loop-place.invariant.read

pub returns-clause-read : goal.returns-clause-read
returns-clause-read g c =
    let inv = c.loop-place.invariant in
    let all : take c.loop-place.place c.args.names.now ≡ c.args.names.now = take_all c.loop-place.place c.args.names.now (omega arith) in
    record {
      count = omega (arith, inv.count);
      within = omega (arith, inv.limits);
      read_out = inv.content ∙ ap (λ (names : List (List ℕ)). option_map (all_read_out names) (g.L.Library.content c.args.library.now)) all;
      taken = inv.taken;
      unfailed = inv.unfailed;
    }

pub returns-clause-asked : goal.returns-clause-asked
returns-clause-asked g c =
    let inv = c.loop-place.invariant in
    let all : take c.loop-place.place c.args.names.now ≡ c.args.names.now = take_all c.loop-place.place c.args.names.now (omega arith) in
    inv.asked ∙ ap (λ (names : List (List ℕ)). option_map (λ (before : List (List ℕ)). before ++ names) (g.L.Library.asked c.args.library.now)) all
