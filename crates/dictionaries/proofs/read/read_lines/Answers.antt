use Rattle.std.proofs.Common.{◌≡◌, ◌<◌, ◌+◌, ◌==◌, true, false, Some, None, length, get_or, lit<, refl, ap, ◌∙◌, arith}
use Rattle.std.proofs.lemmas.Iterator.Consumers.{YieldsList-turn, YieldsList-end}
use Rattle.std.proofs.lemmas.Iterator.Splits.{YieldsList-from_str_split}
use Rattle.std.specs.List.{slice_split}
use Rattle.std.specs.Str.Iter.{split_text, split_has_more, split_pattern}
use Rattle.dictionaries.specs.Grammar.{is_line_feed, text_of, weight_of, fault_of}
use Rattle.std.specs.Str.Lines.{strip_carriage_return}
use Rattle.std.proofs.lemmas.List.{length_push}
use Rattle.std.proofs.lemmas.Result.{err_from_is_err_and}
use Rattle.dictionaries.proofs.ReadingLemmas.{AreTried-none, AreTried-empty, AreTried-more, AreTried-all, AllAreTried, first_fault-of_tried}
use Rattle.dictionaries.proofs.read.read_lines.Goals.{In-Some, In-None}
use Rattle.dictionaries.proofs.read.read_lines.Goals as goal

-- this iteration's part, of those between the line feeds
turn : (c : In-Some) →
    (length c.loop-part.yielded < length (slice_split is_line_feed c.args.text.now))
    × (c.in-Some.part.now ≡ get_or (slice_split is_line_feed c.args.text.now) (length c.loop-part.yielded) c.in-Some.part.now)
turn c =
    let begins = c.into_iter-part-iterator.ensures.into_iter_gives in
    let parts = YieldsList-from_str_split 10 c.args.text.now (lit< tt)
    (ap split_text begins ∙ c.split-part-items.ensures.text)
    (ap split_has_more begins ∙ c.split-part-items.ensures.has_more)
    (ap split_pattern begins ∙ c.split-part-items.ensures.pattern) in
    YieldsList-turn parts c.loop-part.yielded _ c.loop-part.yielded_by _ _ c.in-Some.part c.in-Some.is c.next.ensures.steps

pub loop-part-init : goal.loop-part-init
loop-part-init c = record {
  counted = refl;
  so_far = AreTried-none _ _ _ _ _ c.new-draft.ensures.count c.new-draft.ensures.entries c.new-draft.ensures.weights;
}

pub returns-in_err-entry-clause-refused : goal.returns-in_err-entry-clause-refused
returns-in_err-entry-clause-refused c =
    let t = turn (goal.at.returns-in_err-entry-clause-refused c).In-Some in
    let n = length c.loop-part.yielded in
    let part = c.in-Some.part.now in
    let line-is = c.strip_carriage_return-line.ensures in
    let filled : (length (strip_carriage_return part) == 0) ≡ false = cc in
    let wrong : fault_of (c.loop-part.draft.count + 1) (n + 1) (strip_carriage_return part) ≡ Some c.in_err-entry.field-0.0 =
    rw (c.loop-part.invariant.counted, line-is) at c.in_err-entry.ensures.refused in
    let told = first_fault-of_tried c.args.text.now n part _ _ _ _ c.in_err-entry.field-0.0 t.0 t.1 filled wrong c.loop-part.invariant.so_far in
    let answer = err_from_is_err_and c.from_residual.result c.from_residual.ensures.1 in
    rw (answer.1, answer.2) told

pub loop-part-preserved : goal.loop-part-preserved
loop-part-preserved c =
    let t = turn (goal.at.loop-part-preserved c).In-Some in
    let n = length c.loop-part.yielded in
    let part = c.in-Some.part.now in
    let line-is = c.strip_carriage_return-line.ensures in
    let filled : (length (strip_carriage_return part) == 0) ≡ false = cc in
    let fine : fault_of (c.loop-part.draft.count + 1) (n + 1) (strip_carriage_return part) ≡ None =
    rw (c.loop-part.invariant.counted, line-is) at c.in_ok-entry.ensures.read.0 in
    let named : weight_of (strip_carriage_return part) ≡ Some c.in_ok-entry.weight = rw line-is at c.in_ok-entry.ensures.read.2 in
    let text-is : text_of (strip_carriage_return part) ≡ c.in_ok-entry.entry.now = rw line-is at c.in_ok-entry.ensures.read.1 in
    let kept = rw (← text-is) at c.keep.ensures.entries in
    let more = AreTried-more c.args.text.now n part _ _ _ _ c.in_ok-entry.weight _ _ _ _ t.0 t.1 filled fine named c.keep.ensures.count c.keep.ensures.whole kept c.keep.ensures.weights c.loop-part.invariant.so_far in
    rw length_push (record { counted = omega arith; so_far = more })

pub loop-part-preserved-then-is_empty : goal.loop-part-preserved-then-is_empty
loop-part-preserved-then-is_empty c =
    let t = turn (goal.at.loop-part-preserved-then-is_empty c).In-Some in
    let n = length c.loop-part.yielded in
    let part = c.in-Some.part.now in
    let line-is = c.strip_carriage_return-line.ensures in
    let empty : (length (strip_carriage_return part) == 0) ≡ true = cc in
    let same = AreTried-empty c.args.text.now n part _ _ _ _ t.0 t.1 empty c.loop-part.invariant.so_far in
    rw length_push (record { counted = omega arith; so_far = same })

all : (c : In-None) → AllAreTried c.args.text.now c.loop-part.draft.count c.loop-part.draft.is_whole c.loop-part.draft.entries c.loop-part.draft.weights.items
all c =
    let begins = c.into_iter-part-iterator.ensures.into_iter_gives in
    let parts = YieldsList-from_str_split 10 c.args.text.now (lit< tt)
    (ap split_text begins ∙ c.split-part-items.ensures.text)
    (ap split_has_more begins ∙ c.split-part-items.ensures.has_more)
    (ap split_pattern begins ∙ c.split-part-items.ensures.pattern) in
    let end = YieldsList-end parts c.loop-part.yielded _ c.loop-part.yielded_by _ _ c.in-None.is c.next.ensures.steps in
    AreTried-all c.args.text.now (length c.loop-part.yielded) _ _ _ _ end.1 c.loop-part.invariant.so_far

pub returns-clause-right : goal.returns-clause-right
returns-clause-right c = (all (goal.at.returns-clause-right c).In-None).right

pub returns-clause-count : goal.returns-clause-count
returns-clause-count c = (all (goal.at.returns-clause-count c).In-None).counted

pub returns-clause-read : goal.returns-clause-read
returns-clause-read c = (all (goal.at.returns-clause-read c).In-None).kept
