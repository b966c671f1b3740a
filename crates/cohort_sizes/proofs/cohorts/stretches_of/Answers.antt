use Rattle.std.proofs.Common.{◌+◌, ◌<◌, ◌^◌, List, ap, arith, get_or, subst, sym, ◌∙◌}
use Rattle.cohort_sizes.specs.declared.rate.Rate.{Rate}
use Rattle.cohort_sizes.specs.declared.stretch.Stretch.{Stretch}
use Rattle.cohort_sizes.specs.Births.{Births, first_ordinal}
use Rattle.cohort_sizes.specs.Rates.{begin_of_rate}
use Rattle.cohort_sizes.specs.Stretches.{AreStretches}
use Rattle.cohort_sizes.proofs.RateLemmas.{begin-beyond, begin-past, begin-within}
use Rattle.cohort_sizes.proofs.StretchLemmas.{AreStretches-to, IsStretch-rate, rate-end, rate-within}
use Rattle.cohort_sizes.proofs.cohorts.stretches_of.Goals as goal
use Rattle.cohort_sizes.proofs.cohorts.stretches_of.Goals.{then-from-until+in_ok-push, else-from-until}

pub overflow_mul-end : goal.overflow_mul-end
overflow_mul-end c =
    let all = rate-within (record { rows = c.args.rows; rates = c.args.rates.now }) c.loop-place.place c.args.last c.loop-place.first c.end_of_rate-until.result (2 ^ 40) (record { from = 0; rows = 0 })
    c.requires.rates c.loop-place-test.true c.end_of_rate-until.ensures c.if-from-until.true c.loop-place.invariant.first c.requires.limit in
    omega (arith, all)

pub overflow_add-end : goal.overflow_add-end
overflow_add-end c =
    let all = rate-within (record { rows = c.args.rows; rates = c.args.rates.now }) c.loop-place.place c.args.last c.loop-place.first c.end_of_rate-until.result (2 ^ 40) (record { from = 0; rows = 0 })
    c.requires.rates c.loop-place-test.true c.end_of_rate-until.ensures c.if-from-until.true c.loop-place.invariant.first c.requires.limit in
    omega (arith, all)

pub loop-place-preserved : goal.loop-place-preserved
loop-place-preserved c =
    let births : Births = record { rows = c.args.rows; rates = c.args.rates.now } in
    let d : Rate = record { from = 0; rows = 0 } in
    elim c.if-from-until.branch [
      | then-from-until+in_ok-push w ↦
          let rises : (get_or c.args.rates.now c.loop-place.place d).from < begin_of_rate c.args.rates.now (c.loop-place.place + 1) c.args.last = omega (arith, w.if-from-until.true, c.end_of_rate-until.ensures) in
          let begins = begin-within c.args.rates.now c.loop-place.place c.args.last d c.requires.rates c.loop-place-test.true rises in
          let is = IsStretch-rate births c.loop-place.place c.args.last c.loop-place.first c.end_of_rate-until.result w.new.result d
          c.requires.rates c.loop-place-test.true c.end_of_rate-until.ensures w.if-from-until.true c.loop-place.invariant.first (omega (arith, w.new.ensures, w.max.ensures)) in
          record {
            stretches =
                AreStretches-to births _ _ c.loop-place.stretches.items c.if-from-until.stretches.items _ is c.loop-place.invariant.stretches begins c.end_of_rate-until.ensures
                (ap (λ stretches. stretches.items) w.stretches-is ∙ w.in_ok-push.ensures.items);
            first =
                w.first-is
                ∙ rate-end births c.loop-place.place c.args.last c.loop-place.first c.end_of_rate-until.result d c.requires.rates c.loop-place-test.true
                c.end_of_rate-until.ensures w.if-from-until.true c.loop-place.invariant.first
                ∙ ap (first_ordinal births) c.end_of_rate-until.ensures;
          }
      | else-from-until w ↦
          let beyond = begin-beyond c.args.rates.now c.loop-place.place c.args.last d c.requires.rates c.loop-place-test.true (omega (arith, w.if-from-until.false, c.end_of_rate-until.ensures)) in
          record {
            stretches =
                subst (λ (items : List Stretch). AreStretches births (begin_of_rate c.args.rates.now (c.loop-place.place + 1) c.args.last) items)
                (sym (ap (λ stretches. stretches.items) w.stretches-is))
                (subst (λ unit. AreStretches births unit c.loop-place.stretches.items) beyond c.loop-place.invariant.stretches);
            first = w.first-is ∙ c.loop-place.invariant.first ∙ ap (first_ordinal births) beyond;
          }
    ]

pub returns : goal.returns
returns c =
    subst (λ unit. AreStretches (record { rows = c.args.rows; rates = c.args.rates.now }) unit c.loop-place.stretches.items)
    (begin-past c.args.rates.now c.loop-place.place c.args.last c.loop-place-test.false) c.loop-place.invariant.stretches
