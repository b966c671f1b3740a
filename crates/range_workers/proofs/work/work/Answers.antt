use Rattle.std.proofs.Common.{◌+◌, ◌∷◌, ◌++◌, [], Some, ap, arith, length, length-append, ◌∙◌}
use Rattle.std.proofs.lemmas.List.Elements.{All-pop, All-push, All-same}
use Rattle.ordered_sink.specs.declared.offers.Numbered.{Numbered}
use Rattle.range_workers.specs.Round.{HasRoom, IsPageOf, numbers_of}
use Rattle.range_workers.proofs.WorkLemmas.{can_claim, claimed_one, length-numbers_of, made_page, not_below, worked_eight, worked_to_end}
use Rattle.range_workers.proofs.work.work.Goals as goal

pub claim-number-requires-clause-worker : goal.claim-number-requires-clause-worker
claim-number-requires-clause-worker g c =
    can_claim _ _ _ c.loop.invariant.view (omega (arith, c.loop.invariant.count, c.loop-test.true, length-numbers_of c.loop.worker.bench.made.items))

pub loop-preserved : goal.loop-preserved
loop-preserved g c =
    let made = c.loop.worker.bench.made.items in
    let blank = c.loop.worker.bench.blank.items in
    let number = c.claim-number.result in
    let page : Numbered = record { n = number; page = c.make_page.new.page } in
    let seen = claimed_one _ _ (numbers_of made) c.args.round.base number c.loop.invariant.view c.claim-number.ensures.number in
    let from = not_below _ (numbers_of made) c.args.round.base number c.loop.invariant.view c.claim-number.ensures.from in
    let rooms = All-pop (HasRoom (g.P.Packer.room c.args.packer.now)) blank c.take_last-page.new.self.items (Some c.take_last-page.result) c.take_last-page.ensures.items c.loop.invariant.rooms in
    let Is : Numbered → Type 0 = IsPageOf (g.P.Packer.text c.args.packer.now) (g.P.Packer.room c.args.packer.now) c.args.round in
    let is : Is page = record { from = from; below = c.if-number-round.false; is = c.make_page.ensures } in
    record {
      seat = c.claim-number.ensures.seat;
      view = made_page _ made c.push_reserved.new.self.items page c.args.round.base seen c.push_reserved.ensures.items;
      made = All-same Is c.push_reserved.new.self.items (made ++ page ∷ []) c.push_reserved.ensures.items (All-push Is made page c.loop.invariant.made is);
      count = ap length c.push_reserved.ensures.items ∙ length-append made (page ∷ []) ∙ ap (λ n. n + 1) c.loop.invariant.count;
      pages = omega (arith, ap length c.take_last-page.ensures.items, length-append c.take_last-page.new.self.items (c.take_last-page.result ∷ []), c.loop.invariant.pages);
      rooms = rooms.0;
      blank_fit = omega (arith, c.take_last-page.ensures.capacity, c.loop.invariant.blank_fit);
      made_fit = omega (arith, c.push_reserved.ensures.capacity, c.loop.invariant.made_fit);
    }

pub returns : goal.returns
returns g c =
    worked_eight c.args.claims.now (g.P.Packer.text c.args.packer.now) (g.P.Packer.room c.args.packer.now) c.args.round c.loop.worker (length-numbers_of c.loop.worker.bench.made.items) c.loop.invariant.seat c.loop.invariant.view
    c.loop.invariant.made (omega (arith, c.loop.invariant.count, c.loop-test.false)) (omega (arith, c.loop.invariant.count, c.loop.invariant.pages)) c.loop.invariant.rooms
    c.loop.invariant.blank_fit c.loop.invariant.made_fit

pub returns-then-number-round : goal.returns-then-number-round
returns-then-number-round g c =
    let made = c.loop.worker.bench.made.items in
    let number = c.claim-number.result in
    let seen = claimed_one _ _ (numbers_of made) c.args.round.base number c.loop.invariant.view c.claim-number.ensures.number in
    worked_to_end c.args.claims.now (g.P.Packer.text c.args.packer.now) (g.P.Packer.room c.args.packer.now) number c.args.round
    (record { seat = c.claim-number.new.seat; bench = c.loop.worker.bench }) (length-numbers_of made) c.claim-number.ensures.seat seen c.if-number-round.true
    c.loop.invariant.made (omega (arith, c.loop.invariant.count, c.loop-test.true)) (omega (arith, c.loop.invariant.count, c.loop.invariant.pages)) c.loop.invariant.rooms
    c.loop.invariant.blank_fit c.loop.invariant.made_fit
