use Rattle.std.proofs.Common.{◌≡◌, ◌+◌, ◌∷◌, [], ℕ, List, Some, ap, arith, length, length-append, subst, sym, ◌∙◌}
use Rattle.std.specs.Prelude.{All}
use Rattle.std.proofs.lemmas.List.Elements.{All-pop, All-push, All-same}
use Rattle.range_workers.specs.declared.work.RoundWorker.{RoundWorker}
use Rattle.range_workers.specs.Round.{CanWork}
use Rattle.range_workers.specs.Seats.{view}
use Rattle.range_workers.specs.Views.{numbers}
use Rattle.range_workers.specs.Workshop.{IsCleared}
use Rattle.range_workers.proofs.BackLemmas.{caller_knows, split_caller, split_worker}
use Rattle.range_workers.proofs.workshop.Workshop.set_out.Goals as goal

pub loop-self-preserved : goal.loop-self-preserved
loop-self-preserved c =
    let shop = c.loop-self.self in
    let inv = c.loop-self.invariant.out in
    let bench = c.take_last-bench.result in
    let ns : List ℕ = numbers (view shop.seat) in
    let n : ℕ = length shop.workers.items in
    let worker : RoundWorker = record { seat = c.split-seat.result; bench = record { blank = c.deal.new.to; made = bench.made } } in
    let cleared = All-pop IsCleared shop.benches.items c.take_last-bench.new.self.items (Some bench) c.take_last-bench.ensures.items inv.staffed.cleared in
    let rooms = c.deal.ensures.rooms shop.room inv.staffed.rooms in
    let one_more : length c.push_reserved.new.self.items ≡ n + 1 = ap length c.push_reserved.ensures.items ∙ length-append shop.workers.items (worker ∷ []) in
    let knows = split_caller (view shop.seat) (view c.split-seat.new.seat) ns n (length c.push_reserved.new.self.items) inv.staffed.knows c.split-seat.ensures.caller one_more in
    let same : ns ≡ numbers (view c.split-seat.new.seat) = sym (ap numbers knows) in
    let out : CanWork shop.claims shop.room (length ns) worker = record {
      seat = c.split-seat.ensures.new_seat;
      knows = split_worker (view shop.seat) (view c.split-seat.result) ns n inv.staffed.knows c.split-seat.ensures.worker;
      pages = c.deal.ensures.dealt;
      rooms = rooms.0;
      none = cleared.1.made;
      blank_fit = omega (arith, c.deal.ensures.to_fit, cleared.1.blank_fit);
      made_fit = cleared.1.made_fit;
    } in
    record {
      out = record {
        staffed = record {
          seat = c.split-seat.ensures.seat;
          knows = caller_knows _ ns _ knows;
          all = omega (arith, inv.staffed.all, one_more, ap length c.take_last-bench.ensures.items, length-append c.take_last-bench.new.self.items (bench ∷ []));
          few = inv.staffed.few;
          cleared = cleared.0;
          rooms = rooms.1;
          benches_fit = omega (arith, inv.staffed.benches_fit, c.take_last-bench.ensures.capacity);
          workers_fit = omega (arith, inv.staffed.workers_fit, c.push_reserved.ensures.capacity);
          pages_fit = omega (arith, inv.staffed.pages_fit, c.deal.ensures.from_fit);
          made_fit = inv.staffed.made_fit;
        };
        out =
            subst (λ (ms : List ℕ). All (CanWork shop.claims shop.room (length ms)) c.push_reserved.new.self.items) same
            (All-same (CanWork shop.claims shop.room (length ns)) c.push_reserved.new.self.items _ c.push_reserved.ensures.items
            (All-push (CanWork shop.claims shop.room (length ns)) shop.workers.items worker inv.out out));
        none = inv.none;
        pages = omega (arith, inv.pages, one_more, c.deal.ensures.left);
      };
      same = record { claims = c.loop-self.invariant.same.claims; room = c.loop-self.invariant.same.room; count = c.loop-self.invariant.same.count };
      numbers = sym same ∙ c.loop-self.invariant.numbers;
    }
