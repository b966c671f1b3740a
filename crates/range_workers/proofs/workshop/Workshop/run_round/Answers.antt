use Rattle.std.proofs.Common.{◌≡◌, ◌+◌, ◌*◌, ◌≤◌, ◌<◌, ◌++◌, ◌∷◌, ◌⊎◌, [], ℕ, List, Some, ap, arith, length, length-append, subst, sym, ◌∙◌}
use Rattle.std.specs.Prelude.{Any, vec_capacity}
use Rattle.std.proofs.lemmas.Grind.{common_steps}
use Rattle.std.proofs.lemmas.List.Elements.{All-pop}
use Rattle.range_workers.specs.declared.view.View.{View}
use Rattle.range_workers.specs.declared.view.View.TheVariants.{Caller}
use Rattle.range_workers.specs.Round.{HasWorked, numbers_of}
use Rattle.range_workers.specs.Rule.{AreAllBelow, times}
use Rattle.range_workers.specs.Seats.{view}
use Rattle.range_workers.specs.Views.{numbers}
use Rattle.range_workers.proofs.BackLemmas.{as_many_pages, caller_knows, can_join, claimed_whole, done_back, each_back, join_caller, more_made, more_rooms, one_page, still_out}
use Rattle.range_workers.proofs.workshop.Workshop.run_round.Goals as goal

pub take_back-requires : goal.take_back-requires
take_back-requires g c =
    let shop = c.loop-self.self in
    let inv = c.loop-self.invariant.back in
    let worker = c.take_last-worker.result in
    let rest = c.take_last-worker.new.self.items in
    let parted = All-pop (HasWorked shop.claims (g.P.Packer.text c.args.packer.now) shop.room c.args.round) shop.workers.items rest (Some worker) c.take_last-worker.ensures.items inv.out in
    let less : length shop.workers.items ≡ length rest + 1 = ap length c.take_last-worker.ensures.items ∙ length-append rest (worker ∷ []) in
    record {
      seat = inv.staffed.seat;
      worker_seat = parted.1.seat;
      seats = can_join _ _ (numbers (view shop.seat)) (numbers (view worker.seat)) (length shop.workers.items) c.args.round.base inv.staffed.knows parted.1.knows
          (omega (arith, inv.most, inv.staffed.few, c.requires.round.low));
      blank = omega (arith, inv.pages, inv.staffed.pages_fit, parted.1.pages, less);
      made = omega (arith, inv.pages, inv.staffed.made_fit, parted.1.pages, less);
      benches = omega (arith, inv.staffed.all, inv.staffed.benches_fit, less);
      cleared = inv.staffed.cleared;
      blank_fit = parted.1.blank_fit;
      made_fit = parted.1.made_fit;
    }

pub loop-self-preserved : goal.loop-self-preserved
loop-self-preserved g c =
    let text : ℕ → List ℕ = g.P.Packer.text c.args.packer.now in
    let shop = c.loop-self.self in
    let new = c.take_back.new.self in
    let told = c.take_back.ensures in
    let inv = c.loop-self.invariant.back in
    let round = c.args.round in
    let worker = c.take_last-worker.result in
    let rest = c.take_last-worker.new.self.items in
    let ns : List ℕ = numbers (view shop.seat) in
    let ms : List ℕ = numbers (view worker.seat) in
    let n : ℕ = length shop.workers.items in
    let m : ℕ = length new.workers.items in
    let parted = All-pop (HasWorked shop.claims text shop.room round) shop.workers.items rest (Some worker) c.take_last-worker.ensures.items inv.out in
    let left : m ≡ length rest = ap (λ workers. length workers.items) told.workers in
    let less : n ≡ m + 1 = omega (arith, ap length c.take_last-worker.ensures.items, length-append rest (worker ∷ []), left) in
    let knows = join_caller (view shop.seat) (view worker.seat) (view new.seat) ns ms n m round.base inv.staffed.knows parted.1.knows told.knows less in
    let all : numbers (view new.seat) ≡ ns ++ ms = ap numbers knows in
    let pages : length new.pages.items ≡ length shop.pages.items + length worker.bench.blank.items = ap length told.pages ∙ length-append shop.pages.items worker.bench.blank.items in
    let made : length new.made.items ≡ length shop.made.items + length worker.bench.made.items = ap length told.made ∙ length-append shop.made.items worker.bench.made.items in
    record {
      back = record {
        staffed = record {
          seat = told.seat;
          knows = caller_knows (view new.seat) (ns ++ ms) m knows;
          all = omega (arith, inv.staffed.all, told.benches, told.same.count, less);
          few = omega (arith, inv.staffed.few, told.same.count);
          cleared = told.cleared;
          rooms = more_rooms shop.room new.room shop.pages.items worker.bench.blank.items new.pages.items told.same.room told.pages inv.staffed.rooms parted.1.rooms;
          benches_fit = omega (arith, inv.staffed.benches_fit, told.benches_fit, told.same.count);
          workers_fit = omega (arith, inv.staffed.workers_fit, c.take_last-worker.ensures.capacity, ap vec_capacity told.workers, told.same.count);
          pages_fit = omega (arith, inv.staffed.pages_fit, told.pages_fit, told.same.count);
          made_fit = omega (arith, inv.staffed.made_fit, told.made_fit, told.same.count);
        };
        out = still_out text round shop.claims new.claims shop.room new.room rest new.workers.items told.same.claims told.same.room (ap (λ workers. workers.items) told.workers) parted.0;
        made = more_made text round shop.room new.room shop.made.items worker.bench.made.items new.made.items told.same.room told.made inv.made parted.1.made;
        pages = omega (arith, pages, made, inv.pages, parted.1.pages, less, told.same.count);
        each = λ k below. each_back k round.base (numbers (view new.seat)) ns ms shop.made.items worker.bench.made.items new.made.items all told.made (inv.each k below) (parted.1.each k below);
        most = omega (arith, ap length all, length-append ns ms, parted.1.few, inv.most, less, told.same.count);
        done = done_back (numbers (view new.seat)) ns ms (view worker.seat) round.base round.end (round.base + 8 * new.count) n m all parted.1.knows parted.1.done less
            (subst (λ (k : ℕ). (length ns + 8 * n ≡ round.base + 8 * k) ⊎ Any (λ j. round.end ≤ j) ns) (sym told.same.count) inv.done);
      };
      same = record {
        claims = told.same.claims ∙ c.loop-self.invariant.same.claims;
        room = told.same.room ∙ c.loop-self.invariant.same.room;
        count = told.same.count ∙ c.loop-self.invariant.same.count;
      };
    }

pub returns-clause-made : goal.returns-clause-made
returns-clause-made g c =
    let shop = c.loop-self.self in
    let inv = c.loop-self.invariant.back in
    let round = c.args.round in
    let ns : List ℕ = numbers (view shop.seat) in
    let n : ℕ = length shop.workers.items in
    let none : n ≡ 0 = grind (arith, common_steps) in
    let all : AreAllBelow c.claimed.result ns = subst (λ (v : View). AreAllBelow c.claimed.result (numbers v)) c.claimed.ensures.same c.claimed.ensures.all in
    let whole = claimed_whole c.claimed.result round.end (round.base + 8 * shop.count) n ns all (omega (arith, c.requires.part, c.loop-self.invariant.same.count)) none inv.done in
    let each : (k : ℕ) → round.base ≤ k → k < round.end → times k (numbers_of shop.made.items) ≡ 1 =
    λ k from below. one_page c.claimed.result round.base round.end k ns shop.made.items all whole from below (inv.each k below) in
    record {
      staffed = record {
        seat = c.claimed.ensures.seat;
        knows = subst (λ (v : View). v ≡ Caller (numbers v) n) (sym c.claimed.ensures.same) inv.staffed.knows;
        all = inv.staffed.all;
        few = inv.staffed.few;
        cleared = inv.staffed.cleared;
        rooms = inv.staffed.rooms;
        benches_fit = inv.staffed.benches_fit;
        workers_fit = inv.staffed.workers_fit;
        pages_fit = inv.staffed.pages_fit;
        made_fit = inv.staffed.made_fit;
      };
      in_house = none;
      made = inv.made;
      each = each;
      pages = omega (arith, inv.pages, none, as_many_pages _ shop.room round shop.made.items inv.made c.requires.round.some each);
      all = c.claimed.ensures.all;
      most = omega (arith, all.count, inv.most);
    }
