use Rattle.std.proofs.Common.{◌≡◌, ◌+◌, arith}
use Rattle.std.specs.List.{sum_by}
use Rattle.update_box.specs.Cuts.{greatest}
use Rattle.run_jobs.proofs.JoinedLemmas.{greatest-push, sum_by-push}
use Rattle.run_jobs.proofs.joined.Joined.push.Goals as goal

pub invariant_of-self-2-clause-counted : goal.invariant_of-self-2-clause-counted
invariant_of-self-2-clause-counted g c =
    let is : c.args.self.now.count + c.count-count.result ≡ sum_by g.P.Packer.count c.push.new.self.items =
    omega (arith, c.args.self.now.counted, c.count-count.ensures.count, sum_by-push g.P.Packer.count c.args.self.now.parts.items c.push.new.self.items c.args.packer c.in_ok-push.ensures.items) in
    is

pub invariant_of-self-2-clause-roomy : goal.invariant_of-self-2-clause-roomy
invariant_of-self-2-clause-roomy g c =
    let is : c.max-self.result ≡ greatest g.P.Packer.room c.push.new.self.items =
    omega (arith, c.max-self.ensures, c.args.self.now.roomy, c.room-room.ensures, greatest-push g.P.Packer.room c.args.self.now.parts.items c.push.new.self.items c.args.packer c.in_ok-push.ensures.items) in
    is
