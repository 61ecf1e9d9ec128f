use Rattle.std.proofs.Common.{arith, ◌≡◌, sym, nat_eq, true}
use Rattle.avm_model.specs.Basics.{flag}
use Rattle.avm_model.specs.Entries.{begins}
use Rattle.seg_file.proofs.Following.{opened}
use Rattle.seg_file.proofs.entries.entries_fit.Goals as goal

pub returns : goal.returns
returns c =
    let step = c.in-Some.ensures.steps in
    let zero = c.with_entry.ensures in
    let count : c.with_entry.result ≡ flag (nat_eq c.in-Some.first.kind 2) = omega (arith, zero) in
    let is : begins c.args.start c.args.before.now c.in-Some.first.kind ≡ true = sym c.if-not-may_begin.ensures in
    let o = opened c.args.start c.args.before.now _ c.new-frames.result _ step.0 step.1 c.if-first-start.false is in
    let o2 = rw c.new-frames.ensures at o in
    rw (c.rest_follows.ensures, count) (sym o2)
