use Rattle.std.proofs.Common.{◌≡◌, ◌++◌, ◌-◌, ◌+◌, ◌<◌, ℕ, List, [], Err, refl, ap, sym, subst, ◌∙◌, append_assoc, arith}
use Rattle.std.specs.Prelude.{map}
use Rattle.avm_model.specs.Machine.{State}
use Rattle.view_model.specs.Views.{change_at, changes_in, word_at}
use Rattle.view_command.specs.Lines.{change_line}
use Rattle.command_parts.specs.Printing.{Prints, PrintsAll}
use Rattle.command_parts.proofs.Printed.{prints_none}
use Rattle.view_command.proofs.Differences.{changes_next, changes_end}
use Rattle.command_parts.proofs.Joined.{prints_on, fault_on}
use Rattle.view_command.proofs.changing.print_changes.Goals as goal

pub returns-in-Err : goal.returns-in-Err
returns-in-Err g c =
    let a = c.args.address in
    let p = c.loop-alloc.viewer.point in
    let q = c.advance.new.self.point in
    let k = c.loop-alloc-test.ensures.last in
    let count : q.state.count ≡ p.state.count + 1 = c.loop-alloc-test.ensures.count in
    let lt : p.state.count < c.advance.new.self.last = omega (arith, count, c.loop-alloc-test.ensures.high) in
    let more = map change_line (change_at q.state.count (word_at a p.state) (word_at a q.state)) in
    let rest = map change_line (changes_in a (c.advance.new.self.last - q.state.count) q) in
    let said = c.loop-alloc.invariant.printed.0 in
    let split = changes_next a c.advance.new.self.last p q lt c.loop-alloc-test.ensures.next count in
    let here = ap (λ (n : ℕ). map change_line (changes_in a (n - p.state.count) p)) k in
    let whole = ap (λ (l : List (List ℕ)). said ++ l) (sym split ∙ here) ∙ c.loop-alloc.invariant.printed.1 in
    let new_is : c.word_at-new.result ≡ word_at a q.state = c.word_at-new.ensures ∙ ap (word_at a) c.machine-in-loop-alloc.ensures.state in
    let count_is : c.count.result ≡ q.state.count = c.count.ensures ∙ ap (λ (s : State). s.count) c.machine-in-loop-alloc-2.ensures.state in
    let claim : PrintsAll (map change_line (change_at c.count.result c.loop-alloc.old c.word_at-new.result)) (Err c.in-Err.fault) (g.S.Sink.faults c.loop-alloc.out) (g.S.Sink.faults c.print_change.new.out) (g.S.Sink.written c.loop-alloc.out) (g.S.Sink.written c.print_change.new.out) = c.in-Err.ensures in
    let same : map change_line (change_at c.count.result c.loop-alloc.old c.word_at-new.result) ≡ more = rw (count_is, c.loop-alloc.invariant.old, new_is) refl in
    let shown = subst (λ (l : List (List ℕ)). PrintsAll l (Err c.in-Err.fault) (g.S.Sink.faults c.loop-alloc.out) (g.S.Sink.faults c.print_change.new.out) (g.S.Sink.written c.loop-alloc.out) (g.S.Sink.written c.print_change.new.out)) same claim in
    subst (λ (l : List (List ℕ)). PrintsAll l (Err c.in-Err.fault) (g.S.Sink.faults c.args.out.now) (g.S.Sink.faults c.print_change.new.out) (g.S.Sink.written c.args.out.now) (g.S.Sink.written c.print_change.new.out)) whole (fault_on said more rest c.in-Err.fault _ _ _ _ _ _ c.loop-alloc.invariant.printed.2 shown)

pub loop-alloc-preserved : goal.loop-alloc-preserved
loop-alloc-preserved g c =
    let a = c.args.address in
    let p = c.loop-alloc.viewer.point in
    let q = c.advance.new.self.point in
    let k = c.loop-alloc-test.ensures.last in
    let count : q.state.count ≡ p.state.count + 1 = c.loop-alloc-test.ensures.count in
    let lt : p.state.count < c.advance.new.self.last = omega (arith, count, c.loop-alloc-test.ensures.high) in
    let more = map change_line (change_at q.state.count (word_at a p.state) (word_at a q.state)) in
    let rest = map change_line (changes_in a (c.advance.new.self.last - q.state.count) q) in
    let said = c.loop-alloc.invariant.printed.0 in
    let split = changes_next a c.advance.new.self.last p q lt c.loop-alloc-test.ensures.next count in
    let here = ap (λ (n : ℕ). map change_line (changes_in a (n - p.state.count) p)) k in
    let whole = ap (λ (l : List (List ℕ)). said ++ l) (sym split ∙ here) ∙ c.loop-alloc.invariant.printed.1 in
    let new_is : c.word_at-new.result ≡ word_at a q.state = c.word_at-new.ensures ∙ ap (word_at a) c.machine-in-loop-alloc.ensures.state in
    let count_is : c.count.result ≡ q.state.count = c.count.ensures ∙ ap (λ (s : State). s.count) c.machine-in-loop-alloc-2.ensures.state in
    let shown = rw (count_is, c.loop-alloc.invariant.old, new_is) at c.in_default.ensures in
    record {
      printed = (said ++ more, append_assoc said more rest ∙ whole, prints_on said more _ _ _ _ _ _ c.loop-alloc.invariant.printed.2 shown);
      old = new_is;
      last = k ∙ c.loop-alloc.invariant.last;
    }

pub loop-alloc-init : goal.loop-alloc-init
loop-alloc-init g c =
    record { printed = ([], refl, prints_none _ _); old = c.word_at-old.ensures ∙ ap (word_at c.args.address) c.machine.ensures.state; last = refl }

pub returns : goal.returns
returns g c =
    let v = c.loop-alloc.viewer in
    let i = c.loop-alloc.invariant.printed in
    let all = changes_end c.args.address v.last v.point i.0 _ c.loop-alloc-test.ensures.ends i.1 in
    subst (λ (l : List (List ℕ)). Prints l (g.S.Sink.faults c.args.out.now) (g.S.Sink.faults c.loop-alloc.out) (g.S.Sink.written c.args.out.now) (g.S.Sink.written c.loop-alloc.out)) all i.2
