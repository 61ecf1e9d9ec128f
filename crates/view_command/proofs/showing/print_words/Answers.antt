use Rattle.std.proofs.Common.{◌++◌, ◌-◌, ◌+◌, ◌*◌, ◌<◌, ℕ, List, Err, ap, sym, subst, ◌∙◌, append_assoc, arith}
use Rattle.view_model.specs.Views.{word_at}
use Rattle.view_command.specs.Lines.{word_lines, word_lines_at}
use Rattle.command_parts.specs.Printing.{PrintsAll}
use Rattle.view_command.proofs.Rows.{words_next}
use Rattle.command_parts.proofs.Joined.{prints_on, fault_on}
use Rattle.view_command.proofs.showing.print_words.Goals as goal

pub returns-in-Err : goal.returns-in-Err
returns-in-Err g c =
    let s = c.args.machine.now.state in
    let a = c.args.from in
    let i = c.loop-i.i in
    let said = c.loop-i.invariant.0 in
    let lt : i < c.args.words = omega arith in
    let more = word_lines_at (a + 4 * i) (word_at (a + 4 * i) s) in
    let rest = word_lines s (a + 4 * (i + 1)) (c.args.words - (i + 1)) in
    let whole = ap (λ (l : List (List ℕ)). said ++ l) (sym (words_next s a i c.args.words lt)) ∙ c.loop-i.invariant.1 in
    subst (λ (l : List (List ℕ)). PrintsAll l (Err c.in-Err.fault) (g.S.Sink.faults c.args.out.now) (g.S.Sink.faults c.print_word.new.out) (g.S.Sink.written c.args.out.now) (g.S.Sink.written c.print_word.new.out)) whole
    (fault_on said more rest c.in-Err.fault (g.S.Sink.faults c.args.out.now) (g.S.Sink.faults c.loop-i.out) (g.S.Sink.faults c.print_word.new.out) (g.S.Sink.written c.args.out.now) (g.S.Sink.written c.loop-i.out) (g.S.Sink.written c.print_word.new.out) c.loop-i.invariant.2 c.in-Err.ensures)

pub loop-i-preserved : goal.loop-i-preserved
loop-i-preserved g c =
    let s = c.args.machine.now.state in
    let a = c.args.from in
    let i = c.loop-i.i in
    let said = c.loop-i.invariant.0 in
    let lt : i < c.args.words = omega arith in
    let more = word_lines_at (a + 4 * i) (word_at (a + 4 * i) s) in
    let rest = word_lines s (a + 4 * (i + 1)) (c.args.words - (i + 1)) in
    let whole = ap (λ (l : List (List ℕ)). said ++ l) (sym (words_next s a i c.args.words lt)) ∙ c.loop-i.invariant.1 in (
      said ++ more,
      append_assoc said more rest ∙ whole,
      prints_on said more (g.S.Sink.faults c.args.out.now) (g.S.Sink.faults c.loop-i.out) (g.S.Sink.faults c.print_word.new.out) (g.S.Sink.written c.args.out.now) (g.S.Sink.written c.loop-i.out) (g.S.Sink.written c.print_word.new.out) c.loop-i.invariant.2 c.in_default.ensures,
    )
