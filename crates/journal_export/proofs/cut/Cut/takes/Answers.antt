use Rattle.journal_export.proofs.Cutting.{cut_ends, cut_past, cut_takes, cut_waits, early_is, goes, late_is, low_as, past_as, seq_as}
use Rattle.journal_export.proofs.cut.Cut.takes.Goals as goal

pub returns-then-self : goal.returns-then-self
returns-then-self c = λ f is. cut_past c.args.self.now f c.if-self.true

pub returns-then-early : goal.returns-then-early
returns-then-early c = λ f is.
    let t = early_is c.is_before-early.result c.args.self.now.begun c.args.seq c.args.self.now.from c.is_before-early.ensures c.if-early.true in
    cut_waits c.args.self.now f c.if-self.false t.0 (seq_as f c.args.seq _ _ is t.1)

pub returns-then-seq-self : goal.returns-then-seq-self
returns-then-seq-self c = λ f is.
    cut_ends c.args.self.now f c.if-self.false (goes c.args.self.now f (λ shut. seq_as f c.args.seq _ _ is (late_is c.is_before-early.result c.args.self.now.begun c.args.seq c.args.self.now.from c.is_before-early.ensures c.if-early.false shut))) (past_as f c.args.seq _ is c.if-seq-self.true)

pub returns : goal.returns
returns c = λ f is.
    cut_takes c.args.self.now f c.if-self.false (goes c.args.self.now f (λ shut. seq_as f c.args.seq _ _ is (late_is c.is_before-early.result c.args.self.now.begun c.args.seq c.args.self.now.from c.is_before-early.ensures c.if-early.false shut))) (low_as f c.args.seq _ is c.if-seq-self.false)
