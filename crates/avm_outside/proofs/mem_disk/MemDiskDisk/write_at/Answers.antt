use Rattle.std.proofs.Common.{ap, inl, inr, refl, ◌∙◌, ◌∷◌, [], ◌++◌, length, arith}
use Rattle.avm_outside.specs.DiskLog.{KeptCall, wrote, missed}
use Rattle.avm_outside.proofs.DiskCrashes.{quiet_crash, missed_kept, wrote_kept, quiet_state, quiet_past, kept_state, kept_past}
use Rattle.avm_outside.proofs.mem_disk.MemDiskDisk.write_at.Goals as goal

pub returns-then-is_spent-clause-crash : goal.returns-then-is_spent-clause-crash
returns-then-is_spent-clause-crash c = quiet_crash _ _ _ _ _ _ c.args.at _ (ap (λ v. v.items) (c.fail.ensures.base ∙ c.count.ensures.base)) (ap (λ v. v.items) (c.fail.ensures.log ∙ c.count.ensures.log)) c.args.self.now.run.counted (omega (arith, c.fail.ensures.calls, c.count.ensures.rises))

pub returns-in-Ok-clause-crash : goal.returns-in-Ok-clause-crash
returns-in-Ok-clause-crash c = (missed_kept _ _ _ _ _ _ _ _ _ c.args.at _ c.args.self.now.run (ap (λ v. v.items) (c.fail-in-Ok.ensures.base ∙ c.in-Ok.ensures.base ∙ c.count-2.ensures.base)) (c.count-2.ensures.next (c.is_spent.ensures c.if-is_spent.false)) (c.fail-in-Ok.ensures.calls ∙ ap (λ x. x.calls) c.in-Ok.ensures.calls) c.missed-missed.ensures (ap (λ v. v.items) c.fail-in-Ok.ensures.log ∙ c.in-Ok.ensures.log ∙ ap (λ v. v.items ++ c.missed-missed.result ∷ []) c.count-2.ensures.log)).0

pub returns-in-Ok-clause-time : goal.returns-in-Ok-clause-time
returns-in-Ok-clause-time c = (missed_kept _ _ _ _ _ _ _ _ _ c.args.at _ c.args.self.now.run (ap (λ v. v.items) (c.fail-in-Ok.ensures.base ∙ c.in-Ok.ensures.base ∙ c.count-2.ensures.base)) (c.count-2.ensures.next (c.is_spent.ensures c.if-is_spent.false)) (c.fail-in-Ok.ensures.calls ∙ ap (λ x. x.calls) c.in-Ok.ensures.calls) c.missed-missed.ensures (ap (λ v. v.items) c.fail-in-Ok.ensures.log ∙ c.in-Ok.ensures.log ∙ ap (λ v. v.items ++ c.missed-missed.result ∷ []) c.count-2.ensures.log)).1

pub returns-in-Err-clause-crash : goal.returns-in-Err-clause-crash
returns-in-Err-clause-crash c = quiet_crash _ _ _ _ _ _ c.args.at _ (ap (λ v. v.items) (c.fail-in-Err.ensures.base ∙ c.in-Err.ensures.base ∙ c.count-2.ensures.base)) (ap (λ v. v.items) c.fail-in-Err.ensures.log ∙ c.in-Err.ensures.same_log ∙ ap (λ v. v.items) c.count-2.ensures.log) c.args.self.now.run.counted (omega (arith, c.fail-in-Err.ensures.calls, ap (λ x. x.calls) c.in-Err.ensures.calls, c.count-2.ensures.rises))

pub returns-in-Ok-write-clause-crash : goal.returns-in-Ok-write-clause-crash
returns-in-Ok-write-clause-crash c =
    let entry : KeptCall = record { call = c.count-2.new.self.calls.calls; change = wrote c.args.at c.args.bytes.now } in
    (wrote_kept _ _ _ _ _ c.args.bytes.now _ _ _ c.args.at c.args.self.now.run c.requires.within (ap (λ v. v.items) (c.in-Ok-write.ensures.base ∙ c.count-2.ensures.base)) (c.count-2.ensures.next (c.is_spent.ensures c.if-is_spent.false)) (ap (λ x. x.calls) c.in-Ok-write.ensures.calls) (c.in-Ok-write.ensures.log ∙ ap (λ v. v.items ++ entry ∷ []) c.count-2.ensures.log)).0

pub returns-in-Ok-write-clause-time : goal.returns-in-Ok-write-clause-time
returns-in-Ok-write-clause-time c =
    let entry : KeptCall = record { call = c.count-2.new.self.calls.calls; change = wrote c.args.at c.args.bytes.now } in
    (wrote_kept _ _ _ _ _ c.args.bytes.now _ _ _ c.args.at c.args.self.now.run c.requires.within (ap (λ v. v.items) (c.in-Ok-write.ensures.base ∙ c.count-2.ensures.base)) (c.count-2.ensures.next (c.is_spent.ensures c.if-is_spent.false)) (ap (λ x. x.calls) c.in-Ok-write.ensures.calls) (c.in-Ok-write.ensures.log ∙ ap (λ v. v.items ++ entry ∷ []) c.count-2.ensures.log)).1

pub returns-in-Err-write-clause-crash : goal.returns-in-Err-write-clause-crash
returns-in-Err-write-clause-crash c = quiet_crash _ _ _ _ _ _ c.args.at _ (ap (λ v. v.items) (c.fail-in-Err-write.ensures.base ∙ c.in-Err-write.ensures.base ∙ c.count-2.ensures.base)) (ap (λ v. v.items) c.fail-in-Err-write.ensures.log ∙ c.in-Err-write.ensures.same_log ∙ ap (λ v. v.items) c.count-2.ensures.log) c.args.self.now.run.counted (omega (arith, c.fail-in-Err-write.ensures.calls, ap (λ x. x.calls) c.in-Err-write.ensures.calls, c.count-2.ensures.rises))

pub returns-then-is_spent-clause-missed : goal.returns-then-is_spent-clause-missed
returns-then-is_spent-clause-missed c = inr (quiet_state _ _ _ _ _ _ (ap (λ v. v.items) (c.fail.ensures.base ∙ c.count.ensures.base)) (ap (λ v. v.items) (c.fail.ensures.log ∙ c.count.ensures.log)) c.args.self.now.run.counted (omega (arith, c.fail.ensures.calls, c.count.ensures.rises)))

pub returns-then-is_spent-clause-past : goal.returns-then-is_spent-clause-past
returns-then-is_spent-clause-past c = λ calls le. quiet_past _ _ _ _ calls (ap (λ v. v.items) (c.fail.ensures.base ∙ c.count.ensures.base)) (ap (λ v. v.items) (c.fail.ensures.log ∙ c.count.ensures.log))

pub returns-in-Err-clause-missed : goal.returns-in-Err-clause-missed
returns-in-Err-clause-missed c = inr (quiet_state _ _ _ _ _ _ (ap (λ v. v.items) (c.fail-in-Err.ensures.base ∙ c.in-Err.ensures.base ∙ c.count-2.ensures.base)) (ap (λ v. v.items) c.fail-in-Err.ensures.log ∙ c.in-Err.ensures.same_log ∙ ap (λ v. v.items) c.count-2.ensures.log) c.args.self.now.run.counted (omega (arith, c.fail-in-Err.ensures.calls, ap (λ x. x.calls) c.in-Err.ensures.calls, c.count-2.ensures.rises)))

pub returns-in-Err-clause-past : goal.returns-in-Err-clause-past
returns-in-Err-clause-past c = λ calls le. quiet_past _ _ _ _ calls (ap (λ v. v.items) (c.fail-in-Err.ensures.base ∙ c.in-Err.ensures.base ∙ c.count-2.ensures.base)) (ap (λ v. v.items) c.fail-in-Err.ensures.log ∙ c.in-Err.ensures.same_log ∙ ap (λ v. v.items) c.count-2.ensures.log)

pub returns-in-Err-write-clause-missed : goal.returns-in-Err-write-clause-missed
returns-in-Err-write-clause-missed c = inr (quiet_state _ _ _ _ _ _ (ap (λ v. v.items) (c.fail-in-Err-write.ensures.base ∙ c.in-Err-write.ensures.base ∙ c.count-2.ensures.base)) (ap (λ v. v.items) c.fail-in-Err-write.ensures.log ∙ c.in-Err-write.ensures.same_log ∙ ap (λ v. v.items) c.count-2.ensures.log) c.args.self.now.run.counted (omega (arith, c.fail-in-Err-write.ensures.calls, ap (λ x. x.calls) c.in-Err-write.ensures.calls, c.count-2.ensures.rises)))

pub returns-in-Err-write-clause-past : goal.returns-in-Err-write-clause-past
returns-in-Err-write-clause-past c = λ calls le. quiet_past _ _ _ _ calls (ap (λ v. v.items) (c.fail-in-Err-write.ensures.base ∙ c.in-Err-write.ensures.base ∙ c.count-2.ensures.base)) (ap (λ v. v.items) c.fail-in-Err-write.ensures.log ∙ c.in-Err-write.ensures.same_log ∙ ap (λ v. v.items) c.count-2.ensures.log)

pub returns-in-Ok-clause-missed : goal.returns-in-Ok-clause-missed
returns-in-Ok-clause-missed c = inl (kept_state _ _ _ _ _ _ _ _ (missed c.args.at (length c.args.bytes.now)) (ap (λ v. v.items) (c.fail-in-Ok.ensures.base ∙ c.in-Ok.ensures.base ∙ c.count-2.ensures.base)) c.args.self.now.run.counted (c.count-2.ensures.next (c.is_spent.ensures c.if-is_spent.false)) (c.fail-in-Ok.ensures.calls ∙ ap (λ x. x.calls) c.in-Ok.ensures.calls) c.missed-missed.ensures (ap (λ v. v.items) c.fail-in-Ok.ensures.log ∙ c.in-Ok.ensures.log ∙ ap (λ v. v.items ++ c.missed-missed.result ∷ []) c.count-2.ensures.log))

pub returns-in-Ok-clause-past : goal.returns-in-Ok-clause-past
returns-in-Ok-clause-past c = λ calls le. kept_past _ _ _ _ _ _ _ calls (missed c.args.at (length c.args.bytes.now)) (ap (λ v. v.items) (c.fail-in-Ok.ensures.base ∙ c.in-Ok.ensures.base ∙ c.count-2.ensures.base)) (c.count-2.ensures.next (c.is_spent.ensures c.if-is_spent.false)) c.missed-missed.ensures (ap (λ v. v.items) c.fail-in-Ok.ensures.log ∙ c.in-Ok.ensures.log ∙ ap (λ v. v.items ++ c.missed-missed.result ∷ []) c.count-2.ensures.log) le

pub returns-in-Ok-write-clause-state : goal.returns-in-Ok-write-clause-state
returns-in-Ok-write-clause-state c =
    let entry : KeptCall = record { call = c.count-2.new.self.calls.calls; change = wrote c.args.at c.args.bytes.now } in
    kept_state _ _ _ _ entry _ _ _ (wrote c.args.at c.args.bytes.now) (ap (λ v. v.items) (c.in-Ok-write.ensures.base ∙ c.count-2.ensures.base)) c.args.self.now.run.counted (c.count-2.ensures.next (c.is_spent.ensures c.if-is_spent.false)) (ap (λ x. x.calls) c.in-Ok-write.ensures.calls) refl (c.in-Ok-write.ensures.log ∙ ap (λ v. v.items ++ entry ∷ []) c.count-2.ensures.log)

pub returns-in-Ok-write-clause-past : goal.returns-in-Ok-write-clause-past
returns-in-Ok-write-clause-past c = λ calls le.
    let entry : KeptCall = record { call = c.count-2.new.self.calls.calls; change = wrote c.args.at c.args.bytes.now } in
    kept_past _ _ _ _ entry _ _ calls (wrote c.args.at c.args.bytes.now) (ap (λ v. v.items) (c.in-Ok-write.ensures.base ∙ c.count-2.ensures.base)) (c.count-2.ensures.next (c.is_spent.ensures c.if-is_spent.false)) refl (c.in-Ok-write.ensures.log ∙ ap (λ v. v.items ++ entry ∷ []) c.count-2.ensures.log) le
