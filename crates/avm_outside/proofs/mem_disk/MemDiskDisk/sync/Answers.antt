use Rattle.std.proofs.Common.{ap, ◌∙◌, ◌∷◌, [], ◌++◌, arith}
use Rattle.avm_outside.specs.DiskLog.{synced}
use Rattle.avm_outside.proofs.DiskCrashes.{quiet_left, settled_kept, quiet_state, quiet_past, kept_state, kept_past}
use Rattle.avm_outside.proofs.mem_disk.MemDiskDisk.sync.Goals as goal

pub returns-then-is_spent-clause-crash : goal.returns-then-is_spent-clause-crash
returns-then-is_spent-clause-crash c = λ left image. quiet_left _ _ _ _ _ _ left (ap (λ v. v.items) (c.fail.ensures.base ∙ c.count.ensures.base)) (ap (λ v. v.items) (c.fail.ensures.log ∙ c.count.ensures.log)) c.args.self.now.run.counted (omega (arith, c.fail.ensures.calls, c.count.ensures.rises)) image

pub returns-then-count-clause-crash : goal.returns-then-count-clause-crash
returns-then-count-clause-crash c = λ left image. quiet_left _ _ _ _ _ _ left (ap (λ v. v.items) (c.fail-then-count.ensures.base ∙ c.count-2.ensures.base)) (ap (λ v. v.items) (c.fail-then-count.ensures.log ∙ c.count-2.ensures.log)) c.args.self.now.run.counted (omega (arith, c.fail-then-count.ensures.calls, c.count-2.ensures.rises)) image

pub returns-in-Ok-clause-durable : goal.returns-in-Ok-clause-durable
returns-in-Ok-clause-durable c = (settled_kept _ _ _ _ _ _ _ _ _ c.args.self.now.run (ap (λ v. v.items) (c.in-Ok.ensures.base ∙ c.count-2.ensures.base)) (c.count-2.ensures.next (c.is_spent.ensures c.if-is_spent.false)) (ap (λ x. x.calls) c.in-Ok.ensures.calls) c.synced-synced.ensures (c.in-Ok.ensures.log ∙ ap (λ v. v.items ++ c.synced-synced.result ∷ []) c.count-2.ensures.log)).0

pub returns-in-Ok-clause-crash : goal.returns-in-Ok-clause-crash
returns-in-Ok-clause-crash c = (settled_kept _ _ _ _ _ _ _ _ _ c.args.self.now.run (ap (λ v. v.items) (c.in-Ok.ensures.base ∙ c.count-2.ensures.base)) (c.count-2.ensures.next (c.is_spent.ensures c.if-is_spent.false)) (ap (λ x. x.calls) c.in-Ok.ensures.calls) c.synced-synced.ensures (c.in-Ok.ensures.log ∙ ap (λ v. v.items ++ c.synced-synced.result ∷ []) c.count-2.ensures.log)).1

pub returns-in-Ok-clause-time : goal.returns-in-Ok-clause-time
returns-in-Ok-clause-time c = (settled_kept _ _ _ _ _ _ _ _ _ c.args.self.now.run (ap (λ v. v.items) (c.in-Ok.ensures.base ∙ c.count-2.ensures.base)) (c.count-2.ensures.next (c.is_spent.ensures c.if-is_spent.false)) (ap (λ x. x.calls) c.in-Ok.ensures.calls) c.synced-synced.ensures (c.in-Ok.ensures.log ∙ ap (λ v. v.items ++ c.synced-synced.result ∷ []) c.count-2.ensures.log)).2

pub returns-in-Err-clause-crash : goal.returns-in-Err-clause-crash
returns-in-Err-clause-crash c = λ left image. quiet_left _ _ _ _ _ _ left (ap (λ v. v.items) (c.fail-in-Err.ensures.base ∙ c.in-Err.ensures.base ∙ c.count-2.ensures.base)) (ap (λ v. v.items) c.fail-in-Err.ensures.log ∙ c.in-Err.ensures.same_log ∙ ap (λ v. v.items) c.count-2.ensures.log) c.args.self.now.run.counted (omega (arith, c.fail-in-Err.ensures.calls, ap (λ x. x.calls) c.in-Err.ensures.calls, c.count-2.ensures.rises)) image

pub returns-then-is_spent-clause-unsynced : goal.returns-then-is_spent-clause-unsynced
returns-then-is_spent-clause-unsynced c = (quiet_state _ _ _ _ _ _ (ap (λ v. v.items) (c.fail.ensures.base ∙ c.count.ensures.base)) (ap (λ v. v.items) (c.fail.ensures.log ∙ c.count.ensures.log)) c.args.self.now.run.counted (omega (arith, c.fail.ensures.calls, c.count.ensures.rises)))

pub returns-then-is_spent-clause-past : goal.returns-then-is_spent-clause-past
returns-then-is_spent-clause-past c = λ calls le. quiet_past _ _ _ _ calls (ap (λ v. v.items) (c.fail.ensures.base ∙ c.count.ensures.base)) (ap (λ v. v.items) (c.fail.ensures.log ∙ c.count.ensures.log))

pub returns-then-count-clause-unsynced : goal.returns-then-count-clause-unsynced
returns-then-count-clause-unsynced c = (quiet_state _ _ _ _ _ _ (ap (λ v. v.items) (c.fail-then-count.ensures.base ∙ c.count-2.ensures.base)) (ap (λ v. v.items) (c.fail-then-count.ensures.log ∙ c.count-2.ensures.log)) c.args.self.now.run.counted (omega (arith, c.fail-then-count.ensures.calls, c.count-2.ensures.rises)))

pub returns-then-count-clause-past : goal.returns-then-count-clause-past
returns-then-count-clause-past c = λ calls le. quiet_past _ _ _ _ calls (ap (λ v. v.items) (c.fail-then-count.ensures.base ∙ c.count-2.ensures.base)) (ap (λ v. v.items) (c.fail-then-count.ensures.log ∙ c.count-2.ensures.log))

pub returns-in-Err-clause-unsynced : goal.returns-in-Err-clause-unsynced
returns-in-Err-clause-unsynced c = (quiet_state _ _ _ _ _ _ (ap (λ v. v.items) (c.fail-in-Err.ensures.base ∙ c.in-Err.ensures.base ∙ c.count-2.ensures.base)) (ap (λ v. v.items) c.fail-in-Err.ensures.log ∙ c.in-Err.ensures.same_log ∙ ap (λ v. v.items) c.count-2.ensures.log) c.args.self.now.run.counted (omega (arith, c.fail-in-Err.ensures.calls, ap (λ x. x.calls) c.in-Err.ensures.calls, c.count-2.ensures.rises)))

pub returns-in-Err-clause-past : goal.returns-in-Err-clause-past
returns-in-Err-clause-past c = λ calls le. quiet_past _ _ _ _ calls (ap (λ v. v.items) (c.fail-in-Err.ensures.base ∙ c.in-Err.ensures.base ∙ c.count-2.ensures.base)) (ap (λ v. v.items) c.fail-in-Err.ensures.log ∙ c.in-Err.ensures.same_log ∙ ap (λ v. v.items) c.count-2.ensures.log)

pub returns-in-Ok-clause-state : goal.returns-in-Ok-clause-state
returns-in-Ok-clause-state c = kept_state _ _ _ _ _ _ _ _ synced (ap (λ v. v.items) (c.in-Ok.ensures.base ∙ c.count-2.ensures.base)) c.args.self.now.run.counted (c.count-2.ensures.next (c.is_spent.ensures c.if-is_spent.false)) (ap (λ x. x.calls) c.in-Ok.ensures.calls) c.synced-synced.ensures (c.in-Ok.ensures.log ∙ ap (λ v. v.items ++ c.synced-synced.result ∷ []) c.count-2.ensures.log)

pub returns-in-Ok-clause-past : goal.returns-in-Ok-clause-past
returns-in-Ok-clause-past c = λ calls le. kept_past _ _ _ _ _ _ _ calls synced (ap (λ v. v.items) (c.in-Ok.ensures.base ∙ c.count-2.ensures.base)) (c.count-2.ensures.next (c.is_spent.ensures c.if-is_spent.false)) c.synced-synced.ensures (c.in-Ok.ensures.log ∙ ap (λ v. v.items ++ c.synced-synced.result ∷ []) c.count-2.ensures.log) le
