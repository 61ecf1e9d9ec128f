use Rattle.std.proofs.Common.{ap, ◌∙◌, arith}
use Rattle.avm_outside.proofs.DiskCrashes.{quiet_left, quiet_state, quiet_past}
use Rattle.avm_outside.proofs.mem_disk.MemDiskDisk.read_at.Goals as goal

pub returns-then-count-clause-crash : goal.returns-then-count-clause-crash
returns-then-count-clause-crash c = λ left image. quiet_left _ _ _ _ _ _ left (ap (λ v. v.items) (c.fail.ensures.base ∙ c.count.ensures.base)) (ap (λ v. v.items) (c.fail.ensures.log ∙ c.count.ensures.log)) c.args.self.now.run.counted (omega (arith, c.fail.ensures.calls, c.count.ensures.rises)) image

pub returns-then-at-bytes-clause-crash : goal.returns-then-at-bytes-clause-crash
returns-then-at-bytes-clause-crash c = λ left image. quiet_left _ _ _ _ _ _ left (ap (λ v. v.items) (c.count.ensures.base)) (ap (λ v. v.items) (c.count.ensures.log)) c.args.self.now.run.counted c.count.ensures.rises image

pub returns-clause-crash : goal.returns-clause-crash
returns-clause-crash c = λ left image. quiet_left _ _ _ _ _ _ left (ap (λ v. v.items) (c.count.ensures.base)) (ap (λ v. v.items) (c.count.ensures.log)) c.args.self.now.run.counted c.count.ensures.rises image

pub returns-then-count-clause-state : goal.returns-then-count-clause-state
returns-then-count-clause-state c = quiet_state _ _ _ _ _ _ (ap (λ v. v.items) (c.fail.ensures.base ∙ c.count.ensures.base)) (ap (λ v. v.items) (c.fail.ensures.log ∙ c.count.ensures.log)) c.args.self.now.run.counted (omega (arith, c.fail.ensures.calls, c.count.ensures.rises))

pub returns-then-count-clause-past : goal.returns-then-count-clause-past
returns-then-count-clause-past c = λ calls le. quiet_past _ _ _ _ calls (ap (λ v. v.items) (c.fail.ensures.base ∙ c.count.ensures.base)) (ap (λ v. v.items) (c.fail.ensures.log ∙ c.count.ensures.log))

pub returns-then-at-bytes-clause-state : goal.returns-then-at-bytes-clause-state
returns-then-at-bytes-clause-state c = quiet_state _ _ _ _ _ _ (ap (λ v. v.items) c.count.ensures.base) (ap (λ v. v.items) c.count.ensures.log) c.args.self.now.run.counted c.count.ensures.rises

pub returns-then-at-bytes-clause-past : goal.returns-then-at-bytes-clause-past
returns-then-at-bytes-clause-past c = λ calls le. quiet_past _ _ _ _ calls (ap (λ v. v.items) c.count.ensures.base) (ap (λ v. v.items) c.count.ensures.log)

pub returns-clause-state : goal.returns-clause-state
returns-clause-state c = quiet_state _ _ _ _ _ _ (ap (λ v. v.items) c.count.ensures.base) (ap (λ v. v.items) c.count.ensures.log) c.args.self.now.run.counted c.count.ensures.rises

pub returns-clause-past : goal.returns-clause-past
returns-clause-past c = λ calls le. quiet_past _ _ _ _ calls (ap (λ v. v.items) c.count.ensures.base) (ap (λ v. v.items) c.count.ensures.log)
