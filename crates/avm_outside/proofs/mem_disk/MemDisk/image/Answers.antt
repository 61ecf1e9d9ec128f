use Rattle.std.proofs.Common.{ap, subst, sym, ◌∙◌, [], List, ℕ, map}
use Rattle.avm_outside.specs.DiskLog.{IsImage, upto, read_after, ranges_after}
use Rattle.avm_outside.specs.MemDisks.{disk_state}
use Rattle.avm_outside.specs.DiskEvents.{range_view}
use Rattle.avm_outside.proofs.Choices.{image_is, image_comes, image_made}
use Rattle.avm_outside.proofs.mem_disk.MemDisk.image.Goals as goal

pub returns-in_default-clause-each : goal.returns-in_default-clause-each
returns-in_default-clause-each c = λ left image. image_comes _ left image

pub returns-in_default-ranges_upto-clause-each : goal.returns-in_default-ranges_upto-clause-each
returns-in_default-ranges_upto-clause-each c = λ left image. image_comes _ left image

pub returns-in-Ok-fill-clause-each : goal.returns-in-Ok-fill-clause-each
returns-in-Ok-fill-clause-each c = λ left image. image_comes _ left image

pub returns-clause-each : goal.returns-clause-each
returns-clause-each c = λ left image. image_comes _ left image

pub returns-in-Ok-fill-clause-value : goal.returns-in-Ok-fill-clause-value
returns-in-Ok-fill-clause-value c =
    let n = c.args.calls in
    let d = c.args.self.now in
    image_made _ _ _ _ _ _ _ c.in-Ok-fill.ensures
    (c.deref-4.ensures.value ∙ c.in-Ok.ensures ∙ ap (λ x. upto read_after n x c.deref-2.result.now) c.deref.ensures.value ∙ ap (λ x. upto read_after n d.base.items x) c.deref-2.ensures.value)
    (ap (map range_view) c.deref-5.ensures.value ∙ c.in-Ok-ranges_upto.ensures ∙ ap (λ x. upto ranges_after n [] x) c.deref-3.ensures.value)
    c.least-least.ensures

pub returns-in-Ok-fill-clause-may_be_left : goal.returns-in-Ok-fill-clause-may_be_left
returns-in-Ok-fill-clause-may_be_left c =
    let s = disk_state c.args.self.now c.args.calls in
    subst (λ (l : List ℕ). IsImage s l) (sym (returns-in-Ok-fill-clause-value c)) (image_is s c.args.len c.args.choice.now c.requires.least c.requires.most)
