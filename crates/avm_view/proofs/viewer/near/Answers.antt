use Rattle.std.proofs.Common.{sym, ap, subst, ◌∙◌}
use Rattle.seg_file.specs.Views.{segment_view}
use Rattle.view_model.specs.Views.{run_of}
use Rattle.avm_view.specs.Viewing.{Viewing, Stands}
use Rattle.avm_view.proofs.Openings.{starts}
use Rattle.avm_view.proofs.viewer.near.Goals as goal

pub resume-requires-clause-aside : goal.resume-requires-clause-aside
resume-requires-clause-aside c = λ h e. let k = c.requires.aside h e in rw c.in-Some.is at k

pub resume-requires-clause-first : goal.resume-requires-clause-first
resume-requires-clause-first c = λ h e. ap (λ (w : Viewing). w.first) (c.viewer.view_is ∙ c.in_ok-viewer.ensures h e)

pub returns-in-Some-clause-stands : goal.returns-in-Some-clause-stands
returns-in-Some-clause-stands c = λ h e.
    let s = segment_view c.args.parts.now in
    subst (λ (w : Viewing). Stands (run_of s h) w) (sym (c.in_ok-viewer.ensures h e)) (starts s h (c.requires.can h e))

pub returns-clause-stands : goal.returns-clause-stands
returns-clause-stands c = λ h e.
    let s = segment_view c.args.parts.now in
    subst (λ (w : Viewing). Stands (run_of s h) w) (sym (c.in_ok-viewer.ensures h e)) (starts s h (c.requires.can h e))
