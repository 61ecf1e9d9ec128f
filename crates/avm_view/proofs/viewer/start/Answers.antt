use Rattle.std.proofs.Common.{◌≡◌, ℕ, List, ap, ◌∙◌}
use Rattle.avm_model.specs.Frame.{frames_of}
use Rattle.avm_model.specs.Audit.{snapshot, entry_frames}
use Rattle.avm_model.specs.Reference.{timed, entries_of}
use Rattle.avm_model.specs.Timed.{last_count}
use Rattle.seg_file.specs.Views.{segment_view}
use Rattle.avm_view.proofs.Openings.{whole}
use Rattle.avm_view.proofs.viewer.start.Goals as goal

pub invariant_of-result : goal.invariant_of-result
invariant_of-result c =
    let s = segment_view c.args.parts.now in
    let h = c.requires.tells.0 in
    let is = c.requires.tells.1.is in
    let can = c.requires.can h is in
    let w = whole (snapshot s h) (entry_frames s) can.committed can.replays in
    let state = c.in_ok-machine.ensures.state h is in
    let last : c.last_count.result ≡ last_count timed 0 (entries_of (entry_frames s)) = c.last_count.ensures.value ∙ ap (λ (b : List ℕ). last_count timed 0 (entries_of (frames_of b))) c.new-2.ensures in
    record { high = rw (state, last) w.low; few = c.last_count.ensures.few; on = rw (state, last, c.new.ensures) w.on }
