-- A segment that can be viewed.
use Rattle.std.proofs.Common.{◌≡◌, ℕ, ◌-◌, ◌≤◌, true, false, List, [], ◌∷◌, Option, Some, None, is_some, refl, sym, ap, subst, ◌∙◌, arith, eqb-true}
use Rattle.std.specs.Iterator.{YieldsFirstBy}
use Rattle.avm_num.proofs.Numbers.{and_true}
use Rattle.avm_model.specs.Machine.{State}
use Rattle.avm_model.specs.Frame.{FrameData, frames_of}
use Rattle.avm_model.specs.Content.{ContentData, boot, snap, conin, clock, recv, acked, out, send, halt, content_at}
use Rattle.avm_model.specs.Head.{HeadData}
use Rattle.avm_model.specs.HeadReading.{head_of}
use Rattle.avm_model.specs.Segment.{SegmentData, segment_of, whole_segment_of}
use Rattle.avm_model.specs.Audit.{snapshot, entry_frames, behind_first, commits_to, is_committed}
use Rattle.avm_model.specs.Timed.{Entry, made, inputs, last_count}
use Rattle.avm_model.specs.Rerun.{Replays}
use Rattle.avm_model.specs.Reference.{Given, Made, NothingAt, SnapAt, made_count, timed, entry_in, entry_of_frame, entries_of}
use Rattle.avm_model.proofs.ReferenceLaws.{is_timed}
use Rattle.view_model.specs.Points.{point}
use Rattle.view_model.specs.Views.{CanView, run_of}
use Rattle.view_model.proofs.Walks.{viewed}
use Rattle.log_entry.specs.declared.frame.Frame.{Frame}
use Rattle.log_entry.specs.Views.{frame_view}
use Rattle.avm_model.proofs.SegmentPages.{has_pages}
use Rattle.state_replay.specs.Starting.{TellsState}
use Rattle.avm_view.specs.Faults.{IsFaultOf, IsViewFault}
use Rattle.avm_view.specs.Viewing.{viewing_from, Viewing, Stands}
use Rattle.avm_view.specs.declared.faults.ViewFault.{ViewFault}
use Rattle.avm_view.specs.declared.faults.ViewFault.TheVariants.{NoMemory, Malformed, Uncommitted, Unreplayed}
use Rattle.avm_view.proofs.Steps.{Goes}

-- ---- the bytes

pub no_segment : (bytes : List ℕ) → None ≡ segment_of bytes → whole_segment_of bytes ≡ None
unfolding whole_segment_of
no_segment bytes e = rw (← e) refl

none_is : {A : Type 0} (o : Option A) → is_some o ≡ false → o ≡ None
none_is None h = refl
none_is (Some x) h = absurd cc

pub no_head : (bytes : List ℕ) (s : SegmentData) → Some s ≡ segment_of bytes → is_some (head_of s.front.head) ≡ false → whole_segment_of bytes ≡ None
unfolding whole_segment_of
no_head bytes s e p = rw (← e, none_is (head_of s.front.head) p) refl

pub whole_is : (bytes : List ℕ) (s : SegmentData) (h : HeadData) → Some s ≡ segment_of bytes → head_of s.front.head ≡ Some h → whole_segment_of bytes ≡ Some (s, h)
unfolding whole_segment_of
whole_is bytes s h e p = rw (← e, p) refl

-- a segment's head and pages tell a state
pub tells : (bytes : List ℕ) (s : SegmentData) (h : HeadData) → Some s ≡ segment_of bytes → head_of s.front.head ≡ Some h → TellsState s.front.head s.pages
tells bytes s h e p = let k = has_pages bytes s h (whole_is bytes s h e p) in (h, record { is = p; size = k.size; count = k.count })

pub refused_by : (bytes : List ℕ) (s : SegmentData) (h : HeadData) (f : ViewFault) → whole_segment_of bytes ≡ Some (s, h) → IsFaultOf s h f → IsViewFault bytes f
refused_by bytes s h NoMemory e r = tt
refused_by bytes s h Malformed e r = absurd r
refused_by bytes s h Uncommitted e r = (s, h, e, r)
refused_by bytes s h (Unreplayed n) e r = (s, h, e, r)

-- one frame further
pub behind_is : (r : Option Frame) (old new : List ℕ) → YieldsFirstBy frame_view frames_of old r new → frames_of new ≡ behind_first (frames_of old)
behind_is None old new y = y.1 ∙ sym (ap behind_first y.0)
behind_is (Some f) old new y = sym (ap behind_first y)

-- ---- the first entry makes nothing, at the snapshot's count

pub record Opens (s : State) (e : Entry Given Made) : Type 0 where
  pub output : Made
  pub is : e ≡ made output
  pub count : made_count output ≡ s.count

opens_by : (s : State) (c : Option ContentData) → commits_to s c ≡ true → Opens s (entry_in c)
opens_by s None h = absurd cc
opens_by s (Some (boot count r)) h = record { output = NothingAt count; is = refl; count = eqb-true _ _ (and_true _ _ h).0 }
opens_by s (Some (snap count r)) h = record { output = SnapAt count r; is = refl; count = eqb-true _ _ (and_true _ _ h).0 }
opens_by s (Some (conin count bytes)) h = absurd cc
opens_by s (Some (clock count value)) h = absurd cc
opens_by s (Some (recv count packet)) h = absurd cc
opens_by s (Some (acked count packet)) h = absurd cc
opens_by s (Some (out count bytes)) h = absurd cc
opens_by s (Some (send count peer number payload)) h = absurd cc
opens_by s (Some (halt count cause value)) h = absurd cc

pub opens_with : (s : State) (f : FrameData) → commits_to s (content_at f.kind f.content) ≡ true → Opens s (entry_of_frame f)
unfolding entry_of_frame
opens_with s f h = opens_by s (content_at f.kind f.content) h

-- ---- the run goes on to the last entry's count

pub record Whole (s : State) (es : List (Entry Given Made)) : Type 0 where
  pub low : s.count ≤ last_count timed 0 es
  pub on : Goes (point s (inputs es)) (last_count timed 0 es)

whole_behind : (s : State) (e : Entry Given Made) (es : List (Entry Given Made)) → Opens s e → Replays timed s es → Whole s (e ∷ es)
whole_behind s e es o r =
    let v = viewed timed is_timed s es r in
    subst (λ (x : Entry Given Made). Whole s (x ∷ es)) (sym o.is) (subst (λ (n : ℕ). (s.count ≤ last_count timed n es) × Goes (point s (inputs es)) (last_count timed n es) → Whole s (made o.output ∷ es)) (o.count) (λ k. record { low = k.0; on = k.1 }) (v.low, v.on))

pub whole : (s : State) (fs : List FrameData) → is_committed s fs ≡ true → Replays timed s (entries_of (behind_first fs)) → Whole s (entries_of fs)
unfolding is_committed
whole s [] h r = absurd cc
whole s (f ∷ fs) h r = whole_behind s (entry_of_frame f) (entries_of fs) (opens_with s f h) r

pub starts : (s : SegmentData) (h : HeadData) → CanView s h → Stands (run_of s h) (viewing_from (run_of s h))
starts s h can =
    let w = whole (snapshot s h) (entry_frames s) can.committed can.replays in
    let none : (snapshot s h).count - (snapshot s h).count ≡ 0 = omega arith in
    record { at = record { low = omega arith; on = rw none refl }; first = refl; last = refl; high = w.low }

pub stands : (bytes : List ℕ) (s : SegmentData) (h : HeadData) (v : Viewing) → whole_segment_of bytes ≡ Some (s, h) → CanView s h → v ≡ viewing_from (run_of s h)
    → (t : SegmentData) (g : HeadData) → whole_segment_of bytes ≡ Some (t, g) → Stands (run_of t g) v
stands bytes s h v e can is t g f =
    let same = pair (s, h) (t, g) (sym e ∙ f) in
    subst (λ (p : SegmentData × HeadData). Stands (run_of p.0 p.1) v) same (subst (λ (w : Viewing). Stands (run_of s h) w) (sym is) (starts s h can))
  where
    pair : (x y : SegmentData × HeadData) → Some x ≡ Some y → x ≡ y
    pair x y q = cc
