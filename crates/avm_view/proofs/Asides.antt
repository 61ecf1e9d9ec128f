-- A machine that was left aside.
use Rattle.std.proofs.Common.{◌≡◌, ℕ, ◌+◌, ◌*◌, ◌/◌, ◌≤◌, ◌<◌, ◌==◌, eqb, ne_eqb, not, Bool, true, List, [], ◌∷◌, ◌++◌, length, replicate, false, Option, Some, None, refl, sym, ap, subst, ◌∙◌, arith}
use Rattle.std.specs.Prelude.{IfOk, IfSome, IfNone, Result, Ok, Err}
use Rattle.std.specs.Bool.{OnTrue}
use Rattle.std.proofs.lemmas.Bool.{OnTrue_at}
use Rattle.std.proofs.lemmas.List.{map-append}
use Rattle.avm_num.specs.Room.{Buffer, with_bytes}
use Rattle.avm_model.specs.Audit.{snapshot, entry_frames, behind_first, is_committed}
use Rattle.avm_model.specs.Frame.{FrameData, frames_of}
use Rattle.avm_model.specs.Head.{HeadData}
use Rattle.avm_model.specs.Machine.{State}
use Rattle.avm_model.specs.Memory.{RamState, IsRam, put_at, marked_range}
use Rattle.avm_model.specs.Reference.{Given, Made, timed, entries_of, entry_of_frame}
use Rattle.avm_model.specs.Rerun as Rerun
use Rattle.avm_model.specs.Rerun.{Stand, Replays}
use Rattle.avm_model.specs.Segment.{SegmentData}
use Rattle.avm_model.specs.Timed.{Entry, inputs, last_count}
use Rattle.avm_model.proofs.ReferenceLaws.{is_timed}
use Rattle.state_replay.proofs.Fillings.{divided, filled}
use Rattle.state_replay.proofs.Seen.{Seen}
use Rattle.view_model.specs.Points.{Point, point, next}
use Rattle.view_model.specs.Views.{CanView, Run, run_of}
use Rattle.view_model.proofs.Resuming.{Resumes, resumes}
use Rattle.avm_view.specs.Inputs.{point_of}
use Rattle.avm_view.specs.Keeping.{IsAside}
use Rattle.avm_view.specs.Viewing.{Viewing, Stands, Lacks}
use Rattle.avm_view.specs.declared.keeping.Aside.{Aside}
use Rattle.avm_view.proofs.Openings.{Opens, opens_with}

-- ---- the copy

-- a RAM of as many pages, with these bytes put into it
pub record Copied (m : State) (n : ℕ) (put : RamState) : Type 0 where
  pub bytes : put.bytes ≡ m.ram
  pub pages : length m.ram / 4096 ≡ length put.dirty

pub copied : (m : State) (dirty : List Bool) (ram put : RamState) → IsRam m.ram dirty → ram ≡ record { bytes = replicate (4096 * length dirty) 0; dirty = replicate (length dirty) false } → put ≡ record { bytes = put_at ram.bytes 0 m.ram; dirty = marked_range ram.dirty 0 (length m.ram) }
    → length put.dirty ≡ length ram.dirty → Copied m (length dirty) put
copied m dirty ram put sizes is a d =
    let n = divided (length m.ram) (length dirty) sizes.size in
    let whole : ram ≡ record { bytes = replicate (4096 * (length m.ram / 4096)) 0; dirty = replicate (length m.ram / 4096) false } = rw n is in
    let f = filled m.ram (length dirty) ram put (record put { dirty = replicate (length put.dirty) false }) sizes.size whole a d refl in
    record { bytes = f.bytes; pages = n ∙ sym f.count ∙ f.marks }

-- ---- left aside

pub left_aside : (s : State) (all : List FrameData) (left rest : List ℕ) (stand : Stand State Made) (t : State) (o : Option Aside) → Seen s all (frames_of left) stand → t ≡ stand.state → rest ≡ left
    → IfSome o (λ a. (a.machine.state ≡ t) × (a.frames ≡ rest)) → IfSome o (λ a. IsAside s all a.machine.state (frames_of a.frames))
left_aside s all left rest stand t None seen is same h = tt
left_aside s all left rest stand t (Some a) seen is same h =
    record { before = seen.0; here = stand; split = rw (h.1, same) seen.1; stands = seen.2; is = h.0 ∙ is }

-- ---- the run goes on from there

at_first : (s : State) (e : Entry Given Made) (es before rest : List (Entry Given Made)) (here : Stand State Made) → Opens s e → es ≡ before ++ rest → Rerun.Stands timed s before here → Replays timed s es
    → Resumes timed s (inputs (e ∷ es)) (last_count timed 0 (e ∷ es)) (point here.state (inputs rest))
at_first s e es before rest here o split stands replays =
    let r = resumes timed is_timed s before rest here stands (subst (λ (xs : List (Entry Given Made)). Replays timed s xs) split replays) in
    let p : Point State Given = point here.state (inputs rest) in
    let whole : Resumes timed s (inputs es) (last_count timed s.count es) p = subst (λ (xs : List (Entry Given Made)). Resumes timed s (inputs xs) (last_count timed s.count xs) p) (sym split) r in
    subst (λ (x : Entry Given Made). Resumes timed s (inputs (x ∷ es)) (last_count timed 0 (x ∷ es)) p) (sym o.is)
    (subst (λ (n : ℕ). Resumes timed s (inputs es) (last_count timed n es) p) (sym o.count) whole)

ahead_in : (s : State) (fs : List FrameData) (t : State) (rest : List FrameData) → is_committed s fs ≡ true → Replays timed s (entries_of (behind_first fs)) → IsAside s (behind_first fs) t rest
    → Resumes timed s (inputs (entries_of fs)) (last_count timed 0 (entries_of fs)) (point t (inputs (entries_of rest)))
unfolding is_committed
ahead_in s [] t rest h r a = absurd cc
ahead_in s (f ∷ fs) t rest h r a =
    let split : entries_of fs ≡ entries_of a.before ++ entries_of rest = ap entries_of a.split ∙ map-append entry_of_frame a.before rest in
    subst (λ (x : State). Resumes timed s (inputs (entries_of (f ∷ fs))) (last_count timed 0 (entries_of (f ∷ fs))) (point x (inputs (entries_of rest)))) (sym a.is)
    (at_first s (entry_of_frame f) (entries_of fs) (entries_of a.before) (entries_of rest) a.here (opens_with s f h) split a.stands r)

-- it goes on from p, which has fewer steps than its last state
pub record Ahead (r : Run) (p : Point State Given) : Type 0 where
  pub resumes : Resumes timed r.start r.given r.last p
  pub before : p.state.count < r.last

pub ahead : (s : SegmentData) (h : HeadData) (t : State) (rest : List ℕ) (last : ℕ) → CanView s h → IsAside (snapshot s h) (behind_first (entry_frames s)) t (frames_of rest) → last ≡ (run_of s h).last → t.count < last → Ahead (run_of s h) (point_of t rest)
ahead s h t rest last can a is lt = record { resumes = ahead_in (snapshot s h) (entry_frames s) t (frames_of rest) can.committed can.replays a; before = omega (arith, is, lt) }

-- one step on, a viewer stands in the run
pub ahead_stands : (r : Run) (p v : Viewing) (moved : Bool) → Ahead r p.point → p.first ≡ r.start.count → p.last ≡ r.last → moved ≡ not (p.point.state.count == p.last) → OnTrue moved (next timed p.point ≡ Some v.point) → v.first ≡ p.first → v.last ≡ p.last → v.point.state.count ≤ v.last → Stands r v
ahead_stands r p v moved a first last is goes same_first same_last high =
    let lt : p.point.state.count < p.last = omega (arith, a.before, last) in
    let other : eqb p.point.state.count p.last ≡ false = ne_eqb _ _ (λ (e : p.point.state.count ≡ p.last). omega (arith, lt, e)) in
    let yes : moved ≡ true = is ∙ ap not other in
    record {
      at = a.resumes.next_is v.point (OnTrue_at yes goes);
      first = same_first ∙ first;
      last = same_last ∙ last;
      high = omega (arith, high, same_last, last);
    }

pub ahead_near : (p v : Viewing) (moved : Bool) (count : ℕ) → p.point.state.count < count → p.point.state.count < p.last → moved ≡ not (p.point.state.count == p.last) → OnTrue moved (v.point.state.count ≡ p.point.state.count + 1) → v.point.state.count ≤ count
ahead_near p v moved count lt below is goes =
    let other : eqb p.point.state.count p.last ≡ false = ne_eqb _ _ (λ (e : p.point.state.count ≡ p.last). omega (arith, below, e)) in
    let n = OnTrue_at (is ∙ ap not other) goes in
    omega (arith, n, lt)

-- ---- small steps

pub ok_on : {A E : Type 0} (P Q : A → Type 0) (r : Result A E) → ((x : A) → P x → Q x) → IfOk r P → IfOk r Q
ok_on P Q (Ok x) f h = f x h
ok_on P Q (Err e) f h = tt

pub head_in : (b c : Buffer) (n : ℕ) (bytes head : List ℕ) → b ≡ record { bytes = []; capacity = n } → c ≡ with_bytes b head → bytes ≡ c.bytes → bytes ≡ head
head_in b c n bytes head e f g = g ∙ ap (λ (x : Buffer). x.bytes) f ∙ ap (λ (x : Buffer). x.bytes ++ head) e

-- ---- at a count

pub found : (r : Run) (old : Viewing) (count : ℕ) (o : Option Viewing) → Stands r old → IfSome o (λ v. (q : Run) → Stands q old → Stands q v) → IfSome o (λ v. v.point.state.count ≡ count) → IfNone o ((q : Run) → Stands q old → Lacks q count)
    → IfSome o (λ v. Stands r v × (v.point.state.count ≡ count)) × IfNone o (Lacks r count)
found r old count None h a b n = (tt, n r h)
found r old count (Some v) h a b n = ((a r h, b), tt)
