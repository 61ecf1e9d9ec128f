-- What the statuses of a view say.
use Rattle.std.proofs.Common.{◌≡◌, ◌≢◌, inl, inr, ℕ, suc, Bool, true, false, List, ◌++◌, length, take, drop, take-append-drop, Option, Some, None, sym, ap, subst, ◌∙◌, append-nil}
use Rattle.std.specs.Prelude.{option_map}
use Rattle.std.specs.List.{concat}
use Rattle.avm_model.specs.Audit.{snapshot, entry_frames, behind_first, is_committed}
use Rattle.avm_model.specs.Frame.{FrameData}
use Rattle.avm_model.specs.Head.{HeadData}
use Rattle.avm_model.specs.Machine.{State}
use Rattle.avm_model.specs.Reference.{Given, Made, timed, entries_of, IsFaultAt}
use Rattle.avm_model.specs.Rerun.{Replays}
use Rattle.avm_model.specs.Segment.{SegmentData, whole_segment_of}
use Rattle.avm_model.specs.Timed.{Entry}
use Rattle.avm_model.proofs.ReferenceLaws.{is_timed}
use Rattle.avm_model.proofs.ReplayTheorems.{front_replays}
use Rattle.command_parts.specs.Reading.{Finds}
use Rattle.view_model.specs.Points.{Point, point}
use Rattle.view_model.specs.Views.{Run, run_of, At}
use Rattle.view_command.specs.Meaning.{ViewMeans}
use Rattle.view_command.specs.Outcomes.{Ended, NoMemory, FaultFiles, ViewEnds}
use Rattle.view_command.specs.Showing.{Read, Refuses, Views, ShowsState, ShowsChanges, StateOutOfRange, ChangesOutOfRange, is_count, in_ram}
use Rattle.view_command.specs.declared.ends.End.{End}
use Rattle.view_command.specs.declared.ends.End.TheVariants.{Shown, RefusedFile, RefusedMalformed, RefusedUncommitted, RefusedUncovered, RefusedRange}
use Rattle.view_command.specs.declared.shown.StateAsked.{StateAsked}

-- ---- a view that is shown isn't refused

apart : (b : Bool) → b ≡ true → b ≡ false → ⊥
apart b t f = let no : true ≡ false = sym t ∙ f in cc

no_fault : (s : State) (fs : List FrameData) (n : ℕ) → IsFaultAt s fs n → Replays timed s (entries_of fs) → ⊥
no_fault s fs n f r =
    let k = suc (length f.before) in
    let es = entries_of fs in
    f.first.fault (front_replays timed is_timed s (take k es) (drop k es) (subst (λ (l : List (Entry Given Made)). Replays timed s l) (sym (take-append-drop k es)) r))

same_parts : (read : Read) (p q : SegmentData × HeadData) → read ≡ Some p → read ≡ Some q → p ≡ q
same_parts read p q a b = let e : Some p ≡ Some q = sym a ∙ b in cc

-- one run alone can be viewed
one_run : (read : Read) (r q : Run) → Views read r → Views read q → r ≡ q
one_run read r q a b =
    let same = same_parts read (a.segment, a.head) (b.segment, b.head) a.is b.is in
    a.run ∙ ap (λ (p : SegmentData × HeadData). run_of p.0 p.1) same ∙ sym b.run

not_refused : (Out : Read → Type 0) (read : Read) (r : Run) (e : End) → Views read r → (Out read → ⊥) → Refuses Out read e → ⊥
not_refused Out read r Shown v never h = h
not_refused Out read r RefusedFile v never h = h
not_refused Out read r RefusedMalformed v never h = let e : Some (v.segment, v.head) ≡ None = sym v.is ∙ h in cc
not_refused Out read r RefusedUncommitted v never h =
    let same = same_parts read (v.segment, v.head) (h.0, h.1) v.is h.2 in
    apart (is_committed (snapshot v.segment v.head) (entry_frames v.segment)) v.can.committed
    (subst (λ (p : SegmentData × HeadData). is_committed (snapshot p.0 p.1) (entry_frames p.0) ≡ false) (sym same) h.3)
not_refused Out read r (RefusedUncovered n) v never h =
    let same = same_parts read (v.segment, v.head) (h.0, h.1) v.is h.2 in
    no_fault (snapshot v.segment v.head) (behind_first (entry_frames v.segment)) n
    (subst (λ (p : SegmentData × HeadData). IsFaultAt (snapshot p.0 p.1) (behind_first (entry_frames p.0)) n) (sym same) h.4) v.can.replays
not_refused Out read r RefusedRange v never h = never h

-- there is one state at a count
one_state : (r : Run) (c : ℕ) (s t : State) → At r c s → At r c t → s ≡ t
one_state r c s t a b = let e : Some (point s a.left) ≡ Some (point t b.left) = sym a.is.on ∙ b.is.on in state_is (point s a.left) (point t b.left) e
  where
    state_is : (p q : Point State Given) → Some p ≡ Some q → p.state ≡ q.state
    state_is p q e = let same : p ≡ q = cc in ap (λ (x : Point State Given). x.state) same

pub state_in_range : (a : StateAsked) (read : Read) (lines : List (List ℕ)) → ShowsState a read lines → StateOutOfRange a read → ⊥
state_in_range a read lines s (q, v, inl off) =
    apart (is_count s.run a.count) s.count (subst (λ (x : Run). is_count x a.count ≡ false) (sym (one_run read s.run q s.views v)) off)
state_in_range a read lines s (q, v, inr (t, at, off)) =
    let same = one_state s.run a.count s.state t s.at (subst (λ (x : Run). At x a.count t) (sym (one_run read s.run q s.views v)) at) in
    apart (in_ram s.state a.from a.words) s.words (subst (λ (x : State). in_ram x a.from a.words ≡ false) (sym same) off)

pub changes_in_range : (address : ℕ) (read : Read) (lines : List (List ℕ)) → ShowsChanges address read lines → ChangesOutOfRange address read → ⊥
changes_in_range address read lines s (q, v, off) =
    apart (in_ram s.run.start address 1) s.word (subst (λ (x : Run). in_ram x.start address 1 ≡ false) (sym (one_run read s.run q s.views v)) off)

-- ---- what 0 says

-- what shows something can be viewed, and isn't out of range
pub record IsView (Shows : Read → List (List ℕ) → Type 0) (Out : Read → Type 0) : Type 0 where
  pub views : (read : Read) (lines : List (List ℕ)) → Shows read lines → (r : Run) × Views read r
  pub in_range : (read : Read) (lines : List (List ℕ)) → Shows read lines → Out read → ⊥

pub state_view : (a : StateAsked) → IsView (ShowsState a) (StateOutOfRange a)
state_view a = record { views = λ read lines s. (s.run, s.views); in_range = λ read lines s out. state_in_range a read lines s out }

pub changes_view : (address : ℕ) → IsView (ShowsChanges address) (ChangesOutOfRange address)
changes_view address = record { views = λ read lines s. (s.run, s.views); in_range = λ read lines s out. changes_in_range address read lines s out }

shown_by : (Shows : Read → List (List ℕ) → Type 0) (Out : Read → Type 0) (told : Option (Option (List ℕ))) (fb fn b n : ℕ) (ob on : Option (List ℕ)) (result : ℕ)
    → ViewEnds Shows Out told fb fn b n ob on result → result ≡ 0
    → (bytes : List ℕ) × (lines : List (List ℕ)) × Finds told (Some bytes) × Shows (whole_segment_of bytes) lines × (on ≡ option_map (λ was. was ++ concat lines) ob)
shown_by Shows Out told fb fn b n ob on result (o, said, found, finds, reach, counts, inr p) zero_is = absurd (let h : 4 ≡ 0 = sym p.0 ∙ zero_is in cc)
shown_by Shows Out told fb fn b n ob on result (Ended Shown, said, found, finds, reach, counts, inl p) zero_is =
    (reach.0, said, subst (λ (f : Option (List ℕ)). Finds told f) reach.1 finds, reach.2, subst (λ (l : List (List ℕ)). on ≡ option_map (λ was. was ++ concat l) ob) (append-nil said) p.1.1)
shown_by Shows Out told fb fn b n ob on result (Ended RefusedFile, said, found, finds, reach, counts, inl p) zero_is = absurd (let h : 3 ≡ 0 = sym p.0 ∙ zero_is in cc)
shown_by Shows Out told fb fn b n ob on result (Ended RefusedMalformed, said, found, finds, reach, counts, inl p) zero_is = absurd (let h : 2 ≡ 0 = sym p.0 ∙ zero_is in cc)
shown_by Shows Out told fb fn b n ob on result (Ended RefusedUncommitted, said, found, finds, reach, counts, inl p) zero_is = absurd (let h : 2 ≡ 0 = sym p.0 ∙ zero_is in cc)
shown_by Shows Out told fb fn b n ob on result (Ended (RefusedUncovered k), said, found, finds, reach, counts, inl p) zero_is = absurd (let h : 2 ≡ 0 = sym p.0 ∙ zero_is in cc)
shown_by Shows Out told fb fn b n ob on result (Ended RefusedRange, said, found, finds, reach, counts, inl p) zero_is = absurd (let h : 2 ≡ 0 = sym p.0 ∙ zero_is in cc)
shown_by Shows Out told fb fn b n ob on result (NoMemory, said, found, finds, reach, counts, inl p) zero_is = absurd (let h : 5 ≡ 0 = sym p.0 ∙ zero_is in cc)
shown_by Shows Out told fb fn b n ob on result (FaultFiles, said, found, finds, reach, counts, inl p) zero_is = absurd (let h : 4 ≡ 0 = sym p.0 ∙ zero_is in cc)

-- the bytes that were told are those that were found
told_is : (bytes : List ℕ) (found : Option (List ℕ)) (told : Option (Option (List ℕ))) → told ≡ Some (Some bytes) → Finds told found → Some bytes ≡ found
told_is bytes found told e f = subst (λ (t : Option (Option (List ℕ))). Finds t found) e f

refused_never : (Shows : Read → List (List ℕ) → Type 0) (Out : Read → Type 0) → IsView Shows Out → (bytes other : List ℕ) (lines : List (List ℕ)) (e : End) → Shows (whole_segment_of bytes) lines → Some bytes ≡ Some other
    → Refuses Out (whole_segment_of other) e → ⊥
refused_never Shows Out v bytes other lines e shows same r =
    let is : bytes ≡ other = cc in
    let w = v.views (whole_segment_of bytes) lines shows in
    not_refused Out (whole_segment_of bytes) w.0 e w.1 (v.in_range (whole_segment_of bytes) lines shows) (subst (λ (b : List ℕ). Refuses Out (whole_segment_of b) e) (sym is) r)

shows_by : (Shows : Read → List (List ℕ) → Type 0) (Out : Read → Type 0) → IsView Shows Out → (told : Option (Option (List ℕ))) (fb fn b n : ℕ) (ob on : Option (List ℕ)) (result : ℕ)
    → ViewEnds Shows Out told fb fn b n ob on result → (bytes : List ℕ) (lines : List (List ℕ)) → told ≡ Some (Some bytes) → Shows (whole_segment_of bytes) lines → result ≢ 4 → result ≢ 5 → result ≡ 0
shows_by Shows Out v told fb fn b n ob on result (o, said, found, finds, reach, counts, inr p) bytes lines is shows n4 n5 = absurd (n4 p.0)
shows_by Shows Out v told fb fn b n ob on result (Ended Shown, said, found, finds, reach, counts, inl p) bytes lines is shows n4 n5 = p.0
shows_by Shows Out v told fb fn b n ob on result (Ended RefusedFile, said, found, finds, reach, counts, inl p) bytes lines is shows n4 n5 =
    absurd (let h : Some bytes ≡ None = told_is bytes found told is finds ∙ reach.0 in cc)
shows_by Shows Out v told fb fn b n ob on result (Ended RefusedMalformed, said, found, finds, reach, counts, inl p) bytes lines is shows n4 n5 =
    absurd (refused_never Shows Out v bytes reach.0 lines RefusedMalformed shows (told_is bytes found told is finds ∙ reach.1) reach.2)
shows_by Shows Out v told fb fn b n ob on result (Ended RefusedUncommitted, said, found, finds, reach, counts, inl p) bytes lines is shows n4 n5 =
    absurd (refused_never Shows Out v bytes reach.0 lines RefusedUncommitted shows (told_is bytes found told is finds ∙ reach.1) reach.2)
shows_by Shows Out v told fb fn b n ob on result (Ended (RefusedUncovered k), said, found, finds, reach, counts, inl p) bytes lines is shows n4 n5 =
    absurd (refused_never Shows Out v bytes reach.0 lines (RefusedUncovered k) shows (told_is bytes found told is finds ∙ reach.1) reach.2)
shows_by Shows Out v told fb fn b n ob on result (Ended RefusedRange, said, found, finds, reach, counts, inl p) bytes lines is shows n4 n5 =
    absurd (refused_never Shows Out v bytes reach.0 lines RefusedRange shows (told_is bytes found told is finds ∙ reach.1) reach.2)
shows_by Shows Out v told fb fn b n ob on result (NoMemory, said, found, finds, reach, counts, inl p) bytes lines is shows n4 n5 = absurd (n5 p.0)
shows_by Shows Out v told fb fn b n ob on result (FaultFiles, said, found, finds, reach, counts, inl p) bytes lines is shows n4 n5 = absurd (n4 p.0)

pub means : (Shows : Read → List (List ℕ) → Type 0) (Out : Read → Type 0) → IsView Shows Out → (told : Option (Option (List ℕ))) (fb fn b n : ℕ) (ob on : Option (List ℕ)) (result : ℕ)
    → ViewEnds Shows Out told fb fn b n ob on result → ViewMeans Shows told ob on result
means Shows Out v told fb fn b n ob on result e =
    record { shown = shown_by Shows Out told fb fn b n ob on result e; shows = shows_by Shows Out v told fb fn b n ob on result e }
