-- The verdict on bytes, and acceptance as a conjunction.
use Rattle.std.proofs.Common.{◌≡◌, ℕ, ◌^◌, ◌<◌, ◌≤◌, Bool, true, false, cond, nat_le, List, length, Option, Some, None, refl, sym, subst, ◌∙◌, arith, leb-true, le-leb}
use Rattle.avm_num.specs.Bytes.{◌>>=◌}
use Rattle.avm_model.specs.Auth.{AuthData, auths_at}
use Rattle.avm_model.specs.Frame.{frames_of}
use Rattle.avm_model.specs.Head.{HeadData}
use Rattle.avm_model.specs.HeadReading.{head_of}
use Rattle.avm_model.specs.HeadState.{state_of}
use Rattle.avm_model.specs.Segment.{SegmentData, segment_of, whole_segment_of}
use Rattle.avm_model.specs.Rerun.{Replays}
use Rattle.avm_model.specs.Reference.{timed, entries_of, IsFaultNumber}
use Rattle.avm_model.specs.Verdict.{marks, verdict}
use Rattle.avm_model.specs.Audit.{Judged, auths_within, judged_of, snapshot, entry_frames, behind_first, last_number, is_committed, case_of, IsFaultOf, IsVerdictOn, IsVerdict, IsAccepted, IsAcceptedBytes, IsAcceptance, accepted_as}
use Rattle.avm_model.specs.declared.judged.Verdict.{Verdict}
use Rattle.avm_model.specs.declared.judged.Verdict.TheVariants.{Malformed, Accepted}
use Rattle.avm_model.proofs.ReferenceLaws.{is_timed}
use Rattle.avm_model.proofs.ReplayTheorems.{fault_whole}
use Rattle.audit_stream.specs.Cases.{case_from}
use Rattle.audit_stream.proofs.Accepts.{Accepting, accepted_is, accepts}

-- ---- nothing that is judged

abbrev made_of : SegmentData × HeadData → List AuthData → Option Judged
made_of s list = Some (record { segment = s.0; head = s.1; auths = list })

none_made : (r : Option (SegmentData × HeadData)) (o : Option (List AuthData)) → o ≡ None → (r >>= λ s. o >>= λ list. made_of s list) ≡ None
none_made None o e = refl
none_made (Some p) o e = rw e refl

pub no_auths : (segment auths : List ℕ) → auths_within auths ≡ None → judged_of segment auths ≡ None
unfolding judged_of
no_auths segment auths e = none_made (whole_segment_of segment) (auths_within auths) e

pub long_auths : (auths : List ℕ) → 2 ^ 24 < length auths → auths_within auths ≡ None
unfolding auths_within
long_auths auths over = go (nat_le (length auths) (2 ^ 24)) refl
  where
    go : (b : Bool) → nat_le (length auths) (2 ^ 24) ≡ b → cond b (auths_at auths) None ≡ None
    go false e = refl
    go true e = let le = leb-true _ _ e in absurd (omega arith)

pub bad_auths : (auths : List ℕ) → None ≡ auths_at auths → auths_within auths ≡ None
unfolding auths_within
bad_auths auths e = rw (← e) (go (nat_le (length auths) (2 ^ 24)))
  where
    go : (b : Bool) → ◌≡◌ {A = Option (List AuthData)} (cond b None None) None
    go true = refl
    go false = refl

pub good_auths : (auths : List ℕ) (xs : List AuthData) → length auths ≤ 2 ^ 24 → Some xs ≡ auths_at auths → auths_within auths ≡ Some xs
unfolding auths_within
good_auths auths xs le e = rw (le-leb (length auths) (2 ^ 24) le) (sym e)

pub all_judged : (segment auths : List ℕ) (s : SegmentData) (h : HeadData) (xs : List AuthData) → Some s ≡ segment_of segment → head_of s.front.head ≡ Some h → auths_within auths ≡ Some xs → judged_of segment auths ≡ Some (record { segment = s; head = h; auths = xs })
unfolding judged_of whole_segment_of
all_judged segment auths s h xs e p q = rw (← e, p, q) refl

-- ---- the verdict

pub malformed : (key segment auths : List ℕ) → judged_of segment auths ≡ None → IsVerdict key segment auths Malformed
malformed key segment auths e = rw e refl

pub judged_is : (key segment auths : List ℕ) (s : SegmentData) (h : HeadData) (xs : List AuthData) (committed : Bool) (fault : Option ℕ) (v : Verdict) → judged_of segment auths ≡ Some (record { segment = s; head = h; auths = xs })
    → committed ≡ is_committed (state_of h s.pages) (frames_of s.frames) → IsFaultNumber (state_of h s.pages) (behind_first (frames_of s.frames)) fault
    → v ≡ verdict (case_from key s.front.start (last_number 0 (frames_of s.frames)) s.front.before (frames_of s.frames) committed fault xs) → IsVerdict key segment auths v
unfolding case_of
judged_is key segment auths s h xs committed fault v e c f m = rw e (fault, f, rw c at m)

-- ---- acceptance

fault_none : (d : Judged) (fault : Option ℕ) → IsFaultOf d fault → Replays timed (snapshot d.segment d.head) (entries_of (behind_first (entry_frames d.segment))) → fault ≡ None
fault_none d None f r = refl
fault_none d (Some n) f r = absurd (fault_whole timed is_timed (snapshot d.segment d.head) (entries_of (behind_first (entry_frames d.segment))) (length f.before) f.first r)

no_malformed : (x y z : ℕ) → Malformed ≡ Accepted x y z → ⊥
no_malformed x y z e = cc

only_accepted : (key segment auths : List ℕ) (v : Verdict) (x y z : ℕ) → IsVerdict key segment auths v → v ≡ Accepted x y z → IsAcceptedBytes key segment auths
unfolding case_of
only_accepted key segment auths v x y z is e = go (judged_of segment auths) refl is
  where
    go : (o : Option Judged) → judged_of segment auths ≡ o → IsVerdictOn key o v → IsAcceptedBytes key segment auths
    go None q m = absurd (no_malformed x y z (sym m ∙ e))
    go (Some d) q m =
        let a : Accepting (case_of key d m.0) = accepted_is (case_of key d m.0) x y z (sym m.2 ∙ e) in
        let replays : IsFaultOf d None = subst (λ (f : Option ℕ). IsFaultOf d f) a.replays m.1 in
        (d, q, record { verified = a.verified; matching = a.matching; committed = a.committed; replays = replays })

every_accepted : (key segment auths : List ℕ) (v : Verdict) (d : Judged) → IsVerdict key segment auths v → judged_of segment auths ≡ Some d → IsAccepted key d → v ≡ accepted_as d
unfolding case_of marks
every_accepted key segment auths v d is q a =
    let m : IsVerdictOn key (Some d) v = subst (λ (o : Option Judged). IsVerdictOn key o v) q is in
    let none = fault_none d m.0 m.1 a.replays in
    m.2 ∙ accepts (case_of key d m.0) (record { verified = a.verified; matching = a.matching; committed = a.committed; replays = none })

pub acceptance : (key segment auths : List ℕ) (v : Verdict) → IsVerdict key segment auths v → IsAcceptance key segment auths v
acceptance key segment auths v is = record { only = λ x y z e. only_accepted key segment auths v x y z is e; every = λ d q a. every_accepted key segment auths v d is q a }
