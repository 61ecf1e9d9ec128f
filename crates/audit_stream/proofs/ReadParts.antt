-- What is judged, as it is read.
use Rattle.std.proofs.Common.{◌≡◌, ℕ, ◌+◌, true, nat_eq, ◌&&◌, nat_le, List, [], ◌∷◌, Some, refl, ap, ◌∙◌}
use Rattle.avm_num.proofs.Numbers.{bind_some, and_true}
use Rattle.avm_model.specs.Audit.{Judged, auths_within, judged_of}
use Rattle.avm_model.specs.Basics.{flag}
use Rattle.avm_model.specs.Entries.{numbered, no_boot, snaps, begins, follow, opens}
use Rattle.avm_model.specs.Frame.{FrameData}
use Rattle.avm_model.specs.Segment.{whole_segment_of}

pub read_is : (segment auths : List ℕ) (d : Judged) → judged_of segment auths ≡ Some d → (whole_segment_of segment ≡ Some (d.segment, d.head)) × (auths_within auths ≡ Some d.auths)
unfolding judged_of
read_is segment auths d e =
    let a = bind_some (whole_segment_of segment) _ d e in
    let b = bind_some (auths_within auths) _ d a.2 in
    let is : record { segment = a.0.0; head = a.0.1; auths = b.0 } ≡ d = same (record { segment = a.0.0; head = a.0.1; auths = b.0 }) d b.2 in
    (a.1 ∙ ap (λ (j : Judged). Some (j.segment, j.head)) is, b.1 ∙ ap (λ (j : Judged). Some j.auths) is)
  where
    same : (x y : Judged) → Some x ≡ Some y → x ≡ y
    same x y h = cc

-- entries of a segment have numbers that run on
pub opens_numbered : (start : ℕ) (before : List ℕ) (fs : List FrameData) → opens start before fs ≡ true → numbered start fs ≡ true
opens_numbered start before [] e = refl
opens_numbered start before (f ∷ fs) e =
    let p = and_true (nat_eq f.seq start && begins start before f.kind) (follow (start + 1) (flag (nat_eq f.kind 2)) fs) e in
    let q = and_true (nat_eq f.seq start) (begins start before f.kind) p.0 in
    let r = and_true (numbered (start + 1) fs && no_boot fs) (nat_le (flag (nat_eq f.kind 2) + snaps fs) 64) p.1 in
    let t = and_true (numbered (start + 1) fs) (no_boot fs) r.0 in
    rw (q.0, t.0) refl
