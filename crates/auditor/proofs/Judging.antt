-- What is judged, as it is read.
use Rattle.std.proofs.Common.{◌≡◌, ℕ, ◌^◌, ◌<◌, ◌≤◌, Bool, true, false, cond, nat_le, List, length, Option, Some, None, refl, sym, ap, subst, ◌∙◌, arith, leb-true, All}
use Rattle.avm_num.specs.Bytes.{IsBytes}
use Rattle.avm_num.specs.Lists.{list_bytes}
use Rattle.avm_model.specs.Entries.{numbered}
use Rattle.avm_model.specs.Frame.{FitsFrame, frame_bytes}
use Rattle.avm_model.specs.Auth.{AuthData, FitsAuth, auths_at}
use Rattle.avm_model.specs.Head.{HeadData}
use Rattle.avm_model.specs.Segment.{SegmentData, segment_bytes, segment_of}
use Rattle.avm_model.specs.Evidence.{EvidData}
use Rattle.avm_model.specs.Audit.{Judged, auths_within, judged_of, entry_frames}
use Rattle.avm_model.specs.Holds.{evidence}
use Rattle.avm_model.specs.declared.judged.Verdict.{Verdict}
use Rattle.avm_auth.proofs.AuthLaws.{auths_are}
use Rattle.seg_file.proofs.SegmentLaws.{whole_read}
use Rattle.audit_stream.proofs.ReadParts.{read_is, opens_numbered}
use Rattle.auditor.proofs.Segments.{Whole, whole_of}

pub auths_in : (auths : List ℕ) (xs : List AuthData) → auths_within auths ≡ Some xs → (length auths ≤ 2 ^ 24) × (auths_at auths ≡ Some xs)
unfolding auths_within
auths_in auths xs e = go (nat_le (length auths) (2 ^ 24)) refl e
  where
    go : (b : Bool) → nat_le (length auths) (2 ^ 24) ≡ b → cond b (auths_at auths) None ≡ Some xs → (length auths ≤ 2 ^ 24) × (auths_at auths ≡ Some xs)
    go true p i = (leb-true _ _ p, i)
    go false p i = absurd cc

-- what is known of what is read
pub record Known (segment auths : List ℕ) (d : Judged) : Type 0 where
  pub whole : Whole d.segment d.head
  pub is : segment ≡ segment_bytes d.segment
  pub parts : segment_of segment ≡ Some d.segment
  pub short : length auths ≤ 2 ^ 24
  pub list : auths_at auths ≡ Some d.auths
  pub fits : All FitsAuth d.auths

pub known : (segment auths : List ℕ) (d : Judged) → IsBytes segment → IsBytes auths → judged_of segment auths ≡ Some d → Known segment auths d
known segment auths d sb ab e =
    let r = read_is segment auths d e in
    let w = whole_of segment d.segment d.head sb r.0 in
    let a = auths_in auths d.auths r.1 in
    record { whole = w.0; is = w.1; parts = (whole_read segment (d.segment, d.head) sb r.0).2; short = a.0; list = a.1; fits = (auths_are auths d.auths ab a.1).fits }

pub too_long : {A : Type 0} (segment auths : List ℕ) (d : Judged) → 2 ^ 24 < length auths → judged_of segment auths ≡ Some d → A
too_long segment auths d over e = let a = auths_in auths d.auths (read_is segment auths d e).1 in let le = a.0 in absurd (omega arith)

pub no_list : {A : Type 0} (segment auths : List ℕ) (d : Judged) → None ≡ auths_at auths → judged_of segment auths ≡ Some d → A
no_list segment auths d none e = let a = auths_in auths d.auths (read_is segment auths d e).1 in absurd (apart d.auths (none ∙ a.1))
  where
    apart : (xs : List AuthData) → None ≡ Some xs → ⊥
    apart xs h = cc

pub no_segment : {A : Type 0} (segment auths : List ℕ) (d : Judged) → IsBytes segment → None ≡ segment_of segment → judged_of segment auths ≡ Some d → A
no_segment segment auths d sb none e = absurd (apart d.segment (none ∙ (whole_read segment (d.segment, d.head) sb (read_is segment auths d e).0).2))
  where
    apart : (s : SegmentData) → None ≡ Some s → ⊥
    apart s h = cc

pub shown_is : (key segment auths : List ℕ) (s : SegmentData) (xs : List AuthData) (d : Judged) (r : Option EvidData) (v : Verdict) → IsBytes segment → judged_of segment auths ≡ Some d → Some s ≡ segment_of segment → Some xs ≡ auths_at auths
    → ((h : HeadData) → numbered s.front.start (entry_frames s) ≡ true → All FitsFrame (entry_frames s) → s.frames ≡ list_bytes frame_bytes (entry_frames s) → segment ≡ segment_bytes s → r ≡ evidence key (record { segment = s; head = h; auths = xs }) v) → r ≡ evidence key d v
shown_is key segment auths s xs d r v sb e ps px f =
    let q = read_is segment auths d e in
    let w = whole_of segment d.segment d.head sb q.0 in
    let ss : s ≡ d.segment = same_s s d.segment (ps ∙ (whole_read segment (d.segment, d.head) sb q.0).2) in
    let sx : xs ≡ d.auths = same_x xs d.auths (px ∙ (auths_in auths d.auths q.1).1) in
    let all : All FitsFrame (entry_frames s) = subst (λ (z : SegmentData). All FitsFrame (entry_frames z)) (sym ss) w.0.all in
    let spelled : s.frames ≡ list_bytes frame_bytes (entry_frames s) = subst (λ (z : SegmentData). z.frames ≡ list_bytes frame_bytes (entry_frames z)) (sym ss) w.0.spelled in
    let numbers : numbered s.front.start (entry_frames s) ≡ true = subst (λ (z : SegmentData). numbered z.front.start (entry_frames z) ≡ true) (sym ss) (opens_numbered d.segment.front.start d.segment.front.before (entry_frames d.segment) w.0.opens_well) in
    f d.head numbers all spelled (w.1 ∙ ap segment_bytes (sym ss)) ∙ made s xs ss sx
  where
    same_s : (x y : SegmentData) → Some x ≡ Some y → x ≡ y
    same_s x y h = cc

    same_x : (x y : List AuthData) → Some x ≡ Some y → x ≡ y
    same_x x y h = cc

    made : (s : SegmentData) (xs : List AuthData) → s ≡ d.segment → xs ≡ d.auths → evidence key (record { segment = s; head = d.head; auths = xs }) v ≡ evidence key d v
    made s xs a b = rw (a, b) refl
