-- The evidence of an audit is within the grammar and the limit.
use Rattle.std.proofs.Common.{◌≡◌, ℕ, ◌+◌, ◌*◌, ◌^◌, ◌≤◌, List, length, slice_get, Some, ap, arith, All}
use Rattle.std.proofs.lemmas.List.{length-append}
use Rattle.std.proofs.lemmas.List.Elements.{recursion_from_All}
use Rattle.avm_num.specs.Lists.{list_bytes}
use Rattle.avm_num.proofs.Lengths.{be32, be64, one1}
use Rattle.avm_model.specs.Auth.{AuthData, auth_bytes, FitsAuth}
use Rattle.avm_model.specs.Frame.{frame_bytes}
use Rattle.avm_model.specs.Head.{HeadData}
use Rattle.avm_model.specs.Segment.{SegmentData, segment_bytes}
use Rattle.avm_model.specs.Evidence.{EvidData, double, fork, replay, longest_evidence, key_of, body_bytes, evidence_bytes, FitsEvidence}
use Rattle.avm_model.specs.Audit.{entry_frames}
use Rattle.avm_model.specs.Holds.{bytes_upto, cut}
use Rattle.audit_stream.proofs.RowLaws.{all_get}
use Rattle.auditor.proofs.Cuts.{spelled_upto}
use Rattle.auditor.proofs.Segments.{Whole, cut_limit}

pub auth_length : (a : AuthData) → FitsAuth a → length (auth_bytes a) ≤ 9368
unfolding auth_bytes
auth_length a f =
    let h = f.hash in
    let s = f.sig in
    simp (length-append, be32, be64) (omega (arith, h, s))

pub auth_fits : (auths : List AuthData) (i : ℕ) (a : AuthData) → All FitsAuth auths → slice_get auths i ≡ Some a → FitsAuth a
auth_fits auths i a all at = all_get FitsAuth auths i a (recursion_from_All FitsAuth auths all) at

whole_short : (e : EvidData) → length (key_of e) ≡ 56 → length (body_bytes e) ≤ 2 ^ 26 + 2 * 9368 + 48 → length (evidence_bytes e) ≤ longest_evidence
unfolding evidence_bytes
whole_short e key body = simp (length-append, be32, one1) (omega (arith, key, body))

pub double_fits : (key : List ℕ) (a b : AuthData) → length key ≡ 56 → FitsAuth a → FitsAuth b → FitsEvidence (double key a b)
unfolding body_bytes
double_fits key a b len fa fb = record { key = len; body = (fa, fb); whole = whole_short (double key a b) len (simp length-append (omega (arith, auth_length a fa, auth_length b fb))) }

frames_short : (s : SegmentData) (h : HeadData) (m : ℕ) → Whole s h → length (bytes_upto m s) ≤ 2 ^ 26
unfolding segment_bytes
frames_short s h m w =
    let less = spelled_upto m (entry_frames s) in
    let same : length s.frames ≡ length (list_bytes frame_bytes (entry_frames s)) = ap length w.spelled in
    let all = simp length-append at w.fits.whole in
    omega (arith, less, same, all)

pub fork_fits : (key : List ℕ) (s : SegmentData) (h : HeadData) (m : ℕ) (a b : AuthData) → length key ≡ 56 → Whole s h → FitsAuth a → FitsAuth b → FitsEvidence (fork key s.front.start s.front.before (bytes_upto m s) a b)
unfolding body_bytes
fork_fits key s h m a b len w fa fb =
    let short = frames_short s h m w in
    let before = w.fits.front.before in
    record {
      key = len;
      body = (w.fits.front.start, before, omega (arith, short), fa, fb);
      whole = whole_short (fork key s.front.start s.front.before (bytes_upto m s) a b) len (simp (length-append, be32, be64) (omega (arith, short, before, auth_length a fa, auth_length b fb)));
    }

pub replay_fits : (key : List ℕ) (s : SegmentData) (h : HeadData) (m : ℕ) (a : AuthData) → length key ≡ 56 → Whole s h → FitsAuth a → FitsEvidence (replay key (segment_bytes (cut m s)) a)
unfolding body_bytes
replay_fits key s h m a len w fa =
    let short = cut_limit m s h w in
    record {
      key = len;
      body = (omega (arith, short), fa);
      whole = whole_short (replay key (segment_bytes (cut m s)) a) len (simp (length-append, be32) (omega (arith, short, auth_length a fa)));
    }
