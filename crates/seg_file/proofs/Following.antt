-- One entry more, and the end.
use Rattle.std.proofs.Common.{◌≡◌, ℕ, ◌+◌, ◌<◌, ◌≤◌, ◌^◌, true, false, ◌&&◌, nat_eq, nat_lt, nat_le, leb, length, List, [], ◌∷◌, Some, None, refl, ap, arith, eq-eqb, le-leb, ne_eqb}
use Rattle.std.proofs.Math.Nat.{add_assoc}
use Rattle.std.proofs.lemmas.Bool.{ltb-true}
use Rattle.std.specs.Int.{w32, w64}
use Rattle.avm_num.specs.Bytes.{number_at, byte_at}
use Rattle.avm_num.specs.Lists.{sized_at}
use Rattle.avm_num.proofs.Numbers.{bind_some, kept_some, and_true}
use Rattle.avm_model.specs.Parts.{ordinal_at}
use Rattle.avm_model.specs.Frame.{FrameData, frame_at, frames_of}
use Rattle.avm_num.specs.Walk.{behind_of, is_nil}
use Rattle.log_entry.proofs.FrameLaws.{frames_behind_some, frames_behind_none, frames_none}
use Rattle.avm_model.specs.Basics.{flag}
use Rattle.avm_model.specs.Entries.{begins, follow, snaps, are_entries}

-- a frame's number is below 2^62
pub frame_seq : (bytes : List ℕ) (p : FrameData × List ℕ) → frame_at bytes ≡ Some p → p.0.seq < 2 ^ 62
unfolding frame_at ordinal_at
frame_seq bytes p e =
    let a = bind_some (ordinal_at bytes) _ p e in
    let b = bind_some (number_at w64 bytes) _ a.0 a.1 in
    let k = kept_some _ b.0 a.0 b.2 in
    let low : nat_lt b.0.0 (2 ^ 62) ≡ true = (and_true (nat_le 1 b.0.0) (nat_lt b.0.0 (2 ^ 62)) k.0).1 in
    let c = bind_some (byte_at a.0.1) _ p a.2 in
    let d = bind_some (sized_at (number_at w32) c.0.1) _ p c.2 in
    let q = kept_some _ _ p d.2 in
    let same : a.0.0 ≡ p.0.seq = ap (λ (r : FrameData × List ℕ). r.0.seq) q.1 in
    let under : b.0.0 < 2 ^ 62 = ltb-true b.0.0 (2 ^ 62) low in
    let is : b.0.0 ≡ a.0.0 = ap (λ (r : ℕ × List ℕ). r.0) k.1 in
    omega (arith, same, is, under)

pub goes_on : (n k : ℕ) (f : FrameData) (old new : List ℕ) → frames_of old ≡ f ∷ frames_of new → frame_at old ≡ Some (f, new) → f.seq ≡ n → nat_eq f.kind 1 ≡ false
    → (follow (n + 1) (k + flag (nat_eq f.kind 2)) (frames_of new) && is_nil (behind_of frame_at new)) ≡ (follow n k (frames_of old) && is_nil (behind_of frame_at old))
goes_on n k f old new a b e ne = rw (a, frames_behind_some old (f, new) b, eq-eqb f.seq n e, ne, add_assoc k (flag (nat_eq f.kind 2)) (snaps (frames_of new))) refl

pub ends : (n k : ℕ) (old : List ℕ) → frame_at old ≡ None → k ≤ 64 → (follow n k (frames_of old) && is_nil (behind_of frame_at old)) ≡ is_nil old
ends n k old e few =
    let low : leb (k + 0) 64 ≡ true = le-leb _ _ (omega arith) in
    rw (frames_none old e, frames_behind_none old e, low) refl

pub opened : (start : ℕ) (before : List ℕ) (f : FrameData) (old new : List ℕ) → frames_of old ≡ f ∷ frames_of new → frame_at old ≡ Some (f, new) → f.seq ≡ start → begins start before f.kind ≡ true
    → are_entries start before old ≡ (follow (start + 1) (flag (nat_eq f.kind 2)) (frames_of new) && is_nil (behind_of frame_at new))
unfolding are_entries
opened start before f old new a b e is = rw (a, frames_behind_some old (f, new) b, eq-eqb f.seq start e, is) refl

pub nil_is : (bytes : List ℕ) → nat_eq (length bytes) 0 ≡ is_nil bytes
nil_is [] = refl
nil_is (b ∷ bytes) = ne_eqb (length (b ∷ bytes)) 0 (λ (e : length (b ∷ bytes) ≡ 0). omega (arith, e))
