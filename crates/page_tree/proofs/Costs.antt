-- How many hashes a renewal makes.
use Rattle.std.proofs.Common.{◌≡◌, ℕ, zero, suc, ◌+◌, ◌-◌, ◌*◌, ◌^◌, ◌<◌, ◌≤◌, ◌||◌, Bool, true, false, ltb, List, length, drop, get_or, refl, sym, ap, subst, ◌∙◌, arith, lt-ltb}
use Rattle.std.proofs.lemmas.Bool.{le-ltb}
use Rattle.std.proofs.lemmas.List.{drop_more, drop_all}
use Rattle.std.proofs.lemmas.Nat.{pow_pos}
use Rattle.std.proofs.Math.Nat.{pow-succ', mul-le-mul_left, suc-mul, mul_comm}
use Rattle.avm_model.specs.Memory.{IsRam}
use Rattle.avm_model.specs.Pages.{depth_of}
use Rattle.avm_model.proofs.PageDepth.{power_is}
use Rattle.page_tree.specs.Nodes.{marked, dirty_pages, AreMarks}
use Rattle.avm_model.specs.Basics.{flag}

marked_parts : (marks : List Bool) (i a b c : ℕ) → c ≡ a + b → marked marks i c ≡ marked marks i a + marked marks (i + a) b
marked_parts marks i zero b c e =
    let s : c ≡ b = omega arith in
    let z : i + 0 ≡ i = omega arith in
    rw (s, z) (omega arith)
marked_parts marks i (suc a) b zero e = absurd (omega arith)
marked_parts marks i (suc a) b (suc c) e =
    let ih = marked_parts marks (i + 1) a b c (omega arith) in
    let z : i + suc a ≡ i + 1 + a = omega arith in
    rw (z) (omega (arith, ih))

or_flag : (a b c : Bool) → a ≡ (b || c) → flag a ≤ flag b + flag c
or_flag a true c e = rw e (omega arith)
or_flag a false true e = rw e (omega arith)
or_flag a false false e = rw e (omega arith)

-- no more marks stand on a level than on the one below it
level : (dirty marks : List Bool) (i k : ℕ) → AreMarks dirty marks → 0 < i → i + k ≤ length dirty → marked marks i k ≤ marked marks (2 * i) (2 * k)
level dirty marks i zero m pos low = omega arith
level dirty marks i (suc k) m pos low =
    let two : 2 * suc k ≡ suc (suc (2 * k)) = omega arith in
    let place : 2 * (i + 1) ≡ 2 * i + 1 + 1 = omega arith in
    let ih : marked marks (i + 1) k ≤ marked marks (2 * (i + 1)) (2 * k) = level dirty marks (i + 1) k m (omega arith) (omega arith) in
    let ih2 : marked marks (i + 1) k ≤ marked marks (2 * i + 1 + 1) (2 * k) = subst (λ (q : ℕ). marked marks (i + 1) k ≤ marked marks q (2 * k)) place ih in
    let here : get_or marks i false ≡ (get_or marks (2 * i) false || get_or marks (2 * i + 1) false) = m i pos (omega arith) ∙ rw (lt-ltb i (length dirty) (omega arith)) refl in
    let one = or_flag (get_or marks i false) (get_or marks (2 * i) false) (get_or marks (2 * i + 1) false) here in
    rw two (omega (arith, ih2, one))

levels : (dirty marks : List Bool) (k : ℕ) → AreMarks dirty marks → 2 ^ k ≤ length dirty → marked marks 1 (2 ^ suc k - 1) ≤ (k + 1) * marked marks (2 ^ k) (2 ^ k)
levels dirty marks zero m low = omega arith
levels dirty marks (suc k) m low =
    let p : 2 ^ suc k ≡ 2 * 2 ^ k = pow-succ' 2 k in
    let q : 2 ^ suc (suc k) ≡ 2 * 2 ^ suc k = pow-succ' 2 (suc k) in
    let pow : 0 < 2 ^ k = pow_pos k in
    let ih : marked marks 1 (2 ^ suc k - 1) ≤ (k + 1) * marked marks (2 ^ k) (2 ^ k) = levels dirty marks k m (omega arith) in
    let up : marked marks (2 ^ k) (2 ^ k) ≤ marked marks (2 * 2 ^ k) (2 * 2 ^ k) = level dirty marks (2 ^ k) (2 ^ k) m pow (omega arith) in
    let up2 : marked marks (2 ^ k) (2 ^ k) ≤ marked marks (2 ^ suc k) (2 ^ suc k) = subst (λ (w : ℕ). marked marks (2 ^ k) (2 ^ k) ≤ marked marks w w) (sym p) up in
    let more : (k + 1) * marked marks (2 ^ k) (2 ^ k) ≤ (k + 1) * marked marks (2 ^ suc k) (2 ^ suc k) = mul-le-mul_left (k + 1) up2 in
    let whole : marked marks 1 (2 ^ suc (suc k) - 1) ≡ marked marks 1 (2 ^ suc k - 1) + marked marks (1 + (2 ^ suc k - 1)) (2 ^ suc k) = marked_parts marks 1 (2 ^ suc k - 1) (2 ^ suc k) _ (omega arith) in
    let place : 1 + (2 ^ suc k - 1) ≡ 2 ^ suc k = omega arith in
    let whole2 : marked marks 1 (2 ^ suc (suc k) - 1) ≡ marked marks 1 (2 ^ suc k - 1) + marked marks (2 ^ suc k) (2 ^ suc k) = whole ∙ ap (λ (w : ℕ). marked marks 1 (2 ^ suc k - 1) + marked marks w (2 ^ suc k)) place in
    let times : suc (k + 1) * marked marks (2 ^ suc k) (2 ^ suc k) ≡ (k + 1) * marked marks (2 ^ suc k) (2 ^ suc k) + marked marks (2 ^ suc k) (2 ^ suc k) = suc-mul (k + 1) (marked marks (2 ^ suc k) (2 ^ suc k)) in
    let name : suc k + 1 ≡ suc (k + 1) = omega arith in
    rw name (omega (arith, ih, more, whole2, times))

leaves : (dirty marks : List Bool) (i k : ℕ) → AreMarks dirty marks → 0 < length dirty → i + k ≡ length dirty → marked marks (length dirty + i) k ≡ dirty_pages (drop i dirty)
leaves dirty marks i zero m some e = rw (drop_all i dirty (omega arith)) refl
leaves dirty marks i (suc k) m some e =
    let off : ltb (length dirty + i) (length dirty) ≡ false = le-ltb _ _ (omega arith) in
    let f : length dirty + i - length dirty ≡ i = omega arith in
    let here : get_or marks (length dirty + i) false ≡ get_or dirty i false = m (length dirty + i) (omega arith) (omega arith) ∙ rw (off, f) refl in
    let ih : marked marks (length dirty + (i + 1)) k ≡ dirty_pages (drop (i + 1) dirty) = leaves dirty marks (i + 1) k m some (omega arith) in
    let z : length dirty + i + 1 ≡ length dirty + (i + 1) = omega arith in
    rw (drop_more dirty i false (omega arith), here, z, ih) refl

bound : (dirty marks : List Bool) (d : ℕ) → AreMarks dirty marks → length dirty ≡ 2 ^ d → marked marks 1 (2 * length dirty - 1) ≤ dirty_pages dirty * (d + 1)
bound dirty marks d m e =
    let p : 2 ^ suc d ≡ 2 * 2 ^ d = pow-succ' 2 d in
    let pow : 0 < 2 ^ d = pow_pos d in
    let a : marked marks 1 (2 * length dirty - 1) ≡ marked marks 1 (2 ^ suc d - 1) = ap (λ (w : ℕ). marked marks 1 (w - 1)) (omega arith) in
    let b : marked marks 1 (2 ^ suc d - 1) ≤ (d + 1) * marked marks (2 ^ d) (2 ^ d) = levels dirty marks d m (omega arith) in
    let z : length dirty + 0 ≡ 2 ^ d = omega arith in
    let c : marked marks (length dirty + 0) (length dirty) ≡ dirty_pages dirty = leaves dirty marks 0 (length dirty) m (omega arith) (omega arith) in
    let c2 : marked marks (2 ^ d) (2 ^ d) ≡ dirty_pages dirty = rw (z, e) at c in
    let b2 : marked marks 1 (2 ^ suc d - 1) ≤ (d + 1) * dirty_pages dirty = subst (λ (w : ℕ). marked marks 1 (2 ^ suc d - 1) ≤ (d + 1) * w) c2 b in
    let swap : (d + 1) * dirty_pages dirty ≡ dirty_pages dirty * (d + 1) = mul_comm (d + 1) (dirty_pages dirty) in
    omega (arith, a, b2, swap)

pub cost : (bytes : List ℕ) (dirty marks : List Bool) → IsRam bytes dirty → AreMarks dirty marks → marked marks 1 (2 * length dirty - 1) ≤ dirty_pages dirty * (depth_of (length dirty) + 1)
cost bytes dirty marks r m = bound dirty marks (depth_of (length dirty)) m (power_is (length dirty) r.power)
