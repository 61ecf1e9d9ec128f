-- One more program header.
use Rattle.std.proofs.Common.{◌≡◌, ℕ, suc, ◌+◌, ◌-◌, ◌*◌, ◌<◌, Bool, true, false, List, ◌∷◌, Some, None, refl, arith}
use Rattle.avm_model.specs.Basics.{first_at}
use Rattle.avm_model.specs.Image.{header_at, headers_at, put_segment, put_segments}
use Rattle.rv32_loader.specs.Marking.{mark_segment, mark_segments}
use Rattle.avm_model.specs.declared.loading.ProgramHeader.{ProgramHeader}

pub headers_step : (b : List ℕ) (at count i : ℕ) → i < count → headers_at b (at + 32 * i) (count - i) ≡ header_at b (at + 32 * i) ∷ headers_at b (at + 32 * (i + 1)) (count - (i + 1))
headers_step b at count i lt =
    let s : count - i ≡ suc (count - (i + 1)) = omega arith in
    let p : at + 32 * (i + 1) ≡ at + 32 * i + 32 = omega arith in
    rw (s, p) refl

-- a header that does not pass
pub headers_pass : (p : ProgramHeader → Bool) (b : List ℕ) (at count i : ℕ) → i < count → p (header_at b (at + 32 * i)) ≡ false
    → first_at p (i + 1) (headers_at b (at + 32 * (i + 1)) (count - (i + 1))) ≡ first_at p i (headers_at b (at + 32 * i) (count - i))
headers_pass p b at count i lt e = rw (headers_step b at count i lt, e) refl

-- where none passes, this one does not
pub headers_none : (p : ProgramHeader → Bool) (b : List ℕ) (at count i : ℕ) → i < count → first_at p i (headers_at b (at + 32 * i) (count - i)) ≡ None
    → (p (header_at b (at + 32 * i)) ≡ false) × (first_at p (i + 1) (headers_at b (at + 32 * (i + 1)) (count - (i + 1))) ≡ None)
headers_none p b at count i lt e = go (p (header_at b (at + 32 * i))) refl (rw (headers_step b at count i lt) at e)
  where
    go : (x : Bool) → p (header_at b (at + 32 * i)) ≡ x → first_at p i (header_at b (at + 32 * i) ∷ headers_at b (at + 32 * (i + 1)) (count - (i + 1))) ≡ None
        → (p (header_at b (at + 32 * i)) ≡ false) × (first_at p (i + 1) (headers_at b (at + 32 * (i + 1)) (count - (i + 1))) ≡ None)
    go true q h = absurd (let w = rw q at h in cc)
    go false q h = (q, rw q at h)

pub put_step : (b ram new : List ℕ) (at count i : ℕ) → i < count → new ≡ put_segment b ram (header_at b (at + 32 * i))
    → put_segments b new (headers_at b (at + 32 * (i + 1)) (count - (i + 1))) ≡ put_segments b ram (headers_at b (at + 32 * i) (count - i))
put_step b ram new at count i lt e = rw (headers_step b at count i lt, e) refl

pub mark_step : (b : List ℕ) (dirty new : List Bool) (at count i : ℕ) → i < count → new ≡ mark_segment dirty (header_at b (at + 32 * i))
    → mark_segments new (headers_at b (at + 32 * (i + 1)) (count - (i + 1))) ≡ mark_segments dirty (headers_at b (at + 32 * i) (count - i))
mark_step b dirty new at count i lt e = rw (headers_step b at count i lt, e) refl

-- a header that passes
pub headers_hit : (p : ProgramHeader → Bool) (b : List ℕ) (at count i : ℕ) → i < count → p (header_at b (at + 32 * i)) ≡ true → Some i ≡ first_at p i (headers_at b (at + 32 * i) (count - i))
headers_hit p b at count i lt e = rw (headers_step b at count i lt, e) refl
