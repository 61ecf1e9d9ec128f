-- What is put behind what was put stands with it.
use Rattle.std.proofs.Common.{◌≡◌, ℕ, ◌+◌, ◌-◌, ◌^◌, ◌≤◌, Bool, List, ◌++◌, length, take, drop, refl, sym, ap, ap₂, ◌∙◌, append_assoc, arith}
use Rattle.std.proofs.lemmas.List.{take_at, drop_at, drop-drop, length-append, length-take-le}
use Rattle.std.proofs.lemmas.Bool.{eq-eqb, le-leb}
use Rattle.avm_model.specs.Memory.{put_at, marked_range}
use Rattle.rv32_loader.specs.Marking.{mark_segment}
use Rattle.avm_model.specs.Image.{segment_bytes, put_segment}
use Rattle.avm_model.specs.declared.loading.ProgramHeader.{ProgramHeader}

-- the front of what was put is the front of the old and the new bytes
front_of : (ram x rest : List ℕ) (at n : ℕ) → at ≤ length ram → n ≡ at + length x → take n (take at ram ++ x ++ rest) ≡ take at ram ++ x
front_of ram x rest at n fits is =
    take_at (take at ram ++ x) rest n (length-append (take at ram) x ∙ omega (arith, is, length-take-le at ram fits))

behind_of : (ram x rest : List ℕ) (at n k : ℕ) → at ≤ length ram → n ≡ at + length x → drop (n + k) (take at ram ++ x ++ rest) ≡ drop k rest
behind_of ram x rest at n k fits is =
    sym (drop-drop k n (take at ram ++ x ++ rest))
    ∙ ap (drop k) (drop_at (take at ram ++ x) rest n (length-append (take at ram) x ∙ omega (arith, is, length-take-le at ram fits)))

pub put_both : (ram x y : List ℕ) (at n : ℕ) → at ≤ length ram → n ≡ at + length x → put_at (put_at ram at x) n y ≡ put_at ram at (x ++ y)
put_both ram x y at n fits is =
    let rest = drop (at + length x) ram in
    let front = front_of ram x rest at n fits is in
    let behind = behind_of ram x rest at n (length y) fits is ∙ drop-drop (length y) (at + length x) ram in
    let same : at + length x + length y ≡ at + length (x ++ y) = omega (arith, length-append x y) in
    ap₂ (λ a b. a ++ y ++ b) front (behind ∙ ap (λ k. drop k ram) same) ∙ ap (λ t. t ++ drop (at + length (x ++ y)) ram) (append_assoc (take at ram) x y)

pub put_loaded : (file ram : List ℕ) (h : ProgramHeader) → h.kind ≡ 1 → 1 ≤ h.memory_size → put_at ram (h.address - 2 ^ 31) (segment_bytes file h) ≡ put_segment file ram h
put_loaded file ram h load some = rw (eq-eqb h.kind 1 load, le-leb 1 h.memory_size some) refl

pub mark_loaded : (dirty : List Bool) (h : ProgramHeader) → h.kind ≡ 1 → 1 ≤ h.memory_size → marked_range (marked_range dirty (h.address - 2 ^ 31) h.file_size) (h.address - 2 ^ 31 + h.file_size) (h.memory_size - h.file_size) ≡ mark_segment dirty h
mark_loaded dirty h load some = rw (eq-eqb h.kind 1 load, le-leb 1 h.memory_size some) refl
