-- What a write that is cut leaves of an image.
use Rattle.std.proofs.Common.{◌≡◌, ℕ, suc, inl, inr, ◌+◌, ◌-◌, ◌≤◌, ◌<◌, refl, sym, ◌∙◌, ap, List, [], ◌∷◌, ◌++◌, length, get_or, take, drop, arith, append_assoc, length-append, take-append-drop}
use Rattle.std.proofs.lemmas.List.{take_at, drop_at, drop_more, length-take-le, length-drop, get_or-take, get_or-drop, get_or_append_left, get_or-append_right}
use Rattle.std.proofs.lemmas.Bool.{cases_lt}
use Rattle.avm_outside.specs.Disk.{Torn, overwritten}
use Rattle.avm_outside.proofs.Tears.{front_stays, back_stays}
use Rattle.avm_outside.specs.Moments.{Begins, IsShut, Reaches}

pub overwritten_torn : (at : ℕ) (bytes was : List ℕ) → at ≤ length was → Torn at (length bytes) was (overwritten at bytes was)
overwritten_torn at bytes was within = record {
  others = λ p lt out. elim (cases_lt p at) [
    | inl low ↦ (let a : p < length (take at was) = omega (arith, low, length-take-le at was within) in
        let b : p < length (take at was ++ bytes) = omega (arith, a, length-append (take at was) bytes) in
        get_or_append_left (take at was ++ bytes) (drop (at + length bytes) was) 0 p b ∙ get_or_append_left (take at was) bytes 0 p a ∙ get_or-take at was p 0 low)
    | inr high ↦ (let far = out high in
        let n : length (take at was ++ bytes) ≡ at + length bytes = omega (arith, length-take-le at was within, length-append (take at was) bytes) in
        get_or-append_right (take at was ++ bytes) (drop (at + length bytes) was) (at + length bytes) p 0 n far ∙ get_or-drop (at + length bytes) was (p - (at + length bytes)) 0 ∙ ap (λ k. get_or was k 0) (omega (arith, far)))
  ];
  no_shorter = omega (arith, size);
  no_longer = omega (arith, size);
}
  where
    size : length (overwritten at bytes was) ≡ at + length bytes + (length was - (at + length bytes))
    size = omega (arith, length-take-le at was within, length-append (take at was) bytes, length-append (take at was ++ bytes) (drop (at + length bytes) was), length-drop (at + length bytes) was)

-- what is written behind a front leaves it
pub begins_torn : (front c d : List ℕ) (at n : ℕ) → Begins front d → length front ≤ at → Torn at n d c → Begins front c
begins_torn front c d at n begins le torn =
    let long : length front ≤ length d = omega (arith, ap length begins.1, length-append front begins.0) in
    let same : take (length front) c ≡ front = front_stays at n d c torn (length front) le long ∙ ap (λ (l : List ℕ). take (length front) l) begins.1 ∙ take_at front begins.0 (length front) refl in
    (drop (length front) c, sym (take-append-drop (length front) c) ∙ ap (λ (l : List ℕ). l ++ drop (length front) c) same)

-- and the byte behind it stays one
pub reaches_torn : (front c d : List ℕ) (at n : ℕ) → Reaches front d → length front ≤ at → Torn at n d c → Reaches front c
reaches_torn front c d at n reaches le torn =
    let b = begins_torn front c d at n (reaches.0 ∷ reaches.1, reaches.2) le torn in
    let old : length d ≡ length (front ++ reaches.0 ∷ reaches.1) = ap length reaches.2 in
    let new : length c ≡ length (front ++ b.0) = ap length b.1 in
    let longer = torn.no_shorter in
    let some : 1 ≤ length b.0 = omega (arith, old, new, longer, length-append front (reaches.0 ∷ reaches.1), length-append front b.0) in
    go b.0 b.1 some
  where
    go : (rest : List ℕ) → c ≡ front ++ rest → 1 ≤ length rest → Reaches front c
    go [] e some = absurd (omega (arith, some))
    go (x ∷ rest) e some = (x, rest, e)

-- and what is written behind the gate leaves it shut
pub shut_torn : (front c d : List ℕ) (at n : ℕ) → IsShut front d → length front < at → Torn at n d c → IsShut front c
shut_torn front c d at n shut lt torn =
    let more = front ++ shut.0 ∷ [] in
    let size : length more ≡ length front + 1 = length-append front (shut.0 ∷ []) in
    let begins : Begins more d = (shut.1, shut.2 ∙ sym (append_assoc front (shut.0 ∷ []) shut.1)) in
    let b = begins_torn more c d at n begins (omega (arith, size, lt)) torn in
    (shut.0, b.0, b.1 ∙ append_assoc front (shut.0 ∷ []) b.0, shut.3)

-- what is written behind the gate is read there
pub written_behind : (front was bytes : List ℕ) (gate : ℕ) (rest : List ℕ) → was ≡ front ++ gate ∷ rest → (left : List ℕ) × (overwritten (length front + 1) bytes was ≡ front ++ gate ∷ (bytes ++ left))
written_behind front was bytes gate rest is =
    let more = front ++ gate ∷ [] in
    let size : length more ≡ length front + 1 = length-append front (gate ∷ []) in
    let parts : was ≡ more ++ rest = is ∙ sym (append_assoc front (gate ∷ []) rest) in
    let first : take (length front + 1) was ≡ more = ap (λ (l : List ℕ). take (length front + 1) l) parts ∙ take_at more rest (length front + 1) size in
    let left = drop (length front + 1 + length bytes) was in
    (left, ap (λ (l : List ℕ). l ++ bytes ++ left) first ∙ append_assoc more bytes left ∙ append_assoc front (gate ∷ []) (bytes ++ left))

-- a write of one byte at the gate leaves what stands behind it
pub gate_torn : (front c d : List ℕ) (gate : ℕ) (rest : List ℕ) → d ≡ front ++ gate ∷ rest → Torn (length front) 1 d c → (now : ℕ) × (c ≡ front ++ now ∷ rest)
gate_torn front c d gate rest is torn =
    let long : length d ≡ length front + suc (length rest) = ap length is ∙ length-append front (gate ∷ rest) in
    let b = begins_torn front c d (length front) 1 (gate ∷ rest, is) (omega arith) torn in
    let now = get_or c (length front) 0 in
    let size : length c ≡ length d = omega (arith, torn.no_shorter, torn.no_longer, long) in
    let behind : drop (length front + 1) d ≡ rest = ap (λ (l : List ℕ). drop (length front + 1) l) (is ∙ sym (append_assoc front (gate ∷ []) rest)) ∙ drop_at (front ++ gate ∷ []) rest (length front + 1) (length-append front (gate ∷ [])) in
    let same : drop (length front + 1) c ≡ rest = back_stays _ _ _ _ torn (length front + 1) (omega arith) (omega (arith, long)) ∙ behind in
    let tail : drop (length front) c ≡ now ∷ rest = drop_more c (length front) 0 (omega (arith, size, long)) ∙ ap (λ (l : List ℕ). now ∷ l) same in
    let first : take (length front) c ≡ front = front_stays _ _ _ _ torn (length front) (omega arith) (omega (arith, long)) ∙ ap (λ (l : List ℕ). take (length front) l) is ∙ take_at front (gate ∷ rest) (length front) refl in
    (now, sym (take-append-drop (length front) c) ∙ ap (λ (l : List ℕ). l ++ drop (length front) c) first ∙ ap (λ (l : List ℕ). front ++ l) tail)

-- and opens it
pub gate_opened : (front was : List ℕ) (gate b : ℕ) (rest : List ℕ) → was ≡ front ++ gate ∷ rest → overwritten (length front) (b ∷ []) was ≡ front ++ b ∷ rest
gate_opened front was gate b rest is =
    let parts : was ≡ (front ++ gate ∷ []) ++ rest = is ∙ sym (append_assoc front (gate ∷ []) rest) in
    let first : take (length front) was ≡ front = ap (λ (l : List ℕ). take (length front) l) is ∙ take_at front (gate ∷ rest) (length front) refl in
    let behind : drop (length front + 1) was ≡ rest = ap (λ (l : List ℕ). drop (length front + 1) l) parts ∙ drop_at (front ++ gate ∷ []) rest (length front + 1) (length-append front (gate ∷ [])) in
    ap (λ (l : List ℕ). l ++ (b ∷ []) ++ drop (length front + 1) was) first ∙ ap (λ (l : List ℕ). front ++ (b ∷ []) ++ l) behind ∙ append_assoc front (b ∷ []) rest
