-- A file that is read piece by piece.
use Rattle.std.proofs.Common.{◌≡◌, ℕ, zero, suc, ◌+◌, ◌≤◌, ◌<◌, List, [], ◌++◌, length, take, drop, Option, None, Some, IfSome, refl, sym, ◌∙◌, ap, subst, arith, length-append}
use Rattle.std.proofs.lemmas.List.{length-take-le, take-append-le, take-take, take_all}
use Rattle.std.proofs.Math.Seq.{take-add}
use Rattle.avm_outside.specs.Files.{IsCopied, Reads}
use Rattle.command_parts.specs.Reading.{IsFront, IsReadOf}

-- the piece that was read goes on where the front ends
pub front_more : (all bytes buf new : List ℕ) (n m : ℕ) → bytes ≡ take (length bytes) all → IsCopied all (length bytes) n buf new → m ≤ n → bytes ++ take m new ≡ take (length (bytes ++ take m new)) all
front_more all bytes buf new n m front piece le =
    let rest = drop (length bytes) all in
    let there : n ≤ length rest = piece.there in
    let long : m ≤ length (take n rest) = omega (arith, length-take-le n rest there) in
    let part : take m new ≡ take m rest =
    ap (λ (l : List ℕ). take m l) piece.copied ∙ take-append-le m (take n rest) (drop n buf) long ∙ take-take m n rest le in
    let size : length (bytes ++ take m new) ≡ length bytes + m =
    omega (arith, length-append bytes (take m new), ap length part, length-take-le m rest (omega arith)) in
    ap (λ (l : List ℕ). bytes ++ l) part
    ∙ ap (λ (l : List ℕ). l ++ take m rest) front
    ∙ sym (take-add (length bytes) m all)
    ∙ sym (ap (λ (k : ℕ). take k all) size)

pub front_step : (before now : Option (Option (List ℕ))) (bytes buf new : List ℕ) (n m : ℕ) → now ≡ before → IfSome before (λ was. IsFront was bytes) → IfSome now (λ was. Reads was (length bytes) buf new (Some n)) → m ≤ n → IfSome before (λ was. IsFront was (bytes ++ take m new))
front_step None now bytes buf new n m same front piece le = tt
front_step (Some None) now bytes buf new n m same front piece le =
    let none : Some n ≡ None = subst (λ (f : Option (Option (List ℕ))). IfSome f (λ was. Reads was (length bytes) buf new (Some n))) same piece in cc
front_step (Some (Some all)) now bytes buf new n m same front piece le =
    front_more all bytes buf new n m front (subst (λ (f : Option (Option (List ℕ))). IfSome f (λ was. Reads was (length bytes) buf new (Some n))) same piece) le

-- the name isn't there
pub read_none : (limit : ℕ) (before now : Option (Option (List ℕ))) (buf new : List ℕ) (at : ℕ) → now ≡ before → IfSome now (λ was. Reads was at buf new None) → IsReadOf limit before None
read_none limit None now buf new at same piece = (None, tt, refl)
read_none limit (Some None) now buf new at same piece = (None, refl, refl)
read_none limit (Some (Some all)) now buf new at same piece = absurd (subst (λ (f : Option (Option (List ℕ))). IfSome f (λ was. Reads was at buf new None)) same piece)

-- the file ends where the front does
pub read_end : (limit : ℕ) (before now : Option (Option (List ℕ))) (bytes buf new : List ℕ) → length bytes ≤ limit → 0 < length buf → now ≡ before → IfSome before (λ was. IsFront was bytes) → IfSome now (λ was. Reads was (length bytes) buf new (Some 0)) → IsReadOf limit before (Some bytes)
read_end limit None now bytes buf new le room same front piece = (Some bytes, tt, ap (λ (l : List ℕ). Some l) (sym (take_all (limit + 1) bytes (omega arith))))
read_end limit (Some None) now bytes buf new le room same front piece =
    let none : ◌≡◌ {A = Option ℕ} (Some 0) None = subst (λ (f : Option (Option (List ℕ))). IfSome f (λ was. Reads was (length bytes) buf new (Some 0))) same piece in cc
read_end limit (Some (Some all)) now bytes buf new le room same front piece =
    let got : IsCopied all (length bytes) 0 buf new = subst (λ (f : Option (Option (List ℕ))). IfSome f (λ was. Reads was (length bytes) buf new (Some 0))) same piece in
    let short : length all ≤ length bytes = got.end refl room in
    let whole : bytes ≡ all = front ∙ take_all (length bytes) all short in
    (Some all, refl, ap (λ (l : List ℕ). Some l) (whole ∙ sym (take_all (limit + 1) all (omega arith))))

empty : (bytes : List ℕ) (n : ℕ) → bytes ≡ take n [] → 0 < length bytes → ⊥
empty bytes zero is some = omega (arith, ap length is)
empty bytes (suc n) is some = omega (arith, ap length is)

-- as much as is asked for
pub read_enough : (limit : ℕ) (before : Option (Option (List ℕ))) (bytes : List ℕ) → length bytes ≡ limit + 1 → IfSome before (λ was. IsFront was bytes) → IsReadOf limit before (Some bytes)
read_enough limit None bytes long front = (Some bytes, tt, ap (λ (l : List ℕ). Some l) (sym (take_all (limit + 1) bytes (omega arith))))
read_enough limit (Some None) bytes long front = absurd (empty bytes (length bytes) front (omega arith))
read_enough limit (Some (Some all)) bytes long front = (Some all, refl, ap (λ (l : List ℕ). Some l) (front ∙ ap (λ (k : ℕ). take k all) long))

-- what was there isn't any more: the object doesn't tell
pub read_gone : (limit : ℕ) (before now : Option (Option (List ℕ))) (bytes buf new : List ℕ) → length bytes ≤ limit → 0 < length bytes → now ≡ before → IfSome before (λ was. IsFront was bytes) → IfSome now (λ was. Reads was (length bytes) buf new None) → IsReadOf limit before (Some bytes)
read_gone limit None now bytes buf new le some same front piece = (Some bytes, tt, ap (λ (l : List ℕ). Some l) (sym (take_all (limit + 1) bytes (omega arith))))
read_gone limit (Some None) now bytes buf new le some same front piece = absurd (empty bytes (length bytes) front some)
read_gone limit (Some (Some all)) now bytes buf new le some same front piece = absurd (subst (λ (f : Option (Option (List ℕ))). IfSome f (λ was. Reads was (length bytes) buf new None)) same piece)
