-- A base that is written to a spare whose place 0 is settled.
use Rattle.std.proofs.Common.{◌≡◌, inl, inr, ℕ, suc, ◌+◌, ◌≤◌, max, refl, sym, subst, ap, List, [], ◌++◌, length, drop, arith, Option, None, Some, option_map, IfSome}
use Rattle.std.proofs.lemmas.List.{length-drop}
use Rattle.avm_outside.specs.Outside.{BothTold}
use Rattle.avm_outside.specs.Disk.{overwritten}
use Rattle.avm_outside.proofs.DiskLogs.{length-overwritten}
use Rattle.base_model.specs.Spare.{IsPrepared}
use Rattle.spare_disk.specs.Activating.{Each}
use Rattle.spare_disk.specs.Preparing.{IsBegun, HasPiece}

pub long : (base : List ℕ) → 1 ≤ length base → length base ≡ length (drop 1 base) + 1
long base some = omega (arith, some, length-drop 1 base)

begun_some : (len : ℕ) (images : List ℕ → Type 0) (was now : List ℕ) → IsBegun len images was now → 1 ≤ length now
begun_some len images was now b = let e : length now ≡ suc (length b.blank.1) = ap length b.blank.2 in omega (arith, e)

pub begun_within : (len : ℕ) (images : List ℕ → Type 0) (told mid : Option (List ℕ)) → BothTold told mid (IsBegun len images) → IfSome mid (λ now. 1 ≤ length now)
begun_within len images None None b = tt
begun_within len images None (Some now) b = absurd b
begun_within len images (Some was) None b = absurd b
begun_within len images (Some was) (Some now) b = begun_some len images was now b

-- how long a settled spare is
begun_size : (len : ℕ) (images : List ℕ → Type 0) (was now : List ℕ) → IsBegun len images was now → (len ≤ length now) × (length now ≤ max len 1)
begun_size len images was now b = elim b.same [
  | inl same ↦ let e = b.long in (omega (arith, e, same), omega (arith, e, same))
  | inr both ↦ let e = b.long in let low = both.0 in let one = both.1 in (omega (arith, e, low, one), omega (arith, e, one))
]

-- and how long behind the base's bytes
put_size : (len end : ℕ) (bytes now : List ℕ) → end ≡ length bytes + 1 → 1 ≤ length now → len ≤ length now → length now ≤ max len 1
    → (end ≤ length (overwritten 1 bytes now)) × (len ≤ length (overwritten 1 bytes now)) × (length (overwritten 1 bytes now) ≤ max len end)
put_size len end bytes now is some low high =
    let size = length-overwritten 1 bytes now some in
    (omega (arith, is, size), omega (arith, low, size), omega (arith, is, some, high, size))

pub put_long : (len end : ℕ) (bytes : List ℕ) (images : List ℕ → Type 0) (told mid new : Option (List ℕ)) → BothTold told mid (IsBegun len images) → new ≡ option_map (overwritten 1 bytes) mid → end ≡ length bytes + 1
    → IfSome new (λ now. (end ≤ length now) × (len ≤ length now) × (length now ≤ max len end))
put_long len end bytes images told mid new begun is size = subst (λ (o : Option (List ℕ)). IfSome o (λ now. (end ≤ length now) × (len ≤ length now) × (length now ≤ max len end))) (sym is) (go told mid begun)
  where
    go : (told mid : Option (List ℕ)) → BothTold told mid (IsBegun len images) → IfSome (option_map (overwritten 1 bytes) mid) (λ now. (end ≤ length now) × (len ≤ length now) × (length now ≤ max len end))
    go None None b = tt
    go None (Some now) b = absurd b
    go (Some was) None b = absurd b
    go (Some was) (Some now) b = let s = begun_size len images was now b in put_size len end bytes now size (begun_some len images was now b) s.0 s.1

pub all_prepared : (len end : ℕ) (bytes : List ℕ) (images behind : List ℕ → Type 0) (told mid new last : Option (List ℕ)) → BothTold told mid (IsBegun len images) → new ≡ option_map (overwritten 1 bytes) mid → end ≡ length bytes + 1
    → BothTold mid new (λ was now. (piece : List ℕ) → HasPiece piece was → 1 ≡ length piece + 1 → HasPiece (piece ++ bytes) now)
    → BothTold new last (λ was now. Each behind (λ c. c ≡ now) × ((base : List ℕ) → HasPiece base was → end ≡ length base + 1 → length was ≤ max len end → IsPrepared base now))
    → BothTold told last (λ was now. IsPrepared bytes now × Each behind (λ c. c ≡ now))
all_prepared len end bytes images behind told mid new last begun is size longer done = go told mid new last begun (put_long len end bytes images told mid new begun is size) longer done
  where
    go : (told mid new last : Option (List ℕ)) → BothTold told mid (IsBegun len images) → IfSome new (λ now. (end ≤ length now) × (len ≤ length now) × (length now ≤ max len end))
        → BothTold mid new (λ was now. (piece : List ℕ) → HasPiece piece was → 1 ≡ length piece + 1 → HasPiece (piece ++ bytes) now)
        → BothTold new last (λ was now. Each behind (λ c. c ≡ now) × ((base : List ℕ) → HasPiece base was → end ≡ length base + 1 → length was ≤ max len end → IsPrepared base now))
        → BothTold told last (λ was now. IsPrepared bytes now × Each behind (λ c. c ≡ now))
    go None (Some m) new last b s l d = absurd b
    go (Some w) None new last b s l d = absurd b
    go None None (Some n) last b s l d = absurd l
    go None None None (Some x) b s l d = absurd d
    go None None None None b s l d = tt
    go (Some w) (Some m) None last b s l d = absurd l
    go (Some w) (Some m) (Some n) None b s l d = absurd d
    go (Some w) (Some m) (Some n) (Some x) b s l d =
        let piece = l [] (record { gate = b.blank.0; rest = b.blank.1; bytes = b.blank.2; shut = b.blank.3 }) refl in
        (d.1 bytes piece size s.2, d.0)

-- the same of a slice that is these bytes
pub prepared_by : (len end : ℕ) (bytes piece : List ℕ) (images behind : List ℕ → Type 0) (told mid new last : Option (List ℕ)) → piece ≡ bytes → BothTold told mid (IsBegun len images) → new ≡ option_map (overwritten 1 piece) mid → end ≡ length bytes + 1
    → BothTold mid new (λ was now. (p : List ℕ) → HasPiece p was → 1 ≡ length p + 1 → HasPiece (p ++ piece) now)
    → BothTold new last (λ was now. Each behind (λ c. c ≡ now) × ((base : List ℕ) → HasPiece base was → end ≡ length base + 1 → length was ≤ max len end → IsPrepared base now))
    → BothTold told last (λ was now. IsPrepared bytes now × Each behind (λ c. c ≡ now))
prepared_by len end bytes piece images behind told mid new last same begun is size longer done =
    all_prepared len end bytes images behind told mid new last begun (subst (λ (l : List ℕ). new ≡ option_map (overwritten 1 l) mid) same is) size
    (subst (λ (l : List ℕ). BothTold mid new (λ was now. (p : List ℕ) → HasPiece p was → 1 ≡ length p + 1 → HasPiece (p ++ l) now)) same longer) done

-- how long the spare is then
pub long_by : (len end : ℕ) (bytes piece : List ℕ) (images : List ℕ → Type 0) (told mid new : Option (List ℕ)) → piece ≡ bytes → BothTold told mid (IsBegun len images) → new ≡ option_map (overwritten 1 piece) mid → end ≡ length bytes + 1
    → IfSome new (λ now. end ≤ length now) × IfSome new (λ now. len ≤ length now)
long_by len end bytes piece images told mid new same begun is size = go new (put_long len end bytes images told mid new begun (subst (λ (l : List ℕ). new ≡ option_map (overwritten 1 l) mid) same is) size)
  where
    go : (new : Option (List ℕ)) → IfSome new (λ now. (end ≤ length now) × (len ≤ length now) × (length now ≤ max len end)) → IfSome new (λ now. end ≤ length now) × IfSome new (λ now. len ≤ length now)
    go None l = (tt, tt)
    go (Some n) l = (l.0, l.1)
