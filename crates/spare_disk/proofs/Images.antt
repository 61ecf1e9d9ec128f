-- What stands on a spare whose first byte is written.
use Rattle.std.proofs.Common.{◌≡◌, inl, inr, ℕ, zero, suc, ◌+◌, ◌==◌, true, false, Bool, refl, sym, ◌∙◌, ap, subst, List, [], ◌∷◌, ◌++◌, length, arith, eqb-true, Option, None, Some, option_map, IfSome}
use Rattle.std.specs.Prelude.{slice_index}
use Rattle.avm_outside.specs.Outside.{BothTold}
use Rattle.avm_outside.specs.Disk.{Torn, Follows, Only, overwritten}
use Rattle.avm_outside.specs.Moments.{LeavesOnly, TornFrom}
use Rattle.avm_outside.proofs.Runs.{weaker}
use Rattle.avm_outside.proofs.Images.{gate_torn, gate_opened}
use Rattle.base_model.specs.Spare.{first_byte, IsClear, IsPrepared, IsWhole}
use Rattle.spare_disk.specs.Activating.{Each, IsPreparedOrWhole}

-- another first byte leaves the rest clear
clear_stays : (from x y : ℕ) (tail c d : List ℕ) → d ≡ x ∷ tail → c ≡ y ∷ tail → IsClear (from + 1) d → IsClear (from + 1) c
clear_stays from x y tail c d is now clear zero le in_c lt = absurd (omega (arith, le))
clear_stays from x y tail c d is now clear (suc p) le in_c lt =
    let n : length c ≡ suc (length tail) = ap length now in
    let m : length d ≡ suc (length tail) = ap length is in
    ap (λ (l : List ℕ). slice_index l (suc p)) now ∙ sym (ap (λ (l : List ℕ). slice_index l (suc p)) is) ∙ clear (suc p) le (omega (arith, n, m, in_c)) lt

-- a byte at place 0 before a base's others
with_first : (behind d c rest : List ℕ) (x gate : ℕ) → d ≡ x ∷ (behind ++ rest) → IsClear (length behind + 1) d → c ≡ gate ∷ (behind ++ rest) → IsPreparedOrWhole behind c
with_first behind d c rest x gate was clear is = go (gate == first_byte) refl
  where
    now : IsClear (length behind + 1) c
    now = clear_stays (length behind) x gate (behind ++ rest) c d was is clear

    go : (b : Bool) → (gate == first_byte) ≡ b → IsPreparedOrWhole behind c
    go true e = inr (record { rest = rest; bytes = is ∙ ap (λ (g : ℕ). g ∷ (behind ++ rest)) (eqb-true gate first_byte e); clear = now })
    go false e = inl (record { gate = gate; rest = rest; bytes = is; shut = e; clear = now })

pub prepared_torn : (behind d c : List ℕ) → IsPrepared behind d → Torn 0 1 d c → IsPreparedOrWhole behind c
prepared_torn behind d c p torn = let g = gate_torn [] c d p.gate (behind ++ p.rest) p.bytes torn in with_first behind d c p.rest p.gate g.0 p.bytes p.clear g.1

pub prepared_written : (behind was : List ℕ) → IsPrepared behind was → IsWhole behind (overwritten 0 (first_byte ∷ []) was)
prepared_written behind was p =
    let e : overwritten 0 (first_byte ∷ []) was ≡ first_byte ∷ (behind ++ p.rest) = gate_opened [] was p.gate first_byte (behind ++ p.rest) p.bytes in
    record { rest = p.rest; bytes = e; clear = clear_stays (length behind) p.gate first_byte (behind ++ p.rest) (overwritten 0 (first_byte ∷ []) was) was p.bytes e p.clear }

abbrev Done : (List ℕ → Type 0) → List ℕ → List ℕ → Type 0
Done images was now = (behind : List ℕ) → IsPrepared behind was → IsWhole behind now × Each images (λ c. c ≡ now)

pub activated : (images : List ℕ → Type 0) (told now : Option (List ℕ)) → now ≡ option_map (overwritten 0 (first_byte ∷ [])) told → IfSome now (λ n. Only n images) → BothTold told now (Done images)
activated images None now is only = subst (λ (o : Option (List ℕ)). BothTold None o (Done images)) (sym is) tt
activated images (Some was) now is only =
    let kept = subst (λ (o : Option (List ℕ)). IfSome o (λ n. Only n images)) is only in
    subst (λ (o : Option (List ℕ)). BothTold (Some was) o (Done images)) (sym is) (λ behind p. (prepared_written behind was p, kept))

abbrev Cut : (List ℕ → Type 0) → (List ℕ → Type 0) → List ℕ → List ℕ → Type 0
Cut old new was now = (behind : List ℕ) → IsPrepared behind was → Each old (IsPrepared behind) → IsPreparedOrWhole behind now × Each new (IsPreparedOrWhole behind)

pub cut : (old new : List ℕ → Type 0) (told now : Option (List ℕ)) → BothTold told now (Torn 0 1) → Follows (Torn 0 1) old new → BothTold told now (Cut old new)
cut old new None None torn crash = tt
cut old new None (Some now) torn crash = torn
cut old new (Some was) None torn crash = torn
cut old new (Some was) (Some now) torn crash = λ behind p each. (prepared_torn behind was now p torn, λ c left. let d = crash c left in prepared_torn behind d.0 c (each d.0 d.1) d.2)

module _ {D : Type 0} (moment : D → ℕ) (left_since : D → ℕ → List ℕ → Type 0) where
  pub activates : (images : List ℕ → Type 0) (told : Option (List ℕ)) (old new : D) → LeavesOnly moment left_since old new (TornFrom 0 1 images)
      → IfSome told (λ was. (behind : List ℕ) → Each images (IsPrepared behind) → LeavesOnly moment left_since old new (IsPreparedOrWhole behind))
  activates images None old new part = tt
  activates images (Some was) old new part = λ behind each. weaker moment left_since old new _ _ (λ c torn. prepared_torn behind torn.0 c (each torn.0 torn.1) torn.2) part
