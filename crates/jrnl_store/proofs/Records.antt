-- The two steps of writing a record, on a disk that may tell its bytes.
use Rattle.std.proofs.Common.{◌≡◌, inl, inr, ℕ, ◌+◌, ◌<◌, ◌≤◌, ◌==◌, true, false, Bool, refl, sym, ◌∙◌, ap, subst, Option, None, Some, option_map, IfSome, List, [], ◌∷◌, ◌++◌, length, arith, eqb-true}
use Rattle.avm_outside.specs.Outside.{BothTold}
use Rattle.avm_outside.specs.Disk.{Torn, Follows, Only, overwritten}
use Rattle.avm_outside.specs.Moments.{LeavesOnly, TornFrom, Begins, IsShut, Reaches}
use Rattle.avm_outside.proofs.Runs.{weaker, joined}
use Rattle.avm_outside.proofs.Images.{overwritten_torn, begins_torn, reaches_torn, shut_torn, written_behind, gate_torn, gate_opened}
use Rattle.jrnl_store.specs.Writing.{IsWritten, IsShutOrWritten, Each}

-- a gate with the record behind it is open or closed
at_gate : (front bytes c : List ℕ) (gate : ℕ) (rest : List ℕ) → c ≡ front ++ gate ∷ (bytes ++ rest) → IsShutOrWritten front bytes c
at_gate front bytes c gate rest is = go (gate == 1) refl
  where
    go : (b : Bool) → (gate == 1) ≡ b → IsShutOrWritten front bytes c
    go true e = inr (rest, is ∙ ap (λ (g : ℕ). front ++ g ∷ (bytes ++ rest)) (eqb-true gate 1 e))
    go false e = inl (gate, bytes ++ rest, is, e)

-- what the first step leaves to be read
abbrev First : ℕ → List ℕ → List ℕ → List ℕ
First gate bytes was = overwritten (gate + 1) bytes was

first_is : (gate : ℕ) (bytes was front : List ℕ) → length front ≡ gate → (shut : IsShut front was) → (left : List ℕ) × (First gate bytes was ≡ front ++ shut.0 ∷ (bytes ++ left))
first_is gate bytes was front len shut = subst (λ (n : ℕ). (left : List ℕ) × (First n bytes was ≡ front ++ shut.0 ∷ (bytes ++ left))) len (written_behind front was bytes shut.0 shut.1 shut.2)

module _ {D : Type 0} (moment : D → ℕ) (left_since : D → ℕ → List ℕ → Type 0) (gate : ℕ) (bytes : List ℕ) where
  pub first_moments : (images : List ℕ → Type 0) (old mid : D) (front : List ℕ) → length front ≡ gate → Each images (IsShut front) → LeavesOnly moment left_since old mid (TornFrom (gate + 1) (length bytes) images) → LeavesOnly moment left_since old mid (IsShutOrWritten front bytes)
  first_moments images old mid front len shut part =
      weaker moment left_since old mid _ _ (λ c torn. inl (shut_torn front c torn.0 (gate + 1) (length bytes) (shut torn.0 torn.1) (omega (arith, len)) torn.2)) part

  pub first_told : (images : List ℕ → Type 0) (told : Option (List ℕ)) (old mid : D) → LeavesOnly moment left_since old mid (TornFrom (gate + 1) (length bytes) images)
      → IfSome told (λ was. (front : List ℕ) → length front ≡ gate → IsShut front was → Each images (IsShut front) → LeavesOnly moment left_since old mid (IsShutOrWritten front bytes))
  first_told images None old mid part = tt
  first_told images (Some was) old mid part = λ front len shut each. first_moments images old mid front len each part

  second_moments : (images : List ℕ → Type 0) (was : List ℕ) (mid new : D) (front : List ℕ) → length front ≡ gate → IsShut front was → Only (First gate bytes was) images
      → LeavesOnly moment left_since mid new (TornFrom gate 1 images) → LeavesOnly moment left_since mid new (IsShutOrWritten front bytes)
  second_moments images was mid new front len shut only part =
      weaker moment left_since mid new _ _ (λ c torn.
      let w = first_is gate bytes was front len shut in
      let d : torn.0 ≡ front ++ shut.0 ∷ (bytes ++ w.0) = only torn.0 torn.1 ∙ w.1 in
      let t : Torn (length front) 1 torn.0 c = subst (λ (n : ℕ). Torn n 1 torn.0 c) (sym len) torn.2 in
      let g = gate_torn front c torn.0 shut.0 (bytes ++ w.0) d t in
      at_gate front bytes c g.0 w.0 g.1) part

  pub all_moments : (images middle : List ℕ → Type 0) (told mid : Option (List ℕ)) (old m new : D) → mid ≡ option_map (First gate bytes) told → IfSome mid (λ now. Only now middle)
      → LeavesOnly moment left_since old m (TornFrom (gate + 1) (length bytes) images) → LeavesOnly moment left_since m new (TornFrom gate 1 middle)
      → IfSome told (λ was. (front : List ℕ) → length front ≡ gate → IsShut front was → Each images (IsShut front) → LeavesOnly moment left_since old new (IsShutOrWritten front bytes))
  all_moments images middle None mid old m new is only one two = tt
  all_moments images middle (Some was) mid old m new is only one two = λ front len shut each.
      let kept : Only (First gate bytes was) middle = subst (λ (o : Option (List ℕ)). IfSome o (λ now. Only now middle)) is only in
      joined moment left_since old m new _ (first_moments images old m front len each one) (second_moments middle was m new front len shut kept two)

-- the second step's place stands in what the first leaves
pub within_first : (gate : ℕ) (bytes : List ℕ) (told mid : Option (List ℕ)) → IfSome told (λ was. gate < length was) → mid ≡ option_map (First gate bytes) told → IfSome mid (λ was. gate ≤ length was)
within_first gate bytes None mid within is = subst (λ (o : Option (List ℕ)). IfSome o (λ was. gate ≤ length was)) (sym is) tt
within_first gate bytes (Some was) mid within is =
    let t = overwritten_torn (gate + 1) bytes was (omega (arith, within)) in
    let long = t.no_shorter in
    subst (λ (o : Option (List ℕ)). IfSome o (λ was. gate ≤ length was)) (sym is) (omega (arith, within, long))

abbrev Done : ℕ → List ℕ → (List ℕ → Type 0) → List ℕ → List ℕ → Type 0
Done gate bytes images was now = (front : List ℕ) → length front ≡ gate → IsShut front was → IsWritten front bytes now × Each images (λ c. c ≡ now)

pub written : (gate : ℕ) (bytes : List ℕ) (images : List ℕ → Type 0) (told mid now : Option (List ℕ)) → mid ≡ option_map (First gate bytes) told → now ≡ option_map (overwritten gate (1 ∷ [])) mid → IfSome now (λ n. Only n images) → BothTold told now (Done gate bytes images)
written gate bytes images None mid now is last only = subst (λ (o : Option (List ℕ)). BothTold None o (Done gate bytes images)) (sym (last ∙ ap (option_map (overwritten gate (1 ∷ []))) is)) tt
written gate bytes images (Some was) mid now is last only =
    let end : now ≡ Some (overwritten gate (1 ∷ []) (First gate bytes was)) = last ∙ ap (option_map (overwritten gate (1 ∷ []))) is in
    let kept = subst (λ (o : Option (List ℕ)). IfSome o (λ n. Only n images)) end only in
    subst (λ (o : Option (List ℕ)). BothTold (Some was) o (Done gate bytes images)) (sym end) (λ front len shut.
    let w = first_is gate bytes was front len shut in
    let o : overwritten gate (1 ∷ []) (First gate bytes was) ≡ front ++ 1 ∷ (bytes ++ w.0) = subst (λ (n : ℕ). overwritten n (1 ∷ []) (First gate bytes was) ≡ front ++ 1 ∷ (bytes ++ w.0)) len (gate_opened front (First gate bytes was) shut.0 1 (bytes ++ w.0) w.1) in
    ((w.0, o), kept))

abbrev Failing : ℕ → (List ℕ → Type 0) → (List ℕ → Type 0) → List ℕ → List ℕ → Type 0
Failing gate old new was now = (front : List ℕ) → length front ≡ gate → Reaches front was → Each old (Begins front) → Reaches front now × Each new (Begins front)

-- a write that fails, at the gate or behind it
failing : (gate at n : ℕ) → gate ≤ at → (old new : List ℕ → Type 0) (was now : List ℕ) → Torn at n was now → Follows (Torn at n) old new → Failing gate old new was now
failing gate at n le old new was now torn crash front len begins each = (
  reaches_torn front now was at n begins (omega (arith, len, le)) torn,
  λ c left. let d = crash c left in begins_torn front c d.0 at n (each d.0 d.1) (omega (arith, len, le)) d.2,
)

pub failed_first : (gate n : ℕ) (old new : List ℕ → Type 0) (told now : Option (List ℕ)) → BothTold told now (Torn (gate + 1) n) → Follows (Torn (gate + 1) n) old new → BothTold told now (Failing gate old new)
failed_first gate n old new None None torn crash = tt
failed_first gate n old new None (Some now) torn crash = torn
failed_first gate n old new (Some was) None torn crash = torn
failed_first gate n old new (Some was) (Some now) torn crash = failing gate (gate + 1) n (omega arith) old new was now torn crash

pub failed_second : (gate : ℕ) (bytes : List ℕ) (old middle new : List ℕ → Type 0) (told mid now : Option (List ℕ)) → mid ≡ option_map (First gate bytes) told → IfSome told (λ was. gate < length was) → Follows (Torn (gate + 1) (length bytes)) old middle
    → BothTold mid now (Torn gate 1) → Follows (Torn gate 1) middle new → BothTold told now (Failing gate old new)
failed_second gate bytes old middle new None mid now is within crash torn crash_2 = ends now (subst (λ (o : Option (List ℕ)). BothTold o now (Torn gate 1)) is torn)
  where
    ends : (now : Option (List ℕ)) → BothTold None now (Torn gate 1) → BothTold None now (Failing gate old new)
    ends None t = tt
    ends (Some x) t = t
failed_second gate bytes old middle new (Some was) mid now is within crash torn crash_2 = ends now (subst (λ (o : Option (List ℕ)). BothTold o now (Torn gate 1)) is torn)
  where
    ends : (now : Option (List ℕ)) → BothTold (Some (First gate bytes was)) now (Torn gate 1) → BothTold (Some was) now (Failing gate old new)
    ends None t = t
    ends (Some x) t = λ front len begins each.
        let first = failing gate (gate + 1) (length bytes) (omega arith) old middle was (First gate bytes was) (overwritten_torn (gate + 1) bytes was (omega (arith, within))) crash front len begins each in
        failing gate gate 1 (omega arith) middle new (First gate bytes was) x t crash_2 front len first.0 first.1
