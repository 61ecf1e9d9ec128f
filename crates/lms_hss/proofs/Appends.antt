-- The steps of binding a key, on a disk that may tell its bytes.
use Rattle.std.proofs.Common.{◌≡◌, inl, ℕ, suc, ◌+◌, ◌<◌, ◌≤◌, Bool, true, false, sym, ◌∙◌, ap, subst, Option, None, Some, option_map, IfSome, List, [], ◌∷◌, ◌++◌, length, take, drop, arith, length-append, Result, Ok, Err, OnOk, OnErr}
use Rattle.avm_outside.specs.Outside.{BothTold}
use Rattle.avm_outside.specs.Disk.{Torn, Only, overwritten}
use Rattle.avm_outside.specs.declared.files.Failed.{Failed}
use Rattle.avm_outside.specs.Moments.{LeavesOnly, TornFrom, IsShut}
use Rattle.avm_outside.proofs.Runs.{weaker, joined}
use Rattle.disk_gates.specs.Writing.{IsWritten, IsShutOrWritten, Each}
use Rattle.hss_model.specs.Roll.{RollData, roll_of, roll_bytes, roll_end, with_bottom, IsRollDisk, IsEither}
use Rattle.lms_hss.specs.Own.{HasRoom, is_shut}
use Rattle.lms_hss.proofs.Ends.{end_was, all_shut, all_cut, cut_torn, cut_shut, cut_is, written_is, either_is, torn_now, both_then}

-- what `shut` leaves
abbrev pub ShutLeft : ℕ → (List ℕ → Type 0) → (List ℕ → Type 0) → List ℕ → List ℕ → Type 0
ShutLeft gate old new was now = (r : RollData) → HasRoom gate old was r → IsShut (roll_bytes r) now × Each new (IsShut (roll_bytes r))

abbrev pub StillIs : ℕ → (List ℕ → Type 0) → List ℕ → List ℕ → Type 0
StillIs gate old was now = (r : RollData) → HasRoom gate old was r → roll_of now ≡ Some r

abbrev pub HasSome : ℕ → (List ℕ → Type 0) → Option (List ℕ) → Type 0
HasSome gate old told = IfSome told (λ was. (r : RollData) × HasRoom gate old was r)

pub shut_read : (gate : ℕ) (old new : List ℕ → Type 0) (told now : Option (List ℕ)) (b : Bool) → now ≡ told → ((c : List ℕ) → new c → old c) → b ≡ true → IfSome told (λ was. b ≡ is_shut (take 1 (drop gate was))) → BothTold told now (ShutLeft gate old new)
shut_read gate old new None now b same crash yes_shut is = subst (λ (o : Option (List ℕ)). BothTold None o (ShutLeft gate old new)) (sym same) tt
shut_read gate old new (Some was) now b same crash yes_shut is =
    subst (λ (o : Option (List ℕ)). BothTold (Some was) o (ShutLeft gate old new)) (sym same) (λ r own.
    let h = all_shut gate old was r own (sym is ∙ yes_shut) in
    (h.0, λ c left. h.1 c (crash c left)))

pub place_within : (gate : ℕ) (old : List ℕ → Type 0) (told now : Option (List ℕ)) → now ≡ told → HasSome gate old told → IfSome now (λ was. gate ≤ length was)
place_within gate old None now same own = subst (λ (o : Option (List ℕ)). IfSome o (λ was. gate ≤ length was)) (sym same) tt
place_within gate old (Some was) now same own =
    let end = end_was gate old was own.0 own.1 in
    let n : length was ≡ gate + length end.rest = ap length end.spelled ∙ length-append (roll_bytes own.0) end.rest ∙ ap (λ (k : ℕ). k + length end.rest) end.long in
    subst (λ (o : Option (List ℕ)). IfSome o (λ was. gate ≤ length was)) (sym same) (omega (arith, n))

pub shut_written : (gate : ℕ) (old new : List ℕ → Type 0) (told mid now : Option (List ℕ)) (b : Bool) (x : Result (Unit {0}) Failed) → mid ≡ told → b ≡ false → IfSome told (λ was. b ≡ is_shut (take 1 (drop gate was)))
    → OnOk x (now ≡ option_map (overwritten gate (0 ∷ [])) mid) → OnOk x (IfSome now (λ n. Only n new)) → OnOk x (BothTold told now (ShutLeft gate old new))
shut_written gate old new told mid now b (Err e) same lies is written kept = tt
shut_written gate old new None mid now b (Ok x) same lies is written kept = subst (λ (o : Option (List ℕ)). BothTold None o (ShutLeft gate old new)) (sym (written ∙ ap (option_map (overwritten gate (0 ∷ []))) same)) tt
shut_written gate old new (Some was) mid now b (Ok x) same lies is written kept =
    let e : now ≡ Some (overwritten gate (0 ∷ []) was) = written ∙ ap (option_map (overwritten gate (0 ∷ []))) same in
    let only : Only (overwritten gate (0 ∷ []) was) new = subst (λ (o : Option (List ℕ)). IfSome o (λ n. Only n new)) e kept in
    subst (λ (o : Option (List ℕ)). BothTold (Some was) o (ShutLeft gate old new)) (sym e) (λ r own.
    let end = end_was gate old was r own in
    let cut = all_cut gate old was r own (sym is ∙ lies) in
    let s : IsShut (roll_bytes r) (overwritten gate (0 ∷ []) was) = subst (λ (n : ℕ). IsShut (roll_bytes r) (overwritten n (0 ∷ []) was)) end.long (cut_shut (roll_bytes r) was cut.0) in
    (s, λ c left. subst (λ (l : List ℕ). IsShut (roll_bytes r) l) (sym (only c left)) s))

-- what is read while a gate is being closed
pub cut_stands : (gate : ℕ) (old : List ℕ → Type 0) (told now : Option (List ℕ)) (b : Bool) → b ≡ false → IfSome told (λ was. b ≡ is_shut (take 1 (drop gate was))) → BothTold told now (Torn gate 1) → BothTold told now (StillIs gate old)
cut_stands gate old None None b lies is torn = tt
cut_stands gate old None (Some x) b lies is torn = torn
cut_stands gate old (Some was) None b lies is torn = torn
cut_stands gate old (Some was) (Some x) b lies is torn = λ r own.
    let end = end_was gate old was r own in
    let cut = all_cut gate old was r own (sym is ∙ lies) in
    cut_is r end.fits own.room x (cut_torn (roll_bytes r) x was cut.0 (subst (λ (n : ℕ). Torn n 1 was x) (sym end.long) torn))

pub shut_stands : (gate : ℕ) (old : List ℕ → Type 0) (told mid now : Option (List ℕ)) (b : Bool) (x : Result (Unit {0}) Failed) → mid ≡ told → b ≡ false → IfSome told (λ was. b ≡ is_shut (take 1 (drop gate was))) → HasSome gate old told
    → OnOk x (now ≡ option_map (overwritten gate (0 ∷ [])) mid) → OnErr x (BothTold mid now (Torn gate 1)) → BothTold told now (StillIs gate old)
shut_stands gate old told mid now b x same lies is own ok err =
    cut_stands gate old told now b lies is (subst (λ (o : Option (List ℕ)). BothTold o now (Torn gate 1)) same (torn_now gate (0 ∷ []) x mid now (place_within gate old told mid same own) ok err))

pub read_stands : (gate : ℕ) (old : List ℕ → Type 0) (told now : Option (List ℕ)) → now ≡ told → BothTold told now (StillIs gate old)
read_stands gate old None now same = subst (λ (o : Option (List ℕ)). BothTold None o (StillIs gate old)) (sym same) tt
read_stands gate old (Some was) now same = subst (λ (o : Option (List ℕ)). BothTold (Some was) o (StillIs gate old)) (sym same) (λ r own. own.disk.read)

module _ {D : Type 0} (seen : D → Option (List ℕ)) (may_leave : D → List ℕ → Type 0) (moment : D → ℕ) (left_since : D → ℕ → List ℕ → Type 0) (gate : ℕ) where
  -- at any moment of a read
  pub read_moments : (images : List ℕ → Type 0) (told : Option (List ℕ)) (old new : D) → LeavesOnly moment left_since old new images
      → IfSome told (λ was. (r : RollData) → HasRoom gate images was r → LeavesOnly moment left_since old new (λ c. roll_of c ≡ Some r))
  read_moments images None old new part = tt
  read_moments images (Some was) old new part = λ r own. weaker moment left_since old new images _ own.disk.left part

  -- and of closing a gate
  pub shut_moments : (images middle : List ℕ → Type 0) (told : Option (List ℕ)) (b : Bool) (old mid new : D) → ((c : List ℕ) → middle c → images c) → b ≡ false → IfSome told (λ was. b ≡ is_shut (take 1 (drop gate was)))
      → LeavesOnly moment left_since old mid images → LeavesOnly moment left_since mid new (TornFrom gate 1 middle)
      → IfSome told (λ was. (r : RollData) → HasRoom gate images was r → LeavesOnly moment left_since old new (λ c. roll_of c ≡ Some r))
  shut_moments images middle None b old mid new less lies is one two = tt
  shut_moments images middle (Some was) b old mid new less lies is one two = λ r own.
      let end = end_was gate images was r own in
      let cut = all_cut gate images was r own (sym is ∙ lies) in
      joined moment left_since old mid new _ (weaker moment left_since old mid images _ own.disk.left one)
      (weaker moment left_since mid new _ _ (λ c torn. cut_is r end.fits own.room c (cut_torn (roll_bytes r) c torn.0 (cut.1 torn.0 (less torn.0 torn.1)) (subst (λ (n : ℕ). Torn n 1 torn.0 c) (sym end.long) torn.2))) two)

  -- and of binding a key
  pub append_moments : (images middle : List ℕ → Type 0) (told now : Option (List ℕ)) (k : List ℕ) (old mid new : D) → length k ≡ 56 → BothTold told now (ShutLeft gate images middle)
      → IfSome told (λ was. (r : RollData) → HasRoom gate images was r → LeavesOnly moment left_since old mid (λ c. roll_of c ≡ Some r))
      → IfSome now (λ was. (front : List ℕ) → length front ≡ gate → IsShut front was → Each middle (IsShut front) → LeavesOnly moment left_since mid new (IsShutOrWritten front (k ++ 0 ∷ [])))
      → IfSome told (λ was. (r : RollData) → HasRoom gate images was r → LeavesOnly moment left_since old new (IsEither r k))
  append_moments images middle None now k old mid new long shut one two = tt
  append_moments images middle (Some was) None k old mid new long shut one two = absurd shut
  append_moments images middle (Some was) (Some x) k old mid new long shut one two = λ r own.
      let end = end_was gate images was r own in
      let s = shut r own in
      joined moment left_since old mid new _ (weaker moment left_since old mid _ _ (λ c e. inl e) (one r own))
      (weaker moment left_since mid new _ _ (λ c w. either_is r end.fits own.room k c long w) (two (roll_bytes r) end.long s.0 s.1))

  pub first_moments : (images : List ℕ → Type 0) (told : Option (List ℕ)) (k : List ℕ) (old mid : D)
      → IfSome told (λ was. (r : RollData) → HasRoom gate images was r → LeavesOnly moment left_since old mid (λ c. roll_of c ≡ Some r))
      → IfSome told (λ was. (r : RollData) → HasRoom gate images was r → LeavesOnly moment left_since old mid (IsEither r k))
  first_moments images None k old mid one = tt
  first_moments images (Some was) k old mid one = λ r own. weaker moment left_since old mid _ _ (λ c e. inl e) (one r own)

pub gate_within : (gate : ℕ) (old new : List ℕ → Type 0) (told now : Option (List ℕ)) → HasSome gate old told → BothTold told now (ShutLeft gate old new) → IfSome now (λ was. gate < length was)
gate_within gate old new None None own shut = tt
gate_within gate old new None (Some x) own shut = absurd shut
gate_within gate old new (Some was) None own shut = absurd shut
gate_within gate old new (Some was) (Some x) own shut =
    let end = end_was gate old was own.0 own.1 in
    let s = (shut own.0 own.1).0 in
    let n : length x ≡ length (roll_bytes own.0) + suc (length s.1) = ap length s.2 ∙ length-append (roll_bytes own.0) (s.0 ∷ s.1) in
    omega (arith, n, end.long)

abbrev pub Appended : ℕ → (List ℕ → Type 0) → (List ℕ → Type 0) → List ℕ → List ℕ → List ℕ → Type 0
Appended gate old new k was now = (r : RollData) → HasRoom gate old was r → IsRollDisk new now (with_bottom r k)

abbrev pub EitherLeft : ℕ → (List ℕ → Type 0) → List ℕ → List ℕ → List ℕ → Type 0
EitherLeft gate old k was now = (r : RollData) → HasRoom gate old was r → IsEither r k now

pub appended : (gate : ℕ) (old middle new : List ℕ → Type 0) (told mid now : Option (List ℕ)) (k : List ℕ) (x : Result (Unit {0}) Failed) → length k ≡ 56 → BothTold told mid (ShutLeft gate old middle)
    → OnOk x (BothTold mid now (λ was now. (front : List ℕ) → length front ≡ gate → IsShut front was → IsWritten front (k ++ 0 ∷ []) now × Each new (λ c. c ≡ now))) → OnOk x (BothTold told now (Appended gate old new k))
appended gate old middle new told mid now k (Err e) long shut written = tt
appended gate old middle new told mid now k (Ok x) long shut written =
    both_then told mid now shut written (λ was m n s w. λ r own.
    let end = end_was gate old was r own in
    let h = w (roll_bytes r) end.long (s r own).0 in
    let is : roll_of n ≡ Some (with_bottom r k) = written_is r end.fits own.room k n long h.0 in
    record { read = is; left = λ c left. ap roll_of (h.1 c left) ∙ is; same = λ c left. ap (λ (l : List ℕ). take 1 (drop (roll_end (length (r.bottoms ++ k ∷ []))) l)) (h.1 c left) })

pub append_stands : (gate : ℕ) (old middle : List ℕ → Type 0) (told mid now : Option (List ℕ)) (k : List ℕ) → length k ≡ 56 → BothTold told mid (ShutLeft gate old middle)
    → BothTold mid now (λ was now. (front : List ℕ) → length front ≡ gate → IsShut front was → IsShutOrWritten front (k ++ 0 ∷ []) now) → BothTold told now (EitherLeft gate old k)
append_stands gate old middle told mid now k long shut stands =
    both_then told mid now shut stands (λ was m n s w. λ r own.
    let end = end_was gate old was r own in
    either_is r end.fits own.room k n long (w (roll_bytes r) end.long (s r own).0))

pub first_stands : (gate : ℕ) (old : List ℕ → Type 0) (told now : Option (List ℕ)) (k : List ℕ) → BothTold told now (StillIs gate old) → BothTold told now (EitherLeft gate old k)
first_stands gate old None None k stands = tt
first_stands gate old None (Some x) k stands = stands
first_stands gate old (Some was) None k stands = stands
first_stands gate old (Some was) (Some x) k stands = λ r own. inl (stands r own)

-- the same of bytes that are the key and a closed gate
module _ (gate : ℕ) (old middle new : List ℕ → Type 0) (told mid now : Option (List ℕ)) (k bytes : List ℕ) (is : bytes ≡ k ++ 0 ∷ []) (long : length k ≡ 56) (shut : BothTold told mid (ShutLeft gate old middle)) where
  pub appended_by : (x : Result (Unit {0}) Failed) → OnOk x (BothTold mid now (λ was now. (front : List ℕ) → length front ≡ gate → IsShut front was → IsWritten front bytes now × Each new (λ c. c ≡ now))) → OnOk x (BothTold told now (Appended gate old new k))
  appended_by x =
      subst (λ (l : List ℕ). OnOk x (BothTold mid now (λ was now. (front : List ℕ) → length front ≡ gate → IsShut front was → IsWritten front l now × Each new (λ c. c ≡ now))) → OnOk x (BothTold told now (Appended gate old new k)))
      (sym is) (appended gate old middle new told mid now k x long shut)

  pub stands_by : BothTold mid now (λ was now. (front : List ℕ) → length front ≡ gate → IsShut front was → IsShutOrWritten front bytes now) → BothTold told now (EitherLeft gate old k)
  stands_by = subst (λ (l : List ℕ). BothTold mid now (λ was now. (front : List ℕ) → length front ≡ gate → IsShut front was → IsShutOrWritten front l now) → BothTold told now (EitherLeft gate old k)) (sym is) (append_stands gate old middle told mid now k long shut)

module _ {D : Type 0} (seen : D → Option (List ℕ)) (may_leave : D → List ℕ → Type 0) (moment : D → ℕ) (left_since : D → ℕ → List ℕ → Type 0) (gate : ℕ) where
  pub moments_by : (images middle : List ℕ → Type 0) (told now : Option (List ℕ)) (k bytes : List ℕ) (old mid new : D) → bytes ≡ k ++ 0 ∷ [] → length k ≡ 56 → BothTold told now (ShutLeft gate images middle)
      → IfSome told (λ was. (r : RollData) → HasRoom gate images was r → LeavesOnly moment left_since old mid (λ c. roll_of c ≡ Some r))
      → IfSome now (λ was. (front : List ℕ) → length front ≡ gate → IsShut front was → Each middle (IsShut front) → LeavesOnly moment left_since mid new (IsShutOrWritten front bytes))
      → IfSome told (λ was. (r : RollData) → HasRoom gate images was r → LeavesOnly moment left_since old new (IsEither r k))
  moments_by images middle told now k bytes old mid new is long shut one =
      subst (λ (l : List ℕ). IfSome now (λ was. (front : List ℕ) → length front ≡ gate → IsShut front was → Each middle (IsShut front) → LeavesOnly moment left_since mid new (IsShutOrWritten front l))
      → IfSome told (λ was. (r : RollData) → HasRoom gate images was r → LeavesOnly moment left_since old new (IsEither r k))) (sym is) (append_moments seen may_leave moment left_since gate images middle told now k old mid new long shut one)
