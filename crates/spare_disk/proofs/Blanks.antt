-- A spare whose place 0 stays another byte than a journal's first.
use Rattle.std.proofs.Common.{◌≡◌, ◌⊎◌, inl, inr, ℕ, suc, ◌+◌, ◌-◌, ◌<◌, ◌≤◌, ◌^◌, max, refl, sym, ◌∙◌, ap, subst, List, [], ◌∷◌, ◌++◌, length, take, drop, get_or, arith, Option, None, Some, option_map, IfSome, length-append, take-append-drop}
use Rattle.std.specs.Prelude.{replicate}
use Rattle.std.proofs.lemmas.List.{take_at, length-take-le, ext_get_or, get_or-take, get_or_append_left, get_or-append_right, get_or-replicate, length-replicate}
use Rattle.std.proofs.lemmas.Bool.{cases_lt}
use Rattle.avm_outside.specs.Outside.{BothTold}
use Rattle.avm_outside.specs.Disk.{Torn, Follows, Only, Elapses, overwritten}
use Rattle.avm_outside.specs.Moments.{LeavesOnly, TornFrom}
use Rattle.avm_outside.proofs.Runs.{started, goes_on, joined, weaker, write_leaves}
use Rattle.avm_outside.proofs.Images.{begins_torn, overwritten_torn}
use Rattle.base_model.specs.Spare.{IsBlank, IsFree, IsPrepared}
use Rattle.spare_disk.specs.Activating.{Each}
use Rattle.spare_disk.specs.Preparing.{HasPiece, IsBegun, IsWiped}

-- ---- images

pub blank_torn : (at n : ℕ) (d c : List ℕ) → 1 ≤ at → IsBlank d → Torn at n d c → IsBlank c
blank_torn at n d c le blank torn = let b = begins_torn (blank.0 ∷ []) c d at n (blank.1, blank.2) le torn in (blank.0, b.0, b.1, blank.3)

pub short_torn : (d c : List ℕ) → length d ≤ 1 → Torn 0 1 d c → IsFree c
short_torn d c short torn = inl (omega (arith, short, torn.no_longer))

pub all_blank : (at n : ℕ) (old new : List ℕ → Type 0) → 1 ≤ at → Follows (Torn at n) old new → Each old IsBlank → Each new IsBlank
all_blank at n old new le crash each c left = let d = crash c left in blank_torn at n d.0 c le (each d.0 d.1) d.2

-- ---- calls

module _ {D : Type 0} (moment : D → ℕ) (left_since : D → ℕ → List ℕ → Type 0) (may_leave : D → List ℕ → Type 0) (only_now : (d : D) (c : List ℕ) → left_since d (moment d) c → may_leave d c) where
  pub put_leaves : (at n : ℕ) (old new : D) → 1 ≤ at → Follows (Torn at n) (may_leave old) (may_leave new) → Elapses (moment old) (moment new) (left_since old) (left_since new) (may_leave new)
      → Each (may_leave old) IsBlank → LeavesOnly moment left_since old new IsBlank
  put_leaves at n old new le crash time each =
      weaker moment left_since old new _ _ (λ c torn. blank_torn at n torn.0 c le (each torn.0 torn.1) torn.2) (write_leaves moment left_since may_leave only_now at n old new crash time)

  -- two calls after which a crash leaves nothing new
  two_calls : (P : List ℕ → Type 0) (old s l : D) → Each (may_leave old) P → ((c : List ℕ) → may_leave s c → may_leave old c) → Elapses (moment old) (moment s) (left_since old) (left_since s) (may_leave s)
      → ((c : List ℕ) → may_leave l c → may_leave s c) → Elapses (moment s) (moment l) (left_since s) (left_since l) (may_leave l) → LeavesOnly moment left_since old l P
  two_calls P old s l each less time less_2 time_2 =
      let first = started moment left_since old P (λ c left. each c (only_now old c left)) in
      let second = goes_on moment left_since old old s P (may_leave s) first time (λ c left. each c (less c left)) in
      goes_on moment left_since old s l P (may_leave l) second time_2 (λ c left. each c (less c (less_2 c left)))

  pub begun_moments : (told told_2 : Option (List ℕ)) (n : ℕ) (old s l new : D) → IfSome told (λ was. Only was (may_leave s)) → ((c : List ℕ) → may_leave s c → may_leave old c)
      → Elapses (moment old) (moment s) (left_since old) (left_since s) (may_leave s) → ((c : List ℕ) → may_leave l c → may_leave s c) → Elapses (moment s) (moment l) (left_since s) (left_since l) (may_leave l)
      → told_2 ≡ told → IfSome told_2 (λ was. n ≡ length was) → n ≤ 1 → LeavesOnly moment left_since l new (TornFrom 0 1 (may_leave l)) → Follows (Torn 0 1) (may_leave l) (may_leave new)
      → IfSome told (λ was. Each (may_leave old) IsFree → LeavesOnly moment left_since old new IsFree × Each (may_leave new) IsFree)
  begun_moments None told_2 n old s l new only less time less_2 time_2 same long low part crash = tt
  begun_moments (Some was) told_2 n old s l new only less time less_2 time_2 same long low part crash = λ each.
      let size = subst (λ (o : Option (List ℕ)). IfSome o (λ was. n ≡ length was)) same long in
      let short : (d : List ℕ) → may_leave l d → length d ≤ 1 = λ d left. (let e : length d ≡ length was = ap length (only d (less_2 d left)) in omega (arith, e, size, low)) in (
        joined moment left_since old l new IsFree (two_calls IsFree old s l each less time less_2 time_2) (weaker moment left_since l new _ _ (λ c torn. short_torn torn.0 c (short torn.0 torn.1) torn.2) part),
        λ c left. let d = crash c left in short_torn d.0 c (short d.0 d.1) d.2,
      )

  -- ---- what is wiped

  -- what goes on from a settled place 0
  pub then_blank : (len : ℕ) (told mid : Option (List ℕ)) (old b new : D) → IfSome told (λ was. Each (may_leave old) IsFree → LeavesOnly moment left_since old b IsFree × Each (may_leave b) IsFree) → BothTold told mid (IsBegun len (may_leave b))
      → (Each (may_leave b) IsBlank → Each (may_leave new) IsBlank) → (Each (may_leave b) IsBlank → LeavesOnly moment left_since b new IsBlank)
      → IfSome told (λ was. Each (may_leave old) IsFree → LeavesOnly moment left_since old new IsFree × Each (may_leave new) IsFree)
  then_blank len None mid old b new first begun blank part = tt
  then_blank len (Some was) None old b new first begun blank part = absurd begun
  then_blank len (Some was) (Some now) old b new first begun blank part = λ each.
      let all : Each (may_leave b) IsBlank = (λ c left. (begun.blank.0, begun.blank.1, begun.left c left ∙ begun.blank.2, begun.blank.3)) in
      (joined moment left_since old b new IsFree (first each).0 (weaker moment left_since b new _ _ (λ c blank. inr blank) (part all)), λ c left. inr (blank all c left))

  pub both_parts : (b p w : D) → (Each (may_leave b) IsBlank → Each (may_leave p) IsBlank) → (Each (may_leave b) IsBlank → LeavesOnly moment left_since b p IsBlank)
      → (Each (may_leave p) IsBlank → LeavesOnly moment left_since p w IsBlank) → Each (may_leave b) IsBlank → LeavesOnly moment left_since b w IsBlank
  both_parts b p w blank first second each = joined moment left_since b p w IsBlank (first each) (second (blank each))

  pub and_sync : (b w s : D) → (Each (may_leave b) IsBlank → Each (may_leave w) IsBlank) → (Each (may_leave b) IsBlank → LeavesOnly moment left_since b w IsBlank)
      → ((c : List ℕ) → may_leave s c → may_leave w c) → Elapses (moment w) (moment s) (left_since w) (left_since s) (may_leave s) → Each (may_leave b) IsBlank → LeavesOnly moment left_since b s IsBlank
  and_sync b w s blank part less time each = goes_on moment left_since b w s IsBlank (may_leave s) (part each) time (λ c left. blank each c (less c left))

pub nothing_wiped : (from : ℕ) (was : List ℕ) → IsWiped from from was was
nothing_wiped from was = record { long = refl; clear = λ p le lt all in_now. absurd (omega (arith, le, lt)); others = λ p in_was out. refl }

pub wiped_more : (from at : ℕ) (bytes was now : List ℕ) → IsWiped from at was now → from ≤ at → at + length bytes ≤ length now → ((i : ℕ) → i < length bytes → get_or bytes i 0 ≡ 0) → IsWiped from (at + length bytes) was (overwritten at bytes now)
wiped_more from at bytes was now w le fits zeros = record {
  long = size ∙ w.long;
  clear = λ p low high all in_now. elim (cases_lt p at) [
    | inl lt ↦ torn.others p (omega (arith, in_now, size)) (λ a. absurd (omega (arith, a, lt))) ∙ w.clear p low lt all (omega (arith, in_now, size))
    | inr ge ↦ inside p ge high ∙ zeros (p - at) (omega (arith, ge, high))
  ];
  others = λ p in_was out. torn.others p (omega (arith, in_was, w.long)) (λ a. elim (cases_lt p (at + length bytes)) [
    | inl lt ↦ absurd (out (omega (arith, a, le)) lt)
    | inr ge ↦ ge
  ]) ∙ w.others p in_was (λ a lt. out a (omega (arith, lt)));
}
  where
    within : at ≤ length now
    within = omega (arith, fits)

    torn : Torn at (length bytes) now (overwritten at bytes now)
    torn = overwritten_torn at bytes now within

    size : length (overwritten at bytes now) ≡ length now
    size = omega (arith, torn.no_shorter, torn.no_longer, fits)

    inside : (p : ℕ) → at ≤ p → p < at + length bytes → get_or (overwritten at bytes now) p 0 ≡ get_or bytes (p - at) 0
    inside p ge lt =
        let n : length (take at now) ≡ at = length-take-le at now within in
        let m : length (take at now ++ bytes) ≡ at + length bytes = omega (arith, n, length-append (take at now) bytes) in
        get_or_append_left (take at now ++ bytes) (drop (at + length bytes) now) 0 p (omega (arith, m, lt)) ∙ get_or-append_right (take at now) bytes at p 0 n ge

-- ---- a base that is written

-- further bytes behind those that stand
pub piece_more : (piece bytes was : List ℕ) (at : ℕ) → at ≡ length piece + 1 → HasPiece piece was → HasPiece (piece ++ bytes) (overwritten at bytes was)
piece_more piece bytes was at is p = record {
  gate = p.gate;
  rest = drop (at + length bytes) was;
  bytes = ap (λ (l : List ℕ). l ++ bytes ++ drop (at + length bytes) was) (ap (take at) p.bytes ∙ take_at (p.gate ∷ piece) p.rest at (omega (arith, is)));
  shut = p.shut;
}

pub piece_told : (bytes : List ℕ) (at : ℕ) (told new : Option (List ℕ)) → new ≡ option_map (overwritten at bytes) told → BothTold told new (λ was now. (piece : List ℕ) → HasPiece piece was → at ≡ length piece + 1 → HasPiece (piece ++ bytes) now)
piece_told bytes at told new is = subst (λ (o : Option (List ℕ)). BothTold told o (λ was now. (piece : List ℕ) → HasPiece piece was → at ≡ length piece + 1 → HasPiece (piece ++ bytes) now)) (sym is) (go told)
  where
    go : (told : Option (List ℕ)) → BothTold told (option_map (overwritten at bytes) told) (λ was now. (piece : List ℕ) → HasPiece piece was → at ≡ length piece + 1 → HasPiece (piece ++ bytes) now)
    go None = tt
    go (Some was) = λ piece p e. piece_more piece bytes was at e p

-- a base's bytes behind another first byte, and 00 behind them
all_written : (end len : ℕ) (behind was last : List ℕ) → HasPiece behind was → end ≡ length behind + 1 → length was ≤ max len end → IsWiped end len was last → IsPrepared behind last
all_written end len behind was last p is short wiped = record {
  gate = p.gate;
  rest = drop end last;
  bytes = sym (take-append-drop end last) ∙ ap (λ (l : List ℕ). l ++ drop end last) front;
  shut = p.shut;
  clear = λ i low in_last all. wiped.clear i (omega (arith, low, is)) (omega (arith, low, is, in_last, wiped.long, short)) all in_last;
}
  where
    long : length was ≡ suc (length behind + length p.rest)
    long = let e : length was ≡ suc (length (behind ++ p.rest)) = ap length p.bytes in omega (arith, e, length-append behind p.rest)

    same : take end last ≡ take end was
    same = ext_get_or 0 _ _ (omega (arith, length-take-le end last (omega (arith, wiped.long, long, is)), length-take-le end was (omega (arith, long, is)))) (λ i lt.
        let small : i < end = omega (arith, lt, length-take-le end last (omega (arith, wiped.long, long, is))) in
        get_or-take end last i 0 small ∙ wiped.others i (omega (arith, small, long, is)) (λ ge less. omega (arith, ge, small)) ∙ sym (get_or-take end was i 0 small))

    front : take end last ≡ p.gate ∷ behind
    front = same ∙ ap (λ (l : List ℕ). take end l) p.bytes ∙ take_at (p.gate ∷ behind) p.rest end (omega (arith, is))

abbrev Finished : ℕ → ℕ → (List ℕ → Type 0) → List ℕ → List ℕ → Type 0
Finished end len images was now = Each images (λ c. c ≡ now) × ((behind : List ℕ) → HasPiece behind was → end ≡ length behind + 1 → length was ≤ max len end → IsPrepared behind now)

pub finished : (end len : ℕ) (images : List ℕ → Type 0) (told wiped new : Option (List ℕ)) → BothTold told wiped (IsWiped end len) → new ≡ wiped → IfSome wiped (λ was. Only was images) → BothTold told new (Finished end len images)
finished end len images told wiped new wipe same only = subst (λ (o : Option (List ℕ)). BothTold told o (Finished end len images)) (sym same) (go told wiped wipe only)
  where
    go : (told wiped : Option (List ℕ)) → BothTold told wiped (IsWiped end len) → IfSome wiped (λ was. Only was images) → BothTold told wiped (Finished end len images)
    go None None wipe only = tt
    go None (Some now) wipe only = absurd wipe
    go (Some was) None wipe only = absurd wipe
    go (Some was) (Some now) wipe only = (only, λ behind p is short. all_written end len behind was now p is short wipe)

pub wiped_told : (from at n : ℕ) (bytes : List ℕ) (told mid new : Option (List ℕ)) → length bytes ≡ n → BothTold told mid (IsWiped from at) → new ≡ option_map (overwritten at bytes) mid → from ≤ at → IfSome mid (λ now. at + n ≤ length now)
    → ((i : ℕ) → i < length bytes → get_or bytes i 0 ≡ 0) → BothTold told new (IsWiped from (at + n))
wiped_told from at n bytes told mid new size w is le fits zeros =
    subst (λ (k : ℕ). BothTold told new (IsWiped from (at + k))) size (subst (λ (o : Option (List ℕ)). BothTold told o (IsWiped from (at + length bytes))) (sym is) (go told mid w (subst (λ (k : ℕ). IfSome mid (λ now. at + k ≤ length now)) (sym size) fits)))
  where
    go : (told mid : Option (List ℕ)) → BothTold told mid (IsWiped from at) → IfSome mid (λ now. at + length bytes ≤ length now) → BothTold told (option_map (overwritten at bytes) mid) (IsWiped from (at + length bytes))
    go None None w fits = tt
    go None (Some now) w fits = w
    go (Some was) None w fits = w
    go (Some was) (Some now) w fits = wiped_more from at bytes was now w le fits zeros

-- 00 stands up to the end
pub wiped_all : (from at len : ℕ) (told now : Option (List ℕ)) → BothTold told now (IsWiped from at) → ((p : ℕ) → p < len → p < 2 ^ 31 → p < at) → (at ≤ len) ⊎ (at ≡ from) → BothTold told now (IsWiped from len)
wiped_all from at len None None w all high = tt
wiped_all from at len None (Some now) w all high = w
wiped_all from at len (Some was) None w all high = w
wiped_all from at len (Some was) (Some now) w all high = record {
  long = w.long;
  clear = λ p low lt small in_now. w.clear p low (all p lt small) small in_now;
  others = λ p in_was out. w.others p in_was (λ a lt. elim high [
    | inl le ↦ out a (omega (arith, lt, le))
    | inr e ↦ absurd (omega (arith, a, lt, e))
  ]);
}

-- where so much fits, and how long it stays
pub still_long : (at : ℕ) (bytes : List ℕ) (len : ℕ) (mid new : Option (List ℕ)) → new ≡ option_map (overwritten at bytes) mid → at ≤ len → IfSome mid (λ now. len ≤ length now) → IfSome new (λ now. len ≤ length now)
still_long at bytes len None new is le long = subst (λ (o : Option (List ℕ)). IfSome o (λ now. len ≤ length now)) (sym is) tt
still_long at bytes len (Some now) new is le long = let torn = overwritten_torn at bytes now (omega (arith, le, long)) in let no_shorter = torn.no_shorter in subst (λ (o : Option (List ℕ)). IfSome o (λ now. len ≤ length now)) (sym is) (omega (arith, long, no_shorter))

pub fits_long : (n len : ℕ) (mid : Option (List ℕ)) → n ≤ len → IfSome mid (λ now. len ≤ length now) → IfSome mid (λ now. n ≤ length now)
fits_long n len None le long = tt
fits_long n len (Some now) le long = omega (arith, le, long)

pub zeros_at : (n : ℕ) → n ≤ 4096 → (i : ℕ) → i < length {A = ℕ} (take n (replicate 4096 0)) → get_or {A = ℕ} (take n (replicate 4096 0)) i 0 ≡ 0
zeros_at n few i lt =
    let small : i < n = omega (arith, lt, length-take-le {A = ℕ} n (replicate 4096 0) (omega (arith, few, length-replicate {A = ℕ} 4096 0))) in
    get_or-take {A = ℕ} n (replicate 4096 0) i 0 small ∙ get_or-replicate {A = ℕ} 4096 i 0 0 (omega (arith, small, few))
