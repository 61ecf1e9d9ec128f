-- A file that is heard piece by piece.
use Rattle.std.proofs.Common.{◌≡◌, ℕ, zero, suc, ◌+◌, ◌≤◌, ◌<◌, ◌^◌, Bool, true, false, List, [], ◌++◌, length, take, drop, Option, None, Some, IfSome, inl, inr, refl, sym, ◌∙◌, ap, subst, arith, length-append, leb-true, le-leb}
use Rattle.std.specs.Prelude.{nat_le, option_map, Result, Ok, Err, IfOk, IsErrAnd}
use Rattle.std.proofs.lemmas.Bool.{cases_lt}
use Rattle.std.proofs.lemmas.List.{length-take, length-take-le, take-append-le, take-take, take_all}
use Rattle.std.proofs.Math.Seq.{take-add}
use Rattle.avm_model.specs.Segment.{whole_segment_of}
use Rattle.avm_outside.specs.Files.{IsCopied, Reads}
use Rattle.command_parts.specs.Reading.{IsFront, IsReadOf, ReadsAs, IsReadAs, Finds}
use Rattle.file_audit.specs.Audited.{IsAudited, IsFileAudited}
use Rattle.file_audit.specs.declared.fault.Fault.{Fault}
use Rattle.file_audit.specs.declared.hearing.Audited.{Audited}
use Rattle.file_audit.specs.Hearing.{Hears, HearsFront, HearsFile}
use Rattle.file_audit.specs.declared.hearing.Hearing.{Hearing}
use Rattle.file_audit.proofs.Long.{whole_long}

-- the piece that was read goes on where the front ends
front_more : (all bytes buf new : List ℕ) (n : ℕ) → bytes ≡ take (length bytes) all → IsCopied all (length bytes) n buf new → bytes ++ take n new ≡ take (length (bytes ++ take n new)) all
front_more all bytes buf new n front piece =
    let rest = drop (length bytes) all in
    let there : n ≤ length rest = piece.there in
    let long : n ≤ length (take n rest) = omega (arith, length-take-le n rest there) in
    let part : take n new ≡ take n rest =
    ap (λ (l : List ℕ). take n l) piece.copied ∙ take-append-le n (take n rest) (drop n buf) long ∙ take-take n n rest (omega arith) in
    let size : length (bytes ++ take n new) ≡ length bytes + n =
    omega (arith, length-append bytes (take n new), ap length part, length-take-le n rest (omega arith)) in
    ap (λ (l : List ℕ). bytes ++ l) part
    ∙ ap (λ (l : List ℕ). l ++ take n rest) front
    ∙ sym (take-add (length bytes) n all)
    ∙ sym (ap (λ (k : ℕ). take k all) size)

front_step : (before now : Option (Option (List ℕ))) (bytes buf new : List ℕ) (n : ℕ) → now ≡ before → IfSome before (λ was. IsFront was bytes) → IfSome now (λ was. Reads was (length bytes) buf new (Some n)) → IfSome before (λ was. IsFront was (bytes ++ take n new))
front_step None now bytes buf new n same front piece = tt
front_step (Some None) now bytes buf new n same front piece =
    let none : Some n ≡ None = subst (λ (f : Option (Option (List ℕ))). IfSome f (λ was. Reads was (length bytes) buf new (Some n))) same piece in cc
front_step (Some (Some all)) now bytes buf new n same front piece =
    front_more all bytes buf new n front (subst (λ (f : Option (Option (List ℕ))). IfSome f (λ was. Reads was (length bytes) buf new (Some n))) same piece)

took : (n : ℕ) (new : List ℕ) → n ≤ length new → length (take n new) ≡ n
took n new le = length-take-le n new le

-- one piece more is heard
pub heard_more : (told now : Option (Option (List ℕ))) (at n : ℕ) (buf new piece key auths : List ℕ) (image : Option (List ℕ)) (h g : Hearing) → now ≡ told → n ≤ length new → piece ≡ take n new → IfSome now (λ was. Reads was at buf new (Some n))
    → ((k a : List ℕ) (i : Option (List ℕ)) (bytes : List ℕ) → Hears h k a i bytes → Hears g k a i (bytes ++ piece)) → HearsFront key auths image told at h → HearsFront key auths image told (at + n) g
heard_more told now at n buf new piece key auths image h g same le is read goes so =
    let bytes = so.0 in
    let placed : IfSome now (λ was. Reads was (length bytes) buf new (Some n)) = subst (λ (k : ℕ). IfSome now (λ was. Reads was k buf new (Some n))) (sym so.2) read in
    let size : length (bytes ++ take n new) ≡ at + n = omega (arith, length-append bytes (take n new), took n new le, so.2) in
    (bytes ++ take n new, subst (λ (l : List ℕ). Hears g key auths image (bytes ++ l)) is (goes key auths image bytes so.1), size, front_step told now bytes buf new n same so.3 placed)

empty : (bytes : List ℕ) (n : ℕ) → bytes ≡ take n [] → 0 < length bytes → ⊥
empty bytes zero is some = omega (arith, ap length is)
empty bytes (suc n) is some = omega (arith, ap length is)

whole_end : (told now : Option (Option (List ℕ))) (bytes buf new : List ℕ) → 0 < length bytes → 0 < length buf → now ≡ told → IfSome told (λ was. IsFront was bytes) → IfSome now (λ was. Reads was (length bytes) buf new (Some 0)) → IsReadAs whole_segment_of told (Some bytes)
whole_end None now bytes buf new some room same front read = (Some bytes, tt, refl)
whole_end (Some None) now bytes buf new some room same front read = absurd (empty bytes (length bytes) front some)
whole_end (Some (Some all)) now bytes buf new some room same front read =
    let got : IsCopied all (length bytes) 0 buf new = subst (λ (f : Option (Option (List ℕ))). IfSome f (λ was. Reads was (length bytes) buf new (Some 0))) same read in
    let short : length all ≤ length bytes = got.end refl room in
    let whole : bytes ≡ all = front ∙ take_all (length bytes) all short in
    (Some all, refl, ap whole_segment_of whole)

-- the file ends where the front does
pub heard_end : (told now : Option (Option (List ℕ))) (at : ℕ) (buf new key auths : List ℕ) (image : Option (List ℕ)) (h : Hearing) → now ≡ told → 0 < at → 0 < length buf → IfSome now (λ was. Reads was at buf new (Some 0)) → HearsFront key auths image told at h → HearsFile key auths image told h
heard_end told now at buf new key auths image h same some room read so =
    let bytes = so.0 in
    let placed : IfSome now (λ was. Reads was (length bytes) buf new (Some 0)) = subst (λ (k : ℕ). IfSome now (λ was. Reads was k buf new (Some 0))) (sym so.2) read in
    (bytes, so.1, whole_end told now bytes buf new (omega (arith, so.2, some)) room same so.3 placed)

whole_gone : (told now : Option (Option (List ℕ))) (at : ℕ) (bytes buf new : List ℕ) → 0 < length bytes → now ≡ told → IfSome told (λ was. IsFront was bytes) → IfSome now (λ was. Reads was at buf new None) → IsReadAs whole_segment_of told (Some bytes)
whole_gone None now at bytes buf new some same front read = (Some bytes, tt, refl)
whole_gone (Some None) now at bytes buf new some same front read = absurd (empty bytes (length bytes) front some)
whole_gone (Some (Some all)) now at bytes buf new some same front read = absurd (subst (λ (f : Option (Option (List ℕ))). IfSome f (λ was. Reads was at buf new None)) same read)

-- what was there isn't any more: the object doesn't tell
pub heard_gone : (told now : Option (Option (List ℕ))) (at : ℕ) (buf new key auths : List ℕ) (image : Option (List ℕ)) (h : Hearing) → now ≡ told → 0 < at → IfSome now (λ was. Reads was at buf new None) → HearsFront key auths image told at h → HearsFile key auths image told h
heard_gone told now at buf new key auths image h same some read so =
    (so.0, so.1, whole_gone told now at so.0 buf new (omega (arith, so.2, some)) same so.3 read)

whole_past : (told : Option (Option (List ℕ))) (bytes : List ℕ) → 2 ^ 26 < length bytes → IfSome told (λ was. IsFront was bytes) → IsReadAs whole_segment_of told (Some bytes)
whole_past None bytes more front = (Some bytes, tt, refl)
whole_past (Some None) bytes more front = absurd (empty bytes (length bytes) front (omega (arith, more)))
whole_past (Some (Some all)) bytes more front =
    let size : length bytes ≤ length all = omega (arith, ap length front, length-take (length bytes) all) in
    (Some all, refl, whole_long bytes more ∙ sym (whole_long all (omega (arith, more, size))))

-- more than a segment has was heard
pub heard_past : (told : Option (Option (List ℕ))) (at : ℕ) (key auths : List ℕ) (image : Option (List ℕ)) (h : Hearing) → 2 ^ 26 < at → HearsFront key auths image told at h → HearsFile key auths image told h
heard_past told at key auths image h more so = (so.0, so.1, whole_past told so.0 (omega (arith, so.2, more)) so.3)

-- ---- the front

no_bytes : (limit : ℕ) (bytes : List ℕ) (found : Option (List ℕ)) → Some bytes ≡ option_map (take (limit + 1)) found → (all : List ℕ) × (found ≡ Some all) × (bytes ≡ take (limit + 1) all)
no_bytes limit bytes None is = let none : ◌≡◌ {A = Option (List ℕ)} (Some bytes) None = is in cc
no_bytes limit bytes (Some all) is = (all, refl, cc)

-- a front that is shorter than asked is the whole file
short_whole : (limit : ℕ) (bytes all : List ℕ) → length bytes ≤ limit → bytes ≡ take (limit + 1) all → bytes ≡ all
short_whole limit bytes all short is =
    elim (cases_lt limit (length all)) [
      | inl more ↦
          let size : length (take (limit + 1) all) ≡ limit + 1 = length-take-le (limit + 1) all (omega arith) in
          absurd (omega (arith, size, ap length is, short))
      | inr less ↦ is ∙ take_all (limit + 1) all (omega arith)
    ]

few_bytes : (n : ℕ) → nat_le 16384 n ≡ false → n ≤ 16383
few_bytes n few = elim (cases_lt n 16384) [
  | inl less ↦ omega (arith, less)
  | inr more ↦ absurd (let no : true ≡ false = sym (le-leb 16384 n more) ∙ few in cc)
]

pub short_file : (told : Option (Option (List ℕ))) (key auths : List ℕ) (image : Option (List ℕ)) (bytes : List ℕ) (h : Hearing) → nat_le 16384 (length bytes) ≡ false → Hears h key auths image bytes → IsReadOf 16383 told (Some bytes) → HearsFile key auths image told h
short_file told key auths image bytes h few hears read =
    let at = no_bytes 16383 bytes read.0 read.2 in
    let short : length bytes ≤ 16383 = few_bytes (length bytes) few in
    let whole : bytes ≡ at.0 = short_whole 16383 bytes at.0 short at.2 in
    let found : read.0 ≡ Some bytes = at.1 ∙ ap (λ (l : List ℕ). Some l) (sym whole) in
    (bytes, hears, (read.0, read.1, subst (λ (o : Option (List ℕ)). ReadsAs whole_segment_of o (Some bytes)) (sym found) refl))

front_of : (told : Option (Option (List ℕ))) (found : Option (List ℕ)) (bytes all : List ℕ) → Finds told found → found ≡ Some all → bytes ≡ take (length bytes) all → IfSome told (λ was. IsFront was bytes)
front_of None found bytes all finds is front = tt
front_of (Some None) found bytes all finds is front = let none : ◌≡◌ {A = Option (List ℕ)} None (Some all) = finds ∙ is in cc
front_of (Some (Some one)) found bytes all finds is front =
    let same : Some one ≡ Some all = finds ∙ is in
    let same : one ≡ all = cc in
    front ∙ ap (take (length bytes)) (sym same)

pub long_front : (told : Option (Option (List ℕ))) (key auths : List ℕ) (image : Option (List ℕ)) (bytes : List ℕ) (h : Hearing) → nat_le 16384 (length bytes) ≡ true → Hears h key auths image bytes → IsReadOf 16383 told (Some bytes) → HearsFront key auths image told (length bytes) h
long_front told key auths image bytes h many hears read =
    let at = no_bytes 16383 bytes read.0 read.2 in
    let more : 16384 ≤ length bytes = leb-true 16384 (length bytes) many in
    let size : length bytes ≡ 16384 = omega (arith, more, ap length at.2, length-take 16384 at.0) in
    let front : bytes ≡ take (length bytes) at.0 = at.2 ∙ ap (λ (k : ℕ). take k at.0) (sym size) in
    (bytes, hears, refl, front_of told read.0 bytes at.0 read.1 at.1 front)

-- what stands behind a front of 16,384 bytes is heard too
pub on_front : {E : Type 0} (r : Result (Unit {0}) E) (told : Option (Option (List ℕ))) (front : ℕ) (old new : Hearing) → nat_le 16384 front ≡ true → IfOk r (λ _. (key auths : List ℕ) (image : Option (List ℕ)) → HearsFront key auths image told front old → HearsFile key auths image told new)
    → IfOk r (λ _. (key auths : List ℕ) (image : Option (List ℕ)) (bytes : List ℕ) → length bytes ≡ front → Hears old key auths image bytes → IsReadOf 16383 told (Some bytes) → HearsFile key auths image told new)
on_front (Err e) told front old new many heard = tt
on_front (Ok done) told front old new many heard = λ key auths image bytes len hears read.
    heard key auths image (subst (λ (n : ℕ). HearsFront key auths image told n old) len (long_front told key auths image bytes old (ap (nat_le 16384) len ∙ many) hears read))

-- what the audit of the bytes that were heard says of the file
pub heard_file : (key auths : List ℕ) (image : Option (List ℕ)) (told mid : Option (Option (List ℕ))) (keep : Bool) (h : Hearing) (a : Audited) → mid ≡ told → HearsFile key auths image mid h → h.keep ≡ keep
    → ((key auths : List ℕ) (image : Option (List ℕ)) (bytes : List ℕ) → Hears h key auths image bytes → IsAudited key auths image h.keep bytes a) → IsFileAudited key auths image keep told (Some a)
heard_file key auths image told mid keep h a same heard k finish =
    (heard.0, subst (λ (t : Option (Option (List ℕ))). IsReadAs whole_segment_of t (Some heard.0)) same heard.2, subst (λ (x : Bool). IsAudited key auths image x heard.0 a) k (finish key auths image heard.0 heard.1))

-- ---- a fault that is handed on

pub err_is : {A E : Type 0} (r : Result A E) (x : E) → IsErrAnd r (λ y. y ≡ x) → r ≡ Err x
err_is (Ok a) x is = absurd is
err_is (Err y) x is = ap (λ z. Err z) is

pub one_fault : {A : Type 0} {x y : Fault} → ◌≡◌ {A = Result A Fault} (Err x) (Err y) → x ≡ y
one_fault e = cc
