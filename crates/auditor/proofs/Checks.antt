-- The tests of a check are what holds.
use Rattle.std.proofs.Common.{◌≡◌, ◌≢◌, ℕ, Bool, true, false, not, nat_eq, nat_le, ◌&&◌, List, Option, Some, None, refl, sym, ap, subst, eqb-true, eq-eqb, leb-true, le-leb, MatchBool}
use Rattle.std.proofs.lemmas.Slice.Eq.{bytes_eq-Decides}
use Rattle.std.specs.Str.{bytes_eq as same}
use Rattle.avm_num.specs.Walk.{behind_of, is_nil}
use Rattle.avm_num.proofs.Numbers.{and_true, kept_some}
use Rattle.avm_model.specs.Frame.{FrameData, frame_at, frames_of}
use Rattle.avm_model.specs.Entries.{numbered}
use Rattle.avm_model.specs.Chain.{top_of}
use Rattle.avm_model.specs.Auth.{AuthData}
use Rattle.avm_model.specs.Marks.{verifies, hash_in}
use Rattle.avm_model.specs.Audit.{last_number}
use Rattle.avm_model.specs.Holds.{DoubleHolds, ForkHolds}
use Rattle.auditor.specs.Tests.{run_on, is_hash, double_test, fork_test}
use Rattle.audit_stream.proofs.MarkLaws.{same_refl}

not_true : (b : Bool) → not b ≡ true → b ≡ false
not_true false e = refl
not_true true e = absurd cc

double_true : (key : List ℕ) (a b : AuthData) → double_test key a b ≡ true → DoubleHolds key a b
double_true key a b e =
    let t = and_true (nat_eq a.seq b.seq && not (same a.hash b.hash) && verifies key a) (verifies key b) e in
    let u = and_true (nat_eq a.seq b.seq && not (same a.hash b.hash)) (verifies key a) t.0 in
    let w = and_true (nat_eq a.seq b.seq) (not (same a.hash b.hash)) u.0 in
    record { seq = eqb-true _ _ w.0; apart = λ h. differ a.hash b.hash h (not_true _ w.1); one = u.1; two = t.1 }
  where
    differ : (x y : List ℕ) → x ≡ y → same x y ≡ false → ⊥
    differ x y h n = let r : same x y ≡ true = subst (λ (z : List ℕ). same x z ≡ true) h (same_refl x) in cc

not_same : (x y : List ℕ) → x ≢ y → same x y ≡ false
not_same x y ne = go (same x y) refl
  where
    go : (b : Bool) → same x y ≡ b → b ≡ false
    go false e = refl
    go true e = absurd (ne ((bytes_eq-Decides x y).0 e))

double_back : (key : List ℕ) (a b : AuthData) → DoubleHolds key a b → double_test key a b ≡ true
double_back key a b h = rw (eq-eqb _ _ h.seq, not_same _ _ h.apart, h.one, h.two) refl

pub double_decides : (r : Bool) (key : List ℕ) (a b : AuthData) → r ≡ double_test key a b → MatchBool r (DoubleHolds key a b) (DoubleHolds key a b → ⊥)
double_decides true key a b e = double_true key a b (sym e)
double_decides false key a b e = λ h. let t = double_back key a b h in absurd cc

hash_not : (hash : List ℕ) (o : Option (List ℕ)) → is_hash hash o ≡ false → o ≢ Some hash
hash_not hash None e h = cc
hash_not hash (Some g) e h = differ g hash (some_is g hash h) e
  where
    some_is : (x y : List ℕ) → Some x ≡ Some y → x ≡ y
    some_is x y q = cc

    differ : (x y : List ℕ) → x ≡ y → same x y ≡ false → ⊥
    differ x y q n = let r : same x y ≡ true = subst (λ (z : List ℕ). same x z ≡ true) q (same_refl x) in cc

hash_back : (hash : List ℕ) (o : Option (List ℕ)) → o ≢ Some hash → is_hash hash o ≡ false
hash_back hash None ne = refl
hash_back hash (Some g) ne = not_same g hash (λ h. ne (ap (λ (x : List ℕ). Some x) h))

fork_true : (key : List ℕ) (start : ℕ) (before bytes : List ℕ) (top other : AuthData) → fork_test key start before bytes top other ≡ true → ForkHolds key start before bytes top other (frames_of bytes)
fork_true key start before bytes top other e =
    let a = and_true _ (verifies key other) e in
    let b = and_true _ (verifies key top) a.0 in
    let c = and_true _ (not (is_hash other.hash (hash_in other.seq before (frames_of bytes)))) b.0 in
    let d = and_true _ (same (top_of before (frames_of bytes)) top.hash) c.0 in
    let f = and_true _ (nat_eq (last_number 0 (frames_of bytes)) top.seq) d.0 in
    let g = and_true _ (run_on start bytes) f.0 in
    let h = and_true (nat_le start other.seq) (nat_le other.seq top.seq) g.0 in
    let n = and_true (numbered start (frames_of bytes)) (is_nil (behind_of frame_at bytes)) g.1 in
    record {
      frames = rw n.1 refl;
      numbers = n.0;
      last = eqb-true _ _ f.1;
      chain = (bytes_eq-Decides _ _).0 d.1;
      from = leb-true _ _ h.0;
      to = leb-true _ _ h.1;
      apart = hash_not other.hash _ (not_true _ c.1);
      one = b.1;
      two = a.1;
    }

fork_back : (key : List ℕ) (start : ℕ) (before bytes : List ℕ) (top other : AuthData) (fs : List FrameData) → ForkHolds key start before bytes top other fs → fork_test key start before bytes top other ≡ true
fork_back key start before bytes top other fs h =
    let k = kept_some (is_nil (behind_of frame_at bytes)) (frames_of bytes) fs h.frames in
    rw (k.0, k.1, h.numbers, le-leb _ _ h.from, le-leb _ _ h.to, eq-eqb _ _ h.last, h.chain, same_refl top.hash, hash_back other.hash _ h.apart, h.one, h.two) refl

pub fork_decides : (r : Bool) (key : List ℕ) (start : ℕ) (before bytes : List ℕ) (top other : AuthData) → r ≡ fork_test key start before bytes top other
    → MatchBool r ((fs : List FrameData) × ForkHolds key start before bytes top other fs) ((fs : List FrameData) × ForkHolds key start before bytes top other fs → ⊥)
fork_decides true key start before bytes top other e = (frames_of bytes, fork_true key start before bytes top other (sym e))
fork_decides false key start before bytes top other e = λ p. let t = fork_back key start before bytes top other p.0 p.1 in absurd cc
