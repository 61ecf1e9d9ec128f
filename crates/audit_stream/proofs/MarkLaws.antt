-- Authenticators by their marks.
use Rattle.std.proofs.Common.{◌≡◌, ◌≢◌, ℕ, ◌≤◌, Bool, true, false, not, cond, nat_le, List, map, slice_get, option_map, Option, Some, None, refl, sym, ap, subst, ◌∙◌, arith, leb-true}
use Rattle.std.proofs.lemmas.Option.{slice_get-map}
use Rattle.std.proofs.lemmas.Slice.Eq.{bytes_eq-Decides}
use Rattle.std.specs.Str.{bytes_eq as same}
use Rattle.avm_num.proofs.Numbers.{and_true}
use Rattle.avm_model.specs.Frame.{FrameData}
use Rattle.avm_model.specs.Auth.{AuthData}
use Rattle.avm_model.specs.declared.judged.Marked.{Marked}
use Rattle.avm_model.specs.declared.judged.Mark.TheVariants as table
use Rattle.avm_model.specs.Marks.{verifies, hash_in, mark_at, marked, is_same, is_other, cover}
use Rattle.avm_model.specs.Basics.{first_at}
use Rattle.avm_model.specs.Verdict.{conflicts}
use Rattle.avm_model.proofs.Covers.{cover_is}
use Rattle.audit_stream.proofs.RowLaws.{first_at_some, first_at_none, all_get, at_zero}

pub option_map_some : {A B : Type 0} (f : A → B) (o : Option A) (y : B) → option_map f o ≡ Some y → (x : A) × (o ≡ Some x) × (f x ≡ y)
option_map_some f None y e = absurd cc
option_map_some f (Some x) y e = (x, refl, cc)

pub mark_same : (hash : List ℕ) (o : Option (List ℕ)) → is_same (mark_at hash o) ≡ true → o ≡ Some hash
mark_same hash None e = absurd cc
mark_same hash (Some g) e = go (same hash g) refl e
  where
    go : (b : Bool) → same hash g ≡ b → is_same (cond b table.Same table.Other) ≡ true → Some g ≡ Some hash
    go true q h = ap (λ (x : List ℕ). Some x) (sym ((bytes_eq-Decides hash g).0 q))
    go false q h = absurd cc

pub same_refl : (a : List ℕ) → same a a ≡ true
same_refl a = (bytes_eq-Decides a a).1 refl

mark_other : (hash : List ℕ) (o : Option (List ℕ)) → is_other (mark_at hash o) ≡ true → (o ≢ Some hash) × (g : List ℕ) × (o ≡ Some g)
mark_other hash None e = absurd cc
mark_other hash (Some g) e = go (same hash g) refl e
  where
    go : (b : Bool) → same hash g ≡ b → is_other (cond b table.Same table.Other) ≡ true → (Some g ≢ Some hash) × (k : List ℕ) × (Some g ≡ Some k)
    go true q h = absurd cc
    go false q h = ((λ (s : Some g ≡ Some hash). let t : hash ≡ g = cc in let r : same hash g ≡ true = subst (λ (x : List ℕ). same hash x ≡ true) t (same_refl hash) in absurd cc), g, refl)

pub at_mark : (h : List ℕ) (fs : List FrameData) (auths : List AuthData) (i : ℕ) (m : Marked) → slice_get (map (marked h fs) auths) i ≡ Some m → (a : AuthData) × (slice_get auths i ≡ Some a) × (marked h fs a ≡ m)
at_mark h fs auths i m e = option_map_some (marked h fs) (slice_get auths i) m (sym (slice_get-map (marked h fs) auths i) ∙ e)

pub record Top (h : List ℕ) (fs : List FrameData) (auths : List AuthData) (j n : ℕ) : Type 0 where
  pub auth : AuthData
  pub at : slice_get auths j ≡ Some auth
  pub seq : auth.seq ≡ n
  pub hash : hash_in auth.seq h fs ≡ Some auth.hash

-- the cover is an authenticator of the chain
pub top_is : (h : List ℕ) (fs : List FrameData) (auths : List AuthData) (b : ℕ × ℕ) → cover (map (marked h fs) auths) ≡ Some b → Top h fs auths b.0 b.1
top_is h fs auths b e =
    let c = cover_is (map (marked h fs) auths) b.0 b.1 e in
    let a = at_mark h fs auths b.0 c.mark c.there in
    let s : is_same (mark_at a.0.hash (hash_in a.0.seq h fs)) ≡ true = subst (λ (m : Marked). is_same m.mark ≡ true) (sym a.2) c.same in
    record { auth = a.0; at = a.1; seq = ap (λ (m : Marked). m.seq) a.2 ∙ c.number; hash = mark_same a.0.hash _ s }

pub record Conflict (h : List ℕ) (fs : List FrameData) (auths : List AuthData) (i n : ℕ) : Type 0 where
  pub auth : AuthData
  pub at : slice_get auths i ≡ Some auth
  pub to : auth.seq ≤ n
  pub apart : hash_in auth.seq h fs ≢ Some auth.hash
  pub hash : List ℕ
  pub there : hash_in auth.seq h fs ≡ Some hash

pub conflict_is : (h : List ℕ) (fs : List FrameData) (auths : List AuthData) (i n : ℕ) → first_at (conflicts n) 0 (map (marked h fs) auths) ≡ Some i → Conflict h fs auths i n
conflict_is h fs auths i n e =
    let f = first_at_some (conflicts n) 0 i (map (marked h fs) auths) e in
    let a = at_mark h fs auths i f.0 (at_zero _ i f.0 f.2) in
    let t = and_true (is_other f.0.mark) (nat_le f.0.seq n) f.3 in
    let s : is_other (mark_at a.0.hash (hash_in a.0.seq h fs)) ≡ true = subst (λ (m : Marked). is_other m.mark ≡ true) (sym a.2) t.0 in
    let seq : a.0.seq ≡ f.0.seq = ap (λ (m : Marked). m.seq) a.2 in
    let le = leb-true _ _ t.1 in
    let o = mark_other a.0.hash _ s in
    record { auth = a.0; at = a.1; to = omega arith; apart = o.0; hash = o.1; there = o.2 }

pub not_false : (b : Bool) → not b ≡ false → b ≡ true
not_false true h = refl
not_false false h = absurd cc

pub verified : (key : List ℕ) (auths : List AuthData) (i : ℕ) (a : AuthData) → first_at (λ (x : AuthData). not (verifies key x)) 0 auths ≡ None → slice_get auths i ≡ Some a → verifies key a ≡ true
verified key auths i a e at = not_false _ (all_get (λ (x : AuthData). not (verifies key x) ≡ false) auths i a (first_at_none _ 0 auths e) at)
