-- What a journal has bound is a number and a hash of its chain.
use Rattle.std.proofs.Common.{◌≡◌, ℕ, ◌+◌, ◌-◌, ◌≤◌, Bool, true, false, cond, nat_eq, ◌||◌, List, [], ◌∷◌, ◌++◌, map, Some, refl, sym, ap, subst, ◌∙◌, arith, eqb-true, ne_eqb, eq-eqb, ◌⊎◌, inl, inr}
use Rattle.std.specs.List.{list_any}
use Rattle.std.specs.Str.{bytes_eq}
use Rattle.avm_num.proofs.Numbers.{and_true}
use Rattle.avm_model.specs.Frame.{FrameData}
use Rattle.avm_model.specs.Entries.{numbered}
use Rattle.avm_model.specs.Auth.{AuthData}
use Rattle.avm_model.specs.Chain.{next_hash}
use Rattle.avm_model.specs.Marks.{hash_in}
use Rattle.journal_model.specs.Part.{Part, entry, seal, keep, frames_in, is_signed_kind}
use Rattle.journal_model.specs.Journal.{JournalData, parts, entries}
use Rattle.journal_model.specs.Standing.{SignedData, StandingData, start, behind, entry_signed, signed_from, signed_items, first_pair, bound}
use Rattle.journal_model.specs.Fits.{FitsJournal}
use Rattle.journal_model.proofs.Fitting.{first_entry, entries_numbered}
use Rattle.rebut_model.specs.Bound.{is_pair, is_bound}
use Rattle.rebut_model.proofs.Named.{same_bytes}

-- numbers before the first have no hash
pub from_first : (q k : ℕ) (h g : List ℕ) (fs : List FrameData) → numbered k fs ≡ true → hash_in q h fs ≡ Some g → k ≤ q
from_first q k h g [] e i = absurd cc
from_first q k h g (f ∷ fs) e i =
    let p = and_true (nat_eq f.seq k) (numbered (k + 1) fs) e in
    go (nat_eq f.seq q) refl (eqb-true _ _ p.0) (λ j. from_first q (k + 1) (next_hash h f) g fs p.1 j) i
  where
    go : (b : Bool) → nat_eq f.seq q ≡ b → f.seq ≡ k → (hash_in q (next_hash h f) fs ≡ Some g → k + 1 ≤ q) → cond b (Some (next_hash h f)) (hash_in q (next_hash h f) fs) ≡ Some g → k ≤ q
    go true s is ih j = let t : f.seq ≡ q = eqb-true _ _ s in omega arith
    go false s is ih j = let t = ih j in omega arith

either : (a b : Bool) → (a || b) ≡ true → (a ≡ true) ⊎ (b ≡ true)
either true b e = inl refl
either false b e = inr e

-- the number and hash of the last entry, or of one of the chain behind it
abbrev pub OnChain : AuthData → ℕ → List ℕ → List FrameData → Type 0
OnChain a n h fs = ((a.seq ≡ n) × (a.hash ≡ h)) ⊎ (hash_in a.seq h fs ≡ Some a.hash)

matched : (a : AuthData) (n : ℕ) (h : List ℕ) → is_pair a (n, h) ≡ true → (a.seq ≡ n) × (a.hash ≡ h)
matched a n h e = let p = and_true (nat_eq n a.seq) (bytes_eq h a.hash) e in (sym (eqb-true _ _ p.0), sym (same_bytes _ _ p.1))

-- one entry further
goes : (a : AuthData) (f : FrameData) (h : List ℕ) (fs : List FrameData) → numbered (f.seq + 1) fs ≡ true → OnChain a f.seq (next_hash h f) fs → hash_in a.seq h (f ∷ fs) ≡ Some a.hash
goes a f h fs n (inl p) = rw (eq-eqb f.seq a.seq (sym p.0)) (ap (λ (x : List ℕ). Some x) (sym p.1))
goes a f h fs n (inr e) =
    let le = from_first a.seq (f.seq + 1) (next_hash h f) a.hash fs n e in
    rw (ne_eqb f.seq a.seq (λ (s : f.seq ≡ a.seq). omega arith)) e

-- one of these is signed
abbrev any_signed : AuthData → List SignedData → Bool
any_signed a ss = list_any (is_pair a) (map (λ (s : SignedData). (s.seq, s.hash)) ss)

-- an entry's own, or another
signed_or : (a : AuthData) (s : StandingData) (f : FrameData) (fs : List FrameData) (others : List SignedData) (b : Bool) → (any_signed a others ≡ true → OnChain a f.seq (next_hash s.hash f) fs) → any_signed a (cond b (entry_signed s f ∷ []) [] ++ others) ≡ true → OnChain a f.seq (next_hash s.hash f) fs
signed_or a s f fs others false there i = there i
signed_or a s f fs others true there i = elim (either _ _ i) [
  | inl here ↦ inl (matched a f.seq (next_hash s.hash f) here)
  | inr more ↦ there more
]

pub on_chain : (a : AuthData) (s : StandingData) (n : ℕ) (ps : List Part) → s.next ≡ n + 1 → numbered (n + 1) (frames_in ps) ≡ true → any_signed a (signed_from s ps) ≡ true → OnChain a n s.hash (frames_in ps)
on_chain a s n [] at num e = absurd cc
on_chain a s n (seal ∷ ps) at num e = elim (either _ _ e) [
  | inl here ↦ let m = matched a (s.next - 1) s.hash here in let q : s.next - 1 ≡ n = omega (arith, at) in inl (m.0 ∙ q, m.1)
  | inr there ↦ on_chain a (behind s seal) n ps at num there
]
on_chain a s n (keep k ∷ ps) at num e = on_chain a s n ps at num e
on_chain a s n (entry f ∷ ps) at num e =
    let p = and_true (nat_eq f.seq (n + 1)) (numbered (n + 1 + 1) (frames_in ps)) num in
    let is : f.seq ≡ n + 1 = eqb-true _ _ p.0 in
    let rest : numbered (f.seq + 1) (frames_in ps) ≡ true = rw is p.1 in
    let there = on_chain a (behind s (entry f)) f.seq ps (omega (arith, at, is)) rest in
    inr (goes a f s.hash (frames_in ps) rest (signed_or a s f (frames_in ps) (signed_from (behind s (entry f)) ps) (is_signed_kind f.kind) there e))

any_both : (p : ℕ × List ℕ → Bool) (xs ys : List (ℕ × List ℕ)) → list_any p (xs ++ ys) ≡ true → (list_any p xs ≡ true) ⊎ (list_any p ys ≡ true)
any_both p [] ys e = inr e
any_both p (x ∷ xs) ys e = elim (either (p x) (list_any p (xs ++ ys)) e) [
  | inl here ↦ inl (rw here refl)
  | inr there ↦ elim (any_both p xs ys there) [ inl a ↦ inl (go (p x) (list_any p xs) a) | inr b ↦ inr b ]
]
  where
    go : (a b : Bool) → b ≡ true → (a || b) ≡ true
    go true b e = refl
    go false b e = e

first_on_chain : (a : AuthData) (n : ℕ) (h : List ℕ) (f : FrameData) (fs : List FrameData) → list_any (is_pair a) (cond (nat_eq n 1) [] ((f.seq, next_hash h f) ∷ [])) ≡ true → OnChain a f.seq (next_hash h f) fs
first_on_chain a n h f fs e = go (nat_eq n 1) e
  where
    go : (b : Bool) → list_any (is_pair a) (cond b [] ((f.seq, next_hash h f) ∷ [])) ≡ true → OnChain a f.seq (next_hash h f) fs
    go true i = absurd cc
    go false i = elim (either _ _ i) [ inl here ↦ inl (matched a f.seq (next_hash h f) here) | inr none ↦ absurd cc ]

-- a bound authenticator has the hash of the journal's chain at its number
pub bound_on_chain : (j : JournalData) (a : AuthData) → FitsJournal j → is_bound j a ≡ true → hash_in a.seq j.header.before (entries j) ≡ Some a.hash
unfolding bound signed_items entries
bound_on_chain j a w e =
    let o = first_entry j w in
    let f = o.0 in
    let ps = o.1 in
    let same : frames_in (parts j) ≡ f ∷ frames_in ps = ap frames_in o.2 in
    let num : numbered j.header.first (f ∷ frames_in ps) ≡ true = subst (λ (fs : List FrameData). numbered j.header.first fs ≡ true) same (entries_numbered j w) in
    let p = and_true (nat_eq f.seq j.header.first) (numbered (j.header.first + 1) (frames_in ps)) num in
    let is : f.seq ≡ j.header.first = eqb-true _ _ p.0 in
    let rest : numbered (f.seq + 1) (frames_in ps) ≡ true = rw is p.1 in
    let s = start j.header in
    let more = on_chain a (behind s (entry f)) f.seq ps (omega (arith, is)) rest in
    let there : OnChain a f.seq (next_hash j.header.before f) (frames_in ps) = elim (any_both (is_pair a) (first_pair j.header (frames_in (parts j))) (map (λ (x : SignedData). (x.seq, x.hash)) (signed_from s (parts j))) e) [
      | inl x ↦ first_on_chain a j.header.first j.header.before f (frames_in ps) (subst (λ (fs : List FrameData). list_any (is_pair a) (first_pair j.header fs) ≡ true) same x)
      | inr y ↦ signed_or a s f (frames_in ps) (signed_from (behind s (entry f)) ps) (is_signed_kind f.kind) more (subst (λ (qs : List Part). any_signed a (signed_from s qs) ≡ true) o.2 y)
    ] in
    ap (λ (fs : List FrameData). hash_in a.seq j.header.before fs) same ∙ goes a f j.header.before (frames_in ps) rest there
