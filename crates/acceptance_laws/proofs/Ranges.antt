-- The entries of a range among a journal's.
use Rattle.std.proofs.Common.{◌≡◌, ℕ, ◌+◌, ◌≤◌, ◌^◌, Bool, true, false, cond, nat_eq, nat_le, ◌&&◌, List, [], ◌∷◌, ◌++◌, length, Option, Some, None, refl, sym, ap, subst, ◌∙◌, arith, eqb-true, eq-eqb, ne_eqb, leb-true, le-leb}
use Rattle.avm_num.proofs.Numbers.{and_true}
use Rattle.avm_model.specs.Chain.{next_hash}
use Rattle.avm_model.specs.Entries.{numbered, snaps}
use Rattle.avm_model.specs.Frame.{FrameData}
use Rattle.avm_model.specs.Machine.{State}
use Rattle.avm_model.specs.Marks.{hash_in}
use Rattle.avm_model.specs.Segment.{segment_bytes}
use Rattle.export_model.specs.Exports.{IsExport, IsExportOf, IsStateAt, begins_at, exported, in_range, range, segment_for, stretch}
use Rattle.honest_model.specs.Keeps.{last_of, up_to}
use Rattle.journal_model.specs.Journal.{JournalData, entries}
use Rattle.rebut_model.specs.Texts.{from_number}
use Rattle.rebut_model.proofs.Signed.{from_first}
use Rattle.rebut_model.proofs.Stretches.{number_behind}

-- ---- what was exported

pub record Exported (j : JournalData) (from to : ℕ) (bytes : List ℕ) : Type 0 where
  pub state : State
  pub at : IsStateAt j from state
  pub range_is : in_range j from to bytes ≡ true
  pub bytes_are : bytes ≡ segment_bytes (segment_for j from to state)

exported_for : (j : JournalData) (from to : ℕ) (bytes : List ℕ) (s : State) → IsStateAt j from s → (b : Bool) → in_range j from to (segment_bytes (segment_for j from to s)) ≡ b
    → exported bytes ≡ cond b (exported (segment_bytes (segment_for j from to s))) range → Exported j from to bytes
exported_for j from to bytes s at true i e =
    let same : bytes ≡ segment_bytes (segment_for j from to s) = cc in
    record { state = s; at = at; range_is = ap (in_range j from to) same ∙ i; bytes_are = same }
exported_for j from to bytes s at false i e = absurd cc

exported_of : (fault : Option ℕ) (j : JournalData) (from to : ℕ) (bytes : List ℕ) → IsExportOf fault j from to (exported bytes) → Exported j from to bytes
exported_of (Some n) j from to bytes e = absurd cc
exported_of None j from to bytes (s, at, e) = exported_for j from to bytes s at (in_range j from to (segment_bytes (segment_for j from to s))) refl e

pub exported_is : (j : JournalData) (from to : ℕ) (bytes : List ℕ) → IsExport j from to (exported bytes) → Exported j from to bytes
exported_is j from to bytes e = exported_of e.fault j from to bytes e.answer_is

-- what a range is
pub record InRange (j : JournalData) (from to : ℕ) (bytes : List ℕ) : Type 0 where
  pub begins : begins_at from (entries j) ≡ true
  pub order : from ≤ to
  pub there : to ≤ last_of j
  pub few : nat_le (snaps (stretch j from to)) 64 ≡ true
  pub short : length bytes ≤ 2 ^ 26

five : (a b c d e : Bool) → (a && b && c && d && e) ≡ true → (a ≡ true) × (b ≡ true) × (c ≡ true) × (d ≡ true) × (e ≡ true)
five true true true true true h = (refl, refl, refl, refl, refl)
five true true true true false h = absurd cc
five true true true false e h = absurd cc
five true true false d e h = absurd cc
five true false c d e h = absurd cc
five false b c d e h = absurd cc

pub in_range_is : (j : JournalData) (from to : ℕ) (bytes : List ℕ) → in_range j from to bytes ≡ true → InRange j from to bytes
in_range_is j from to bytes e =
    let p = five (begins_at from (entries j)) (nat_le from to) (nat_le to (last_of j)) (nat_le (snaps (stretch j from to)) 64) (nat_le (length bytes) (2 ^ 26)) e in
    record { begins = p.0; order = leb-true from to p.1; there = leb-true to (last_of j) p.2; few = p.3; short = leb-true (length bytes) (2 ^ 26) p.4 }

-- ---- the entries from a number on

pub number_frames : (n k : ℕ) (h : List ℕ) (a : List FrameData) (f : FrameData) (b : List FrameData) → numbered k (a ++ f ∷ b) ≡ true → f.seq ≡ n → (from_number n h (a ++ f ∷ b)).frames ≡ f ∷ b
number_frames n k h [] f b num is = rw (eq-eqb f.seq n is) refl
number_frames n k h (g ∷ a) f b num is =
    let p = and_true (nat_eq g.seq k) (numbered (k + 1) (a ++ f ∷ b)) num in
    let own : g.seq ≡ k = eqb-true _ _ p.0 in
    let far = number_behind (k + 1) a f b p.1 in
    rw (ne_eqb g.seq n (λ (s : g.seq ≡ n). omega (arith, own, far, is, s))) (number_frames n (k + 1) (next_hash h g) a f b p.1 is)

-- ---- the entries up to a number

pub up_to_first : (n : ℕ) (f : FrameData) (fs : List FrameData) → f.seq ≤ n → up_to n (f ∷ fs) ≡ f ∷ up_to n fs
up_to_first n f fs le = rw (le-leb f.seq n le) refl

pub record Front (n : ℕ) (fs : List FrameData) : Type 0 where
  pub rest : List FrameData
  pub is : fs ≡ up_to n fs ++ rest

pub up_to_front : (n : ℕ) (fs : List FrameData) → Front n fs
up_to_front n [] = record { rest = []; is = refl }
up_to_front n (f ∷ fs) = go (nat_le f.seq n) refl (up_to_front n fs)
  where
    go : (b : Bool) → nat_le f.seq n ≡ b → Front n fs → Front n (f ∷ fs)
    go true e r = record { rest = r.rest; is = rw e (ap (λ (l : List FrameData). f ∷ l) r.is) }
    go false e r = record { rest = f ∷ fs; is = rw e refl }

pub numbered_front : (k : ℕ) (a b : List FrameData) → numbered k (a ++ b) ≡ true → numbered k a ≡ true
numbered_front k [] b e = refl
numbered_front k (f ∷ a) b e =
    let p = and_true (nat_eq f.seq k) (numbered (k + 1) (a ++ b)) e in
    rw (p.0, numbered_front (k + 1) a b p.1) refl

-- a hash in front of a number is one among the entries up to it
pub hash_up_to : (n m k : ℕ) (h g : List ℕ) (fs : List FrameData) → numbered k fs ≡ true → m ≤ n → hash_in m h fs ≡ Some g → hash_in m h (up_to n fs) ≡ Some g
hash_up_to n m k h g [] num le e = e
hash_up_to n m k h g (f ∷ fs) num le e =
    let p = and_true (nat_eq f.seq k) (numbered (k + 1) fs) num in
    let low = from_first m k h g (f ∷ fs) num e in
    let own : f.seq ≡ k = eqb-true _ _ p.0 in
    let keeps = up_to_first n f fs (omega (arith, own, low, le)) in
    subst (λ (l : List FrameData). hash_in m h l ≡ Some g) (sym keeps) (go (nat_eq f.seq m) refl e (hash_up_to n m (k + 1) (next_hash h f) g fs p.1 le))
  where
    go : (b : Bool) → nat_eq f.seq m ≡ b → cond b (Some (next_hash h f)) (hash_in m (next_hash h f) fs) ≡ Some g → (hash_in m (next_hash h f) fs ≡ Some g → hash_in m (next_hash h f) (up_to n fs) ≡ Some g) → hash_in m h (f ∷ up_to n fs) ≡ Some g
    go true i q ih = rw i q
    go false i q ih = rw i (ih q)
