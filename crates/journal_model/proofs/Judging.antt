-- Parts are judged one by one.
use Rattle.std.proofs.Common.{◌≡◌, ℕ, ◌+◌, ◌≤◌, ◌==◌, Bool, true, false, ◌&&◌, cond, nat_lt, nat_le, List, [], ◌∷◌, ◌++◌, length, Option, Some, None, option_map, IfSome, ◌<◌, fold, refl, sym, ap, ◌∙◌, arith, append-nil, le-leb, eqb-true}
use Rattle.std.proofs.Math.Nat.{add_assoc}
use Rattle.std.specs.List.{flat_map}
use Rattle.std.proofs.lemmas.Grind.{flat_map-append}
use Rattle.std.proofs.lemmas.List.Sums.{sum_by-append, fold-append}
use Rattle.std.proofs.lemmas.Bool.{leb-false, leb-true, lt-leb}
use Rattle.avm_num.specs.Bytes.{◌>>=◌, kept}
use Rattle.avm_num.specs.Walk.{all_at, is_nil}
use Rattle.avm_num.proofs.Numbers.{and_true}
use Rattle.avm_model.specs.Basics.{flag}
use Rattle.avm_model.specs.Frame.{FrameData}
use Rattle.avm_model.specs.Chain.{top_of}
use Rattle.journal_model.specs.Part.{Part, entry, seal, keep, KeepData, pages_of, part_at, signs, is_signed_kind, frames_in, signing}
use Rattle.journal_model.specs.Header.{most_leaves}
use Rattle.journal_model.specs.Journal.{JournalData, parts, entries, next_number, last_hash, used, may_stand, snap_of, is_number, pages_ascend, follows, page_count_of, continues, with_record, with_parts}
use Rattle.journal_model.specs.Standing.{IsLow, StandingData, SignedData, entry_signed, start, behind, prior_of, ends_sealed, is_sealed, prior_hash, standing, Bounds, bounds, judged, fits_part, snap_behind, continued}
use Rattle.journal_model.proofs.Parts.{all_some, all_none, IsNumbered}

signing_cons : (p : Part) (ps : List Part) → signing (p ∷ ps) ≡ flag (signs p) + signing ps
unfolding signing
signing_cons p ps = let e = sum_by-append (λ x. cond (signs x) 1 0) (p ∷ []) ps in omega (arith, e)

pub signing_append : (ps qs : List Part) → signing (ps ++ qs) ≡ signing ps + signing qs
unfolding signing
signing_append ps qs = sum_by-append (λ x. cond (signs x) 1 0) ps qs

signing_nil : signing [] ≡ 0
unfolding signing
signing_nil = refl

-- ---- one part

entry_goes : (b : Bounds) (s : StandingData) (snap : Option ℕ) (f : FrameData) (ps : List Part) → fits_part b s snap (entry f) ≡ true → judged b s snap (entry f ∷ ps) ≡ judged b (behind s (entry f)) (snap_of f) ps
entry_goes b s snap f ps is =
    let t = and_true (f.seq == s.next && may_stand b.first s.next f.kind) _ is in
    let u = and_true (f.seq == s.next) _ t.0 in
    rw (u.0, u.1, signing_cons (entry f) ps, add_assoc s.used (flag (is_signed_kind f.kind)) (signing ps)) refl

seal_goes : (b : Bounds) (s : StandingData) (snap : Option ℕ) (ps : List Part) → fits_part b s snap seal ≡ true → judged b s snap (seal ∷ ps) ≡ judged b (behind s seal) None ps
seal_goes b s snap ps is =
    let t = and_true (nat_lt b.first s.next) _ is in
    rw (t.0, signing_cons seal ps, add_assoc s.used 1 (signing ps)) refl

keep_goes : (b : Bounds) (s : StandingData) (snap : Option ℕ) (k : KeepData) (ps : List Part) → fits_part b s snap (keep k) ≡ true → judged b s snap (keep k ∷ ps) ≡ judged b s None ps
keep_goes b s snap k ps is =
    let t = and_true (is_number snap k.seq) _ is in
    let n : signing (keep k ∷ ps) ≡ signing ps = signing_cons (keep k) ps ∙ omega arith in
    rw (t.0, t.1, n) refl

pub judged_goes : (b : Bounds) (s : StandingData) (snap : Option ℕ) (p : Part) (ps : List Part) → fits_part b s snap p ≡ true → judged b s snap (p ∷ ps) ≡ judged b (behind s p) (snap_behind p) ps
judged_goes b s snap (entry f) ps is = entry_goes b s snap f ps is
judged_goes b s snap seal ps is = seal_goes b s snap ps is
judged_goes b s snap (keep k) ps is = keep_goes b s snap k ps is

-- a test of three parts fails where the last holds more
fails : {A : Type 0} (x y z : Bool) (n m most : ℕ) (r : A) → (x && y && nat_le n most) ≡ false → n ≤ m → kept ((x && y && z) && nat_le m most) r ≡ None
fails false y z n m most r e le = refl
fails true false z n m most r e le = refl
fails true true false n m most r e le = refl
fails true true true n m most r e le = rw (lt-leb m most (omega (arith, leb-false n most e, le))) refl

fails_2 : {A : Type 0} (x z : Bool) (n m most : ℕ) (r : A) → (x && nat_le n most) ≡ false → n ≤ m → kept ((x && z) && nat_le m most) r ≡ None
fails_2 false z n m most r e le = refl
fails_2 true false n m most r e le = refl
fails_2 true true n m most r e le = rw (lt-leb m most (omega (arith, leb-false n most e, le))) refl

fails_3 : {A : Type 0} (x y z w : Bool) (r : A) → (x && y) ≡ false → kept ((x && y && z) && w) r ≡ None
fails_3 false y z w r e = refl
fails_3 true false z w r e = refl
fails_3 true true z w r e = absurd cc

pub judged_stops : (b : Bounds) (s : StandingData) (snap : Option ℕ) (p : Part) (ps : List Part) → fits_part b s snap p ≡ false → judged b s snap (p ∷ ps) ≡ None
judged_stops b s snap (entry f) ps is =
    fails (f.seq == s.next) (may_stand b.first s.next f.kind) (follows b.first b.pages (s.next + 1) (snap_of f) ps) (s.used + flag (is_signed_kind f.kind)) (s.used + signing (entry f ∷ ps)) b.most _ is (omega (arith, signing_cons (entry f) ps))
judged_stops b s snap seal ps is =
    fails_2 (nat_lt b.first s.next) (follows b.first b.pages s.next None ps) (s.used + 1) (s.used + signing (seal ∷ ps)) b.most _ is (omega (arith, signing_cons seal ps))
judged_stops b s snap (keep k) ps is = fails_3 (is_number snap k.seq) (pages_ascend 0 b.pages (pages_of k)) (follows b.first b.pages s.next None ps) (nat_le (s.used + signing (keep k ∷ ps)) b.most) _ is

signed_low : (b : Bounds) (s : StandingData) (f : FrameData) → s.used + flag (is_signed_kind f.kind) ≤ b.most → IfSome s.signed (λ (x : SignedData). x.leaf < b.most) → IfSome (behind s (entry f)).signed (λ (x : SignedData). x.leaf < b.most)
signed_low b s f le low = go (is_signed_kind f.kind) le
  where
    go : (t : Bool) → s.used + flag t ≤ b.most → IfSome (cond t (Some (entry_signed s f)) s.signed) (λ (x : SignedData). x.leaf < b.most)
    go true h = omega (arith, h)
    go false h = low

pub behind_low : (b : Bounds) (s : StandingData) (snap : Option ℕ) (p : Part) → fits_part b s snap p ≡ true → IsNumbered p → IsLow b s → IsLow b (behind s p)
behind_low b s snap (entry f) is seq low =
    let t = and_true (f.seq == s.next && may_stand b.first s.next f.kind) _ is in
    let u = and_true (f.seq == s.next) _ t.0 in
    let most = leb-true _ _ t.1 in
    record { next = omega (arith, eqb-true f.seq s.next u.0, seq); used = most; signed = signed_low b s f most low.signed }
behind_low b s snap seal is seq low =
    let t = and_true (nat_lt b.first s.next) _ is in
    let most = leb-true _ _ t.1 in
    record { next = low.next; used = most; signed = omega (arith, most) }
behind_low b s snap (keep k) is seq low = low

pub judged_ends : (b : Bounds) (s : StandingData) (snap : Option ℕ) → s.used ≤ b.most → judged b s snap [] ≡ Some s
judged_ends b s snap le = rw (signing_nil, le-leb (s.used + 0) b.most (omega (arith, le))) refl

-- ---- all parts of some bytes, from one part on

abbrev pub rest_judged : Bounds → StandingData → Option ℕ → List ℕ → Option StandingData
rest_judged b s snap bytes = all_at part_at bytes >>= λ ps. judged b s snap ps

pub rest_goes : (b : Bounds) (s : StandingData) (snap : Option ℕ) (bytes : List ℕ) (p : Part) (rest : List ℕ) → part_at bytes ≡ Some (p, rest) → fits_part b s snap p ≡ true → rest_judged b s snap bytes ≡ rest_judged b (behind s p) (snap_behind p) rest
rest_goes b s snap bytes p rest e is = rw (all_some bytes (p, rest) e) (go (all_at part_at rest))
  where
    go : (r : Option (List Part)) → (option_map (λ ps. p ∷ ps) r >>= λ ps. judged b s snap ps) ≡ (r >>= λ ps. judged b (behind s p) (snap_behind p) ps)
    go None = refl
    go (Some ps) = judged_goes b s snap p ps is

pub rest_stops : (b : Bounds) (s : StandingData) (snap : Option ℕ) (bytes : List ℕ) (p : Part) (rest : List ℕ) → part_at bytes ≡ Some (p, rest) → fits_part b s snap p ≡ false → rest_judged b s snap bytes ≡ None
rest_stops b s snap bytes p rest e is = rw (all_some bytes (p, rest) e) (go (all_at part_at rest))
  where
    go : (r : Option (List Part)) → (option_map (λ ps. p ∷ ps) r >>= λ ps. judged b s snap ps) ≡ None
    go None = refl
    go (Some ps) = judged_stops b s snap p ps is

pub rest_ends : (b : Bounds) (s : StandingData) (snap : Option ℕ) (bytes : List ℕ) → part_at bytes ≡ None → s.used ≤ b.most → rest_judged b s snap bytes ≡ kept (is_nil bytes) s
rest_ends b s snap bytes e le = rw (all_none bytes e) (go (is_nil bytes))
  where
    go : (n : Bool) → (kept n [] >>= λ ps. judged b s snap ps) ≡ kept n s
    go true = judged_ends b s snap le
    go false = refl

pub continued_is : (b : Bounds) (s : StandingData) (items : List ℕ) → continued b s items ≡ rest_judged b s None items
unfolding continued
continued_is b s items = refl

-- ---- the journal that stands so

pub next_fold : (s : StandingData) (ps : List Part) → (fold behind s ps).next ≡ s.next + length (frames_in ps)
next_fold s [] = omega arith
next_fold s (entry f ∷ ps) = omega (arith, next_fold (behind s (entry f)) ps)
next_fold s (seal ∷ ps) = next_fold (behind s seal) ps
next_fold s (keep k ∷ ps) = next_fold s ps

hash_fold : (s : StandingData) (ps : List Part) → (fold behind s ps).hash ≡ top_of s.hash (frames_in ps)
hash_fold s [] = refl
hash_fold s (entry f ∷ ps) = hash_fold (behind s (entry f)) ps
hash_fold s (seal ∷ ps) = hash_fold (behind s seal) ps
hash_fold s (keep k ∷ ps) = hash_fold s ps

prior_fold : (s : StandingData) (ps : List Part) → (fold behind s ps).prior ≡ prior_of s.prior s.hash (frames_in ps)
prior_fold s [] = refl
prior_fold s (entry f ∷ ps) = prior_fold (behind s (entry f)) ps
prior_fold s (seal ∷ ps) = prior_fold (behind s seal) ps
prior_fold s (keep k ∷ ps) = prior_fold s ps

pub used_fold : (s : StandingData) (ps : List Part) → (fold behind s ps).used ≡ s.used + signing ps
used_fold s [] = omega (arith, signing_nil)
used_fold s (entry f ∷ ps) = omega (arith, used_fold (behind s (entry f)) ps, signing_cons (entry f) ps)
used_fold s (seal ∷ ps) = omega (arith, used_fold (behind s seal) ps, signing_cons seal ps)
used_fold s (keep k ∷ ps) = omega (arith, used_fold s ps, signing_cons (keep k) ps)

sealed_fold : (s : StandingData) (ps : List Part) → (fold behind s ps).sealed ≡ ends_sealed s.sealed ps
sealed_fold s [] = refl
sealed_fold s (entry f ∷ ps) = sealed_fold (behind s (entry f)) ps
sealed_fold s (seal ∷ ps) = sealed_fold (behind s seal) ps
sealed_fold s (keep k ∷ ps) = sealed_fold s ps

-- what a journal holds, by where it stands
pub stands_next : (j : JournalData) → (standing j).next ≡ next_number j
unfolding standing next_number entries
stands_next j = next_fold (start j.header) (parts j)

pub stands_hash : (j : JournalData) → (standing j).hash ≡ last_hash j
unfolding standing last_hash entries
stands_hash j = hash_fold (start j.header) (parts j)

pub stands_prior : (j : JournalData) → (standing j).prior ≡ prior_hash j
unfolding standing prior_hash entries
stands_prior j = prior_fold (start j.header) (parts j)

pub stands_used : (j : JournalData) → (standing j).used ≡ used j
unfolding standing used
stands_used j = used_fold (start j.header) (parts j)

pub stands_sealed : (j : JournalData) → (standing j).sealed ≡ is_sealed j
unfolding standing is_sealed
stands_sealed j = sealed_fold (start j.header) (parts j)

pub parts_push : (j : JournalData) (ps : List Part) → parts (with_record j ps) ≡ parts j ++ ps
unfolding parts
parts_push j ps = flat_map-append (λ (r : List Part). r) j.records (ps ∷ []) ∙ ap (λ (l : List Part). flat_map (λ (r : List Part). r) j.records ++ l) (append-nil ps)

pub standing_push : (j : JournalData) (ps : List Part) → standing (with_record j ps) ≡ fold behind (standing j) ps
unfolding standing
standing_push j ps = ap (fold behind (start j.header)) (parts_push j ps) ∙ fold-append behind (start j.header) (parts j) ps

-- where the parts fit they make a journal that stands so
pub with_parts_stands : (j : JournalData) (items : List ℕ) → option_map standing (with_parts j items) ≡ continued (bounds j) (standing j) items
unfolding with_parts continued continues
with_parts_stands j items = go (all_at part_at items)
  where
    kept_map : (b : Bool) (ps : List Part) → option_map standing (kept b (with_record j ps)) ≡ kept b (fold behind (standing j) ps)
    kept_map true ps = ap Some (standing_push j ps)
    kept_map false ps = refl

    go : (r : Option (List Part)) → option_map standing (r >>= λ ps. kept (follows j.header.first (page_count_of j) (next_number j) None ps && nat_le (used j + signing ps) (most_leaves j.header.key)) (with_record j ps)) ≡ (r >>= λ ps. judged (bounds j) (standing j) None ps)
    go None = refl
    go (Some ps) =
        let test : ℕ → ℕ → Bool = λ n u. follows j.header.first (page_count_of j) n None ps && nat_le (u + signing ps) (most_leaves j.header.key) in
        kept_map (test (next_number j) (used j)) ps ∙ ap (λ (b : Bool). kept b (fold behind (standing j) ps)) (ap (λ (n : ℕ). test n (used j)) (sym (stands_next j)) ∙ ap (λ (u : ℕ). test (standing j).next u) (sym (stands_used j)))

-- one part more, as a loop has it
pub judged_on : (b : Bounds) (s t : StandingData) (snap next : Option ℕ) (bytes : List ℕ) (p : Part) (rest : List ℕ) (total : Option StandingData) → part_at bytes ≡ Some (p, rest) → fits_part b s snap p ≡ true → t ≡ behind s p → next ≡ snap_behind p
    → rest_judged b s snap bytes ≡ total → rest_judged b t next rest ≡ total
judged_on b s t snap next bytes p rest total e fits is snap_is so_far = rw (is, snap_is) (sym (rest_goes b s snap bytes p rest e fits) ∙ so_far)

pub low_on : (b : Bounds) (s t : StandingData) (snap : Option ℕ) (p : Part) → fits_part b s snap p ≡ true → IsNumbered p → t ≡ behind s p → IsLow b s → IsLow b t
low_on b s t snap p fits seq is low = rw is (behind_low b s snap p fits seq low)
