-- Acceptance as a conjunction, and the table's last row are one.
use Rattle.std.proofs.Common.{◌≡◌, ℕ, ◌+◌, Bool, true, false, not, cond, nat_eq, ◌&&◌, List, [], ◌∷◌, All, map, Option, Some, None, refl, sym, ap, ◌∙◌, eqb-true}
use Rattle.std.specs.List.{AllByRecursion}
use Rattle.std.proofs.lemmas.List.Elements.{All-from_recursion, recursion_from_All}
use Rattle.avm_model.specs.Frame.{FrameData}
use Rattle.avm_model.specs.Auth.{AuthData}
use Rattle.avm_model.specs.declared.judged.Marked.{Marked}
use Rattle.avm_model.specs.declared.judged.Verdict.{Verdict}
use Rattle.avm_model.specs.declared.judged.Verdict.TheVariants.{BadAuth, Double, Uncommitted, Fork, Replay, Uncovered, Unmatched, Accepted}
use Rattle.avm_model.specs.Marks.{verifies, hash_in, mark_at, marked, is_same, is_other}
use Rattle.std.specs.Str.{bytes_eq as same}
use Rattle.avm_model.specs.Basics.{first_at}
use Rattle.std.specs.Option.{option_map}
use Rattle.avm_model.specs.Verdict.{Case, marks, first_some, first_pair, doubles, conflicts, unmatched_mark, fork_by, replay_by, verdict}
use Rattle.avm_model.specs.Marks.{cover, cover_number}
use Rattle.audit_stream.proofs.RowLaws.{first_at_none}
use Rattle.audit_stream.proofs.CaseLaws.{double_of, bad_of, fork_not, replay_not}
use Rattle.audit_stream.proofs.MarkLaws.{mark_same, same_refl, not_false}

-- the conjunction over a case
pub record Accepting (c : Case) : Type 0 where
  pub verified : All (λ a. verifies c.key a ≡ true) c.auths
  pub matching : All (λ a. hash_in a.seq c.before c.frames ≡ Some a.hash) c.auths
  pub committed : c.committed ≡ true
  pub replays : c.fault ≡ None

badauth_accepted : (k x y z : ℕ) → BadAuth k ≡ Accepted x y z → ⊥
badauth_accepted k x y z e = cc

double_accepted : (i j x y z : ℕ) → Double i j ≡ Accepted x y z → ⊥
double_accepted i j x y z e = cc

uncommitted_accepted : (x y z : ℕ) → Uncommitted ≡ Accepted x y z → ⊥
uncommitted_accepted x y z e = cc

fork_accepted : (i j x y z : ℕ) → Fork i j ≡ Accepted x y z → ⊥
fork_accepted i j x y z e = cc

replay_accepted : (n x y z : ℕ) → Replay n ≡ Accepted x y z → ⊥
replay_accepted n x y z e = cc

uncovered_accepted : (n x y z : ℕ) → Uncovered n ≡ Accepted x y z → ⊥
uncovered_accepted n x y z e = cc

unmatched_accepted : (n x y z : ℕ) → Unmatched n ≡ Accepted x y z → ⊥
unmatched_accepted n x y z e = cc

record Passed (bad : Option ℕ) (commit : Bool) (fault un : Option ℕ) : Type 0 where
  pub bad_none : bad ≡ None
  pub commit_true : commit ≡ true
  pub fault_none : fault ≡ None
  pub un_none : un ≡ None

accepted_row : (bad : Option ℕ) (pair : Option (ℕ × ℕ)) (commit : Bool) (fo rp : Option Verdict) (fault un : Option ℕ) (a b n x y z : ℕ) → (fo ≡ Some (Accepted x y z) → ⊥) → (rp ≡ Some (Accepted x y z) → ⊥)
    → first_some (option_map BadAuth bad ∷ option_map double_of pair ∷ cond commit None (Some Uncommitted) ∷ fo ∷ rp ∷ option_map Uncovered fault ∷ option_map Unmatched un ∷ []) (Accepted a b n) ≡ Accepted x y z → Passed bad commit fault un
accepted_row (Some k) pair commit fo rp fault un a b n x y z nf nr e = absurd (badauth_accepted k x y z e)
accepted_row None (Some p) commit fo rp fault un a b n x y z nf nr e = absurd (double_accepted p.0 p.1 x y z e)
accepted_row None None false fo rp fault un a b n x y z nf nr e = absurd (uncommitted_accepted x y z e)
accepted_row None None true (Some v) rp fault un a b n x y z nf nr e = absurd (nf (ap (λ (u : Verdict). Some u) e))
accepted_row None None true None (Some v) fault un a b n x y z nf nr e = absurd (nr (ap (λ (u : Verdict). Some u) e))
accepted_row None None true None None (Some k) un a b n x y z nf nr e = absurd (uncovered_accepted k x y z e)
accepted_row None None true None None None (Some k) a b n x y z nf nr e = absurd (unmatched_accepted k x y z e)
accepted_row None None true None None None None a b n x y z nf nr e = record { bad_none = refl; commit_true = refl; fault_none = refl; un_none = refl }

All-imp : {A : Type 0} (P Q : A → Type 0) (xs : List A) → ((x : A) → P x → Q x) → AllByRecursion P xs → AllByRecursion Q xs
All-imp P Q [] f h = tt
All-imp P Q (x ∷ xs) f h = (f x h.0, All-imp P Q xs f h.1)

All-map : {A B : Type 0} (f : A → B) (P : B → Type 0) (xs : List A) → AllByRecursion P (map f xs) → AllByRecursion (λ x. P (f x)) xs
All-map f P [] h = tt
All-map f P (x ∷ xs) h = (h.0, All-map f P xs h.1)

All-unmap : {A B : Type 0} (f : A → B) (P : B → Type 0) (xs : List A) → AllByRecursion (λ x. P (f x)) xs → AllByRecursion P (map f xs)
All-unmap f P [] h = tt
All-unmap f P (x ∷ xs) h = (h.0, All-unmap f P xs h.1)

pub accepted_is : (c : Case) (x y z : ℕ) → verdict c ≡ Accepted x y z → Accepting c
unfolding verdict marks
accepted_is c x y z e =
    let ms = map (marked c.before c.frames) c.auths in
    let p = accepted_row (bad_of c) (first_pair doubles 0 c.auths) c.committed (fork_by ms (cover ms)) (replay_by c.fault (cover ms)) c.fault (first_at unmatched_mark 0 ms) c.first c.last (cover_number (cover ms)) x y z
    (fork_not ms (cover ms) (Accepted x y z) (λ i j. fork_accepted i j x y z)) (replay_not c.fault (cover ms) (Accepted x y z) (λ n. replay_accepted n x y z)) e in
    let valid = first_at_none (λ (a : AuthData). not (verifies c.key a)) 0 c.auths p.bad_none in
    let same_marks = All-map (marked c.before c.frames) (λ (m : Marked). unmatched_mark m ≡ false) c.auths (first_at_none unmatched_mark 0 ms p.un_none) in
    record {
      verified = All-from_recursion _ c.auths (All-imp _ _ c.auths (λ a h. not_false (verifies c.key a) h) valid);
      matching = All-from_recursion _ c.auths (All-imp _ _ c.auths (λ a h. mark_same a.hash (hash_in a.seq c.before c.frames) (not_false _ h)) same_marks);
      committed = p.commit_true;
      replays = p.fault_none;
    }

-- ---- the way back

none_at : {A : Type 0} (p : A → Bool) (i : ℕ) (xs : List A) → AllByRecursion (λ x. p x ≡ false) xs → first_at p i xs ≡ None
none_at p i [] h = refl
none_at p i (x ∷ xs) h = rw (h.0, none_at p (i + 1) xs h.1) refl

no_double : (h : List ℕ) (fs : List FrameData) (a b : AuthData) → hash_in a.seq h fs ≡ Some a.hash → hash_in b.seq h fs ≡ Some b.hash → doubles a b ≡ false
no_double h fs a b p q = go (nat_eq a.seq b.seq) refl
  where
    some_is : (x y : List ℕ) → Some x ≡ Some y → x ≡ y
    some_is x y i = cc

    go : (x : Bool) → nat_eq a.seq b.seq ≡ x → (x && not (same a.hash b.hash)) ≡ false
    go false e = refl
    go true e =
        let is : a.hash ≡ b.hash = some_is _ _ (sym p ∙ ap (λ (n : ℕ). hash_in n h fs) (eqb-true _ _ e) ∙ q) in
        rw (is, same_refl b.hash) refl

no_pair : (h : List ℕ) (fs : List FrameData) (i : ℕ) (xs : List AuthData) → AllByRecursion (λ a. hash_in a.seq h fs ≡ Some a.hash) xs → first_pair doubles i xs ≡ None
no_pair h fs i [] p = refl
no_pair h fs i (a ∷ xs) p =
    let one : first_at (doubles a) (i + 1) xs ≡ None = none_at (doubles a) (i + 1) xs (All-imp _ _ xs (λ b q. no_double h fs a b p.0 q) p.1) in
    rw (one, no_pair h fs (i + 1) xs p.1) refl

fork_none : (ms : List Marked) (top : Option (ℕ × ℕ)) → AllByRecursion (λ m. is_other m.mark ≡ false) ms → fork_by ms top ≡ None
fork_none ms None h = refl
fork_none ms (Some j) h = rw (none_at (conflicts j.1) 0 ms (All-imp _ _ ms (λ (m : Marked) (q : is_other m.mark ≡ false). rw q refl) h)) refl

mark_is : (hash : List ℕ) (o : Option (List ℕ)) → o ≡ Some hash → (is_other (mark_at hash o) ≡ false) × (not (is_same (mark_at hash o)) ≡ false)
mark_is hash o e = rw (e, same_refl hash) (refl, refl)

replay_none : (o : Option ℕ) (top : Option (ℕ × ℕ)) → o ≡ None → replay_by o top ≡ None
replay_none None top e = refl
replay_none (Some x) top e = absurd cc

all_none : (a b d f g h i : Option Verdict) (v : Verdict) → a ≡ None → b ≡ None → d ≡ None → f ≡ None → g ≡ None → h ≡ None → i ≡ None → first_some (a ∷ b ∷ d ∷ f ∷ g ∷ h ∷ i ∷ []) v ≡ v
all_none a b d f g h i v p q r s t u w = rw (p, q, r, s, t, u, w) refl

pub accepts : (c : Case) → Accepting c → verdict c ≡ Accepted c.first c.last (cover_number (cover (marks c)))
unfolding verdict marks
accepts c h =
    let ms = map (marked c.before c.frames) c.auths in
    let valid = recursion_from_All _ c.auths h.verified in
    let match = recursion_from_All _ c.auths h.matching in
    let bad : bad_of c ≡ None = none_at _ 0 c.auths (All-imp _ _ c.auths (λ (a : AuthData) (q : verifies c.key a ≡ true). rw q refl) valid) in
    let un : first_at unmatched_mark 0 ms ≡ None = none_at unmatched_mark 0 ms (All-unmap (marked c.before c.frames) (λ (m : Marked). unmatched_mark m ≡ false) c.auths (All-imp _ _ c.auths (λ a q. (mark_is a.hash _ q).1) match)) in
    let fo : fork_by ms (cover ms) ≡ None = fork_none ms (cover ms) (All-unmap (marked c.before c.frames) (λ (m : Marked). is_other m.mark ≡ false) c.auths (All-imp _ _ c.auths (λ a q. (mark_is a.hash _ q).0) match)) in
    let pair = no_pair c.before c.frames 0 c.auths match in
    all_none (option_map BadAuth (bad_of c)) (option_map double_of (first_pair doubles 0 c.auths)) (cond c.committed None (Some Uncommitted)) (fork_by ms (cover ms)) (replay_by c.fault (cover ms)) (option_map Uncovered c.fault) (option_map Unmatched (first_at unmatched_mark 0 ms)) _
    (rw bad refl) (rw pair refl) (rw h.committed refl) fo (replay_none c.fault (cover ms) h.replays) (rw h.replays refl) (rw un refl)
