-- Outputs one after another, as parts of a batch.
use Rattle.std.proofs.Common.{◌≡◌, ℕ, ◌+◌, List, [], ◌∷◌, ◌++◌, length, fold, refl, sym, ap, ◌∙◌, append_assoc, length-append, arith}
use Rattle.std.proofs.lemmas.List.{append-nil}
use Rattle.avm_model.specs.Machine.{State}
use Rattle.avm_model.specs.Content.{ContentData, boot, snap, conin, clock, recv, acked, out, send, halt}
use Rattle.avm_model.specs.Reference.{Made}
use Rattle.journal_model.specs.Part.{Part}
use Rattle.journal_model.specs.Standing.{StandingData, behind}
use Rattle.record_batch.specs.Batch.{BatchData}
use Rattle.record_model.specs.Recording.{content_parts, made_content, made_parts}
use Rattle.record_parts.specs.Outs.{with_made}

pub fold-append : (s : StandingData) (a b : List Part) → fold behind s (a ++ b) ≡ fold behind (fold behind s a) b
fold-append s [] b = refl
fold-append s (p ∷ a) b = fold-append (behind s p) a b

-- behind the parts of outputs the number is that many more
one_next : (n : ℕ) (s : State) (pages : List ℕ) (p : StandingData) (c : ContentData) → (fold behind p (content_parts n s pages c)).next ≡ p.next + 1
one_next n s pages p (boot count r) = refl
one_next n s pages p (snap count r) = refl
one_next n s pages p (conin count bytes) = refl
one_next n s pages p (clock count value) = refl
one_next n s pages p (recv count packet) = refl
one_next n s pages p (acked count packet) = refl
one_next n s pages p (out count bytes) = refl
one_next n s pages p (send count peer number payload) = refl
one_next n s pages p (halt count cause value) = refl

pub made_next : (p : StandingData) (n : ℕ) (s : State) (pages : List ℕ) (os : List Made) → (fold behind p (made_parts n s pages os)).next ≡ p.next + length os
made_next p n s pages [] = omega arith
made_next p n s pages (o ∷ os) =
    let front : List Part = content_parts n s pages (made_content o) in
    let a = one_next n s pages p (made_content o) in
    let ih = made_next (fold behind p front) (n + 1) s pages os in
    ap (λ (q : StandingData). q.next) (fold-append p front (made_parts (n + 1) s pages os)) ∙ omega (arith, a, ih)

pub made_append : (n : ℕ) (s : State) (pages : List ℕ) (a b : List Made) → made_parts n s pages (a ++ b) ≡ made_parts n s pages a ++ made_parts (n + length a) s pages b
made_append n s pages [] b = let z : n + 0 ≡ n = omega arith in rw z refl
made_append n s pages (o ∷ a) b =
    let z : n + length (o ∷ a) ≡ (n + 1) + length a = omega arith in
    rw z (ap (λ (ps : List Part). content_parts n s pages (made_content o) ++ ps) (made_append (n + 1) s pages a b) ∙ sym (append_assoc (content_parts n s pages (made_content o)) (made_parts (n + 1) s pages a) (made_parts ((n + 1) + length a) s pages b)))

-- none, and one list behind another
pub made_none : (b : BatchData) (s : State) (pages : List ℕ) → with_made b s pages [] ≡ b
made_none b s pages = let z : b.next + 0 ≡ b.next = omega arith in rw (z, append-nil b.parts) refl

pub made_two : (b c d : BatchData) (s : State) (pages : List ℕ) (x y : List Made) → c ≡ with_made b s pages x → d ≡ with_made c s pages y → d ≡ with_made b s pages (x ++ y)
made_two b c d s pages x y e f = f ∙ ap (λ (q : BatchData). with_made q s pages y) e ∙ both
  where
    both : with_made (with_made b s pages x) s pages y ≡ with_made b s pages (x ++ y)
    both =
        let len : b.next + length x + length y ≡ b.next + length (x ++ y) = omega (arith, length-append x y) in
        let parts : (b.parts ++ made_parts b.next s pages x) ++ made_parts (b.next + length x) s pages y ≡ b.parts ++ made_parts b.next s pages (x ++ y) =
        append_assoc b.parts (made_parts b.next s pages x) (made_parts (b.next + length x) s pages y) ∙ ap (λ (ps : List Part). b.parts ++ ps) (sym (made_append b.next s pages x y)) in
        rw (len, parts) refl
