-- What is released again is what entries of the journal release.
use Rattle.std.proofs.Common.{◌≡◌, ℕ, Bool, true, false, List, [], ◌∷◌, ◌++◌, Option, Some, None, refl, ap, subst, ◌∙◌, ◌⊎◌, inl, inr}
use Rattle.std.specs.Prelude.{◌==◌}
use Rattle.std.specs.Option.{option_map}
use Rattle.avm_num.specs.Bytes.{◌>>=◌}
use Rattle.avm_model.specs.Machine.{State}
use Rattle.avm_model.specs.Device.{row_of}
use Rattle.avm_model.specs.Offer.{Offer, OfferClock, refuse_packet}
use Rattle.avm_model.specs.Reference.{Made, step_of, take_of}
use Rattle.avm_model.specs.declared.Peer.{Peer}
use Rattle.avm_model.specs.declared.NotTaken.{NotTaken}
use Rattle.journal_model.specs.Journal.{JournalData, parts}
use Rattle.journal_model.specs.Part.{Part, entry, seal, keep, is_signed_kind}
use Rattle.journal_model.specs.Standing.{StandingData, behind, start}
use Rattle.journal_model.specs.Header.{CarriedData}
use Rattle.record_model.specs.Released.{signed_frame, signed_frames, signed_entries, Sender, entry_pieces, part_pieces, pieces_from, last_that, is_send_to, is_recv_from, number_in, read, last_send, last_recv, with_number, outstanding_of, outstanding, again, again_to, repeated_from}
use Rattle.avm_outside.specs.Outlet.{Piece}
use Rattle.record_model.specs.Recording.{Recording, Act, StepOn, AnswerClock, TakeIn, SendAgain, Effect, given_at, with_step, stepped_on, with_input, take_in, taken_in, dropped_for, effect}
use Rattle.life_model.specs.Life.{Among}
use Rattle.life_model.proofs.Among.{among_left, among_right, among_either}

-- ---- members

last_in : {A : Type 0} (f : A → Bool) (xs : List A) (x : A) → last_that f xs ≡ Some x → Among x xs
last_in f [] x e = absurd cc
last_in {A} f (y ∷ ys) x e = go (last_that f ys) refl (f y) refl (λ q. last_in f ys x q)
  where
    go : (o : Option A) → last_that f ys ≡ o → (b : Bool) → f y ≡ b → (last_that f ys ≡ Some x → Among x ys) → Among x (y ∷ ys)
    go (Some z) q b r ih =
        let e2 : Some z ≡ Some x = rw q at e in
        inr (ih (q ∙ e2))
    go None q true r ih =
        let e2 : Some y ≡ Some x = rw (q, r) at e in
        let same : x ≡ y = cc in
        inl same
    go None q false r ih =
        let e2 : None ≡ Some x = rw (q, r) at e in
        absurd cc

numbered_in : (n : ℕ) (o : Option CarriedData) (e : CarriedData) → with_number n o ≡ Some e → o ≡ Some e
numbered_in n None e q = absurd cc
numbered_in n (Some x) e q = go (number_in (read x)) refl
  where
    pick : (k : ℕ) (b : Bool) → (k == n) ≡ b → number_in (read x) ≡ Some k → Some x ≡ Some e
    pick k true r w = let f : Some x ≡ Some e = rw (w, r) at q in f
    pick k false r w = let f : None ≡ Some e = rw (w, r) at q in absurd cc

    go : (m : Option ℕ) → number_in (read x) ≡ m → Some x ≡ Some e
    go None w = let f : None ≡ Some e = rw w at q in absurd cc
    go (Some k) w = pick k (k == n) refl w

outstanding_in : (j : JournalData) (id : ℕ) (row : Option Peer) (e : CarriedData) → outstanding_of j id row ≡ Some e → Among e (signed_entries j)
outstanding_in j id None e q = absurd cc
outstanding_in j id (Some row) e q = go (row.sent == row.acked) refl
  where
    go : (b : Bool) → (row.sent == row.acked) ≡ b → Among e (signed_entries j)
    go true r = let f : None ≡ Some e = rw r at q in absurd cc
    go false r =
        let f : with_number row.sent (last_send j id) ≡ Some e = rw r at q in
        last_in (λ e. is_send_to id (read e)) (signed_entries j) e (numbered_in row.sent (last_send j id) e f)

-- what is released for a signed entry of parts is what the parts release
piece_in : (who : Sender) (p : StandingData) (parts : List Part) (e : CarriedData) (x : Piece) → Among e (signed_frames p parts) → Among x (entry_pieces who e) → Among x (pieces_from who p parts)
piece_in who p [] e x h i = absurd h
piece_in who p (entry f ∷ ps) e x h i = go (λ k. piece_in who (behind p (entry f)) ps e x k i) (is_signed_kind f.kind) refl (among_either e (signed_frame p (entry f)) (signed_frames (behind p (entry f)) ps) h)
  where
    here : Among e (record { leaf = p.used; before = p.hash; frame = f } ∷ []) → Among x (pieces_from who p (entry f ∷ ps))
    here (inl q) = among_left x (part_pieces who p (entry f)) (pieces_from who (behind p (entry f)) ps) (subst (λ (y : CarriedData). Among x (entry_pieces who y)) q i)
    here (inr k) = absurd k

    go : (Among e (signed_frames (behind p (entry f)) ps) → Among x (pieces_from who (behind p (entry f)) ps)) → (b : Bool) → is_signed_kind f.kind ≡ b → Among e (signed_frame p (entry f)) ⊎ Among e (signed_frames (behind p (entry f)) ps) → Among x (pieces_from who p (entry f ∷ ps))
    go ih b q (inr k) = among_right x (part_pieces who p (entry f)) (pieces_from who (behind p (entry f)) ps) (ih k)
    go ih true q (inl k) = here (rw q at k)
    go ih false q (inl k) = let bad : Among e [] = rw q at k in absurd bad
piece_in who p (seal ∷ ps) e x h i = among_right x (part_pieces who p seal) (pieces_from who (behind p seal) ps) (piece_in who (behind p seal) ps e x h i)
piece_in who p (keep k ∷ ps) e x h i = piece_in who (behind p (keep k)) ps e x h i

-- ---- what is released again

-- each piece is what an entry of the journal releases
abbrev pub IsFrom : Sender → JournalData → List Piece → Type 0
IsFrom who j pieces = (p : Piece) → Among p pieces → Among p (pieces_from who (start j.header) (parts j))

again_is : (who : Sender) (j : JournalData) (o : Option CarriedData) → j.header.carried ≡ [] → ((e : CarriedData) → o ≡ Some e → Among e (signed_entries j)) → IsFrom who j (again who o)
again_is who j None s f p i = absurd i
again_is who j (Some e) s f p i =
    let all : signed_entries j ≡ signed_frames (start j.header) (parts j) = ap (λ (x : List CarriedData). x ++ signed_frames (start j.header) (parts j)) s in
    piece_in who (start j.header) (parts j) e p (subst (λ (x : List CarriedData). Among e x) all (f e refl)) i

again_to_is : (who : Sender) (j : JournalData) (o : Option ℕ) → j.header.carried ≡ [] → IsFrom who j (again_to who j o)
again_to_is who j None s p i = absurd i
again_to_is who j (Some peer) s p i = again_is who j (last_recv j peer) s (λ e q. last_in (λ e. is_recv_from peer (read e)) (signed_entries j) e q) p i

stepped_again : (who : Sender) (j : JournalData) (r : Recording) (pages : List ℕ) (e : Effect) → stepped_on r pages ≡ Some e → IsFrom who j e.again
stepped_again who j r pages e q = go (step_of r.machine) q
  where
    go : (s : Option (State × List Made)) → option_map (with_step r pages) s ≡ Some e → IsFrom who j e.again
    go None w = absurd cc
    go (Some x) w =
        let same : with_step r pages x ≡ e = cc in
        subst (λ (y : Effect). IsFrom who j y.again) same (λ p i. absurd i)

pub effect_from : (who : Sender) (pages : List ℕ) (r : Recording) (act : Act) (e : Effect) → r.journal.header.carried ≡ [] → effect who pages r act ≡ Some e → IsFrom who r.journal e.again
effect_from who pages r StepOn e s q = stepped_again who r.journal r pages e q
effect_from who pages r (AnswerClock value) e s q = go (take_of r.machine (given_at r.machine (OfferClock value))) q
  where
    go : (o : Option State) → (o >>= λ t. stepped_on (with_input r (OfferClock value) t) pages) ≡ Some e → IsFrom who r.journal e.again
    go None w = absurd cc
    go (Some t) w = stepped_again who r.journal (with_input r (OfferClock value) t) pages e w
effect_from who pages r (TakeIn o) e s q = go o (refuse_packet r.machine o) q
  where
    go : (o : Option Offer) (w : Option NotTaken) → take_in who r o w ≡ Some e → IsFrom who r.journal e.again
    go o (Some why) f =
        let same : dropped_for who r o why ≡ e = cc in
        subst (λ (y : Effect). IsFrom who r.journal y.again) same (again_to_is who r.journal (repeated_from why o) s)
    go None None f = absurd cc
    go (Some x) None f =
        let same : taken_in r x ≡ e = cc in
        subst (λ (y : Effect). IsFrom who r.journal y.again) same (λ p i. absurd i)
effect_from who pages r (SendAgain peer) e s q =
    let same : again who (outstanding r.journal r.machine peer) ≡ e.again = ap (λ (o : Option Effect). again_or o) q in
    subst (λ (y : List Piece). IsFrom who r.journal y) same (again_is who r.journal (outstanding r.journal r.machine peer) s (λ x w. outstanding_in r.journal peer (row_of r.machine.devices.peers peer) x w))
  where
    again_or : Option Effect → List Piece
    again_or None = []
    again_or (Some x) = x.again
