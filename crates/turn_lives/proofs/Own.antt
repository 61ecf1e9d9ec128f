-- What is released again belongs to the journal's own items, or to entries that it carries.
use Rattle.std.proofs.Common.{◌≡◌, ◌⊎◌, inl, inr, ℕ, ◌+◌, ◌-◌, Bool, true, false, fold, List, [], ◌∷◌, ◌++◌, map, Option, Some, None, refl, sym, ap, subst, ◌∙◌, arith}
use Rattle.std.specs.Option.{option_map}
use Rattle.avm_num.specs.Bytes.{◌>>=◌}
use Rattle.avm_model.specs.Machine.{State}
use Rattle.avm_model.specs.Offer.{Offer, OfferClock, refuse_packet}
use Rattle.avm_model.specs.Reference.{Made, step_of, take_of}
use Rattle.avm_model.specs.declared.NotTaken.{NotTaken}
use Rattle.avm_outside.specs.Outlet.{Piece, auth}
use Rattle.journal_model.specs.Header.{CarriedData}
use Rattle.journal_model.specs.Journal.{JournalData, parts}
use Rattle.journal_model.specs.Part.{Part, entry, is_signed_kind, keep, seal}
use Rattle.journal_model.specs.Standing.{SignedData, StandingData, behind, ends_sealed, is_sealed, signed_from, signed_in, signed_items, standing, start}
use Rattle.jrnl_part.specs.Carriage.{carried_signed}
use Rattle.life_model.proofs.Among.{among_left, among_right}
use Rattle.life_model.specs.Life.{Among, Told, number_of, signed_as, told, told_again, told_from, told_of}
use Rattle.record_kept.proofs.Resends.{is_out, last_is}
use Rattle.record_kept.specs.Again.{Among as AmongEntries}
use Rattle.record_model.specs.Recording.{Act, AnswerClock, Effect, Recording, SendAgain, StepOn, TakeIn, dropped_for, effect, given_at, seal_again, sent_again, stepped_on, take_in, taken_in, with_input, with_step}
use Rattle.record_model.specs.Released.{Sender, again, again_to, authenticator, entry_pieces, is_recv_from, last_recv, outstanding, part_pieces, read, repeated_from, signed_entries, signed_frame, signed_frames}

-- pieces that are released again, with their numbers, and how they are signed
pub record Again (who : Sender) (j : JournalData) (pieces : List Piece) : Type 0 where
  pub told : List Told
  pub signs : List SignedData
  pub pieces_are : map (λ (t : Told). t.piece) told ≡ pieces
  pub own : (t : Told) → Among t told → Among t (told_of who j) ⊎ ((e : CarriedData) × Among e j.header.carried × Among t (told_again who e))
  pub own_signs : (s : SignedData) → Among s signs → Among s (signed_items j) ⊎ ((e : CarriedData) × Among e j.header.carried × (s ≡ signed_as e))

pub none_again : (who : Sender) (j : JournalData) → Again who j []
none_again who j = record { told = []; signs = []; pieces_are = refl; own = λ t m. absurd m; own_signs = λ s m. absurd m }

-- ---- a signed entry of the journal

split_among : (e : CarriedData) (a b : List CarriedData) → AmongEntries e (a ++ b) → AmongEntries e a ⊎ AmongEntries e b
split_among e [] b m = inr m
split_among e (x ∷ a) b (inl q) = inl (inl q)
split_among e (x ∷ a) b (inr m) = by (split_among e a b m)
  where
    by : AmongEntries e a ⊎ AmongEntries e b → AmongEntries e (x ∷ a) ⊎ AmongEntries e b
    by (inl p) = inl (inr p)
    by (inr p) = inr p

turned : (e : CarriedData) (xs : List CarriedData) → AmongEntries e xs → Among e xs
turned e [] m = absurd m
turned e (x ∷ xs) (inl q) = inl (sym q)
turned e (x ∷ xs) (inr m) = inr (turned e xs m)

-- what the journal's own entry releases and signs
pub record Items (who : Sender) (s : StandingData) (ps : List Part) (e : CarriedData) : Type 0 where
  pub told : (t : Told) → Among t (told_again who e) → Among t (told_from who s ps)
  pub signed : Among (signed_as e) (signed_from s ps)

items_on : (who : Sender) (s : StandingData) (p : Part) (ps : List Part) (e : CarriedData) → Items who (behind s p) ps e → Items who s (p ∷ ps) e
items_on who s p ps e i = record {
  told = λ t q. among_right t (told (number_of s p) (part_pieces who s p)) (told_from who (behind s p) ps) (i.told t q);
  signed = among_right (signed_as e) (signed_in s p) (signed_from (behind s p) ps) i.signed;
}

frame_items : (who : Sender) (s : StandingData) (ps : List Part) (e : CarriedData) → AmongEntries e (signed_frames s ps) → Items who s ps e
frame_items who s [] e m = absurd m
frame_items who s (entry f ∷ ps) e m = by (is_signed_kind f.kind) refl (split_among e (signed_frame s (entry f)) (signed_frames (behind s (entry f)) ps) m) (λ q. frame_items who (behind s (entry f)) ps e q)
  where
    later : Items who (behind s (entry f)) ps e → Items who s (entry f ∷ ps) e
    later i = items_on who s (entry f) ps e i

    first : (b : Bool) → is_signed_kind f.kind ≡ b → AmongEntries e (signed_frame s (entry f)) → Items who s (entry f ∷ ps) e
    first false q m = absurd (let m' : AmongEntries e [] = rw q at m in m')
    first true q m =
        let m' : AmongEntries e (record { leaf = s.used; before = s.hash; frame = f } ∷ []) = rw q at m in
        only m'
      where
        only : AmongEntries e (record { leaf = s.used; before = s.hash; frame = f } ∷ []) → Items who s (entry f ∷ ps) e
        only (inl r) =
            let here : CarriedData = record { leaf = s.used; before = s.hash; frame = f } in
            let signs : Among (signed_as here) (signed_in s (entry f)) = rw q (inl refl) in
            subst (λ (x : CarriedData). Items who s (entry f ∷ ps) x) r (record {
              told = λ t k. among_left t (told f.seq (entry_pieces who here)) (told_from who (behind s (entry f)) ps) k;
              signed = among_left (signed_as here) (signed_in s (entry f)) (signed_from (behind s (entry f)) ps) signs;
            })
        only (inr r) = absurd r

    by : (b : Bool) → is_signed_kind f.kind ≡ b → AmongEntries e (signed_frame s (entry f)) ⊎ AmongEntries e (signed_frames (behind s (entry f)) ps) → (AmongEntries e (signed_frames (behind s (entry f)) ps) → Items who (behind s (entry f)) ps e) → Items who s (entry f ∷ ps) e
    by b q (inl m) ih = first b q m
    by b q (inr m) ih = later (ih m)
frame_items who s (seal ∷ ps) e m =
    items_on who s seal ps e (frame_items who (behind s seal) ps e m)
frame_items who s (keep k ∷ ps) e m = items_on who s (keep k) ps e (frame_items who s ps e m)

pieces_told : (n : ℕ) (ps : List Piece) → map (λ (t : Told). t.piece) (told n ps) ≡ ps
pieces_told n [] = refl
pieces_told n (p ∷ ps) = ap (λ (qs : List Piece). p ∷ qs) (pieces_told n ps)

pub entry_again : (who : Sender) (j : JournalData) (e : CarriedData) → AmongEntries e (signed_entries j) → Again who j (entry_pieces who e)
unfolding told_of signed_items
entry_again who j e m = by (split_among e j.header.carried (signed_frames (start j.header) (parts j)) m)
  where
    by : AmongEntries e j.header.carried ⊎ AmongEntries e (signed_frames (start j.header) (parts j)) → Again who j (entry_pieces who e)
    by (inl q) = record {
      told = told_again who e;
      signs = signed_as e ∷ [];
      pieces_are = pieces_told e.frame.seq (entry_pieces who e);
      own = λ t k. inr (e, turned e j.header.carried q, k);
      own_signs = λ s k. inr (e, turned e j.header.carried q, one s k);
    }
      where
        one : (s : SignedData) → Among s (signed_as e ∷ []) → s ≡ signed_as e
        one s (inl r) = r
        one s (inr r) = absurd r
    by (inr q) =
        let i = frame_items who (start j.header) (parts j) e q in
        record {
          told = told_again who e;
          signs = signed_as e ∷ [];
          pieces_are = pieces_told e.frame.seq (entry_pieces who e);
          own = λ t k. inl (i.told t k);
          own_signs = λ s k. inl (one s i.signed k);
        }
      where
        one : (s : SignedData) → Among (signed_as e) (signed_from (start j.header) (parts j)) → Among s (signed_as e ∷ []) → Among s (signed_from (start j.header) (parts j))
        one s m (inl r) = subst (λ (x : SignedData). Among x (signed_from (start j.header) (parts j))) (sym r) m
        one s m (inr r) = absurd r

-- ---- each act

recv_again : (who : Sender) (j : JournalData) (peer : Option ℕ) → Again who j (again_to who j peer)
recv_again who j None = none_again who j
recv_again who j (Some peer) = go (last_recv j peer) refl
  where
    go : (w : Option CarriedData) → last_recv j peer ≡ w → Again who j (again_to who j (Some peer))
    go None q = subst (λ (x : Option CarriedData). Again who j (again who x)) (sym q) (none_again who j)
    go (Some e) q = subst (λ (x : Option CarriedData). Again who j (again who x)) (sym q) (entry_again who j e (last_is (λ (x : CarriedData). is_recv_from peer (read x)) (signed_entries j) e q).among)

send_again : (who : Sender) (j : JournalData) (s : State) (peer : ℕ) → Again who j (again who (outstanding j s peer))
send_again who j s peer = go (outstanding j s peer) refl
  where
    go : (w : Option CarriedData) → outstanding j s peer ≡ w → Again who j (again who (outstanding j s peer))
    go None q = subst (λ (x : Option CarriedData). Again who j (again who x)) (sym q) (none_again who j)
    go (Some e) q =
        let o = is_out who j s peer (carried_signed e) (ap (option_map carried_signed) (sym q)) in
        subst (λ (x : Option CarriedData). Again who j (again who x)) (sym o.is) (entry_again who j o.entry o.ticket.among)

step_again : (who : Sender) (r : Recording) (pages : List ℕ) (o : Option (State × List Made)) (e : Effect) → option_map (with_step r pages) o ≡ Some e → e.again ≡ []
step_again who r pages None e q = absurd cc
step_again who r pages (Some t) e q = let same : with_step r pages t ≡ e = cc in ap (λ (x : Effect). x.again) (sym same)

as_none : (who : Sender) (j : JournalData) (ps : List Piece) → ps ≡ [] → Again who j ps
as_none who j ps e = subst (λ (x : List Piece). Again who j x) (sym e) (none_again who j)

pub act_again : (who : Sender) (r : Recording) (act : Act) (pages : List ℕ) (e : Effect) → effect who pages r act ≡ Some e → Again who r.journal e.again
act_again who r StepOn pages e q = as_none who r.journal e.again (step_again who r pages (step_of r.machine) e q)
act_again who r (AnswerClock value) pages e q = go (take_of r.machine (given_at r.machine (OfferClock value))) q
  where
    go : (s : Option State) → (s >>= λ t. stepped_on (with_input r (OfferClock value) t) pages) ≡ Some e → Again who r.journal e.again
    go None z = absurd cc
    go (Some t) z = as_none who r.journal e.again (step_again who (with_input r (OfferClock value) t) pages (step_of (with_input r (OfferClock value) t).machine) e z)
act_again who r (TakeIn o) pages e q = go o (refuse_packet r.machine o) q
  where
    go : (o : Option Offer) (w : Option NotTaken) → take_in who r o w ≡ Some e → Again who r.journal e.again
    go o (Some why) z = let same : dropped_for who r o why ≡ e = cc in subst (λ (x : Effect). Again who r.journal x.again) same (recv_again who r.journal (repeated_from why o))
    go None None z = absurd cc
    go (Some x) None z = let same : taken_in r x ≡ e = cc in subst (λ (y : Effect). Again who r.journal y.again) same (none_again who r.journal)
act_again who r (SendAgain peer) pages e q = let same : sent_again who r peer ≡ e = cc in subst (λ (x : Effect). Again who r.journal x.again) same (send_again who r.journal r.machine peer)

-- ---- the last seal

abbrev last_told : Sender → StandingData → Told
last_told who t = record { seq = t.next - 1; piece = auth (authenticator who (record t { used = t.used - 1 })) }

abbrev last_signed : StandingData → SignedData
last_signed t = record { leaf = t.used - 1; seq = t.next - 1; hash = t.hash; before = t.prior }

record HasSeal (who : Sender) (s : StandingData) (ps : List Part) : Type 0 where
  told : Among (last_told who (fold behind s ps)) (told_from who s ps)
  signed : Among (last_signed (fold behind s ps)) (signed_from s ps)

seal_on : (who : Sender) (s : StandingData) (p : Part) (ps : List Part) → HasSeal who (behind s p) ps → HasSeal who s (p ∷ ps)
seal_on who s p ps h = record {
  told = among_right (last_told who (fold behind (behind s p) ps)) (told (number_of s p) (part_pieces who s p)) (told_from who (behind s p) ps) h.told;
  signed = among_right (last_signed (fold behind (behind s p) ps)) (signed_in s p) (signed_from (behind s p) ps) h.signed;
}

has_seal : (who : Sender) (b : Bool) (s : StandingData) (ps : List Part) → ends_sealed b ps ≡ true → ((b ≡ true) × (fold behind s ps ≡ s)) ⊎ HasSeal who s ps
has_seal who b s [] e = inl (e, refl)
has_seal who b s (entry f ∷ ps) e = by (has_seal who false (behind s (entry f)) ps e)
  where
    by : ((false ≡ true) × (fold behind (behind s (entry f)) ps ≡ behind s (entry f))) ⊎ HasSeal who (behind s (entry f)) ps → ((b ≡ true) × (fold behind s (entry f ∷ ps) ≡ s)) ⊎ HasSeal who s (entry f ∷ ps)
    by (inl q) = absurd (let z : false ≡ true = q.0 in cc)
    by (inr h) = inr (seal_on who s (entry f) ps h)
has_seal who b s (seal ∷ ps) e = by (has_seal who true (behind s seal) ps e)
  where
    one : s.used + 1 - 1 ≡ s.used
    one = omega arith

    by : ((true ≡ true) × (fold behind (behind s seal) ps ≡ behind s seal)) ⊎ HasSeal who (behind s seal) ps → ((b ≡ true) × (fold behind s (seal ∷ ps) ≡ s)) ⊎ HasSeal who s (seal ∷ ps)
    by (inl q) = inr (record { told = inl (ap (last_told who) q.1 ∙ told_is); signed = inl (ap last_signed q.1 ∙ signed_is) })
      where
        told_is : last_told who (behind s seal) ≡ record { seq = s.next - 1; piece = auth (authenticator who s) }
        told_is = rw one refl

        signed_is : last_signed (behind s seal) ≡ record { leaf = s.used; seq = s.next - 1; hash = s.hash; before = s.prior }
        signed_is = rw one refl
    by (inr h) = inr (seal_on who s seal ps h)
has_seal who b s (keep k ∷ ps) e = by (has_seal who b s ps e)
  where
    by : ((b ≡ true) × (fold behind s ps ≡ s)) ⊎ HasSeal who s ps → ((b ≡ true) × (fold behind s (keep k ∷ ps) ≡ s)) ⊎ HasSeal who s (keep k ∷ ps)
    by (inl q) = inl q
    by (inr h) = inr (seal_on who s (keep k) ps h)

pub seal_told_again : (who : Sender) (j : JournalData) → is_sealed j ≡ true → Again who j (auth (seal_again who j) ∷ [])
unfolding told_of signed_items standing is_sealed
seal_told_again who j e = by (has_seal who false (start j.header) (parts j) e)
  where
    by : ((false ≡ true) × (fold behind (start j.header) (parts j) ≡ start j.header)) ⊎ HasSeal who (start j.header) (parts j) → Again who j (auth (seal_again who j) ∷ [])
    by (inl q) = absurd (let z : false ≡ true = q.0 in cc)
    by (inr h) = record {
      told = last_told who (standing j) ∷ [];
      signs = last_signed (standing j) ∷ [];
      pieces_are = refl;
      own = λ t k. inl (among_one t h.told k);
      own_signs = λ s k. inl (among_it s h.signed k);
    }
      where
        among_one : (t : Told) → Among (last_told who (standing j)) (told_from who (start j.header) (parts j)) → Among t (last_told who (standing j) ∷ []) → Among t (told_from who (start j.header) (parts j))
        among_one t m (inl r) = subst (λ (x : Told). Among x (told_from who (start j.header) (parts j))) (sym r) m
        among_one t m (inr r) = absurd r

        among_it : (s : SignedData) → Among (last_signed (standing j)) (signed_from (start j.header) (parts j)) → Among s (last_signed (standing j) ∷ []) → Among s (signed_from (start j.header) (parts j))
        among_it s m (inl r) = subst (λ (x : SignedData). Among x (signed_from (start j.header) (parts j))) (sym r) m
        among_it s m (inr r) = absurd r
