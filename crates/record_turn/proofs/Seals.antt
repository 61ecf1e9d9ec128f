-- How a seal ends.
use Rattle.std.proofs.Common.{◌≡◌, ℕ, ◌+◌, ◌-◌, ◌≤◌, Bool, true, false, List, [], ◌∷◌, ◌++◌, fold, Some, None, Ok, Err, refl, sym, ap, subst, ◌∙◌, arith, inl, inr}
use Rattle.std.specs.Prelude.{◌⊎◌, ◌&&◌, if◌then◌else◌}
use Rattle.avm_model.specs.Machine.{State}
use Rattle.avm_outside.specs.Outlet.{Piece, auth}
use Rattle.avm_outside.specs.Outside.{Rises}
use Rattle.journal_model.proofs.Judging.{signing_append, stands_sealed}
use Rattle.journal_model.specs.Journal.{JournalData, parts, with_record}
use Rattle.journal_model.specs.Part.{Part, entry, keep, seal, signing}
use Rattle.journal_model.specs.Standing.{SignedData, StandingData, behind, is_sealed, seal_signed, signed_from, standing, start}
use Rattle.jrnl_store.specs.Kept.{Kept}
use Rattle.jrnl_store.specs.Made.{sealed_in}
use Rattle.jrnl_store.specs.Own.{IsOwn}
use Rattle.jrnl_store.specs.declared.fault.Stop.{Stop}
use Rattle.jrnl_store.specs.declared.fault.Stop.TheVariants.{OutletFault}
use Rattle.record_batch.specs.Batch.{BatchData, with_part}
use Rattle.record_kept.specs.Tickets.{AreKeptOf}
use Rattle.record_kept.specs.declared.kept.KeptRow.{KeptRow}
use Rattle.record_kept.proofs.Keeping.{frames-append, kept_quiet, quiet_frames}
use Rattle.record_model.specs.Recording.{is_none, needs_no_seal, seal_again}
use Rattle.journal_model.specs.Header.{CarriedData}
use Rattle.record_model.specs.Released.{Sender, pieces_from, signed_frames}
use Rattle.record_parts.specs.Ends.{Faults, SavedAs}
use Rattle.record_parts.specs.Outs.{AreQuiet, auth_by, first_of}
use Rattle.record_parts.specs.declared.answers.Sealed.{Sealed}
use Rattle.record_parts.specs.declared.answers.Sealed.TheVariants.{Again, Done}
use Rattle.record_parts.proofs.Ends.{rec}
use Rattle.record_parts.proofs.Giving.{cuts_one}
use Rattle.record_parts.proofs.Seals.{seal_cut, seal_pieces, seal_refused, seal_saved, seal_signs}
use Rattle.record_turn.proofs.Batches.{quiet_signs}
use Rattle.record_turn.specs.Leaves.{Seals}

-- ---- the last seal

-- a seal that was the last item is the last that signed
abbrev IsLast : StandingData → Type 0
IsLast s = s.sealed ≡ true → s.signed ≡ Some (record { leaf = s.used - 1; seq = s.next - 1; hash = s.hash; before = s.prior })

last_on : (s : StandingData) (ps : List Part) → IsLast s → IsLast (fold behind s ps)
last_on s [] h = h
last_on s (entry f ∷ ps) h = last_on (behind s (entry f)) ps (λ e. absurd cc)
last_on s (seal ∷ ps) h = last_on (behind s seal) ps (λ e. let z : s.used + 1 - 1 ≡ s.used = omega arith in rw z refl)
last_on s (keep k ∷ ps) h = last_on s ps h

last_of : (j : JournalData) → IsLast (standing j)
unfolding standing
last_of j = last_on (start j.header) (parts j) (λ e. absurd cc)

some_is : (a b : SignedData) → Some a ≡ Some b → a ≡ b
some_is a b e = cc

-- the ticket of the last seal
pub sealed_ticket : (j : JournalData) (t : SignedData) → sealed_in (standing j) ≡ Some t → (is_sealed j ≡ true) × (t ≡ record { leaf = (standing j).used - 1; seq = (standing j).next - 1; hash = (standing j).hash; before = (standing j).prior })
sealed_ticket j t e = go (standing j).sealed refl
  where
    go : (b : Bool) → (standing j).sealed ≡ b → (is_sealed j ≡ true) × (t ≡ record { leaf = (standing j).used - 1; seq = (standing j).next - 1; hash = (standing j).hash; before = (standing j).prior })
    go true q = let h : (standing j).signed ≡ Some t = rw q at e in (sym (stands_sealed j) ∙ q, some_is _ _ (sym h ∙ last_of j q))
    go false q = let h : None ≡ Some t = rw q at e in absurd cc

-- where there is none the last item is no seal
pub sealed_none : (j : JournalData) → sealed_in (standing j) ≡ None → is_sealed j ≡ false
sealed_none j e = go (standing j).sealed refl
  where
    go : (b : Bool) → (standing j).sealed ≡ b → is_sealed j ≡ false
    go true q =
        let h : (standing j).signed ≡ None = rw q at e in
        let x = sym h ∙ last_of j q in
        absurd cc
    go false q = sym (stands_sealed j) ∙ q

-- ---- what signs and what is kept

pub seal_signs_once : (b c : BatchData) → AreQuiet b.parts → c ≡ with_part b seal 0 → signing c.parts ≤ 1
unfolding signing
seal_signs_once b c quiet e =
    let a = signing_append b.parts (seal ∷ []) in
    let none = quiet_signs b.parts quiet in
    let is : signing c.parts ≡ signing (b.parts ++ seal ∷ []) = ap (λ (x : BatchData). signing x.parts) e in
    omega (arith, a, none, is)

seal_frames : (p : StandingData) (b : List Part) → AreQuiet b → signed_frames p (b ++ seal ∷ []) ≡ []
seal_frames p b quiet = frames-append p b (seal ∷ []) ∙ ap (λ (es : List CarriedData). es ++ signed_frames (fold behind p b) (seal ∷ [])) (quiet_frames p b quiet)

seal_kept : (rows : List KeptRow) (j : JournalData) (b : List Part) → AreQuiet b → AreKeptOf rows j → AreKeptOf rows (with_record j (b ++ seal ∷ []))
seal_kept rows j b quiet h = kept_quiet rows j (b ++ seal ∷ []) (seal_frames (standing j) b quiet) h

pub seal_never : (p : StandingData) (b c : BatchData) → AreQuiet b.parts → c ≡ with_part b seal 0 → None ≡ first_of (signed_from p c.parts) → ⊥
seal_never p b c quiet e h =
    let x : None ≡ Some (seal_signed (fold behind p b.parts)) = h ∙ ap (λ (y : BatchData). first_of (signed_from p y.parts)) e ∙ ap first_of (seal_signs p b.parts quiet) in
    absurd cc

both_false : (a c : Bool) → (a ≡ false) ⊎ (c ≡ false) → (a && c) ≡ false
both_false true c (inl h) = absurd cc
both_false true c (inr h) = h
both_false false c h = refl

module _ {H : Type 0} (adding : Piece → H → H) (tearing : Piece → H → H → Type 0) (who : Sender) (k : Kept) (j : JournalData) (images : List ℕ → Type 0) (was : List ℕ) (own : IsOwn k images was j) (b : BatchData) (s : State) (rows : List KeptRow) (f : Faults) where
  -- a seal is needed
  pub needed : (is_none b.parts ≡ false) ⊎ (sealed_in k.standing ≡ None) → needs_no_seal (rec j b.parts s) ≡ false
  needed (inl h) = both_false (is_none b.parts) (is_sealed j) (inl h)
  needed (inr h) = both_false (is_none b.parts) (is_sealed j) (inr (sealed_none j (ap sealed_in (sym own.keeps.standing) ∙ h)))

  pub seal_gone : (T : Type 0) (c : BatchData) (rest : List Part) (held : H) (stop : Stop) → (is_none b.parts ≡ false) ⊎ (sealed_in k.standing ≡ None) → c ≡ with_part b seal 0 → SavedAs {T = T} j c.parts j rest f (Err stop) → Seals adding tearing who (rec j b.parts s) rows rest f held held (Err stop) j c.parts
  seal_gone T c rest held stop due e saved = record {
    ends = seal_refused T Sealed adding tearing who j j b.parts rest s f held stop (needed due) (subst (λ (x : BatchData). SavedAs {T = T} j x.parts j rest f (Err stop)) e saved);
    answer = tt;
    in_flight = ap (λ (x : BatchData). x.parts) e;
    tickets = λ h. h;
  }

  -- the ticket that saving gives is the seal's
  pub ticket_is : (c : BatchData) (t : SignedData) → AreQuiet b.parts → c ≡ with_part b seal 0 → Some t ≡ first_of (signed_from k.standing c.parts) → seal_signed (fold behind (standing j) b.parts) ≡ t
  ticket_is c t quiet e h =
      let is : Some t ≡ first_of (signed_from (standing j) (b.parts ++ seal ∷ [])) = h ∙ ap (λ (x : StandingData). first_of (signed_from x c.parts)) own.keeps.standing ∙ ap (λ (x : BatchData). first_of (signed_from (standing j) x.parts)) e in
      sym (some_is t _ (is ∙ ap first_of (seal_signs (standing j) b.parts quiet)))

  releases : (c : BatchData) (t : SignedData) → AreQuiet b.parts → c ≡ with_part b seal 0 → Some t ≡ first_of (signed_from k.standing c.parts) → pieces_from who (standing j) (b.parts ++ seal ∷ []) ≡ auth (auth_by who t) ∷ []
  releases c t quiet e h = seal_pieces who (standing j) b.parts quiet ∙ ap (λ (x : SignedData). auth (auth_by who x) ∷ []) (ticket_is c t quiet e h)

  answers : needs_no_seal (rec j b.parts s) ≡ false → Done ≡ (if needs_no_seal (rec j b.parts s) then Again else Done)
  answers e = rw e refl

  pub seal_done : {T : Type 0} (x : T) (c : BatchData) (t : SignedData) (rest : List Part) (old new : H) → (is_none b.parts ≡ false) ⊎ (sealed_in k.standing ≡ None) → AreQuiet b.parts → c ≡ with_part b seal 0 → ((n m : ℕ) → SavedAs {T = T} j c.parts (with_record j c.parts) rest (record { disk_before = f.disk_before; disk_after = f.disk_after; outlet_before = n; outlet_after = m }) (Ok x))
      → Some t ≡ first_of (signed_from k.standing c.parts) → new ≡ adding (auth (auth_by who t)) old → Seals adding tearing who (rec j b.parts s) rows rest f old new (Ok Done) (with_record j c.parts) c.parts
  seal_done {T} x c t rest old new due quiet e saved h told = record {
    ends = seal_saved adding tearing who j (with_record j c.parts) b.parts rest s f old new _ x Done (needed due) (subst (λ (y : BatchData). SavedAs {T = T} j y.parts (with_record j c.parts) rest f (Ok x)) e (saved f.outlet_before f.outlet_after)) (releases c t quiet e h) told;
    answer = answers (needed due);
    in_flight = ap (λ (y : BatchData). y.parts) e;
    tickets = λ g. subst (λ (y : BatchData). AreKeptOf rows (with_record j y.parts)) (sym e) (seal_kept rows j b.parts quiet g);
  }

  pub seal_cut_off : {T : Type 0} (x : T) (c : BatchData) (t : SignedData) (rest : List Part) (old new : H) → (is_none b.parts ≡ false) ⊎ (sealed_in k.standing ≡ None) → AreQuiet b.parts → c ≡ with_part b seal 0 → ((n m : ℕ) → SavedAs {T = T} j c.parts (with_record j c.parts) rest (record { disk_before = f.disk_before; disk_after = f.disk_after; outlet_before = n; outlet_after = m }) (Ok x))
      → Some t ≡ first_of (signed_from k.standing c.parts) → tearing (auth (auth_by who t)) old new → Rises f.outlet_before f.outlet_after → Seals adding tearing who (rec j b.parts s) rows rest f old new (Err OutletFault) (with_record j c.parts) c.parts
  seal_cut_off {T} x c t rest old new due quiet e saved h cut rises = record {
    ends = seal_cut Sealed adding tearing who j (with_record j c.parts) b.parts rest s f old new _ x (needed due) (subst (λ (y : BatchData). SavedAs {T = T} j y.parts (with_record j c.parts) rest f (Ok x)) e (saved f.outlet_before f.outlet_after)) (releases c t quiet e h) (cuts_one adding tearing (auth (auth_by who t)) _ old new refl cut) rises;
    answer = tt;
    in_flight = ap (λ (y : BatchData). y.parts) e;
    tickets = λ g. subst (λ (y : BatchData). AreKeptOf rows (with_record j y.parts)) (sym e) (seal_kept rows j b.parts quiet g);
  }

  -- ---- none is needed

  both_true : (a c : Bool) → a ≡ true → c ≡ true → (a && c) ≡ true
  both_true a c e g = rw (e, g) refl

  again_is : (t : SignedData) → sealed_in k.standing ≡ Some t → (is_sealed j ≡ true) × (seal_again who j ≡ auth_by who t)
  again_is t h =
      let l = sealed_ticket j t (ap sealed_in (sym own.keeps.standing) ∙ h) in
      (l.0, rw l.1 refl)

  pub seal_again_done : (t : SignedData) (old new : H) → is_none b.parts ≡ true → sealed_in k.standing ≡ Some t → new ≡ adding (auth (auth_by who t)) old → Seals adding tearing who (rec j b.parts s) rows b.parts f old new (Ok Again) j (b.parts ++ seal ∷ [])
  seal_again_done t old new none h told =
      let a = again_is t h in
      let no : needs_no_seal (rec j b.parts s) ≡ true = both_true (is_none b.parts) (is_sealed j) none a.0 in
      record { ends = rw no (refl, refl, told ∙ ap (λ (x : List ℕ). adding (auth x) old) (sym a.1)); answer = rw no refl; in_flight = refl; tickets = λ g. g }

  pub seal_again_cut : (t : SignedData) (old new : H) → is_none b.parts ≡ true → sealed_in k.standing ≡ Some t → tearing (auth (auth_by who t)) old new → Rises f.outlet_before f.outlet_after → Seals adding tearing who (rec j b.parts s) rows b.parts f old new (Err OutletFault) j (b.parts ++ seal ∷ [])
  seal_again_cut t old new none h cut rises =
      let a = again_is t h in
      let no : needs_no_seal (rec j b.parts s) ≡ true = both_true (is_none b.parts) (is_sealed j) none a.0 in
      record { ends = rw no (refl, refl, cuts_one adding tearing (auth (seal_again who j)) _ old new refl (subst (λ (x : List ℕ). tearing (auth x) old new) (sym a.1) cut), rises); answer = tt; in_flight = refl; tickets = λ g. g }
