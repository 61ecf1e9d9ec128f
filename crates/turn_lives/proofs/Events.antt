-- What a call leaves, as events.
use Rattle.std.proofs.Common.{◌≡◌, ◌⊎◌, inl, inr, ℕ, Bool, true, false, List, [], ◌∷◌, ◌++◌, Option, Some, None, Result, Ok, Err, refl, sym, ap, subst, ◌∙◌}
use Rattle.std.proofs.lemmas.Bool.{and_parts}
use Rattle.std.proofs.lemmas.List.{append-nil}
use Rattle.avm_model.specs.Head.{HeadData}
use Rattle.avm_model.specs.Machine.{State}
use Rattle.avm_outside.specs.Outlet.{Piece, all_added, auth}
use Rattle.honest_model.specs.KeepPages.{IsHeader}
use Rattle.journal_model.specs.Fits.{FitsJournal}
use Rattle.journal_model.specs.Journal.{Is, JournalData, journal_of, with_record}
use Rattle.journal_model.specs.Part.{Part}
use Rattle.journal_model.specs.Saving.{CommitRefusal, commit_refusal}
use Rattle.journal_model.specs.Standing.{SignedData, is_sealed, signed_from, standing}
use Rattle.jrnl_store.specs.declared.fault.Stop.{Stop}
use Rattle.jrnl_store.specs.declared.fault.Stop.TheVariants.{LeavesSpent, Full, DiskFault, OutletFault, FeedFault}
use Rattle.life_model.proofs.Kept.{pieces_told}
use Rattle.life_model.specs.Life.{Goes, Here, IsKept, Life, Saves, StandsForOne, Stays, Then, Told, told_from, with_batch}
use Rattle.record_kept.specs.declared.kept.KeptRow.{KeptRow}
use Rattle.record_model.specs.Recording.{Act, Done, Effect, Recording, closed_by, finished, is_none, needs_no_seal, saved, seal_again, sealed, with_seal}
use Rattle.record_model.specs.Released.{Sender, pieces_from}
use Rattle.record_model.specs.Turn.{Gift}
use Rattle.record_model.proofs.Standing.{standing_moved}
use Rattle.record_parts.specs.Ends.{CutsAmong, EndsAs, Faults, SealsAs}
use Rattle.record_parts.specs.declared.answers.Sealed.{Sealed}
use Rattle.record_parts.specs.declared.answers.Turn.{Turn}
use Rattle.record_store.specs.Saving.{StandsWith}
use Rattle.record_turn.specs.Keeping.{Aside, MarksTell}
use Rattle.record_turn.specs.Leaves.{Acted, Seals}
use Rattle.recorder.specs.Turns.{Does, Planned}
use Rattle.truth_laws.proofs.Acts.{act_leaves}
use Rattle.truth_laws.proofs.Calls.{true_sealed}
use Rattle.truth_laws.specs.Truth.{IsTrue}
use Rattle.turn_lives.proofs.Own.{Again, act_again, none_again, seal_told_again}
use Rattle.turn_lives.specs.Lives.{LivesCut, LivesOn, WhereSaved}

-- what the outlet got of pieces
abbrev GotPieces : {H : Type 0} → (Piece → H → H) → (Piece → H → H → Type 0) → List Piece → H → H → Type 0
GotPieces adding tearing ps old new = (new ≡ all_added adding ps old) ⊎ CutsAmong adding tearing ps old new

-- what a call leaves: the life behind it, and one at each place whose images stand for the journal, or for it with what is in flight
pub record Lived {W H : Type 0} (left : W → List ℕ → Type 0) (adding : Piece → H → H) (tearing : Piece → H → H → Type 0) (l : Life W) (place : W) (flight : List Part) (r : Recording) (old new : H) : Type 0 where
  pub on : LivesOn left adding tearing l r place old new
  pub crash : (at : W) → ((c : List ℕ) → left at c → StandsWith l.recording.journal flight c) → LivesCut left l at

module _ {W H : Type 0} (left : W → List ℕ → Type 0) (adding : Piece → H → H) (tearing : Piece → H → H → Type 0) (l : Life W) where
  -- an image that stands for the journal, or for it with what is in flight
  one_of : (r : Recording) (flight : List Part) → r.journal ≡ l.recording.journal → flight ≡ r.batch → (c : List ℕ) → StandsWith l.recording.journal flight c → StandsForOne l.retiring r c
  one_of r flight e f c (inl q) = inl (q ∙ ap (λ (j : JournalData). Is j) (sym e))
  one_of r flight e f c (inr q) = inr (inl (q ∙ ap (λ (j : JournalData). Is (with_record j flight)) (sym e) ∙ ap (λ (ps : List Part). Is (with_record r.journal ps)) f))

  goes : (r : Recording) (place : W) (ps : List Piece) → (a : Again l.who r.journal ps) → r.journal ≡ l.recording.journal → IsTrue r → ((c : List ℕ) → left place c → StandsForOne l.retiring r c) → Goes left l r place a.told a.signs
  goes r place ps a e h images = record {
    journal = e;
    standing = h.standing;
    goes_on = h.goes_on;
    keeps = h.keeps;
    snaps = h.snaps;
    images_are = images;
    own = a.own;
    own_signs = a.own_signs;
  }

  -- the journal stays
  pub stay : (r : Recording) (place : W) (ps : List Piece) (old new : H) → Again l.who r.journal ps → r.journal ≡ l.recording.journal → IsTrue r → ((c : List ℕ) → left place c → StandsForOne l.retiring r c) → GotPieces adding tearing ps old new → LivesOn left adding tearing l r place old new
  stay r place ps old new a e h images got = record {
    life = record l { recording = r; place = place; released = l.released ++ a.told; signed = l.signed ++ a.signs };
    comes = Then l _ Here (Stays r place a.told a.signs (goes r place ps a e h images));
    who_is = refl;
    recording_is = refl;
    place_is = refl;
    told = a.told;
    released = refl;
    got = subst (λ (qs : List Piece). GotPieces adding tearing qs old new) (sym a.pieces_are) got;
  }

  pub cut : (r : Recording) (place : W) → r.journal ≡ l.recording.journal → IsTrue r → ((c : List ℕ) → left place c → StandsForOne l.retiring r c) → LivesCut left l place
  cut r place e h images =
      let a = none_again l.who r.journal in
      record {
        life = record l { recording = r; place = place; released = l.released ++ []; signed = l.signed ++ [] };
        comes = Then l _ Here (Stays r place [] [] (record { journal = e; standing = h.standing; goes_on = h.goes_on; keeps = h.keeps; snaps = h.snaps; images_are = images; own = λ t m. absurd m; own_signs = λ s m. absurd m }));
        place_is = refl;
        released = append-nil l.released;
      }

  -- the batch is saved
  pub save : (r : Recording) (place : W) (old new : H) → r.journal ≡ l.recording.journal → IsTrue r → ((c : List ℕ) → left place c → journal_of c ≡ Is (with_batch r)) → GotPieces adding tearing (pieces_from l.who (standing r.journal) r.batch) old new → LivesOn left adding tearing l (saved r) place old new
  save r place old new e h only got =
      let mid : Life W = record l { recording = r; place = place; released = l.released ++ []; signed = l.signed ++ [] } in
      let ts : List Told = told_from l.who (standing r.journal) r.batch in
      let ss : List SignedData = signed_from (standing r.journal) r.batch in
      record {
        life = record mid { recording = saved r; place = place; released = mid.released ++ ts; signed = mid.signed ++ ss };
        comes = Then mid _
            (Then l mid Here (Stays r place [] [] (record { journal = e; standing = h.standing; goes_on = h.goes_on; keeps = h.keeps; snaps = h.snaps; images_are = λ c m. inr (inl (only c m)); own = λ t m. absurd m; own_signs = λ s m. absurd m })))
            (Saves place ts ss (record { images_are = only; rest = []; pieces = sym (append-nil ts); more = []; items = sym (append-nil ss) }));
        who_is = refl;
        recording_is = refl;
        place_is = refl;
        told = ts;
        released = ap (λ (x : List Told). x ++ ts) (append-nil l.released);
        got = subst (λ (qs : List Piece). GotPieces adding tearing qs old new) (sym (pieces_told l.who (standing r.journal) r.batch)) got;
      }

  -- ---- an effect

  open_is : (who : Sender) (e : Effect) → e.closes ≡ false → finished who e ≡ record { recording = e.recording; pieces = e.again; dropped = e.dropped; stop = None }
  open_is who e q = rw q refl

  closed_is : (who : Sender) (e : Effect) (w : Option CommitRefusal) → e.closes ≡ true → commit_refusal e.recording.journal e.recording.batch ≡ w → finished who e ≡ closed_by who e.recording w
  closed_is who e w q z = rw q (ap (λ (x : Option CommitRefusal). closed_by who e.recording x) z)

  -- a saving that isn't refused
  never : (w : CommitRefusal) → Some w ≡ None → ⊥
  never w e = absurd cc

  finish : (e : Effect) (place : W) (flight : List Part) (r : Recording) (old new : H) → IsTrue e.recording → e.recording.journal ≡ l.recording.journal → flight ≡ e.recording.batch → Again l.who e.recording.journal e.again → ((c : List ℕ) → left place c → StandsWith l.recording.journal flight c)
      → ((c : List ℕ) → left place c → journal_of c ≡ Is r.journal) → (finished l.who e).stop ≡ None → r ≡ (finished l.who e).recording → GotPieces adding tearing (finished l.who e).pieces old new → LivesOn left adding tearing l r place old new
  finish e place flight r old new h j fl a stands only stop is got = go e.closes refl
    where
      by : (w : Option CommitRefusal) → e.closes ≡ true → commit_refusal e.recording.journal e.recording.batch ≡ w → LivesOn left adding tearing l r place old new
      by (Some w) q z = absurd (never w (sym (ap (λ (d : Done). d.stop) (closed_is l.who e (Some w) q z)) ∙ stop))
      by None q z =
          let k = closed_is l.who e None q z in
          let same : r ≡ saved e.recording = is ∙ ap (λ (d : Done). d.recording) k in
          subst (λ (x : Recording). LivesOn left adding tearing l x place old new) (sym same)
          (save e.recording place old new j h (λ c m. only c m ∙ ap (λ (x : Recording). Is x.journal) same) (subst (λ (ps : List Piece). GotPieces adding tearing ps old new) (ap (λ (d : Done). d.pieces) k) got))

      go : (b : Bool) → e.closes ≡ b → LivesOn left adding tearing l r place old new
      go true q = by (commit_refusal e.recording.journal e.recording.batch) q refl
      go false q =
          let k = open_is l.who e q in
          let same : r ≡ e.recording = is ∙ ap (λ (d : Done). d.recording) k in
          subst (λ (x : Recording). LivesOn left adding tearing l x place old new) (sym same)
          (stay e.recording place e.again old new a j h (λ c m. one_of e.recording flight j fl c (stands c m)) (subst (λ (ps : List Piece). GotPieces adding tearing ps old new) (ap (λ (d : Done). d.pieces) k) got))

  refused : (e : Effect) (place : W) (flight : List Part) (r : Recording) (old new : H) → IsTrue e.recording → e.recording.journal ≡ l.recording.journal → flight ≡ e.recording.batch → ((c : List ℕ) → left place c → StandsWith l.recording.journal flight c) → r ≡ e.recording → new ≡ old → LivesOn left adding tearing l r place old new
  refused e place flight r old new h j fl stands is same =
      subst (λ (x : Recording). LivesOn left adding tearing l x place old new) (sym is)
      (stay e.recording place [] old new (none_again l.who e.recording.journal) j h (λ c m. one_of e.recording flight j fl c (stands c m)) (inl same))

  effect_lives : {T : Type 0} (e : Effect) (place : W) (flight : List Part) (r : Recording) (f : Faults) (old new : H) (result : Result T Stop) → IsTrue e.recording → e.recording.journal ≡ l.recording.journal → flight ≡ e.recording.batch → Again l.who e.recording.journal e.again
      → ((c : List ℕ) → left place c → StandsWith l.recording.journal flight c) → WhereSaved result ((c : List ℕ) → left place c → journal_of c ≡ Is r.journal) → EndsAs adding tearing l.who e r f old new result → LivesOn left adding tearing l r place old new
  effect_lives e place flight r f old new (Ok x) h j fl a stands only ends = finish e place flight r old new h j fl a stands only ends.0 ends.1 (inl ends.2)
  effect_lives e place flight r f old new (Err LeavesSpent) h j fl a stands only ends = refused e place flight r old new h j fl stands ends.1 ends.2
  effect_lives e place flight r f old new (Err Full) h j fl a stands only ends = refused e place flight r old new h j fl stands ends.1 ends.2
  effect_lives e place flight r f old new (Err DiskFault) h j fl a stands only ends = refused e place flight r old new h j fl stands ends.0 ends.1
  effect_lives e place flight r f old new (Err OutletFault) h j fl a stands only ends = finish e place flight r old new h j fl a stands only ends.0 ends.1 (inr ends.2)
  effect_lives e place flight r f old new (Err FeedFault) h j fl a stands only ends = absurd ends

  -- ---- a turn

  pub is_true : IsKept left l → IsTrue l.recording
  is_true k = record { standing = k.standing; goes_on = k.goes_on; keeps = k.keeps; snaps = k.open_snaps }

  module _ (kept : IsKept left l) (a : HeadData) (w : FitsJournal l.recording.journal) (head : IsHeader l.recording.journal.header a) (place : W) (f : Faults) (old new : H) where
    acted_lives : (quiet : ℕ) (act : Act) (aside after : Aside) (batch : List Part) (machine : State) (result : Result Turn Stop) (next : JournalData) (flight : List Part) → MarksTell l.recording.journal l.recording.batch aside.ram
        → ((c : List ℕ) → left place c → StandsWith l.recording.journal flight c) → WhereSaved result ((c : List ℕ) → left place c → journal_of c ≡ Is next)
        → Acted adding tearing l.who quiet act l.recording aside after batch machine f old new result next flight → Lived left adding tearing l place flight (record { journal = next; batch = batch; machine = machine }) old new
    acted_lives quiet act aside after batch machine result next flight m stands only d =
        let h = is_true kept in
        let at : Recording = record l.recording { machine = d.acts.at } in
        let moved : IsTrue at = record { standing = standing_moved l.recording quiet d.acts.at h.standing d.acts.moved_to; goes_on = h.goes_on; keeps = h.keeps; snaps = h.snaps } in
        let e : Effect = d.acts.effect in
        let lv = act_leaves l.who at a act d.acts.pages e aside.ram after.ram w head moved m d.acts.effect_is d.keeps in
        let again = subst (λ (j : JournalData). Again l.who j e.again) (sym lv.journal) (act_again l.who at act d.acts.pages e d.acts.effect_is) in
        record {
          on = effect_lives e place flight (record { journal = next; batch = batch; machine = machine }) f old new result lv.now lv.journal d.in_flight again stands only d.acts.ends;
          crash = λ there images. cut e.recording there lv.journal lv.now (λ c q. one_of e.recording flight lv.journal d.in_flight c (images c q));
        }

    pub planned_lives : (g : Gift) (value : ℕ) (aside after : Aside) (batch : List Part) (machine : State) (result : Result Turn Stop) (next : JournalData) (flight : List Part) → MarksTell l.recording.journal l.recording.batch aside.ram
        → ((c : List ℕ) → left place c → StandsWith l.recording.journal flight c) → WhereSaved result ((c : List ℕ) → left place c → journal_of c ≡ Is next)
        → Planned adding tearing l.who g value l.recording aside after batch machine f old new result next flight → Lived left adding tearing l place flight (record { journal = next; batch = batch; machine = machine }) old new
    planned_lives g value aside after batch machine result next flight m stands only p = go p.plan.act p.does
      where
        go : (act : Option Act) → Does adding tearing l.who p.plan act l.recording aside after batch machine f old new result next flight → Lived left adding tearing l place flight (record { journal = next; batch = batch; machine = machine }) old new
        go (Some act) d = acted_lives p.plan.quiet act aside after batch machine result next flight m stands only d
        go None i =
            let h = is_true kept in
            let stays : l.recording ≡ record { journal = next; batch = batch; machine = machine } = rw (i.journal, i.batch_is, i.machine_is) refl in
            record {
              on = subst (λ (x : Recording). LivesOn left adding tearing l x place old new) stays (stay l.recording place [] old new (none_again l.who l.recording.journal) refl h (λ c q. one_of l.recording flight refl i.in_flight c (stands c q)) (inl i.held));
              crash = λ there images. cut l.recording there refl h (λ c q. one_of l.recording flight refl i.in_flight c (images c q));
            }

    -- ---- a seal

    -- nothing is saved: the last seal's authenticator is given again
    sealed_again : (r : Recording) → needs_no_seal l.recording ≡ true → r ≡ (sealed l.who l.recording).recording → ((c : List ℕ) → left place c → journal_of c ≡ Is r.journal) → GotPieces adding tearing (sealed l.who l.recording).pieces old new → LivesOn left adding tearing l r place old new
    sealed_again r q is only got =
        let e : sealed l.who l.recording ≡ record { recording = l.recording; pieces = auth (seal_again l.who l.recording.journal) ∷ []; dropped = None; stop = None } = rw q refl in
        let same : r ≡ l.recording = is ∙ ap (λ (d : Done). d.recording) e in
        let last : is_sealed l.recording.journal ≡ true = (and_parts (is_none l.recording.batch) (is_sealed l.recording.journal) q).1 in
        subst (λ (x : Recording). LivesOn left adding tearing l x place old new) (sym same)
        (stay l.recording place (auth (seal_again l.who l.recording.journal) ∷ []) old new (seal_told_again l.who l.recording.journal last) refl (is_true kept) (λ c m. inl (only c m ∙ ap (λ (x : Recording). Is x.journal) same))
        (subst (λ (ps : List Piece). GotPieces adding tearing ps old new) (ap (λ (d : Done). d.pieces) e) got))

    sealed_new : (r : Recording) → needs_no_seal l.recording ≡ false → (sealed l.who l.recording).stop ≡ None → r ≡ (sealed l.who l.recording).recording → ((c : List ℕ) → left place c → journal_of c ≡ Is r.journal) → GotPieces adding tearing (sealed l.who l.recording).pieces old new → LivesOn left adding tearing l r place old new
    sealed_new r q stop is only got = by (commit_refusal l.recording.journal (with_seal l.recording).batch) refl
      where
        closed_as : (o : Option CommitRefusal) → commit_refusal l.recording.journal (with_seal l.recording).batch ≡ o → sealed l.who l.recording ≡ closed_by l.who (with_seal l.recording) o
        closed_as o z = rw q (ap (λ (x : Option CommitRefusal). closed_by l.who (with_seal l.recording) x) z)

        by : (o : Option CommitRefusal) → commit_refusal l.recording.journal (with_seal l.recording).batch ≡ o → LivesOn left adding tearing l r place old new
        by (Some why) z = absurd (never why (sym (ap (λ (d : Done). d.stop) (closed_as (Some why) z)) ∙ stop))
        by None z =
            let k = closed_as None z in
            let same : r ≡ saved (with_seal l.recording) = is ∙ ap (λ (d : Done). d.recording) k in
            subst (λ (x : Recording). LivesOn left adding tearing l x place old new) (sym same)
            (save (with_seal l.recording) place old new refl (true_sealed l.recording w (is_true kept)) (λ c m. only c m ∙ ap (λ (x : Recording). Is x.journal) same) (subst (λ (ps : List Piece). GotPieces adding tearing ps old new) (ap (λ (d : Done). d.pieces) k) got))

    sealed_or : (r : Recording) → (sealed l.who l.recording).stop ≡ None → r ≡ (sealed l.who l.recording).recording → ((c : List ℕ) → left place c → journal_of c ≡ Is r.journal) → GotPieces adding tearing (sealed l.who l.recording).pieces old new → LivesOn left adding tearing l r place old new
    sealed_or r stop is only got = go (needs_no_seal l.recording) refl
      where
        go : (b : Bool) → needs_no_seal l.recording ≡ b → LivesOn left adding tearing l r place old new
        go true q = sealed_again r q is only got
        go false q = sealed_new r q stop is only got

    unsealed : (r : Recording) (flight : List Part) → flight ≡ (with_seal l.recording).batch → ((c : List ℕ) → left place c → StandsWith l.recording.journal flight c) → r ≡ with_seal l.recording → new ≡ old → LivesOn left adding tearing l r place old new
    unsealed r flight fl stands is same =
        subst (λ (x : Recording). LivesOn left adding tearing l x place old new) (sym is)
        (stay (with_seal l.recording) place [] old new (none_again l.who l.recording.journal) refl (true_sealed l.recording w (is_true kept)) (λ c m. one_of (with_seal l.recording) flight refl fl c (stands c m)) (inl same))

    seal_ends : {T : Type 0} (r : Recording) (flight : List Part) (result : Result T Stop) → flight ≡ (with_seal l.recording).batch → ((c : List ℕ) → left place c → StandsWith l.recording.journal flight c) → WhereSaved result ((c : List ℕ) → left place c → journal_of c ≡ Is r.journal) → SealsAs adding tearing l.who l.recording r f old new result
        → LivesOn left adding tearing l r place old new
    seal_ends r flight (Ok x) fl stands only ends = sealed_or r ends.0 ends.1 only (inl ends.2)
    seal_ends r flight (Err LeavesSpent) fl stands only ends = unsealed r flight fl stands ends.1 ends.2
    seal_ends r flight (Err Full) fl stands only ends = unsealed r flight fl stands ends.1 ends.2
    seal_ends r flight (Err DiskFault) fl stands only ends = unsealed r flight fl stands ends.0 ends.1
    seal_ends r flight (Err OutletFault) fl stands only ends = sealed_or r ends.0 ends.1 only (inr ends.2)
    seal_ends r flight (Err FeedFault) fl stands only ends = absurd ends

    pub seal_lives : (rows : List KeptRow) (batch : List Part) (result : Result Sealed Stop) (next : JournalData) (flight : List Part) → ((c : List ℕ) → left place c → StandsWith l.recording.journal flight c) → WhereSaved result ((c : List ℕ) → left place c → journal_of c ≡ Is next)
        → Seals adding tearing l.who l.recording rows batch f old new result next flight → Lived left adding tearing l place flight (record { journal = next; batch = batch; machine = l.recording.machine }) old new
    seal_lives rows batch result next flight stands only s = record {
      on = seal_ends (record { journal = next; batch = batch; machine = l.recording.machine }) flight result s.in_flight stands only s.ends;
      crash = λ there images. cut (with_seal l.recording) there refl (true_sealed l.recording w (is_true kept)) (λ c q. one_of (with_seal l.recording) flight refl s.in_flight c (images c q));
    }

-- what holds where a call saved what it had to save
pub where_map : {T : Type 0} (r : Result T Stop) (P Q : Type 0) → (P → Q) → WhereSaved r P → WhereSaved r Q
where_map (Ok x) P Q f h = f h
where_map (Err LeavesSpent) P Q f h = tt
where_map (Err Full) P Q f h = tt
where_map (Err DiskFault) P Q f h = tt
where_map (Err OutletFault) P Q f h = f h
where_map (Err FeedFault) P Q f h = tt
