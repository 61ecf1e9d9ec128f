-- A node that is opened again on an image.
use Rattle.std.proofs.Common.{◌≡◌, ℕ, List, [], ◌++◌, None, refl, sym, ap, subst, ◌∙◌, ◌⊎◌, inl, inr}
use Rattle.std.proofs.lemmas.List.{append-nil}
use Rattle.avm_model.specs.Head.{HeadData}
use Rattle.avm_model.specs.Keys.{KeyData}
use Rattle.avm_outside.specs.Outlet.{Piece}
use Rattle.avm_outside.specs.declared.mem_disk.MemDisk.{MemDisk}
use Rattle.honest_model.specs.KeepPages.{IsHeader}
use Rattle.journal_model.specs.Header.{HeaderData}
use Rattle.journal_model.specs.Journal.{JournalData, journal_of, with_record}
use Rattle.journal_model.specs.Part.{Part}
use Rattle.life_model.proofs.Kept.{event_kept, opens}
use Rattle.life_model.specs.Life as life
use Rattle.life_model.specs.Life.{Event, Here, IsKept, Life, OnStore, opened}
use Rattle.record_model.specs.Recording.{Recording}
use Rattle.record_model.specs.Released.{Sender}
use Rattle.record_parts.specs.Outs.{ram_in}
use Rattle.record_turn.specs.Keeping.{MarksTell}
use Rattle.record_turn.specs.declared.desk.Desk.{Desk}
use Rattle.recorder.specs.Recorder.{desk_of}
use Rattle.recorder.specs.declared.recorder.Recorder.{Recorder}
use Rattle.truth_laws.proofs.Calls.{marks_opened}
use Rattle.world_core.specs.Crashes.{OpensOn}
use Rattle.world_core.specs.Turns.{may_leave, recording_of, signs_in}
use Rattle.world_headline.proofs.Own.{comes_on}
use Rattle.world_headline.specs.Standing.{StandsAt, Store, left, life_of}
use Rattle.world_laws.specs.Events.{AsSaved, IsReopened, IsSound, WithBatch}
use Rattle.world_laws.specs.Network.{Reopens}
use Rattle.world_turns.specs.Comes.{Comes, Stays, Then}

-- ---- lives

event_who : {W : Type 0} (left : W → List ℕ → Type 0) (l m : Life W) → Event left l m → m.who ≡ l.who
event_who left l _ (life.Saves place ps ss e) = refl
event_who left l _ (life.Stays r place again signs e) = refl
event_who left l _ (life.Reopens j to place e) = refl
event_who left l _ (life.Marks n place e) = refl
event_who left l _ (life.MovesOn n to place e) = refl

pub comes_who : {W : Type 0} (left : W → List ℕ → Type 0) (l m : Life W) → life.Comes left l m → m.who ≡ l.who
comes_who left l _ Here = refl
comes_who left l _ (life.Then m n c e) = event_who left m n e ∙ comes_who left l m c

pub kept_as : (m : Life Store) (who : Sender) (r : Recording) (place : Store) → m.who ≡ who → m.recording ≡ r → m.place ≡ place → IsKept left m → IsKept left (record m { who = who; recording = r; place = place })
kept_as m who r place a b c h =
    let one = subst (λ (x : Sender). IsKept left (record m { who = x })) a h in
    let two = subst (λ (x : Recording). IsKept left (record m { who = who; recording = x })) b one in
    subst (λ (x : Store). IsKept left (record m { who = who; recording = r; place = x })) c two

-- ---- senders

-- a key with an own id
abbrev pub sender : KeyData → ℕ → Sender
sender key own = record { key = key; own = own }

pub same_sender : (k l : Desk) → l.press.key ≡ k.press.key → l.machine.state.devices.own ≡ k.machine.state.devices.own → signs_in l ≡ signs_in k
same_sender k l key own = ap (λ (x : KeyData). sender x l.machine.state.devices.own) key ∙ ap (λ (n : ℕ). sender k.press.key n) own

-- ---- an opening

-- a recorder that is opened is a recording that is opened
pub opened_as : (d : MemDisk) (k : Desk) (r : Recorder) (image : List ℕ) → (o : OpensOn d r k.press.key image) → recording_of o.journal (desk_of r) ≡ opened o.journal (desk_of r).machine.state
opened_as d k r image o = ap (λ (ps : List Part). record { journal = o.journal; batch = ps; machine = (desk_of r).machine.state }) o.empty

pub opens_at : (k : Desk) (j : JournalData) (a : HeadData) (l : Life Store) (image : List ℕ) (d : MemDisk) (r : Recorder) → IsKept left l → l.who ≡ signs_in k → left l.place image → j.header.carried ≡ [] → IsHeader j.header a → (o : OpensOn d r k.press.key image) → o.journal.header ≡ j.header
    → (desk_of r).machine.state.devices.own ≡ k.machine.state.devices.own → StandsAt d (desk_of r) o.journal
opens_at k j a l image d r kept who at carried header o same own =
    let m : Life Store = record l { recording = opened o.journal (desk_of r).machine.state; place = OnStore d; retiring = None } in
    let goes : Event left l m = life.Reopens o.journal (desk_of r).machine.state (OnStore d) (record { image = image; may_be_left = at; stands = o.stands; unmarked = o.allowed.mark; opened_is = o.desk.machine; images_are = λ c q. ap journal_of (o.only c q) ∙ o.stands }) in
    record {
      disk = o.disk;
      past = record { retiring = None; gone = l.gone; released = l.released; signed = l.signed };
      kept = kept_as m (signs_in (desk_of r)) (recording_of o.journal (desk_of r)) (OnStore d) (who ∙ sym (same_sender k (desk_of r) o.key_is own)) (sym (opened_as d k r image o)) refl (event_kept left l m kept goes);
      carried = ap (λ (h : HeaderData). h.carried) same ∙ carried;
      head = a;
      header = subst (λ (h : HeaderData). IsHeader h a) (sym same) header;
      marks = subst (λ (ps : List Part). MarksTell o.journal ps (ram_in (desk_of r).machine)) (sym o.empty) (marks_opened o.journal (ram_in (desk_of r).machine) o.desk.marks);
    }

-- ---- behind a call

-- a node that is opened again on what its disk may leave
pub record Again (k : Desk) (j : JournalData) (d : MemDisk) (t : Desk) : Type 0 where
  pub journal : JournalData
  pub at : StandsAt d t journal
  pub signs : signs_in t ≡ signs_in k
  pub reopened : IsReopened (recording_of j k) journal
  pub comes : (pool : List Piece) (who : Sender) (r : Recording) (ps : List Piece) → Comes pool who r (recording_of j k) ps → Comes pool who r (recording_of journal t) ps

reopened_header : (r : Recording) (m : JournalData) → IsReopened r m → m.header ≡ r.journal.header
reopened_header r m (AsSaved e) = ap (λ (j : JournalData). j.header) e
reopened_header r m (WithBatch e) = ap (λ (j : JournalData). j.header) e

either : (r : Recording) (m : JournalData) → (m ≡ r.journal) ⊎ (m ≡ with_record r.journal r.batch) → IsReopened r m
either r m (inl e) = AsSaved e
either r m (inr e) = WithBatch e

no_more : (pool : List Piece) (who : Sender) (r t : Recording) (ps : List Piece) → Comes pool who r t (ps ++ []) → Comes pool who r t ps
no_more pool who r t ps c = subst (λ (xs : List Piece). Comes pool who r t xs) (append-nil ps) c

pub again_at : (k : Desk) (j : JournalData) (e d : MemDisk) (r : Recorder) (image : List ℕ) → IsSound (recording_of j k) → StandsAt e k j → may_leave e image → OpensOn d r k.press.key image → Again k j d (desk_of r)
again_at k j e d r image sound s at o =
    let l : Life Store = life_of e k j s.past in
    let which = opens left l o.journal image s.kept at o.stands o.allowed.mark in
    let re : IsReopened (recording_of j k) o.journal = either (recording_of j k) o.journal which.0 in
    let to : Recording = opened o.journal (desk_of r).machine.state in
    let same = opened_as d k r image o in
    let step : (pool : List Piece) (who : Sender) (q : Recording) (ps : List Piece) → Comes pool who q (recording_of j k) ps → Comes pool who q to ps =
    λ pool who q ps c. no_more pool who q to ps (Then q (recording_of j k) to ps [] c (Reopens o.journal (desk_of r).machine.state (record { reopened = re; opened_is = o.desk.machine }) refl refl)) in
    let own = (comes_on [] (signs_in k) (recording_of j k) to [] sound (step [] (signs_in k) (recording_of j k) [] (Stays (recording_of j k)))).0 in
    record {
      journal = o.journal;
      at = opens_at k j s.head l image d r s.kept refl at s.carried s.header o (reopened_header (recording_of j k) o.journal re) own;
      signs = same_sender k (desk_of r) o.key_is own;
      reopened = re;
      comes = λ pool who q ps c. subst (λ (x : Recording). Comes pool who q x ps) (sym same) (step pool who q ps c);
    }
