-- What a journal on a disk is opened to.
use Rattle.std.proofs.Common.{◌≡◌, ℕ, ◌+◌, ◌*◌, ◌^◌, ◌<◌, ◌≤◌, Bool, true, false, not, List, ◌∷◌, length, get_or, Option, Some, None, IfSome, IfNone, Ok, Err, refl, sym, ap, subst, ◌∙◌, arith, inl, inr, eq-eqb}
use Rattle.std.specs.Str.{bytes_eq}
use Rattle.std.proofs.lemmas.Nat.{from_be_bytes-to_be_bytes_4}
use Rattle.avm_model.specs.Frame.{FrameData}
use Rattle.avm_model.specs.Head.{HeadData}
use Rattle.avm_model.specs.HeadReading.{head_of}
use Rattle.avm_model.specs.Keys.{HasTypes, KeyData, public_of}
use Rattle.avm_model.specs.LmsTypes.{height_of}
use Rattle.avm_model.specs.LmsValid.{number}
use Rattle.avm_model.specs.Machine.{MachineState, State}
use Rattle.avm_model.specs.Memory.{IsRam, RamState}
use Rattle.avm_model.specs.Pages.{page_of}
use Rattle.honest_model.specs.Keeps.{IsOpenFault, IsOpened}
use Rattle.journal_model.specs.Fits.{FitsJournal}
use Rattle.journal_model.specs.Header.{most_leaves}
use Rattle.journal_model.specs.Journal.{Is, JournalData, count_or_zero, journal_of, next_number, page_count_of, parts, entries}
use Rattle.journal_model.specs.Part.{Part, entry, frames_in}
use Rattle.journal_model.specs.Standing.{Bounds, StandingData}
use Rattle.journal_model.proofs.Fitting.{first_entry}
use Rattle.journal_model.proofs.Judging.{stands_next}
use Rattle.jrnl_store.specs.Kept.{Kept, kept as kept_of}
use Rattle.jrnl_store.specs.Own.{AreKept, IsOwn}
use Rattle.jrnl_store.specs.declared.journal.Journal.{Journal}
use Rattle.jrnl_store.proofs.Commits.{own_at}
use Rattle.keep_judge.specs.Good.{pages_fit}
use Rattle.keep_judge.proofs.Goodness.{fits_head, head_count}
use Rattle.rebut_model.proofs.Named.{bytes_same, same_bytes}
use Rattle.rebut_pass.specs.Reads.{OfJournal}
use Rattle.rebut_pass.specs.declared.fault.ReadFault.{ReadFault}
use Rattle.rebut_pass.specs.declared.fault.ReadFault.TheVariants as read
use Rattle.record_open.specs.Counts.{read_fault}
use Rattle.open_pass.specs.Tickets.{rows_in}
use Rattle.open_replay.specs.Replayed.{HasLaterSnap, IsReplayed}
use Rattle.open_replay.specs.declared.replaying.Replayed.{Replayed}
use Rattle.record_kept.specs.Tickets.{AreKeptOf as TheirKept}
use Rattle.record_kept.specs.declared.kept.KeptRow.{KeptRow}
use Rattle.record_ready.specs.Ready.{IsSteady}
use Rattle.ready_laws.proofs.Steady.{steady}
use Rattle.record_open.specs.Opening.{Allows, AttachAnswers, IsAllowed, IsDesk, IsSettled, JournalAnswers, Opens, Refuses}
use Rattle.record_open.specs.declared.fault.RecordFault.{RecordFault}
use Rattle.record_open.specs.declared.fault.RecordFault.TheVariants as fault
use Rattle.record_turn.specs.Desk.{rows_of}
use Rattle.record_turn.specs.declared.desk.Desk.{Desk}

-- ---- refusals

fits_some : (n : ℕ) (head : List ℕ) → pages_fit n (head_of head) ≡ true → head_of head ≡ None → ⊥
fits_some n head e none = let f = fits_head n (head_of head) e in (let q : None ≡ Some f.0 = sym none ∙ f.1 in absurd cc)

-- the head has another page count than its header says only where it is none
no_head : (k : Kept) (j : JournalData) (head : List ℕ) → AreKept k j → head ≡ j.header.head → pages_fit k.bounds.pages (head_of head) ≡ false → head_of j.header.head ≡ None
no_head k j head kept same e = go (head_of j.header.head) refl
  where
    pages : k.bounds.pages ≡ page_count_of j
    pages = ap (λ (b : Bounds). b.pages) kept.bounds

    go : (o : Option HeadData) → head_of j.header.head ≡ o → o ≡ None
    go None i = refl
    go (Some h) i =
        let count : page_count_of j ≡ h.front.pages = ap count_or_zero (head_count j.header.head h i) in
        let fits : pages_fit k.bounds.pages (Some h) ≡ true = eq-eqb h.front.pages k.bounds.pages (sym (pages ∙ count)) in
        let there : pages_fit k.bounds.pages (Some h) ≡ false = sym (ap (λ (o : Option HeadData). pages_fit k.bounds.pages o) (ap head_of same ∙ i)) ∙ e in
        absurd cc

next_is : (i : JournalData) (f : FrameData) (ps : List Part) → parts i ≡ entry f ∷ ps → next_number i ≡ i.header.first + (1 + length (frames_in ps))
unfolding next_number entries
next_is i f ps e =
    let one : length (f ∷ frames_in ps) ≡ 1 + length (frames_in ps) = omega arith in
    ap (λ (l : List Part). i.header.first + length (frames_in l)) e ∙ ap (λ (n : ℕ). i.header.first + n) one

next_all : (i : JournalData) → next_number i ≡ i.header.first + length (entries i)
unfolding next_number
next_all i = refl

has_entry : (k : Kept) (j : JournalData) → AreKept k j → FitsJournal j → k.standing.next ≤ k.bounds.first → ⊥
has_entry k j kept fits le =
    let o = first_entry j fits in
    let next : k.standing.next ≡ next_number j = ap (λ (s : StandingData). s.next) kept.standing ∙ stands_next j in
    let first : k.bounds.first ≡ j.header.first = ap (λ (b : Bounds). b.first) kept.bounds in
    let more : next_number j ≡ j.header.first + (1 + length (frames_in o.1)) = next_is j o.0 o.1 o.2 in
    omega (arith, le, next, first, more)

pub refused : (k : Kept) (who : KeyData) (head : List ℕ) (f : RecordFault) (j : JournalData) → FitsJournal j → AreKept k j → head ≡ j.header.head → Refuses k who head f → Opens who j (Err f)
refused k who head fault.NoMemory j fits kept same h = absurd h
refused k who head fault.DiskFault j fits kept same h = absurd h
refused k who head fault.NoStore j fits kept same (inl e) = no_head k j head kept same e
refused k who head fault.NoStore j fits kept same (inr le) = absurd (has_entry k j kept fits le)
refused k who head (fault.Damaged p) j fits kept same h = absurd h
refused k who head (fault.Retired n) j fits kept same h = (λ none. fits_some k.bounds.pages head h.0 (ap head_of same ∙ none), sym kept.mark ∙ h.1)
refused k who head fault.KeyMismatch j fits kept same h = (λ none. fits_some k.bounds.pages head h.0 (ap head_of same ∙ none), sym kept.mark ∙ h.1, λ e. h.2 (kept.key ∙ e))
refused k who head (fault.Unreplayed n) j fits kept same h = absurd h

pub allowed : (k : Kept) (who : KeyData) (head : List ℕ) (j : JournalData) → AreKept k j → head ≡ j.header.head → Allows k who head → IsAllowed who j
allowed k who head j kept same a = record { head = λ none. fits_some k.bounds.pages head a.fits (ap head_of same ∙ none); mark = sym kept.mark ∙ a.mark; key = sym kept.key ∙ a.key }

pub read_opens : (who : KeyData) (j : JournalData) (e : ReadFault) → Opens who j (Err (read_fault e))
read_opens who j read.NoMemory = tt
read_opens who j read.DiskFault = tt

-- keys that are compared
pub other_key : (a b c : List ℕ) (r : Bool) → r ≡ not (bytes_eq a b) → r ≡ true → b ≡ c → a ≡ c → ⊥
other_key a b c r e y same alike =
    let t : bytes_eq a b ≡ true = bytes_same a b (alike ∙ sym same) in
    let q : not (bytes_eq a b) ≡ false = ap not t in
    let w : true ≡ false = sym y ∙ e ∙ q in
    absurd cc

pub same_key : (a b c : List ℕ) (r : Bool) → r ≡ not (bytes_eq a b) → r ≡ false → b ≡ c → a ≡ c
same_key a b c r e n same = same_bytes a b (go (bytes_eq a b) (sym e ∙ n)) ∙ same
  where
    go : (t : Bool) → not t ≡ false → t ≡ true
    go true h = refl
    go false h = absurd cc

-- ---- the parts of a recorder

-- an entry takes a byte or more, and a journal's last gate stands below 2 ^ 30
pub few_entries : (v : Journal) (j : JournalData) → AreKept (kept_of v) j → length (entries j) ≤ 2 ^ 30
few_entries v j kept =
    let next : v.stand.next ≡ next_number j = ap (λ (s : StandingData). s.next) kept.standing ∙ stands_next j in
    let first : v.bounds.first ≡ j.header.first = ap (λ (b : Bounds). b.first) kept.bounds in
    let near = v.near in
    let place = v.place in
    omega (arith, next, first, near, place, next_all j)

pub desk_is : (j : JournalData) (r : Replayed) (d : Desk) (n : ℕ) → FitsJournal j → length (entries j) ≤ 2 ^ 30 → r.run.judge.fault ≡ None → d.machine.state ≡ r.run.judge.replay.stand.state → IsSettled d.machine r.ram.bytes n → rows_of d.kept ≡ rows_in r.tickets.kept → d.all ≡ r.run.snaps → IsReplayed j r → IsDesk j d
desk_is j r d n fits few none state set rows all h = record {
  fault = subst (λ (o : Option ℕ). IsOpenFault j o) none h.fault;
  steady = subst IsSteady (sym state) (steady j r.run.judge.replay.stand.state fits few (subst (λ (o : Option ℕ). IsOpenFault j o) none h.fault) (h.opened none));
  machine = subst (λ (s : State). IsOpened j s) (sym state) (h.opened none);
  tickets = subst (λ (l : List KeptRow). TheirKept l j) (sym rows) h.tickets;
  marks = record {
    len = ap length (sym h.ram) ∙ set.len;
    size = set.size;
    same = λ i lt clean. ap (λ (b : List ℕ). page_of b i) (sym h.ram) ∙ set.same i lt clean;
  };
  all = subst (λ (b : Bool). HasLaterSnap j b) (sym all) h.all;
}

pub desk_none : (k : Kept) (j : JournalData) (r : Replayed) → AreKept k j → r.run.judge.fault ≡ None → (length r.run.judge.replay.stand.state.ram ≡ 4096 * k.bounds.pages → length r.ram.dirty ≡ k.bounds.pages → ⊥) → IsReplayed j r → ⊥
desk_none k j r kept none never h =
    let pages : k.bounds.pages ≡ page_count_of j = ap (λ (b : Bounds). b.pages) kept.bounds in
    never (h.size none ∙ ap (λ (n : ℕ). 4096 * n) (sym pages)) (h.pages ∙ sym pages)

-- what behind a mark is settled
pub settled : (old new : MachineState) (other : RamState) (n : ℕ) → IsRam old.state.ram old.dirty → IsRam other.bytes other.dirty → length old.dirty ≡ n → length other.dirty ≡ n → new.state ≡ old.state → length new.dirty ≡ length old.dirty
    → ((i : ℕ) → i < length new.dirty → get_or new.dirty i false ≡ false → page_of other.bytes i ≡ page_of new.state.ram i) → IsSettled new other.bytes n
settled old new other n a b p q state count same =
    let ram : length new.state.ram ≡ length old.state.ram = ap (λ (s : State). length s.ram) state in
    let x = a.size in
    let y = b.size in
    record { count = count ∙ p; size = omega (arith, ram, x, count); len = omega (arith, ram, x, y, p, q); same = same }

-- leaves of a key
number_is : (k : KeyData) → k.lms < 2 ^ 32 → number (public_of k) 0 ≡ k.lms
unfolding public_of
number_is k lt = from_be_bytes-to_be_bytes_4 k.lms lt

pub leaves_of : (key : List ℕ) (k : KeyData) → HasTypes k → key ≡ public_of k → most_leaves key ≡ 2 ^ height_of k.lms
unfolding most_leaves
leaves_of key k t e = ap (λ (x : List ℕ). 2 ^ height_of (number x 0)) e ∙ ap (λ (n : ℕ). 2 ^ height_of n) (number_is k (let h = t.lms_high in omega (arith, h)))

-- ---- all of it

refused_as : (who : KeyData) (f : RecordFault) (images : List ℕ → Type 0) (was : List ℕ) (j : JournalData) → journal_of was ≡ Is j → Opens who j (Err f) → AttachAnswers who (Err f) images was
refused_as who fault.NoMemory images was j is o = tt
refused_as who fault.DiskFault images was j is o = tt
refused_as who fault.NoStore images was j is o = inr (j, is, o)
refused_as who (fault.Damaged p) images was j is o = absurd o
refused_as who (fault.Retired n) images was j is o = (j, is, o)
refused_as who fault.KeyMismatch images was j is o = (j, is, o)
refused_as who (fault.Unreplayed n) images was j is o = (j, is, o)

own_less : (k : Kept) (images less : List ℕ → Type 0) (was : List ℕ) (j : JournalData) → ((c : List ℕ) → less c → images c) → IsOwn k images was j → IsOwn k less was j
own_less k images less was j sub o = record {
  front = o.front;
  place = o.place;
  last = o.last;
  stands = o.stands;
  begun = o.begun;
  keeps = o.keeps;
  base = o.base;
  read = o.read;
  left = λ c h. o.left c (sub c h);
  shut = o.shut;
  left_shut = λ run c h. o.left_shut run c (sub c h);
}

pub attached_ok : (who : KeyData) (v : Journal) (d : Desk) (told mid : Option (List ℕ)) (images less : List ℕ → Type 0) → mid ≡ told → ((c : List ℕ) → less c → images c) → kept_of d.store.journal ≡ kept_of v
    → IfSome told (λ was. JournalAnswers (Ok v) images was) → OfJournal mid (kept_of v) (λ j. Opens who j (Ok d)) → IfSome told (λ was. AttachAnswers who (Ok d) less was)
attached_ok who v d None mid images less same sub kept a o = tt
attached_ok who v d (Some was) mid images less same sub kept a o =
    let own : IsOwn (kept_of v) less was a.0 = own_less (kept_of v) images less was a.0 sub a.2 in
    let opens : OfJournal (Some was) (kept_of v) (λ j. Opens who j (Ok d)) = subst (λ (t : Option (List ℕ)). OfJournal t (kept_of v) (λ j. Opens who j (Ok d))) same o in
    (a.0, a.1, subst (λ (k : Kept). IsOwn k less was a.0) (sym kept) own, opens a.0 (own_at (kept_of v) images was a.0 a.2) a.2.begun)

pub attached_err : (who : KeyData) (v : Journal) (f : RecordFault) (told mid : Option (List ℕ)) (images less : List ℕ → Type 0) → mid ≡ told
    → IfSome told (λ was. JournalAnswers (Ok v) images was) → OfJournal mid (kept_of v) (λ j. Opens who j (Err f)) → IfSome told (λ was. AttachAnswers who (Err f) less was)
attached_err who v f None mid images less same a o = tt
attached_err who v f (Some was) mid images less same a o =
    let opens : OfJournal (Some was) (kept_of v) (λ j. Opens who j (Err f)) = subst (λ (t : Option (List ℕ)). OfJournal t (kept_of v) (λ j. Opens who j (Err f))) same o in
    refused_as who f less was a.0 a.1 (opens a.0 (own_at (kept_of v) images was a.0 a.2) a.2.begun)

pub some_here : {A : Type 0} (P : A → Type 0) (o : Option A) (x : A) → o ≡ Some x → IfSome o P → P x
some_here P o x e h = subst (λ (p : Option _). IfSome p P) e h

pub none_here : {A : Type 0} (P : Type 0) (o : Option A) → o ≡ None → IfNone o P → P
none_here P o e h = subst (λ (p : Option _). IfNone p P) e h

-- what opening the journal alone refuses
pub journal_refused : (who : KeyData) (e : RecordFault) (told : Option (List ℕ)) (images : List ℕ → Type 0) → IfSome told (λ was. JournalAnswers (Err e) images was) → IfSome told (λ was. AttachAnswers who (Err e) images was)
journal_refused who e None images h = tt
journal_refused who fault.NoMemory (Some was) images h = tt
journal_refused who fault.DiskFault (Some was) images h = tt
journal_refused who fault.NoStore (Some was) images h = inl h
journal_refused who (fault.Damaged p) (Some was) images h = h
journal_refused who (fault.Retired n) (Some was) images h = absurd h
journal_refused who fault.KeyMismatch (Some was) images h = absurd h
journal_refused who (fault.Unreplayed n) (Some was) images h = absurd h
