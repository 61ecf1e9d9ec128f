-- The opening of a journal.
use Rattle.std.proofs.Common.{inl, ◌≡◌, ℕ, ◌+◌, ◌-◌, ◌<◌, ◌≤◌, refl, sym, ◌∙◌, ap, subst, Option, None, Some, IfSome, List, [], ◌∷◌, ◌++◌, length, drop, Result, Ok, Err, arith, length-append, append-nil}
use Rattle.std.specs.Prelude.{false}
use Rattle.std.proofs.lemmas.List.{drop_at}
use Rattle.avm_outside.specs.Disk.{Only}
use Rattle.journal_model.specs.Header.{HeaderData, header_at}
use Rattle.journal_model.specs.Journal.{JournalData, parts, Is, NoStore, journal_of, journal_from, behind_header, is_open, IsFront}
use Rattle.journal_model.specs.Standing.{standing, start}
use Rattle.journal_model.proofs.Locals.{local_header, header_alone, header_lacking}
use Rattle.jrnl_part.proofs.Places.{header_places, header_size}
use Rattle.jrnl_store.proofs.LastGate.{bare_gate}
use Rattle.jrnl_part.specs.Starts.{IsStart}
use Rattle.jrnl_part.specs.declared.header.Start.{Start}
use Rattle.jrnl_store.specs.Kept.{Kept, kept_start}
use Rattle.jrnl_store.specs.Reading.{IsStartOf}
use Rattle.jrnl_store.specs.Own.{IsAt, IsOwn, WalkAnswers, AttachAnswers}
use Rattle.jrnl_store.specs.declared.fault.StoreFault.{StoreFault}
use Rattle.jrnl_store.specs.declared.fault.StoreFault.TheVariants as fault
use Rattle.jrnl_store.proofs.Steps.{closed}

-- a journal that has no record stands at its start
pub bare_standing : (h : HeaderData) → standing (record { header = h; records = []; mark = None }) ≡ start h
unfolding standing parts
bare_standing h = refl

stand_start : (s : Start) (h : HeaderData) → IsStart s h → (kept_start s).standing ≡ start h
stand_start s h is =
    let a : s.bounds.first ≡ h.first = ap (λ b. b.first) is.bounds in
    rw (a, is.before, is.leaves) refl

-- bytes that are read as a header, whatever stands behind them, are a front
pub reads_front : (header : List ℕ) (h : HeaderData) → ((rest : List ℕ) → header_at (header ++ rest) ≡ Some (h, rest)) → IsFront (record { header = h; records = []; mark = None }) header
unfolding journal_of
reads_front header h reads gate rest =
    let len : length (header ++ gate ∷ rest) - length (gate ∷ rest) ≡ length header = omega (arith, length-append header (gate ∷ rest)) in
    ap (behind_header (length (header ++ gate ∷ rest))) (reads (gate ∷ rest)) ∙ ap (λ (n : ℕ). journal_from (record { journal = record { header = h; records = []; mark = None }; place = n; bytes = gate ∷ rest })) len

pub opened : (was : List ℕ) (s : Start) (h : HeaderData) (rest : List ℕ) → header_at was ≡ Some (h, rest) → IsStart s h → s.front + length rest ≡ length was → 1 ≤ length rest → IsAt (kept_start s) was (record { header = h; records = []; mark = None })
opened was s h rest e is place some =
    let t = local_header.again was (h, rest) e in
    let starts = reads_front t.0 h t.2 in
    let len : length was ≡ length (t.0 ++ rest) = ap length t.1 in
    let g = first rest some in
    record {
      front = t.0;
      place = omega (arith, len, length-append t.0 rest, place);
      last = omega (arith, bare_gate h, header_size h was rest (header_places was (h, rest) e), place);
      stands = starts;
      keeps = record { key = is.key; before = is.before; bounds = is.bounds; head_len = is.head_len; leaves = is.leaves; standing = stand_start s h is ∙ sym (bare_standing h); mark = refl };
      base = record { header = t.0; tail = []; at = omega (arith, len, length-append t.0 rest, place); reads = t.2; starts = starts; read = sym (append-nil t.0) };
      read = (g.0, g.1, t.1 ∙ ap (λ (l : List ℕ). t.0 ++ l) g.2);
      begun = inl (refl, refl);
    }
  where
    first : (rest : List ℕ) → 1 ≤ length rest → (b : ℕ) × (tail : List ℕ) × (rest ≡ b ∷ tail)
    first [] some = absurd (omega (arith, some))
    first (b ∷ tail) some = (b, tail, refl)

pub open_some : (told : Option (List ℕ)) (s : Start) (r : Option Start) (k : Kept) (len : ℕ) → r ≡ Some s → k ≡ kept_start s → s.front < len → IfSome told (λ was. len ≡ length was) → IfSome told (λ was. IsStartOf r was) → IfSome told (λ was. (j : JournalData) × IsAt k was j × (j.records ≡ []))
open_some None s r k len is same lt size h = tt
open_some (Some was) s r k len is same lt size h =
    let m : IsStartOf (Some s) was = subst (λ (x : Option Start). IsStartOf x was) is h in
    let place = m.4 in
    (record { header = m.0; records = []; mark = None }, subst (λ (x : Kept). IsAt x was (record { header = m.0; records = []; mark = None })) (sym same) (opened was s m.0 m.1 m.2 m.3 place (omega (arith, place, lt, size))), refl)

pub open_alone : (told : Option (List ℕ)) (s : Start) (r : Option Start) (len : ℕ) → r ≡ Some s → len ≤ s.front → IfSome told (λ was. len ≡ length was) → IfSome told (λ was. IsStartOf r was) → IfSome told (λ was. journal_of was ≡ NoStore)
open_alone None s r len is le size h = tt
open_alone (Some was) s r len is le size h =
    let m : IsStartOf (Some s) was = subst (λ (x : Option Start). IsStartOf x was) is h in
    let place = m.4 in
    header_alone was m.0 (m.2 ∙ ap (λ (l : List ℕ). Some (m.0, l)) (empty m.1 (omega (arith, place, le, size))))
  where
    empty : (l : List ℕ) → length l ≡ 0 → l ≡ []
    empty [] e = refl
    empty (b ∷ l) e = absurd (omega (arith, e))

pub open_none : (told : Option (List ℕ)) (r : Option Start) → r ≡ None → IfSome told (λ was. IsStartOf r was) → IfSome told (λ was. journal_of was ≡ NoStore)
open_none None r is h = tt
open_none (Some was) r is h = header_lacking was (subst (λ (x : Option Start). IsStartOf x was) is h)

-- ---- the journal's own disk, once all is read

own : (k : Kept) (images : List ℕ → Type 0) (was : List ℕ) (j : JournalData) → Only was images → journal_of was ≡ Is j → IsAt k was j → is_open (drop k.gate was) ≡ false → IsOwn k images was j
own k images was j only is o e =
    let here : drop k.gate was ≡ o.read.0 ∷ o.read.1 = ap (drop k.gate) o.read.2 ∙ drop_at o.front (o.read.0 ∷ o.read.1) k.gate o.place in
    let shut = ap is_open (sym here) ∙ e in
    record {
      front = o.front;
      place = o.place;
      last = o.last;
      stands = o.stands;
      begun = sym (closed k was j o e) ∙ is;
      keeps = o.keeps;
      base = o.base;
      read = o.read;
      left = λ c left. (o.read.0 ∷ o.read.1, only c left ∙ o.read.2);
      shut = λ run. (o.read.0, o.read.1, o.read.2, shut);
      left_shut = λ run c left. (o.read.0, o.read.1, only c left ∙ o.read.2, shut);
    }

abbrev pub Walked : Kept → Kept → List ℕ → Result (Unit {0}) StoreFault → Type 0
Walked first last was r = (j : JournalData) → IsAt first was j → j.records ≡ [] → WalkAnswers last was r

abbrev pub Bare : Kept → List ℕ → Type 0
Bare k was = (j : JournalData) × IsAt k was j × (j.records ≡ [])

pub attach_ok : (told mid end : Option (List ℕ)) (first last : Kept) (synced images : List ℕ → Type 0) (t : Unit {0}) → mid ≡ told → end ≡ told → IfSome told (λ was. Only was synced) → ((c : List ℕ) → images c → synced c)
    → IfSome mid (Bare first) → IfSome end (λ was. Walked first last was (Ok t)) → IfSome told (λ was. (j : JournalData) × (journal_of was ≡ Is j) × IsOwn last images was j)
attach_ok None mid end first last synced images t m e durable less bare walked = tt
attach_ok (Some was) mid end first last synced images t m e durable less bare walked =
    let b = subst (λ (o : Option (List ℕ)). IfSome o (Bare first)) m bare in
    let w = subst (λ (o : Option (List ℕ)). IfSome o (λ was. Walked first last was (Ok t))) e walked b.0 b.1 b.2 in
    (w.0, w.1, own last images was w.0 (λ c left. durable c (less c left)) w.1 w.2 w.3)

refused_walk : (e : StoreFault) (last : Kept) (images : List ℕ → Type 0) (was : List ℕ) → WalkAnswers last was (Err e) → AttachAnswers (Err e) images was
refused_walk fault.NoMemory last images was a = absurd a
refused_walk fault.DiskFault last images was a = tt
refused_walk fault.NotEmpty last images was a = a
refused_walk fault.NoStore last images was a = a
refused_walk (fault.Damaged p) last images was a = a
refused_walk fault.LeavesSpent last images was a = a
refused_walk fault.Full last images was a = a
refused_walk (fault.Ended s) last images was a = a

pub attach_refused : (told mid end : Option (List ℕ)) (first last : Kept) (images : List ℕ → Type 0) (e : StoreFault) → mid ≡ told → end ≡ told → IfSome mid (Bare first) → IfSome end (λ was. Walked first last was (Err e)) → IfSome told (AttachAnswers (Err e) images)
attach_refused None mid end first last images f m e bare walked = tt
attach_refused (Some was) mid end first last images f m e bare walked =
    let b = subst (λ (o : Option (List ℕ)). IfSome o (Bare first)) m bare in
    refused_walk f last images was (subst (λ (o : Option (List ℕ)). IfSome o (λ was. Walked first last was (Err f))) e walked b.0 b.1 b.2)
