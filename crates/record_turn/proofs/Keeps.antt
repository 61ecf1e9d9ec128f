-- What the writing of a step's outputs leaves of the keeps, and of the marks.
use Rattle.std.proofs.Common.{◌≡◌, ℕ, zero, suc, ◌+◌, ◌*◌, ◌<◌, Bool, true, false, List, [], ◌∷◌, ◌++◌, length, map, Option, Some, None, refl, sym, ap, subst, ◌∙◌, append_assoc, arith, get_or, inr}
use Rattle.std.specs.Prelude.{◌==◌}
use Rattle.std.proofs.lemmas.List.{append-nil, get_or-replicate}
use Rattle.avm_num.specs.Walk.{items_of}
use Rattle.avm_model.specs.Content.{snap}
use Rattle.avm_model.specs.Frame.{FrameData}
use Rattle.avm_model.specs.Head.{head_bytes}
use Rattle.avm_model.specs.HeadState.{data_of}
use Rattle.avm_model.specs.Machine.{State, out_send}
use Rattle.avm_model.specs.Memory.{RamState}
use Rattle.avm_model.specs.PageMarks.{MarksPages}
use Rattle.avm_model.specs.Pages.{page_of}
use Rattle.avm_model.specs.Reference.{Made, OutAt, SendAt, HaltAt, SnapAt, NothingAt, made_of}
use Rattle.avm_model.specs.declared.Sent.{Sent}
use Rattle.guest_machine.specs.Outs.{halt_list, snap_list}
use Rattle.guest_machine.specs.declared.outs.Outs.{Outs}
use Rattle.honest_model.proofs.Keeping.{kept-append, with_pages_is}
use Rattle.honest_model.proofs.Logs.{keeps-append}
use Rattle.honest_model.proofs.Marked.{kept_behind, kept_marks, marked_pages}
use Rattle.honest_model.specs.KeepPages.{IsKeptRam, KeepsMarked, KeepsPages, Same, WritesHead, ram_with}
use Rattle.honest_model.specs.Keeps.{kept_ram}
use Rattle.journal_model.specs.Header.{HeaderData}
use Rattle.journal_model.specs.Journal.{JournalData, page_count_of, pages_ascend, parts}
use Rattle.journal_model.specs.Part.{KeepData, PageData, Part, entry, keep, keeps_in, page_at, pages_of}
use Rattle.record_kept.specs.declared.kept.KeptRow.{KeptRow}
use Rattle.record_machine.specs.Marks.{used_marks}
use Rattle.record_model.specs.Recording.{frame_of, made_content, made_parts, next_of}
use Rattle.record_model.specs.Standing.{FitAll}
use Rattle.record_parts.specs.Outs.{outs_made, pages_in}
use Rattle.record_turn.specs.Keeping.{Aside, KeepsStep, MarksTell, makes_snap}

abbrev pub beside : List KeptRow → RamState → Aside
beside rows ram = record { rows = rows; ram = ram }

pub beside_same : (a b : List KeptRow) (r q : RamState) → a ≡ b → r ≡ q → beside a r ≡ beside b q
beside_same a b r q e f = rw (e, f) refl

-- ---- the keeps so far

pub same_kept : (h : HeaderData) (a b : List Part) (ram : RamState) → keeps_in b ≡ keeps_in a → IsKeptRam h a ram → IsKeptRam h b ram
same_kept h a b ram e k = record {
  len = subst (λ (ks : List KeepData). length (kept_ram h.pages ks) ≡ length ram.bytes) (sym e) k.len;
  size = k.size;
  same = subst (λ (ks : List KeepData). (i : ℕ) → i < length ram.dirty → get_or ram.dirty i false ≡ false → page_of (kept_ram h.pages ks) i ≡ page_of ram.bytes i) (sym e) k.same;
}

same_pages : (h : HeaderData) (a b : List Part) (s : State) (ps : List PageData) → keeps_in b ≡ keeps_in a → KeepsPages h a s ps → KeepsPages h b s ps
same_pages h a b s ps e k = record {
  len = subst (λ (ks : List KeepData). length (kept_ram h.pages ks) ≡ length s.ram) (sym e) k.len;
  are = k.are;
  same = subst (λ (ks : List KeepData). Same ps (kept_ram h.pages ks) s.ram) (sym e) k.same;
}

entry_keeps : (front : List Part) (f : FrameData) → keeps_in (front ++ entry f ∷ []) ≡ keeps_in front
entry_keeps front f = keeps-append front (entry f ∷ []) ∙ append-nil (keeps_in front)

-- an entry leaves them
pub entry_tells : (j : JournalData) (b : List Part) (f : FrameData) (ram : RamState) → MarksTell j b ram → MarksTell j (b ++ entry f ∷ []) ram
entry_tells j b f ram k =
    subst (λ (ps : List Part). IsKeptRam j.header ps ram) (append_assoc (parts j) b (entry f ∷ [])) (same_kept j.header (parts j ++ b) ((parts j ++ b) ++ entry f ∷ []) ram (entry_keeps (parts j ++ b) f) k)

-- pages that all have are all behind their keep too
pages_again : (h : HeaderData) (front : List Part) (s : State) (k : KeepData) → KeepsPages h front s (pages_of k) → KeepsPages h (front ++ keep k ∷ []) s (pages_of k)
pages_again h front s k p =
    let is : kept_ram h.pages (keeps_in (front ++ keep k ∷ [])) ≡ s.ram = ap (λ (ks : List KeepData). kept_ram h.pages ks) (keeps-append front (keep k ∷ [])) ∙ kept-append h.pages (keeps_in front) k ∙ with_pages_is (pages_of k) (kept_ram h.pages (keeps_in front)) s.ram p.len p.are p.same in
    record { len = ap (λ (b : List ℕ). length b) is; are = p.are; same = λ i lt. inr (ap (λ (b : List ℕ). get_or b i 0) is) }

-- ---- outputs

no_keeps : (os : List Made) (n : ℕ) (s : State) (pages : List ℕ) → makes_snap os ≡ false → keeps_in (made_parts n s pages os) ≡ []
no_keeps [] n s pages e = refl
no_keeps (OutAt count bytes ∷ os) n s pages e = no_keeps os (n + 1) s pages e
no_keeps (SendAt count peer number payload ∷ os) n s pages e = no_keeps os (n + 1) s pages e
no_keeps (HaltAt count cause value ∷ os) n s pages e = no_keeps os (n + 1) s pages e
no_keeps (SnapAt count r ∷ os) n s pages e = absurd cc
no_keeps (NothingAt count ∷ os) n s pages e = no_keeps os (n + 1) s pages e

-- without a SNAP the marks tell as before
quiet_tell : (h : HeaderData) (os : List Made) (front : List Part) (s : State) (n : ℕ) (pages : List ℕ) (ram : RamState) → makes_snap os ≡ false → IsKeptRam h front ram → IsKeptRam h (front ++ made_parts n s pages os) ram
quiet_tell h os front s n pages ram e k =
    same_kept h front (front ++ made_parts n s pages os) ram (keeps-append front (made_parts n s pages os) ∙ ap (λ (ks : List KeepData). keeps_in front ++ ks) (no_keeps os n s pages e) ∙ append-nil (keeps_in front)) k

-- behind a SNAP any marks tell
loud_tell : (h : HeaderData) (os : List Made) (front : List Part) (s : State) (n : ℕ) (pages : List ℕ) (dirty : List Bool) → length s.ram ≡ 4096 * length dirty → KeepsPages h front s (items_of page_at pages) → makes_snap os ≡ true → IsKeptRam h (front ++ made_parts n s pages os) (ram_with s dirty)
loud_tell h [] front s n pages dirty size k e = absurd cc
loud_tell h (o ∷ os) front s n pages dirty size k e = by (λ two again q. loud_tell h os two s (n + 1) pages dirty size again q) o e
  where
    past : (f : FrameData) → KeepsPages h (front ++ entry f ∷ []) s (items_of page_at pages)
    past f = same_pages h front (front ++ entry f ∷ []) s (items_of page_at pages) (entry_keeps front f) k

    more : ((two : List Part) → KeepsPages h two s (items_of page_at pages) → makes_snap os ≡ true → IsKeptRam h (two ++ made_parts (n + 1) s pages os) (ram_with s dirty)) → (f : FrameData) → makes_snap os ≡ true → IsKeptRam h (front ++ (entry f ∷ made_parts (n + 1) s pages os)) (ram_with s dirty)
    more ih f q = subst (λ (ps : List Part). IsKeptRam h ps (ram_with s dirty)) (append_assoc front (entry f ∷ []) (made_parts (n + 1) s pages os)) (ih (front ++ entry f ∷ []) (past f) q)

    either : ((two : List Part) → KeepsPages h two s (items_of page_at pages) → makes_snap os ≡ true → IsKeptRam h (two ++ made_parts (n + 1) s pages os) (ram_with s dirty)) → (two : List Part) → IsKeptRam h two (ram_with s dirty) → KeepsPages h two s (items_of page_at pages) → (b : Bool) → makes_snap os ≡ b
        → IsKeptRam h (two ++ made_parts (n + 1) s pages os) (ram_with s dirty)
    either ih two here again true q = ih two again q
    either ih two here again false q = quiet_tell h os two s (n + 1) pages (ram_with s dirty) q here

    kept : ((two : List Part) → KeepsPages h two s (items_of page_at pages) → makes_snap os ≡ true → IsKeptRam h (two ++ made_parts (n + 1) s pages os) (ram_with s dirty)) → (f : FrameData)
        → IsKeptRam h (front ++ (entry f ∷ (keep (record { seq = n; head = head_bytes (data_of s); pages = pages }) ∷ made_parts (n + 1) s pages os))) (ram_with s dirty)
    kept ih f =
        let k2 : KeepData = record { seq = n; head = head_bytes (data_of s); pages = pages } in
        let one : List Part = front ++ entry f ∷ [] in
        let two : List Part = one ++ keep k2 ∷ [] in
        let here : IsKeptRam h two (ram_with s dirty) = kept_behind h one s dirty k2 (past f) size in
        let all : IsKeptRam h (two ++ made_parts (n + 1) s pages os) (ram_with s dirty) = either ih two here (pages_again h one s k2 (past f)) (makes_snap os) refl in
        subst (λ (ps : List Part). IsKeptRam h ps (ram_with s dirty)) (append_assoc one (keep k2 ∷ []) (made_parts (n + 1) s pages os) ∙ append_assoc front (entry f ∷ []) (keep k2 ∷ made_parts (n + 1) s pages os)) all

    by : ((two : List Part) → KeepsPages h two s (items_of page_at pages) → makes_snap os ≡ true → IsKeptRam h (two ++ made_parts (n + 1) s pages os) (ram_with s dirty)) → (o : Made) → makes_snap (o ∷ os) ≡ true → IsKeptRam h (front ++ made_parts n s pages (o ∷ os)) (ram_with s dirty)
    by ih (OutAt count bytes) q = more ih (frame_of n (made_content (OutAt count bytes))) q
    by ih (SendAt count peer number payload) q = more ih (frame_of n (made_content (SendAt count peer number payload))) q
    by ih (HaltAt count cause value) q = more ih (frame_of n (made_content (HaltAt count cause value))) q
    by ih (SnapAt count r) q = kept ih (frame_of n (snap count r))
    by ih (NothingAt count) q = more ih (frame_of n (made_content (NothingAt count))) q

-- ---- the outputs of a machine

tail_snap : (s : State) (h : Option (ℕ × ℕ)) (b : Bool) → makes_snap (map (made_of s) (halt_list h ++ snap_list b)) ≡ b
tail_snap s None false = refl
tail_snap s None true = refl
tail_snap s (Some h) false = refl
tail_snap s (Some h) true = refl

sent_snap : (s : State) (x : Option Sent) (h : Option (ℕ × ℕ)) (b : Bool) → makes_snap (map (made_of s) (out_send x s.devices.window ++ halt_list h ++ snap_list b)) ≡ b
sent_snap s None h b = tail_snap s h b
sent_snap s (Some x) h b = tail_snap s h b

outs_snap : (s : State) (o : Outs) → makes_snap (outs_made s o) ≡ o.snap
outs_snap s o = go (o.line.len == 0) refl
  where
    go : (e : Bool) → (o.line.len == 0) ≡ e → makes_snap (outs_made s o) ≡ o.snap
    go true e = rw e (sent_snap s o.sent o.halt o.snap)
    go false e = rw e (sent_snap s o.sent o.halt o.snap)

-- a mark stands within the RAM
mark_within : (dirty : List Bool) (i : ℕ) → get_or dirty i false ≡ true → i < length dirty
mark_within [] i e = absurd cc
mark_within (d ∷ ds) zero e = omega arith
mark_within (d ∷ ds) (suc i) e = let ih = mark_within ds i e in omega (arith, ih)

used : (all : Bool) (dirty : List Bool) (i : ℕ) → get_or dirty i false ≡ true → get_or (used_marks all dirty) i false ≡ true
used true dirty i e = get_or-replicate (length dirty) i true false (mark_within dirty i e)
used false dirty i e = e

all_marked : (s : State) (all : Bool) (dirty : List Bool) (ps : List PageData) → KeepsMarked s (used_marks all dirty) ps → KeepsMarked s dirty ps
all_marked s all dirty ps m = record { are = m.are; marked = λ i e. m.marked i (used all dirty i e) }

-- the outputs of a step, as they were written
pub step_keeps : (j : JournalData) (b : List Part) (s u : State) (all : Bool) (dirty after : List Bool) (o : Outs) (pages : List ℕ) → u ≡ s → FitAll (outs_made s o) → pages_ascend 0 (page_count_of j) (items_of page_at pages) ≡ true → (o.snap ≡ true → WritesHead s) → (o.snap ≡ true → KeepsMarked s (used_marks all dirty) (pages_in pages))
    → length after ≡ length dirty → (o.snap ≡ false → after ≡ dirty) → KeepsStep j b s (outs_made s o) pages (ram_with s dirty) (ram_with u after)
step_keeps j b s u all dirty after o pages state fits up head marked len same =
    subst (λ (x : State). KeepsStep j b s (outs_made s o) pages (ram_with s dirty) (ram_with x after)) (sym state) (record {
      fits = fits;
      ascends = up;
      head = λ e. head (sym (outs_snap s o) ∙ e);
      pages_are = pages_are;
      marks = λ k. subst (λ (ps : List Part). IsKeptRam j.header ps (ram_with s after)) (append_assoc (parts j) b more) (go o.snap refl k);
    })
  where
    more : List Part
    more = made_parts (next_of (record { journal = j; batch = b; machine = s })) s pages (outs_made s o)

    pages_are : makes_snap (outs_made s o) ≡ true → MarksTell j b (ram_with s dirty) → KeepsPages j.header (parts j ++ b) s (items_of page_at pages)
    pages_are e k = marked_pages j.header (parts j ++ b) s dirty (pages_in pages) k (all_marked s all dirty (pages_in pages) (marked (sym (outs_snap s o) ∙ e)))

    go : (snap : Bool) → o.snap ≡ snap → MarksTell j b (ram_with s dirty) → IsKeptRam j.header ((parts j ++ b) ++ more) (ram_with s after)
    go true e k = loud_tell j.header (outs_made s o) (parts j ++ b) s _ pages after (k.size ∙ ap (λ (n : ℕ). 4096 * n) (sym len)) (pages_are (outs_snap s o ∙ e) k) (outs_snap s o ∙ e)
    go false e k = subst (λ (ms : List Bool). IsKeptRam j.header ((parts j ++ b) ++ more) (ram_with s ms)) (sym (same e)) (quiet_tell j.header (outs_made s o) (parts j ++ b) s _ pages (ram_with s dirty) (outs_snap s o ∙ e) k)

-- what marks the pages that it changes, before that
pub steps_before : (j : JournalData) (b : List Part) (s : State) (os : List Made) (pages : List ℕ) (ram mid after : RamState) → MarksPages ram mid → KeepsStep j b s os pages mid after → KeepsStep j b s os pages ram after
steps_before j b s os pages ram mid after m k = record {
  fits = k.fits;
  ascends = k.ascends;
  head = k.head;
  pages_are = λ e t. k.pages_are e (kept_marks j.header (parts j ++ b) ram mid t m);
  marks = λ t. k.marks (kept_marks j.header (parts j ++ b) ram mid t m);
}
