-- What a store that may not tell its bytes says of the lines.
use Rattle.std.proofs.Common.{◌≡◌, inl, inr, ℕ, ◌-◌, ◌≤◌, length, arith, List, [], ◌++◌, Option, Some, None, IfSome, IsSome, is_some, Bool, true, false, Ok, Err, refl, sym, ap, subst, ◌∙◌, append_assoc, append-nil}
use Rattle.std.specs.Prelude.{Result, map}
use Rattle.avm_num.specs.Room.{Buffer, with_bytes, left}
use Rattle.avm_model.specs.HeadReading.{head_of}
use Rattle.journal_model.specs.Part.{longest_head}
use Rattle.command_parts.specs.Printing.{line, Prints, PrintsCut, PrintsAll}
use Rattle.command_parts.specs.declared.fault.Fault.{Fault}
use Rattle.command_parts.specs.declared.fault.Fault.TheVariants.{NoMemory, Files, Disk, Sink}
use Rattle.command_parts.proofs.Joined.{prints_on, cut_on, fault_on}
use Rattle.command_parts.proofs.Printed.{prints_none}
use Rattle.journal_model.specs.Journal.{JournalData, ended, journal_of, Is, NoStore}
use Rattle.journal_model.proofs.Fitting.{journal_fits}
use Rattle.jrnl_store.specs.Items.{ItemData, items_in, IsLeft, ItemsAnswers, held_items}
use Rattle.jrnl_store.specs.Kept.{Kept, kept}
use Rattle.jrnl_store.specs.Own.{IsAt, AttachAnswers, CountsFaults}
use Rattle.jrnl_store.proofs.Commits.{own_at}
use Rattle.jrnl_store.specs.declared.cursor.Cursor.{Cursor}
use Rattle.jrnl_store.specs.declared.cursor.Record.{Record}
use Rattle.jrnl_store.specs.declared.journal.Journal.{Journal}
use Rattle.jrnl_store.specs.declared.fault.StoreFault.{StoreFault}
use Rattle.jrnl_store.specs.declared.fault.StoreFault.TheVariants as store
use Rattle.list_model.specs.Lines.{mark_lines}
use Rattle.list_command.specs.Listing.{items_lines, all_items, all_lines, AreAll, AreFirst, PrintsOf, IsOpened, IsListing, BeginsListing, IsNoStore, Leaves, CountsDisk, refusal_of, IsOfStore}
use Rattle.list_command.specs.declared.ends.End.{End}
use Rattle.list_command.specs.declared.ends.End.TheVariants.{Listed, RefusedNoStore}
use Rattle.list_command.proofs.Items.{lines_are, lines_append}

pub if_map : {A : Type 0} (told : Option A) (P Q : A → Type 0) → ((x : A) → P x → Q x) → IfSome told P → IfSome told Q
if_map None P Q f p = tt
if_map (Some x) P Q f p = f x p

pub if_all : {A : Type 0} (told : Option A) (P : A → Type 0) → ((x : A) → P x) → IfSome told P
if_all None P f = tt
if_all (Some x) P f = f x

if_two : {A : Type 0} (told : Option A) (P Q R : A → Type 0) → ((x : A) → P x → Q x → R x) → IfSome told P → IfSome told Q → IfSome told R
if_two None P Q R f p q = tt
if_two (Some x) P Q R f p q = f x p q

-- ---- record by record

-- a cursor in front of the items whose lines aren't printed yet
abbrev pub Lists : Kept → Cursor → List (List ℕ) → List ℕ → Type 0
Lists k c said was = (j : JournalData) → IsAt k was j → ended j ≡ Is j → (left : List ItemData) × IsLeft k was c j left × (all_items j ≡ said ++ items_lines left)

abbrev pub Given : List ℕ → Kept → Cursor → Cursor → Option Record → List ℕ → Type 0
Given buffer k c new v was = (j : JournalData) (left : List ItemData) → IsAt k was j → ended j ≡ Is j → IsLeft k was c j left → ItemsAnswers buffer k was new j left (Ok v)

all_is : (j : JournalData) → all_items j ≡ items_lines (items_in j)
unfolding all_items
all_is j = refl

pub lists_first : (told : Option (List ℕ)) (k : Kept) (c : Cursor) → ((was : List ℕ) (j : JournalData) → IsAt k was j → IsLeft k was c j (items_in j)) → IfSome told (Lists k c [])
lists_first told k c first = if_all told (Lists k c []) (λ was j o begun. (items_in j, first was j o, all_is j))

moved : (told mid : Option (List ℕ)) (k at : Kept) (c new : Cursor) (buffer : List ℕ) (v w : Option Record) → v ≡ w → mid ≡ told → at ≡ k → IfSome mid (Given buffer at c new v) → IfSome told (Given buffer k c new w)
moved told mid k at c new buffer v w is same stays h = subst (λ (x : Option Record). IfSome told (Given buffer k c new x)) is (subst (λ (x : Kept). IfSome told (Given buffer x c new v)) stays (subst (λ (t : Option (List ℕ)). IfSome t (Given buffer at c new v)) same h))

pub lists_on : (told mid : Option (List ℕ)) (k at : Kept) (c new : Cursor) (said : List (List ℕ)) (buffer : List ℕ) (v : Option Record) (r : Record) (items : List ItemData) → items ≡ held_items buffer r → v ≡ Some r → mid ≡ told → at ≡ k
    → IfSome told (Lists k c said) → IfSome mid (Given buffer at c new v) → IfSome told (Lists k new (said ++ items_lines items))
lists_on told mid k at c new said buffer v r items held is same stays so_far h =
    if_two told (Lists k c said) (Given buffer k c new (Some r)) (Lists k new (said ++ items_lines items)) (λ was s g. λ j o begun.
    let l = s j o begun in
    let a = g j l.0 o begun l.1 in
    let split = ap items_lines a.1 ∙ lines_append (held_items buffer r) a.0 ∙ ap (λ (x : List ItemData). items_lines x ++ items_lines a.0) (sym held) in
    (a.0, a.2, l.2 ∙ ap (λ (ls : List (List ℕ)). said ++ ls) split ∙ sym (append_assoc said (items_lines items) (items_lines a.0))))
    so_far (moved told mid k at c new buffer v (Some r) is same stays h)

pub lists_end : (told mid : Option (List ℕ)) (k at : Kept) (c new : Cursor) (said : List (List ℕ)) (buffer : List ℕ) (v : Option Record) → v ≡ None → mid ≡ told → at ≡ k
    → IfSome told (Lists k c said) → IfSome mid (Given buffer at c new v) → IfSome told (AreAll all_items k said)
lists_end told mid k at c new said buffer v is same stays so_far h =
    if_two told (Lists k c said) (Given buffer k c new None) (AreAll all_items k said) (λ was s g. λ j o begun.
    let l = s j o begun in
    let a = g j l.0 o begun l.1 in
    l.2 ∙ ap (λ (x : List ItemData). said ++ items_lines x) a ∙ append-nil said)
    so_far (moved told mid k at c new buffer v None is same stays h)

pub lists_some : (told : Option (List ℕ)) (k : Kept) (c : Cursor) (said : List (List ℕ)) → IfSome told (Lists k c said) → IfSome told (AreFirst all_items k said)
lists_some told k c said so_far = if_map told (Lists k c said) (AreFirst all_items k said) (λ was s. λ j o begun. let l = s j o begun in (items_lines l.0, l.2)) so_far

-- a record's lines, of which not all were printed
first_of : (told : Option (List ℕ)) (k : Kept) (c : Cursor) (said more rest : List (List ℕ)) → IfSome told (Lists k c (said ++ (more ++ rest))) → IfSome told (AreFirst all_items k (said ++ more))
first_of told k c said more rest h =
    if_map told (Lists k c (said ++ (more ++ rest))) (AreFirst all_items k (said ++ more)) (λ was s. λ j o begun.
    let l = s j o begun in
    (rest ++ items_lines l.0, l.2 ∙ ap (λ (ls : List (List ℕ)). ls ++ items_lines l.0) (sym (append_assoc said more rest)) ∙ append_assoc (said ++ more) rest (items_lines l.0)))
    h

pub record_fault : (told : Option (List ℕ)) (k : Kept) (c : Cursor) (said lines : List (List ℕ)) (e : Fault) (before n m : ℕ) (old mid new : Option (List ℕ))
    → IfSome told (Lists k c (said ++ lines)) → Prints said before n old mid → PrintsAll lines (Err e) n m mid new → PrintsOf all_items k told (Err e) before m old new
record_fault told k c said lines NoMemory before n m old mid new h p q =
    (said ++ q.0, first_of told k c said q.0 q.1 (subst (λ (ls : List (List ℕ)). IfSome told (Lists k c (said ++ ls))) q.2 h), prints_on said q.0 before n m old mid new p q.3)
record_fault told k c said lines Sink before n m old mid new h p q =
    (said ++ lines, lists_some told k c (said ++ lines) h, cut_on said lines before n m old mid new p q)
record_fault told k c said lines Files before n m old mid new h p q = absurd q
record_fault told k c said lines Disk before n m old mid new h p q = absurd q

-- ---- the mark behind the items

mark_is : (k : Kept) (was : List ℕ) (j : JournalData) (mark : Option ℕ) → mark ≡ k.mark → IsAt k was j → mark ≡ j.mark
mark_is k was j mark is o = is ∙ o.keeps.mark

first_all : (k : Kept) (told : Option (List ℕ)) (lines : List (List ℕ)) → IfSome told (AreFirst all_items k lines) → IfSome told (AreFirst all_lines k lines)
first_all k told lines h = if_map told (AreFirst all_items k lines) (AreFirst all_lines k lines) (λ was s. λ j o begun.
    let r = s j o begun in
    (r.0 ++ map line (mark_lines j.mark), ap (λ (ls : List (List ℕ)). ls ++ map line (mark_lines j.mark)) r.1 ∙ append_assoc lines r.0 (map line (mark_lines j.mark)))) h

pub items_fault : (k : Kept) (told : Option (List ℕ)) (e : Fault) (b n : ℕ) (ob on : Option (List ℕ)) → PrintsOf all_items k told (Err e) b n ob on → PrintsOf all_lines k told (Err e) b n ob on
items_fault k told NoMemory b n ob on p = (p.0, first_all k told p.0 p.1, p.2)
items_fault k told Disk b n ob on p = (p.0, first_all k told p.0 p.1, p.2)
items_fault k told Sink b n ob on p = (p.0, first_all k told p.0 p.1, p.2)
items_fault k told Files b n ob on p = absurd p

all_marked : (k : Kept) (told : Option (List ℕ)) (lines : List (List ℕ)) (mark : Option ℕ) → mark ≡ k.mark → IfSome told (AreAll all_items k lines) → IfSome told (AreAll all_lines k (lines ++ map line (mark_lines mark)))
all_marked k told lines mark is h = if_map told (AreAll all_items k lines) (AreAll all_lines k (lines ++ map line (mark_lines mark))) (λ was s. λ j o begun.
    ap (λ (ls : List (List ℕ)). ls ++ map line (mark_lines j.mark)) (s j o begun) ∙ ap (λ (m : Option ℕ). lines ++ map line (mark_lines m)) (sym (mark_is k was j mark is o))) h

all_first : (k : Kept) (told : Option (List ℕ)) (lines rest : List (List ℕ)) → IfSome told (AreAll all_lines k (lines ++ rest)) → IfSome told (AreFirst all_lines k lines)
all_first k told lines rest h = if_map told (AreAll all_lines k (lines ++ rest)) (AreFirst all_lines k lines) (λ was s. λ j o begun. (rest, s j o begun)) h

pub mark_on : (k : Kept) (told : Option (List ℕ)) (mark : Option ℕ) (r : Result (Unit {0}) Fault) (b n m : ℕ) (ob om on : Option (List ℕ)) → mark ≡ k.mark → PrintsOf all_items k told (Ok tt) b n ob om
    → PrintsAll (map line (mark_lines mark)) r n m om on → PrintsOf all_lines k told r b m ob on
mark_on k told mark (Ok t) b n m ob om on is p q =
    (p.0 ++ map line (mark_lines mark), all_marked k told p.0 mark is p.1, prints_on p.0 (map line (mark_lines mark)) b n m ob om on p.2 q)
mark_on k told mark (Err NoMemory) b n m ob om on is p q =
    let all = subst (λ (ls : List (List ℕ)). IfSome told (AreAll all_lines k ls)) (ap (λ (ls : List (List ℕ)). p.0 ++ ls) q.2 ∙ sym (append_assoc p.0 q.0 q.1)) (all_marked k told p.0 mark is p.1) in
    (p.0 ++ q.0, all_first k told (p.0 ++ q.0) q.1 all, prints_on p.0 q.0 b n m ob om on p.2 q.3)
mark_on k told mark (Err Sink) b n m ob om on is p q =
    let ls = p.0 ++ map line (mark_lines mark) in
    let all = subst (λ (x : List (List ℕ)). IfSome told (AreAll all_lines k x)) (sym (append-nil ls)) (all_marked k told p.0 mark is p.1) in
    (ls, all_first k told ls [] all, cut_on p.0 (map line (mark_lines mark)) b n m ob om on p.2 q)
mark_on k told mark (Err Disk) b n m ob om on is p q = absurd q
mark_on k told mark (Err Files) b n m ob om on is p q = absurd q

-- ---- a store that is opened

pub opened : (told mid : Option (List ℕ)) (v : Journal) (images : List ℕ → Type 0) → mid ≡ told → IfSome told (λ was. AttachAnswers (Ok v) images was) → IfSome mid (IsOpened (kept v))
opened told mid v images same h = subst (λ (t : Option (List ℕ)). IfSome t (IsOpened (kept v))) (sym same)
    (if_map told (λ was. AttachAnswers (Ok v) images was) (IsOpened (kept v)) (λ was a. record { journal = a.0; is = a.1; at = own_at (kept v) images was a.0 a.2; begun = a.2.begun }) h)

abbrev pub HeadIs : Kept → Bool → List ℕ → Type 0
HeadIs k b was = (j : JournalData) → IsAt k was j → b ≡ is_some (head_of j.header.head)

some_is : {A : Type 0} (o : Option A) → true ≡ is_some o → IsSome o
some_is None e = cc
some_is (Some x) e = refl

none_is : {A : Type 0} (o : Option A) → false ≡ is_some o → o ≡ None
none_is None e = refl
none_is (Some x) e = cc

-- the lines of the journal are the listing
all_listing : (k : Kept) (was : List ℕ) (lines : List (List ℕ)) → IsOpened k was → HeadIs k true was → AreAll all_lines k lines was → IsListing was lines
all_listing k was lines o head all =
    (o.journal, record { is = o.is; head = some_is (head_of o.journal.header.head) (head o.journal o.at) }, sym (lines_are o.journal (journal_fits was o.journal o.is).0) ∙ all o.journal o.at o.begun)

first_listing : (k : Kept) (was : List ℕ) (lines : List (List ℕ)) → IsOpened k was → HeadIs k true was → AreFirst all_lines k lines was → (rest : List (List ℕ)) × IsListing was (lines ++ rest)
first_listing k was lines o head first =
    let r = first o.journal o.at o.begun in
    (r.0, (o.journal, record { is = o.is; head = some_is (head_of o.journal.header.head) (head o.journal o.at) }, sym (lines_are o.journal (journal_fits was o.journal o.is).0) ∙ r.1))

-- a front of a listing is one of more lines
cut_more : (a rest : List (List ℕ)) (b n : ℕ) (ob on : Option (List ℕ)) → PrintsCut a b n ob on → PrintsCut (a ++ rest) b n ob on
cut_more a rest b n ob on c = fault_on [] a rest Sink b b n ob ob on (prints_none b ob) c

listing_cut : (told : Option (List ℕ)) (k : Kept) (lines : List (List ℕ)) (b n : ℕ) (ob on : Option (List ℕ)) → IfSome told (IsOpened k) → IfSome told (HeadIs k true) → IfSome told (AreFirst all_lines k lines) → PrintsCut lines b n ob on
    → Leaves told (Err Sink) b n ob on
listing_cut None k lines b n ob on o head first c = (lines, tt, c)
listing_cut (Some was) k lines b n ob on o head first c =
    let r = first_listing k was lines o head first in
    (lines ++ r.0, r.1, cut_more lines r.0 b n ob on c)

begins : (told : Option (List ℕ)) (k : Kept) (lines : List (List ℕ)) → IfSome told (IsOpened k) → IfSome told (HeadIs k true) → IfSome told (AreFirst all_lines k lines) → IfSome told (λ was. BeginsListing was lines)
begins None k lines o head first = tt
begins (Some was) k lines o head first = inr (first_listing k was lines o head first)

-- how printing a journal ends
abbrev pub ended_as : Result (Unit {0}) Fault → Result End Fault
ended_as (Ok t) = Ok Listed
ended_as (Err e) = Err e

leaves_lines : (told : Option (List ℕ)) (k : Kept) (r : Result (Unit {0}) Fault) (b n : ℕ) (ob on : Option (List ℕ)) → IfSome told (IsOpened k) → IfSome told (HeadIs k true) → PrintsOf all_lines k told r b n ob on → Leaves told (ended_as r) b n ob on
leaves_lines told k (Ok t) b n ob on o head p = (p.0, listings told o head p.1, p.2)
  where
    listings : (t : Option (List ℕ)) → IfSome t (IsOpened k) → IfSome t (HeadIs k true) → IfSome t (AreAll all_lines k p.0) → IfSome t (λ was. IsListing was p.0)
    listings None o head all = tt
    listings (Some was) o head all = all_listing k was p.0 o head all
leaves_lines told k (Err NoMemory) b n ob on o head p = (p.0, begins told k p.0 o head p.1, p.2)
leaves_lines told k (Err Disk) b n ob on o head p = (p.0, begins told k p.0 o head p.1, p.2)
leaves_lines told k (Err Sink) b n ob on o head p = listing_cut told k p.0 b n ob on o head p.1 p.2
leaves_lines told k (Err Files) b n ob on o head p = absurd p

pub lines_leave : (told mid : Option (List ℕ)) (k at : Kept) (h : Bool) (r : Result (Unit {0}) Fault) (b n : ℕ) (ob on : Option (List ℕ)) → h ≡ true → mid ≡ told → at ≡ k → IfSome told (IsOpened k) → IfSome told (HeadIs k h) → PrintsOf all_lines at mid r b n ob on
    → Leaves told (ended_as r) b n ob on
lines_leave told mid k at h r b n ob on is same stays o head p =
    leaves_lines told k r b n ob on o (subst (λ (x : Bool). IfSome told (HeadIs k x)) is head)
    (subst (λ (x : Kept). PrintsOf all_lines x told r b n ob on) stays (subst (λ (t : Option (List ℕ)). PrintsOf all_lines at t r b n ob on) same p))

pub no_head : (told : Option (List ℕ)) (k : Kept) (h : Bool) (n : ℕ) (old : Option (List ℕ)) → h ≡ false → IfSome told (IsOpened k) → IfSome told (HeadIs k h) → Leaves told (Ok RefusedNoStore) n n old old
no_head told k h n old is o head =
    (if_two told (IsOpened k) (HeadIs k h) IsNoStore (λ was o i. inr (o.journal, o.is, none_is (head_of o.journal.header.head) (sym is ∙ i o.journal o.at))) o head, prints_none n old)

pub no_lines : (told : Option (List ℕ)) (e : Fault) (n : ℕ) (old : Option (List ℕ)) → IsOfStore e → Leaves told (Err e) n n old old
no_lines told NoMemory n old is = ([], if_all told (λ was. BeginsListing was []) (λ was. inl refl), prints_none n old)
no_lines told Disk n old is = ([], if_all told (λ was. BeginsListing was []) (λ was. inl refl), prints_none n old)
no_lines told Files n old is = absurd is
no_lines told Sink n old is = absurd is

-- ---- a store that can't be opened

pub refused : (told : Option (List ℕ)) (e : StoreFault) (images : List ℕ → Type 0) (n : ℕ) (old : Option (List ℕ)) → IfSome told (λ was. AttachAnswers (Err e) images was) → Leaves told (refusal_of e) n n old old
refused told store.NoMemory images n old h = no_lines told NoMemory n old tt
refused told store.DiskFault images n old h = no_lines told Disk n old tt
refused told store.NotEmpty images n old h = (if_map told (λ was. ⊥) IsNoStore (λ was a. absurd a) h, prints_none n old)
refused told store.NoStore images n old h = (if_map told (λ was. journal_of was ≡ NoStore) IsNoStore (λ was a. inl a) h, prints_none n old)
refused told (store.Damaged p) images n old h = (h, prints_none n old)
refused told store.LeavesSpent images n old h = (if_map told (λ was. ⊥) IsNoStore (λ was a. absurd a) h, prints_none n old)
refused told store.Full images n old h = (if_map told (λ was. ⊥) IsNoStore (λ was a. absurd a) h, prints_none n old)
refused told (store.Ended s) images n old h = (if_map told (λ was. ⊥) IsNoStore (λ was a. absurd a) h, prints_none n old)

pub refused_counts : (e : StoreFault) (before now : ℕ) → CountsFaults {T = Journal} before now (Err e) → CountsDisk before now (refusal_of e)
refused_counts store.NoMemory before now c = c
refused_counts store.DiskFault before now c = c
refused_counts store.NotEmpty before now c = c
refused_counts store.NoStore before now c = c
refused_counts (store.Damaged p) before now c = c
refused_counts store.LeavesSpent before now c = c
refused_counts store.Full before now c = c
refused_counts (store.Ended s) before now c = c

-- whether a header's head that was read is one
pub room_is : (b : Buffer) → b ≡ record { bytes = []; capacity = 16384 } → longest_head ≤ left b
unfolding left
room_is b is = let size : b.capacity - length b.bytes ≡ 16384 = ap (λ (x : Buffer). x.capacity - length x.bytes) is in omega (arith, size)

pub head_is : (told : Option (List ℕ)) (k : Kept) (out new : Buffer) (bytes : List ℕ) (b : Bool) → out ≡ record { bytes = []; capacity = 16384 } → IfSome told (λ was. (j : JournalData) → IsAt k was j → new ≡ with_bytes out j.header.head) → bytes ≡ new.bytes → b ≡ is_some (head_of bytes) → IfSome told (HeadIs k b)
head_is told k out new bytes b empty h bytes_is is =
    if_map told (λ was. (j : JournalData) → IsAt k was j → new ≡ with_bytes out j.header.head) (HeadIs k b) (λ was f. λ j o.
    is ∙ ap (λ (l : List ℕ). is_some (head_of l)) (bytes_is ∙ ap (λ (x : Buffer). x.bytes) (f j o) ∙ ap (λ (x : Buffer). x.bytes ++ j.header.head) empty)) h
