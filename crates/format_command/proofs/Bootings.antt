-- A machine that boots.
use Rattle.std.proofs.Common.{◌≡◌, ℕ, ◌+◌, ◌-◌, ◌*◌, ◌%◌, ◌<◌, ◌≤◌, ◌^◌, ◌==◌, ◌&&◌, nat_le, nat_lt, Bool, true, false, List, [], ◌∷◌, ◌++◌, length, replicate, Option, None, Some, refl, sym, ap, subst, ◌∙◌, arith, leb-true, eqb-true}
use Rattle.std.specs.Prelude.{if◌then◌else◌, IsTrue}
use Rattle.std.proofs.lemmas.List.{length-replicate}
use Rattle.std.proofs.lemmas.Nat.{from_be_bytes-to_be_bytes_4}
use Rattle.avm_num.specs.Bytes.{◌>>=◌, kept}
use Rattle.avm_num.proofs.Numbers.{and_true}
use Rattle.avm_model.specs.Basics.{or_else, first_at}
use Rattle.avm_model.specs.Bell.{bell_of, is_bell, new_bell}
use Rattle.avm_model.specs.Bounds.{is_head, none_past}
use Rattle.avm_model.specs.Device.{DeviceState, fresh_with}
use Rattle.guest_machine.proofs.Heads.{new_head_with}
use Rattle.avm_num.specs.Room.{Buffer, with_bytes, left}
use Rattle.avm_model.specs.Head.{head_bytes, HeadData}
use Rattle.avm_model.specs.HeadReading.{head_of}
use Rattle.avm_model.specs.HeadState.{data_of}
use Rattle.avm_model.specs.Image.{load_fault, file_fault, fault_at, is_outside, is_entry, is_elf, elf_entry, headers_of, loaded, entry_of}
use Rattle.avm_model.specs.ImageState.{image, image_by, Gives, Refuses}
use Rattle.avm_model.specs.Init.{ConfigData}
use Rattle.avm_model.specs.Keys.{KeyData, HasTypes, public_of}
use Rattle.avm_model.specs.LmsValid.{number}
use Rattle.avm_model.specs.Machine.{State, initial}
use Rattle.avm_model.specs.Memory.{IsRam, is_page_count}
use Rattle.avm_model.specs.declared.Peer.{Peer}
use Rattle.avm_model.specs.declared.loading.LoadFault.{LoadFault}
use Rattle.avm_model.specs.declared.loading.LoadFault.TheVariants.{Outside, Entry, TooLong}
use Rattle.avm_model.proofs.SegmentPages.{head_pages}
use Rattle.journal_model.specs.Header.{is_store_key, pages_in}
use Rattle.format_command.specs.Booting.{IsReady}

-- ---- the entry

or_none : {A : Type 0} (a b : Option A) → or_else a b ≡ None → (a ≡ None) × (b ≡ None)
or_none None b e = (refl, e)
or_none (Some x) b e = absurd cc

entry_by : (elf : Bool) (len entry : ℕ) (outside : Option LoadFault) (small : Bool) → (if elf then or_else outside (if is_entry len entry then None else Some Entry) else if small then Some TooLong else None) ≡ None → (if elf then entry else 2 ^ 31) % 4 ≡ 0
entry_by false len entry outside small e = refl
entry_by true len entry outside small e = go (is_entry len entry) refl (or_none outside (if is_entry len entry then None else Some Entry) e).1
  where
    go : (b : Bool) → is_entry len entry ≡ b → (if b then None else Some Entry) ≡ None → entry % 4 ≡ 0
    go true is h = eqb-true (entry % 4) 0 (and_true (entry % 4 == 0) (nat_le (2 ^ 31) entry) (and_true ((entry % 4 == 0) && nat_le (2 ^ 31) entry) (nat_lt entry (2 ^ 31 + len)) is).0).0
    go false is h = absurd (let no : Some Entry ≡ None = h in cc)

pub entry_aligned : (len : ℕ) (file : List ℕ) → load_fault len file ≡ None → entry_of file % 4 ≡ 0
entry_aligned len file e =
    entry_by (is_elf file) len (elf_entry file) (fault_at Outside (first_at (is_outside len) 0 (headers_of file))) (nat_lt len (length file)) (or_none (file_fault file) _ e).1

-- ---- the image

pub gives_is : (pages len : ℕ) (file blank ram : List ℕ) (entry : ℕ) → blank ≡ replicate (4096 * pages) 0 → len ≡ length blank → load_fault len file ≡ None → ram ≡ loaded blank file → entry ≡ entry_of file → image pages file ≡ Gives ram entry
gives_is pages len file blank ram entry is size e ram_is entry_is =
    let n : len ≡ 4096 * pages = size ∙ ap length is ∙ length-replicate (4096 * pages) 0 in
    let none : load_fault (4096 * pages) file ≡ None = ap (λ (k : ℕ). load_fault k file) (sym n) ∙ e in
    let ram_of : loaded (replicate (4096 * pages) 0) file ≡ ram = ap (λ (l : List ℕ). loaded l file) (sym is) ∙ sym ram_is in
    ap (λ (o : Option LoadFault). image_by o (loaded (replicate (4096 * pages) 0) file) (entry_of file)) none
    ∙ ap (λ (l : List ℕ). Gives l (entry_of file)) ram_of ∙ ap (λ (k : ℕ). Gives ram k) (sym entry_is)

pub refuses_is : (pages len : ℕ) (file blank : List ℕ) (fault : LoadFault) → blank ≡ replicate (4096 * pages) 0 → len ≡ length blank → load_fault len file ≡ Some fault → image pages file ≡ Refuses fault
refuses_is pages len file blank fault is size e =
    let n : len ≡ 4096 * pages = size ∙ ap length is ∙ length-replicate (4096 * pages) 0 in
    ap (λ (o : Option LoadFault). image_by o (loaded (replicate (4096 * pages) 0) file) (entry_of file)) (ap (λ (k : ℕ). load_fault k file) (sym n) ∙ e)

-- ---- peers to which nothing was sent

and_both : (a b : Bool) → a ≡ true → b ≡ true → (a && b) ≡ true
and_both true true p q = refl
and_both true false p q = cc
and_both false b p q = cc

zero_le : (n : ℕ) → nat_le 0 n ≡ true
zero_le n = let z : 0 ≤ n = omega arith in grind (arith, z)

pub past_more : (n : ℕ) (ps : List Peer) → none_past 0 ps ≡ true → none_past n ps ≡ true
past_more n [] e = refl
past_more n (p ∷ ps) e =
    let b = and_true (nat_le p.sent 0) (none_past 0 ps) e in
    let z : p.sent ≤ 0 = leb-true p.sent 0 b.0 in
    let none : p.sent ≡ 0 = omega (arith, z) in
    rw none (and_both (nat_le 0 n) (none_past n ps) (zero_le n) (past_more n ps b.1))

-- ---- the header of a store

pub pages_are : (head bytes : List ℕ) (h : HeadData) (n : ℕ) → head_of head ≡ Some h → h.front.pages ≡ n → IsTrue (is_page_count n) → pages_in head ≡ Some n
unfolding pages_in
pages_are head bytes h n is same count =
    let p = head_pages head h is in
    let good : is_page_count h.front.pages ≡ true = ap is_page_count same ∙ count in
    ap (λ (o : Option (ℕ × List ℕ)). o >>= λ c. kept (is_page_count c.0) c.0) p.1 ∙ ap (λ (b : Bool). kept b h.front.pages) good ∙ ap (λ (k : ℕ). Some k) same

number_is : (k : KeyData) → k.lms < 2 ^ 32 → number (public_of k) 0 ≡ k.lms
unfolding public_of
number_is k lt = from_be_bytes-to_be_bytes_4 k.lms lt

within : (n : ℕ) → 5 ≤ n → n ≤ 7 → (nat_le 5 n && nat_le n 7) ≡ true
within n low high = grind (arith, low, high)

pub store_key : (k : KeyData) → HasTypes k → is_store_key (public_of k) ≡ true
unfolding is_store_key
store_key k t = rw (number_is k (omega (arith, t.lms_high))) (within k.lms t.lms_low t.lms_high)

-- ---- a machine that boots is within the bounds of a head

bell_fits : (version : ℕ) → is_bell (bell_of version) ≡ true
bell_fits version = go (version == 2)
  where
    go : (b : Bool) → is_bell (if b then Some new_bell else None) ≡ true
    go true = refl
    go false = refl

pub boots_within : (c : ConfigData) (d : DeviceState) (bytes : List ℕ) (dirty : List Bool) (len entry : ℕ) (file : List ℕ) → IsReady c → d ≡ fresh_with (bell_of c.version) c.own c.peers → IsRam bytes dirty → load_fault len file ≡ None → entry ≡ entry_of file
    → is_head (data_of (initial d bytes c.snap entry)) ≡ true
boots_within c d bytes dirty len entry file ready is ram fault entry_is =
    let aligned : entry % 4 ≡ 0 = ap (λ (k : ℕ). k % 4) entry_is ∙ entry_aligned len file fault in
    subst (λ (x : DeviceState). is_head (data_of (initial x bytes c.snap entry)) ≡ true) (sym is)
    (new_head_with (bell_of c.version) c.own c.peers bytes dirty c.snap entry (bell_fits c.version) ready.own ready.rows ready.unsent (past_more (2 ^ 62 - 1) c.peers ready.unsent) ready.least ready.most aligned ram)

-- ---- the room of a head

pub head_room : (b : Buffer) → b ≡ record { bytes = []; capacity = 16384 } → left b ≡ 16384
unfolding left
head_room b is = ap (λ (x : Buffer). x.capacity - length x.bytes) is

-- the pages that a header's head says
pub first_pages : (head pages : List ℕ) (b new : Buffer) (s : State) (bytes : List ℕ) (dirty : List Bool) → b ≡ record { bytes = []; capacity = 16384 } → new ≡ with_bytes b (head_bytes (data_of s)) → head ≡ new.bytes → head_of (head_bytes (data_of s)) ≡ Some (data_of s)
    → IsRam bytes dirty → bytes ≡ s.ram → pages ≡ bytes → (n : ℕ) × (pages_in head ≡ Some n) × (n ≤ 4096) × (length pages ≡ 4096 * n)
first_pages head pages b new s bytes dirty empty put head_is read ram ram_is pages_is =
    let text : head ≡ head_bytes (data_of s) = head_is ∙ ap (λ (x : Buffer). x.bytes) put ∙ ap (λ (x : Buffer). x.bytes ++ head_bytes (data_of s)) empty in
    let size : length s.ram ≡ 4096 * length dirty = ap length (sym ram_is) ∙ ram.size in
    let same : (data_of s).front.pages ≡ length dirty = omega (arith, size) in
    (length dirty, pages_are head [] (data_of s) (length dirty) (ap head_of text ∙ read) same ram.power, ram.few, ap length pages_is ∙ ram.size)
