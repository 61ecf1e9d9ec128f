-- A new journal on an empty disk.
use Rattle.std.proofs.Common.{◌≡◌, ℕ, ◌+◌, ◌-◌, ◌*◌, ◌≤◌, true, false, List, [], ◌∷◌, ◌++◌, length, Option, None, Some, IfSome, is_some, refl, sym, ap, subst, ◌∙◌, arith, length-append}
use Rattle.std.specs.Prelude.{Ok}
use Rattle.std.specs.Int.{w32}
use Rattle.avm_num.specs.Lists.{be, one}
use Rattle.avm_num.specs.Room.{Buffer, with_bytes, left}
use Rattle.avm_num.proofs.Lengths.{be32}
use Rattle.avm_outside.specs.Outside.{BothTold}
use Rattle.avm_outside.specs.Moments.{IsShut}
use Rattle.disk_gates.specs.Writing.{Each, IsWritten}
use Rattle.journal_model.specs.Part.{entry, longest_head}
use Rattle.journal_model.specs.Spelling.{part_bytes}
use Rattle.journal_model.specs.Header.{is_store_key, pages_in}
use Rattle.journal_model.specs.Journal.{JournalData, journal_of, ended, Is, IsFront}
use Rattle.journal_model.specs.Standing.{continued}
use Rattle.journal_model.proofs.Gates.{from_closed}
use Rattle.jrnl_part.specs.First.{new_front, new_journal, boot_frame}
use Rattle.jrnl_part.specs.Places.{new_header}
use Rattle.jrnl_part.specs.Starts.{IsStart, IsLowStart}
use Rattle.jrnl_part.specs.declared.header.Start.{Start}
use Rattle.jrnl_store.specs.Kept.{Kept, kept_start}
use Rattle.jrnl_store.specs.Own.{IsOwn}
use Rattle.jrnl_store.specs.Writing.{staged}
use Rattle.jrnl_store.proofs.NewJournals.{begin_fits, made_told}
use Rattle.format_command.specs.First.{StandsFor, Makes}
use Rattle.format_command.specs.declared.ends.End.TheVariants.{StoreMade}

-- ---- a closed gate behind a journal

shut_stands : (j : JournalData) (front c : List ℕ) → IsFront j front → ended j ≡ Is j → IsShut front c → journal_of c ≡ Is j
shut_stands j front c is begun (gate, rest, e, shut) =
    ap journal_of e ∙ is gate rest ∙ from_closed (record { journal = j; place = length front; bytes = gate ∷ rest }) shut ∙ begun

own_stands : (k : Kept) (images : List ℕ → Type 0) (now : List ℕ) (j : JournalData) → k.stop ≡ None → IsOwn k images now j → StandsFor j images now
own_stands k images now j run o = record {
  read = shut_stands j o.front now o.stands o.begun (o.shut run);
  left = λ c l. shut_stands j o.front c o.stands o.begun (o.left_shut run c l);
}

both_made : (j : JournalData) (k : Kept) (images : List ℕ → Type 0) (old new : Option (List ℕ)) → k.stop ≡ None → IfSome old (λ was. was ≡ []) → BothTold old new (λ was now. IsOwn k images now j) → Makes j old new images (Ok StoreMade)
both_made j k images None None run empty own = tt
both_made j k images None (Some now) run empty own = absurd own
both_made j k images (Some was) None run empty own = absurd own
both_made j k images (Some was) (Some now) run empty own = (empty, own_stands k images now j run own)

-- ---- what is written

pub full_left : (b : Buffer) → b.capacity ≡ 32768 → b.bytes ≡ [] → left b ≡ 32768
unfolding left
full_left b cap none = rw (cap, none) refl

-- BOOT's length, by the room that it took
pub boot_size : (b n : Buffer) (t : List ℕ) → b.capacity ≡ 32768 → length b.bytes ≡ 4 → n ≡ with_bytes b t → left n + 54 ≡ left b → length t ≡ 54
unfolding left
boot_size b n t cap four is less =
    let size : length (b.bytes ++ t) ≡ length b.bytes + length t = length-append b.bytes t in
    let here : b.capacity - length (b.bytes ++ t) + 54 ≡ b.capacity - length b.bytes = ap (λ (x : Buffer). x.capacity - length x.bytes + 54) (sym is) ∙ less in
    omega (arith, cap, four, size, here)

pub staged_is : (t : List ℕ) (n : ℕ) → length t ≡ n → (([] ++ be w32 n) ++ t) ++ one 0 ≡ staged t
unfolding one
staged_is t n size = ap (λ (k : ℕ). (be w32 k ++ t) ++ 0 ∷ []) (sym size)

-- ---- the journal

exists : {A : Type 0} (o : Option A) → is_some o ≡ true → (x : A) × (o ≡ Some x)
exists None e = absurd (let no : false ≡ true = e in cc)
exists (Some x) e = (x, refl)

pub first_made : (old told mid new : Option (List ℕ)) (key head pages root front : List ℕ) (count : ℕ) (s : Start) (kept_images images : List ℕ → Type 0)
    → length key ≡ 56 → is_store_key key ≡ true → length head ≤ longest_head → pages_in head ≡ Some count → count ≤ 4096 → length pages ≡ 4096 * count → length root ≡ 32
    → IsStart s (new_header key head pages) → IsLowStart s → s.front ≡ length front + length pages → front ≡ new_front key head → told ≡ old → IfSome old (λ was. was ≡ [])
    → BothTold told mid (λ was now. (now ≡ front ++ pages ++ 0 ∷ []) × Each kept_images (λ c. c ≡ now))
    → BothTold mid new (λ was now. (f : List ℕ) → length f ≡ s.front → IsShut f was → IsWritten f (staged (part_bytes (entry (boot_frame root)))) now × Each images (λ c. c ≡ now))
    → Makes (new_journal key head pages root) old new images (Ok StoreMade)
first_made old told mid new key head pages root front count s kept_images images key_len types head_len count_is few pages_len size is low at front_is told_is empty first second =
    let k = kept_start s in
    let items = part_bytes (entry (boot_frame root)) in
    let fits = begin_fits k s key head pages root items refl is low.leaves size refl in
    let st = exists (continued k.bounds k.standing items) fits in
    let after : Kept = record k { gate = k.gate + 5 + length items; standing = st.0 } in
    both_made (new_journal key head pages root) after images old new refl empty
    (made_told old told mid new key head pages root front items count s k after kept_images images st.0 key_len types head_len count_is few pages_len size is at front_is refl refl st.1 refl told_is first second)

-- a record's length, BOOT and a closed gate
pub staged_text : (t0 t1 t2 t3 : Buffer) (items bytes : List ℕ) → t0.bytes ≡ [] → t0.capacity ≡ 32768 → t1 ≡ with_bytes t0 (be w32 54) → t2 ≡ with_bytes t1 items → left t2 + 54 ≡ left t1 → t3 ≡ with_bytes t2 (one 0) → bytes ≡ t3.bytes → bytes ≡ staged items
staged_text t0 t1 t2 t3 items bytes none cap a b less c is =
    let one_is : t1.bytes ≡ [] ++ be w32 54 = ap (λ (x : Buffer). x.bytes) a ∙ ap (λ (l : List ℕ). l ++ be w32 54) none in
    let four : length t1.bytes ≡ 4 = ap length one_is ∙ be32 54 in
    let cap1 : t1.capacity ≡ 32768 = ap (λ (x : Buffer). x.capacity) a ∙ cap in
    let size = boot_size t1 t2 items cap1 four b less in
    let two_is : t2.bytes ≡ ([] ++ be w32 54) ++ items = ap (λ (x : Buffer). x.bytes) b ∙ ap (λ (l : List ℕ). l ++ items) one_is in
    is ∙ ap (λ (x : Buffer). x.bytes) c ∙ ap (λ (l : List ℕ). l ++ one 0) two_is ∙ staged_is items 54 size

pub cleared : (t0 t h : Buffer) (front : List ℕ) → t ≡ record { bytes = []; capacity = 32768 } → h ≡ with_bytes t front → t0 ≡ record h { bytes = [] } → (t0.bytes ≡ []) × (t0.capacity ≡ 32768)
cleared t0 t h front new put clear =
    (ap (λ (x : Buffer). x.bytes) clear, ap (λ (x : Buffer). x.capacity) clear ∙ ap (λ (x : Buffer). x.capacity) put ∙ ap (λ (x : Buffer). x.capacity) new)

pub written_as : (mid new : Option (List ℕ)) (images : List ℕ → Type 0) (gate : ℕ) (bytes items : List ℕ) → bytes ≡ staged items
    → BothTold mid new (λ was now. (f : List ℕ) → length f ≡ gate → IsShut f was → IsWritten f bytes now × Each images (λ c. c ≡ now))
    → BothTold mid new (λ was now. (f : List ℕ) → length f ≡ gate → IsShut f was → IsWritten f (staged items) now × Each images (λ c. c ≡ now))
written_as mid new images gate bytes items is b = subst (λ (l : List ℕ). BothTold mid new (λ was now. (f : List ℕ) → length f ≡ gate → IsShut f was → IsWritten f l now × Each images (λ c. c ≡ now))) is b
