-- A new journal on an empty disk.
use Rattle.std.proofs.Common.{◌-◌, replicate, ◌≡◌, ℕ, ◌+◌, ◌*◌, ◌^◌, ◌<◌, ◌≤◌, true, refl, sym, ◌∙◌, ap, subst, Option, None, Some, option_map, IfSome, List, [], ◌∷◌, ◌++◌, length, drop, get_or, arith, append-nil, length-append, is_some}
use Rattle.std.proofs.lemmas.List.{drop_at, drop_all, take_all}
use Rattle.std.specs.Int.{w32, w64}
use Rattle.avm_num.specs.Lists.{be, one, sized_bytes}
use Rattle.avm_num.specs.Room.{Buffer, with_bytes, left}
use Rattle.avm_num.proofs.Lengths.{be64, one1}
use Rattle.avm_model.specs.Frame.{frame_bytes}
use Rattle.avm_num.specs.Walk.{items_of, behind_of, is_nil}
use Rattle.avm_num.proofs.Numbers.{kept_some}
use Rattle.avm_outside.specs.Outside.{BothTold}
use Rattle.avm_outside.specs.Disk.{Only, overwritten}
use Rattle.avm_outside.specs.Moments.{IsShut}
use Rattle.journal_model.specs.Part.{Part, entry, part_at, parts_of, signing, longest_head}
use Rattle.journal_model.specs.Header.{journal_magic, is_store_key, pages_in, header_at}
use Rattle.journal_model.specs.Journal.{with_record}
use Rattle.journal_model.specs.Standing.{StandingData, continued}
use Rattle.journal_model.specs.Spelling.{header_bytes, part_bytes}
use Rattle.jrnl_part.specs.First.{boot_frame, new_front, new_journal}
use Rattle.jrnl_part.specs.Places.{new_header}
use Rattle.jrnl_part.specs.Starts.{IsStart, EndBefore}
use Rattle.jrnl_part.specs.declared.header.Start.{Start}
use Rattle.jrnl_part.proofs.Boot.{boot_again, boot_continues}
use Rattle.jrnl_part.proofs.Sizes.{three, sized_size}
use Rattle.jrnl_part.proofs.Places.{new_again}
use Rattle.jrnl_store.specs.Kept.{Kept, kept_start}
use Rattle.jrnl_store.specs.Own.{IsAt, IsOwn, IsBatch, bare}
use Rattle.jrnl_store.specs.Writing.{IsWritten, Each, staged}
use Rattle.jrnl_store.proofs.Commits.{own_more}
use Rattle.jrnl_store.proofs.Opening.{opened}

-- ---- writes at the end

at_end : (was bytes : List ℕ) (at : ℕ) → at ≡ length was → overwritten at bytes was ≡ was ++ bytes
at_end was bytes at is =
    ap (λ (l : List ℕ). l ++ bytes ++ drop (at + length bytes) was) (take_all at was (omega (arith, is))) ∙ ap (λ (l : List ℕ). was ++ bytes ++ l) (drop_all (at + length bytes) was (omega (arith, is))) ∙ append-nil (was ++ bytes)

pub end_write : (told new : Option (List ℕ)) (at : ℕ) (text bytes : List ℕ) → IfSome told (λ was. was ≡ text) → at ≡ length text → new ≡ option_map (overwritten at bytes) told → IfSome new (λ now. now ≡ text ++ bytes)
end_write None new at text bytes was at_is is = rw is tt
end_write (Some w) new at text bytes was at_is is = rw (is, was) (at_end text bytes at at_is)

pub end_within : (told : Option (List ℕ)) (at : ℕ) (text : List ℕ) → IfSome told (λ was. was ≡ text) → at ≡ length text → IfSome told (λ was. at ≤ length was)
end_within None at text was is = tt
end_within (Some w) at text was is = let l = ap length was in omega (arith, l, is)

pub header_told : (told one two new : Option (List ℕ)) (front pages : List ℕ) (a b : ℕ) (images : List ℕ → Type 0) → IfSome told (λ was. was ≡ []) → a ≡ length front → b ≡ length front + length pages → one ≡ option_map (overwritten 0 front) told
    → two ≡ option_map (overwritten a pages) one → new ≡ option_map (overwritten b (0 ∷ [])) two → IfSome new (λ now. Only now images)
    → BothTold told new (λ was now. (now ≡ front ++ pages ++ 0 ∷ []) × Each images (λ c. c ≡ now))
header_told None one two new front pages a b images was ai bi x y z only =
    let none : new ≡ None = z ∙ ap (option_map (overwritten b (0 ∷ []))) (y ∙ ap (option_map (overwritten a pages)) x) in
    subst (λ (o : Option (List ℕ)). BothTold None o (λ was now. (now ≡ front ++ pages ++ 0 ∷ []) × Each images (λ c. c ≡ now))) (sym none) tt
header_told (Some w) one two new front pages a b images was ai bi x y z only =
    let first = end_write (Some w) one 0 [] front was refl x in
    let second = end_write one two a front pages first ai y in
    let third = end_write two new b (front ++ pages) (0 ∷ []) second (omega (arith, bi, length-append front pages)) z in
    go new third only (z ∙ ap (option_map (overwritten b (0 ∷ []))) (y ∙ ap (option_map (overwritten a pages)) x))
  where
    go : (o : Option (List ℕ)) → IfSome o (λ now. now ≡ front ++ pages ++ 0 ∷ []) → IfSome o (λ now. Only now images) → o ≡ option_map (overwritten b (0 ∷ [])) (option_map (overwritten a pages) (option_map (overwritten 0 front) (Some w)))
        → BothTold (Some w) o (λ was now. (now ≡ front ++ pages ++ 0 ∷ []) × Each images (λ c. c ≡ now))
    go None t u e = absurd cc
    go (Some now) t u e = (t, λ c left. u c left)

-- ---- the batch that BOOT is

module _ (k : Kept) (root : List ℕ) (size : length root ≡ 32) (first : k.bounds.first ≡ 1) (next : k.standing.next ≡ 1) where
  abbrev items : List ℕ
  items = part_bytes (entry (boot_frame root))

  parts_are : parts_of items ≡ entry (boot_frame root) ∷ []
  parts_are = (kept_some (is_nil (behind_of part_at items)) (items_of part_at items) (entry (boot_frame root) ∷ []) (boot_again root size)).1

  boot_batch : length items ≡ 54 → IsBatch k items
  unfolding signing
  boot_batch len = record {
    some = omega (arith, len);
    few = omega (arith, len);
    whole = boot_again root size ∙ ap Some (sym parts_are);
    follows = rw (parts_are, first, next) refl;
    one = rw parts_are (omega arith);
  }

-- ---- the journal

module _ (key head pages root : List ℕ) (count : ℕ) (key_len : length key ≡ 56) (types : is_store_key key ≡ true) (head_len : length head ≤ longest_head) (count_is : pages_in head ≡ Some count) (few : count ≤ 4096) (pages_len : length pages ≡ 4096 * count) (size : length root ≡ 32) where
  abbrev text : List ℕ
  text = new_front key head ++ pages

  abbrev was : List ℕ
  was = text ++ 0 ∷ []

  spelled : header_bytes (new_header key head pages) ≡ text
  unfolding header_bytes new_front
  spelled = append-nil text

  read : header_at was ≡ Some (new_header key head pages, 0 ∷ [])
  read = ap (λ (l : List ℕ). header_at (l ++ 0 ∷ [])) (sym spelled) ∙ new_again key head pages (0 ∷ []) count key_len types head_len count_is pages_len

  module _ (s : Start) (is : IsStart s (new_header key head pages)) (front : s.front ≡ length text) where
    here : IsAt (kept_start s) was (bare (new_journal key head pages root))
    here = opened was s (new_header key head pages) (0 ∷ []) read is (omega (arith, front, length-append text (0 ∷ []))) (omega arith)

    shut : IsShut here.front was
    shut =
        let at : length here.front ≡ length text = here.place ∙ front in
        let a : drop (length text) was ≡ here.read.0 ∷ here.read.1 = ap (drop (length text)) here.read.2 ∙ drop_at here.front (here.read.0 ∷ here.read.1) (length text) at in
        let b : drop (length text) was ≡ 0 ∷ [] = drop_at text (0 ∷ []) (length text) refl in
        let zero : here.read.0 ≡ 0 = ap (λ (l : List ℕ). get_or l 0 0) (sym a ∙ b) in
        (here.read.0, here.read.1, here.read.2, rw zero refl)

    pub made : (new : Kept) (after : List ℕ → Type 0) (now : List ℕ) (st : StandingData) → length (part_bytes (entry (boot_frame root))) ≡ 54 → length text + 5 + 54 < 2 ^ 30 → continued (kept_start s).bounds (kept_start s).standing (part_bytes (entry (boot_frame root))) ≡ Some st
        → new ≡ record (kept_start s) { gate = s.front + 5 + length (part_bytes (entry (boot_frame root))); standing = st }
        → ((front : List ℕ) → length front ≡ s.front → IsShut front was → IsWritten front (staged (part_bytes (entry (boot_frame root)))) now × Each after (λ c. c ≡ now))
        → IsOwn new after now (new_journal key head pages root)
    made new after now st len room e same write =
        let k = kept_start s in
        let bounds = ap (λ b. b.first) is.bounds in
        let b = boot_batch k root size bounds bounds len in
        let w = write here.front here.place shut in
        let own = own_more k new (part_bytes (entry (boot_frame root))) after was now (bare (new_journal key head pages root)) st b refl (λ full. omega (arith, full, room, len, front)) refl e same here w.0 w.1 in
        subst (λ (ps : List Part). IsOwn new after now (with_record (bare (new_journal key head pages root)) ps)) (parts_are k root size bounds bounds) own

-- ---- what is written

pub new_left : (b : Buffer) → b ≡ record { bytes = []; capacity = 32768 } → left b ≡ 32768
unfolding left
new_left b is = ap (λ (x : Buffer). x.capacity - length x.bytes) is

pub text_is : (b new : Buffer) (t r : List ℕ) → b.bytes ≡ [] → new ≡ with_bytes b t → r ≡ new.bytes → r ≡ t
text_is b new t r none value is = is ∙ ap (λ (x : Buffer). x.bytes) value ∙ ap (λ (l : List ℕ). l ++ t) none

pub front_length : (key head : List ℕ) → length key ≡ 56 → length (new_front key head) ≡ 113 + length head
unfolding new_front
front_length key head size =
    let a = journal_magic ++ one 1 in
    let b = a ++ key in
    let c = b ++ be w64 1 in
    let d = c ++ replicate 32 0 in
    let e = d ++ be w64 0 in
    omega (arith, length-append journal_magic (one 1), length-append a key, length-append b (be w64 1), length-append c (replicate 32 0), length-append d (be w64 0), length-append e (sized_bytes (be w32) head), one1 1, be64 1, be64 0, sized_size head, size)

pub ends_before : (key head pages text : List ℕ) (n : ℕ) → length key ≡ 56 → text ≡ new_front key head → pages_in head ≡ Some n → length pages ≡ 4096 * n → EndBefore (length text + length pages) head
ends_before key head pages text n size is n_is pages_len count count_is =
    let both : Some count ≡ Some n = sym count_is ∙ n_is in
    let same : count ≡ n = cc in
    let l : length text ≡ length (new_front key head) = ap length is in
    omega (arith, same, l, front_length key head size, pages_len)

pub was_empty : (told : Option (List ℕ)) (n : ℕ) → n ≡ 0 → IfSome told (λ was. n ≡ length was) → IfSome told (λ was. was ≡ [])
was_empty None n zero h = tt
was_empty (Some was) n zero h = go was (sym h ∙ zero)
  where
    go : (l : List ℕ) → length l ≡ 0 → l ≡ []
    go [] e = refl
    go (b ∷ l) e = absurd (omega (arith, e))

boot_length : (root : List ℕ) → length root ≡ 32 → length (part_bytes (entry (boot_frame root))) ≡ 54
unfolding part_bytes frame_bytes
boot_length root size =
    let content = be w64 0 ++ root in
    omega (arith, three (be w64 1) (one 1) (sized_bytes (be w32) content), be64 1, one1 1, sized_size content, length-append (be w64 0) root, be64 0, size)

pub begin_fits : (k : Kept) (s : Start) (key head pages root items : List ℕ) → k ≡ kept_start s → IsStart s (new_header key head pages) → s.leaves ≤ s.bounds.most → length root ≡ 32 → items ≡ part_bytes (entry (boot_frame root)) → is_some (continued k.bounds k.standing items) ≡ true
begin_fits k s key head pages root items same is low size items_is =
    let first = ap (λ b. b.first) is.bounds in
    rw (same, items_is) (ap is_some (boot_continues (kept_start s).bounds (kept_start s).standing root size first first low))

-- what making tells, in two steps
two_steps : (old told mid new : Option (List ℕ)) (Q : List ℕ → Type 0) (W : List ℕ → List ℕ → Type 0) (P : List ℕ → Type 0) → told ≡ old → BothTold told mid (λ was now. Q now) → BothTold mid new W → ((was now : List ℕ) → Q was → W was now → P now) → BothTold old new (λ was now. P now)
two_steps old told mid new Q W P is first second then = subst (λ (o : Option (List ℕ)). BothTold o new (λ was now. P now)) is (go told mid new first second)
  where
    go : (told mid new : Option (List ℕ)) → BothTold told mid (λ was now. Q now) → BothTold mid new W → BothTold told new (λ was now. P now)
    go None None None f s = tt
    go None None (Some n) f s = s
    go None (Some m) n f s = absurd f
    go (Some t) None n f s = absurd f
    go (Some t) (Some m) None f s = s
    go (Some t) (Some m) (Some n) f s = then m n f s

pub made_told : (old told mid new : Option (List ℕ)) (key head pages root front items : List ℕ) (count : ℕ) (s : Start) (k after : Kept) (kept_images images : List ℕ → Type 0) (st : StandingData)
    → length key ≡ 56 → is_store_key key ≡ true → length head ≤ longest_head → pages_in head ≡ Some count → count ≤ 4096 → length pages ≡ 4096 * count → length root ≡ 32
    → IsStart s (new_header key head pages) → s.front ≡ length front + length pages → front ≡ new_front key head → items ≡ part_bytes (entry (boot_frame root)) → k ≡ kept_start s
    → continued k.bounds k.standing items ≡ Some st → after ≡ record k { gate = k.gate + 5 + length items; standing = st }
    → told ≡ old → BothTold told mid (λ was now. (now ≡ front ++ pages ++ 0 ∷ []) × Each kept_images (λ c. c ≡ now))
    → BothTold mid new (λ was now. (f : List ℕ) → length f ≡ k.gate → IsShut f was → IsWritten f (staged items) now × Each images (λ c. c ≡ now))
    → BothTold old new (λ was now. IsOwn after images now (new_journal key head pages root))
made_told old told mid new key head pages root front items count s k after kept_images images st key_len types head_len count_is few pages_len size is at front_is items_is same e after_is told_is first second =
    two_steps old told mid new (λ now. (now ≡ front ++ pages ++ 0 ∷ []) × Each kept_images (λ c. c ≡ now)) (λ was now. (f : List ℕ) → length f ≡ k.gate → IsShut f was → IsWritten f (staged items) now × Each images (λ c. c ≡ now)) (λ now. IsOwn after images now (new_journal key head pages root)) told_is first second then
  where
    whole : List ℕ
    whole = new_front key head ++ pages

    boot : List ℕ
    boot = part_bytes (entry (boot_frame root))

    len : s.front ≡ length whole
    len = at ∙ ap (λ (l : List ℕ). length l + length pages) front_is ∙ sym (length-append (new_front key head) pages)

    room : length whole + 5 + 54 < 2 ^ 30
    room = omega (arith, length-append (new_front key head) pages, front_length key head key_len, head_len, few, pages_len)

    starts : continued (kept_start s).bounds (kept_start s).standing boot ≡ Some st
    starts = subst (λ (x : Kept). continued x.bounds x.standing boot ≡ Some st) same (subst (λ (l : List ℕ). continued k.bounds k.standing l ≡ Some st) items_is e)

    ends : after ≡ record (kept_start s) { gate = s.front + 5 + length boot; standing = st }
    ends = after_is ∙ ap (λ (x : Kept). record x { gate = x.gate + 5 + length items; standing = st }) same ∙ ap (λ (l : List ℕ). record (kept_start s) { gate = s.front + 5 + length l; standing = st }) items_is

    then : (was now : List ℕ) → (was ≡ front ++ pages ++ 0 ∷ []) × Each kept_images (λ c. c ≡ was) → ((f : List ℕ) → length f ≡ k.gate → IsShut f was → IsWritten f (staged items) now × Each images (λ c. c ≡ now)) → IsOwn after images now (new_journal key head pages root)
    then was now q w =
        let was_is : was ≡ whole ++ 0 ∷ [] = q.0 ∙ ap (λ (l : List ℕ). l ++ pages ++ 0 ∷ []) front_is in
        let write : (f : List ℕ) → length f ≡ s.front → IsShut f (whole ++ 0 ∷ []) → IsWritten f (staged boot) now × Each images (λ c. c ≡ now) = λ f place shut.
        subst (λ (l : List ℕ). IsWritten f (staged l) now × Each images (λ c. c ≡ now)) items_is (w f (place ∙ ap (λ (x : Kept). x.gate) (sym same)) (subst (IsShut f) (sym was_is) shut)) in
        made key head pages root count key_len types head_len count_is few pages_len size s is len after images now st (boot_length root size) room starts ends write
