-- What reading a gate and a record tells of a disk's bytes.
use Rattle.std.proofs.Common.{◌≡◌, ◌≢◌, ℕ, zero, suc, ◌+◌, ◌-◌, ◌<◌, ◌≤◌, ◌^◌, min, Bool, nat_le, MatchOption, leb-true, true, false, refl, sym, ◌∙◌, ap, subst, Option, None, Some, IfSome, List, [], ◌∷◌, ◌++◌, length, take, drop, get_or, arith, ne_eqb, length-append, append_assoc, drop-drop, take-append-drop}
use Rattle.std.specs.Int.{w32, from_be_bytes}
use Rattle.std.proofs.lemmas.List.{take_at, drop_at, drop_more, take_all, length-take-le, length-drop, get_or-take}
use Rattle.avm_num.specs.Bytes.{IsBytes}
use Rattle.avm_num.specs.Lists.{be, sized_bytes}
use Rattle.avm_num.proofs.Numbers.{wide32}
use Rattle.journal_model.specs.Journal.{is_open, longest_record}
use Rattle.journal_model.proofs.Gates.{items_none, items_cut}
use Rattle.journal_model.specs.Header.{HeaderData, header_at}
use Rattle.avm_num.proofs.Locals.{behind_by}
use Rattle.journal_model.proofs.Locals.{header_front, header_small}
use Rattle.std.proofs.lemmas.Bool.{leb-false}
use Rattle.jrnl_part.specs.Starts.{IsStart}
use Rattle.jrnl_part.specs.declared.header.Start.{Start}
use Rattle.jrnl_store.specs.Reading.{IsGate, IsFound, IsStartOf}
use Rattle.jrnl_store.specs.declared.reading.Gate.{Gate}
use Rattle.jrnl_store.specs.declared.reading.Gate.TheVariants as gate
use Rattle.jrnl_store.specs.declared.reading.Found.TheVariants as found

-- a number of the bytes that were read
same_at : (head bytes : List ℕ) (n i : ℕ) → take n head ≡ take n bytes → i < n → get_or bytes i 0 ≡ get_or head i 0
same_at head bytes n i same lt = sym (get_or-take n bytes i 0 lt) ∙ ap (λ (l : List ℕ). get_or l i 0) (sym same) ∙ get_or-take n head i 0 lt

shut_first : (bytes : List ℕ) → get_or bytes 0 0 ≢ 1 → is_open bytes ≡ false
shut_first [] ne = refl
shut_first (b ∷ bytes) ne = ne_eqb b 1 ne

pub gate_none : (bytes : List ℕ) → 0 ≡ min 5 (length bytes) → is_open bytes ≡ false
gate_none [] e = refl
gate_none (b ∷ bytes) e = absurd (omega (arith, e))

pub gate_shut : (head bytes : List ℕ) (n : ℕ) → take n head ≡ take n bytes → n ≢ 0 → get_or head 0 0 ≢ 1 → is_open bytes ≡ false
gate_shut head bytes n same some ne = shut_first bytes (λ e. ne (sym (same_at head bytes n 0 same (omega (arith, some))) ∙ e))

pub gate_cut : (head bytes : List ℕ) (n : ℕ) → n ≡ min 5 (length bytes) → take n head ≡ take n bytes → n ≢ 0 → get_or head 0 0 ≡ 1 → n < 5 → IsGate gate.Cut bytes
gate_cut head bytes n e same some one few =
    let first : bytes ≡ get_or bytes 0 0 ∷ drop 1 bytes = drop_more bytes 0 0 (omega (arith, e, some)) in
    (drop 1 bytes, first ∙ ap (λ (b : ℕ). b ∷ drop 1 bytes) (same_at head bytes n 0 same (omega (arith, some)) ∙ one), omega (arith, length-drop 1 bytes, e, few))

pub gate_open : (head bytes : List ℕ) (n size : ℕ) → IsBytes head → n ≡ min 5 (length bytes) → take n head ≡ take n bytes → get_or head 0 0 ≡ 1 → 5 ≤ n
    → size ≡ from_be_bytes w32 (get_or head 1 0 ∷ get_or head 2 0 ∷ get_or head 3 0 ∷ get_or head 4 0 ∷ []) → IsGate (gate.Open size) bytes
unfolding be
gate_open head bytes n size fits e same one enough is =
    let at : (i : ℕ) → i < 5 → drop i bytes ≡ get_or head i 0 ∷ drop (i + 1) bytes = λ i lt. drop_more bytes i 0 (omega (arith, e, enough, lt)) ∙ ap (λ (b : ℕ). b ∷ drop (i + 1) bytes) (same_at head bytes n i same (omega (arith, enough, lt))) in
    let four = get_or head 1 0 ∷ get_or head 2 0 ∷ get_or head 3 0 ∷ get_or head 4 0 ∷ [] in
    let number : be w32 size ≡ four = ap (be w32) is ∙ wide32.back four refl (λ i. four_fit i) in
    let rest : drop 1 bytes ≡ four ++ drop 5 bytes = at 1 (omega arith) ∙ ap (λ (l : List ℕ). get_or head 1 0 ∷ l) (at 2 (omega arith) ∙ ap (λ (l : List ℕ). get_or head 2 0 ∷ l) (at 3 (omega arith) ∙ ap (λ (l : List ℕ). get_or head 3 0 ∷ l) (at 4 (omega arith)))) in
    let small : size < 2 ^ 32 = let b = wide32.below four (λ i. four_fit i) in omega (arith, is, b) in
    (drop 5 bytes, at 0 (omega arith) ∙ ap (λ (b : ℕ). b ∷ drop 1 bytes) one ∙ ap (λ (l : List ℕ). 1 ∷ l) (rest ∙ ap (λ (l : List ℕ). l ++ drop 5 bytes) (sym number)), small)
  where
    four_fit : (i : ℕ) → get_or (get_or head 1 0 ∷ get_or head 2 0 ∷ get_or head 3 0 ∷ get_or head 4 0 ∷ []) i 0 < 256
    four_fit zero = fits 1
    four_fit (suc zero) = fits 2
    four_fit (suc (suc zero)) = fits 3
    four_fit (suc (suc (suc zero))) = fits 4
    four_fit (suc (suc (suc (suc i)))) = omega arith

-- ---- on a disk that may tell its bytes

-- what was read at a place is the front of what stands there
read_front : (bytes buffer old : List ℕ) (n : ℕ) → n ≤ length bytes → buffer ≡ take n bytes ++ old → take n buffer ≡ take n bytes
read_front bytes buffer old n le is = ap (take n) is ∙ take_at (take n bytes) old n (length-take-le n bytes le)

pub gate_told : (told : Option (List ℕ)) (at n : ℕ) (head old : List ℕ) (g : Gate) → ((bytes : List ℕ) → n ≡ min 5 (length bytes) → take n head ≡ take n bytes → IsGate g bytes)
    → IfSome told (λ was. (n ≡ min 5 (length was - at)) × (head ≡ take n (drop at was) ++ old)) → IfSome told (λ was. IsGate g (drop at was))
gate_told None at n head old g all read = tt
gate_told (Some was) at n head old g all read =
    let len = length-drop at was in
    all (drop at was) (omega (arith, read.0, len)) (read_front (drop at was) head old n (omega (arith, read.0, len)) read.1)

pub cut_told : (told : Option (List ℕ)) (at : ℕ) (buffer : List ℕ) (g : Gate) → g ≡ gate.Cut → IfSome told (λ was. IsGate g (drop at was)) → IfSome told (λ was. IsFound found.Lacking at buffer (drop at was))
cut_told None at buffer g is h = tt
cut_told (Some was) at buffer g is h = let f : IsGate gate.Cut (drop at was) = subst (λ (x : Gate). IsGate x (drop at was)) is h in (f.0, f.1, items_cut at f.0 f.2)

be_length : (n : ℕ) → length (be w32 n) ≡ 4
unfolding be
be_length n = refl

-- how many bytes stand behind the length
rest_length : (was : List ℕ) (at size : ℕ) (rest : List ℕ) → drop at was ≡ 1 ∷ (be w32 size ++ rest) → at + 5 + length rest ≡ length was
rest_length was at size rest is =
    let len : length (drop at was) ≡ 1 + length (be w32 size ++ rest) = ap length is ∙ omega arith in
    omega (arith, len, length-drop at was, length-append (be w32 size) rest, be_length size)

pub lacking_told : (told : Option (List ℕ)) (at len size : ℕ) (buffer : List ℕ) (g : Gate) → g ≡ gate.Open size → IfSome told (λ was. IsGate g (drop at was)) → IfSome told (λ was. len ≡ length was)
    → ((1 ≤ size) × (size ≤ longest_record) × (at + 5 + size < 2 ^ 30) × (at + 5 + size < len) → ⊥) → IfSome told (λ was. IsFound found.Lacking at buffer (drop at was))
lacking_told None at len size buffer g is h same never = tt
lacking_told (Some was) at len size buffer g is h same never =
    let f : IsGate (gate.Open size) (drop at was) = subst (λ (x : Gate). IsGate x (drop at was)) is h in
    (be w32 size ++ f.0, f.1, items_none at size f.0 f.2 (λ t. never (t.0, t.1, t.2, omega (arith, t.3, same, rest_length was at size f.0 f.1))))

pub items_told : (told mid : Option (List ℕ)) (at len size wide n : ℕ) (piece old buffer : List ℕ) (g : Gate) → g ≡ gate.Open size → IfSome told (λ was. IsGate g (drop at was)) → IfSome told (λ was. len ≡ length was)
    → 1 ≤ size → size ≤ longest_record → at + 5 + size < 2 ^ 30 → at + 5 + size < len
    → mid ≡ told → wide ≡ size → IfSome mid (λ was. (n ≡ min wide (length was - (at + 5))) × (piece ≡ take n (drop (at + 5) was) ++ old)) → size ≤ n → take size buffer ≡ take size piece
    → IfSome told (λ was. IsFound (found.Items size) at buffer (drop at was))
items_told None mid at len size wide n piece old buffer g is h same some few below within mid_is wide_is told whole front = tt
items_told (Some was) mid at len size wide n piece old buffer g is h same some few below within mid_is wide_is told whole front =
    let read : (n ≡ min wide (length was - (at + 5))) × (piece ≡ take n (drop (at + 5) was) ++ old) = subst (λ (o : Option (List ℕ)). IfSome o (λ was. (n ≡ min wide (length was - (at + 5))) × (piece ≡ take n (drop (at + 5) was) ++ old))) mid_is told in
    let f : IsGate (gate.Open size) (drop at was) = subst (λ (x : Gate). IsGate x (drop at was)) is h in
    let long = rest_length was at size f.0 f.1 in
    let here : drop (at + 5) was ≡ f.0 = sym (drop-drop 5 at was) ∙ ap (drop 5) f.1 ∙ drop_at (be w32 size) f.0 4 (be_length size) in
    let n_is : n ≡ size = omega (arith, read.0, wide_is, long, within, same, whole) in
    let read_size : piece ≡ take size f.0 ++ old = read.1 ∙ ap (λ (k : ℕ). take k (drop (at + 5) was) ++ old) n_is ∙ ap (λ (l : List ℕ). take size l ++ old) here in
    let items : take size buffer ≡ take size f.0 = front ∙ read_front f.0 piece old size (omega (arith, long, within, same)) read_size in
    let b = get_or f.0 size 0 in
    let tail : drop size f.0 ≡ b ∷ drop (size + 1) f.0 = drop_more f.0 size 0 (omega (arith, long, within, same)) in
    let count : length (take size buffer) ≡ size = ap length items ∙ length-take-le size f.0 (omega (arith, long, within, same)) in
    let parts : f.0 ≡ take size buffer ++ b ∷ drop (size + 1) f.0 = sym (take-append-drop size f.0) ∙ ap (λ (l : List ℕ). l ++ drop size f.0) (sym items) ∙ ap (λ (l : List ℕ). take size buffer ++ l) tail in
    let bytes : be w32 size ++ f.0 ≡ sized_bytes (be w32) (take size buffer) ++ b ∷ drop (size + 1) f.0 =
    ap (λ (l : List ℕ). be w32 size ++ l) parts ∙ sym (append_assoc (be w32 size) (take size buffer) (b ∷ drop (size + 1) f.0)) ∙ ap (λ (k : ℕ). (be w32 k ++ take size buffer) ++ b ∷ drop (size + 1) f.0) (sym count) in
    (b, drop (size + 1) f.0, f.1 ∙ ap (λ (l : List ℕ). 1 ∷ l) bytes, record { some = omega (arith, count, some); few = omega (arith, count, few); below = omega (arith, count, below) }, count)

-- ---- the header

pub front_told : (told : Option (List ℕ)) (m n : ℕ) (buffer old : List ℕ) (r : Option Start) → m ≡ longest_record + 5 → IfSome told (λ was. (n ≡ min m (length was - 0)) × (buffer ≡ take n (drop 0 was) ++ old))
    → MatchOption r (header_at (take n buffer) ≡ None) (λ s. (h : HeaderData) × (rest : List ℕ) × (header_at (take n buffer) ≡ Some (h, rest)) × IsStart s h × (s.front + length rest ≡ length (take n buffer)))
    → IfSome told (λ was. IsStartOf r was)
front_told None m n buffer old r size read h = tt
front_told (Some was) m n buffer old r size read h =
    let few : n ≤ length was = omega (arith, read.0) in
    let same : take n buffer ≡ take n was = read_front was buffer old n few read.1 in
    let all : take n was ≡ take m was = go (nat_le m (length was)) refl in
    let front : header_at was ≡ behind_by (drop m was) (header_at (take n buffer)) = header_front was m (omega (arith, size, header_small)) ∙ ap (λ (l : List ℕ). behind_by (drop m was) (header_at l)) (sym (same ∙ all)) in
    let len : length (take n buffer) ≡ n = ap length same ∙ length-take-le n was few in
    by_case r h front len
  where
    go : (t : Bool) → nat_le m (length was) ≡ t → take n was ≡ take m was
    go true e = let le = leb-true _ _ e in let is : n ≡ m = omega (arith, read.0, le) in ap (λ (k : ℕ). take k was) is
    go false e = let gt = leb-false _ _ e in let is : n ≡ length was = omega (arith, read.0, gt) in take_all n was (omega (arith, is)) ∙ sym (take_all m was (omega (arith, gt)))

    by_case : (r : Option Start) → MatchOption r (header_at (take n buffer) ≡ None) (λ s. (h : HeaderData) × (rest : List ℕ) × (header_at (take n buffer) ≡ Some (h, rest)) × IsStart s h × (s.front + length rest ≡ length (take n buffer)))
        → header_at was ≡ behind_by (drop m was) (header_at (take n buffer)) → length (take n buffer) ≡ n → IsStartOf r was
    by_case None h front len = front ∙ ap (behind_by (drop m was)) h
    by_case (Some s) h front len =
        let e = h.2 in let place = h.4 in
        (h.0, h.1 ++ drop m was, front ∙ ap (behind_by (drop m was)) e, h.3, omega (arith, place, len, read.0, length-append h.1 (drop m was), length-drop m was))
