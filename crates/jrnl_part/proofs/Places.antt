-- Where the fields of a header stand, how many bytes it has, and that a new one is read again.
use Rattle.std.proofs.Common.{◌≡◌, inl, inr, ℕ, ◌+◌, ◌*◌, ◌^◌, ◌<◌, ◌≤◌, ◌==◌, Bool, true, false, ◌&&◌, cond, nat_lt, nat_le, ltb, List, [], ◌∷◌, ◌++◌, length, take, drop, replicate, Option, Some, None, refl, sym, ◌∙◌, ap, subst, arith, append_assoc, length-append, le-leb, ltb-true, ne_eqb}
use Rattle.std.specs.Str.{bytes_eq}
use Rattle.std.specs.Int.{Width, w32, w64, byte_len, from_be_bytes}
use Rattle.std.proofs.lemmas.List.{drop-drop}
use Rattle.avm_num.specs.Bytes.{◌>>=◌, number_at, piece_at, byte_at, kept}
use Rattle.avm_num.specs.Lists.{be, one, sized_bytes, list_at, list_bytes, limited_at}
use Rattle.avm_num.specs.Walk.{is_nil}
use Rattle.avm_num.proofs.Numbers.{bind_some, kept_some, and_true, short_some, piece_again}
use Rattle.avm_num.proofs.Fields.{goes, reads_piece, reads_32, reads_64}
use Rattle.avm_num.proofs.Lengths.{number_rest, piece_rest, byte_rest, piece_length, be64, one1}
use Rattle.avm_model.specs.Frame.{frame_at, frame_bytes}
use Rattle.journal_model.specs.Part.{longest_head}
use Rattle.journal_model.specs.Header.{HeaderData, CarriedData, journal_magic, magic_at, carried_at, few_carried_at, judged_carried, ascend, is_first, is_base, is_store_key, most_leaves, pages_in, main_at, base_at, version_at, header_at, longest_carried, has_early_count}
use Rattle.journal_model.specs.Spelling.{carried_bytes, carried_part, version, header_bytes}
use Rattle.jrnl_part.specs.Places.{Stands, HeaderStands, head_place, new_header, BehindPages}
use Rattle.jrnl_part.specs.Starts.{EndBefore}
use Rattle.jrnl_part.proofs.Sizes.{IsExact, frame_is_exact, sized_size, list_size, nine, three}

number_behind : (w : Width) (bytes : List ℕ) (p : ℕ × List ℕ) → number_at w bytes ≡ Some p → p.1 ≡ drop (byte_len w) bytes
number_behind w bytes p e =
    let g = short_some (ltb (length bytes) (byte_len w)) (from_be_bytes w (take (byte_len w) bytes), drop (byte_len w) bytes) p e in
    ap (λ (q : ℕ × List ℕ). q.1) (sym g.1)

piece_is : (n : ℕ) (bytes : List ℕ) (p : List ℕ × List ℕ) → piece_at n bytes ≡ Some p → (p.0 ≡ take n bytes) × (p.1 ≡ drop n bytes)
piece_is n bytes p e =
    let g = short_some (ltb (length bytes) n) (take n bytes, drop n bytes) p e in
    (ap (λ (q : List ℕ × List ℕ). q.0) (sym g.1), ap (λ (q : List ℕ × List ℕ). q.1) (sym g.1))

byte_behind : (bytes : List ℕ) (p : ℕ × List ℕ) → byte_at bytes ≡ Some p → p.1 ≡ drop 1 bytes
byte_behind [] p e = absurd cc
byte_behind (b ∷ bytes) p e = let g : (b, bytes) ≡ p = cc in ap (λ (q : ℕ × List ℕ). q.1) (sym g)

-- a piece behind its length
record IsLimited (bytes : List ℕ) (p : List ℕ × List ℕ) : Type 0 where
  piece : p.0 ≡ take (length p.0) (drop 4 bytes)
  behind : p.1 ≡ drop (4 + length p.0) bytes
  size : 4 + length p.0 + length p.1 ≡ length bytes

limited_is : (limit : ℕ) (bytes : List ℕ) (p : List ℕ × List ℕ) → limited_at limit bytes ≡ Some p → IsLimited bytes p
unfolding limited_at
limited_is limit bytes p e =
    let a = bind_some (number_at w32 bytes) _ p e in
    let b = bind_some (piece_at a.0.0 a.0.1) _ p a.2 in
    let k = kept_some (nat_le a.0.0 limit) b.0 p b.2 in
    subst (IsLimited bytes) k.1 (go a.0 b.0 a.1 b.1)
  where
    go : (a : ℕ × List ℕ) (b : List ℕ × List ℕ) → number_at w32 bytes ≡ Some a → piece_at a.0 a.1 ≡ Some b → IsLimited bytes b
    go a b x y =
        let rest = number_behind w32 bytes a x in
        let is = piece_is a.0 a.1 b y in
        let len = piece_length a.0 a.1 b y in
        record {
          piece = is.0 ∙ ap (λ (n : ℕ). take n a.1) (sym len) ∙ ap (take (length b.0)) rest;
          behind = is.1 ∙ ap (λ (n : ℕ). drop n a.1) (sym len) ∙ ap (drop (length b.0)) rest ∙ drop-drop (length b.0) 4 bytes;
          size = omega (arith, number_rest w32 bytes a x, piece_rest a.0 a.1 b y, len);
        }

-- what is read behind so many bytes
then_behind : (a b : ℕ) (bytes rest last : List ℕ) → rest ≡ drop a bytes → last ≡ drop b rest → last ≡ drop (a + b) bytes
then_behind a b bytes rest last x y = y ∙ ap (drop b) x ∙ drop-drop b a bytes

-- ---- the fields of both versions

abbrev made : List ℕ → ℕ → List ℕ → ℕ → List ℕ → List ℕ → HeaderData
made key first before leaves head pages = record { key = key; first = first; before = before; leaves = leaves; head = head; pages = pages; carried = [] }

main_stands : (bytes : List ℕ) (p : HeaderData × List ℕ) → main_at bytes ≡ Some p → Stands p.0 108 bytes p.1 × (p.0.carried ≡ [])
unfolding main_at
main_stands bytes p e =
    let a = bind_some (piece_at 56 bytes) _ p e in
    let b = bind_some (number_at w64 a.0.1) _ p a.2 in
    let c = bind_some (piece_at 32 b.0.1) _ p b.2 in
    let d = bind_some (number_at w64 c.0.1) _ p c.2 in
    let f = bind_some (limited_at longest_head d.0.1) _ p d.2 in
    let g = bind_some (pages_in f.0.0) _ p f.2 in
    let i = bind_some (piece_at (4096 * g.0) f.0.1) _ p g.2 in
    let k = kept_some _ (record { key = a.0.0; first = b.0.0; before = c.0.0; leaves = d.0.0; head = f.0.0; pages = i.0.0; carried = [] }, i.0.1) p i.2 in
    subst (λ (q : HeaderData × List ℕ). Stands q.0 108 bytes q.1 × (q.0.carried ≡ [])) k.1 (go a.0 b.0 c.0 d.0 f.0 g.0 i.0 a.1 b.1 c.1 d.1 f.1 g.1 i.1, refl)
  where
    go : (a : List ℕ × List ℕ) (b : ℕ × List ℕ) (c : List ℕ × List ℕ) (d : ℕ × List ℕ) (f : List ℕ × List ℕ) (g : ℕ) (i : List ℕ × List ℕ)
        → piece_at 56 bytes ≡ Some a → number_at w64 a.1 ≡ Some b → piece_at 32 b.1 ≡ Some c → number_at w64 c.1 ≡ Some d → limited_at longest_head d.1 ≡ Some f → pages_in f.0 ≡ Some g → piece_at (4096 * g) f.1 ≡ Some i
        → Stands (made a.0 b.0 c.0 d.0 f.0 i.0) 108 bytes i.1
    go a b c d f g i ea eb ec ed ef eg ei =
        let at_b = then_behind 56 8 bytes a.1 b.1 (piece_is 56 bytes a ea).1 (number_behind w64 a.1 b eb) in
        let at_c = then_behind 64 32 bytes b.1 c.1 at_b (piece_is 32 b.1 c ec).1 in
        let at_d = then_behind 96 8 bytes c.1 d.1 at_c (number_behind w64 c.1 d ed) in
        let l = limited_is longest_head d.1 f ef in
        let at_head : drop 4 d.1 ≡ drop 108 bytes = ap (drop 4) at_d ∙ drop-drop 4 104 bytes in
        let at_f = then_behind 104 (4 + length f.0) bytes d.1 f.1 at_d l.behind in
        let at_f_is : f.1 ≡ drop (108 + length f.0) bytes = at_f ∙ ap (λ (n : ℕ). drop n bytes) (omega arith) in
        let is = piece_is (4096 * g) f.1 i ei in
        let len = piece_length (4096 * g) f.1 i ei in
        record {
          count = g;
          count_is = eg;
          pages_len = len;
          key_len = piece_length 56 bytes a ea;
          before_len = piece_length 32 b.1 c ec;
          head = sym (l.piece ∙ ap (take (length f.0)) at_head);
          pages = sym (is.0 ∙ ap (take (4096 * g)) at_f_is);
          behind = then_behind (108 + length f.0) (4096 * g) bytes f.1 i.1 at_f_is is.1;
          size = omega (arith, piece_rest 56 bytes a ea, number_rest w64 a.1 b eb, piece_rest 32 b.1 c ec, number_rest w64 c.1 d ed, l.size, piece_rest (4096 * g) f.1 i ei);
        }

-- ---- both versions

carried_exact : IsExact carried_at carried_bytes
unfolding carried_at carried_bytes
carried_exact bytes p e =
    let a = bind_some (number_at w64 bytes) _ p e in
    let b = bind_some (piece_at 32 a.0.1) _ p a.2 in
    let c = bind_some (limited_at longest_carried b.0.1) _ p b.2 in
    let d = bind_some (frame_at c.0.0) _ p c.2 in
    let k = kept_some _ (record { leaf = a.0.0; before = b.0.0; frame = d.0.0 }, c.0.1) p d.2 in
    let t = and_true (is_nil d.0.1) _ k.0 in
    let l = limited_is longest_carried b.0.1 c.0 c.1 in
    let none = empty d.0.1 t.0 in
    let frame = sized_bytes (be w32) (frame_bytes d.0.0) in
    let size = three (be w64 a.0.0) b.0.0 frame in
    let here : length (be w64 a.0.0 ++ b.0.0 ++ frame) + length c.0.1 ≡ length bytes =
    omega (arith, size, be64 a.0.0, sized_size (frame_bytes d.0.0), number_rest w64 bytes a.0 a.1, piece_rest 32 a.0.1 b.0 b.1, piece_length 32 a.0.1 b.0 b.1, l.size, frame_is_exact c.0.0 d.0 d.1, none) in
    subst (λ (q : CarriedData × List ℕ). length (be w64 q.0.leaf ++ q.0.before ++ sized_bytes (be w32) (frame_bytes q.0.frame)) + length q.1 ≡ length bytes) k.1 here
  where
    empty : (l : List ℕ) → is_nil l ≡ true → length l ≡ 0
    empty [] e = refl
    empty (b ∷ l) e = absurd cc

-- what stands behind the pages
behind_pages : (v : ℕ) (m : HeaderData) (bytes : List ℕ) (p : HeaderData × List ℕ) → m.carried ≡ [] → version_at v m bytes ≡ Some p → (p.0 ≡ record m { carried = p.0.carried }) × BehindPages p.0 bytes p.1
unfolding version_at base_at
behind_pages v m bytes p none e = go (v == 1) (v == 2) e
  where
    not_one : (n : ℕ) → 1 < n → (n == 1) ≡ false
    not_one n lt = ne_eqb n 1 (λ (is : n ≡ 1). omega (arith, is, lt))

    first : (h : HeaderData) → h ≡ m → (h.first == 1) ≡ true → BehindPages h bytes bytes
    first h is begins = inl (record { first = begins; carried = ap (λ (x : HeaderData). x.carried) is ∙ none; same = refl })

    go : (x y : Bool) → cond x (kept (is_first m) (m, bytes)) (cond y (judged_carried m.first m.leaves bytes >>= λ carried. kept (is_base m) (record m { carried = carried.0 }, carried.1)) None) ≡ Some p → (p.0 ≡ record m { carried = p.0.carried }) × BehindPages p.0 bytes p.1
    go true y h =
        let k = kept_some (is_first m) (m, bytes) p h in
        let t = and_true (m.first == 1) _ (and_true _ (m.leaves == 0) k.0).0 in
        subst (λ (q : HeaderData × List ℕ). (q.0 ≡ record m { carried = q.0.carried }) × BehindPages q.0 bytes q.1) k.1 (refl, first m refl t.0)
    go false true h =
        let a = bind_some (judged_carried m.first m.leaves bytes) _ p h in
        let k = kept_some (is_base m) (record m { carried = a.0.0 }, a.0.1) p a.2 in
        let t = and_true (nat_lt 1 m.first) _ (and_true _ (has_early_count m.head) k.0).0 in
        subst (λ (q : HeaderData × List ℕ). (q.0 ≡ record m { carried = q.0.carried }) × BehindPages q.0 bytes q.1) k.1 (refl, inr (record { first = not_one m.first (ltb-true _ _ t.0); judged = a.1 }))
    go false false h = absurd cc

-- a header's fields stand 5 bytes further on, and carried entries don't change them
further : (m h : HeaderData) (bytes here rest : List ℕ) → here ≡ drop 5 bytes → length here + 5 ≡ length bytes → h ≡ record m { carried = h.carried } → Stands m 108 here rest → Stands h head_place bytes rest
further m h bytes here rest at len is s =
    let same : Stands (record m { carried = h.carried }) head_place bytes rest = record {
      count = s.count;
      count_is = s.count_is;
      pages_len = s.pages_len;
      key_len = s.key_len;
      before_len = s.before_len;
      head = ap (take (length m.head)) (sym (ap (drop 108) at ∙ drop-drop 108 5 bytes)) ∙ s.head;
      pages = ap (take (4096 * s.count)) (sym (ap (drop (108 + length m.head)) at ∙ drop-drop (108 + length m.head) 5 bytes ∙ ap (λ (n : ℕ). drop n bytes) (omega arith))) ∙ s.pages;
      behind = s.behind ∙ ap (drop (108 + length m.head + 4096 * s.count)) at ∙ drop-drop (108 + length m.head + 4096 * s.count) 5 bytes ∙ ap (λ (n : ℕ). drop n bytes) (omega arith);
      size = omega (arith, s.size, len);
    } in
    subst (λ (x : HeaderData). Stands x head_place bytes rest) (sym is) same

pub header_places : (bytes : List ℕ) (p : HeaderData × List ℕ) → header_at bytes ≡ Some p → HeaderStands p.0 bytes p.1
unfolding header_at magic_at
header_places bytes p e =
    let a = bind_some (magic_at bytes) _ p e in
    let w = bind_some (piece_at 4 bytes) _ a.0 a.1 in
    let m = kept_some _ (tt, w.0.1) a.0 w.2 in
    let b = bind_some (byte_at a.0.1) _ p a.2 in
    let c = bind_some (main_at b.0.1) _ p b.2 in
    let at_word : a.0.1 ≡ drop 4 bytes = ap (λ (q : Unit {0} × List ℕ). q.1) (sym m.1) ∙ (piece_is 4 bytes w.0 w.1).1 in
    let len_word : length a.0.1 ≡ length w.0.1 = ap (λ (q : Unit {0} × List ℕ). length q.1) (sym m.1) in
    let at = then_behind 4 1 bytes a.0.1 b.0.1 at_word (byte_behind a.0.1 b.0 b.1) in
    let s = main_stands b.0.1 c.0 c.1 in
    let d = behind_pages b.0.0 c.0.0 c.0.1 p s.1 c.2 in
    record { behind = c.0.1; fields = further c.0.0 p.0 bytes b.0.1 c.0.1 at (omega (arith, len_word, piece_rest 4 bytes w.0 w.1, byte_rest a.0.1 b.0 b.1)) d.0 s.0; pages = d.1 }

-- ---- how many bytes

carried_size : (h : HeaderData) (bytes rest : List ℕ) → BehindPages h bytes rest → length (carried_part h) + length rest ≡ length bytes
unfolding judged_carried few_carried_at
carried_size h bytes rest (inl n) =
    let none : length (carried_part h) ≡ 0 = rw n.first refl in
    omega (arith, none, ap length n.same)
carried_size h bytes rest (inr m) =
    let a = bind_some (few_carried_at bytes) _ (h.carried, rest) m.judged in
    let b = bind_some (byte_at bytes) _ a.0 a.1 in
    let c = bind_some (list_at carried_at b.0.0 b.0.1) _ a.0 b.2 in
    let k = kept_some (nat_le b.0.0 30) c.0 a.0 c.2 in
    let q = kept_some (ascend 0 0 h.first h.leaves a.0.0) a.0 (h.carried, rest) a.2 in
    let size = list_size carried_at carried_bytes carried_exact b.0.0 b.0.1 c.0 c.1 in
    let cs : length (list_bytes carried_bytes c.0.0) ≡ length (list_bytes carried_bytes h.carried) = ap (λ (x : List CarriedData × List ℕ). length (list_bytes carried_bytes x.0)) (k.1 ∙ q.1) in
    let left : length c.0.1 ≡ length rest = ap (λ (x : List CarriedData × List ℕ). length x.1) (k.1 ∙ q.1) in
    let all : length (carried_part h) ≡ 1 + length (list_bytes carried_bytes h.carried) = rw m.first (omega (arith, length-append (one (length h.carried)) (list_bytes carried_bytes h.carried), one1 (length h.carried))) in
    omega (arith, all, cs, left, size, byte_rest bytes b.0 b.1)

pub header_size : (h : HeaderData) (bytes rest : List ℕ) → HeaderStands h bytes rest → length (header_bytes h) + length rest ≡ length bytes
unfolding header_bytes
header_size h bytes rest s =
    let f = s.fields in
    let sum = nine journal_magic (one (version h)) h.key (be w64 h.first) h.before (be w64 h.leaves) (sized_bytes (be w32) h.head) h.pages (carried_part h) in
    omega (arith, sum, one1 (version h), f.key_len, be64 h.first, f.before_len, be64 h.leaves, sized_size h.head, f.size, carried_size h s.behind rest s.pages)

-- ---- a new header is read again

main_again : (key before head pages rest : List ℕ) (first leaves count : ℕ) → length key ≡ 56 → first < 2 ^ 64 → length before ≡ 32 → leaves < 2 ^ 64 → length head < 2 ^ 32 → length head ≤ longest_head → pages_in head ≡ Some count → length pages ≡ 4096 * count
    → is_store_key key ≡ true → leaves ≤ most_leaves key
    → main_at (key ++ (be w64 first ++ (before ++ (be w64 leaves ++ (sized_bytes (be w32) head ++ (pages ++ rest)))))) ≡ Some (made key first before leaves head pages, rest)
unfolding main_at limited_at
main_again key before head pages rest first leaves count key_len first_low before_len leaves_low head_low head_len count_is pages_len types few =
    goes (reads_piece 56) key _ _ key_len
    ∙ goes reads_64 first _ _ first_low
    ∙ goes (reads_piece 32) before _ _ before_len
    ∙ goes reads_64 leaves _ _ leaves_low
    ∙ ap (λ (o : Option (List ℕ × List ℕ)). o >>= λ h. pages_in h.0 >>= λ n. piece_at (4096 * n) h.1 >>= λ p. kept (is_store_key key && nat_le leaves (most_leaves key)) (made key first before leaves h.0 p.0, p.1)) head_is
    ∙ rw (count_is, pages_is, types, le-leb leaves (most_leaves key) few) refl
  where
    head_is : limited_at longest_head (sized_bytes (be w32) head ++ (pages ++ rest)) ≡ Some (head, pages ++ rest)
    head_is =
        let grouped : sized_bytes (be w32) head ++ (pages ++ rest) ≡ be w32 (length head) ++ (head ++ (pages ++ rest)) = append_assoc (be w32 (length head)) head (pages ++ rest) in
        ap (limited_at longest_head) grouped ∙ goes reads_32 (length head) (head ++ (pages ++ rest)) _ head_low ∙ goes (reads_piece (length head)) head (pages ++ rest) _ refl ∙ rw (le-leb (length head) longest_head head_len) refl

    pages_is : piece_at (4096 * count) (pages ++ rest) ≡ Some (pages, rest)
    pages_is = ap (λ (n : ℕ). piece_at n (pages ++ rest)) (sym pages_len) ∙ piece_again pages rest

grouped : (m v k f b l s p rest : List ℕ) → (m ++ v ++ k ++ f ++ b ++ l ++ s ++ p ++ []) ++ rest ≡ m ++ (v ++ (k ++ (f ++ (b ++ (l ++ (s ++ (p ++ rest)))))))
grouped m v k f b l s p rest = simp append_assoc

pub new_again : (key head pages rest : List ℕ) (count : ℕ) → length key ≡ 56 → is_store_key key ≡ true → length head ≤ longest_head → pages_in head ≡ Some count → length pages ≡ 4096 * count → header_at (header_bytes (new_header key head pages) ++ rest) ≡ Some (new_header key head pages, rest)
unfolding header_at header_bytes magic_at version_at one
new_again key head pages rest count key_len types head_len count_is pages_len =
    let h = new_header key head pages in
    let before : List ℕ = replicate 32 0 in
    let size_low : length head < 2 ^ 32 = omega (arith, head_len) in
    let main : List ℕ = key ++ (be w64 1 ++ (before ++ (be w64 0 ++ (sized_bytes (be w32) head ++ (pages ++ rest))))) in
    let word : magic_at (journal_magic ++ (one 1 ++ main)) ≡ Some (tt, one 1 ++ main) = ap (λ o. o >>= λ (p : List ℕ × List ℕ). kept (bytes_eq p.0 journal_magic) (tt, p.1)) (piece_again journal_magic (one 1 ++ main)) in
    let fields : main_at main ≡ Some (h, rest) = main_again key before head pages rest 1 0 count key_len (omega arith) refl (omega arith) size_low head_len count_is pages_len types (omega arith) in
    ap header_at (grouped journal_magic (one 1) key (be w64 1) before (be w64 0) (sized_bytes (be w32) head) pages rest) ∙ rw (word, fields) refl

-- a header's head and pages end before what stands behind it
pub end_before : (h : HeaderData) (bytes rest : List ℕ) (place : ℕ) → header_at bytes ≡ Some (h, rest) → place + length rest ≡ length bytes → EndBefore place h.head
end_before h bytes rest place e at count is =
    let s = header_places bytes (h, rest) e in
    let both : Some count ≡ Some s.fields.count = sym is ∙ s.fields.count_is in
    let same : count ≡ s.fields.count = cc in
    let carried = carried_size h s.behind rest s.pages in
    omega (arith, same, at, s.fields.size, s.fields.pages_len, carried)
