-- Headers are read as they are spelled.
use Rattle.std.proofs.Common.{◌≡◌, ℕ, ◌*◌, ◌^◌, ◌<◌, ◌≤◌, Bool, true, false, cond, ◌==◌, ◌&&◌, nat_le, nat_lt, List, [], ◌∷◌, ◌++◌, length, Some, None, refl, sym, ap, subst, ◌∙◌, arith, append_assoc, append-nil, eqb-true, leb-true, ltb-true, le-leb, inl, inr}
use Rattle.std.proofs.lemmas.Slice.Eq.{bytes_eq-Decides}
use Rattle.std.specs.Str.{bytes_eq}
use Rattle.std.specs.Int.{w32, w64}
use Rattle.std.specs.List.{AllByRecursion}
use Rattle.avm_num.specs.Bytes.{IsBytes, ◌>>=◌, piece_at, kept}
use Rattle.avm_num.specs.Lists.{be, one, sized_bytes, list_bytes}
use Rattle.avm_num.specs.Walk.{is_nil}
use Rattle.avm_num.proofs.Numbers.{Front, bind_some, kept_some, and_true}
use Rattle.avm_num.proofs.Fields.{Reads, start, next, goes, reads_64, reads_byte, reads_piece, reads_list}
use Rattle.avm_model.specs.Entries.{all_zero}
use Rattle.avm_model.specs.Frame.{frame_at, frame_bytes}
use Rattle.avm_model.specs.LmsTypes.{height_of}
use Rattle.avm_model.specs.LmsValid.{number}
use Rattle.avm_model.proofs.PartLengths.{middle_bytes_are}
use Rattle.log_entry.proofs.FrameLaws.{reads_frame}
use Rattle.journal_model.specs.Part.{longest_head, is_signed_kind}
use Rattle.journal_model.specs.Header.{HeaderData, CarriedData, journal_magic, magic_at, most_leaves, is_store_key, pages_in, longest_carried, carried_at, ascend, is_first, is_base, has_early_count, main_at, few_carried_at, judged_carried, base_at, version_at, header_at}
use Rattle.journal_model.specs.Spelling.{carried_bytes, carried_part, version, header_bytes}
use Rattle.journal_model.specs.Fits.{FitsHeader}
use Rattle.journal_spelling.specs.Spelled.{FitsCarried, FitsFields}
use Rattle.journal_spelling.proofs.PartLaws.{reads_limited}

reads_magic : Reads magic_at (λ u. journal_magic) (λ u. Unit {0})
unfolding magic_at
reads_magic = record {
  front = λ bytes p fits e.
      let a = next (reads_piece 4) bytes [] bytes (start bytes fits) _ p e in
      let k = kept_some (bytes_eq a.0.0 journal_magic) (tt, a.0.1) p a.3 in
      let is : a.0.0 ≡ journal_magic = (bytes_eq-Decides a.0.0 journal_magic).0 k.0 in
      (subst (λ (q : Unit {0} × List ℕ). Front bytes journal_magic q.1) k.1 (subst (λ (t : List ℕ). Front bytes t a.0.1) is a.1), tt);
  again = λ u rest fits. goes (reads_piece 4) journal_magic rest _ refl;
}

-- ---- carried entries

nil_is : (bytes : List ℕ) → is_nil bytes ≡ true → bytes ≡ []
nil_is [] e = refl
nil_is (b ∷ bytes) e = absurd cc

regroup : (a b c d e : List ℕ) → (a ++ b ++ (c ++ d)) ++ e ≡ (a ++ b ++ c) ++ (d ++ e)
regroup a b c d e = simp append_assoc

reads_carried : Reads carried_at carried_bytes FitsCarried
unfolding carried_at carried_bytes
reads_carried = record {
  front = λ bytes p fits e.
      let a = next reads_64 bytes [] bytes (start bytes fits) _ p e in
      let b = next (reads_piece 32) bytes _ _ a.1 _ p a.3 in
      let c = next (reads_limited longest_carried) bytes _ _ b.1 _ p b.3 in
      let d = bind_some (frame_at c.0.0) _ p c.3 in
      let k = kept_some (is_nil d.0.1 && is_signed_kind d.0.0.kind) (record { leaf = a.0.0; before = b.0.0; frame = d.0.0 }, c.0.1) p d.2 in
      let t = and_true (is_nil d.0.1) (is_signed_kind d.0.0.kind) k.0 in
      let inner = middle_bytes_are bytes _ c.0.0 _ fits (c.1.parts ∙ regroup (be w64 a.0.0) b.0.0 (be w32 (length c.0.0)) c.0.0 c.0.1) in
      let f = reads_frame.front c.0.0 d.0 inner d.1 in
      let whole : c.0.0 ≡ frame_bytes d.0.0 = f.0.parts ∙ ap (λ (l : List ℕ). frame_bytes d.0.0 ++ l) (nil_is d.0.1 t.0) ∙ append-nil (frame_bytes d.0.0) in
      let short : length (frame_bytes d.0.0) ≤ longest_carried = subst (λ (l : List ℕ). length l ≤ longest_carried) whole c.2.1 in
      let text : Front bytes (be w64 a.0.0 ++ b.0.0 ++ sized_bytes (be w32) (frame_bytes d.0.0)) c.0.1 = subst (λ (l : List ℕ). Front bytes (be w64 a.0.0 ++ b.0.0 ++ sized_bytes (be w32) l) c.0.1) whole c.1 in
      subst (λ (q : CarriedData × List ℕ). Front bytes (carried_bytes q.0) q.1 × FitsCarried q.0) k.1
      (text, record { leaf = a.2; before = b.2; frame = f.1; short = short; signed = t.1 });
  again = λ x rest fits.
      let regrouped : carried_bytes x ++ rest ≡ be w64 x.leaf ++ (x.before ++ (sized_bytes (be w32) (frame_bytes x.frame) ++ rest)) = simp append_assoc in
      let low = fits.short in
      let frame : frame_at (frame_bytes x.frame) ≡ Some (x.frame, []) = ap frame_at (sym (append-nil (frame_bytes x.frame))) ∙ reads_frame.again x.frame [] fits.frame in
      ap carried_at regrouped ∙ goes reads_64 x.leaf _ _ fits.leaf ∙ goes (reads_piece 32) x.before _ _ fits.before ∙ goes (reads_limited longest_carried) (frame_bytes x.frame) _ _ (omega (arith, low), low) ∙ rw (frame, fits.signed) refl;
}

abbrev IsFew : List CarriedData → Type 0
IsFew cs = (length cs ≤ 30) × AllByRecursion FitsCarried cs

abbrev few_bytes : List CarriedData → List ℕ
few_bytes cs = one (length cs) ++ list_bytes carried_bytes cs

reads_few : Reads few_carried_at few_bytes IsFew
unfolding few_carried_at
reads_few = record {
  front = λ bytes p fits e.
      let a = next reads_byte bytes [] bytes (start bytes fits) _ p e in
      let b = next (reads_list reads_carried a.0.0) bytes _ _ a.1 _ p a.3 in
      let k = kept_some (nat_le a.0.0 30) b.0 p b.3 in
      let text : Front bytes (few_bytes b.0.0) b.0.1 = subst (λ (n : ℕ). Front bytes (one n ++ list_bytes carried_bytes b.0.0) b.0.1) (sym b.2.0) b.1 in
      let low : length b.0.0 ≤ 30 = subst (λ (n : ℕ). n ≤ 30) (sym b.2.0) (leb-true _ _ k.0) in
      subst (λ (q : List CarriedData × List ℕ). Front bytes (few_bytes q.0) q.1 × IsFew q.0) k.1 (text, (low, b.2.1));
  again = λ cs rest fits.
      let regrouped : few_bytes cs ++ rest ≡ one (length cs) ++ (list_bytes carried_bytes cs ++ rest) = append_assoc (one (length cs)) (list_bytes carried_bytes cs) rest in
      ap few_carried_at regrouped ∙ goes reads_byte (length cs) _ _ tt ∙ rw ((reads_list reads_carried (length cs)).again cs rest (refl, fits.1), le-leb _ _ fits.0) refl;
}

-- ---- what stands in front of them

abbrev pub main_bytes : HeaderData → List ℕ
main_bytes h = h.key ++ be w64 h.first ++ h.before ++ be w64 h.leaves ++ sized_bytes (be w32) h.head ++ h.pages

record FitsMain (h : HeaderData) : Type 0 where
  key : length h.key ≡ 56
  types : is_store_key h.key ≡ true
  first : h.first < 2 ^ 64
  before : length h.before ≡ 32
  wide : h.leaves < 2 ^ 64
  leaves : h.leaves ≤ most_leaves h.key
  head : (length h.head < 2 ^ 32) × (length h.head ≤ longest_head)
  pages : (n : ℕ) × (pages_in h.head ≡ Some n) × (length h.pages ≡ 4096 * n)
  carried : h.carried ≡ []

reads_main : Reads main_at main_bytes FitsMain
unfolding main_at
reads_main = record {
  front = λ bytes p fits e.
      let a = next (reads_piece 56) bytes [] bytes (start bytes fits) _ p e in
      let b = next reads_64 bytes _ _ a.1 _ p a.3 in
      let c = next (reads_piece 32) bytes _ _ b.1 _ p b.3 in
      let d = next reads_64 bytes _ _ c.1 _ p c.3 in
      let f = next (reads_limited longest_head) bytes _ _ d.1 _ p d.3 in
      let g = bind_some (pages_in f.0.0) _ p f.3 in
      let i = next (reads_piece (4096 * g.0)) bytes _ _ f.1 _ p g.2 in
      let h : HeaderData = record { key = a.0.0; first = b.0.0; before = c.0.0; leaves = d.0.0; head = f.0.0; pages = i.0.0; carried = [] } in
      let k = kept_some (is_store_key a.0.0 && nat_le d.0.0 (most_leaves a.0.0)) (h, i.0.1) p i.3 in
      let t = and_true (is_store_key a.0.0) (nat_le d.0.0 (most_leaves a.0.0)) k.0 in
      subst (λ (q : HeaderData × List ℕ). Front bytes (main_bytes q.0) q.1 × FitsMain q.0) k.1
      (i.1, record { key = a.2; types = t.0; first = b.2; before = c.2; wide = d.2; leaves = leb-true _ _ t.1; head = f.2; pages = (g.0, g.1, i.2); carried = refl });
  again = λ h rest fits.
      let n = fits.pages in
      let regrouped : main_bytes h ++ rest ≡ h.key ++ (be w64 h.first ++ (h.before ++ (be w64 h.leaves ++ (sized_bytes (be w32) h.head ++ (h.pages ++ rest))))) = simp append_assoc in
      let whole : record h { carried = [] } ≡ h = ap (λ (cs : List CarriedData). record h { carried = cs }) (sym fits.carried) in
      let count : (pages_in h.head >>= λ count. piece_at (4096 * count) (h.pages ++ rest) >>= λ pages. kept (is_store_key h.key && nat_le h.leaves (most_leaves h.key)) (record { key = h.key; first = h.first; before = h.before; leaves = h.leaves; head = h.head; pages = pages.0; carried = [] }, pages.1)) ≡ Some (record h { carried = [] }, rest) =
      rw (n.1, (reads_piece (4096 * n.0)).again h.pages rest n.2, fits.types, le-leb _ _ fits.leaves) refl in
      ap main_at regrouped ∙ goes (reads_piece 56) h.key _ _ fits.key ∙ goes reads_64 h.first _ _ fits.first ∙ goes (reads_piece 32) h.before _ _ fits.before ∙ goes reads_64 h.leaves _ _ fits.wide ∙ goes (reads_limited longest_head) h.head _ _ fits.head ∙ count
      ∙ ap (λ (x : HeaderData). Some (x, rest)) whole;
}

-- ---- the two versions

record IsVersion (v : ℕ) (h : HeaderData) (bytes : List ℕ) (p : HeaderData × List ℕ) : Type 0 where
  is : v ≡ version p.0
  text : Front bytes (carried_part p.0) p.1
  main : main_bytes h ≡ main_bytes p.0
  fields : FitsFields p.0

above_one : (n : ℕ) → nat_lt 1 n ≡ true → (n == 1) ≡ false
above_one n lt = go (n == 1) refl
  where
    go : (b : Bool) → (n == 1) ≡ b → b ≡ false
    go true e = absurd (let is = eqb-true n 1 e in let l = ltb-true 1 n lt in omega (arith, is, l))
    go false e = refl

base_above : (h : HeaderData) → is_base h ≡ true → nat_lt 1 h.first ≡ true
base_above h e = (and_true (nat_lt 1 h.first) (nat_lt h.first (2 ^ 61)) (and_true (nat_lt 1 h.first && nat_lt h.first (2 ^ 61)) (has_early_count h.head) e).0).0

first_one : (h : HeaderData) → is_first h ≡ true → (h.first == 1) ≡ true
first_one h e = (and_true (h.first == 1) _ (and_true _ (h.leaves == 0) e).0).0

version_front : (v : ℕ) (h : HeaderData) (bytes : List ℕ) (p : HeaderData × List ℕ) → IsBytes bytes → FitsMain h → version_at v h bytes ≡ Some p → IsVersion v h bytes p
unfolding version_at base_at judged_carried
version_front v h bytes p fits m e = one_is (v == 1) refl e
  where
    base_is : v ≡ 2 → base_at h bytes ≡ Some p → IsVersion v h bytes p
    base_is two q =
        let j = bind_some (few_carried_at bytes >>= λ carried. kept (ascend 0 0 h.first h.leaves carried.0) carried) _ p q in
        let a = next reads_few bytes [] bytes (start bytes fits) _ j.0 j.1 in
        let l = kept_some (ascend 0 0 h.first h.leaves a.0.0) a.0 j.0 a.3 in
        let k = kept_some (is_base h) (record h { carried = j.0.0 }, j.0.1) p j.2 in
        let above = above_one h.first (base_above h k.0) in
        let at_j : IsVersion v h bytes (record h { carried = a.0.0 }, a.0.1) = record {
          is = rw above two;
          text = rw above a.1;
          main = refl;
          fields = record { first = m.first; few = a.2.0; carried = a.2.1; ascends = l.0; none = λ is. absurd (let lt = ltb-true 1 h.first (base_above h k.0) in omega (arith, is, lt)) };
        } in
        subst (IsVersion v h bytes) k.1 (subst (λ (x : List CarriedData × List ℕ). IsVersion v h bytes (record h { carried = x.0 }, x.1)) l.1 at_j)

    two_is : (b : Bool) → (v == 2) ≡ b → cond b (base_at h bytes) None ≡ Some p → IsVersion v h bytes p
    two_is true t q = base_is (eqb-true v 2 t) q
    two_is false t q = absurd cc

    one_is : (b : Bool) → (v == 1) ≡ b → cond b (kept (is_first h) (h, bytes)) (cond (v == 2) (base_at h bytes) None) ≡ Some p → IsVersion v h bytes p
    one_is true t q =
        let k = kept_some (is_first h) (h, bytes) p q in
        let first = first_one h k.0 in
        let nothing : h.carried ≡ [] = m.carried in
        subst (IsVersion v h bytes) k.1 (record {
          is = rw first (eqb-true v 1 t);
          text = rw first (start bytes fits);
          main = refl;
          fields = record { first = m.first; few = rw nothing (omega arith); carried = rw nothing tt; ascends = rw nothing refl; none = λ is. nothing };
        })
    one_is false t q = two_is (v == 2) refl q

in_order : (m v k f b l s p c : List ℕ) → m ++ v ++ (k ++ f ++ b ++ l ++ s ++ p) ++ c ≡ m ++ v ++ k ++ f ++ b ++ l ++ s ++ p ++ c
in_order m v k f b l s p c = simp append_assoc

pub header_read : (bytes : List ℕ) (p : HeaderData × List ℕ) → IsBytes bytes → header_at bytes ≡ Some p → Front bytes (header_bytes p.0) p.1 × FitsFields p.0
unfolding header_at header_bytes
header_read bytes p fits e =
    let a = next reads_magic bytes [] bytes (start bytes fits) _ p e in
    let b = next reads_byte bytes _ _ a.1 _ p a.3 in
    let c = next reads_main bytes _ _ b.1 _ p b.3 in
    let v = version_front b.0.0 c.0.0 c.0.1 p c.1.rest_fits c.2 c.3 in
    let h = p.0 in
    let text : bytes ≡ header_bytes h ++ p.1 =
    c.1.parts
    ∙ ap (λ (t : List ℕ). journal_magic ++ one b.0.0 ++ main_bytes c.0.0 ++ t) v.text.parts
    ∙ ap (λ (n : ℕ). journal_magic ++ one n ++ main_bytes c.0.0 ++ (carried_part h ++ p.1)) v.is
    ∙ ap (λ (t : List ℕ). journal_magic ++ one (version h) ++ t ++ (carried_part h ++ p.1)) v.main
    ∙ sym (append_assoc (journal_magic ++ one (version h) ++ main_bytes h) (carried_part h) p.1)
    ∙ ap (λ (t : List ℕ). t ++ p.1) (in_order journal_magic (one (version h)) h.key (be w64 h.first) h.before (be w64 h.leaves) (sized_bytes (be w32) h.head) h.pages (carried_part h)) in
    (record { parts = text; rest_fits = v.text.rest_fits }, v.fields)

-- ---- and again

-- a key has at most 2 ^ 25 leaves
height_low : (t : ℕ) → 2 ^ height_of t < 2 ^ 64
unfolding height_of
height_low t = go (t == 5) (t == 6) (t == 7) (t == 8)
  where
    go : (a b c d : Bool) → 2 ^ cond a 5 (cond b 10 (cond c 15 (cond d 20 25))) < 2 ^ 64
    go true b c d = omega arith
    go false true c d = omega arith
    go false false true d = omega arith
    go false false false true = omega arith
    go false false false false = omega arith

most_small : (h : HeaderData) → FitsHeader h → h.leaves < 2 ^ 64
unfolding most_leaves
most_small h f = let low = f.leaves in let high = height_low (number h.key 0) in omega (arith, low, high)

judged_again : (first leaves : ℕ) (cs : List CarriedData) (rest : List ℕ) → IsFew cs → ascend 0 0 first leaves cs ≡ true → judged_carried first leaves (few_bytes cs ++ rest) ≡ Some (cs, rest)
unfolding judged_carried
judged_again first leaves cs rest few up = rw (reads_few.again cs rest few, up) refl

version_again : (h : HeaderData) (rest : List ℕ) → FitsHeader h → FitsFields h → version_at (version h) (record h { carried = [] }) (carried_part h ++ rest) ≡ Some (h, rest)
unfolding version_at base_at
version_again h rest f g = elim f.version [ inl e ↦ as_first e | inr e ↦ as_base e ]
  where
    as_first : is_first h ≡ true → version_at (version h) (record h { carried = [] }) (carried_part h ++ rest) ≡ Some (h, rest)
    as_first e =
        let first = first_one h e in
        let whole : record h { carried = [] } ≡ h = ap (λ (cs : List CarriedData). record h { carried = cs }) (sym (g.none (eqb-true h.first 1 first))) in
        let t = and_true (h.first == 1 && all_zero h.before) (h.leaves == 0) e in
        let u = and_true (h.first == 1) (all_zero h.before) t.0 in
        rw (first, u.1, t.1) (ap (λ (x : HeaderData). Some (x, rest)) whole)

    as_base : is_base h ≡ true → version_at (version h) (record h { carried = [] }) (carried_part h ++ rest) ≡ Some (h, rest)
    as_base e =
        let above = above_one h.first (base_above h e) in
        rw above (rw (judged_again h.first h.leaves h.carried rest (g.few, g.carried) g.ascends, e) refl)

nine : (m v k f b l s p c rest : List ℕ) → (m ++ v ++ k ++ f ++ b ++ l ++ s ++ p ++ c) ++ rest ≡ m ++ (v ++ ((k ++ f ++ b ++ l ++ s ++ p) ++ (c ++ rest)))
nine m v k f b l s p c rest = simp append_assoc

pub header_again : (h : HeaderData) (rest : List ℕ) → FitsHeader h → FitsFields h → header_at (header_bytes h ++ rest) ≡ Some (h, rest)
unfolding header_at header_bytes
header_again h rest f g =
    let small = most_small h f in
    let short = f.head in
    let m : FitsMain (record h { carried = [] }) = record { key = f.key; types = f.types; first = g.first; before = f.before; wide = small; leaves = f.leaves; head = (omega (arith, short), short); pages = f.pages; carried = refl } in
    let regrouped : header_bytes h ++ rest ≡ journal_magic ++ (one (version h) ++ (main_bytes (record h { carried = [] }) ++ (carried_part h ++ rest))) =
    nine journal_magic (one (version h)) h.key (be w64 h.first) h.before (be w64 h.leaves) (sized_bytes (be w32) h.head) h.pages (carried_part h) rest in
    ap header_at regrouped ∙ goes reads_magic tt _ _ tt ∙ goes reads_byte (version h) _ _ tt ∙ goes reads_main (record h { carried = [] }) (carried_part h ++ rest) _ m ∙ version_again h rest f g
