-- Parts are read as they are spelled.
use Rattle.std.proofs.Common.{◌≡◌, ℕ, zero, suc, ◌+◌, ◌*◌, ◌^◌, ◌<◌, ◌≤◌, Bool, true, false, cond, ◌==◌, nat_le, List, [], ◌∷◌, ◌++◌, length, take, drop, Option, Some, None, option_map, refl, sym, ap, subst, ◌∙◌, arith, append_assoc, eqb-true, leb-true, le-leb, All}
use Rattle.std.proofs.lemmas.Bool.{le-ltb}
use Rattle.std.proofs.lemmas.List.{length-drop}
use Rattle.std.specs.Int.{w32, w64, from_be_bytes}
use Rattle.avm_num.specs.Bytes.{IsBytes, number_at, piece_at}
use Rattle.avm_num.specs.Lists.{be, one, sized_bytes, limited_at}
use Rattle.avm_num.specs.Walk.{items_of, all_at}
use Rattle.avm_num.proofs.Numbers.{Front, Front-then, bind_some, kept_some}
use Rattle.avm_num.proofs.Fields.{Reads, start, next, goes, reads_32, reads_64, reads_byte, reads_piece, reads_sized}
use Rattle.avm_num.proofs.Walks.{Shortens, items_some, items_none, all_front, all_again}
use Rattle.avm_model.specs.Frame.{FrameData, frame_at, frame_bytes}
use Rattle.log_entry.proofs.FrameLaws.{reads_frame}
use Rattle.journal_model.specs.Part.{Part, entry, seal, keep, KeepData, PageData, page_at, pages_of, keep_at, body_at, part_at, longest_head}
use Rattle.journal_model.specs.Spelling.{keep_bytes, part_bytes, parts_bytes}
use Rattle.journal_model.proofs.Parts.{page_short, part_shortens}
use Rattle.journal_spelling.specs.Spelled.{FitsKeep, FitsPart}

-- ---- a length up to a limit

abbrev pub IsLimited : ℕ → List ℕ → Type 0
IsLimited limit x = (length x < 2 ^ 32) × (length x ≤ limit)

pub reads_limited : (limit : ℕ) → Reads (limited_at limit) (sized_bytes (be w32)) (IsLimited limit)
unfolding limited_at
reads_limited limit = record {
  front = λ bytes p fits e.
      let a = next reads_32 bytes [] bytes (start bytes fits) _ p e in
      let b = bind_some (piece_at a.0.0 a.0.1) _ p a.3 in
      let k = kept_some (nat_le a.0.0 limit) b.0 p b.2 in
      let f = (reads_piece a.0.0).front a.0.1 b.0 a.1.rest_fits b.1 in
      let front = Front-then bytes _ a.0.1 _ b.0.1 a.1 f.0 in
      let sized : Front bytes (sized_bytes (be w32) b.0.0) b.0.1 = subst (λ (m : ℕ). Front bytes (be w32 m ++ b.0.0) b.0.1) (sym f.1) front in
      let small : length b.0.0 < 2 ^ 32 = subst (λ (m : ℕ). m < 2 ^ 32) (sym f.1) a.2 in
      let low : length b.0.0 ≤ limit = subst (λ (m : ℕ). m ≤ limit) (sym f.1) (leb-true _ _ k.0) in
      subst (λ (q : List ℕ × List ℕ). Front bytes (sized_bytes (be w32) q.0) q.1 × IsLimited limit q.0) k.1 (sized, (small, low));
  again = λ x rest fits.
      let regrouped : sized_bytes (be w32) x ++ rest ≡ be w32 (length x) ++ (x ++ rest) = append_assoc (be w32 (length x)) x rest in
      ap (limited_at limit) regrouped ∙ goes reads_32 (length x) (x ++ rest) _ fits.0 ∙ rw ((reads_piece (length x)).again x rest refl, le-leb _ _ fits.1) refl;
}

-- ---- keeps

page_shortens : Shortens page_at
page_shortens = record { short = page_short }

-- a whole page at the front
page_some : (bytes : List ℕ) → 4100 ≤ length bytes → (p : PageData × List ℕ) × (page_at bytes ≡ Some p) × (length p.1 + 4100 ≡ length bytes)
unfolding page_at
page_some bytes long =
    let number : number_at w32 bytes ≡ Some (from_be_bytes w32 (take 4 bytes), drop 4 bytes) = rw (le-ltb (length bytes) 4 (omega (arith, long))) refl in
    let left = length-drop 4 bytes in
    let page : piece_at 4096 (drop 4 bytes) ≡ Some (take 4096 (drop 4 bytes), drop 4096 (drop 4 bytes)) = rw (le-ltb (length (drop 4 bytes)) 4096 (omega (arith, long, left))) refl in
    ((record { number = from_be_bytes w32 (take 4 bytes); bytes = take 4096 (drop 4 bytes) }, drop 4096 (drop 4 bytes)), rw (number, page) refl, omega (arith, long, left, length-drop 4096 (drop 4 bytes)))

no_page : page_at [] ≡ None
unfolding page_at
no_page = refl

pub pages_count : (n : ℕ) (bytes : List ℕ) → length bytes ≡ 4100 * n → length (items_of page_at bytes) ≡ n
pages_count zero [] len = ap length (items_none page_at page_shortens [] no_page)
pages_count zero (b ∷ bytes) len = absurd (omega (arith, len))
pages_count (suc n) bytes len =
    let p = page_some bytes (omega (arith, len)) in
    let more = pages_count n p.0.1 (omega (arith, len, p.2)) in
    ap length (items_some page_at page_shortens bytes p.0 p.1) ∙ ap suc more

four : (a b c d rest : List ℕ) → (a ++ b ++ c ++ d) ++ rest ≡ a ++ (b ++ (c ++ (d ++ rest)))
four a b c d rest = simp append_assoc

pub reads_keep : Reads keep_at keep_bytes FitsKeep
unfolding keep_at keep_bytes
reads_keep = record {
  front = λ bytes p fits e.
      let a = next reads_64 bytes [] bytes (start bytes fits) _ p e in
      let b = next (reads_sized reads_32) bytes _ _ a.1 _ p a.3 in
      let c = next reads_32 bytes _ _ b.1 _ p b.3 in
      let d = next (reads_piece (4100 * c.0.0)) bytes _ _ c.1 _ p c.3 in
      let k = kept_some (nat_le (length b.0.0) longest_head) (record { seq = a.0.0; head = b.0.0; pages = d.0.0 }, d.0.1) p d.3 in
      let count = pages_count c.0.0 d.0.0 d.2 in
      let text : Front bytes (keep_bytes (record { seq = a.0.0; head = b.0.0; pages = d.0.0 })) d.0.1 = subst (λ (n : ℕ). Front bytes (be w64 a.0.0 ++ sized_bytes (be w32) b.0.0 ++ be w32 n ++ d.0.0) d.0.1) (sym count) d.1 in
      subst (λ (q : KeepData × List ℕ). Front bytes (keep_bytes q.0) q.1 × FitsKeep q.0) k.1
      (text, record { seq = a.2; head = leb-true _ _ k.0; pages = (c.0.0, c.2, d.2) });
  again = λ k rest fits.
      let n = fits.pages in
      let count : length (pages_of k) ≡ n.0 = pages_count n.0 k.pages n.2 in
      let head : length k.head < 2 ^ 32 = let h = fits.head in omega (arith, h) in
      let regrouped : keep_bytes k ++ rest ≡ be w64 k.seq ++ (sized_bytes (be w32) k.head ++ (be w32 n.0 ++ (k.pages ++ rest))) =
      four (be w64 k.seq) (sized_bytes (be w32) k.head) (be w32 (length (pages_of k))) k.pages rest ∙ ap (λ (m : ℕ). be w64 k.seq ++ (sized_bytes (be w32) k.head ++ (be w32 m ++ (k.pages ++ rest)))) count in
      ap keep_at regrouped ∙ goes reads_64 k.seq _ _ fits.seq ∙ goes (reads_sized reads_32) k.head _ _ head ∙ goes reads_32 n.0 _ _ n.1 ∙ goes (reads_piece (4100 * n.0)) k.pages _ _ n.2 ∙ rw (le-leb _ _ fits.head) refl;
}

-- ---- parts

-- behind the byte that tells which
body_front : (tag : ℕ) (bytes : List ℕ) (p : Part × List ℕ) → IsBytes bytes → body_at tag bytes ≡ Some p → (rest : List ℕ) → rest ≡ bytes → Front (tag ∷ bytes) (part_bytes p.0) p.1 × FitsPart p.0
unfolding part_bytes
body_front tag bytes p fits e rest is = one (tag == 1) refl e
  where
    tagged : (t : ℕ) (text behind : List ℕ) → tag ≡ t → Front bytes text behind → Front (tag ∷ bytes) (t ∷ text) behind
    tagged t text behind same f = record { parts = ap (λ (n : ℕ). n ∷ bytes) same ∙ ap (λ (l : List ℕ). t ∷ l) f.parts; rest_fits = f.rest_fits }

    entry_is : (o : Option (FrameData × List ℕ)) → frame_at bytes ≡ o → tag ≡ 1 → option_map (λ f. (entry f.0, f.1)) o ≡ Some p → Front (tag ∷ bytes) (part_bytes p.0) p.1 × FitsPart p.0
    entry_is None read same h = absurd cc
    entry_is (Some f) read same h =
        let g : (entry f.0, f.1) ≡ p = cc in
        let r = reads_frame.front bytes f fits read in
        subst (λ (q : Part × List ℕ). Front (tag ∷ bytes) (part_bytes q.0) q.1 × FitsPart q.0) g (tagged 1 (frame_bytes f.0) f.1 same r.0, r.1)

    keep_is : (o : Option (KeepData × List ℕ)) → keep_at bytes ≡ o → tag ≡ 3 → option_map (λ k. (keep k.0, k.1)) o ≡ Some p → Front (tag ∷ bytes) (part_bytes p.0) p.1 × FitsPart p.0
    keep_is None read same h = absurd cc
    keep_is (Some k) read same h =
        let g : (keep k.0, k.1) ≡ p = cc in
        let r = reads_keep.front bytes k fits read in
        subst (λ (q : Part × List ℕ). Front (tag ∷ bytes) (part_bytes q.0) q.1 × FitsPart q.0) g (tagged 3 (keep_bytes k.0) k.1 same r.0, r.1)

    three : (b : Bool) → (tag == 3) ≡ b → cond b (option_map (λ k. (keep k.0, k.1)) (keep_at bytes)) None ≡ Some p → Front (tag ∷ bytes) (part_bytes p.0) p.1 × FitsPart p.0
    three true t h = keep_is (keep_at bytes) refl (eqb-true tag 3 t) h
    three false t h = absurd cc

    two : (b : Bool) → (tag == 2) ≡ b → cond b (Some (seal, bytes)) (cond (tag == 3) (option_map (λ k. (keep k.0, k.1)) (keep_at bytes)) None) ≡ Some p → Front (tag ∷ bytes) (part_bytes p.0) p.1 × FitsPart p.0
    two true t h =
        let g : (seal, bytes) ≡ p = cc in
        subst (λ (q : Part × List ℕ). Front (tag ∷ bytes) (part_bytes q.0) q.1 × FitsPart q.0) g (tagged 2 [] bytes (eqb-true tag 2 t) (start bytes fits), tt)
    two false t h = three (tag == 3) refl h

    one : (b : Bool) → (tag == 1) ≡ b → cond b (option_map (λ f. (entry f.0, f.1)) (frame_at bytes)) (cond (tag == 2) (Some (seal, bytes)) (cond (tag == 3) (option_map (λ k. (keep k.0, k.1)) (keep_at bytes)) None)) ≡ Some p → Front (tag ∷ bytes) (part_bytes p.0) p.1 × FitsPart p.0
    one true t h = entry_is (frame_at bytes) refl (eqb-true tag 1 t) h
    one false t h = two (tag == 2) refl h

shown : (b : ℕ) (rest : List ℕ) → one b ++ rest ≡ b ∷ rest
unfolding one
shown b rest = refl

part_again : (x : Part) (rest : List ℕ) → FitsPart x → part_at (part_bytes x ++ rest) ≡ Some (x, rest)
unfolding part_at part_bytes
part_again (entry f) rest fits = rw (reads_frame.again f rest fits) refl
part_again seal rest fits = refl
part_again (keep k) rest fits = rw (reads_keep.again k rest fits) refl

pub reads_part : Reads part_at part_bytes FitsPart
unfolding part_at
reads_part = record {
  front = λ bytes p fits e.
      let a = next reads_byte bytes [] bytes (start bytes fits) _ p e in
      let f = body_front a.0.0 a.0.1 p a.1.rest_fits a.3 a.0.1 refl in
      let is : bytes ≡ a.0.0 ∷ a.0.1 = a.1.parts ∙ shown a.0.0 a.0.1 in
      (record { parts = is ∙ f.0.parts; rest_fits = f.0.rest_fits }, f.1);
  again = λ x rest fits. part_again x rest fits;
}

-- ---- the parts of a record

pub parts_read : (items : List ℕ) (ps : List Part) → IsBytes items → all_at part_at items ≡ Some ps → (items ≡ parts_bytes ps) × All FitsPart ps
parts_read items ps fits e = all_front part_at part_bytes FitsPart reads_part part_shortens items ps fits e

pub parts_again : (ps : List Part) → All FitsPart ps → all_at part_at (parts_bytes ps) ≡ Some ps
parts_again ps fits = all_again part_at part_bytes FitsPart reads_part part_shortens ps fits
