-- Parts are read as they are spelled.
use Rattle.std.proofs.Common.{◌≡◌, ℕ, zero, suc, ◌+◌, ◌*◌, ◌^◌, ◌<◌, ◌≤◌, Bool, true, false, cond, ◌==◌, nat_le, List, [], ◌∷◌, ◌++◌, length, take, drop, Option, Some, None, option_map, refl, sym, ap, subst, ◌∙◌, append_assoc, arith, eqb-true, leb-true, le-leb}
use Rattle.std.proofs.lemmas.Bool.{le-ltb}
use Rattle.std.specs.Int.{w32, w64, from_be_bytes}
use Rattle.avm_num.specs.Bytes.{IsBytes, number_at, piece_at}
use Rattle.avm_num.specs.Lists.{be, one, sized_at, sized_bytes}
use Rattle.avm_num.specs.Walk.{items_of}
use Rattle.avm_num.proofs.Fields.{Reads, start, next, goes, reads_32, reads_64, reads_byte, reads_piece, reads_sized}
use Rattle.avm_num.proofs.Lengths.{number_rest, piece_rest}
use Rattle.avm_num.proofs.Numbers.{Front, Front-then, kept_some}
use Rattle.avm_num.proofs.Walks.{Shortens, items_some, items_count}
use Rattle.avm_model.specs.Frame.{frame_at, frame_bytes}
use Rattle.journal_model.proofs.Parts.{page_short}
use Rattle.journal_model.specs.Part.{Part, entry, seal, keep, KeepData, PageData, keep_at, longest_head, page_at, pages_of, part_at}
use Rattle.journal_model.specs.Spelling.{keep_bytes, part_bytes}
use Rattle.log_entry.proofs.FrameLaws.{reads_frame}
use Rattle.record_batch.specs.Spelled.{FitsKeep, FitsPart}

pub page_shortens : Shortens page_at
page_shortens = record { short = page_short }

-- ---- so many pages stand in so many bytes

record PageThere (bytes : List ℕ) : Type 0 where
  page : PageData
  rest : List ℕ
  at : page_at bytes ≡ Some (page, rest)
  len : length rest + 4100 ≡ length bytes

page_there : (bytes : List ℕ) → 4100 ≤ length bytes → PageThere bytes
unfolding page_at
page_there bytes long =
    let e1 : number_at w32 bytes ≡ Some (from_be_bytes w32 (take 4 bytes), drop 4 bytes) = rw (le-ltb (length bytes) 4 (omega arith)) refl in
    let l1 : length (drop 4 bytes) + 4 ≡ length bytes = number_rest w32 bytes _ e1 in
    let e2 : piece_at 4096 (drop 4 bytes) ≡ Some (take 4096 (drop 4 bytes), drop 4096 (drop 4 bytes)) = rw (le-ltb (length (drop 4 bytes)) 4096 (omega (arith, l1))) refl in
    let l2 : length (drop 4096 (drop 4 bytes)) + 4096 ≡ length (drop 4 bytes) = piece_rest 4096 (drop 4 bytes) _ e2 in
    record {
      page = record { number = from_be_bytes w32 (take 4 bytes); bytes = take 4096 (drop 4 bytes) };
      rest = drop 4096 (drop 4 bytes);
      at = rw (e1, e2) refl;
      len = omega (arith, l1, l2);
    }

pub pages_count : (n : ℕ) (bytes : List ℕ) → length bytes ≡ 4100 * n → length (items_of page_at bytes) ≡ n
pages_count zero bytes e = let h = items_count page_at page_shortens bytes in omega (arith, h)
pages_count (suc n) bytes e =
    let p = page_there bytes (omega arith) in
    let ih = pages_count n p.rest (omega (arith, p.len)) in
    ap length (items_some page_at page_shortens bytes (p.page, p.rest) p.at) ∙ omega (arith, ih)

-- ---- keeps

reads_keep : Reads keep_at keep_bytes FitsKeep
unfolding keep_at keep_bytes
reads_keep = record {
  front = λ bytes p fits e.
      let a = next reads_64 bytes [] bytes (start bytes fits) _ p e in
      let b = next (reads_sized reads_32) bytes _ _ a.1 _ p a.3 in
      let c = next reads_32 bytes _ _ b.1 _ p b.3 in
      let d = next (reads_piece (4100 * c.0.0)) bytes _ _ c.1 _ p c.3 in
      let k = kept_some (nat_le (length b.0.0) longest_head) (record { seq = a.0.0; head = b.0.0; pages = d.0.0 }, d.0.1) p d.3 in
      let count : length (items_of page_at d.0.0) ≡ c.0.0 = pages_count c.0.0 d.0.0 d.2 in
      let front = subst (λ (n : ℕ). Front bytes (be w64 a.0.0 ++ sized_bytes (be w32) b.0.0 ++ be w32 n ++ d.0.0) d.0.1) (sym count) d.1 in
      subst (λ (q : KeepData × List ℕ). Front bytes (keep_bytes q.0) q.1 × FitsKeep q.0) k.1
      (front, record { seq = a.2; head = leb-true _ _ k.0; few = subst (λ (n : ℕ). n < 2 ^ 32) (sym count) c.2; pages = d.2 ∙ ap (λ (n : ℕ). 4100 * n) (sym count) });
  again = λ k rest fits.
      let regrouped : keep_bytes k ++ rest ≡ be w64 k.seq ++ (sized_bytes (be w32) k.head ++ (be w32 (length (pages_of k)) ++ (k.pages ++ rest))) = simp append_assoc in
      ap keep_at regrouped ∙ goes reads_64 k.seq _ _ fits.seq ∙ goes (reads_sized reads_32) k.head _ _ (let h = fits.head in omega (arith, h)) ∙ goes reads_32 (length (pages_of k)) _ _ fits.few
      ∙ goes (reads_piece (4100 * length (pages_of k))) k.pages _ _ fits.pages ∙ rw (le-leb (length k.head) longest_head fits.head) refl;
}

-- ---- parts

behind_tag : (bytes : List ℕ) (tag n : ℕ) (rest text after : List ℕ) → tag ≡ n → Front bytes (one tag) rest → Front rest text after → Front bytes (n ∷ text) after
unfolding one
behind_tag bytes tag n rest text after e p q = subst (λ (m : ℕ). Front bytes (m ∷ text) after) e (Front-then bytes (tag ∷ []) rest text after p q)

some_map : {A : Type 0} (f : A → Part) (o : Option (A × List ℕ)) (p : Part × List ℕ) → option_map (λ x. (f x.0, x.1)) o ≡ Some p → (x : A × List ℕ) × (o ≡ Some x) × ((f x.0, x.1) ≡ p)
some_map f None p e = absurd cc
some_map f (Some x) p e = (x, refl, cc)

abbrev IsFront : List ℕ → Part × List ℕ → Type 0
IsFront bytes q = Front bytes (part_bytes q.0) q.1 × FitsPart q.0

part_front : (bytes : List ℕ) (p : Part × List ℕ) → IsBytes bytes → part_at bytes ≡ Some p → IsFront bytes p
unfolding part_at part_bytes
part_front bytes p fits e = let a = next reads_byte bytes [] bytes (start bytes fits) _ p e in one a.0.0 a.0.1 a.1 (a.0.0 == 1) refl a.3
  where
    three : (tag : ℕ) (rest : List ℕ) → Front bytes (Rattle.avm_num.specs.Lists.one tag) rest → (b : Bool) → (tag == 3) ≡ b → cond b (option_map (λ k. (keep k.0, k.1)) (keep_at rest)) None ≡ Some p → IsFront bytes p
    three tag rest f true t h =
        let m = some_map keep (keep_at rest) p h in
        let k = reads_keep.front rest m.0 f.rest_fits m.1 in
        subst (λ (q : Part × List ℕ). IsFront bytes q) m.2 (behind_tag bytes tag 3 rest (keep_bytes m.0.0) m.0.1 (eqb-true tag 3 t) f k.0, k.1)
    three tag rest f false t h = absurd cc

    two : (tag : ℕ) (rest : List ℕ) → Front bytes (Rattle.avm_num.specs.Lists.one tag) rest → (b : Bool) → (tag == 2) ≡ b → cond b (Some (seal, rest)) (cond (tag == 3) (option_map (λ k. (keep k.0, k.1)) (keep_at rest)) None) ≡ Some p → IsFront bytes p
    two tag rest f true t h =
        let g : (seal, rest) ≡ p = cc in
        subst (λ (q : Part × List ℕ). IsFront bytes q) g (behind_tag bytes tag 2 rest [] rest (eqb-true tag 2 t) f (start rest f.rest_fits), tt)
    two tag rest f false t h = three tag rest f (tag == 3) refl h

    one : (tag : ℕ) (rest : List ℕ) → Front bytes (Rattle.avm_num.specs.Lists.one tag) rest → (b : Bool) → (tag == 1) ≡ b → cond b (option_map (λ f. (entry f.0, f.1)) (frame_at rest)) (cond (tag == 2) (Some (seal, rest)) (cond (tag == 3) (option_map (λ k. (keep k.0, k.1)) (keep_at rest)) None)) ≡ Some p → IsFront bytes p
    one tag rest f true t h =
        let m = some_map entry (frame_at rest) p h in
        let k = reads_frame.front rest m.0 f.rest_fits m.1 in
        subst (λ (q : Part × List ℕ). IsFront bytes q) m.2 (behind_tag bytes tag 1 rest (frame_bytes m.0.0) m.0.1 (eqb-true tag 1 t) f k.0, k.1)
    one tag rest f false t h = two tag rest f (tag == 2) refl h

part_again : (p : Part) (rest : List ℕ) → FitsPart p → part_at (part_bytes p ++ rest) ≡ Some (p, rest)
unfolding part_at part_bytes
part_again (entry f) rest fits = rw (reads_frame.again f rest fits) refl
part_again seal rest fits = refl
part_again (keep k) rest fits = rw (reads_keep.again k rest fits) refl

pub reads_part : Reads part_at part_bytes FitsPart
reads_part = record { front = part_front; again = part_again }
