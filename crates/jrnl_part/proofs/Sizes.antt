-- How many bytes parts, headers and marks have.
use Rattle.std.proofs.Common.{◌≡◌, ℕ, zero, suc, ◌+◌, ◌*◌, ◌==◌, Bool, true, false, cond, List, [], ◌∷◌, ◌++◌, length, Option, Some, None, option_map, is_some, refl, sym, ◌∙◌, ap, subst, arith, length-append}
use Rattle.std.specs.Int.{w32, w64}
use Rattle.avm_num.specs.Bytes.{number_at, piece_at, byte_at}
use Rattle.avm_num.specs.Lists.{be, one, sized_at, sized_bytes, list_at, list_bytes}
use Rattle.avm_num.specs.Walk.{Reader, walk, walked, items_of, behind_of, is_nil, all_at}
use Rattle.avm_num.proofs.Numbers.{bind_some, kept_some}
use Rattle.avm_num.proofs.Lengths.{number_rest, piece_rest, byte_rest, piece_length, be32, be64, one1}
use Rattle.avm_model.specs.Content.{content_at}
use Rattle.avm_model.specs.Frame.{FrameData, frame_at, frame_bytes}
use Rattle.avm_model.specs.Parts.{ordinal_at}
use Rattle.avm_model.proofs.PartLengths.{ordinal_rest}
use Rattle.journal_model.specs.Part.{Part, entry, seal, keep, KeepData, pages_of, keep_at, part_at}
use Rattle.journal_model.specs.Spelling.{part_bytes, parts_bytes, keep_bytes}

-- what is read has as many bytes as its spelling
abbrev pub IsExact : {A : Type 0} → Reader A → (A → List ℕ) → Type 0
IsExact {A} read spell = (bytes : List ℕ) (p : A × List ℕ) → read bytes ≡ Some p → length (spell p.0) + length p.1 ≡ length bytes

-- sums of lengths
pub three : (a b c : List ℕ) → length (a ++ b ++ c) ≡ length a + length b + length c
three a b c = omega (arith, length-append (a ++ b) c, length-append a b)

four : (a b c d : List ℕ) → length (a ++ b ++ c ++ d) ≡ length a + length b + length c + length d
four a b c d = omega (arith, length-append (a ++ b ++ c) d, three a b c)

pub nine : (a b c d e f g h i : List ℕ) → length (a ++ b ++ c ++ d ++ e ++ f ++ g ++ h ++ i) ≡ length a + length b + length c + length d + length e + length f + length g + length h + length i
nine a b c d e f g h i = omega (arith, length-append (a ++ b ++ c ++ d ++ e ++ f ++ g ++ h) i, length-append (a ++ b ++ c ++ d ++ e ++ f ++ g) h, length-append (a ++ b ++ c ++ d ++ e ++ f) g, length-append (a ++ b ++ c ++ d ++ e) f, length-append (a ++ b ++ c ++ d) e, four a b c d)

pub sized_size : (piece : List ℕ) → length (sized_bytes (be w32) piece) ≡ 4 + length piece
sized_size piece = omega (arith, length-append (be w32 (length piece)) piece, be32 (length piece))

sized_exact : IsExact (sized_at (number_at w32)) (sized_bytes (be w32))
sized_exact bytes p e =
    let a = bind_some (number_at w32 bytes) _ p e in
    omega (arith, number_rest w32 bytes a.0 a.1, piece_rest a.0.0 a.0.1 p a.2, piece_length a.0.0 a.0.1 p a.2, sized_size p.0)

frame_exact : IsExact frame_at frame_bytes
unfolding frame_at frame_bytes
frame_exact bytes p e =
    let a = bind_some (ordinal_at bytes) _ p e in
    let b = bind_some (byte_at a.0.1) _ p a.2 in
    let c = bind_some (sized_at (number_at w32) b.0.1) _ p b.2 in
    let f : FrameData = record { seq = a.0.0; kind = b.0.0; content = c.0.0 } in
    let k = kept_some (is_some (content_at b.0.0 c.0.0)) (f, c.0.1) p c.2 in
    let content = sized_bytes (be w32) c.0.0 in
    let size : length (be w64 a.0.0 ++ one b.0.0 ++ content) ≡ 9 + length content = omega (arith, three (be w64 a.0.0) (one b.0.0) content, be64 a.0.0, one1 b.0.0) in
    let here : length (be w64 a.0.0 ++ one b.0.0 ++ content) + length c.0.1 ≡ length bytes = omega (arith, size, ordinal_rest bytes a.0 a.1, byte_rest a.0.1 b.0 b.1, sized_exact b.0.1 c.0 c.1) in
    subst (λ (q : FrameData × List ℕ). length (be w64 q.0.seq ++ one q.0.kind ++ sized_bytes (be w32) q.0.content) + length q.1 ≡ length bytes) k.1 here

keep_exact : IsExact keep_at keep_bytes
unfolding keep_at keep_bytes
keep_exact bytes p e =
    let a = bind_some (number_at w64 bytes) _ p e in
    let b = bind_some (sized_at (number_at w32) a.0.1) _ p a.2 in
    let c = bind_some (number_at w32 b.0.1) _ p b.2 in
    let d = bind_some (piece_at (4100 * c.0.0) c.0.1) _ p c.2 in
    let kept_data : KeepData = record { seq = a.0.0; head = b.0.0; pages = d.0.0 } in
    let k = kept_some _ (kept_data, d.0.1) p d.2 in
    let head = sized_bytes (be w32) b.0.0 in
    let count = be w32 (length (pages_of kept_data)) in
    let size : length (be w64 a.0.0 ++ head ++ count ++ d.0.0) ≡ 12 + length head + length d.0.0 =
    omega (arith, four (be w64 a.0.0) head count d.0.0, be64 a.0.0, be32 (length (pages_of kept_data))) in
    let here : length (be w64 a.0.0 ++ head ++ count ++ d.0.0) + length d.0.1 ≡ length bytes =
    omega (arith, size, number_rest w64 bytes a.0 a.1, sized_exact a.0.1 b.0 b.1, number_rest w32 b.0.1 c.0 c.1, piece_rest (4100 * c.0.0) c.0.1 d.0 d.1, piece_length (4100 * c.0.0) c.0.1 d.0 d.1) in
    subst (λ (q : KeepData × List ℕ). length (be w64 q.0.seq ++ sized_bytes (be w32) q.0.head ++ be w32 (length (pages_of q.0)) ++ q.0.pages) + length q.1 ≡ length bytes) k.1 here

pub part_exact : IsExact part_at part_bytes
unfolding part_at part_bytes
part_exact bytes p e = let a = bind_some (byte_at bytes) _ p e in let r = byte_rest bytes a.0 a.1 in one (a.0.0 == 1) (a.0.0 == 2) (a.0.0 == 3) a.0.1 r a.2
  where
    entry_is : (rest : List ℕ) → length rest + 1 ≡ length bytes → (o : Option (FrameData × List ℕ)) → frame_at rest ≡ o → option_map (λ f. (entry f.0, f.1)) o ≡ Some p → length (part_bytes p.0) + length p.1 ≡ length bytes
    entry_is rest r None e h = absurd cc
    entry_is rest r (Some f) e h = let g : (entry f.0, f.1) ≡ p = cc in subst (λ (q : Part × List ℕ). length (part_bytes q.0) + length q.1 ≡ length bytes) g (omega (arith, r, frame_exact rest f e))

    keep_is : (rest : List ℕ) → length rest + 1 ≡ length bytes → (o : Option (KeepData × List ℕ)) → keep_at rest ≡ o → option_map (λ k. (keep k.0, k.1)) o ≡ Some p → length (part_bytes p.0) + length p.1 ≡ length bytes
    keep_is rest r None e h = absurd cc
    keep_is rest r (Some k) e h = let g : (keep k.0, k.1) ≡ p = cc in subst (λ (q : Part × List ℕ). length (part_bytes q.0) + length q.1 ≡ length bytes) g (omega (arith, r, keep_exact rest k e))

    one : (x y z : Bool) (rest : List ℕ) → length rest + 1 ≡ length bytes → cond x (option_map (λ f. (entry f.0, f.1)) (frame_at rest)) (cond y (Some (seal, rest)) (cond z (option_map (λ k. (keep k.0, k.1)) (keep_at rest)) None)) ≡ Some p → length (part_bytes p.0) + length p.1 ≡ length bytes
    one true y z rest r h = entry_is rest r (frame_at rest) refl h
    one false true z rest r h = let g : (seal, rest) ≡ p = cc in subst (λ (q : Part × List ℕ). length (part_bytes q.0) + length q.1 ≡ length bytes) g (omega (arith, r))
    one false false true rest r h = keep_is rest r (keep_at rest) refl h
    one false false false rest r h = absurd cc

-- ---- one after another

module _ {A : Type 0} (read : Reader A) (spell : A → List ℕ) (exact : IsExact read spell) where
  walk_size : (n : ℕ) (bytes : List ℕ) → length (list_bytes spell (walk read n bytes).0) + length (walk read n bytes).1 ≡ length bytes
  walk_size zero bytes = omega arith
  walk_size (suc n) bytes = go (read bytes) refl (walk_size n)
    where
      go : (r : Option (A × List ℕ)) → read bytes ≡ r → ((rest : List ℕ) → length (list_bytes spell (walk read n rest).0) + length (walk read n rest).1 ≡ length rest)
          → length (list_bytes spell (walked r bytes (walk read n)).0) + length (walked r bytes (walk read n)).1 ≡ length bytes
      go None e all = omega arith
      go (Some p) e all = omega (arith, all p.1, exact bytes p e, length-append (spell p.0) (list_bytes spell (walk read n p.1).0))

  pub all_size : (bytes : List ℕ) (xs : List A) → all_at read bytes ≡ Some xs → length (list_bytes spell xs) ≡ length bytes
  unfolding items_of behind_of
  all_size bytes xs e =
      let k = kept_some (is_nil (behind_of read bytes)) (items_of read bytes) xs e in
      let w = walk_size (length bytes) bytes in
      let none : length (behind_of read bytes) ≡ 0 = empty (behind_of read bytes) k.0 in
      ap (λ (l : List A). length (list_bytes spell l)) (sym k.1) ∙ omega (arith, w, none)
    where
      empty : (l : List ℕ) → is_nil l ≡ true → length l ≡ 0
      empty [] e = refl
      empty (b ∷ l) e = absurd cc

  pub list_size : (n : ℕ) (bytes : List ℕ) (p : List A × List ℕ) → list_at read n bytes ≡ Some p → length (list_bytes spell p.0) + length p.1 ≡ length bytes
  unfolding list_at
  list_size zero bytes p e = let g : ([], bytes) ≡ p = cc in subst (λ (q : List A × List ℕ). length (list_bytes spell q.0) + length q.1 ≡ length bytes) g (omega arith)
  list_size (suc n) bytes p e =
      let a = bind_some (read bytes) _ p e in
      let b = bind_some (list_at read n a.0.1) _ p a.2 in
      let g : (a.0.0 ∷ b.0.0, b.0.1) ≡ p = cc in
      subst (λ (q : List A × List ℕ). length (list_bytes spell q.0) + length q.1 ≡ length bytes) g (omega (arith, exact bytes a.0 a.1, list_size n a.0.1 b.0 b.1, length-append (spell a.0.0) (list_bytes spell b.0.0)))

-- parts that are all of some bytes
pub parts_size : (items : List ℕ) (ps : List Part) → all_at part_at items ≡ Some ps → length (parts_bytes ps) ≡ length items
parts_size items ps e = all_size part_at part_bytes part_exact items ps e

pub frame_is_exact : IsExact frame_at frame_bytes
frame_is_exact = frame_exact
