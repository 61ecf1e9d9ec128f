-- A free spare is no journal's.
use Rattle.std.proofs.Common.{◌≡◌, ℕ, ◌==◌, false, inl, inr, List, ◌∷◌, ◌++◌, length, take, drop, ltb, take-append-drop, get_or, Option, Some, None, refl, sym, ap, subst, ◌∙◌, arith}
use Rattle.std.specs.Str.{bytes_eq}
use Rattle.std.proofs.lemmas.Slice.Eq.{bytes_eq-Decides}
use Rattle.avm_num.specs.Bytes.{piece_at}
use Rattle.avm_num.proofs.Numbers.{bind_some, kept_some, short_some}
use Rattle.avm_num.proofs.Locals.{local_piece}
use Rattle.journal_model.specs.Header.{HeaderData, journal_magic, magic_at, header_at}
use Rattle.journal_model.specs.Journal.{JournalData, journal_of, behind_header, Is}
use Rattle.base_model.specs.Spare.{first_byte, IsFree, IsJournal}

-- a header begins with its four bytes
header_begins : (c : List ℕ) (h : HeaderData × List ℕ) → header_at c ≡ Some h → (rest : List ℕ) × (c ≡ 0x41 ∷ 0x56 ∷ 0x4d ∷ 0x4a ∷ rest)
unfolding header_at magic_at
header_begins c h e =
    let a = bind_some (magic_at c) _ h e in
    let b = bind_some (piece_at 4 c) _ a.0 a.1 in
    let k = kept_some (bytes_eq b.0.0 journal_magic) (tt, b.0.1) a.0 b.2 in
    let t = (local_piece 4).again c b.0 b.1 in
    let g = short_some (ltb (length c) 4) (take 4 c, drop 4 c) b.0 b.1 in
    let front : b.0.0 ≡ take 4 c = sym (ap (λ (q : List ℕ × List ℕ). q.0) g.1) in
    let rest : b.0.1 ≡ drop 4 c = sym (ap (λ (q : List ℕ × List ℕ). q.1) g.1) in
    let magic : b.0.0 ≡ journal_magic = (bytes_eq-Decides b.0.0 journal_magic).0 k.0 in
    (drop 4 c, sym (take-append-drop 4 c) ∙ ap (λ (x : List ℕ). x ++ drop 4 c) (sym front ∙ magic))

behind_some : (len : ℕ) (r : Option (HeaderData × List ℕ)) (j : JournalData) → behind_header len r ≡ Is j → (h : HeaderData × List ℕ) × (r ≡ Some h)
behind_some len None j e = absurd cc
behind_some len (Some h) j e = (h, refl)

pub never_both : (c rest : List ℕ) → c ≡ 0x41 ∷ 0x56 ∷ 0x4d ∷ 0x4a ∷ rest → IsFree c → ⊥
never_both c rest is (inl short) = let n : length c ≡ length (0x41 ∷ 0x56 ∷ 0x4d ∷ 0x4a ∷ rest) = ap length is in omega (arith, n, short)
never_both c rest is (inr blank) =
    let g : blank.0 ≡ first_byte = ap (λ (l : List ℕ). get_or l 0 0) (sym blank.2 ∙ is) in
    let f : (first_byte == first_byte) ≡ false = subst (λ (x : ℕ). (x == first_byte) ≡ false) g blank.3 in
    absurd (never f)
  where
    never : (first_byte == first_byte) ≡ false → ⊥
    never e = absurd cc

pub free_never : (c : List ℕ) → IsFree c → IsJournal c → ⊥
unfolding journal_of
free_never c free is =
    let h = behind_some (length c) (header_at c) is.0 is.1 in
    let b = header_begins c h.0 h.1 in
    never_both c b.0 b.1 free
