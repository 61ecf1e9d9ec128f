-- A base in its pieces.
use Rattle.std.proofs.Common.{◌≡◌, ℕ, List, [], ◌∷◌, ◌++◌, refl, sym, ap, ◌∙◌, append_assoc, append-nil}
use Rattle.std.specs.Int.{w32, w64}
use Rattle.avm_num.specs.Lists.{be, one, sized_bytes}
use Rattle.journal_model.specs.Header.{HeaderData, journal_magic}
use Rattle.journal_model.specs.Part.{Part}
use Rattle.journal_model.specs.Spelling.{front_bytes, header_bytes, spelled}
use Rattle.base_write.specs.Headers.{IsHeader, records_bytes, unmarked}
use Rattle.base_write.specs.declared.header.BaseHeader.{BaseHeader}

abbrev spelling : (key before head pages carried : List ℕ) (first leaves count : ℕ) → List ℕ
spelling key before head pages carried first leaves count =
    journal_magic ++ one 2 ++ key ++ be w64 first ++ before ++ be w64 leaves ++ sized_bytes (be w32) head ++ pages ++ (one count ++ carried)

header_is : (v : BaseHeader) (h : HeaderData) → IsHeader v h → header_bytes h ≡ spelling v.key.now v.before.0 v.head.now v.pages.now v.carried.now v.first v.leaves v.count
unfolding header_bytes
header_is v h i = rw (i.key, i.first, i.before, i.leaves, i.head, i.pages, i.count, i.carried, i.later) refl

pub pieces_are : (v : BaseHeader) (h : HeaderData) (old mid new : List ℕ) → IsHeader v h → mid ≡ old ++ (journal_magic ++ one 2 ++ v.key.now ++ be w64 v.first ++ v.before.0 ++ be w64 v.leaves)
    → new ≡ mid ++ (sized_bytes (be w32) v.head.now ++ v.pages.now ++ (one v.count ++ v.carried.now)) → new ≡ old ++ header_bytes h
unfolding header_bytes
pieces_are v h old mid new i a b =
    let front = journal_magic ++ one 2 ++ v.key.now ++ be w64 v.first ++ v.before.0 ++ be w64 v.leaves in
    let size = sized_bytes (be w32) v.head.now in
    let rest = one v.count ++ v.carried.now in
    b ∙ ap (λ (l : List ℕ). l ++ (size ++ v.pages.now ++ rest)) a ∙ append_assoc old front (size ++ v.pages.now ++ rest)
    ∙ ap (λ (l : List ℕ). old ++ l) (sym (append_assoc front (size ++ v.pages.now) rest) ∙ ap (λ (l : List ℕ). l ++ rest) (sym (append_assoc front size v.pages.now)) ∙ sym (header_is v h i))

pub base_is : (h : HeaderData) (rs : List (List Part)) (front records whole : List ℕ) → front ≡ [] ++ header_bytes h → records ≡ records_bytes rs → whole ≡ front ++ records ++ 0 ∷ [] → whole ≡ spelled (unmarked h rs)
unfolding spelled front_bytes
base_is h rs front records whole a b c =
    c ∙ ap (λ (l : List ℕ). l ++ records ++ 0 ∷ []) a ∙ ap (λ (l : List ℕ). header_bytes h ++ l ++ 0 ∷ []) b ∙ ap (λ (l : List ℕ). l ++ 0 ∷ []) (sym (append-nil (header_bytes h ++ records_bytes rs)))
