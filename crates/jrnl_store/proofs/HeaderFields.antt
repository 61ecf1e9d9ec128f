-- The head and the pages of a journal's header on its disk.
use Rattle.std.proofs.Common.{◌≡◌, ℕ, ◌+◌, ◌*◌, ◌≤◌, ◌∙◌, ap, subst, Option, None, Some, IfSome, List, ◌∷◌, ◌++◌, length, take, drop, arith, append_assoc, append-nil}
use Rattle.std.proofs.lemmas.List.{drop_all}
use Rattle.avm_num.specs.Room.{Buffer, with_bytes}
use Rattle.avm_model.specs.Memory.{put_at}
use Rattle.journal_model.specs.Header.{header_at}
use Rattle.journal_model.specs.Journal.{JournalData, count_or_zero}
use Rattle.journal_model.specs.Standing.{Bounds}
use Rattle.jrnl_part.specs.Places.{HeaderStands}
use Rattle.jrnl_part.proofs.Places.{header_places}
use Rattle.jrnl_store.specs.Kept.{Kept}
use Rattle.jrnl_store.specs.Own.{IsAt}

module _ (k : Kept) (was : List ℕ) (j : JournalData) (o : IsAt k was j) where
  more : List ℕ
  more = o.base.tail ++ o.read.0 ∷ o.read.1

  stands : HeaderStands j.header was more
  unfolding more
  stands =
      let whole : was ≡ o.base.header ++ more = o.read.2 ∙ ap (λ (l : List ℕ). l ++ o.read.0 ∷ o.read.1) o.base.read ∙ append_assoc o.base.header o.base.tail (o.read.0 ∷ o.read.1) in
      header_places was (j.header, more) (ap header_at whole ∙ o.base.reads more)

  pages_are : k.bounds.pages ≡ stands.fields.count
  pages_are = ap (λ (b : Bounds). b.pages) o.keeps.bounds ∙ ap count_or_zero stands.fields.count_is

  head_is : (buffer : List ℕ) → (113 + k.head_len ≤ length was → take k.head_len buffer ≡ take k.head_len (drop 113 was)) → take k.head_len buffer ≡ j.header.head
  head_is buffer read =
      let f = stands.fields in
      let len = o.keeps.head_len in
      read (omega (arith, f.size, len)) ∙ ap (λ (n : ℕ). take n (drop 113 was)) len ∙ f.head

  pages_is : (buffer : List ℕ) → (113 + k.head_len + 4096 * k.bounds.pages ≤ length was → take (4096 * k.bounds.pages) buffer ≡ take (4096 * k.bounds.pages) (drop (113 + k.head_len) was)) → take (4096 * k.bounds.pages) buffer ≡ j.header.pages
  pages_is buffer read =
      let f = stands.fields in
      let len = o.keeps.head_len in
      read (omega (arith, f.size, len, f.pages_len, pages_are)) ∙ ap (λ (n : ℕ). take (4096 * k.bounds.pages) (drop (113 + n) was)) len ∙ ap (λ (n : ℕ). take (4096 * n) (drop (113 + length j.header.head) was)) pages_are ∙ f.pages

pub head_told : (told : Option (List ℕ)) (k : Kept) (buffer slice : List ℕ) (out new : Buffer) → slice ≡ take k.head_len buffer → new ≡ with_bytes out slice
    → IfSome told (λ was. 113 + k.head_len ≤ length was → take k.head_len buffer ≡ take k.head_len (drop 113 was)) → IfSome told (λ was. (j : JournalData) → IsAt k was j → new ≡ with_bytes out j.header.head)
head_told None k buffer slice out new is value read = tt
head_told (Some was) k buffer slice out new is value read = λ j o. value ∙ ap (with_bytes out) (is ∙ head_is k was j o buffer read)

-- a piece as long as the bytes takes their place
put_all : (bytes piece : List ℕ) → length piece ≡ length bytes → put_at bytes 0 piece ≡ piece
put_all bytes piece len = ap (λ (l : List ℕ). piece ++ l) (drop_all (0 + length piece) bytes (omega (arith, len))) ∙ append-nil piece

pub pages_told : (told : Option (List ℕ)) (k : Kept) (size : ℕ) (buffer slice bytes new : List ℕ) → size ≡ 4096 * k.bounds.pages → slice ≡ take size buffer → length slice ≡ length bytes → new ≡ put_at bytes 0 slice
    → IfSome told (λ was. 113 + k.head_len + size ≤ length was → take size buffer ≡ take size (drop (113 + k.head_len) was)) → IfSome told (λ was. (j : JournalData) → IsAt k was j → new ≡ j.header.pages)
pages_told None k size buffer slice bytes new size_is is len value read = tt
pages_told (Some was) k size buffer slice bytes new size_is is len value read = λ j o.
    let here = subst (λ (n : ℕ). 113 + k.head_len + n ≤ length was → take n buffer ≡ take n (drop (113 + k.head_len) was)) size_is read in
    value ∙ put_all bytes slice len ∙ is ∙ ap (λ (n : ℕ). take n buffer) size_is ∙ pages_is k was j o buffer here
