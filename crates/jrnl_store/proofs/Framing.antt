-- The first entry of a number among what is left.
use Rattle.std.proofs.Common.{◌≡◌, ℕ, refl, sym, ◌∙◌, ap, subst, Option, None, Some, IfSome, List, [], ◌++◌, Ok, append-nil, true, false, is_some, MatchOption, unwrap_or}
use Rattle.avm_model.specs.Frame.{FrameData}
use Rattle.log_entry.specs.Views.{frame_view}
use Rattle.log_entry.specs.declared.frame.Frame.{Frame}
use Rattle.journal_model.specs.Journal.{JournalData, Is, ended}
use Rattle.jrnl_store.specs.Kept.{Kept}
use Rattle.jrnl_store.specs.Own.{IsAt}
use Rattle.jrnl_store.specs.Items.{ItemData, items_in, IsLeft, ItemsAnswers, held_items, frame_numbered}
use Rattle.jrnl_store.specs.declared.cursor.Cursor.{Cursor}
use Rattle.jrnl_store.specs.declared.cursor.Record.{Record}

-- what the loop keeps: a cursor of which what is left tells as the whole journal does
abbrev pub Sofar : Kept → Cursor → ℕ → List ℕ → Type 0
Sofar k c n was = (j : JournalData) → IsAt k was j → ended j ≡ Is j → (left : List ItemData) × IsLeft k was c j left × (frame_numbered n left ≡ frame_numbered n (items_in j))

abbrev pub Given : List ℕ → Kept → Cursor → Cursor → Option Record → List ℕ → Type 0
Given buffer k c new v was = (j : JournalData) (left : List ItemData) → IsAt k was j → ended j ≡ Is j → IsLeft k was c j left → ItemsAnswers buffer k was new j left (Ok v)

pub sofar_first : (told : Option (List ℕ)) (k : Kept) (c : Cursor) (n : ℕ) → ((was : List ℕ) (j : JournalData) → IsAt k was j → IsLeft k was c j (items_in j)) → IfSome told (Sofar k c n)
sofar_first None k c n first = tt
sofar_first (Some was) k c n first = λ j o begun. (items_in j, first was j o, refl)

moved : (told mid : Option (List ℕ)) (k at : Kept) (c new : Cursor) (buffer : List ℕ) (v w : Option Record) → v ≡ w → mid ≡ told → at ≡ k → IfSome mid (Given buffer at c new v) → IfSome told (Given buffer k c new w)
moved told mid k at c new buffer v w is same stays h = subst (λ (x : Option Record). IfSome told (Given buffer k c new x)) is (subst (λ (x : Kept). IfSome told (Given buffer x c new v)) stays (subst (λ (t : Option (List ℕ)). IfSome t (Given buffer at c new v)) same h))

pub frame_found : (told mid : Option (List ℕ)) (k at : Kept) (c new : Cursor) (n : ℕ) (buffer : List ℕ) (v : Option Record) (r : Record) (f : FrameData) → v ≡ Some r → mid ≡ told → at ≡ k → ((rest : List ItemData) → frame_numbered n (held_items buffer r ++ rest) ≡ Some f)
    → IfSome told (Sofar k c n) → IfSome mid (Given buffer at c new v) → IfSome told (λ was. (j : JournalData) → IsAt k was j → ended j ≡ Is j → frame_numbered n (held_items buffer r) ≡ frame_numbered n (items_in j))
frame_found told mid k at c new n buffer v r f is same stays found so_far h = go told so_far (moved told mid k at c new buffer v (Some r) is same stays h)
  where
    go : (t : Option (List ℕ)) → IfSome t (Sofar k c n) → IfSome t (Given buffer k c new (Some r)) → IfSome t (λ was. (j : JournalData) → IsAt k was j → ended j ≡ Is j → frame_numbered n (held_items buffer r) ≡ frame_numbered n (items_in j))
    go None s g = tt
    go (Some was) s g = λ j o begun.
        let l = s j o begun in
        let a = g j l.0 o begun l.1 in
        ap (frame_numbered n) (sym (append-nil (held_items buffer r))) ∙ found [] ∙ sym (ap (frame_numbered n) a.1 ∙ found a.0) ∙ l.2

pub frame_none : (told mid : Option (List ℕ)) (k at : Kept) (c new : Cursor) (n : ℕ) (buffer : List ℕ) (v : Option Record) (given : List ItemData) → given ≡ [] → v ≡ None → mid ≡ told → at ≡ k
    → IfSome told (Sofar k c n) → IfSome mid (Given buffer at c new v) → IfSome told (λ was. (j : JournalData) → IsAt k was j → ended j ≡ Is j → frame_numbered n given ≡ frame_numbered n (items_in j))
frame_none told mid k at c new n buffer v given nothing is same stays so_far h = go told so_far (moved told mid k at c new buffer v None is same stays h)
  where
    go : (t : Option (List ℕ)) → IfSome t (Sofar k c n) → IfSome t (Given buffer k c new None) → IfSome t (λ was. (j : JournalData) → IsAt k was j → ended j ≡ Is j → frame_numbered n given ≡ frame_numbered n (items_in j))
    go None s g = tt
    go (Some was) s g = λ j o begun. let l = s j o begun in ap (frame_numbered n) nothing ∙ sym (ap (frame_numbered n) (g j l.0 o begun l.1)) ∙ l.2

-- what looking through the items of a record tells
pub found_here : (n : ℕ) (items : List ItemData) (given : List ItemData) (r : Option Frame) → given ≡ items → is_some r ≡ true → ((rest : List ItemData) → MatchOption r (frame_numbered n (given ++ rest) ≡ frame_numbered n rest) (λ f. frame_numbered n (given ++ rest) ≡ Some (frame_view f)))
    → (f : FrameData) × ((rest : List ItemData) → frame_numbered n (items ++ rest) ≡ Some f)
found_here n items given None is some all = absurd cc
found_here n items given (Some f) is some all = (frame_view f, λ rest. ap (λ (l : List ItemData). frame_numbered n (l ++ rest)) (sym is) ∙ all rest)

pub not_here : (n : ℕ) (items : List ItemData) (given : List ItemData) (r : Option Frame) → given ≡ items → is_some r ≡ false → ((rest : List ItemData) → MatchOption r (frame_numbered n (given ++ rest) ≡ frame_numbered n rest) (λ f. frame_numbered n (given ++ rest) ≡ Some (frame_view f)))
    → (rest : List ItemData) → frame_numbered n (items ++ rest) ≡ frame_numbered n rest
not_here n items given None is none all = λ rest. ap (λ (l : List ItemData). frame_numbered n (l ++ rest)) (sym is) ∙ all rest
not_here n items given (Some f) is none all = absurd cc

pub sofar_on : (told mid : Option (List ℕ)) (k at : Kept) (c new : Cursor) (n : ℕ) (buffer : List ℕ) (v : Option Record) (r : Record) → v ≡ Some r → mid ≡ told → at ≡ k → ((rest : List ItemData) → frame_numbered n (held_items buffer r ++ rest) ≡ frame_numbered n rest)
    → IfSome told (Sofar k c n) → IfSome mid (Given buffer at c new v) → IfSome told (Sofar k new n)
sofar_on told mid k at c new n buffer v r is same stays passed so_far h = go told so_far (moved told mid k at c new buffer v (Some r) is same stays h)
  where
    go : (t : Option (List ℕ)) → IfSome t (Sofar k c n) → IfSome t (Given buffer k c new (Some r)) → IfSome t (Sofar k new n)
    go None s g = tt
    go (Some was) s g = λ j o begun.
        let l = s j o begun in
        let a = g j l.0 o begun l.1 in
        (a.0, a.2, sym (ap (frame_numbered n) a.1 ∙ passed a.0) ∙ l.2)

pub of_number : (told : Option (List ℕ)) (k : Kept) (n m : ℕ) (x : Option FrameData) → n ≡ m → IfSome told (λ was. (j : JournalData) → IsAt k was j → ended j ≡ Is j → x ≡ frame_numbered n (items_in j))
    → IfSome told (λ was. (j : JournalData) → IsAt k was j → ended j ≡ Is j → x ≡ frame_numbered m (items_in j))
of_number told k n m x is h = subst (λ (i : ℕ). IfSome told (λ was. (j : JournalData) → IsAt k was j → ended j ≡ Is j → x ≡ frame_numbered i (items_in j))) is h

-- what is shown
pub shown_some : (n : ℕ) (items given : List ItemData) (f d : FrameData) → given ≡ items → ((rest : List ItemData) → frame_numbered n (given ++ rest) ≡ Some f) → f ≡ unwrap_or (frame_numbered n items) d
shown_some n items given f d is all = ap (λ (o : Option FrameData). unwrap_or o d) (sym (all []) ∙ ap (frame_numbered n) (append-nil given ∙ is))

pub shown_none : (n : ℕ) (items given : List ItemData) (d : FrameData) → given ≡ items → ((rest : List ItemData) → frame_numbered n (given ++ rest) ≡ frame_numbered n rest) → d ≡ unwrap_or (frame_numbered n items) d
shown_none n items given d is all = ap (λ (o : Option FrameData). unwrap_or o d) (sym (all []) ∙ ap (frame_numbered n) (append-nil given ∙ is))
