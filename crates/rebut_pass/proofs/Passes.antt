-- A pass over a journal's items, record by record.
use Rattle.std.proofs.Common.{◌≡◌, ℕ, List, [], ◌∷◌, ◌++◌, Option, Some, None, IfSome, refl, sym, ap, subst, ◌∙◌, append_assoc, append-nil, Ok}
use Rattle.std.specs.List.{AllByRecursion}
use Rattle.journal_model.specs.Journal.{JournalData, Is, ended}
use Rattle.jrnl_store.specs.Items.{ItemData, items_in, IsLeft, ItemsAnswers, held_items}
use Rattle.jrnl_store.specs.Kept.{Kept}
use Rattle.jrnl_store.specs.Own.{IsAt}
use Rattle.jrnl_store.specs.declared.cursor.Cursor.{Cursor}
use Rattle.jrnl_store.specs.declared.cursor.Record.{Record}
use Rattle.rebut_pass.specs.Items.{HasForm}
use Rattle.rebut_pass.specs.Passing.{Takes}
use Rattle.rebut_pass.specs.Reads.{OfJournal}

pub takes_more : {S : Type 0} (step : S → ItemData → S → Type 0) (s t u : S) (xs ys : List ItemData) → Takes step s xs t → Takes step t ys u → Takes step s (xs ++ ys) u
takes_more step s t u [] ys a b = subst (λ v. Takes step v ys u) (sym a) b
takes_more step s t u (x ∷ xs) ys a b = (a.0, a.1, takes_more step a.0 t u xs ys a.2 b)

-- ---- the items of a record

-- what is taken of them
pub record Taken {S : Type 0} (step : S → ItemData → S → Type 0) (all left : List ItemData) (s t : S) : Type 0 where
  pub before : List ItemData
  pub split : all ≡ before ++ left
  pub takes : Takes step s before t

pub taken_none : {S : Type 0} (step : S → ItemData → S → Type 0) (all : List ItemData) (s : S) → Taken step all all s s
taken_none step all s = record { before = []; split = refl; takes = refl }

pub taken_next : {S : Type 0} (step : S → ItemData → S → Type 0) (all left rest : List ItemData) (x : ItemData) (s t u : S) → left ≡ x ∷ rest → step t x u → Taken step all left s t → Taken step all rest s u
taken_next step all left rest x s t u e h k = record {
  before = k.before ++ x ∷ [];
  split = k.split ∙ ap (λ (l : List ItemData). k.before ++ l) e ∙ sym (append_assoc k.before (x ∷ []) rest);
  takes = takes_more step s t u k.before (x ∷ []) k.takes (u, h, refl);
}

pub taken_all : {S : Type 0} (step : S → ItemData → S → Type 0) (all left : List ItemData) (s t : S) → left ≡ [] → Taken step all left s t → Takes step s all t
taken_all step all left s t e k = subst (λ (l : List ItemData). Takes step s l t) (sym (k.split ∙ ap (λ (l : List ItemData). k.before ++ l) e ∙ append-nil k.before)) k.takes

pub forms_next : (left rest : List ItemData) (x : ItemData) → left ≡ x ∷ rest → AllByRecursion HasForm left → AllByRecursion HasForm rest
forms_next left rest x e h = (subst (AllByRecursion HasForm) e h).1

-- ---- all records

-- a cursor of which what is before it is taken
abbrev pub Sofar : {S : Type 0} → (S → ItemData → S → Type 0) → Kept → Cursor → S → S → List ℕ → Type 0
Sofar step k c s t was = (j : JournalData) → IsAt k was j → ended j ≡ Is j → (left : List ItemData) × IsLeft k was c j left × Taken step (items_in j) left s t

abbrev pub Given : List ℕ → Kept → Cursor → Cursor → Option Record → List ℕ → Type 0
Given buffer k c new v was = (j : JournalData) (left : List ItemData) → IsAt k was j → ended j ≡ Is j → IsLeft k was c j left → ItemsAnswers buffer k was new j left (Ok v)

pub sofar_first : {S : Type 0} (step : S → ItemData → S → Type 0) (told : Option (List ℕ)) (k : Kept) (c : Cursor) (s : S) → ((was : List ℕ) (j : JournalData) → IsAt k was j → IsLeft k was c j (items_in j)) → IfSome told (Sofar step k c s s)
sofar_first step None k c s first = tt
sofar_first step (Some was) k c s first = λ j o begun. (items_in j, first was j o, taken_none step (items_in j) s)

moved : (told mid : Option (List ℕ)) (k at : Kept) (c new : Cursor) (buffer : List ℕ) (v w : Option Record) → v ≡ w → mid ≡ told → at ≡ k → IfSome mid (Given buffer at c new v) → IfSome told (Given buffer k c new w)
moved told mid k at c new buffer v w is same stays h = subst (λ (x : Option Record). IfSome told (Given buffer k c new x)) is (subst (λ (x : Kept). IfSome told (Given buffer x c new v)) stays (subst (λ (t : Option (List ℕ)). IfSome t (Given buffer at c new v)) same h))

taken_record : {S : Type 0} (step : S → ItemData → S → Type 0) (all left items rest : List ItemData) (s t u : S) → left ≡ items ++ rest → Takes step t items u → Taken step all left s t → Taken step all rest s u
taken_record step all left items rest s t u e h k = record {
  before = k.before ++ items;
  split = k.split ∙ ap (λ (l : List ItemData). k.before ++ l) e ∙ sym (append_assoc k.before items rest);
  takes = takes_more step s t u k.before items k.takes h;
}

pub sofar_on : {S : Type 0} (step : S → ItemData → S → Type 0) (told mid : Option (List ℕ)) (k at : Kept) (c new : Cursor) (s t u : S) (buffer : List ℕ) (v : Option Record) (r : Record) (items : List ItemData) → v ≡ Some r → mid ≡ told → at ≡ k → items ≡ held_items buffer r → Takes step t items u
    → IfSome told (Sofar step k c s t) → IfSome mid (Given buffer at c new v) → IfSome told (Sofar step k new s u)
sofar_on step told mid k at c new s t u buffer v r items is same stays held taken so_far h = go told so_far (moved told mid k at c new buffer v (Some r) is same stays h)
  where
    go : (w : Option (List ℕ)) → IfSome w (Sofar step k c s t) → IfSome w (Given buffer k c new (Some r)) → IfSome w (Sofar step k new s u)
    go None f g = tt
    go (Some was) f g = λ j o begun.
        let l = f j o begun in
        let a = g j l.0 o begun l.1 in
        (a.0, a.2, taken_record step (items_in j) l.0 items a.0 s t u (a.1 ∙ ap (λ (x : List ItemData). x ++ a.0) (sym held)) taken l.2)

pub sofar_all : {S : Type 0} (step : S → ItemData → S → Type 0) (told mid : Option (List ℕ)) (k at : Kept) (c new : Cursor) (s t : S) (buffer : List ℕ) (v : Option Record) → v ≡ None → mid ≡ told → at ≡ k
    → IfSome told (Sofar step k c s t) → IfSome mid (Given buffer at c new v) → OfJournal told k (λ j. Takes step s (items_in j) t)
sofar_all step told mid k at c new s t buffer v is same stays so_far h = go told so_far (moved told mid k at c new buffer v None is same stays h)
  where
    go : (w : Option (List ℕ)) → IfSome w (Sofar step k c s t) → IfSome w (Given buffer k c new None) → OfJournal w k (λ j. Takes step s (items_in j) t)
    go None f g = tt
    go (Some was) f g = λ j o begun.
        let l = f j o begun in
        taken_all step (items_in j) l.0 s t (g j l.0 o begun l.1) l.2
