-- The first fault of entries that are replayed one after another.
use Rattle.std.proofs.Common.{◌≡◌, ℕ, Bool, true, false, nat_eq, eq-eqb, eqb-true, List, [], ◌∷◌, ◌++◌, length, Some, None, refl, sym, ap, subst, ◌∙◌, append_assoc, append-nil}
use Rattle.std.proofs.lemmas.List.{map-append, length-map}
use Rattle.avm_model.specs.Frame.{FrameData}
use Rattle.avm_model.specs.Machine.{State}
use Rattle.avm_model.specs.Timed.{Entry}
use Rattle.avm_model.specs.Rerun.{Stand, Stands, Replays, start, IsFirstFault}
use Rattle.avm_model.specs.Reference.{Given, Made, timed, entry_of_frame, entries_of, IsFaultNumber}
use Rattle.avm_model.specs.Holds.{upto}
use Rattle.avm_model.proofs.ReferenceLaws.{is_timed}
use Rattle.avm_model.proofs.ReplayTheorems.{first_fault_at, front_replays}

-- the entries so far replay, and are those before the ones that are left
abbrev pub Seen : State → List FrameData → List FrameData → Stand State Made → Type 0
Seen s all left stand = (before : List FrameData) × (all ≡ before ++ left) × Stands timed s (entries_of before) stand

pub seen_none : (s : State) (all : List FrameData) (stand : Stand State Made) → stand ≡ start s → Seen s all all stand
seen_none s all stand e = ([], refl, record { replays = tt; is = e })

pub seen_next : (s : State) (all left rest : List FrameData) (f : FrameData) (old new : Stand State Made) → left ≡ f ∷ rest → Seen s all left old
    → ((es : List (Entry Given Made)) → Stands timed s es old → Stands timed s (es ++ entry_of_frame f ∷ []) new) → Seen s all rest new
seen_next s all left rest f old new e h goes =
    let stands : Stands timed s (entries_of h.0 ++ entry_of_frame f ∷ []) new = goes (entries_of h.0) h.2 in (
      h.0 ++ f ∷ [],
      h.1 ∙ ap (λ (l : List FrameData). h.0 ++ l) e ∙ sym (append_assoc h.0 (f ∷ []) rest),
      subst (λ (es : List (Entry Given Made)). Stands timed s es new) (sym (map-append entry_of_frame h.0 (f ∷ []))) stands,
    )

pub fault_here : (s : State) (all left rest : List FrameData) (f : FrameData) (old : Stand State Made) (n : ℕ) → left ≡ f ∷ rest → Seen s all left old
    → ((es : List (Entry Given Made)) → Stands timed s es old → Replays timed s (es ++ entry_of_frame f ∷ []) → ⊥) → n ≡ f.seq → IsFaultNumber s all (Some n)
fault_here s all left rest f old n e h never is =
    let split : all ≡ h.0 ++ f ∷ rest = h.1 ∙ ap (λ (l : List FrameData). h.0 ++ l) e in
    let entries : entries_of all ≡ entries_of h.0 ++ entry_of_frame f ∷ entries_of rest = ap entries_of split ∙ map-append entry_of_frame h.0 (f ∷ rest) in
    let first : IsFirstFault timed s (entries_of h.0 ++ entry_of_frame f ∷ entries_of rest) (length (entries_of h.0)) = first_fault_at timed is_timed s (entries_of h.0) (entry_of_frame f) (entries_of rest) h.2.replays (never (entries_of h.0) h.2) in
    let counted : IsFirstFault timed s (entries_of h.0 ++ entry_of_frame f ∷ entries_of rest) (length h.0) = subst (λ (k : ℕ). IsFirstFault timed s (entries_of h.0 ++ entry_of_frame f ∷ entries_of rest) k) (length-map h.0 entry_of_frame) first in
    record { before = h.0; frame = f; behind = rest; split = split; number = sym is; first = subst (λ (es : List (Entry Given Made)). IsFirstFault timed s es (length h.0)) (sym entries) counted }

pub no_fault : (s : State) (all left : List FrameData) (stand : Stand State Made) → left ≡ [] → Seen s all left stand → IsFaultNumber s all None
no_fault s all left stand e h =
    let same : all ≡ h.0 = h.1 ∙ ap (λ (l : List FrameData). h.0 ++ l) e ∙ append-nil h.0 in
    subst (λ (l : List FrameData). Replays timed s (entries_of l)) (sym same) h.2.replays

-- ---- up to a number

-- the entries so far replay; those up to a number are they, and what is up to it of the ones that are left
pub record SeenTo (s : State) (n : ℕ) (all left : List FrameData) (stand : Stand State Made) : Type 0 where
  pub before : List FrameData
  pub all_is : all ≡ before ++ left
  pub front : upto n all ≡ before ++ upto n left
  pub stands : Stands timed s (entries_of before) stand

pub to_none : (s : State) (n : ℕ) (all : List FrameData) (stand : Stand State Made) → stand ≡ start s → SeenTo s n all all stand
to_none s n all stand e = record { before = []; all_is = refl; front = refl; stands = record { replays = tt; is = e } }

apart : (a b : ℕ) → (a ≡ b → ⊥) → nat_eq a b ≡ false
apart a b ne = go (nat_eq a b) refl
  where
    go : (t : Bool) → nat_eq a b ≡ t → nat_eq a b ≡ false
    go true e = absurd (ne (eqb-true a b e))
    go false e = e

-- the entries with one more
one_more : (s : State) (es : List FrameData) (f : FrameData) (old new : Stand State Made) → Stands timed s (entries_of es) old
    → ((xs : List (Entry Given Made)) → Stands timed s xs old → Stands timed s (xs ++ entry_of_frame f ∷ []) new) → Stands timed s (entries_of (es ++ f ∷ [])) new
one_more s es f old new h goes =
    subst (λ (xs : List (Entry Given Made)). Stands timed s xs new) (sym (map-append entry_of_frame es (f ∷ []))) (goes (entries_of es) h)

pub to_next : (s : State) (n : ℕ) (all left rest : List FrameData) (f : FrameData) (old new : Stand State Made) → left ≡ f ∷ rest → (f.seq ≡ n → ⊥) → SeenTo s n all left old
    → ((xs : List (Entry Given Made)) → Stands timed s xs old → Stands timed s (xs ++ entry_of_frame f ∷ []) new) → SeenTo s n all rest new
to_next s n all left rest f old new e other h goes =
    let on : upto n (f ∷ rest) ≡ f ∷ upto n rest = rw (apart f.seq n other) refl in
    record {
      before = h.before ++ f ∷ [];
      all_is = h.all_is ∙ ap (λ (l : List FrameData). h.before ++ l) e ∙ sym (append_assoc h.before (f ∷ []) rest);
      front = h.front ∙ ap (λ (l : List FrameData). h.before ++ upto n l) e ∙ ap (λ (l : List FrameData). h.before ++ l) on ∙ sym (append_assoc h.before (f ∷ []) (upto n rest));
      stands = one_more s h.before f old new h.stands goes;
    }

-- the entry of the number is the last of them
pub to_here : (s : State) (n : ℕ) (all left rest : List FrameData) (f : FrameData) (old new : Stand State Made) → left ≡ f ∷ rest → f.seq ≡ n → SeenTo s n all left old
    → ((xs : List (Entry Given Made)) → Stands timed s xs old → Stands timed s (xs ++ entry_of_frame f ∷ []) new) → Stands timed s (entries_of (upto n all)) new
to_here s n all left rest f old new e same h goes =
    let here : upto n (f ∷ rest) ≡ f ∷ [] = rw (eq-eqb f.seq n same) refl in
    let is : upto n all ≡ h.before ++ f ∷ [] = h.front ∙ ap (λ (l : List FrameData). h.before ++ upto n l) e ∙ ap (λ (l : List FrameData). h.before ++ l) here in
    subst (λ (l : List FrameData). Stands timed s (entries_of l) new) (sym is) (one_more s h.before f old new h.stands goes)

-- no entry has the number
pub to_end : (s : State) (n : ℕ) (all left : List FrameData) (stand : Stand State Made) → left ≡ [] → SeenTo s n all left stand → Stands timed s (entries_of (upto n all)) stand
to_end s n all left stand e h =
    let is : upto n all ≡ h.before = h.front ∙ ap (λ (l : List FrameData). h.before ++ upto n l) e ∙ append-nil h.before in
    subst (λ (l : List FrameData). Stands timed s (entries_of l) stand) (sym is) h.stands

-- all of them replay
pub to_never : {A : Type 0} (s : State) (n : ℕ) (all left rest : List FrameData) (f : FrameData) (old : Stand State Made) → left ≡ f ∷ rest → SeenTo s n all left old
    → ((xs : List (Entry Given Made)) → Stands timed s xs old → Replays timed s (xs ++ entry_of_frame f ∷ []) → ⊥) → Replays timed s (entries_of all) → A
to_never s n all left rest f old e h never r =
    let split : all ≡ (h.before ++ f ∷ []) ++ rest = h.all_is ∙ ap (λ (l : List FrameData). h.before ++ l) e ∙ sym (append_assoc h.before (f ∷ []) rest) in
    let whole : entries_of all ≡ (entries_of h.before ++ entry_of_frame f ∷ []) ++ entries_of rest =
    ap entries_of split ∙ map-append entry_of_frame (h.before ++ f ∷ []) rest ∙ ap (λ (l : List (Entry Given Made)). l ++ entries_of rest) (map-append entry_of_frame h.before (f ∷ [])) in
    absurd (never (entries_of h.before) h.stands (front_replays timed is_timed s (entries_of h.before ++ entry_of_frame f ∷ []) (entries_of rest) (subst (λ (l : List (Entry Given Made)). Replays timed s l) whole r)))
