-- A journal has one base for each number.
use Rattle.std.proofs.Common.{◌≡◌, ℕ, ◌≤◌, ◌<◌, List, [], ◌∷◌, ◌++◌, length, take, drop, Some, refl, sym, ap, subst, ◌∙◌, arith, append_assoc, append-nil, length-append, take-append-drop, ◌⊎◌, inl, inr}
use Rattle.std.proofs.lemmas.Bool.{cases_lt}
use Rattle.std.proofs.lemmas.List.{take_at, drop_at, length-take-le}
use Rattle.avm_model.specs.Machine.{State}
use Rattle.journal_model.specs.Journal.{JournalData}
use Rattle.journal_model.specs.Part.{Part, KeepData, keep, keeps_in}
use Rattle.honest_model.specs.Keeps.{IsBase, IsGood, IsHeaderBase, IsKeepBase, keep_state}

-- the shorter of two fronts stands in front of the other
record Further (x y z w : List Part) : Type 0 where
  more : List Part
  front : z ≡ x ++ more
  behind : y ≡ more ++ w

further : (x y z w : List Part) → x ++ y ≡ z ++ w → length x ≤ length z → Further x y z w
further x y z w e le =
    let m = length x in
    let len : length (take m z) ≡ m = length-take-le m z le in
    let split : x ++ y ≡ take m z ++ (drop m z ++ w) = e ∙ ap (λ (l : List Part). l ++ w) (sym (take-append-drop m z)) ∙ append_assoc (take m z) (drop m z) w in
    let head : x ≡ take m z = sym (take_at x y m refl) ∙ ap (take m) split ∙ take_at (take m z) (drop m z ++ w) m len in
    let tail : y ≡ drop m z ++ w = sym (drop_at x y m refl) ∙ ap (drop m) split ∙ drop_at (take m z) (drop m z ++ w) m len in
    record { more = drop m z; front = sym (take-append-drop m z) ∙ ap (λ (l : List Part). l ++ drop m z) (sym head); behind = tail }

-- no base stands in front of another
not_shorter : (j : JournalData) (n : ℕ) (front behind front_2 behind_2 : List Part) (s t : State) → IsBase j n front behind s → IsBase j n front_2 behind_2 t → length front < length front_2 → ⊥
not_shorter j n front behind front_2 behind_2 s t a b lt = elim b.base [ inl h ↦ by_header h | inr k ↦ by_keep k ]
  where
    by_header : IsHeaderBase j front_2 t → ⊥
    by_header h = let none : length front_2 ≡ 0 = ap length h.front_is in omega (arith, none, lt)

    by_keep : IsKeepBase j n front_2 t → ⊥
    by_keep k =
        let size : length front_2 ≡ length (k.before ++ keep k.last ∷ []) = ap length k.front_is in
        let le : length front ≤ length k.before = omega (arith, size, lt, length-append k.before (keep k.last ∷ [])) in
        let both : front ++ behind ≡ k.before ++ (keep k.last ∷ behind_2) = sym a.split ∙ b.split ∙ ap (λ (l : List Part). l ++ behind_2) k.front_is ∙ append_assoc k.before (keep k.last ∷ []) behind_2 in
        let f = further front behind k.before (keep k.last ∷ behind_2) both le in
        a.last f.more behind_2 k.last t f.behind k.low (subst (λ (ps : List Part). IsGood j.header ps k.last t) f.front k.good)

same_some : {A : Type 0} (x y : A) → Some x ≡ Some y → x ≡ y
same_some x y e = cc

some_front : (before : List Part) (p : Part) → before ++ p ∷ [] ≡ [] → ⊥
some_front [] p e = absurd cc
some_front (x ∷ before) p e = absurd cc

-- what stands in front of one part, and that part
same_last : (a b : List Part) (k l : KeepData) → a ++ keep k ∷ [] ≡ b ++ keep l ∷ [] → (a ≡ b) × (k ≡ l)
same_last a b k l e =
    let size : length (a ++ keep k ∷ []) ≡ length (b ++ keep l ∷ []) = ap length e in
    let len : length b ≡ length a = omega (arith, size, length-append a (keep k ∷ []), length-append b (keep l ∷ [])) in
    let tail : keep k ∷ [] ≡ keep l ∷ [] = sym (drop_at a (keep k ∷ []) (length a) refl) ∙ ap (drop (length a)) e ∙ drop_at b (keep l ∷ []) (length a) len in
    let one : keep k ≡ keep l = cc in
    (sym (take_at a (keep k ∷ []) (length a) refl) ∙ ap (take (length a)) e ∙ take_at b (keep l ∷ []) (length a) len, kept_same k l one)
  where
    kept_same : (k l : KeepData) → keep k ≡ keep l → k ≡ l
    kept_same k l e = cc

same_state : (j : JournalData) (n : ℕ) (front front_2 : List Part) (s t : State) → front ≡ front_2 → IsHeaderBase j front s ⊎ IsKeepBase j n front s → IsHeaderBase j front_2 t ⊎ IsKeepBase j n front_2 t → s ≡ t
same_state j n front front_2 s t e (inl a) (inl b) = same_some s t (sym a.state ∙ b.state)
same_state j n front front_2 s t e (inl a) (inr b) = absurd (some_front b.before (keep b.last) (sym b.front_is ∙ sym e ∙ a.front_is))
same_state j n front front_2 s t e (inr a) (inl b) = absurd (some_front a.before (keep a.last) (sym a.front_is ∙ e ∙ b.front_is))
same_state j n front front_2 s t e (inr a) (inr b) =
    let same = same_last a.before b.before a.last b.last (sym a.front_is ∙ e ∙ b.front_is) in
    let state : keep_state j.header (keeps_in a.before) a.last ≡ keep_state j.header (keeps_in b.before) b.last = ap (λ (ps : List Part). keep_state j.header (keeps_in ps) a.last) same.0 ∙ ap (λ (k : KeepData). keep_state j.header (keeps_in b.before) k) same.1 in
    same_some s t (sym a.good.state ∙ state ∙ b.good.state)

pub record SameBase (front behind front_2 behind_2 : List Part) (s t : State) : Type 0 where
  pub front_is : front ≡ front_2
  pub behind_is : behind ≡ behind_2
  pub state_is : s ≡ t

none_more : (l : List Part) → length l ≡ 0 → l ≡ []
none_more [] e = refl
none_more (x ∷ l) e = absurd (omega (arith, e))

pub same_base : (j : JournalData) (n : ℕ) (front behind front_2 behind_2 : List Part) (s t : State) → IsBase j n front behind s → IsBase j n front_2 behind_2 t → SameBase front behind front_2 behind_2 s t
same_base j n front behind front_2 behind_2 s t a b = go (cases_lt (length front) (length front_2)) (cases_lt (length front_2) (length front))
  where
    go : (length front < length front_2) ⊎ (length front_2 ≤ length front) → (length front_2 < length front) ⊎ (length front ≤ length front_2) → SameBase front behind front_2 behind_2 s t
    go (inl lt) o = absurd (not_shorter j n front behind front_2 behind_2 s t a b lt)
    go (inr le) (inl lt) = absurd (not_shorter j n front_2 behind_2 front behind t s b a lt)
    go (inr le) (inr ge) =
        let f = further front behind front_2 behind_2 (sym a.split ∙ b.split) ge in
        let size : length front_2 ≡ length (front ++ f.more) = ap length f.front in
        let none : f.more ≡ [] = none_more f.more (omega (arith, size, le, length-append front f.more)) in
        let same : front ≡ front_2 = sym (append-nil front) ∙ ap (λ (l : List Part). front ++ l) (sym none) ∙ sym f.front in
        record { front_is = same; behind_is = f.behind ∙ ap (λ (l : List Part). l ++ behind_2) none; state_is = same_state j n front front_2 s t same a.base b.base }
