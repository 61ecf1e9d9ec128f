-- One entry more of a walk.
use Rattle.std.proofs.Common.{◌≡◌, ℕ, Bool, true, false, cond, nat_eq, List, [], ◌∷◌, ◌++◌, Option, Some, refl, sym, ap, ◌∙◌, ◌+◌, ◌||◌, Result, Ok, Err, OnOk, arith, append-nil, length, take, drop}
use Rattle.std.proofs.lemmas.List.{take_at, drop_at, drop-drop, drop_all, length-append, length-drop}
use Rattle.avm_model.specs.Memory.{put_at}
use Rattle.avm_num.specs.declared.buffer.NoMemory.{NoMemory}
use Rattle.avm_model.specs.Basics.{or_else}
use Rattle.avm_model.specs.Frame.{FrameData}
use Rattle.avm_model.specs.Chain.{link, next_hash}
use Rattle.rebut_model.specs.Texts.{Texts, texts, entry_texts, first_of_all, differ}
use Rattle.rebut_texts.specs.Walk.{Walking, finds, compared}

first_both : (p : Texts → Bool) (xs ys : List Texts) (f : Option Texts) → or_else (first_of_all p (xs ++ ys)) f ≡ or_else (first_of_all p xs) (or_else (first_of_all p ys) f)
first_both p [] ys f = refl
first_both p (x ∷ xs) ys f = go (p x) (first_both p xs ys f)
  where
    go : (b : Bool) → or_else (first_of_all p (xs ++ ys)) f ≡ or_else (first_of_all p xs) (or_else (first_of_all p ys) f)
        → or_else (cond b (Some x) (first_of_all p (xs ++ ys))) f ≡ or_else (cond b (Some x) (first_of_all p xs)) (or_else (first_of_all p ys) f)
    go true h = refl
    go false h = h

-- begun, with an entry of theirs
pub goes : (w v : Walking) (f e : FrameData) (es : List FrameData) → w.begun ≡ true → w.theirs ≡ e ∷ es → v ≡ compared (record w { theirs = es }) f e → (fs : List FrameData) → finds v fs ≡ finds w (f ∷ fs)
goes w v f e es b t i fs =
    let down = entry_texts (next_hash w.hash f) fs (next_hash w.other e) es in
    let here = texts (link w.hash f) (link w.other e) ∷ texts f.content e.content ∷ [] in
    rw (i, b, t) (sym (first_both differ down here w.found))

-- begun, with none of theirs left
ended_for : (h g : List ℕ) (f : FrameData) (fs : List FrameData) (o : Option Texts) → or_else (first_of_all differ (entry_texts h fs g [])) o ≡ or_else (first_of_all differ (entry_texts h (f ∷ fs) g [])) o
ended_for h g f [] o = refl
ended_for h g f (e ∷ fs) o = refl

pub ended : (w : Walking) (f : FrameData) (es : List FrameData) → w.begun ≡ true → w.theirs ≡ [] → es ≡ [] → (fs : List FrameData) → finds (record w { theirs = es }) fs ≡ finds w (f ∷ fs)
ended w f es b t i fs = rw (i, b, t) (ended_for w.hash w.other f fs w.found)

-- not begun, and the entry is another
pub passed : (w : Walking) (h : List ℕ) (f : FrameData) → (w.begun || nat_eq f.seq w.start) ≡ false → h ≡ next_hash w.hash f → (fs : List FrameData) → finds (record w { hash = h }) fs ≡ finds w (f ∷ fs)
passed w h f e i fs = go w.begun refl e
  where
    go : (b : Bool) → w.begun ≡ b → (b || nat_eq f.seq w.start) ≡ false → finds (record w { hash = h }) fs ≡ finds w (f ∷ fs)
    go true b n = absurd cc
    go false b n = rw (i, b, n) refl

-- it has begun, or begins here
pub begins : (w : Walking) (f : FrameData) → (w.begun || nat_eq f.seq w.start) ≡ true → (fs : List FrameData) → finds (record w { begun = true }) (f ∷ fs) ≡ finds w (f ∷ fs)
begins w f e fs = go w.begun refl e
  where
    go : (b : Bool) → w.begun ≡ b → (b || nat_eq f.seq w.start) ≡ true → finds (record w { begun = true }) (f ∷ fs) ≡ finds w (f ∷ fs)
    go true b n = rw b refl
    go false b n = rw (b, n) refl

-- an entry of each
pub beside : (r : Result (Unit {0}) NoMemory) (w v : Walking) (f e : FrameData) (es : List FrameData) → w.begun ≡ true → w.theirs ≡ e ∷ es → OnOk r (v ≡ compared (record w { theirs = es }) f e) → OnOk r ((fs : List FrameData) → finds v fs ≡ finds w (f ∷ fs))
beside (Ok x) w v f e es b t i = goes w v f e es b t i
beside (Err x) w v f e es b t i = tt

-- ---- bytes put one behind another

pub appended : (a z b : List ℕ) (i : ℕ) → length a ≡ i → put_at (a ++ z) i b ≡ (a ++ b) ++ drop (length b) z
appended a z b i e =
    let front : take i (a ++ z) ≡ a = take_at a z i e in
    let back : drop (i + length b) (a ++ z) ≡ drop (length b) z = sym (drop-drop (length b) i (a ++ z)) ∙ ap (drop (length b)) (drop_at a z i e) in
    rw (front, back) refl

pub four : (z h s k t a b c d : List ℕ) → length z ≡ 73 → length h ≡ 32 → length s ≡ 8 → length k ≡ 1 → length t ≡ 32 → a ≡ put_at z 0 h → b ≡ put_at a 32 s → c ≡ put_at b 40 k → d ≡ put_at c 41 t → d ≡ h ++ s ++ k ++ t
four z h s k t a b c d lz lh ls lk lt ea eb ec ed =
    let z1 = drop (length h) z in
    let z2 = drop (length s) z1 in
    let z3 = drop (length k) z2 in
    let one : a ≡ h ++ z1 = ea ∙ appended [] z h 0 refl in
    let two : b ≡ (h ++ s) ++ z2 = eb ∙ ap (λ (x : List ℕ). put_at x 32 s) one ∙ appended h z1 s 32 lh in
    let three : c ≡ (h ++ s ++ k) ++ z3 = ec ∙ ap (λ (x : List ℕ). put_at x 40 k) two ∙ appended (h ++ s) z2 k 40 (omega (arith, lh, ls, length-append h s)) in
    let last : d ≡ (h ++ s ++ k ++ t) ++ drop (length t) z3 = ed ∙ ap (λ (x : List ℕ). put_at x 41 t) three ∙ appended (h ++ s ++ k) z3 t 41 (omega (arith, lh, ls, lk, length-append h s, length-append (h ++ s) k)) in
    let none : drop (length t) z3 ≡ [] = drop_all (length t) z3 (omega (arith, lz, lh, ls, lk, lt, length-drop (length k) z2, length-drop (length s) z1, length-drop (length h) z)) in
    last ∙ ap (λ (x : List ℕ). (h ++ s ++ k ++ t) ++ x) none ∙ append-nil (h ++ s ++ k ++ t)
