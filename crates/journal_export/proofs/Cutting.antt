-- The entries of a segment among a journal's, with one entry more.
use Rattle.std.proofs.Common.{◌≡◌, ℕ, Bool, true, false, cond, nat_eq, nat_le, nat_lt, le-leb, List, [], ◌∷◌, ◌++◌, ◌||◌, ◌&&◌, not, ◌<◌, ◌≤◌, arith, lt-ltb, refl, sym, ap, ◌∙◌, append_assoc, append-nil}
use Rattle.std.proofs.lemmas.Bool.{ltb-false, ltb-true, lt-leb}
use Rattle.avm_model.specs.Chain.{next_hash}
use Rattle.avm_model.specs.Frame.{FrameData}
use Rattle.export_model.specs.Exports.{begins_at}
use Rattle.honest_model.specs.Keeps.{up_to}
use Rattle.rebut_judge.specs.Going.{has_some}
use Rattle.rebut_model.specs.Texts.{Stretch, from_number}
use Rattle.journal_export.specs.Cuts.{Cuts, IsCut, cut}
use Rattle.journal_export.specs.declared.cut.Cut.{Cut}

apart : {A : Type 0} → false ≡ true → A
apart e = absurd cc

none_some : (fs : List FrameData) → has_some fs ≡ false → fs ≡ []
none_some [] e = refl
none_some (f ∷ fs) e = absurd cc

-- ---- entries from a number on

-- where the number has come
pub begun_on : (n : ℕ) (h : List ℕ) (fs rest : List FrameData) → has_some (from_number n h fs).frames ≡ true → from_number n h (fs ++ rest) ≡ record { before = (from_number n h fs).before; frames = (from_number n h fs).frames ++ rest }
begun_on n h [] rest e = absurd cc
begun_on n h (f ∷ fs) rest e = go (nat_eq f.seq n) (λ q. begun_on n (next_hash h f) fs rest q) e
  where
    less : Bool → Stretch
    less b = cond b (record { before = h; frames = f ∷ fs }) (from_number n (next_hash h f) fs)

    more : Bool → Stretch
    more b = cond b (record { before = h; frames = f ∷ (fs ++ rest) }) (from_number n (next_hash h f) (fs ++ rest))

    go : (b : Bool) → (has_some (from_number n (next_hash h f) fs).frames ≡ true → from_number n (next_hash h f) (fs ++ rest) ≡ record { before = (from_number n (next_hash h f) fs).before; frames = (from_number n (next_hash h f) fs).frames ++ rest })
        → has_some (less b).frames ≡ true → more b ≡ record { before = (less b).before; frames = (less b).frames ++ rest }
    go true ih q = refl
    go false ih q = ih q

-- where it has not
pub wait_on : (n : ℕ) (h : List ℕ) (fs rest : List FrameData) → has_some (from_number n h fs).frames ≡ false → from_number n h (fs ++ rest) ≡ from_number n (from_number n h fs).before rest
wait_on n h [] rest e = refl
wait_on n h (f ∷ fs) rest e = go (nat_eq f.seq n) (λ q. wait_on n (next_hash h f) fs rest q) e
  where
    less : Bool → Stretch
    less b = cond b (record { before = h; frames = f ∷ fs }) (from_number n (next_hash h f) fs)

    more : Bool → Stretch
    more b = cond b (record { before = h; frames = f ∷ (fs ++ rest) }) (from_number n (next_hash h f) (fs ++ rest))

    go : (b : Bool) → (has_some (from_number n (next_hash h f) fs).frames ≡ false → from_number n (next_hash h f) (fs ++ rest) ≡ from_number n (from_number n (next_hash h f) fs).before rest)
        → has_some (less b).frames ≡ false → more b ≡ from_number n (less b).before rest
    go true ih q = absurd cc
    go false ih q = ih q

pub begins_begun : (n : ℕ) (h : List ℕ) (fs rest : List FrameData) → has_some (from_number n h fs).frames ≡ true → begins_at n (fs ++ rest) ≡ begins_at n fs
begins_begun n h [] rest e = absurd cc
begins_begun n h (f ∷ fs) rest e = go (nat_eq f.seq n) (λ q. begins_begun n (next_hash h f) fs rest q) e
  where
    less : Bool → Stretch
    less b = cond b (record { before = h; frames = f ∷ fs }) (from_number n (next_hash h f) fs)

    here : Bool
    here = nat_eq f.kind 1 || nat_eq f.kind 2

    go : (b : Bool) → (has_some (from_number n (next_hash h f) fs).frames ≡ true → begins_at n (fs ++ rest) ≡ begins_at n fs) → has_some (less b).frames ≡ true → cond b here (begins_at n (fs ++ rest)) ≡ cond b here (begins_at n fs)
    go true ih q = refl
    go false ih q = ih q

pub begins_open : (n : ℕ) (h : List ℕ) (fs rest : List FrameData) → has_some (from_number n h fs).frames ≡ false → begins_at n (fs ++ rest) ≡ begins_at n rest
begins_open n h [] rest e = refl
begins_open n h (f ∷ fs) rest e = go (nat_eq f.seq n) (λ q. begins_open n (next_hash h f) fs rest q) e
  where
    less : Bool → Stretch
    less b = cond b (record { before = h; frames = f ∷ fs }) (from_number n (next_hash h f) fs)

    here : Bool
    here = nat_eq f.kind 1 || nat_eq f.kind 2

    go : (b : Bool) → (has_some (from_number n (next_hash h f) fs).frames ≡ false → begins_at n (fs ++ rest) ≡ begins_at n rest) → has_some (less b).frames ≡ false → cond b here (begins_at n (fs ++ rest)) ≡ begins_at n rest
    go true ih q = absurd cc
    go false ih q = ih q

pub begins_none : (n : ℕ) (h : List ℕ) (fs : List FrameData) → has_some (from_number n h fs).frames ≡ false → begins_at n fs ≡ false
begins_none n h fs e = ap (begins_at n) (sym (append-nil fs)) ∙ begins_open n h fs [] e

-- one entry alone
pub one_here : (n : ℕ) (h : List ℕ) (f : FrameData) → nat_eq f.seq n ≡ true → from_number n h (f ∷ []) ≡ record { before = h; frames = f ∷ [] }
one_here n h f e = rw e refl

pub one_other : (n : ℕ) (h : List ℕ) (f : FrameData) → nat_eq f.seq n ≡ false → from_number n h (f ∷ []) ≡ record { before = next_hash h f; frames = [] }
one_other n h f e = rw e refl

-- ---- entries up to a number

tail_is : (b : FrameData) (xs ys : List FrameData) → b ∷ xs ≡ b ∷ ys → xs ≡ ys
tail_is b xs ys e = cc

past_front : (n : ℕ) (bs : List FrameData) (f : FrameData) (rest : List FrameData) → up_to n bs ≡ bs → nat_lt n f.seq ≡ true → up_to n (bs ++ f ∷ rest) ≡ bs
past_front n [] f rest e lt = rw (lt-leb f.seq n (ltb-true n f.seq lt)) refl
past_front n (b ∷ bs) f rest e lt = go (nat_le b.seq n) (λ h. past_front n bs f rest h lt) e
  where
    go : (c : Bool) → (up_to n bs ≡ bs → up_to n (bs ++ f ∷ rest) ≡ bs) → cond c (b ∷ up_to n bs) [] ≡ b ∷ bs → cond c (b ∷ up_to n (bs ++ f ∷ rest)) [] ≡ b ∷ bs
    go true ih h = ap (λ (l : List FrameData). b ∷ l) (ih (tail_is b (up_to n bs) bs h))
    go false ih h = absurd cc

on_front : (n : ℕ) (bs : List FrameData) (f : FrameData) → up_to n bs ≡ bs → nat_lt n f.seq ≡ false → up_to n (bs ++ f ∷ []) ≡ bs ++ f ∷ []
on_front n [] f e le = rw (le-leb f.seq n (ltb-false n f.seq le)) refl
on_front n (b ∷ bs) f e le = go (nat_le b.seq n) (λ h. on_front n bs f h le) e
  where
    go : (c : Bool) → (up_to n bs ≡ bs → up_to n (bs ++ f ∷ []) ≡ bs ++ f ∷ []) → cond c (b ∷ up_to n bs) [] ≡ b ∷ bs → cond c (b ∷ up_to n (bs ++ f ∷ [])) [] ≡ b ∷ (bs ++ f ∷ [])
    go true ih h = ap (λ (l : List FrameData). b ∷ l) (ih (tail_is b (up_to n bs) bs h))
    go false ih h = absurd cc

-- ---- one entry more

abbrev frames_from : Cut → List ℕ → List FrameData → List FrameData
frames_from c h fs = (from_number c.from h fs).frames

some_more : (xs : List FrameData) (f : FrameData) → has_some (xs ++ f ∷ []) ≡ true
some_more [] f = refl
some_more (x ∷ xs) f = refl

-- the entries from the number on, with one entry more
frames_on : (c : Cut) (h : List ℕ) (fs : List FrameData) (f : FrameData) → IsCut h fs c → c.begun ≡ true → frames_from c h (fs ++ f ∷ []) ≡ frames_from c h fs ++ f ∷ []
frames_on c h fs f i b = ap (λ (s : Stretch). s.frames) (begun_on c.from h fs (f ∷ []) (sym i.begun ∙ b))

frames_here : (c : Cut) (h : List ℕ) (fs : List FrameData) (f : FrameData) → IsCut h fs c → c.begun ≡ false → nat_eq f.seq c.from ≡ true → frames_from c h (fs ++ f ∷ []) ≡ frames_from c h fs ++ f ∷ []
frames_here c h fs f i b e =
    let none : has_some (frames_from c h fs) ≡ false = sym i.begun ∙ b in
    ap (λ (s : Stretch). s.frames) (wait_on c.from h fs (f ∷ []) none ∙ one_here c.from (from_number c.from h fs).before f e) ∙ ap (λ (l : List FrameData). l ++ f ∷ []) (sym (none_some (frames_from c h fs) none))

frames_other : (c : Cut) (h : List ℕ) (fs : List FrameData) (f : FrameData) → IsCut h fs c → c.begun ≡ false → nat_eq f.seq c.from ≡ false → frames_from c h (fs ++ f ∷ []) ≡ frames_from c h fs
frames_other c h fs f i b e =
    let none : has_some (frames_from c h fs) ≡ false = sym i.begun ∙ b in
    ap (λ (s : Stretch). s.frames) (wait_on c.from h fs (f ∷ []) none ∙ one_other c.from (from_number c.from h fs).before f e) ∙ sym (none_some (frames_from c h fs) none)

-- behind one past the last
pub cut_past : (c : Cut) (f : FrameData) → c.past ≡ true → Cuts c f false c
cut_past c f past = record {
  from = refl;
  to = refl;
  cuts = λ h fs i.
      let b = i.behind past in
      let on = frames_on c h fs f i b.0 in
      record {
        begun = b.0 ∙ sym (ap has_some on ∙ some_more (frames_from c h fs) f);
        whole = λ e. apart (sym e ∙ past);
        behind = λ e. (b.0, λ rest. ap (λ (l : List FrameData). up_to c.to (l ++ rest)) on ∙ ap (up_to c.to) (append_assoc (frames_from c h fs) (f ∷ []) rest) ∙ b.1 (f ∷ rest) ∙ sym (b.1 (f ∷ [])) ∙ ap (up_to c.to) (sym on));
      };
  takes = λ h fs i.
      let b = i.behind past in
      ap (up_to c.to) (frames_on c h fs f i b.0) ∙ b.1 (f ∷ []) ∙ sym (append-nil (cut c.from c.to h fs));
}

-- in front of the first
pub cut_waits : (c : Cut) (f : FrameData) → c.past ≡ false → c.begun ≡ false → nat_eq f.seq c.from ≡ false → Cuts c f false c
cut_waits c f early shut other = record {
  from = refl;
  to = refl;
  cuts = λ h fs i.
      let on = frames_other c h fs f i shut other in
      record {
        begun = i.begun ∙ ap has_some (sym on);
        whole = λ e. ap (up_to c.to) on ∙ i.whole e ∙ sym on;
        behind = λ e. apart (sym early ∙ e);
      };
  takes = λ h fs i. ap (up_to c.to) (frames_other c h fs f i shut other) ∙ sym (append-nil (cut c.from c.to h fs));
}

-- the first, or one behind it
abbrev Goes : Cut → FrameData → Type 0
Goes c f = (h : List ℕ) (fs : List FrameData) → IsCut h fs c → frames_from c h (fs ++ f ∷ []) ≡ frames_from c h fs ++ f ∷ []

pub goes : (c : Cut) (f : FrameData) → (c.begun ≡ false → nat_eq f.seq c.from ≡ true) → Goes c f
goes c f some = λ h fs i. go c.begun refl h fs i
  where
    go : (b : Bool) → c.begun ≡ b → (h : List ℕ) (fs : List FrameData) → IsCut h fs c → frames_from c h (fs ++ f ∷ []) ≡ frames_from c h fs ++ f ∷ []
    go true e h fs i = frames_on c h fs f i e
    go false e h fs i = frames_here c h fs f i e (some e)

-- past the last
pub cut_ends : (c : Cut) (f : FrameData) → c.past ≡ false → Goes c f → nat_lt c.to f.seq ≡ true → Cuts c f false (record c { begun = true; past = true })
cut_ends c f early on lt = record {
  from = refl;
  to = refl;
  cuts = λ h fs i.
      let is = on h fs i in
      let whole = i.whole early in
      let ends = past_front c.to (frames_from c h fs) f in
      record {
        begun = sym (ap has_some is ∙ some_more (frames_from c h fs) f);
        whole = λ e. apart (sym e);
        behind = λ e. (refl, λ rest. ap (λ (l : List FrameData). up_to c.to (l ++ rest)) is ∙ ap (up_to c.to) (append_assoc (frames_from c h fs) (f ∷ []) rest) ∙ ends rest whole lt ∙ sym (ends [] whole lt) ∙ ap (up_to c.to) (sym is));
      };
  takes = λ h fs i.
      let whole = i.whole early in
      ap (up_to c.to) (on h fs i) ∙ past_front c.to (frames_from c h fs) f [] whole lt ∙ sym whole ∙ sym (append-nil (cut c.from c.to h fs));
}

-- one of them
pub cut_takes : (c : Cut) (f : FrameData) → c.past ≡ false → Goes c f → nat_lt c.to f.seq ≡ false → Cuts c f true (record c { begun = true })
cut_takes c f early on le = record {
  from = refl;
  to = refl;
  cuts = λ h fs i.
      let is = on h fs i in
      record {
        begun = sym (ap has_some is ∙ some_more (frames_from c h fs) f);
        whole = λ e. ap (up_to c.to) is ∙ on_front c.to (frames_from c h fs) f (i.whole early) le ∙ sym is;
        behind = λ e. apart (sym early ∙ e);
      };
  takes = λ h fs i. ap (up_to c.to) (on h fs i) ∙ on_front c.to (frames_from c h fs) f (i.whole early) le ∙ ap (λ (l : List FrameData). l ++ f ∷ []) (sym (i.whole early));
}

pub cut_first : (h : List ℕ) (c : Cut) → c.begun ≡ false → c.past ≡ false → IsCut h [] c
cut_first h c shut early = record { begun = shut; whole = λ e. refl; behind = λ e. apart (sym early ∙ e) }

-- ---- tests

pub early_is : (r b : Bool) (n m : ℕ) → r ≡ (not b && not (nat_eq n m)) → r ≡ true → (b ≡ false) × (nat_eq n m ≡ false)
early_is r b n m e t = go b (nat_eq n m) (sym e ∙ t)
  where
    go : (x y : Bool) → (not x && not y) ≡ true → (x ≡ false) × (y ≡ false)
    go true y h = absurd cc
    go false true h = absurd cc
    go false false h = (refl, refl)

pub late_is : (r b : Bool) (n m : ℕ) → r ≡ (not b && not (nat_eq n m)) → r ≡ false → b ≡ false → nat_eq n m ≡ true
late_is r b n m e t f = go (nat_eq n m) (sym (ap (λ (x : Bool). not x && not (nat_eq n m)) f) ∙ sym e ∙ t)
  where
    go : (y : Bool) → not y ≡ false → y ≡ true
    go true h = refl
    go false h = absurd cc

pub seq_as : (f : FrameData) (seq m : ℕ) (b : Bool) → f.seq ≡ seq → nat_eq seq m ≡ b → nat_eq f.seq m ≡ b
seq_as f seq m b is e = ap (λ (n : ℕ). nat_eq n m) is ∙ e

pub past_as : (f : FrameData) (seq n : ℕ) → f.seq ≡ seq → n < seq → nat_lt n f.seq ≡ true
past_as f seq n is lt = lt-ltb n f.seq (omega (arith, is, lt))

pub low_as : (f : FrameData) (seq n : ℕ) → f.seq ≡ seq → seq ≤ n → nat_lt n f.seq ≡ false
low_as f seq n is le = go (nat_lt n f.seq) refl
  where
    go : (b : Bool) → nat_lt n f.seq ≡ b → b ≡ false
    go true e = absurd (let lt = ltb-true n f.seq e in omega (arith, is, le, lt))
    go false e = refl
