-- A replay up to a number, one entry more.
use Rattle.std.proofs.Common.{◌≡◌, ℕ, Bool, true, false, cond, ◌&&◌, nat_le, nat_lt, le-leb, List, [], ◌∷◌, ◌++◌, Option, Some, None, MatchOption, refl, sym, ap, subst, ◌∙◌, append_assoc, append-nil}
use Rattle.std.proofs.lemmas.Bool.{ltb-false, ltb-true, lt-leb}
use Rattle.avm_model.specs.Audit.{is_committed, behind_first}
use Rattle.avm_model.specs.Frame.{FrameData}
use Rattle.avm_model.specs.Machine.{State}
use Rattle.avm_model.specs.Reference.{Made, timed, entries_of, IsFaultNumber}
use Rattle.avm_model.specs.Rerun.{Stand, Replays}
use Rattle.honest_model.specs.Honest.{IsFaultFrom, IsFaultByRoot}
use Rattle.honest_model.specs.Keeps.{up_to}
use Rattle.journal_model.specs.Fits.{FitsJournal}
use Rattle.journal_model.specs.Journal.{JournalData, parts, entries}
use Rattle.journal_model.specs.Part.{frames_in}
use Rattle.journal_model.specs.Standing.{Bounds}
use Rattle.journal_model.proofs.Fitting.{first_entry}
use Rattle.jrnl_store.specs.Items.{ItemData, entry_item, items_in}
use Rattle.jrnl_store.specs.Kept.{Kept}
use Rattle.jrnl_store.specs.Own.{AreKept}
use Rattle.opening_laws.proofs.Faults.{same_number}
use Rattle.rebut_model.specs.Texts.{state_at}
use Rattle.rebut_model.proofs.Always.{journal_replays}
use Rattle.rebut_pass.specs.Items.{frame_in, frames_of_items}
use Rattle.rebut_pass.specs.Passing.{Takes}
use Rattle.rebut_pass.proofs.ItemFacts.{frames_are}
use Rattle.rebut_judge.specs.Going.{front_to, GoneTo, Steps}
use Rattle.rebut_judge.specs.Judging.{Judging, judge_view, Goes, JudgedTo, Judges}
use Rattle.rebut_judge.specs.declared.going.Going.{Going}
use Rattle.rebut_judge.specs.declared.judge.Judge.{Judge}
use Rattle.rebut_judge.proofs.Judged.{judged_stand}

apart : {A : Type 0} → false ≡ true → A
apart e = absurd cc

tail_is : (b : FrameData) (xs ys : List FrameData) → b ∷ xs ≡ b ∷ ys → xs ≡ ys
tail_is b xs ys e = cc

past_front : (n : ℕ) (bs : List FrameData) (f : FrameData) (rest : List FrameData) → up_to n bs ≡ bs → nat_lt n f.seq ≡ true → up_to n (bs ++ f ∷ rest) ≡ bs
past_front n [] f rest e lt = rw (lt-leb f.seq n (ltb-true n f.seq lt)) refl
past_front n (b ∷ bs) f rest e lt = go (nat_le b.seq n) (λ h. past_front n bs f rest h lt) e
  where
    go : (c : Bool) → (up_to n bs ≡ bs → up_to n (bs ++ f ∷ rest) ≡ bs) → cond c (b ∷ up_to n bs) [] ≡ b ∷ bs → cond c (b ∷ up_to n (bs ++ f ∷ rest)) [] ≡ b ∷ bs
    go true ih h = ap (λ (l : List FrameData). b ∷ l) (ih (tail_is b (up_to n bs) bs h))
    go false ih h = absurd cc

on_front : (n : ℕ) (bs : List FrameData) (f : FrameData) → up_to n bs ≡ bs → nat_lt n f.seq ≡ false → up_to n (bs ++ f ∷ []) ≡ bs ++ f ∷ []
on_front n [] f e le = rw (le-leb f.seq n (ltb-false n f.seq le)) refl
on_front n (b ∷ bs) f e le = go (nat_le b.seq n) (λ h. on_front n bs f h le) e
  where
    go : (c : Bool) → (up_to n bs ≡ bs → up_to n (bs ++ f ∷ []) ≡ bs ++ f ∷ []) → cond c (b ∷ up_to n bs) [] ≡ b ∷ bs → cond c (b ∷ up_to n (bs ++ f ∷ [])) [] ≡ b ∷ (bs ++ f ∷ [])
    go true ih h = ap (λ (l : List FrameData). b ∷ l) (ih (tail_is b (up_to n bs) bs h))
    go false ih h = absurd cc

-- ---- an entry behind one that is past the number

pub gone_skip : (old : Going) (f : FrameData) → old.past ≡ true → Steps old (entry_item f None) old
gone_skip old f past = record { number = refl; gone = λ s first fs h. by s first fs h }
  where
    by : (s : State) (first : ℕ) (fs : List FrameData) → GoneTo s first fs old → GoneTo s first (fs ++ f ∷ []) old
    by s first [] h = absurd (let e : f ∷ [] ≡ [] = h.behind past (f ∷ []) in cc)
    by s first (g ∷ gs) h = record {
      judged = subst (λ (l : List FrameData). JudgedTo s first l (judge_view old.judge)) (sym (h.behind past (f ∷ []))) h.judged;
      begun = h.begun;
      whole = λ shut. apart (sym shut ∙ past);
      behind = λ p rest. ap (λ (l : List FrameData). front_to old.number (g ∷ l)) (append_assoc gs (f ∷ []) rest) ∙ h.behind past (f ∷ rest) ∙ sym (h.behind past (f ∷ []));
    }

-- ---- the first that is past it

pub gone_past : (old : Going) (f : FrameData) → old.past ≡ false → old.begun ≡ true → nat_lt old.number f.seq ≡ true → Steps old (entry_item f None) (record old { past = true })
gone_past old f shut begun lt = record { number = refl; gone = λ s first fs h. by s first fs h }
  where
    by : (s : State) (first : ℕ) (fs : List FrameData) → GoneTo s first fs old → GoneTo s first (fs ++ f ∷ []) (record old { past = true })
    by s first [] h = apart (sym h.begun ∙ begun)
    by s first (g ∷ gs) h =
        let whole : up_to old.number gs ≡ gs = tail_is g (up_to old.number gs) gs (h.whole shut) in
        let here : (rest : List FrameData) → up_to old.number (gs ++ f ∷ rest) ≡ gs = λ rest. past_front old.number gs f rest whole lt in
        record {
          judged = subst (λ (l : List FrameData). JudgedTo s first (g ∷ l) (judge_view old.judge)) (whole ∙ sym (here [])) h.judged;
          begun = h.begun;
          whole = λ p. apart (sym p);
          behind = λ p rest. ap (λ (l : List FrameData). g ∷ l) (ap (up_to old.number) (append_assoc gs (f ∷ []) rest) ∙ here rest ∙ sym (here []));
        }

-- ---- one that isn't

not_both : (b c : Bool) → (b && c) ≡ false → b ≡ true → c ≡ false
not_both true c e t = e
not_both false c e t = absurd cc

pub gone_on : (old : Going) (judge : Judge) (f : FrameData) → old.past ≡ false → (old.begun && nat_lt old.number f.seq) ≡ false → Judges (f ∷ []) (judge_view old.judge) (judge_view judge) → Steps old (entry_item f None) (record old { judge = judge; begun = true })
gone_on old judge f ahead not_past judges = record { number = refl; gone = λ s first fs h. by s first fs h }
  where
    by : (s : State) (first : ℕ) (fs : List FrameData) → GoneTo s first fs old → GoneTo s first (fs ++ f ∷ []) (record old { judge = judge; begun = true })
    by s first [] h = record {
      judged = judges s first [] h.judged;
      begun = refl;
      whole = λ p. refl;
      behind = λ p. apart (sym ahead ∙ p);
    }
    by s first (g ∷ gs) h =
        let whole : up_to old.number gs ≡ gs = tail_is g (up_to old.number gs) gs (h.whole ahead) in
        let here : up_to old.number (gs ++ f ∷ []) ≡ gs ++ f ∷ [] = on_front old.number gs f whole (not_both old.begun _ not_past h.begun) in
        let was : JudgedTo s first (g ∷ gs) (judge_view old.judge) = subst (λ (l : List FrameData). JudgedTo s first (g ∷ l) (judge_view old.judge)) whole h.judged in
        record {
          judged = subst (λ (l : List FrameData). JudgedTo s first (g ∷ l) (judge_view judge)) (sym here) (judges s first (g ∷ gs) was);
          begun = refl;
          whole = λ p. ap (λ (l : List FrameData). g ∷ l) here;
          behind = λ p. apart (sym ahead ∙ p);
        }

pub gone_start : (s : State) (first : ℕ) (g : Going) → JudgedTo s first [] (judge_view g.judge) → g.begun ≡ false → g.past ≡ false → GoneTo s first [] g
gone_start s first g judged begun past = record { judged = judged; begun = begun; whole = λ p. refl; behind = λ p. apart (sym past ∙ p) }

-- what is no entry
pub gone_none : (old : Going) (x : ItemData) → frame_in x ≡ [] → Steps old x old
gone_none old x none = record { number = refl; gone = λ s first fs h. subst (λ (l : List FrameData). GoneTo s first (fs ++ l) old) (sym none) (subst (λ (l : List FrameData). GoneTo s first l old) (sym (nil fs)) h) }
  where
    nil : (fs : List FrameData) → fs ++ [] ≡ fs
    nil fs = append-nil fs

-- ---- all entries

numbers_all : (xs : List ItemData) (a b : Going) → Takes Steps a xs b → b.number ≡ a.number
numbers_all [] a b t = ap (λ (g : Going). g.number) (sym t)
numbers_all (x ∷ xs) a b t = numbers_all xs t.0 b t.2 ∙ t.1.number

gone_all : (xs : List ItemData) (a b : Going) → Takes Steps a xs b → (s : State) (first : ℕ) (fs : List FrameData) → GoneTo s first fs a → GoneTo s first (fs ++ frames_of_items xs) b
gone_all [] a b t s first fs h = subst (λ (g : Going). GoneTo s first (fs ++ []) g) t (subst (λ (l : List FrameData). GoneTo s first l a) (sym (append-nil fs)) h)
gone_all (x ∷ xs) a b t s first fs h = subst (λ (l : List FrameData). GoneTo s first l b) (append_assoc fs (frame_in x) (frames_of_items xs)) (gone_all xs t.0 b t.2 s first (fs ++ frame_in x) (t.1.gone s first fs h))

-- what is up to a number is a front
front_of : (n : ℕ) (fs : List FrameData) → (rest : List FrameData) × (fs ≡ up_to n fs ++ rest)
front_of n [] = ([], refl)
front_of n (f ∷ fs) = go (nat_le f.seq n) (front_of n fs)
  where
    go : (b : Bool) → (rest : List FrameData) × (fs ≡ up_to n fs ++ rest) → (rest : List FrameData) × (f ∷ fs ≡ cond b (f ∷ up_to n fs) [] ++ rest)
    go true r = (r.0, ap (λ (l : List FrameData). f ∷ l) r.1)
    go false r = (f ∷ fs, refl)

-- entries that all replay have no fault among them
no_fault : {A : Type 0} (s : State) (first m n : ℕ) (f : FrameData) (fs : List FrameData) → is_committed s (f ∷ fs) ≡ true → Replays timed s (entries_of fs) → ((rest : List FrameData) → IsFaultFrom first s ((f ∷ up_to n fs) ++ rest) (Some m)) → A
no_fault s first m n f fs committed r told =
    let w = front_of n fs in
    let here : IsFaultByRoot (is_committed s (f ∷ fs)) first s (f ∷ fs) (Some m) = subst (λ (l : List FrameData). IsFaultByRoot (is_committed s (f ∷ l)) first s (f ∷ l) (Some m)) (sym w.1) (told w.0) in
    let fault : IsFaultNumber s fs (Some m) = subst (λ (b : Bool). IsFaultByRoot b first s (f ∷ fs) (Some m)) committed here in
    absurd (let e : None ≡ Some m = same_number s fs None (Some m) r fault in cc)

state_of_stand : (s : State) (first n : ℕ) (f : FrameData) (fs : List FrameData) (j : Judging) → is_committed s (f ∷ fs) ≡ true → Replays timed s (entries_of fs) → JudgedTo s first (f ∷ up_to n fs) j → j.stand.state ≡ state_at s n (f ∷ fs)
state_of_stand s first n f fs j committed r h = go j.fault refl h.told
  where
    go : (o : Option ℕ) → j.fault ≡ o → MatchOption o ((j.failed ≡ None) × Goes s (f ∷ up_to n fs) j) (λ m. (rest : List FrameData) → IsFaultFrom first s ((f ∷ up_to n fs) ++ rest) (Some m)) → j.stand.state ≡ state_at s n (f ∷ fs)
    go None is t = ap (λ (k : Stand State Made). k.state) (judged_stand s first f (up_to n fs) j is h).is
    go (Some m) is t = no_fault s first m n f fs committed r t

first_kept : (k : Kept) (j : JournalData) → AreKept k j → k.bounds.first ≡ j.header.first
first_kept k j h = ap (λ (b : Bounds). b.first) h.bounds

pub machine_is : (k : Kept) (s : State) (j : JournalData) (n : ℕ) (a b : Going) → FitsJournal j → GoneTo s k.bounds.first [] a → a.number ≡ n → Takes Steps a (items_in j) b → IsFaultFrom j.header.first s (entries j) None → b.judge.replay.stand.state ≡ state_at s n (entries j)
unfolding entries
machine_is k s j n a b fits start number t replays =
    let o = first_entry j fits in
    let split : frames_in (parts j) ≡ o.0 ∷ frames_in o.1 = ap frames_in o.2 in
    let r = journal_replays s j fits replays in
    let all : GoneTo s k.bounds.first (frames_in (parts j)) b = subst (λ (fs : List FrameData). GoneTo s k.bounds.first fs b) (frames_are j) (gone_all (items_in j) a b t s k.bounds.first [] start) in
    let is : b.number ≡ n = numbers_all (items_in j) a b t ∙ number in
    let judged : JudgedTo s k.bounds.first (front_to n (frames_in (parts j))) (judge_view b.judge) = subst (λ (m : ℕ). JudgedTo s k.bounds.first (front_to m (frames_in (parts j))) (judge_view b.judge)) is all.judged in
    let committed : is_committed s (o.0 ∷ frames_in o.1) ≡ true = subst (λ (fs : List FrameData). is_committed s fs ≡ true) split r.0 in
    let behind : Replays timed s (entries_of (frames_in o.1)) = subst (λ (fs : List FrameData). Replays timed s (entries_of (behind_first fs))) split r.1 in
    let here : JudgedTo s k.bounds.first (o.0 ∷ up_to n (frames_in o.1)) (judge_view b.judge) = subst (λ (fs : List FrameData). JudgedTo s k.bounds.first (front_to n fs) (judge_view b.judge)) split judged in
    subst (λ (fs : List FrameData). b.judge.replay.stand.state ≡ state_at s n fs) (sym split) (state_of_stand s k.bounds.first n o.0 (frames_in o.1) (judge_view b.judge) committed behind here)

pub both_of : (b c : Bool) → (b && c) ≡ true → (b ≡ true) × (c ≡ true)
both_of true c e = (refl, e)
both_of false c e = absurd cc
