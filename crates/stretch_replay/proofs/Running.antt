-- The entries behind a base up to a number, one item after another.
use Rattle.std.proofs.Common.{◌≡◌, ℕ, ◌≤◌, ◌<◌, arith, lt-ltb, Option, Bool, true, false, cond, nat_le, nat_lt, le-leb, List, [], ◌∷◌, ◌++◌, None, refl, sym, ap, subst, ◌∙◌, append_assoc, append-nil}
use Rattle.std.proofs.lemmas.Bool.{ltb-false, ltb-true, lt-leb}
use Rattle.avm_model.specs.Frame.{FrameData}
use Rattle.honest_model.specs.Keeps.{up_to}
use Rattle.journal_model.specs.Journal.{JournalData}
use Rattle.journal_model.specs.Part.{Part}
use Rattle.journal_model.specs.Standing.{SignedData}
use Rattle.jrnl_store.specs.Items.{ItemData, carried_item, entry_item, keep_item, seal_item, items_in}
use Rattle.open_keeps.specs.Search.{part_in, parts_of_items}
use Rattle.open_keeps.proofs.ItemParts.{parts_are}
use Rattle.open_replay.specs.Running.{frames_past, passed, still}
use Rattle.rebut_judge.specs.Judging.{Judges, Judging, judge_view}
use Rattle.rebut_judge.specs.declared.judge.Judge.{Judge}
use Rattle.rebut_judge.proofs.Judged.{judged_more, judged_none}
use Rattle.rebut_pass.specs.Passing.{Takes}
use Rattle.stretch_replay.specs.Running.{AreRun, IsRun, Runs}
use Rattle.stretch_replay.specs.declared.run.Run.{Run}

apart : {A : Type 0} → false ≡ true → A
apart e = absurd cc

tail_is : (b : FrameData) (xs ys : List FrameData) → b ∷ xs ≡ b ∷ ys → xs ≡ ys
tail_is b xs ys e = cc

-- ---- one entry behind those up to a number

past_front : (n : ℕ) (bs : List FrameData) (f : FrameData) (rest : List FrameData) → up_to n bs ≡ bs → nat_lt n f.seq ≡ true → up_to n (bs ++ f ∷ rest) ≡ bs
past_front n [] f rest e lt = rw (lt-leb f.seq n (ltb-true n f.seq lt)) refl
past_front n (b ∷ bs) f rest e lt = go (nat_le b.seq n) (λ h. past_front n bs f rest h lt) e
  where
    go : (c : Bool) → (up_to n bs ≡ bs → up_to n (bs ++ f ∷ rest) ≡ bs) → cond c (b ∷ up_to n bs) [] ≡ b ∷ bs → cond c (b ∷ up_to n (bs ++ f ∷ rest)) [] ≡ b ∷ bs
    go true ih h = ap (λ (l : List FrameData). b ∷ l) (ih (tail_is b (up_to n bs) bs h))
    go false ih h = absurd cc

on_front : (n : ℕ) (bs : List FrameData) (f : FrameData) → up_to n bs ≡ bs → nat_lt n f.seq ≡ false → up_to n (bs ++ f ∷ []) ≡ bs ++ f ∷ []
on_front n [] f e le = rw (le-leb f.seq n (ltb-false n f.seq le)) refl
on_front n (b ∷ bs) f e le = go (nat_le b.seq n) (λ h. on_front n bs f h le) e
  where
    go : (c : Bool) → (up_to n bs ≡ bs → up_to n (bs ++ f ∷ []) ≡ bs ++ f ∷ []) → cond c (b ∷ up_to n bs) [] ≡ b ∷ bs → cond c (b ∷ up_to n (bs ++ f ∷ [])) [] ≡ b ∷ (bs ++ f ∷ [])
    go true ih h = ap (λ (l : List FrameData). b ∷ l) (ih (tail_is b (up_to n bs) bs h))
    go false ih h = absurd cc

-- ---- one item

-- no entry, or one in front of the base
pub runs_none : (old new : Run) (x : ItemData) → new.judge ≡ old.judge → new.number ≡ old.number → new.past ≡ old.past → new.skip ≡ still old.skip x → passed old.skip x ≡ [] → Runs old x new
runs_none old new x judge number past skip none = record {
  number = number;
  skip = skip;
  runs = λ from fs h.
      let same : fs ++ passed old.skip x ≡ fs = ap (λ (l : List FrameData). fs ++ l) none ∙ append-nil fs in
      subst (λ (l : List FrameData). IsRun from l new) (sym same) (record {
        judges = subst (λ (j : Judge). Judges (up_to new.number fs) from (judge_view j)) (sym judge) (subst (λ (n : ℕ). Judges (up_to n fs) from (judge_view old.judge)) (sym number) h.judges);
        whole = λ e. subst (λ (n : ℕ). up_to n fs ≡ fs) (sym number) (h.whole (sym past ∙ e));
        behind = λ e rest. subst (λ (n : ℕ). up_to n (fs ++ rest) ≡ up_to n fs) (sym number) (h.behind (sym past ∙ e) rest);
      });
}

-- an entry behind one that is past the number
pub runs_skip : (old : Run) (f : FrameData) → old.past ≡ true → Runs old (entry_item f None) old
runs_skip old f past = record {
  number = refl;
  skip = refl;
  runs = λ from fs h. record {
    judges = subst (λ (l : List FrameData). Judges l from (judge_view old.judge)) (sym (h.behind past (passed old.skip (entry_item f None)))) h.judges;
    whole = λ e. apart (sym e ∙ past);
    behind = λ e rest.
        let more = passed old.skip (entry_item f None) in
        ap (up_to old.number) (append_assoc fs more rest) ∙ h.behind past (more ++ rest) ∙ sym (h.behind past more);
  };
}

one_passed : (n : ℕ) (f : FrameData) → n ≡ 0 → passed n (entry_item f None) ≡ f ∷ []
one_passed n f e = rw e refl

-- the first that is past it
pub runs_past : (old : Run) (f : FrameData) → old.skip ≡ 0 → old.past ≡ false → nat_lt old.number f.seq ≡ true → Runs old (entry_item f None) (record old { past = true })
runs_past old f here early lt = record {
  number = refl;
  skip = refl;
  runs = λ from fs h.
      let whole = h.whole early in
      let cut = past_front old.number fs f in
      subst (λ (l : List FrameData). IsRun from (fs ++ l) (record old { past = true })) (sym (one_passed old.skip f here)) (record {
        judges = subst (λ (l : List FrameData). Judges l from (judge_view old.judge)) (whole ∙ sym (cut [] whole lt)) h.judges;
        whole = λ e. apart (sym e);
        behind = λ e rest. ap (up_to old.number) (append_assoc fs (f ∷ []) rest) ∙ cut rest whole lt ∙ sym (cut [] whole lt);
      });
}

-- one up to it
pub runs_on : (old new : Run) (f : FrameData) → old.skip ≡ 0 → old.past ≡ false → nat_lt old.number f.seq ≡ false → new.number ≡ old.number → new.skip ≡ old.skip → new.past ≡ old.past → Judges (f ∷ []) (judge_view old.judge) (judge_view new.judge) → Runs old (entry_item f None) new
runs_on old new f here early low number skip past judges = record {
  number = number;
  skip = skip;
  runs = λ from fs h.
      let whole = h.whole early in
      let on = on_front old.number fs f whole low in
      let up : up_to new.number (fs ++ f ∷ []) ≡ fs ++ f ∷ [] = ap (λ (n : ℕ). up_to n (fs ++ f ∷ [])) number ∙ on in
      let was : Judges fs from (judge_view old.judge) = subst (λ (l : List FrameData). Judges l from (judge_view old.judge)) whole h.judges in
      subst (λ (l : List FrameData). IsRun from (fs ++ l) new) (sym (one_passed old.skip f here)) (record {
        judges = subst (λ (l : List FrameData). Judges l from (judge_view new.judge)) (sym up) (judged_more from (judge_view old.judge) (judge_view new.judge) fs (f ∷ []) was judges);
        whole = λ e. up;
        behind = λ e rest. apart (sym early ∙ sym past ∙ e);
      });
}

-- numbers that are compared
pub not_past : (n m : ℕ) → m ≤ n → nat_lt n m ≡ false
not_past n m le = go (nat_lt n m) refl
  where
    go : (b : Bool) → nat_lt n m ≡ b → b ≡ false
    go true e = absurd (let lt = ltb-true n m e in omega (arith, lt, le))
    go false e = refl

pub is_past : (n m : ℕ) → n < m → nat_lt n m ≡ true
is_past n m lt = lt-ltb n m lt

pub runs_as : (old new : Run) (x : ItemData) (f : FrameData) (t : Option SignedData) → x ≡ entry_item f t → Runs old (entry_item f None) new → Runs old x new
runs_as old new x f t e h = subst (λ (y : ItemData). Runs old y new) (sym e) (record { number = h.number; skip = h.skip; runs = h.runs })

-- ---- all items

past_item : (n : ℕ) (x : ItemData) (ps : List Part) → passed n x ++ frames_past (still n x) ps ≡ frames_past n (part_in x ++ ps)
past_item n (carried_item f s) ps = refl
past_item n (entry_item f t) ps = refl
past_item n (seal_item s) ps = refl
past_item n (keep_item k) ps = refl

-- the number, and what was judged
record RunTo (a b : Run) (from : Judging) (fs : List FrameData) : Type 0 where
  pub number : b.number ≡ a.number
  pub is : IsRun from fs b

runs_all : (xs : List ItemData) (a b : Run) → Takes Runs a xs b → (from : Judging) (fs : List FrameData) → IsRun from fs a → RunTo a b from (fs ++ frames_past a.skip (parts_of_items xs))
runs_all [] a b t from fs h = subst (λ (r : Run). RunTo a r from (fs ++ [])) t (record { number = refl; is = subst (λ (l : List FrameData). IsRun from l a) (sym (append-nil fs)) h })
runs_all (x ∷ xs) a b t from fs h =
    let next = t.0 in
    let rest = runs_all xs next b t.2 from (fs ++ passed a.skip x) (t.1.runs from fs h) in
    let all : (fs ++ passed a.skip x) ++ frames_past next.skip (parts_of_items xs) ≡ fs ++ frames_past a.skip (part_in x ++ parts_of_items xs) =
    append_assoc fs (passed a.skip x) (frames_past next.skip (parts_of_items xs)) ∙ ap (λ (n : ℕ). fs ++ (passed a.skip x ++ frames_past n (parts_of_items xs))) t.1.skip ∙ ap (λ (l : List FrameData). fs ++ l) (past_item a.skip x (parts_of_items xs)) in
    record { number = rest.number ∙ t.1.number; is = subst (λ (l : List FrameData). IsRun from l b) all rest.is }

pub are_run : (j : JournalData) (a b : Run) → Takes Runs a (items_in j) b → a.past ≡ false → AreRun j a.number a.skip a.judge b
are_run j a b t early =
    let first : IsRun (judge_view a.judge) [] a = record { judges = judged_none (judge_view a.judge); whole = λ e. refl; behind = λ e rest. apart (sym early ∙ e) } in
    let r = runs_all (items_in j) a b t (judge_view a.judge) [] first in
    let judges : Judges (up_to a.number (frames_past a.skip (parts_of_items (items_in j)))) (judge_view a.judge) (judge_view b.judge) =
    subst (λ (n : ℕ). Judges (up_to n (frames_past a.skip (parts_of_items (items_in j)))) (judge_view a.judge) (judge_view b.judge)) r.number r.is.judges in
    subst (λ (ps : List Part). Judges (up_to a.number (frames_past a.skip ps)) (judge_view a.judge) (judge_view b.judge)) (parts_are j) judges
