-- What a whole pass over a journal's items tells.
use Rattle.std.proofs.Common.{◌≡◌, ℕ, List, [], ◌∷◌, ◌++◌, Option, option_map, sym, ap, subst, ◌∙◌, append-nil, append_assoc}
use Rattle.avm_model.specs.Evidence.{EvidData}
use Rattle.avm_model.specs.Frame.{FrameData}
use Rattle.avm_model.specs.Machine.{State}
use Rattle.honest_model.specs.Honest.{IsFaultFrom}
use Rattle.journal_model.specs.Journal.{JournalData, entries}
use Rattle.jrnl_store.specs.Items.{ItemData, items_in}
use Rattle.jrnl_store.specs.Kept.{Kept}
use Rattle.jrnl_store.specs.Own.{AreKept}
use Rattle.journal_model.specs.Standing.{Bounds}
use Rattle.rebut_texts.specs.Found.{found_view}
use Rattle.rebut_texts.specs.Walk.{walk_view, finds}
use Rattle.rebut_pass.specs.Items.{frame_in, frames_of_items}
use Rattle.rebut_judge.specs.Judging.{judge_view, Judges, JudgedTo}
use Rattle.rebut_pass.specs.Looking.{Looking, sought_view, looked_all}
use Rattle.rebut_pass.specs.Passing.{Takes}
use Rattle.rebut_judge.specs.Reading.{Reads}
use Rattle.rebuttal.specs.Seen.{IsSeen, first_auth, second_auth}
use Rattle.rebuttal.specs.Starts.{IsStart}
use Rattle.rebut_judge.specs.declared.reading.Reading.{Reading}
use Rattle.rebuttal.specs.declared.seen.Seen.{Seen}
use Rattle.rebut_pass.proofs.ItemFacts.{frames_are}
use Rattle.rebut_judge.proofs.Judged.{judged_none, judged_more, judged_end}
use Rattle.rebut_pass.proofs.Looked.{bound_found}

judges_all : (xs : List ItemData) (a b : Reading) → Takes Reads a xs b → Judges (frames_of_items xs) (judge_view a.judge) (judge_view b.judge)
judges_all [] a b t = subst (λ (r : Reading). Judges [] (judge_view a.judge) (judge_view r.judge)) t (judged_none (judge_view a.judge))
judges_all (x ∷ xs) a b t = judged_more (judge_view a.judge) (judge_view t.0.judge) (judge_view b.judge) (frame_in x) (frames_of_items xs) t.1.judge (judges_all xs t.0 b t.2)

one_all : (xs : List ItemData) (a b : Reading) → Takes Reads a xs b → sought_view b.one ≡ looked_all (sought_view a.one) xs
one_all [] a b t = ap (λ (r : Reading). sought_view r.one) (sym t)
one_all (x ∷ xs) a b t = one_all xs t.0 b t.2 ∙ ap (λ (v : Looking). looked_all v xs) t.1.one

two_all : (xs : List ItemData) (a b : Reading) → Takes Reads a xs b → sought_view b.two ≡ looked_all (sought_view a.two) xs
two_all [] a b t = ap (λ (r : Reading). sought_view r.two) (sym t)
two_all (x ∷ xs) a b t = two_all xs t.0 b t.2 ∙ ap (λ (v : Looking). looked_all v xs) t.1.two

walk_all : (xs : List ItemData) (a b : Reading) → Takes Reads a xs b → (fs : List FrameData) → finds (walk_view b.walk) fs ≡ finds (walk_view a.walk) (frames_of_items xs ++ fs)
walk_all [] a b t fs = ap (λ (r : Reading). finds (walk_view r.walk) fs) (sym t)
walk_all (x ∷ xs) a b t fs = walk_all xs t.0 b t.2 fs ∙ t.1.walk (frames_of_items xs ++ fs) ∙ ap (finds (walk_view a.walk)) (sym (append_assoc (frame_in x) (frames_of_items xs) fs))

first_kept : (k : Kept) (j : JournalData) → AreKept k j → k.bounds.first ≡ j.header.first
first_kept k j h = ap (λ (b : Bounds). b.first) h.bounds

-- the whole journal was read
pub seen_all : (k : Kept) (s : State) (j : JournalData) (e : EvidData) (a b : Reading) (x : Seen) → AreKept k j → IsStart k s e a → Takes Reads a (items_in j) b
    → x.fault ≡ b.judge.fault → x.one ≡ b.one.found → x.two ≡ b.two.found → option_map found_view x.found ≡ finds (walk_view b.walk) [] → IsSeen s j e x
seen_all k s j e a b x kept start t fault one two found =
    let first = first_kept k j kept in
    let judged : JudgedTo s k.bounds.first (entries j) (judge_view b.judge) = subst (λ (fs : List FrameData). JudgedTo s k.bounds.first fs (judge_view b.judge)) (frames_are j) (judges_all (items_in j) a b t s k.bounds.first [] start.judge) in
    record {
      fault = subst (λ (o : Option ℕ). IsFaultFrom j.header.first s (entries j) o) (sym fault) (subst (λ (n : ℕ). IsFaultFrom n s (entries j) b.judge.fault) first (judged_end s k.bounds.first (entries j) (judge_view b.judge) judged));
      one = one ∙ ap (λ (v : Looking). v.found) (one_all (items_in j) a b t ∙ ap (λ (v : Looking). looked_all v (items_in j)) start.one) ∙ bound_found j k (first_auth e) first kept.before;
      two = two ∙ ap (λ (v : Looking). v.found) (two_all (items_in j) a b t ∙ ap (λ (v : Looking). looked_all v (items_in j)) start.two) ∙ bound_found j k (second_auth e) first kept.before;
      found = found ∙ walk_all (items_in j) a b t [] ∙ ap (finds (walk_view a.walk)) (append-nil (frames_of_items (items_in j)) ∙ frames_are j) ∙ start.walk j (sym kept.before);
    }
