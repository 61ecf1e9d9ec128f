-- The entries that are compared, and the states.
use Rattle.std.proofs.Common.{◌≡◌, ℕ, Bool, true, false, cond, List, [], ◌∷◌, ◌++◌, Option, Some, None, refl, sym, ap, ◌∙◌, append-nil}
use Rattle.avm_num.specs.Walk.{items_of}
use Rattle.avm_model.specs.Audit.{snapshot}
use Rattle.avm_model.specs.Evidence.{EvidData, double, fork, replay}
use Rattle.avm_model.specs.Frame.{FrameData, frames_of}
use Rattle.avm_model.specs.Head.{HeadData}
use Rattle.avm_model.specs.Machine.{State}
use Rattle.avm_model.specs.Segment.{SegmentData, whole_segment_of}
use Rattle.journal_model.specs.Journal.{JournalData, entries}
use Rattle.rebut_model.specs.Rebuts.{numbered_texts, segment_texts, compared}
use Rattle.rebut_model.specs.Texts.{Texts, first_of_all, differ, entry_texts, from_number, state_at, state_texts}
use Rattle.rebuttal.specs.Seen.{entry_part, entries_beside}

none_beside : (h : List ℕ) (fs : List FrameData) (g : List ℕ) → entry_texts h fs g [] ≡ []
none_beside h [] g = refl
none_beside h (f ∷ fs) g = refl

no_frames : frames_of [] ≡ []
unfolding items_of
no_frames = refl

pub none_told : (j : JournalData) (start : ℕ) (before frames : List ℕ) → frames ≡ [] → numbered_texts j start before (frames_of frames) ≡ []
none_told j start before frames e =
    ap (λ (bytes : List ℕ). numbered_texts j start before (frames_of bytes)) e
    ∙ ap (numbered_texts j start before) no_frames
    ∙ none_beside (from_number start j.header.before (entries j)).before (from_number start j.header.before (entries j)).frames before

-- ---- all texts are those of entries and those of states

abbrev pub states_beside : State → JournalData → Option (SegmentData × HeadData) → List Texts
states_beside s j None = []
states_beside s j (Some p) = state_texts (state_at s p.0.front.start (entries j)) (snapshot p.0 p.1)

abbrev pub state_part : State → JournalData → EvidData → List Texts
state_part s j (double key a b) = []
state_part s j (fork key start before frames top other) = []
state_part s j (replay key segment top) = states_beside s j (whole_segment_of segment)

segment_parts : (s : State) (j : JournalData) (o : Option (SegmentData × HeadData)) → segment_texts s j o ≡ entries_beside j o ++ states_beside s j o
segment_parts s j None = refl
segment_parts s j (Some p) = refl

pub compared_parts : (s : State) (j : JournalData) (e : EvidData) → compared s j e ≡ entry_part j e ++ state_part s j e
unfolding compared
compared_parts s j (double key a b) = refl
compared_parts s j (fork key start before frames top other) = sym (append-nil (numbered_texts j start before (frames_of frames)))
compared_parts s j (replay key segment top) = segment_parts s j (whole_segment_of segment)

-- ---- the first that differ

pub first_some : (xs ys : List Texts) (t : Texts) → first_of_all differ xs ≡ Some t → first_of_all differ (xs ++ ys) ≡ Some t
first_some [] ys t e = absurd cc
first_some (x ∷ xs) ys t e = go (differ x) (first_some xs ys t) e
  where
    go : (b : Bool) → (first_of_all differ xs ≡ Some t → first_of_all differ (xs ++ ys) ≡ Some t) → cond b (Some x) (first_of_all differ xs) ≡ Some t → cond b (Some x) (first_of_all differ (xs ++ ys)) ≡ Some t
    go true f h = h
    go false f h = f h

pub first_none : (xs ys : List Texts) → first_of_all differ xs ≡ None → first_of_all differ (xs ++ ys) ≡ first_of_all differ ys
first_none [] ys e = refl
first_none (x ∷ xs) ys e = go (differ x) (first_none xs ys) e
  where
    go : (b : Bool) → (first_of_all differ xs ≡ None → first_of_all differ (xs ++ ys) ≡ first_of_all differ ys) → cond b (Some x) (first_of_all differ xs) ≡ None → cond b (Some x) (first_of_all differ (xs ++ ys)) ≡ first_of_all differ ys
    go true f h = absurd cc
    go false f h = f h

pub found_in_entries : (s : State) (j : JournalData) (e : EvidData) (t : Texts) → Some t ≡ first_of_all differ (entry_part j e) → Some t ≡ first_of_all differ (compared s j e)
found_in_entries s j e t f = sym (ap (first_of_all differ) (compared_parts s j e) ∙ first_some (entry_part j e) (state_part s j e) t (sym f))

pub found_in_states : (s : State) (j : JournalData) (e : EvidData) (o : Option Texts) → first_of_all differ (entry_part j e) ≡ None → o ≡ first_of_all differ (state_part s j e) → o ≡ first_of_all differ (compared s j e)
found_in_states s j e o none f = f ∙ sym (ap (first_of_all differ) (compared_parts s j e) ∙ first_none (entry_part j e) (state_part s j e) none)
