-- The frames of a journal's entries.
use Rattle.std.proofs.Common.{◌≡◌, ℕ, true, List, [], ◌∷◌, ◌++◌, refl, ap, subst, ◌∙◌}
use Rattle.std.specs.List.{AllByRecursion, flat_map}
use Rattle.std.proofs.lemmas.List.Elements.{All-from_recursion}
use Rattle.avm_num.specs.Lists.{list_bytes}
use Rattle.avm_num.specs.Walk.{behind_of, is_nil}
use Rattle.avm_num.proofs.Numbers.{kept_some}
use Rattle.avm_num.proofs.Walks.{all_again}
use Rattle.avm_model.specs.Frame.{FitsFrame, FrameData, frame_at, frame_bytes, frames_of}
use Rattle.honest_model.specs.Keeps.{up_to}
use Rattle.journal_model.specs.Journal.{JournalData, entries, parts}
use Rattle.journal_model.specs.Part.{Part, entry, frames_in, keep, seal}
use Rattle.journal_spelling.specs.Spelled.{FitsPart, FitsRecord, HasSpelling}
use Rattle.log_entry.proofs.FrameLaws.{frame_shortens, reads_frame}
use Rattle.acceptance_laws.proofs.Ranges.{up_to_front}

all_join : {A : Type 0} (P : A → Type 0) (xs ys : List A) → AllByRecursion P xs → AllByRecursion P ys → AllByRecursion P (xs ++ ys)
all_join P [] ys a b = b
all_join P (x ∷ xs) ys a b = (a.0, all_join P xs ys a.1 b)

pub all_front : {A : Type 0} (P : A → Type 0) (xs ys : List A) → AllByRecursion P (xs ++ ys) → AllByRecursion P xs
all_front P [] ys a = tt
all_front P (x ∷ xs) ys a = (a.0, all_front P xs ys a.1)

pub all_back : {A : Type 0} (P : A → Type 0) (xs ys : List A) → AllByRecursion P (xs ++ ys) → AllByRecursion P ys
all_back P [] ys a = a
all_back P (x ∷ xs) ys a = all_back P xs ys a.1

pub parts_fit : (rs : List (List Part)) → AllByRecursion FitsRecord rs → AllByRecursion FitsPart (flat_map (λ (r : List Part). r) rs)
parts_fit [] a = tt
parts_fit (r ∷ rs) a = all_join FitsPart r (flat_map (λ (r : List Part). r) rs) a.0.parts (parts_fit rs a.1)

frames_fit : (ps : List Part) → AllByRecursion FitsPart ps → AllByRecursion FitsFrame (frames_in ps)
frames_fit [] a = tt
frames_fit (entry f ∷ ps) a = (a.0, frames_fit ps a.1)
frames_fit (seal ∷ ps) a = frames_fit ps a.1
frames_fit (keep k ∷ ps) a = frames_fit ps a.1

pub entries_fit : (j : JournalData) → HasSpelling j → AllByRecursion FitsFrame (entries j)
unfolding entries parts
entries_fit j w = frames_fit (flat_map (λ (r : List Part). r) j.records) (parts_fit j.records w.records)

pub up_to_fit : (n : ℕ) (fs : List FrameData) → AllByRecursion FitsFrame fs → AllByRecursion FitsFrame (up_to n fs)
up_to_fit n fs all = let r = up_to_front n fs in all_front FitsFrame (up_to n fs) r.rest (subst (AllByRecursion FitsFrame) r.is all)

-- ---- frames that are spelled are read

same_bytes : (gs : List FrameData) → flat_map frame_bytes gs ≡ list_bytes frame_bytes gs
same_bytes [] = refl
same_bytes (g ∷ gs) = ap (λ (l : List ℕ). frame_bytes g ++ l) (same_bytes gs)

pub record Again (gs : List FrameData) : Type 0 where
  pub frames : frames_of (flat_map frame_bytes gs) ≡ gs
  pub nothing : is_nil (behind_of frame_at (flat_map frame_bytes gs)) ≡ true

pub again : (gs : List FrameData) → AllByRecursion FitsFrame gs → Again gs
again gs all =
    let a = all_again frame_at frame_bytes FitsFrame reads_frame frame_shortens gs (All-from_recursion FitsFrame gs all) in
    let k = kept_some (is_nil (behind_of frame_at (list_bytes frame_bytes gs))) (frames_of (list_bytes frame_bytes gs)) gs a in
    record { frames = ap frames_of (same_bytes gs) ∙ k.1; nothing = ap (λ (b : List ℕ). is_nil (behind_of frame_at b)) (same_bytes gs) ∙ k.0 }
