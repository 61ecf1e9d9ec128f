-- Parts of a journal as a log.
use Rattle.journal_model.proofs.Judging.{parts_push}
use Rattle.std.proofs.Common.{◌≡◌, true, List, [], ◌∷◌, ◌++◌, map, refl, ap, ◌∙◌}
use Rattle.avm_model.specs.Machine.{State}
use Rattle.avm_model.specs.Frame.{FrameData}
use Rattle.avm_model.specs.Reference.{entry_of_frame, entries_of}
use Rattle.avm_model.specs.Audit.{is_committed}
use Rattle.honest_model.specs.Honest.{HasFirst, log_of}
use Rattle.journal_model.specs.Journal.{JournalData, parts, with_record}
use Rattle.journal_model.proofs.Prefixes.{frames_append}
use Rattle.journal_model.specs.Part.{KeepData, Part, entry, frames_in, keep, keeps_in, seal}

pub keeps-append : (a b : List Part) → keeps_in (a ++ b) ≡ keeps_in a ++ keeps_in b
keeps-append [] b = refl
keeps-append (entry f ∷ a) b = keeps-append a b
keeps-append (seal ∷ a) b = keeps-append a b
keeps-append (keep k ∷ a) b = ap (λ (ks : List KeepData). k ∷ ks) (keeps-append a b)

-- a record more is its parts more
pub record-parts : (j : JournalData) (r : List Part) → parts (with_record j r) ≡ parts j ++ r
record-parts j r = parts_push j r

pub map-append : {A B : Type 0} (f : A → B) (a b : List A) → map f (a ++ b) ≡ map f a ++ map f b
map-append f [] b = refl
map-append {A} {B} f (x ∷ a) b = ap (λ (ys : List B). f x ∷ ys) (map-append f a b)

never : (s : State) → is_committed s [] ≡ true → ⊥
unfolding is_committed
never s q = absurd cc

pub has_first : (s : State) (parts : List Part) → is_committed s (frames_in parts) ≡ true → HasFirst parts
has_first s parts h = go (frames_in parts) refl h
  where
    go : (fs : List FrameData) → frames_in parts ≡ fs → is_committed s fs ≡ true → HasFirst parts
    go [] e q = absurd (never s q)
    go (f ∷ fs) e q = record { frame = f; frames = fs; is = e }

pub first-append : (a b : List Part) → HasFirst a → HasFirst (a ++ b)
first-append a b h = record { frame = h.frame; frames = h.frames ++ frames_in b; is = frames_append a b ∙ rw h.is refl }

-- behind a first entry the log goes on with more
pub log-append : (a b : List Part) → HasFirst a → log_of (a ++ b) ≡ log_of a ++ entries_of (frames_in b)
log-append a b h =
    let all : frames_in (a ++ b) ≡ h.frame ∷ (h.frames ++ frames_in b) = frames_append a b ∙ rw h.is refl in
    rw (all, h.is) (map-append entry_of_frame h.frames (frames_in b))

-- whether the first entry is committed is the same with more behind
pub committed-append : (s : State) (a b : List Part) → HasFirst a → is_committed s (frames_in (a ++ b)) ≡ is_committed s (frames_in a)
unfolding is_committed
committed-append s a b h =
    let all : frames_in (a ++ b) ≡ h.frame ∷ (h.frames ++ frames_in b) = frames_append a b ∙ rw h.is refl in
    rw (all, h.is) refl
