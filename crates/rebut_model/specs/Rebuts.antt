-- What the owner of a journal answers to evidence that holds: an authenticator that the journal has never signed, or two texts of
-- one hash (docs/FORMATS.md, "Evidence").
use Rattle.std.specs.Prelude.{◌≡◌, ◌≢◌, ℕ, ◌&&◌, not, nat_le, nat_lt, Bool, true, List, [], ◌∷◌, ◌++◌, Option, Some, None}
use Rattle.std.specs.Option.{option_map}
use Rattle.avm_model.specs.Basics.{first_at, or_else}
use Rattle.avm_model.specs.Auth.{AuthData}
use Rattle.avm_model.specs.Frame.{FrameData, frames_of}
use Rattle.avm_model.specs.Machine.{State}
use Rattle.avm_model.specs.Head.{HeadData}
use Rattle.avm_model.specs.Segment.{SegmentData, whole_segment_of}
use Rattle.avm_model.specs.Audit.{snapshot, entry_frames, last_number}
use Rattle.avm_model.specs.Evidence.{EvidData, double, fork, replay, FitsEvidence}
use Rattle.avm_model.specs.Hash.{hash_of}
use Rattle.avm_model.specs.Holds.{Holds}
use Rattle.rebut_model.specs.Texts.{Texts, first_of_all, differ, collide, entry_texts, from_number, state_at, state_texts, OfHead}
use Rattle.honest_model.specs.Honest.{IsFaultFrom}
use Rattle.journal_model.specs.Fits.{FitsJournal}
use Rattle.journal_model.specs.Journal.{JournalData, entries}
use Rattle.rebut_model.specs.Bound.{is_bound}

-- authenticator k was never signed, or a text of the journal and one of the evidence have one hash
pub data Answer : Type 0 where
  forged : ℕ → Answer
  collision : List ℕ → List ℕ → Answer

-- the authenticators inside evidence, in order
abbrev pub auths_of : EvidData → List AuthData
auths_of (double key a b) = a ∷ b ∷ []
auths_of (fork key start before frames top other) = top ∷ other ∷ []
auths_of (replay key segment top) = top ∷ []

-- ---- cover

abbrev pub start_of : Option (SegmentData × HeadData) → ℕ
start_of None = 0
start_of (Some p) = p.0.front.start

-- the least and the greatest number of evidence that holds
abbrev pub low_number : EvidData → ℕ
low_number (double key a b) = a.seq
low_number (fork key start before frames top other) = start
low_number (replay key segment top) = start_of (whole_segment_of segment)

abbrev pub high_number : EvidData → ℕ
high_number (double key a b) = a.seq
high_number (fork key start before frames top other) = top.seq
high_number (replay key segment top) = top.seq

-- a retired journal doesn't speak of its last number, nor of what follows
abbrev pub below_mark : Option ℕ → ℕ → ℕ → Bool
below_mark None last n = true
below_mark (Some m) last n = nat_lt n last

unfoldable pub covers : JournalData → EvidData → Bool
covers j e = nat_le j.header.first (low_number e) && below_mark j.mark (last_number 0 (entries j)) (high_number e)

-- ---- the texts that are compared, in order

abbrev pub numbered_texts : JournalData → ℕ → List ℕ → List FrameData → List Texts
numbered_texts j start g es = let p = from_number start j.header.before (entries j) in entry_texts p.before p.frames g es

abbrev pub segment_texts : State → JournalData → Option (SegmentData × HeadData) → List Texts
segment_texts s j None = []
segment_texts s j (Some p) =
    numbered_texts j p.0.front.start p.0.front.before (entry_frames p.0)
    ++ state_texts (state_at s p.0.front.start (entries j)) (snapshot p.0 p.1)

-- at each number from top's down the link text and then the content; for a replay then the state text and the page tree
unfoldable pub compared : State → JournalData → EvidData → List Texts
compared s j (double key a b) = []
compared s j (fork key start before frames top other) = numbered_texts j start before (frames_of frames)
compared s j (replay key segment top) = segment_texts s j (whole_segment_of segment)

-- Rebuts(J, evidence), s being the state of the journal's header: the first authenticator that isn't bound, else the first
-- unequal texts of one hash
unfoldable pub rebuts : State → JournalData → EvidData → Option Answer
rebuts s j e =
    or_else (option_map forged (first_at (λ a. not (is_bound j a)) 0 (auths_of e)))
    (option_map (λ t. collision t.ours t.theirs) (first_of_all collide (compared s j e)))

-- where no link text and no content differs, the states that are compared for a replay are told whole by their heads and pages
abbrev pub OfHeads : State → JournalData → EvidData → Type 0
OfHeads s j (double key a b) = Unit {0}
OfHeads s j (fork key start before frames top other) = Unit {0}
OfHeads s j (replay key segment top) =
    (p : SegmentData × HeadData) → whole_segment_of segment ≡ Some p → first_of_all differ (numbered_texts j p.0.front.start p.0.front.before (entry_frames p.0)) ≡ None
    → OfHead (state_at s p.0.front.start (entries j)) × OfHead (snapshot p.0 p.1)

-- what the owner is given: a journal that replays, and evidence that holds and is covered by it
pub record Given (s : State) (j : JournalData) (e : EvidData) : Type 0 where
  pub journal : FitsJournal j
  pub replays : IsFaultFrom j.header.first s (entries j) None
  pub fits : FitsEvidence e
  pub holds : Holds e
  pub covered : covers j e ≡ true

-- the texts of a collision
abbrev pub Collides : Answer → Type 0
Collides (forged k) = Unit {0}
Collides (collision a b) = (a ≢ b) × (hash_of a ≡ hash_of b)
