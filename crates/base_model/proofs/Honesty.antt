-- A moved journal leads where the one leads from which it was moved.
use Rattle.std.proofs.Common.{◌≡◌, ℕ, ◌+◌, ◌==◌, true, List, [], ◌∷◌, ◌++◌, length, drop, Some, refl, sym, ap, subst, ◌∙◌, arith, inl, inr, eqb-true, ne_eqb, eq-eqb}
use Rattle.std.proofs.lemmas.List.{drop_at}
use Rattle.avm_num.proofs.Numbers.{and_true}
use Rattle.avm_model.specs.Machine.{State}
use Rattle.avm_model.specs.Content.{snap, content_at}
use Rattle.avm_model.specs.Frame.{FrameData}
use Rattle.avm_model.specs.Entries.{numbered}
use Rattle.avm_model.specs.Reference.{timed, entries_of}
use Rattle.avm_model.specs.Rerun.{Stands, start}
use Rattle.avm_model.specs.Audit.{is_committed, behind_first, commits_to}
use Rattle.journal_model.specs.Part.{Part, entry, seal, keep, frames_in}
use Rattle.journal_model.specs.Journal.{JournalData, parts, entries}
use Rattle.journal_model.specs.Fits.{FitsJournal}
use Rattle.journal_model.proofs.Prefixes.{frames_append}
use Rattle.journal_model.proofs.Fitting.{entries_numbered}
use Rattle.honest_model.specs.Honest.{header_state, IsHonest, Leads, HasFirst}
use Rattle.honest_model.specs.KeepPages.{WritesHead}
use Rattle.honest_model.proofs.Exports.{exports}
use Rattle.honest_model.proofs.Honesty.{leads_honest}
use Rattle.base_model.specs.Base.{Moves, before_entry, records_from, MovedState, moved, base_header, moved_state, moved_at}
use Rattle.base_model.proofs.Moves.{all_parts, split_frames}

-- the parts before an entry of numbered ones
before_is : (n k : ℕ) (before behind : List Part) (f : FrameData) → numbered k (frames_in (before ++ entry f ∷ behind)) ≡ true → f.seq ≡ n → (before_entry n (before ++ entry f ∷ behind) ≡ before) × (n ≡ k + length (frames_in before))
before_is n k [] behind f num is =
    let p = and_true (f.seq == k) _ num in
    let at : f.seq ≡ k = eqb-true f.seq k p.0 in
    (rw (eq-eqb f.seq n is) refl, omega (arith, at, is))
before_is n k (seal ∷ before) behind f num is = let i = before_is n k before behind f num is in (ap (λ (ps : List Part). seal ∷ ps) i.0, i.1)
before_is n k (keep q ∷ before) behind f num is = let i = before_is n k before behind f num is in (ap (λ (ps : List Part). keep q ∷ ps) i.0, i.1)
before_is n k (entry g ∷ before) behind f num is =
    let p = and_true (g.seq == k) (numbered (k + 1) (frames_in (before ++ entry f ∷ behind))) num in
    let at : g.seq ≡ k = eqb-true g.seq k p.0 in
    let i = before_is n (k + 1) before behind f p.1 is in
    let count = i.1 in
    (rw (ne_eqb g.seq n (λ (q : g.seq ≡ n). omega (arith, q, at, count))) (ap (λ (ps : List Part). entry g ∷ ps) i.0), omega (arith, count))

behind_same : (a x y : List FrameData) → a ++ x ≡ a ++ y → x ≡ y
behind_same a x y e = sym (drop_at a x (length a) refl) ∙ ap (drop (length a)) e ∙ drop_at a y (length a) refl

-- the entries of a moved journal are those from entry n on
pub moved_frames : (j : JournalData) (n : ℕ) (s : MovedState) (before behind : List Part) (f : FrameData) → FitsJournal j → parts j ≡ before ++ entry f ∷ behind → f.seq ≡ n → (frames_in (parts (moved j n s)) ≡ f ∷ frames_in behind) × (n ≡ j.header.first + length (frames_in (before_entry n (parts j))))
unfolding moved parts entries
moved_frames j n s before behind f w split is =
    let num : numbered j.header.first (frames_in (all_parts j.records)) ≡ true = entries_numbered j w in
    let b = before_is n j.header.first before behind f (subst (λ (ps : List Part). numbered j.header.first (frames_in ps) ≡ true) split num) is in
    let here : before_entry n (all_parts j.records) ≡ before = ap (before_entry n) split ∙ b.0 in
    let whole : frames_in before ++ frames_in (all_parts (records_from n j.records)) ≡ frames_in before ++ (f ∷ frames_in behind) = ap (λ (ps : List Part). frames_in ps ++ frames_in (all_parts (records_from n j.records))) (sym here) ∙ split_frames n j.records ∙ ap frames_in split ∙ frames_append before (entry f ∷ behind) in
    (behind_same (frames_in before) _ _ whole, b.1 ∙ ap (λ (ps : List Part). j.header.first + length (frames_in ps)) (sym here))

committed_is : (s : State) (f : FrameData) (fs : List FrameData) → (is_committed s (f ∷ fs) ≡ true → commits_to s (content_at f.kind f.content) ≡ true) × (commits_to s (content_at f.kind f.content) ≡ true → is_committed s (f ∷ fs) ≡ true)
unfolding is_committed
committed_is s f fs = (λ e. e, λ e. e)

-- from a state to which its first entry commits, it leads on
leads_on : (j : JournalData) (n : ℕ) (s : MovedState) (at to : State) (before behind : List Part) (f : FrameData) → FitsJournal j → parts j ≡ before ++ entry f ∷ behind → f.seq ≡ n → commits_to at (content_at f.kind f.content) ≡ true → Stands timed at (entries_of (frames_in behind)) (start to) → Leads at (parts (moved j n s)) to
leads_on j n s at to before behind f w split is commits stands =
    let fs = (moved_frames j n s before behind f w split is).0 in
    record {
      committed = subst (λ (l : List FrameData). is_committed at l ≡ true) (sym fs) ((committed_is at f (frames_in behind)).1 commits);
      stands = subst (λ (l : List FrameData). Stands timed at (entries_of (behind_first l)) (start to)) (sym fs) stands;
    }

header_is : (j : JournalData) (n : ℕ) (at : State) → WritesHead at → header_state (moved_at j n at).header ≡ Some at
unfolding moved base_header
header_is j n at writes = rw writes.read (ap (λ (x : State). Some x) writes.again)

from_first : (j : JournalData) (n : ℕ) (from to : State) (before behind : List Part) (f : FrameData) → FitsJournal j → Leads from (parts j) to → parts j ≡ before ++ entry f ∷ behind → f.seq ≡ n → frames_in before ≡ [] → Moves j n from to before f
from_first j n from to before behind f w leads split is none =
    let fs : frames_in (parts j) ≡ f ∷ frames_in behind = ap frames_in split ∙ frames_append before (entry f ∷ behind) ∙ ap (λ (l : List FrameData). l ++ f ∷ frames_in behind) none in
    let commits = (committed_is from f (frames_in behind)).0 (subst (λ (l : List FrameData). is_committed from l ≡ true) fs leads.committed) in
    let stands = subst (λ (l : List FrameData). Stands timed from (entries_of (behind_first l)) (start to)) fs leads.stands in
    record {
      at = from;
      reached = inl (none, refl);
      leads = λ writes. (header_is j n from writes, leads_on j n (moved_state j n from) from to before behind f w split is commits stands);
    }

from_later : (j : JournalData) (n : ℕ) (from to : State) (before behind : List Part) (f : FrameData) (count : ℕ) (r : List ℕ) → FitsJournal j → Leads from (parts j) to → parts j ≡ before ++ entry f ∷ behind → f.seq ≡ n → content_at f.kind f.content ≡ Some (snap count r) → HasFirst before → Moves j n from to before f
from_later j n from to before behind f count r w leads split is content first =
    let x = exports from to before behind f count r first (subst (λ (ps : List Part). Leads from ps to) split leads) content in
    record {
      at = x.at;
      reached = inr x.leads;
      leads = λ writes. (header_is j n x.at writes, leads_on j n (moved_state j n x.at) x.at to before behind f w split is x.committed x.stands);
    }

pub moves : (j : JournalData) (n : ℕ) (from to : State) (before behind : List Part) (f : FrameData) (count : ℕ) (r : List ℕ) → FitsJournal j → Leads from (parts j) to → parts j ≡ before ++ entry f ∷ behind → f.seq ≡ n → content_at f.kind f.content ≡ Some (snap count r) → Moves j n from to before f
moves j n from to before behind f count r w leads split is content = go (frames_in before) refl
  where
    go : (l : List FrameData) → frames_in before ≡ l → Moves j n from to before f
    go [] e = from_first j n from to before behind f w leads split is e
    go (g ∷ l) e = from_later j n from to before behind f count r w leads split is content (record { frame = g; frames = l; is = e })

pub moves_honest : (j : JournalData) (n : ℕ) (at to : State) → (header_state (moved_at j n at).header ≡ Some at) × Leads at (parts (moved_at j n at)) to → IsHonest (moved_at j n at)
moves_honest j n at to l = leads_honest (moved_at j n at) at to l.0 l.1
