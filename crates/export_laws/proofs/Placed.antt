-- The entry that a segment begins at, in an honest journal with true keeps: its state has the entry's root and count, and the entries
-- behind it replay from there.
use Rattle.std.proofs.Common.{◌≡◌, ℕ, ◌+◌, ◌<◌, true, nat_eq, ◌||◌, List, [], ◌∷◌, ◌++◌, length, Option, Some, refl, sym, ap, subst, ◌∙◌, append_assoc, arith, inl, inr, ◌⊎◌, eq-eqb}
use Rattle.std.proofs.lemmas.List.{length-append, map-append}
use Rattle.std.proofs.lemmas.Slice.Eq.{bytes_eq-Decides}
use Rattle.avm_model.specs.Audit.{commits_to, is_committed}
use Rattle.avm_model.specs.Content.{snap, content_at}
use Rattle.avm_model.specs.Entries.{numbered}
use Rattle.avm_model.specs.Frame.{FrameData}
use Rattle.avm_model.specs.Machine.{State}
use Rattle.avm_model.specs.Reference.{Given, Made, SnapAt, entries_of, entry_of_frame, timed}
use Rattle.avm_model.specs.Rerun.{Stand, Stands, after, start}
use Rattle.avm_model.specs.Root.{root}
use Rattle.avm_model.specs.Timed.{Entry, made}
use Rattle.avm_model.proofs.ReferenceLaws.{is_timed}
use Rattle.avm_model.proofs.ReplayTheorems.{Stands-judged, front_replays}
use Rattle.export_model.specs.Exports.{IsStateAt, begins_at}
use Rattle.honest_model.specs.Honest.{IsHonest}
use Rattle.honest_model.specs.Keeps.{HasTrueKeeps, IsHeaderBase, IsKeepBase, content_of, frames_behind, last_frame, up_to}
use Rattle.honest_model.proofs.Honesty.{honest_leads}
use Rattle.honest_model.proofs.Joins.{stands_front, stands_split}
use Rattle.honest_model.proofs.Openings.{Opens, opens_from}
use Rattle.honest_model.proofs.Snaps.{IsWell, judge_all_well, snap_judged}
use Rattle.journal_model.specs.Fits.{FitsJournal}
use Rattle.journal_model.specs.Journal.{JournalData, entries, parts}
use Rattle.journal_model.specs.Part.{Part, frames_in}
use Rattle.journal_model.proofs.Fitting.{entries_numbered}
use Rattle.rebut_model.proofs.Stretches.{number_behind}
use Rattle.export_laws.proofs.Based.{Based, based}
use Rattle.export_laws.proofs.Lists.{Found, Inside, ending, found, last_is}
use Rattle.export_laws.proofs.Still.{entry_as, is_snap, one_judged, stands_at}

commits_snap : (s : State) (count : ℕ) (r : List ℕ) → count ≡ s.count → r ≡ root s → commits_to s (Some (snap count r)) ≡ true
commits_snap s count r e f = rw (e, f, eq-eqb s.count s.count refl, (bytes_eq-Decides (root s) (root s)).1 refl) refl

-- what stands from an entry on
pub record From (s to : State) (f : FrameData) (later : List FrameData) : Type 0 where
  pub commits : commits_to s (content_at f.kind f.content) ≡ true
  pub stands : Stands timed s (entries_of later) (start to)

-- behind entries
snap_stands : (base to : State) (before later : List FrameData) (f : FrameData) → (nat_eq f.kind 1 || nat_eq f.kind 2) ≡ true → Stands timed base (entries_of (before ++ f ∷ later)) (start to) → From (after timed base (entries_of (before ++ f ∷ []))).state to f later
snap_stands base to before later f kind h =
    let cut : entries_of (before ++ f ∷ later) ≡ (entries_of before ++ entry_of_frame f ∷ []) ++ entries_of later = map-append entry_of_frame before (f ∷ later) ∙ sym (append_assoc (entries_of before) (entry_of_frame f ∷ []) (entries_of later)) in
    let near : Stands timed base ((entries_of before ++ entry_of_frame f ∷ []) ++ entries_of later) (start to) = subst (λ (l : List (Entry Given Made)). Stands timed base l (start to)) cut h in
    let x = is_snap base (entries_of before) f kind (front_replays timed is_timed base (entries_of before ++ entry_of_frame f ∷ []) (entries_of later) near.replays) in
    let told : entry_of_frame f ≡ made (SnapAt x.count x.root) = entry_as f (Some (snap x.count x.root)) x.is in
    let own : List (Entry Given Made) = entries_of before ++ made (SnapAt x.count x.root) ∷ [] in
    let whole : Stands timed base (own ++ entries_of later) (start to) = subst (λ (e : Entry Given Made). Stands timed base ((entries_of before ++ e ∷ []) ++ entries_of later) (start to)) told near in
    let front = stands_front timed is_timed base own (entries_of later) (start to) whole in
    let k : Stand State Made = front.0 in
    let here : Stands timed base own k = Stands-judged timed is_timed base own k front.1 in
    let less = stands_front timed is_timed base (entries_of before) (made (SnapAt x.count x.root) ∷ []) k here in
    let well : IsWell less.0 = judge_all_well (start base) less.0 (entries_of before) tt less.1 in
    let at_snap = snap_judged less.0 k x.count x.root well (one_judged less.0 k (made (SnapAt x.count x.root)) less.2) in
    let same : k ≡ start k.state = ap (λ (os : List Made). record { state = k.state; pending = os }) at_snap.whole in
    let stands : Stands timed base own (start k.state) = subst (λ (q : Stand State Made). Stands timed base own q) same here in
    let list : entries_of (before ++ f ∷ []) ≡ own = map-append entry_of_frame before (f ∷ []) ∙ ap (λ (e : Entry Given Made). entries_of before ++ e ∷ []) told in
    let state : (after timed base (entries_of (before ++ f ∷ []))).state ≡ k.state = ap (λ (l : List (Entry Given Made)). (after timed base l).state) list ∙ sym (ap (λ (q : Stand State Made). q.state) here.is) in
    subst (λ (s : State). From s to f later) (sym state) (record {
      commits = rw x.is (commits_snap k.state x.count x.root at_snap.count_is at_snap.root_is);
      stands = stands_split timed is_timed base k.state own (entries_of later) (start to) whole stands;
    })

-- at the base itself
is_committed_first : (s : State) (f : FrameData) (fs : List FrameData) → is_committed s (f ∷ fs) ≡ true → commits_to s (content_at f.kind f.content) ≡ true
unfolding is_committed
is_committed_first s f fs e = e

nothing : (l : List FrameData) → length l ≡ 0 → l ≡ []
nothing [] e = refl
nothing (x ∷ l) e = absurd (omega (arith, e))

entries_split : (j : JournalData) (ps : List Part) → parts j ≡ ps → entries j ≡ frames_in ps
unfolding entries
entries_split j ps e = ap frames_in e

base_commits : (j : JournalData) (n : ℕ) (front behind : List Part) (base to : State) (e : Found n (entries j)) (b : Based j n front behind) → parts j ≡ front ++ behind → IsHeaderBase j front base ⊎ IsKeepBase j n front base → Opens front behind base to → b.before ≡ e.before ++ e.frame ∷ []
    → commits_to base (content_at e.frame.kind e.frame.content) ≡ true
base_commits j n front behind base to e b split (inl h) o is =
    let one : length b.before ≡ 1 = b.header h.front_is in
    let len : length b.before ≡ length (e.before ++ e.frame ∷ []) = ap length is in
    let none : e.before ≡ [] = nothing e.before (omega (arith, one, len, length-append e.before (e.frame ∷ []))) in
    let all : frames_in behind ≡ e.frame ∷ e.later = sym (entries_split j behind (split ∙ ap (λ (ps : List Part). ps ++ behind) h.front_is)) ∙ e.split ∙ ap (λ (l : List FrameData). l ++ e.frame ∷ e.later) none in
    is_committed_first base e.frame e.later (subst (λ (l : List FrameData). is_committed base l ≡ true) all (o.committed h.front_is))
base_commits j n front behind base to e b split (inr k) o is =
    let last : last_frame (frames_in k.before) ≡ Some e.frame = ap last_frame (sym (b.keep_is k.before k.last k.front_is) ∙ is) ∙ last_is e.before e.frame in
    subst (λ (f : Option FrameData). commits_to base (content_of f) ≡ true) last k.good.committed

-- ---- the entry of a number

pub record At (j : JournalData) (n : ℕ) (s : State) : Type 0 where
  pub entry : Found n (entries j)
  pub to : State
  pub from : From s to entry.frame entry.later

pub at : (j : JournalData) (n : ℕ) (s : State) → FitsJournal j → IsHonest j → HasTrueKeeps j → IsStateAt j n s → begins_at n (entries j) ≡ true → At j n s
at j n s fits honest keeps o begins =
    let header = honest.fault.1 in
    let leads = honest_leads j honest.fault.0 honest header in
    let opens = opens_from j honest.fault.0 leads.0 o.base n o.front o.behind header leads.1 keeps o.base_is in
    let e = found n (entries j) begins in
    let b = based j n o.front o.behind o.base fits o.base_is in
    let p = stands_at j n o.front o.behind e fits b in
    record { entry = e; to = leads.0; from = subst (λ (x : State). From x leads.0 e.frame e.later) (sym o.state) (go e p.based_on leads.0 opens p.place) }
  where
    go : (e : Found n (entries j)) (b : Based j n o.front o.behind) (to : State) → Opens o.front o.behind o.base to
        → ((m : Inside b.before (frames_behind o.front o.behind) e.before e.later e.frame) × (up_to n (frames_behind o.front o.behind) ≡ m.middle ++ e.frame ∷ [])) ⊎ ((length e.before < length b.before) × (up_to n (frames_behind o.front o.behind) ≡ []))
        → From (after timed o.base (entries_of (up_to n (frames_behind o.front o.behind)))).state to e.frame e.later
    go e b to opens (inl m) =
        subst (λ (l : List FrameData). From (after timed o.base (entries_of l)).state to e.frame e.later) (sym m.1)
        (snap_stands o.base to m.0.middle e.later e.frame e.kind (subst (λ (l : List FrameData). Stands timed o.base (entries_of l) (start to)) m.0.behind_is opens.stands))
    go e b to opens (inr m) =
        let number : e.frame.seq ≡ j.header.first + length e.before = number_behind j.header.first e.before e.frame e.later (subst (λ (fs : List FrameData). numbered j.header.first fs ≡ true) e.split (entries_numbered j fits)) in
        let own = e.number in
        let few = b.few (omega (arith, number, own)) in
        let lt = m.0 in
        let r = ending b.before (frames_behind o.front o.behind) e.before e.later e.frame (sym b.all ∙ e.split) (omega (arith, number, own, few, lt)) in
        subst (λ (l : List FrameData). From (after timed o.base (entries_of l)).state to e.frame e.later) (sym m.1) (record {
          commits = base_commits j n o.front o.behind o.base to e b o.base_is.split o.base_is.base opens r.front_is;
          stands = subst (λ (l : List FrameData). Stands timed o.base (entries_of l) (start to)) r.behind_is opens.stands;
        })
