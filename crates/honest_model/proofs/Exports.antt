-- From each SNAP entry on, the entries of a journal that replays whole replay from the state at it.
use Rattle.std.proofs.Common.{◌≡◌, ℕ, true, List, [], ◌∷◌, ◌++◌, Option, Some, None, refl, sym, ap, subst, ◌∙◌, append_assoc, eq-eqb}
use Rattle.std.specs.Option.{option_and_then}
use Rattle.std.proofs.lemmas.Slice.Eq.{bytes_eq-Decides}
use Rattle.avm_model.specs.Machine.{State}
use Rattle.avm_model.specs.Root.{root}
use Rattle.avm_model.specs.Content.{snap, content_at}
use Rattle.avm_model.specs.Frame.{FrameData}
use Rattle.avm_model.specs.Timed.{Entry, made}
use Rattle.avm_model.specs.Rerun.{Stand, Stands, start, Replays}
use Rattle.avm_model.specs.Judge.{judge, judge_all}
use Rattle.avm_model.specs.Reference.{Given, Made, SnapAt, timed, entry_of_frame, entries_of}
use Rattle.avm_model.specs.Audit.{commits_to}
use Rattle.avm_model.proofs.ReferenceLaws.{is_timed}
use Rattle.avm_model.proofs.ReplayTheorems.{Stands-judged, front_replays}
use Rattle.honest_model.proofs.Joins.{stands_front, stands_split}
use Rattle.honest_model.proofs.Logs.{committed-append, log-append, map-append}
use Rattle.honest_model.proofs.Snaps.{IsWell, judge_all_well, snap_judged}
use Rattle.honest_model.specs.Honest.{Exports, HasFirst, Leads, log_of}
use Rattle.journal_model.specs.Part.{Part, entry, frames_in}
use Rattle.journal_model.specs.Standing.{behind}

commits_snap : (s : State) (count : ℕ) (r : List ℕ) → count ≡ s.count → r ≡ root s → commits_to s (Some (snap count r)) ≡ true
commits_snap s count r e f = rw (e, f, eq-eqb s.count s.count refl, (bytes_eq-Decides (root s) (root s)).1 refl) refl

snap_entry : (f : FrameData) (count : ℕ) (r : List ℕ) → content_at f.kind f.content ≡ Some (snap count r) → entry_of_frame f ≡ made (SnapAt count r)
unfolding entry_of_frame
snap_entry f count r e = rw e refl

one_judged : (j k : Stand State Made) (x : Entry Given Made) → judge_all timed j (x ∷ []) ≡ Some k → judge timed j x ≡ Some k
one_judged j k x h = go (judge timed j x) refl h
  where
    go : (r : Option (Stand State Made)) → judge timed j x ≡ r → option_and_then (λ q. judge_all timed q []) r ≡ Some k → judge timed j x ≡ Some k
    go None e q = absurd cc
    go (Some y) e q = e ∙ q

-- the log, cut behind the SNAP entry
cut_at : (before behind : List Part) (f : FrameData) (count : ℕ) (r : List ℕ) → HasFirst before → content_at f.kind f.content ≡ Some (snap count r) → log_of (before ++ entry f ∷ behind) ≡ (log_of before ++ made (SnapAt count r) ∷ []) ++ entries_of (frames_in behind)
cut_at before behind f count r first content =
    log-append before (entry f ∷ behind) first
    ∙ ap (λ (e : Entry Given Made). log_of before ++ e ∷ entries_of (frames_in behind)) (snap_entry f count r content)
    ∙ sym (append_assoc (log_of before) (made (SnapAt count r) ∷ []) (entries_of (frames_in behind)))

pub exports : (from to : State) (before behind : List Part) (f : FrameData) (count : ℕ) (r : List ℕ) → HasFirst before → Leads from (before ++ entry f ∷ behind) to → content_at f.kind f.content ≡ Some (snap count r) → Exports from before f behind to
exports from to before behind f count r first leads content =
    let whole : Stands timed from ((log_of before ++ made (SnapAt count r) ∷ []) ++ entries_of (frames_in behind)) (start to) = subst (λ (l : List (Entry Given Made)). Stands timed from l (start to)) (cut_at before behind f count r first content) leads.stands in
    let front = stands_front timed is_timed from (log_of before ++ made (SnapAt count r) ∷ []) (entries_of (frames_in behind)) (start to) whole in
    let k : Stand State Made = front.0 in
    let near = stands_front timed is_timed from (log_of before) (made (SnapAt count r) ∷ []) k (Stands-judged timed is_timed from (log_of before ++ made (SnapAt count r) ∷ []) k front.1) in
    let well : IsWell near.0 = judge_all_well (start from) near.0 (log_of before) tt near.1 in
    let at = snap_judged near.0 k count r well (one_judged near.0 k (made (SnapAt count r)) near.2) in
    let same : k ≡ start k.state = ap (λ (os : List Made). record { state = k.state; pending = os }) at.whole in
    let stands : Stands timed from (log_of before ++ made (SnapAt count r) ∷ []) (start k.state) = subst (λ (q : Stand State Made). Stands timed from (log_of before ++ made (SnapAt count r) ∷ []) q) same (Stands-judged timed is_timed from (log_of before ++ made (SnapAt count r) ∷ []) k front.1) in
    let log : log_of (before ++ entry f ∷ []) ≡ log_of before ++ made (SnapAt count r) ∷ [] = log-append before (entry f ∷ []) first ∙ ap (λ (e : Entry Given Made). log_of before ++ e ∷ []) (snap_entry f count r content) in
    record {
      at = k.state;
      leads = record {
        committed = committed-append from before (entry f ∷ []) first ∙ sym (committed-append from before (entry f ∷ behind) first) ∙ leads.committed;
        stands = subst (λ (l : List (Entry Given Made)). Stands timed from l (start k.state)) (sym log) stands;
      };
      committed = rw content (commits_snap k.state count r at.count_is at.root_is);
      stands = stands_split timed is_timed from k.state (log_of before ++ made (SnapAt count r) ∷ []) (entries_of (frames_in behind)) (start to) whole stands;
    }

-- each front of them replays, so a segment of them is one that an audit accepts
pub exported_front : (at to : State) (a b : List FrameData) → Stands timed at (entries_of (a ++ b)) (start to) → Replays timed at (entries_of a)
exported_front at to a b h = front_replays timed is_timed at (entries_of a) (entries_of b) (subst (λ (l : List (Entry Given Made)). Replays timed at l) (map-append entry_of_frame a b) h.replays)
