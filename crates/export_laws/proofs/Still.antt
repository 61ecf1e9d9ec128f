-- No clock waits at an entry that a segment may begin at.
use Rattle.std.proofs.Common.{◌≡◌, ℕ, ◌+◌, ◌≤◌, ◌<◌, Bool, true, false, cond, nat_eq, nat_le, ◌||◌, List, [], ◌∷◌, ◌++◌, length, Option, Some, None, refl, sym, ap, subst, ◌∙◌, arith, inl, inr, ◌⊎◌, leb-false, eqb-true}
use Rattle.std.specs.Option.{option_and_then}
use Rattle.std.proofs.lemmas.Bool.{cases_lt}
use Rattle.std.proofs.lemmas.List.{map-append}
use Rattle.avm_num.proofs.Numbers.{and_true, bind_some, kept_some}
use Rattle.avm_model.specs.Audit.{behind_first, is_committed}
use Rattle.avm_model.specs.Content.{ContentData, boot, snap, conin, clock, recv, acked, out, send, halt, boot_form, snap_form, content_at}
use Rattle.avm_model.specs.Entries.{numbered}
use Rattle.avm_model.specs.Frame.{FrameData}
use Rattle.avm_model.specs.Judge.{judge, judge_all}
use Rattle.avm_model.specs.Machine.{State, Step}
use Rattle.avm_model.specs.Parts.{count_at}
use Rattle.avm_model.specs.Reference.{Given, Made, NothingAt, SnapAt, entries_of, entry_in, entry_of_frame, timed}
use Rattle.avm_model.specs.Rerun.{Replays, Stand, after, start}
use Rattle.avm_model.specs.Timed.{Entry, made}
use Rattle.avm_model.proofs.ReferenceLaws.{is_timed, step_is}
use Rattle.avm_model.proofs.ReplayTheorems.{judged_of_replays, judge_all-append}
use Rattle.export_model.specs.Exports.{IsStateAt, begins_at}
use Rattle.honest_model.specs.Honest.{IsFaultByRoot, IsFaultFrom}
use Rattle.honest_model.specs.Keeps.{IsFaultBehind, IsStretch, frames_behind, up_to}
use Rattle.journal_model.specs.Fits.{FitsJournal}
use Rattle.journal_model.specs.Journal.{JournalData, entries, parts}
use Rattle.journal_model.specs.Part.{Part, frames_in}
use Rattle.journal_model.proofs.Fitting.{entries_numbered}
use Rattle.opening_laws.proofs.Bases.{same_base}
use Rattle.rebut_model.proofs.Snapshots.{Kept, all_stem, made_here, nothing_here}
use Rattle.rebut_model.proofs.Stretches.{up_to_here, up_to_none, number_behind}
use Rattle.snapshot_laws.proofs.Alone.{unasked}
use Rattle.export_laws.proofs.Based.{Based, based, free}
use Rattle.export_laws.proofs.Lists.{Found, Inside, found, inside, numbered_behind}

-- ---- an entry that no step makes doesn't replay

trivial : Kept (λ _. Unit {0})
trivial = record { step = λ s t os e h. tt; take = λ s t i e h. tt }

pub one_judged : (j k : Stand State Made) (x : Entry Given Made) → judge_all timed j (x ∷ []) ≡ Some k → judge timed j x ≡ Some k
one_judged j k x h = go (judge timed j x) refl h
  where
    go : (r : Option (Stand State Made)) → judge timed j x ≡ r → option_and_then (λ q. judge_all timed q []) r ≡ Some k → judge timed j x ≡ Some k
    go None e q = absurd cc
    go (Some y) e q = e ∙ q

pub no_nothing : (s : State) (es : List (Entry Given Made)) (count : ℕ) → Replays timed s (es ++ made (NothingAt count) ∷ []) → ⊥
no_nothing s es count h =
    go (judge_all timed (start s) es) refl (sym (judge_all-append timed (start s) es (made (NothingAt count) ∷ [])) ∙ judged_of_replays timed is_timed s (es ++ made (NothingAt count) ∷ []) h)
  where
    last : Stand State Made
    last = after timed s (es ++ made (NothingAt count) ∷ [])

    go : (r : Option (Stand State Made)) → judge_all timed (start s) es ≡ r → option_and_then (λ q. judge_all timed q (made (NothingAt count) ∷ [])) r ≡ Some last → ⊥
    go None e q = absurd cc
    go (Some k) e q =
        let m = made_here (λ _. Unit {0}) trivial k last (NothingAt count) (all_stem (λ _. Unit {0}) trivial (start s) k es (record { holds = tt; pending = inl refl }) e) (one_judged k last (made (NothingAt count)) q) in
        let o = step_is m.from last.state (m.gone ++ NothingAt count ∷ last.pending) m.step in
        nothing_here last.state (Step m.from).outs m.gone last.pending count (sym o.2)

-- ---- the content of an entry that a segment may begin at

abbrev pub Begins : ContentData → Type 0
Begins (boot count r) = Unit {0}
Begins (snap count r) = Unit {0}
Begins c = ⊥

pub begins_form : (kind : ℕ) (bytes : List ℕ) (c : ContentData) → (nat_eq kind 1 || nat_eq kind 2) ≡ true → content_at kind bytes ≡ Some c → Begins c
unfolding content_at
begins_form kind bytes c k e = let a = bind_some (count_at bytes) _ c e in go a.0.0 a.0.1 (nat_eq kind 1) (nat_eq kind 2) _ k a.2
  where
    go : (count : ℕ) (left : List ℕ) (x y : Bool) (rest : Option ContentData) → (x || y) ≡ true → cond x (boot_form count left) (cond y (snap_form count left) rest) ≡ Some c → Begins c
    go count left true y rest k h = subst Begins (kept_some _ (boot count left) c h).1 tt
    go count left false true rest k h = subst Begins (kept_some _ (snap count left) c h).1 tt
    go count left false false rest k h = absurd cc

pub entry_as : (f : FrameData) (o : Option ContentData) → content_at f.kind f.content ≡ o → entry_of_frame f ≡ entry_in o
unfolding entry_of_frame
entry_as f o e = ap entry_in e

-- where the entries up to it replay, it is a SNAP
pub record IsSnap (f : FrameData) : Type 0 where
  pub count : ℕ
  pub root : List ℕ
  pub is : content_at f.kind f.content ≡ Some (snap count root)

pub is_snap : (s : State) (es : List (Entry Given Made)) (f : FrameData) → (nat_eq f.kind 1 || nat_eq f.kind 2) ≡ true → Replays timed s (es ++ entry_of_frame f ∷ []) → IsSnap f
is_snap s es f k h = go (content_at f.kind f.content) refl
  where
    as_read : (o : Option ContentData) → content_at f.kind f.content ≡ o → Replays timed s (es ++ entry_in o ∷ [])
    as_read o e = subst (λ (x : Entry Given Made). Replays timed s (es ++ x ∷ [])) (entry_as f o e) h

    go : (o : Option ContentData) → content_at f.kind f.content ≡ o → IsSnap f
    go None e = absurd (no_nothing s es 0 (as_read None e))
    go (Some (boot count r)) e = absurd (no_nothing s es count (as_read (Some (boot count r)) e))
    go (Some (snap count r)) e = record { count = count; root = r; is = e }
    go (Some (conin count bytes)) e = absurd (begins_form f.kind f.content _ k e)
    go (Some (clock count value)) e = absurd (begins_form f.kind f.content _ k e)
    go (Some (recv count packet)) e = absurd (begins_form f.kind f.content _ k e)
    go (Some (acked count packet)) e = absurd (begins_form f.kind f.content _ k e)
    go (Some (out count bytes)) e = absurd (begins_form f.kind f.content _ k e)
    go (Some (send count peer number payload)) e = absurd (begins_form f.kind f.content _ k e)
    go (Some (halt count cause value)) e = absurd (begins_form f.kind f.content _ k e)

-- ---- the entries behind a base replay up to the number

pub replays_behind : (first n : ℕ) (front behind : List Part) (s : State) → numbered first (frames_in (front ++ behind)) ≡ true → IsFaultBehind first front s (up_to n (frames_in behind)) None → Replays timed s (entries_of (up_to n (frames_behind front behind)))
replays_behind first n [] behind s numbers h = by_first (frames_in behind) numbers h
  where
    by_root : (b : Bool) (fs gs : List FrameData) → IsFaultByRoot b first s gs None → behind_first gs ≡ fs → Replays timed s (entries_of fs)
    by_root true fs gs q e = subst (λ (l : List FrameData). Replays timed s (entries_of l)) e q
    by_root false fs gs q e = absurd (let z : None ≡ Some first = q in cc)

    by_first : (fs : List FrameData) → numbered first fs ≡ true → IsFaultFrom first s (up_to n fs) None → Replays timed s (entries_of (up_to n (behind_first fs)))
    by_first [] m q = tt
    by_first (f ∷ fs) m q = go (nat_le f.seq n) refl q
      where
        go : (b : Bool) → nat_le f.seq n ≡ b → IsFaultFrom first s (cond b (f ∷ up_to n fs) []) None → Replays timed s (entries_of (up_to n fs))
        go true i r = by_root (is_committed s (f ∷ up_to n fs)) (up_to n fs) (f ∷ up_to n fs) r refl
        go false i r =
            let p = and_true (nat_eq f.seq first) (numbered (first + 1) fs) m in
            let same : f.seq ≡ first = eqb-true f.seq first p.0 in
            let past : n < f.seq = leb-false f.seq n i in
            let none : up_to n fs ≡ [] = up_to_none n (first + 1) fs (omega (arith, same, past)) p.1 in
            subst (λ (l : List FrameData). Replays timed s (entries_of l)) (sym none) tt
replays_behind first n (x ∷ front) behind s numbers h = h

-- ---- the state there

-- where an entry stands behind a base
pub record Placed (j : JournalData) (n : ℕ) (front behind : List Part) (e : Found n (entries j)) : Type 0 where
  pub based_on : Based j n front behind
  pub place : ((m : Inside based_on.before (frames_behind front behind) e.before e.later e.frame) × (up_to n (frames_behind front behind) ≡ m.middle ++ e.frame ∷ [])) ⊎ ((length e.before < length based_on.before) × (up_to n (frames_behind front behind) ≡ []))

pub stands_at : (j : JournalData) (n : ℕ) (front behind : List Part) (e : Found n (entries j)) → FitsJournal j → Based j n front behind → Placed j n front behind e
stands_at j n front behind e fits b = record { based_on = b; place = go (cases_lt (length e.before) (length b.before)) }
  where
    numbers : numbered j.header.first (b.before ++ frames_behind front behind) ≡ true
    numbers = subst (λ (fs : List FrameData). numbered j.header.first fs ≡ true) b.all (entries_numbered j fits)

    own_number : e.frame.seq ≡ j.header.first + length e.before
    own_number = number_behind j.header.first e.before e.frame e.later (subst (λ (fs : List FrameData). numbered j.header.first fs ≡ true) e.split (entries_numbered j fits))

    own : numbered (j.header.first + length b.before) (frames_behind front behind) ≡ true
    own = numbered_behind b.before (frames_behind front behind) j.header.first numbers

    go : (length e.before < length b.before) ⊎ (length b.before ≤ length e.before) → ((m : Inside b.before (frames_behind front behind) e.before e.later e.frame) × (up_to n (frames_behind front behind) ≡ m.middle ++ e.frame ∷ [])) ⊎ ((length e.before < length b.before) × (up_to n (frames_behind front behind) ≡ []))
    go (inl lt) = let number = e.number in inr (lt, up_to_none n (j.header.first + length b.before) (frames_behind front behind) (omega (arith, lt, own_number, number)) own)
    go (inr le) =
        let m = inside b.before (frames_behind front behind) e.before e.later e.frame (sym b.all ∙ e.split) le in
        inl (m, ap (up_to n) m.behind_is ∙ up_to_here n (j.header.first + length b.before) m.middle e.frame e.later (subst (λ (fs : List FrameData). numbered (j.header.first + length b.before) fs ≡ true) m.behind_is own) e.number)

still_here : (s : State) (es : List FrameData) (f : FrameData) → s.devices.clock ≡ None → (nat_eq f.kind 1 || nat_eq f.kind 2) ≡ true → Replays timed s (entries_of (es ++ f ∷ [])) → (after timed s (entries_of (es ++ f ∷ []))).state.devices.clock ≡ None
still_here s es f none k h =
    let one : entries_of (es ++ f ∷ []) ≡ entries_of es ++ entry_of_frame f ∷ [] = map-append entry_of_frame es (f ∷ []) in
    let x = is_snap s (entries_of es) f k (subst (λ (l : List (Entry Given Made)). Replays timed s l) one h) in
    let told : entries_of (es ++ f ∷ []) ≡ entries_of es ++ made (SnapAt x.count x.root) ∷ [] = one ∙ ap (λ (e : Entry Given Made). entries_of es ++ e ∷ []) (entry_as f (Some (snap x.count x.root)) x.is) in
    subst (λ (l : List (Entry Given Made)). (after timed s l).state.devices.clock ≡ None) (sym told) (unasked s (entries_of es) x.count x.root none (subst (λ (l : List (Entry Given Made)). Replays timed s l) told h))

entries_in : (j : JournalData) (front behind : List Part) → (q : entries j ≡ frames_in (front ++ behind)) → FitsJournal j → numbered j.header.first (frames_in (front ++ behind)) ≡ true
entries_in j front behind q fits = subst (λ (fs : List FrameData). numbered j.header.first fs ≡ true) q (entries_numbered j fits)

split_entries : (j : JournalData) (ps : List Part) → parts j ≡ ps → entries j ≡ frames_in ps
unfolding entries
split_entries j ps q = ap frames_in q

pub still : (j : JournalData) (n : ℕ) (s : State) → FitsJournal j → IsStretch j n None → IsStateAt j n s → begins_at n (entries j) ≡ true → s.devices.clock ≡ None
still j n s fits q o begins =
    let same = same_base j n q.front q.behind o.front o.behind q.state o.base q.base o.base_is in
    let fault : IsFaultBehind j.header.first o.front o.base (up_to n (frames_in o.behind)) None =
    subst (λ (x : List Part). IsFaultBehind j.header.first x o.base (up_to n (frames_in o.behind)) None) same.front_is (subst (λ (x : List Part). IsFaultBehind j.header.first q.front o.base (up_to n (frames_in x)) None) same.behind_is (subst (λ (x : State). IsFaultBehind j.header.first q.front x (up_to n (frames_in q.behind)) None) same.state_is q.fault_is)) in
    let replays = replays_behind j.header.first n o.front o.behind o.base (entries_in j o.front o.behind (split_entries j (o.front ++ o.behind) o.base_is.split) fits) fault in
    let e = found n (entries j) begins in
    let none = free j n o.front o.base o.base_is.base in
    let p = stands_at j n o.front o.behind e fits (based j n o.front o.behind o.base fits o.base_is) in
    subst (λ (x : State). x.devices.clock ≡ None) (sym o.state) (elim p.place [
      | inl m ↦ subst (λ (l : List FrameData). (after timed o.base (entries_of l)).state.devices.clock ≡ None) (sym m.1) (still_here o.base m.0.middle e.frame none e.kind (subst (λ (l : List FrameData). Replays timed o.base (entries_of l)) m.1 replays))
      | inr m ↦ subst (λ (l : List FrameData). (after timed o.base (entries_of l)).state.devices.clock ≡ None) (sym m.1) none
    ])
