-- A page more, and an entry more.
use Rattle.std.proofs.Common.{◌≡◌, true, false, is_some, ℕ, suc, ◌+◌, ◌*◌, ◌<◌, Bool, List, [], ◌∷◌, ◌++◌, length, take, drop, Option, Some, None, refl, sym, ap, ap₂, subst, ◌∙◌, arith, append_assoc}
use Rattle.std.proofs.lemmas.List.{length-append, take_at, take_all, take-append-le, length-drop, map-append}
use Rattle.avm_model.specs.Audit.{commits_to, is_committed}
use Rattle.avm_model.specs.Content.{content_at}
use Rattle.avm_model.specs.Frame.{FrameData}
use Rattle.avm_model.specs.Head.{HeadData}
use Rattle.avm_model.specs.HeadState.{state_of}
use Rattle.avm_model.specs.Machine.{State}
use Rattle.avm_model.specs.Memory.{put_page}
use Rattle.avm_model.specs.Reference.{Given, Made, timed, entry_of_frame, entries_of, IsFaultNumber}
use Rattle.avm_model.specs.Rerun.{Stands, Replays, IsFirstFault, Stand, start}
use Rattle.avm_model.specs.Timed.{Entry}
use Rattle.replayer.specs.Replaying.{Replaying}
use Rattle.state_replay.proofs.Seen.{fault_here}
use Rattle.audit_stream.specs.Course.{IsLoading, Going, IsCourse}
use Rattle.audit_stream.specs.Judged.{Judged}
use Rattle.audit_stream.specs.Loaded.{Loaded}
use Rattle.audit_stream.specs.declared.course.Course.{Course}

-- ---- a page

pub page_more : (l new : Loaded) (h : HeadData) (pages page : List ℕ) (i : ℕ) → length page ≡ 4096 → i < h.front.pages → length pages ≡ 4096 * i → IsLoading l h pages
    → new.machine.state ≡ record l.machine.state { ram = put_page l.machine.state.ram i page } → length new.machine.dirty ≡ length l.machine.dirty → IsLoading new h (pages ++ page)
page_more l new h pages page i len lt at is e d =
    let ram : new.machine.state.ram ≡ put_page l.machine.state.ram i page = ap (λ (s : State). s.ram) e in
    let front : take (4096 * i) l.machine.state.ram ≡ pages = subst (λ (n : ℕ). take n l.machine.state.ram ≡ pages) at is.front in
    let put : put_page l.machine.state.ram i page ≡ (pages ++ page) ++ drop (4096 * i + 4096) l.machine.state.ram =
    ap (λ (t : List ℕ). t ++ page ++ drop (4096 * i + length page) l.machine.state.ram) front ∙ ap (λ (n : ℕ). (pages ++ page) ++ drop (4096 * i + n) l.machine.state.ram) len in
    let all : new.machine.state.ram ≡ (pages ++ page) ++ drop (4096 * i + 4096) l.machine.state.ram = ram ∙ put in
    let size : length new.machine.state.ram ≡ length ((pages ++ page) ++ drop (4096 * i + 4096) l.machine.state.ram) = ap length all in
    let total = is.size in
    record {
      state = e ∙ ap (λ (s : State). record s { ram = put_page l.machine.state.ram i page }) is.state ∙ ap (state_of h) (sym ram);
      front = ap (take (length (pages ++ page))) all ∙ take_at (pages ++ page) (drop (4096 * i + 4096) l.machine.state.ram) (length (pages ++ page)) refl;
      size = omega (arith, size, total, at, len, lt, length-append (pages ++ page) (drop (4096 * i + 4096) l.machine.state.ram), length-append pages page, length-drop (4096 * i + 4096) l.machine.state.ram);
      marks = d ∙ is.marks;
    }

-- ---- the first entry

full : (l : Loaded) (h : HeadData) (pages : List ℕ) → length pages ≡ 4096 * h.front.pages → IsLoading l h pages → l.machine.state ≡ state_of h pages
full l h pages len is =
    let all : l.machine.state.ram ≡ pages = sym (take_all (length pages) l.machine.state.ram (omega (arith, len, is.size))) ∙ is.front in
    is.state ∙ ap (state_of h) all

committed_first : (s : State) (f : FrameData) (fs gs : List FrameData) → is_committed s (f ∷ fs) ≡ is_committed s (f ∷ gs)
unfolding is_committed
committed_first s f fs gs = refl

committed_is : (s : State) (f : FrameData) → is_committed s (f ∷ []) ≡ commits_to s (content_at f.kind f.content)
unfolding is_committed
committed_is s f = refl

stand_is : (x : Stand State Made) (s : State) → x.state ≡ s → x.pending ≡ [] → x ≡ start s
stand_is x s a b = ap₂ (λ (t : State) (os : List Made). let z : Stand State Made = record { state = t; pending = os } in z) a b

begins_at : (s : State) (x : Stand State Made) → x ≡ start s → Stands timed s [] x
begins_at s x e = record { replays = tt; is = e }

pub course_begins : (old : Course) (l : Loaded) (replay : Replaying) (committed : Bool) (h : HeadData) (pages : List ℕ) (fs : List FrameData) (f : FrameData) → length pages ≡ 4096 * h.front.pages → old.loading ≡ Some l → IsCourse old h pages fs
    → replay.stand.state ≡ l.machine.state → replay.stand.pending ≡ [] → replay.fault ≡ None → committed ≡ commits_to l.machine.state (content_at f.kind f.content)
    → IsCourse (record { loading = None; replay = Some replay; committed = committed; fault = old.fault }) h pages (fs ++ f ∷ [])
course_begins old l replay committed h pages [] f len e is state pending none agreed =
    let same : l ≡ is.0 = some_is l is.0 (sym e ∙ is.1) in
    let s : l.machine.state ≡ state_of h pages = ap (λ (x : Loaded). x.machine.state) same ∙ full is.0 h pages len is.2 in
    let stand : replay.stand ≡ start (state_of h pages) = stand_is replay.stand (state_of h pages) (state ∙ s) pending in
    let going : Going (state_of h pages) [] None (Some replay) = (replay, refl, none, begins_at (state_of h pages) replay.stand stand) in
    let number : IsFaultNumber (state_of h pages) [] None = tt in (
      refl,
      agreed ∙ ap (λ (x : State). commits_to x (content_at f.kind f.content)) s ∙ sym (committed_is (state_of h pages) f),
      subst (λ (o : Option ℕ). IsFaultNumber (state_of h pages) [] o) (sym is.3) number,
      subst (λ (o : Option ℕ). Going (state_of h pages) [] o (Some replay)) (sym is.3) going,
    )
  where
    some_is : (x y : Loaded) → Some x ≡ Some y → x ≡ y
    some_is x y p = cc
course_begins old l replay committed h pages (g ∷ gs) f len e is state pending none agreed = absurd (apart l (sym is.0 ∙ e))
  where
    apart : (x : Loaded) → None ≡ Some x → ⊥
    apart x p = cc

-- ---- a later entry

later_fault : (s : State) (es more : List (Entry Given Made)) (k : ℕ) → IsFirstFault timed s es k → IsFirstFault timed s (es ++ more) k
later_fault s es more k f = record {
  within = omega (arith, f.within, length-append es more);
  fault = λ r. f.fault (subst (λ (xs : List (Entry Given Made)). Replays timed s xs) (take-append-le (suc k) es more (omega (arith, f.within))) r);
  first = λ n le. subst (λ (xs : List (Entry Given Made)). Replays timed s xs) (sym (take-append-le n es more (omega (arith, f.within, le)))) (f.first n le);
}

later_number : (s : State) (fs : List FrameData) (f : FrameData) (n : ℕ) → IsFaultNumber s fs (Some n) → IsFaultNumber s (fs ++ f ∷ []) (Some n)
later_number s fs f n is = record {
  before = is.before;
  frame = is.frame;
  behind = is.behind ++ f ∷ [];
  split = ap (λ (xs : List FrameData). xs ++ f ∷ []) is.split ∙ append_assoc is.before (is.frame ∷ is.behind) (f ∷ []);
  number = is.number;
  first = subst (λ (xs : List (Entry Given Made)). IsFirstFault timed s xs (length is.before)) (sym (map-append entry_of_frame fs (f ∷ []))) (later_fault s (entries_of fs) (entries_of (f ∷ [])) (length is.before) is.first);
}

-- a fault has come
pub course_kept : (old : Course) (h : HeadData) (pages : List ℕ) (fs : List FrameData) (f : FrameData) (n : ℕ) → old.loading ≡ None → old.fault ≡ Some n → IsCourse old h pages fs → IsCourse old h pages (fs ++ f ∷ [])
course_kept old h pages [] f n e fault is = absurd (apart is.0 (sym e ∙ is.1))
  where
    apart : (x : Loaded) → None ≡ Some x → ⊥
    apart x p = cc
course_kept old h pages (g ∷ gs) f n e fault is =
    let s = state_of h pages in
    let number : IsFaultNumber s gs (Some n) = subst (λ (o : Option ℕ). IsFaultNumber s gs o) fault is.2 in (
      is.0,
      is.1 ∙ committed_first s g gs (gs ++ f ∷ []),
      subst (λ (o : Option ℕ). IsFaultNumber s (gs ++ f ∷ []) o) (sym fault) (later_number s gs f n number),
      subst (λ (o : Option ℕ). Going s (gs ++ f ∷ []) o old.replay) (sym fault) tt,
    )

-- no fault has come
pub course_goes : (old : Course) (replay : Option Replaying) (fault : Option ℕ) (h : HeadData) (pages : List ℕ) (fs : List FrameData) (f : FrameData) → old.loading ≡ None → old.fault ≡ None → IsCourse old h pages fs
    → ((r : Replaying) → old.replay ≡ Some r → r.fault ≡ None → Judged r f fault replay)
    → IsCourse (record { loading = None; replay = replay; committed = old.committed; fault = fault }) h pages (fs ++ f ∷ [])
course_goes old replay fault h pages [] f e none is judged = absurd (apart is.0 (sym e ∙ is.1))
  where
    apart : (x : Loaded) → None ≡ Some x → ⊥
    apart x p = cc
course_goes old replay fault h pages (g ∷ gs) f e none is judged =
    let s = state_of h pages in
    let going : Going s gs None old.replay = subst (λ (o : Option ℕ). Going s gs o old.replay) none is.3 in
    let new = after s going.0 going.3 fault (judged going.0 going.1 going.2) in
    (refl, is.1 ∙ committed_first s g gs (gs ++ f ∷ []), new.0, new.1)
  where
    after : (s : State) (r : Replaying) → Stands timed s (entries_of gs) r.stand → (o : Option ℕ) → Judged r f o replay → IsFaultNumber s (gs ++ f ∷ []) o × Going s (gs ++ f ∷ []) o replay
    after s r stands None j =
        let st : Stands timed s (entries_of (gs ++ f ∷ [])) j.0.stand = subst (λ (es : List (Entry Given Made)). Stands timed s es j.0.stand) (sym (map-append entry_of_frame gs (f ∷ []))) (j.3 s (entries_of gs) stands) in
        (st.replays, (j.0, j.1, j.2, st))
    after s r stands (Some n) j = (fault_here s (gs ++ f ∷ []) (f ∷ []) [] f r.stand n refl (gs, refl, stands) (λ es st. j.1 s es st) j.0, tt)

pub none_is : (o : Option ℕ) → is_some o ≡ false → o ≡ None
none_is None e = refl
none_is (Some n) e = absurd cc

pub some_is : (o : Option ℕ) → is_some o ≡ true → (n : ℕ) × (o ≡ Some n)
some_is None e = absurd cc
some_is (Some n) e = (n, refl)

pub loading_none : (o : Option Loaded) → is_some o ≡ false → o ≡ None
loading_none None e = refl
loading_none (Some l) e = absurd cc

pub never_none : {A : Type 0} (o : Option Loaded) → is_some o ≡ true → o ≡ None → A
never_none None e n = absurd cc
never_none (Some l) e n = absurd cc
