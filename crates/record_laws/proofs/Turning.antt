-- A turn is moves of the run.
use Rattle.std.proofs.Common.{◌≡◌, ℕ, zero, suc, ◌+◌, Bool, true, false, List, [], ◌∷◌, ◌++◌, length, replicate, Option, Some, None, refl, sym, ap, subst, ◌∙◌, arith}
use Rattle.std.specs.Prelude.{if◌then◌else◌, is_some}
use Rattle.avm_model.specs.Machine.{State, asks}
use Rattle.record_model.specs.Turn.{Waiting, Halted, End}
use Rattle.avm_model.specs.Rerun.{moved}
use Rattle.avm_model.specs.Reference.{timed}
use Rattle.avm_model.specs.declared.Status.{Status}
use Rattle.avm_model.specs.declared.Status.TheVariants.{Running, Waiting as Waits, Halted as IsHalted}
use Rattle.avm_outside.specs.Feed.{Agenda, Event, Timed, clock_of, with_asked}
use Rattle.avm_outside.specs.Outlet.{Piece}
use Rattle.journal_model.specs.Journal.{JournalData}
use Rattle.journal_model.specs.Part.{Part}
use Rattle.record_laws.proofs.Moving.{goes, later, moves-append, next_is, quiet_moves}
use Rattle.record_model.specs.Recorded.{Drop, act_of, by_events, is_due, move, next_act, ran, running}
use Rattle.record_model.specs.Recording.{Act, AnswerClock, Done, StepOn, done, is_large}
use Rattle.record_model.specs.Released.{Sender}
use Rattle.record_model.specs.Turn.{Answer, AreMoves, Comes, Gift, IsPlan, IsPlanBefore, IsPlanOf, IsPlanRunning, IsSpell, Later, OfScript, Over, Plan, behind_gift, behind_turn, doing, gift_at, gift_of, idling, without_first}

-- the one move of an act
one_move : (who : Sender) (pages : List ℕ) (j : JournalData) (b : List Part) (p q : Agenda) (rel : List Piece) (dr : List Drop) (s : State) (act : Act) (d : Done) → next_act s p ≡ Some (record { act = act; script = q }) → done who pages (record { journal = j; batch = b; machine = s }) act ≡ Some d
    → move who pages (running j b p rel dr s) ≡ Some (ran (running j b p rel dr s) q d)
one_move who pages j b p q rel dr s act d n e = rw (n, e) refl

-- an event that is due
due_next : (p : Agenda) (es : List Timed) (s : State) (what : Event) → gift_at s p es ≡ Comes what → by_events s p es ≡ Some (record { act = act_of what; script = without_first p es })
due_next p [] s what h = go (is_due p.ending s) refl h
  where
    go : (b : Bool) → is_due p.ending s ≡ b → (if b then Over else Later p.ending) ≡ Comes what → by_events s p [] ≡ Some (record { act = act_of what; script = p })
    go true e q = absurd cc
    go false e q = absurd cc
due_next p (x ∷ es) s what h = go (is_due x.at s) refl h
  where
    go : (b : Bool) → is_due x.at s ≡ b → (if b then Comes x.event else Later x.at) ≡ Comes what → by_events s p (x ∷ es) ≡ Some (record { act = act_of what; script = record p { events = es } })
    go true e q = let w : x.event ≡ what = cc in rw (e, w) refl
    go false e q = absurd cc

single : (who : Sender) (pages : List ℕ) (j : JournalData) (b : List Part) (p q : Agenda) (rel : List Piece) (dr : List Drop) (s at : State) (act : Act) (d : Done) → moved timed 0 s ≡ Some at → next_act s p ≡ Some (record { act = act; script = q }) → done who pages (record { journal = j; batch = b; machine = at }) act ≡ Some d
    → AreMoves who j b p rel dr s at 0 act d q
single who pages j b p q rel dr s at act d m n e =
    let same : s ≡ at = cc in
    let e' : done who pages (record { journal = j; batch = b; machine = s }) act ≡ Some d = rw same e in
    let one = one_move who pages j b p q rel dr s act d n e' in
    record { pages = pages ∷ []; many = refl; moves_are = rw (one, same) refl }

pub length-replicate : {A : Type 0} (n : ℕ) (x : A) → length (replicate n x) ≡ n
length-replicate zero x = refl
length-replicate (suc n) x = ap suc (length-replicate n x)

length_one_more : {A : Type 0} (xs : List A) (y : A) → length (xs ++ y ∷ []) ≡ length xs + 1
length_one_more [] y = refl
length_one_more (x ∷ xs) y = let ih = length_one_more xs y in omega (arith, ih)

several : (who : Sender) (pages : List ℕ) (j : JournalData) (b : List Part) (p : Agenda) (rel : List Piece) (dr : List Drop) (s at : State) (c n : ℕ) (d : Done) → is_large b ≡ false → s.devices.clock ≡ None → gift_of s p ≡ Later c → IsSpell c s n → moved timed n s ≡ Some at → done who pages (record { journal = j; batch = b; machine = at }) StepOn ≡ Some d
    → AreMoves who j b p rel dr s at n StepOn d p
several who pages j b p rel dr s at c n d small none l spell m e =
    let q = quiet_moves who n j b p rel dr s at c small none l m spell.before in
    let f = goes c at q.goes in
    let next = next_is at p c q.clock q.later f.silent in
    let one = one_move who pages j b p p rel dr at StepOn d next e in
    record {
      pages = replicate n [] ++ pages ∷ [];
      many = length_one_more (replicate n []) pages ∙ ap (λ k. k + 1) (length-replicate n []);
      moves_are = rw (moves-append who (replicate n []) (pages ∷ []) (running j b p rel dr s), q.moves_are, one) refl;
    }

-- the running machine asks, or makes steps
asked_next : (s : State) (p : Agenda) (c : ℕ) → s.devices.clock ≡ None → gift_of s p ≡ Later c → asks s ≡ true → next_act s p ≡ Some (record { act = AnswerClock (clock_of p); script = with_asked p })
asked_next s p c none l asked =
    let a = (later p p.events c s l).act in
    rw (none, a, asked) refl

gift_next : (s : State) (p : Agenda) (what : Event) → s.devices.clock ≡ None → gift_of s p ≡ Comes what → next_act s p ≡ Some (record { act = act_of what; script = without_first p p.events })
gift_next s p what none h = let a = due_next p p.events s what h in rw (none, a) refl

acts : (plan : Plan) (n : ℕ) (act other : Act) → plan ≡ doing n act → plan.act ≡ Some other → (act ≡ other) × (plan.quiet ≡ n)
acts plan n act other e h =
    let e' : Some act ≡ Some other = sym (ap (λ (q : Plan). q.act) e) ∙ h in
    (let r : act ≡ other = cc in r, ap (λ (q : Plan). q.quiet) e)

idle_none : (plan : Plan) (turn : Answer) (other : Act) → plan ≡ idling turn → plan.act ≡ Some other → ⊥
idle_none plan turn other e h =
    let e' : None ≡ Some other = sym (ap (λ (q : Plan). q.act) e) ∙ h in
    absurd cc

no_clock : (o : Option ℕ) → is_some o ≡ false → o ≡ None
no_clock None e = refl
no_clock (Some v) e = absurd cc

-- A turn whose feed gives what a script says makes moves of the script's run: one for each of its steps, else one.
pub turn_is_moves : (who : Sender) (pages : List ℕ) (j : JournalData) (b : List Part) (p : Agenda) (rel : List Piece) (dr : List Drop) (s at : State) (plan : Plan) (act : Act) (d : Done) → OfScript who pages j b p s plan act d at
    → AreMoves who j b p rel dr s at plan.quiet act d (behind_turn (is_some s.devices.clock) (gift_of s p) act p)
turn_is_moves who pages j b p rel dr s at plan act d h = by_clock (is_some s.devices.clock) refl h.is_plan
  where
    one : (other : Act) (q : Agenda) → plan ≡ doing 0 other → (act ≡ other → next_act s p ≡ Some (record { act = act; script = q })) → AreMoves who j b p rel dr s at plan.quiet act d q
    one other q e n =
        let a = acts plan 0 other act e h.act_is in
        let m : moved timed 0 s ≡ Some at = rw a.1 at h.quiet in
        rw a.1 (single who pages j b p q rel dr s at act d m (n (sym a.0)) h.done_is)

    by_asks : (c : ℕ) (asked : Bool) → asks s ≡ asked → s.devices.clock ≡ None → gift_of s p ≡ Later c → IsPlanRunning asked c (clock_of p) s plan → AreMoves who j b p rel dr s at plan.quiet act d (behind_gift (Later c) act p)
    by_asks c true e none l f =
        let a = acts plan 0 (AnswerClock (clock_of p)) act f h.act_is in
        let n = asked_next s p c none l e in
        let q : behind_gift (Later c) act p ≡ with_asked p = rw (← a.0) refl in
        rw q (one (AnswerClock (clock_of p)) (with_asked p) f (λ same. rw same n))
    by_asks c false e none l f =
        let a = acts plan f.0 StepOn act f.2 h.act_is in
        let m : moved timed f.0 s ≡ Some at = rw a.1 at h.quiet in
        let e' : done who pages (record { journal = j; batch = b; machine = at }) StepOn ≡ Some d = subst (λ (x : Act). done who pages (record { journal = j; batch = b; machine = at }) x ≡ Some d) (sym a.0) h.done_is in
        let done_by = several who pages j b p rel dr s at c f.0 d h.small none l f.1 m e' in
        rw a.1 (subst (λ (x : Act). AreMoves who j b p rel dr s at f.0 x d (behind_gift (Later c) x p)) a.0 done_by)

    by_status : (c : ℕ) (status : Status) → s.status ≡ status → s.devices.clock ≡ None → gift_of s p ≡ Later c → IsPlanBefore status c (clock_of p) s plan → AreMoves who j b p rel dr s at plan.quiet act d (behind_gift (Later c) act p)
    by_status c Running e none l f = by_asks c (asks s) refl none l f
    by_status c Waits e none l f = absurd (idle_none plan Waiting act f h.act_is)
    by_status c IsHalted e none l f = absurd (idle_none plan Halted act f h.act_is)

    by_gift : (g : Gift) → gift_of s p ≡ g → s.devices.clock ≡ None → IsPlanOf g (clock_of p) s plan → AreMoves who j b p rel dr s at plan.quiet act d (behind_gift g act p)
    by_gift (Comes what) e none f = one (act_of what) (without_first p p.events) f (λ same. rw same (gift_next s p what none e))
    by_gift (Later c) e none f = by_status c s.status refl none e f
    by_gift Over e none f = absurd (idle_none plan End act f h.act_is)

    by_clock : (b2 : Bool) → is_some s.devices.clock ≡ b2 → IsPlan b2 (gift_of s p) (clock_of p) s plan → AreMoves who j b p rel dr s at plan.quiet act d (behind_turn b2 (gift_of s p) act p)
    by_clock true e f = one StepOn p f (λ same. rw (same, e) refl)
    by_clock false e f = by_gift (gift_of s p) refl (no_clock s.devices.clock e) f

-- Where the feed gives the end, the run has ended.
pub over_is_end : (s : State) (p : Agenda) → is_some s.devices.clock ≡ false → gift_of s p ≡ Over → next_act s p ≡ None
over_is_end s p none h = rw none (by (p.events) h)
  where
    by : (es : List Timed) → gift_at s p es ≡ Over → by_events s p es ≡ None
    by [] q = go (is_due p.ending s) refl q
      where
        go : (b : Bool) → is_due p.ending s ≡ b → (if b then Over else Later p.ending) ≡ Over → by_events s p [] ≡ None
        go true e r = rw e refl
        go false e r = absurd cc
    by (x ∷ es) q = absurd (go (is_due x.at s) q)
      where
        go : (b : Bool) → (if b then Comes x.event else Later x.at) ≡ Over → ⊥
        go true r = absurd cc
        go false r = absurd cc
