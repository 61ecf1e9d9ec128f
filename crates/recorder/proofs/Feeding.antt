-- What a feed gave, by what it says of a call.
use Rattle.std.proofs.Common.{◌≡◌, ℕ, Bool, true, false, List, [], ◌∷◌, ◌++◌, length, take, drop, Option, Some, None, refl, sym, ap, subst, ◌∙◌}
use Rattle.std.specs.Prelude.{IfSome}
use Rattle.std.specs.Option.{option_map}
use Rattle.avm_model.specs.Machine.{State, asks, is_running}
use Rattle.avm_model.specs.declared.Status.TheVariants.{Running, Waiting as Waits, Halted as IsHalted}
use Rattle.avm_outside.specs.Feed.{Agenda, Event, Gave, Gives, bytes_of, clock_of, console, due_of, packet, resend, with_asked}
use Rattle.avm_outside.specs.Outside.{BothTold}
use Rattle.avm_outside.specs.declared.due.Due.{Due}
use Rattle.avm_outside.specs.declared.due.Due.TheVariants.{Console, Packet, Resend, Later as DueLater, End as DueEnd}
use Rattle.record_model.specs.Recorded.{act_of}
use Rattle.record_model.specs.Turn.{Comes, Gift, Later, Over, without_first}
use Rattle.recorder.specs.Turns.{Feeds, FeedsLater, IsFirst, IsValue}

-- ---- two meanings

pub both_same : {A : Type 0} (o : Option A) (R : A → A → Type 0) → ((x : A) → R x x) → BothTold o o R
both_same None R h = tt
both_same (Some x) R h = h x

pub both_map : {A : Type 0} (o p : Option A) (R S : A → A → Type 0) → BothTold o p R → ((x y : A) → o ≡ Some x → R x y → S x y) → BothTold o p S
both_map None None R S h f = tt
both_map None (Some y) R S h f = h
both_map (Some x) None R S h f = h
both_map (Some x) (Some y) R S h f = f x y refl h

pub at_some : {A : Type 0} (o : Option A) (x : A) (P : A → Type 0) → o ≡ Some x → IfSome o P → P x
at_some None x P e h = absurd cc
at_some (Some y) x P e h = let same : y ≡ x = cc in subst P same h

-- ---- an event

front_is : (n : ℕ) (bs rest after : List ℕ) → n ≡ length bs → after ≡ bs ++ rest → take n after ≡ bs
front_is n bs rest after e f = ap (λ (k : ℕ). take k after) e ∙ ap (take (length bs)) f ∙ front bs rest
  where
    front : (bs rest : List ℕ) → take (length bs) (bs ++ rest) ≡ bs
    front [] rest = refl
    front (b ∷ bs) rest = ap (λ (xs : List ℕ). b ∷ xs) (front bs rest)

pub console_is : (n : ℕ) (e : Event) (before after : List ℕ) → Console n ≡ due_of e → after ≡ bytes_of e ++ drop (length (bytes_of e)) before → e ≡ console (take n after)
console_is n (console bs) before after d b = let l : n ≡ length bs = cc in ap console (sym (front_is n bs _ after l b))
console_is n (packet bs) before after d b = absurd cc
console_is n (resend peer) before after d b = absurd cc

pub packet_is : (n : ℕ) (e : Event) (before after : List ℕ) → Packet n ≡ due_of e → after ≡ bytes_of e ++ drop (length (bytes_of e)) before → e ≡ packet (take n after)
packet_is n (console bs) before after d b = absurd cc
packet_is n (packet bs) before after d b = let l : n ≡ length bs = cc in ap packet (sym (front_is n bs _ after l b))
packet_is n (resend peer) before after d b = absurd cc

pub resend_is : (peer : ℕ) (e : Event) → Resend peer ≡ due_of e → e ≡ resend peer
resend_is peer (console bs) d = absurd cc
resend_is peer (packet bs) d = absurd cc
resend_is peer (resend other) d = let same : other ≡ peer = cc in ap resend same

no_value : (what : Event) (held : Agenda) → IsValue (Some (act_of what)) held
no_value (console bs) held = tt
no_value (packet bs) held = tt
no_value (resend peer) held = tt

pub comes_fed : (answer : Agenda → ℕ → Bool → Due) (s : State) (due : Due) (what : Event) (old new : Agenda) (before after : List ℕ) → due ≡ answer old s.count (is_running s.status) → Gives due old new before after
    → ((e : Event) → due ≡ due_of e → after ≡ bytes_of e ++ drop (length (bytes_of e)) before → e ≡ what) → Feeds false answer s (Comes what) 0 old new
comes_fed answer s due what old new before after is g same =
    let e : g.0.event ≡ what = same g.0.event g.1 g.3 in
    record {
      given = record { due = ap due_of (sym e) ∙ sym g.1 ∙ is; first = subst (λ (o : Agenda). IsFirst (Comes what) o.events) (sym g.2) e };
      value_is = no_value what old;
      left = subst (λ (o : Agenda). new ≡ without_first o o.events) (sym g.2) refl;
    }

-- ---- no event

pub over_fed : (answer : Agenda → ℕ → Bool → Due) (s : State) (old new : Agenda) → DueEnd ≡ answer old s.count (is_running s.status) → new ≡ old → Feeds false answer s Over 0 old new
over_fed answer s old new is same = record { given = record { due = is; first = tt }; value_is = tt; left = same }

pub later_fed : (answer : Agenda → ℕ → Bool → Due) (s : State) (c value : ℕ) (old new : Agenda) → DueLater c ≡ answer old s.count (is_running s.status) → FeedsLater s c value old new → Feeds false answer s (Later c) value old new
later_fed answer s c value old new is h = record { given = record { due = is; first = tt }; value_is = h.value_is; left = h.left }

pub pending_fed : (answer : Agenda → ℕ → Bool → Due) (s : State) (pending : Bool) (held : Agenda) → pending ≡ true → Feeds pending answer s Over 0 held held
pending_fed answer s pending held e = subst (λ (b : Bool). Feeds b answer s Over 0 held held) (sym e) (record { given = tt; value_is = tt; left = refl })

-- ---- before a count

pub waits_fed : (s : State) (c value : ℕ) (held : Agenda) → s.status ≡ Waits → FeedsLater s c value held held
waits_fed s c value held e = record { value_is = rw e tt; left = rw e refl }

pub halted_fed : (s : State) (c value : ℕ) (held : Agenda) → s.status ≡ IsHalted → FeedsLater s c value held held
halted_fed s c value held e = record { value_is = rw e tt; left = rw e refl }

pub steps_fed : (s : State) (c value : ℕ) (held : Agenda) → s.status ≡ Running → asks s ≡ false → FeedsLater s c value held held
steps_fed s c value held e a = record { value_is = rw (a, e) tt; left = rw (a, e) refl }

pub asked_fed : (s : State) (c value : ℕ) (old new : Agenda) → s.status ≡ Running → asks s ≡ true → value ≡ clock_of old → new ≡ with_asked old → FeedsLater s c value old new
asked_fed s c value old new e a v n = record { value_is = rw (a, e) v; left = rw (a, e) n }

-- a clock request
pub clock_told : (o p : Option Agenda) (s : State) (c value : ℕ) → s.status ≡ Running → asks s ≡ true → IfSome o (λ was. value ≡ clock_of was) → p ≡ option_map with_asked o → BothTold o p (FeedsLater s c value)
clock_told None None s c value e a v h = tt
clock_told None (Some y) s c value e a v h = absurd cc
clock_told (Some x) None s c value e a v h = absurd cc
clock_told (Some x) (Some y) s c value e a v h = let same : y ≡ with_asked x = cc in asked_fed s c value x y e a v same

-- what came before a count, and what was done with it
pub later_told : (a b c : Option Agenda) (answer : Agenda → ℕ → Bool → Due) (s : State) (until value : ℕ) (before after : List ℕ) → BothTold a b (λ was now. Gave (DueLater until) was now before after) → IfSome a (λ was. DueLater until ≡ answer was s.count (is_running s.status)) → BothTold b c (FeedsLater s until value)
    → BothTold a c (Feeds false answer s (Later until) value)
later_told None None None answer s until value before after g i h = tt
later_told None None (Some z) answer s until value before after g i h = h
later_told None (Some y) c answer s until value before after g i h = absurd g
later_told (Some x) None c answer s until value before after g i h = absurd g
later_told (Some x) (Some y) None answer s until value before after g i h = h
later_told (Some x) (Some y) (Some z) answer s until value before after g i h = later_fed answer s until value x z i (subst (λ (o : Agenda). FeedsLater s until value o z) g.0 h)

-- a machine that runs so, at such a count
pub asked_at : (a : Option Agenda) (answer : Agenda → ℕ → Bool → Due) (due : Due) (n m : ℕ) (x y : Bool) → n ≡ m → x ≡ y → IfSome a (λ was. due ≡ answer was n x) → IfSome a (λ was. due ≡ answer was m y)
asked_at a answer due n m x y e f h = subst (λ (k : ℕ). IfSome a (λ was. due ≡ answer was k y)) e (subst (λ (b : Bool). IfSome a (λ was. due ≡ answer was n b)) f h)

-- no clock is pending
pub free_fed : (a b : Option Agenda) (answer : Agenda → ℕ → Bool → Due) (s : State) (gift : Gift) (value : ℕ) (pending : Bool) → pending ≡ false → BothTold a b (Feeds false answer s gift value) → BothTold a b (Feeds pending answer s gift value)
free_fed a b answer s gift value pending e h = subst (λ (x : Bool). BothTold a b (Feeds x answer s gift value)) (sym e) h

-- an event came
pub event_told : (a b : Option Agenda) (answer : Agenda → ℕ → Bool → Due) (s : State) (due : Due) (what : Event) (before after : List ℕ) → IfSome a (λ was. due ≡ answer was s.count (is_running s.status)) → BothTold a b (λ was now. Gives due was now before after)
    → ((e : Event) → due ≡ due_of e → after ≡ bytes_of e ++ drop (length (bytes_of e)) before → e ≡ what) → BothTold a b (Feeds false answer s (Comes what) 0)
event_told None None answer s due what before after i g same = tt
event_told None (Some y) answer s due what before after i g same = g
event_told (Some x) None answer s due what before after i g same = g
event_told (Some x) (Some y) answer s due what before after i g same = comes_fed answer s due what x y before after i g same

-- the run is over
pub end_told : (a b : Option Agenda) (answer : Agenda → ℕ → Bool → Due) (s : State) (before after : List ℕ) → IfSome a (λ was. DueEnd ≡ answer was s.count (is_running s.status)) → BothTold a b (λ was now. Gave DueEnd was now before after) → BothTold a b (Feeds false answer s Over 0)
end_told None None answer s before after i g = tt
end_told None (Some y) answer s before after i g = g
end_told (Some x) None answer s before after i g = g
end_told (Some x) (Some y) answer s before after i g = over_fed answer s x y i g.0
