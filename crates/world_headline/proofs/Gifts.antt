-- What the feed of a deed gives brings no packet but one that was released.
use Rattle.std.proofs.Common.{ℕ, Bool, true, false, List, subst}
use Rattle.avm_model.specs.Machine.{State}
use Rattle.avm_outside.specs.Feed.{Event}
use Rattle.avm_outside.specs.Outlet.{Piece, packet}
use Rattle.life_model.specs.Life.{Among}
use Rattle.record_model.specs.Turn as turn
use Rattle.record_model.specs.Turn.{Gift, IsPlan, Plan}
use Rattle.recorder.specs.Turns.{IsAsked, IsFirst}
use Rattle.world_core.specs.Gifts.{agenda_for}
use Rattle.world_core.specs.Turns.{one_answer}
use Rattle.world_model.specs.Deeds.{Deed, Turn, Deliver, Console, Resend, Seal}
use Rattle.world_turns.specs.Comes.{BringsReleased, GivesReleased}

-- the bytes that are delivered are those of a packet that was released
abbrev pub Brought : List Piece → Deed → List ℕ → Type 0
Brought pool Turn bytes = Unit {0}
Brought pool (Deliver n) bytes = (peer : ℕ) × Among (packet peer bytes) pool
Brought pool (Console text) bytes = Unit {0}
Brought pool (Resend peer) bytes = Unit {0}
Brought pool Seal bytes = Unit {0}

given : (pool : List Piece) (gift : Gift) (deed : Deed) (bytes : List ℕ) (later number : ℕ) → Brought pool deed bytes → IsFirst gift (agenda_for deed bytes later number).events → GivesReleased pool gift
given pool (turn.Later c) deed bytes later number b f = tt
given pool turn.Over deed bytes later number b f = tt
given pool (turn.Comes what) Turn bytes later number b f = absurd f
given pool (turn.Comes what) (Deliver n) bytes later number b f = subst (λ (x : Event). BringsReleased pool x) f b
given pool (turn.Comes what) (Console text) bytes later number b f = subst (λ (x : Event). BringsReleased pool x) f tt
given pool (turn.Comes what) (Resend peer) bytes later number b f = subst (λ (x : Event). BringsReleased pool x) f tt
given pool (turn.Comes what) Seal bytes later number b f = absurd f

-- a gift by which the plan is the same, and that brings nothing else
pub record Chosen (pool : List Piece) (pending : Bool) (value : ℕ) (s : State) (plan : Plan) : Type 0 where
  pub gift : Gift
  pub gives : GivesReleased pool gift
  pub plan_is : IsPlan pending gift value s plan

-- nothing is asked of the feed where a clock is pending
pub chosen : (pool : List Piece) (deed : Deed) (bytes : List ℕ) (later number : ℕ) (s : State) (gift : Gift) (value : ℕ) (plan : Plan) (pending : Bool) → Brought pool deed bytes → IsAsked pending one_answer s gift (agenda_for deed bytes later number) → IsPlan pending gift value s plan → Chosen pool pending value s plan
chosen pool deed bytes later number s gift value plan true b a p = record { gift = turn.Over; gives = tt; plan_is = p }
chosen pool deed bytes later number s gift value plan false b a p = record { gift = gift; gives = given pool gift deed bytes later number b a.first; plan_is = p }
