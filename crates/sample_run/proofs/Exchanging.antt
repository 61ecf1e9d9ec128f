-- Exchanges one after another.
use Rattle.std.proofs.Common.{◌≡◌, ℕ, List, [], ◌∷◌, ◌++◌, Option, None, Result, Ok, Err, OnOk, refl, sym, ap, subst, ◌∙◌}
use Rattle.avm_model.specs.Keys.{KeyData}
use Rattle.avm_model.specs.Machine.{State}
use Rattle.journal_model.specs.Saving.{CommitRefusal}
use Rattle.record_model.specs.Recorded.{HasEnded, IsLast, Run, seal_run}
use Rattle.record_model.specs.Released.{Sender}
use Rattle.recorder.specs.Recorder.{desk_of, stop_of}
use Rattle.sample_model.specs.Talk.{AreExchanges, IsExchange, Talk as TalkOf}
use Rattle.sample_node.proofs.Owns.{turn_own}
use Rattle.sample_node.specs.Node.{IsLeft, IsNode, SealEnds, sender_in}
use Rattle.sample_node.specs.declared.node.Node.{Node}
use Rattle.sample_talk.specs.Talking.{Exchanged, IsTalk}
use Rattle.sample_talk.specs.declared.talk.Talk.{Talk}
use Rattle.sample_run.specs.Running.{Converses}

-- exchanges were made to here
pub record Reached (who : Sender) (m : TalkOf) (k : ℕ) (t : Talk) : Type 0 where
  pub talks : List TalkOf
  pub now : TalkOf
  pub went : AreExchanges who m talks now
  pub talk : IsTalk k t now
  pub who_is : sender_in t.node ≡ who

pub reached_first : (m : TalkOf) (t : Talk) → IsTalk 1 t m → Reached (sender_in t.node) m 1 t
reached_first m t h = record { talks = []; now = m; went = refl; talk = h; who_is = refl }

exchanges_on : (who : Sender) (m : TalkOf) (us : List TalkOf) (a b : TalkOf) → AreExchanges who m us a → IsExchange who a b → AreExchanges who m (us ++ b ∷ []) b
exchanges_on who m [] a b went x = (subst (λ (t : TalkOf). IsExchange who t b) (sym went) x, refl)
exchanges_on who m (u ∷ us) a b went x = (went.0, exchanges_on who u us a b went.1 x)

-- ---- who signs

own_on : (who : Sender) (a b : TalkOf) → IsExchange who a b → b.run.recording.machine.devices.own ≡ a.run.recording.machine.devices.own
own_on who a b x = ap (λ (y : TalkOf). y.run.recording.machine.devices.own) x.behind ∙ turn_own who a.run x.run x.turn_is

same_sender : (o n : Node) (a b : State) → (desk_of n.recorder).press.key ≡ (desk_of o.recorder).press.key → (desk_of o.recorder).machine.state ≡ a → (desk_of n.recorder).machine.state ≡ b → b.devices.own ≡ a.devices.own → sender_in n ≡ sender_in o
same_sender o n a b key p q own =
    let owns : (desk_of n.recorder).machine.state.devices.own ≡ (desk_of o.recorder).machine.state.devices.own = ap (λ (s : State). s.devices.own) q ∙ own ∙ sym (ap (λ (s : State). s.devices.own) p) in
    let one : sender_in n ≡ record { key = (desk_of o.recorder).press.key; own = (desk_of n.recorder).machine.state.devices.own } = ap (λ (k : KeyData). record { key = k; own = (desk_of n.recorder).machine.state.devices.own }) key in
    let two : record { key = (desk_of o.recorder).press.key; own = (desk_of n.recorder).machine.state.devices.own } ≡ sender_in o = ap (λ (w : ℕ). record { key = (desk_of o.recorder).press.key; own = w }) owns in
    one ∙ two

-- ---- one exchange more

pub reached_on : (who : Sender) (m : TalkOf) (k next : ℕ) (o n : Talk) → (desk_of n.node.recorder).press.key ≡ (desk_of o.node.recorder).press.key → Reached who m k o → ((a : TalkOf) → IsTalk k o a → Exchanged next (sender_in n.node) n a) → Reached who m next n
reached_on who m k next o n key r went =
    let x = went r.now r.talk in
    let same = same_sender o.node n.node r.now.run.recording.machine x.after.run.recording.machine key r.talk.node.machine x.talk.node.machine (own_on (sender_in n.node) r.now x.after x.exchange) in
    let who_is = same ∙ r.who_is in
    record {
      talks = r.talks ++ x.after ∷ [];
      now = x.after;
      went = exchanges_on who m r.talks r.now x.after r.went (subst (λ (w : Sender). IsExchange w r.now x.after) who_is x.exchange);
      talk = x.talk;
      who_is = who_is;
    }

-- ---- the end

sealed_last : (who : Sender) (r last : Run) → HasEnded r → last ≡ seal_run who r → IsLast who r last
sealed_last who r last ended same =
    let is : record r { stop = None } ≡ r = ap (λ (x : Option CommitRefusal). record r { stop = x }) (sym ended.stop) in
    let both : HasEnded r × (last ≡ seal_run who r) = (ended, same) in
    let there : IsLast who (record r { stop = None }) last = subst (λ (x : Run). HasEnded x × (last ≡ seal_run who x)) (sym is) both in
    subst (λ (x : Run). IsLast who x last) is there

-- the disk of a run that has ended is its own
pub ended_node : (who : Sender) (m : TalkOf) (k : ℕ) (o : Talk) (n : Node) → Reached who m k o → ((a : TalkOf) → IsTalk k o a → HasEnded a.run × IsNode n a.run) → (r : Run) × IsNode n r
ended_node who m k o n r ended = (r.now.run, (ended r.now r.talk).1)

pub ended_talk : {T E : Type 0} (who : Sender) (m : TalkOf) (k : ℕ) (o : Talk) (n : Node) (z : Talk) (res : Result T E) → (desk_of n.recorder).press.key ≡ (desk_of o.node.recorder).press.key → Reached who m k o → ((a : TalkOf) → IsTalk k o a → HasEnded a.run × IsNode n a.run)
    → ((r : Run) → IsNode n r → SealEnds (sender_in n) z.node r res) → OnOk res (stop_of z.node.recorder ≡ None) → OnOk res (Converses who m z)
ended_talk {T} {E} who m k o n z res key r ended seals running = go res (seals r.now.run here.1) running
  where
    here : HasEnded r.now.run × IsNode n r.now.run
    here = ended r.now r.talk

    same : sender_in n ≡ who
    same = same_sender o.node n r.now.run.recording.machine r.now.run.recording.machine key r.talk.node.machine here.1.machine refl ∙ r.who_is

    go : (x : Result T E) → SealEnds (sender_in n) z.node r.now.run x → OnOk x (stop_of z.node.recorder ≡ None) → OnOk x (Converses who m z)
    go (Ok t) left running = record {
      talks = r.talks;
      end = r.now;
      went = r.went;
      last = seal_run who r.now.run;
      last_is = sealed_last who r.now.run (seal_run who r.now.run) here.0 refl;
      left = subst (λ (w : Sender). IsLeft z.node (seal_run w r.now.run)) same left;
      running = running;
    }
    go (Err e) left running = tt
