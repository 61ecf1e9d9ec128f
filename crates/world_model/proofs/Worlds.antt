-- What the nodes of a world agree on is kept by each event.
use Rattle.std.proofs.Common.{◌≡◌, ℕ, ◌≤◌, Bool, true, false, eqb, List, [], ◌++◌, length, Some, refl, sym, ap, subst, ◌∙◌, append_assoc, arith, ◌⊎◌, inl, inr}
use Rattle.std.proofs.lemmas.List.{append-nil}
use Rattle.std.proofs.lemmas.Bool.{eq-eqb, eqb-true}
use Rattle.std.specs.Prelude.{slice_get, slice_set}
use Rattle.world_model.specs.World.{IsPrefix, Message, Mail, SentTo, ReceivedFrom, AckedBy, sent_to, received_from, IsNumbered, Node, mail_of, Parcel, World, Ending, StaysOpen, IsSaved, IsLost, ended, IsDelivered, IsReleasedBy, IsStep, AreSteps, Rests, Follows, Holds, IsBacked, IsConsistent, AreAgreed}
use Rattle.world_model.proofs.Lists.{get_set_same, get_set_other, run_high, run_prefix}
use Rattle.world_model.proofs.Mails.{numbered_front, received_in, in_sent, in_received, acked_most}
use Rattle.life_model.specs.Life.{Among}
use Rattle.life_model.proofs.Among.{among_left, among_either}

-- ---- one node

pub own_stays : (n : Node) (more : List Mail) (e : Ending) → (ended n more e).own ≡ n.own
own_stays n more StaysOpen = refl
own_stays n more IsSaved = refl
own_stays n more IsLost = refl

-- the acknowledged journal loses nothing
pub saved_stays : (n : Node) (more : List Mail) (e : Ending) (m : Mail) → Among m n.saved → Among m (ended n more e).saved
saved_stays n more StaysOpen m i = i
saved_stays n more IsSaved m i = among_left m n.saved (n.unsaved ++ more) i
saved_stays n more IsLost m i = i

-- what is behind an ending is a front of what was in front of it
pub mail_front : (n : Node) (more : List Mail) (e : Ending) → IsPrefix (mail_of (ended n more e)) (mail_of n ++ more)
mail_front n more StaysOpen = ([], append_assoc n.saved n.unsaved more ∙ sym (append-nil (n.saved ++ (n.unsaved ++ more))))
mail_front n more IsSaved = ([], append_assoc n.saved n.unsaved more ∙ sym (append-nil (n.saved ++ (n.unsaved ++ more))) ∙ sym (append-nil ((n.saved ++ (n.unsaved ++ more)) ++ [])))
mail_front n more IsLost = (n.unsaved ++ more, append_assoc n.saved n.unsaved more ∙ ap (λ (ms : List Mail). ms ++ (n.unsaved ++ more)) (sym (append-nil n.saved)))

pub numbered_on : (n : Node) (more : List Mail) (e : Ending) → IsNumbered (mail_of n ++ more) → IsNumbered (mail_of (ended n more e))
numbered_on n more e h =
    let f = mail_front n more e in
    numbered_front (mail_of (ended n more e)) f.0 (subst IsNumbered f.1 h)

pub mail_from : (n : Node) (more : List Mail) (e : Ending) (m : Mail) → Among m (mail_of (ended n more e)) → Among m (mail_of n) ⊎ Among m more
mail_from n more e m i =
    let f = mail_front n more e in
    among_either m (mail_of n) more (subst (λ (ms : List Mail). Among m ms) (sym f.1) (among_left m (mail_of (ended n more e)) f.0 i))

-- ---- one step

-- a node behind a step: the one with the event, or one as it was
pub data Behind (w : World) (s : ℕ) (old new : Node) (i : ℕ) (a : Node) : Type 0 where
  Changed : i ≡ s → a ≡ new → Behind w s old new i a
  Same : (i ≡ s → ⊥) → slice_get w.nodes i ≡ Some a → Behind w s old new i a

pub behind : (w : World) (k : ℕ) (old new : Node) (i : ℕ) (a : Node) → slice_get w.nodes k ≡ Some old → slice_get (slice_set w.nodes k new) i ≡ Some a → Behind w k old new i a
behind w k old new i a e h = go (eqb i k) refl
  where
    go : (b : Bool) → eqb i k ≡ b → Behind w k old new i a
    go true q =
        let same : i ≡ k = eqb-true i k q in
        let there = get_set_same w.nodes k old new e in
        let here : slice_get (slice_set w.nodes k new) k ≡ Some a = subst (λ (n : ℕ). slice_get (slice_set w.nodes k new) n ≡ Some a) same h in
        let some : Some new ≡ Some a = sym there ∙ here in
        Changed same (let r : a ≡ new = cc in r)
    go false q =
        let other : i ≡ k → ⊥ = λ s. let t : eqb i k ≡ true = eq-eqb i k s in absurd cc in
        Same other (sym (get_set_other w.nodes k i new other) ∙ h)

-- the step, with its parts
pub record Stepping (w : World) (k : ℕ) (old : Node) (more : List Mail) (e : Ending) (released : List Parcel) : Type 0 where
  pub old_is : slice_get w.nodes k ≡ Some old
  pub delivered : (m : Mail) → Among m more → IsDelivered w.pool old.own m
  pub numbered : IsNumbered (mail_of old ++ more)
  pub released_by : (p : Parcel) → Among p released → IsReleasedBy (ended old more e) p

abbrev pub stepped : World → ℕ → Node → List Parcel → World
stepped w k new released = record { nodes = slice_set w.nodes k new; pool = w.pool ++ released }

-- what a node holds it holds on
pub holds_on : (w : World) (k : ℕ) (old : Node) (more : List Mail) (e : Ending) (released : List Parcel) (id : ℕ) (m : Mail) → slice_get w.nodes k ≡ Some old → Holds w id m → Holds (stepped w k (ended old more e) released) id m
holds_on w k old more e released id m is h = go (eqb h.place k) refl
  where
    go : (b : Bool) → eqb h.place k ≡ b → Holds (stepped w k (ended old more e) released) id m
    go true q =
        let same : h.place ≡ k = eqb-true h.place k q in
        let here : slice_get w.nodes k ≡ Some h.node = rw (← same) h.node_is in
        let some : Some old ≡ Some h.node = sym is ∙ here in
        let node : h.node ≡ old = cc in
        record {
          place = k;
          node = ended old more e;
          node_is = get_set_same w.nodes k old (ended old more e) is;
          own = own_stays old more e ∙ ap (λ (n : Node). n.own) (sym node) ∙ h.own;
          stands = saved_stays old more e m (subst (λ (n : Node). Among m n.saved) node h.stands);
        }
    go false q =
        let other : h.place ≡ k → ⊥ = λ s. let t : eqb h.place k ≡ true = eq-eqb h.place k s in absurd cc in
        record {
          place = h.place;
          node = h.node;
          node_is = get_set_other w.nodes k h.place (ended old more e) other ∙ h.node_is;
          own = h.own;
          stands = h.stands;
        }

pub backed_on : (w : World) (k : ℕ) (old : Node) (more : List Mail) (e : Ending) (released : List Parcel) (own : ℕ) (m : Mail) → slice_get w.nodes k ≡ Some old → IsBacked w own m → IsBacked (stepped w k (ended old more e) released) own m
backed_on w k old more e released own (SentTo peer number payload) is h = tt
backed_on w k old more e released own (ReceivedFrom peer number payload) is h = holds_on w k old more e released peer (SentTo own number payload) is h
backed_on w k old more e released own (AckedBy peer number) is h = (h.0, holds_on w k old more e released peer (ReceivedFrom own number h.0) is h.1)

-- what the pool shows backs what is delivered
pub delivered_backed : (w : World) (own : ℕ) (m : Mail) → ((p : Parcel) → Among p w.pool → Holds w p.from p.mail) → IsDelivered w.pool own m → IsBacked w own m
delivered_backed w own (SentTo peer number payload) pool d = tt
delivered_backed w own (ReceivedFrom peer number payload) pool d = pool (record { from = peer; mail = SentTo own number payload }) d
delivered_backed w own (AckedBy peer number) pool d = (d.0, pool (record { from = peer; mail = ReceivedFrom own number d.0 }) d.1)

distinct_on : (w : World) (k : ℕ) (old : Node) (more : List Mail) (e : Ending) → IsConsistent w → slice_get w.nodes k ≡ Some old
    → (i j : ℕ) (a b : Node) → Behind w k old (ended old more e) i a → Behind w k old (ended old more e) j b → a.own ≡ b.own → i ≡ j
distinct_on w k old more e c is i j a b (Changed p q) (Changed r s) o = p ∙ sym r
distinct_on w k old more e c is i j a b (Changed p q) (Same r s) o =
    let same : old.own ≡ b.own = sym (own_stays old more e) ∙ ap (λ (n : Node). n.own) (sym q) ∙ o in
    p ∙ c.distinct k j old b is s same
distinct_on w k old more e c is i j a b (Same p q) (Changed r s) o =
    let same : a.own ≡ old.own = o ∙ ap (λ (n : Node). n.own) s ∙ own_stays old more e in
    c.distinct i k a old q is same ∙ sym r
distinct_on w k old more e c is i j a b (Same p q) (Same r s) o = c.distinct i j a b q s o

numbered_behind : (w : World) (k : ℕ) (old : Node) (more : List Mail) (e : Ending) (released : List Parcel) → IsConsistent w → Stepping w k old more e released
    → (i : ℕ) (a : Node) → Behind w k old (ended old more e) i a → IsNumbered (mail_of a)
numbered_behind w k old more e released c s i a (Changed p q) = subst (λ (n : Node). IsNumbered (mail_of n)) (sym q) (numbered_on old more e s.numbered)
numbered_behind w k old more e released c s i a (Same p q) = c.numbered i a q

backed_new : (w : World) (k : ℕ) (old : Node) (more : List Mail) (e : Ending) (released : List Parcel) → IsConsistent w → Stepping w k old more e released
    → (m : Mail) → Among m (mail_of old) ⊎ Among m more → IsBacked w old.own m
backed_new w k old more e released c s m (inl i) = c.backed k old m s.old_is i
backed_new w k old more e released c s m (inr i) = delivered_backed w old.own m c.pool (s.delivered m i)

backed_behind : (w : World) (k : ℕ) (old : Node) (more : List Mail) (e : Ending) (released : List Parcel) → IsConsistent w → Stepping w k old more e released
    → (i : ℕ) (a : Node) (m : Mail) → Behind w k old (ended old more e) i a → Among m (mail_of a) → IsBacked (stepped w k (ended old more e) released) a.own m
backed_behind w k old more e released c s i a m (Changed p q) h =
    let here : Among m (mail_of (ended old more e)) = subst (λ (n : Node). Among m (mail_of n)) q h in
    let own : old.own ≡ a.own = sym (own_stays old more e) ∙ ap (λ (n : Node). n.own) (sym q) in
    let old_backed = backed_new w k old more e released c s m (mail_from old more e m here) in
    subst (λ (o : ℕ). IsBacked (stepped w k (ended old more e) released) o m) own (backed_on w k old more e released old.own m s.old_is old_backed)
backed_behind w k old more e released c s i a m (Same p q) h = backed_on w k old more e released a.own m s.old_is (c.backed i a m q h)

pool_behind : (w : World) (k : ℕ) (old : Node) (more : List Mail) (e : Ending) (released : List Parcel) → IsConsistent w → Stepping w k old more e released
    → (p : Parcel) → Among p w.pool ⊎ Among p released → Holds (stepped w k (ended old more e) released) p.from p.mail
pool_behind w k old more e released c s p (inl i) = holds_on w k old more e released p.from p.mail s.old_is (c.pool p i)
pool_behind w k old more e released c s p (inr i) =
    let r = s.released_by p i in
    record {
      place = k;
      node = ended old more e;
      node_is = get_set_same w.nodes k old (ended old more e) s.old_is;
      own = sym r.0;
      stands = r.1;
    }

consistent_on : (w : World) (k : ℕ) (old : Node) (more : List Mail) (e : Ending) (released : List Parcel) → IsConsistent w → Stepping w k old more e released → IsConsistent (stepped w k (ended old more e) released)
consistent_on w k old more e released c s = record {
  distinct = λ i j a b p q o. distinct_on w k old more e c s.old_is i j a b (behind w k old (ended old more e) i a s.old_is p) (behind w k old (ended old more e) j b s.old_is q) o;
  numbered = λ i a p. numbered_behind w k old more e released c s i a (behind w k old (ended old more e) i a s.old_is p);
  backed = λ i a m p h. backed_behind w k old more e released c s i a m (behind w k old (ended old more e) i a s.old_is p) h;
  pool = λ p i. pool_behind w k old more e released c s p (among_either p w.pool released i);
}

pub step_consistent : (w v : World) → IsConsistent w → IsStep w v → IsConsistent v
step_consistent w v c h =
    let ev = h.event in
    let s : Stepping w h.place h.old ev.more ev.ending h.released = record {
      old_is = h.old_is;
      delivered = ev.delivered;
      numbered = ev.numbered;
      released_by = λ p i. subst (λ (n : Node). IsReleasedBy n p) ev.new_is (ev.released_by p i);
    } in
    let is : v ≡ stepped w h.place (ended h.old ev.more ev.ending) h.released = h.next ∙ ap (λ (n : Node). stepped w h.place n h.released) ev.new_is in
    subst IsConsistent (sym is) (consistent_on w h.place h.old ev.more ev.ending h.released c s)

pub steps_consistent : (w v : World) → IsConsistent w → AreSteps w v → IsConsistent v
steps_consistent w v c (Rests _) = c
steps_consistent w v c (Follows _ u _ before last) = step_consistent u v (steps_consistent w u c before) last

-- ---- two nodes

-- the node that has an id is the one at its place
held : (w : World) (j : ℕ) (b : Node) (m : Mail) → IsConsistent w → slice_get w.nodes j ≡ Some b → Holds w b.own m → Among m b.saved
held w j b m c is h =
    let same : h.place ≡ j = c.distinct h.place j h.node b h.node_is is h.own in
    let here : slice_get w.nodes j ≡ Some h.node = rw (← same) h.node_is in
    let some : Some h.node ≡ Some b = sym here ∙ is in
    let node : h.node ≡ b = cc in
    subst (λ (n : Node). Among m n.saved) node h.stands

pub agreed : (w : World) (i j : ℕ) (a b : Node) → IsConsistent w → slice_get w.nodes i ≡ Some a → slice_get w.nodes j ≡ Some b → AreAgreed a b
agreed w i j a b c p q = record {
  received = run_prefix 1 (received_from b.own (mail_of a)) (sent_to a.own b.saved) ((c.numbered i a p).received b.own) ((numbered_front b.saved b.unsaved (c.numbered j b q)).sent a.own) each;
  acked = acked_most (length (received_from a.own b.saved)) 0 b.own (mail_of a) (omega arith) most;
}
  where
    each : (m : Message) → Among m (received_from b.own (mail_of a)) → Among m (sent_to a.own b.saved)
    each m i' =
        let k = received_in b.own m (mail_of a) i' in
        let h : Holds w b.own (SentTo a.own m.0 m.1) = c.backed i a (ReceivedFrom b.own m.0 m.1) p k in
        in_sent a.own m.0 m.1 b.saved (held w j b (SentTo a.own m.0 m.1) c q h)

    most : (n : ℕ) → Among (AckedBy b.own n) (mail_of a) → n ≤ length (received_from a.own b.saved)
    most n i' =
        let h : IsBacked w a.own (AckedBy b.own n) = c.backed i a (AckedBy b.own n) p i' in
        let there = in_received a.own n h.0 b.saved (held w j b (ReceivedFrom a.own n h.0) c q h.1) in
        let high = run_high 1 (received_from a.own b.saved) (n, h.0) ((numbered_front b.saved b.unsaved (c.numbered j b q)).received a.own) there in
        omega (arith, high)
