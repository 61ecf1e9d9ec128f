use Rattle.std.proofs.Common.{ℕ, List, subst, sym}
use Rattle.jrnl_store.proofs.Commits.{shut_stands}
use Rattle.life_model.specs.Life.{CutTo, OnStore, Reopens, left_at}
use Rattle.record_store.specs.Saving.{StandsWith}
use Rattle.turn_lives.proofs.Events.{planned_lives, seal_lives, where_map}
use Rattle.turn_lives.proofs.laws.turns_are_lived.Goals as goal

pub returns-clause-opens : goal.returns-clause-opens
returns-clause-opens g c l d k was image j s m stands none opened own run =
    Reopens j s (OnStore d) (record {
      image = image;
      may_be_left = m;
      stands = stands;
      unmarked = none;
      opened_is = opened;
      images_are = λ x q. shut_stands j own.front x own.stands own.begun (own.left_shut run x q);
    })

pub returns-clause-turn : goal.returns-clause-turn
returns-clause-turn g c l a old new n now gift value aside after batch machine f held got result kept w head m run h =
    let left = left_at g.D.Disk.may_leave g.E.Disk.may_leave in
    let own = h.holds.own in
    let lived = planned_lives left g.O.Outlet.adding g.O.Outlet.tearing l kept a w head (OnStore new) f held got gift value aside after batch machine result h.next h.flight m
    (λ x q. h.holds.moments.each x (g.met.D.Disk.counts_now new (g.D.Disk.moment old) x h.holds.moments.later q))
    (where_map result _ _ (λ r x q. shut_stands h.next own.front x own.stands own.begun (own.left_shut r x q)) run)
    h.is in (
      lived.on,
      λ x q. lived.crash (CutTo x) (λ y same. subst (λ (z : List ℕ). StandsWith l.recording.journal h.flight z) (sym same) (h.holds.moments.each x q)),
    )

pub returns-clause-seal : goal.returns-clause-seal
returns-clause-seal g c l a old new n now rows batch f held got result kept w head run h =
    let left = left_at g.D.Disk.may_leave g.E.Disk.may_leave in
    let own = h.holds.own in
    let lived = seal_lives left g.O.Outlet.adding g.O.Outlet.tearing l kept a w head (OnStore new) f held got rows batch result h.next h.flight
    (λ x q. h.holds.moments.each x (g.met.D.Disk.counts_now new (g.D.Disk.moment old) x h.holds.moments.later q))
    (where_map result _ _ (λ r x q. shut_stands h.next own.front x own.stands own.begun (own.left_shut r x q)) run)
    h.is in (
      lived.on,
      λ x q. lived.crash (CutTo x) (λ y same. subst (λ (z : List ℕ). StandsWith l.recording.journal h.flight z) (sym same) (h.holds.moments.each x q)),
    )
