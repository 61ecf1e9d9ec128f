-- A station that joins agrees with the others: it has no mail.
use Rattle.std.proofs.Common.{◌≡◌, ℕ, zero, suc, List, [], ◌∷◌, ◌++◌, length, map, Some, refl, sym, ap, subst, ◌∙◌, ◌⊎◌, inl, inr}
use Rattle.std.specs.Prelude.{slice_get}
use Rattle.honest_model.proofs.Logs.{map-append}
use Rattle.life_model.specs.Life.{Among}
use Rattle.world_model.specs.World.{AckedBy, Holds, IsBacked, IsConsistent, IsNumbered, Mail, Node, ReceivedFrom, SentTo, World, mail_of}
use Rattle.world_laws.specs.Events.{IsSound}
use Rattle.world_laws.specs.Network.{IsAgreeing, IsFirst, IsNewcomer, Network, Station, empty_network, station_node, world_of}
use Rattle.world_model.proofs.Lists.{get_front, get_one_more}
use Rattle.world_laws.proofs.Starts.{first_kept, no_mail}

-- ---- worlds

-- the world with one node more
abbrev with_node : World → Node → World
with_node w n = record { nodes = w.nodes ++ n ∷ []; pool = w.pool }

holds_more : (w : World) (n : Node) (id : ℕ) (m : Mail) → Holds w id m → Holds (with_node w n) id m
holds_more w n id m h = record { place = h.place; node = h.node; node_is = get_front w.nodes (n ∷ []) h.place h.node h.node_is; own = h.own; stands = h.stands }

backed_more : (w : World) (n : Node) (own : ℕ) (m : Mail) → IsBacked w own m → IsBacked (with_node w n) own m
backed_more w n own (SentTo peer number payload) h = tt
backed_more w n own (ReceivedFrom peer number payload) h = holds_more w n peer (SentTo own number payload) h
backed_more w n own (AckedBy peer number) h = (h.0, holds_more w n peer (ReceivedFrom own number h.0) h.1)

abbrev IsOther : World → Node → Type 0
IsOther w n = (i : ℕ) (a : Node) → slice_get w.nodes i ≡ Some a → a.own ≡ n.own → ⊥

abbrev Either : World → Node → ℕ → Node → Type 0
Either w n i a = (slice_get w.nodes i ≡ Some a) ⊎ ((i ≡ length w.nodes) × (a ≡ n))

distinct_more : (w : World) (n : Node) → IsConsistent w → IsOther w n → (i j : ℕ) (a b : Node) → Either w n i a → Either w n j b → a.own ≡ b.own → i ≡ j
distinct_more w n c other i j a b (inl p) (inl q) o = c.distinct i j a b p q o
distinct_more w n c other i j a b (inl p) (inr q) o = absurd (other i a p (o ∙ ap (λ (x : Node). x.own) q.1))
distinct_more w n c other i j a b (inr p) (inl q) o = absurd (other j b q (sym o ∙ ap (λ (x : Node). x.own) p.1))
distinct_more w n c other i j a b (inr p) (inr q) o = p.0 ∙ sym q.0

numbered_none : (ms : List Mail) → ms ≡ [] → IsNumbered ms
numbered_none ms e = rw e (record { sent = λ peer. tt; received = λ peer. tt })

numbered_more : (w : World) (n : Node) → IsConsistent w → mail_of n ≡ [] → (i : ℕ) (a : Node) → Either w n i a → IsNumbered (mail_of a)
numbered_more w n c none i a (inl p) = c.numbered i a p
numbered_more w n c none i a (inr p) = numbered_none (mail_of a) (ap (λ (x : Node). mail_of x) p.1 ∙ none)

all_backed : (w : World) (n : Node) → IsConsistent w → mail_of n ≡ [] → (i : ℕ) (a : Node) (m : Mail) → Either w n i a → Among m (mail_of a) → IsBacked (with_node w n) a.own m
all_backed w n c none i a m (inl p) h = backed_more w n a.own m (c.backed i a m p h)
all_backed w n c none i a m (inr p) h =
    let bad : Among m [] = subst (λ (ms : List Mail). Among m ms) (ap (λ (x : Node). mail_of x) p.1 ∙ none) h in
    absurd bad

node_joins : (w : World) (n : Node) → IsConsistent w → mail_of n ≡ [] → IsOther w n → IsConsistent (with_node w n)
node_joins w n c none other = record {
  distinct = λ i j a b p q o. distinct_more w n c other i j a b (get_one_more w.nodes n a i p) (get_one_more w.nodes n b j q) o;
  numbered = λ i a p. numbered_more w n c none i a (get_one_more w.nodes n a i p);
  backed = λ i a m p h. all_backed w n c none i a m (get_one_more w.nodes n a i p) h;
  pool = λ p i. holds_more w n p.from p.mail (c.pool p i);
}

-- ---- networks

pub record Mapped {A B : Type 0} (f : A → B) (xs : List A) (i : ℕ) (y : B) : Type 0 where
  pub of : A
  pub there : slice_get xs i ≡ Some of
  pub is : f of ≡ y

map_get : {A B : Type 0} (f : A → B) (xs : List A) (i : ℕ) (y : B) → slice_get (map f xs) i ≡ Some y → Mapped f xs i y
map_get f [] i y e = absurd cc
map_get f (x ∷ xs) zero y e = let same : f x ≡ y = cc in record { of = x; there = refl; is = same }
map_get f (x ∷ xs) (suc i) y e = let k = map_get f xs i y e in record { of = k.of; there = k.there; is = k.is }

sound_more : (n : Network) (s : Station) → IsAgreeing n → IsFirst s → (i : ℕ) (u : Station) → (slice_get n.stations i ≡ Some u) ⊎ ((i ≡ length n.stations) × (u ≡ s)) → IsSound u.recording
sound_more n s h first i u (inl p) = h.sound i u p
sound_more n s h first i u (inr p) = subst (λ (x : Station). IsSound x.recording) (sym p.1) (first_kept s first)

pub joined_agrees : (n : Network) (s : Station) → IsAgreeing n → IsNewcomer n s → IsAgreeing (record n { stations = n.stations ++ s ∷ [] })
joined_agrees n s h new =
    let world : with_node (world_of n) (station_node s) ≡ world_of (record n { stations = n.stations ++ s ∷ [] }) = ap (λ (x : List Node). record { nodes = x; pool = (world_of n).pool }) (sym (map-append station_node n.stations (s ∷ []))) in
    record {
      sound = λ i u e. sound_more n s h new.first i u (get_one_more n.stations s u i e);
      consistent = subst IsConsistent world (node_joins (world_of n) (station_node s) h.consistent (no_mail s new.first) (λ i a p o.
          let x = map_get station_node n.stations i a p in
          new.other i x.of x.there (ap (λ (z : Node). z.own) x.is ∙ o)));
      belongs = λ peer bytes i. let b = h.belongs peer bytes i in record { place = b.place; station = b.station; station_is = get_front n.stations (s ∷ []) b.place b.station b.station_is; stands = b.stands };
    }

pub empty_agrees : IsAgreeing empty_network
empty_agrees = record {
  sound = λ i s e. absurd cc;
  consistent = record {
    distinct = λ i j a b p q o. absurd cc;
    numbered = λ i a p. absurd cc;
    backed = λ i a m p k. absurd cc;
    pool = λ p i. absurd i;
  };
  belongs = λ peer bytes i. absurd i;
}
