-- Happenings at a station are a schedule of its network.
use Rattle.std.proofs.Common.{◌≡◌, ℕ, zero, suc, List, [], ◌∷◌, ◌++◌, Some, refl, sym, ap, subst, ◌∙◌, append_assoc}
use Rattle.std.specs.Prelude.{slice_get, slice_set}
use Rattle.std.proofs.lemmas.List.{append-nil}
use Rattle.avm_outside.specs.Outlet.{Piece}
use Rattle.record_model.specs.Recording.{Recording}
use Rattle.record_model.specs.Released.{Sender}
use Rattle.world_laws.specs.Network.{GoesOn, IsSchedule, Network, Rests, Station}
use Rattle.world_model.proofs.Lists.{get_set_same}
use Rattle.world_turns.specs.Comes.{Comes, Stays, Then}

set_same : {A : Type 0} (xs : List A) (k : ℕ) (x : A) → slice_get xs k ≡ Some x → slice_set xs k x ≡ xs
set_same [] k x e = refl
set_same {A} (z ∷ xs) zero x e = let same : z ≡ x = cc in ap (λ (y : A). y ∷ xs) (sym same)
set_same {A} (z ∷ xs) (suc k) x e = ap (λ (ys : List A). z ∷ ys) (set_same xs k x e)

set_twice : {A : Type 0} (xs : List A) (k : ℕ) (x y : A) → slice_set (slice_set xs k x) k y ≡ slice_set xs k y
set_twice [] k x y = refl
set_twice (z ∷ xs) zero x y = refl
set_twice {A} (z ∷ xs) (suc k) x y = ap (λ (ys : List A). z ∷ ys) (set_twice xs k x y)

-- the network where a station has this recording, and these pieces were released too
abbrev pub with_recording : Network → ℕ → Sender → Recording → List Piece → Network
with_recording n k who r pieces = record { stations = slice_set n.stations k (record { who = who; recording = r }); released = n.released ++ pieces }

pub come_schedule : (n : Network) (k : ℕ) (s : Station) (r t : Recording) (pieces : List Piece) → slice_get n.stations k ≡ Some s → r ≡ s.recording → Comes n.released s.who r t pieces → IsSchedule n (with_recording n k s.who t pieces)
come_schedule n k s _ _ _ is e (Stays r) =
    let station : s ≡ record { who = s.who; recording = r } = ap (λ (x : Recording). record { who = s.who; recording = x }) (sym e) in
    let stations : slice_set n.stations k (record { who = s.who; recording = r }) ≡ n.stations = ap (λ (x : Station). slice_set n.stations k x) (sym station) ∙ set_same n.stations k s is in
    subst (λ (m : Network). IsSchedule n m) (sym (rw (stations, append-nil n.released) refl)) (Rests n)
come_schedule n k s _ _ _ is e (Then r q t ps qs c h) =
    let middle : Network = with_recording n k s.who q ps in
    let before : IsSchedule n middle = come_schedule n k s r q ps is e c in
    let next : with_recording n k s.who t (ps ++ qs) ≡ record { stations = slice_set middle.stations k (record { who = s.who; recording = t }); released = middle.released ++ qs } =
    rw (set_twice n.stations k (record { who = s.who; recording = q }) (record { who = s.who; recording = t }), append_assoc n.released ps qs) refl in
    GoesOn n middle (with_recording n k s.who t (ps ++ qs)) before (record {
      place = k;
      station = record { who = s.who; recording = q };
      station_is = get_set_same n.stations k s (record { who = s.who; recording = q }) is;
      recording = t;
      pieces = qs;
      happens = h;
      next = next;
    })
