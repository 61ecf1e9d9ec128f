-- A store that joins, as a station that joins.
use Rattle.std.proofs.Common.{◌≡◌, ◌<◌, ◌^◌, ◌+◌, ◌==◌, ◌≤◌, arith, cond, not, length, ltb-false, ℕ, zero, suc, Bool, true, false, List, [], ◌∷◌, Option, None, Some, refl, sym, ap, subst, ◌∙◌}
use Rattle.std.specs.List.{position, prefix_len}
use Rattle.std.specs.Prelude.{nat_lt, slice_get}
use Rattle.std.proofs.lemmas.Bool.{eq-eqb}
use Rattle.avm_model.specs.Keys.{KeyData}
use Rattle.avm_model.specs.Machine.{State}
use Rattle.avm_model.specs.ImageState.{are_unused}
use Rattle.avm_outside.specs.declared.mem_disk.MemDisk.{MemDisk}
use Rattle.honest_model.proofs.Openings.{opened_is}
use Rattle.honest_model.specs.Honest.{Leads}
use Rattle.honest_model.specs.KeepPages.{IsKeptRam}
use Rattle.honest_model.specs.Keeps.{IsOpened}
use Rattle.journal_model.specs.Journal.{Is, JournalData, parts}
use Rattle.journal_model.specs.Part.{Part}
use Rattle.life_model.proofs.Kept.{begins}
use Rattle.life_model.specs.Life.{IsKept, IsNew, OnStore, new_life, opened}
use Rattle.record_model.specs.Recording.{Recording}
use Rattle.record_parts.specs.Outs.{ram_in}
use Rattle.record_turn.specs.Keeping.{MarksTell}
use Rattle.recorder.specs.Recorder.{desk_of}
use Rattle.truth_laws.proofs.Calls.{marks_opened}
use Rattle.world_core.specs.Joining.{OpensAs, place_of_id}
use Rattle.recorder.specs.declared.recorder.Recorder.{Recorder}
use Rattle.world_core.specs.Turns.{IsDiskOf, recording_of, signs_in}
use Rattle.world_core.specs.declared.node.Node.{Node}
use Rattle.world_headline.specs.Standing.{AreStations, IsFresh, IsStation, StandsAt, StandsIfUp, left, station_of}
use Rattle.world_laws.specs.Network.{IsNewcomer, Network, Station}

-- ---- another own id

passes_none : {K : Type 0} (t : K → Bool) (xs : List K) (k : ℕ) (x : K) → length xs ≤ prefix_len (λ y. not (t y)) xs → slice_get xs k ≡ Some x → t x ≡ false
passes_none t [] k x h e = absurd cc
passes_none {K} t (y ∷ ys) zero x h e = by (t y) refl h
  where
    by : (b : Bool) → t y ≡ b → suc (length ys) ≤ cond (not b) (1 + prefix_len (λ z. not (t z)) ys) 0 → t x ≡ false
    by true q l = absurd (let bad : suc (length ys) ≤ 0 = l in omega (arith, bad))
    by false q l = let same : y ≡ x = cc in subst (λ (z : K). t z ≡ false) same q
passes_none t (y ∷ ys) (suc k) x h e = by (t y) refl h (λ l. passes_none t ys k x l e)
  where
    by : (b : Bool) → t y ≡ b → suc (length ys) ≤ cond (not b) (1 + prefix_len (λ z. not (t z)) ys) 0 → (length ys ≤ prefix_len (λ z. not (t z)) ys → t x ≡ false) → t x ≡ false
    by true q l f = absurd (let bad : suc (length ys) ≤ 0 = l in omega (arith, bad))
    by false q l f = f (let more : suc (length ys) ≤ 1 + prefix_len (λ z. not (t z)) ys = l in omega (arith, more))

not_found : {K : Type 0} (t : K → Bool) (xs : List K) (k : ℕ) (x : K) → position t xs ≡ None → slice_get xs k ≡ Some x → t x ≡ false
not_found t xs k x none e = by (nat_lt (prefix_len (λ y. not (t y)) xs) (length xs)) refl none
  where
    by : (b : Bool) → nat_lt (prefix_len (λ y. not (t y)) xs) (length xs) ≡ b → cond b (Some (prefix_len (λ y. not (t y)) xs)) None ≡ None → t x ≡ false
    by true q p = absurd (let bad : Some (prefix_len (λ y. not (t y)) xs) ≡ None = p in cc bad)
    by false q p = passes_none t xs k x (ltb-false (prefix_len (λ y. not (t y)) xs) (length xs) q) e

-- the node of a station
record OfStation (nodes : List Node) (i : ℕ) (s : Station) : Type 0 where
  pub node : Node
  pub there : slice_get nodes i ≡ Some node
  pub is : IsStation node s

of_station : (nodes : List Node) (stations : List Station) (i : ℕ) (s : Station) → AreStations nodes stations → slice_get stations i ≡ Some s → OfStation nodes i s
of_station [] [] i s a e = absurd cc
of_station [] (t ∷ ts) i s a e = absurd a
of_station (n ∷ ns) [] i s a e = absurd a
of_station (n ∷ ns) (t ∷ ts) zero s a e = let same : t ≡ s = cc in record { node = n; there = refl; is = subst (λ (x : Station). IsStation n x) same a.0 }
of_station (n ∷ ns) (t ∷ ts) (suc i) s a e = let o = of_station ns ts i s a.1 e in record { node = o.node; there = o.there; is = o.is }

other_own : (nodes : List Node) (stations : List Station) (own : ℕ) → AreStations nodes stations → place_of_id nodes own ≡ None → (i : ℕ) (s : Station) → slice_get stations i ≡ Some s → s.recording.machine.devices.own ≡ own → ⊥
other_own nodes stations own a none i s e same =
    let o = of_station nodes stations i s a e in
    let no : (o.node.own == own) ≡ false = not_found (λ (n : Node). n.own == own) nodes i o.node none o.there in
    let yes : (o.node.own == own) ≡ true = eq-eqb o.node.own own (sym o.is.own ∙ same) in
    absurd (let bad : true ≡ false = sym yes ∙ no in cc bad)

-- ---- a store that joins

module _ (d : MemDisk) (key : KeyData) (n : Node) (f : IsFresh d) (o : OpensAs d key n) where
  journal_is : f.journal ≡ o.journal
  journal_is = let same : Is f.journal ≡ Is o.journal = sym f.reads ∙ o.stands in cc

  machine_is : (desk_of o.recorder).machine.state ≡ f.state
  machine_is = opened_is f.journal f.state f.state (desk_of o.recorder).machine.state f.fresh.header f.fresh.leads f.fresh.keeps (subst (λ (j : JournalData). IsOpened j (desk_of o.recorder).machine.state) (sym journal_is) o.desk.machine)

  recording_is : opened f.journal f.state ≡ recording_of f.journal (desk_of o.recorder)
  recording_is =
      ap (λ (s : State). opened f.journal s) (sym machine_is) ∙ ap (λ (ps : List Part). record { journal = f.journal; batch = ps; machine = (desk_of o.recorder).machine.state }) (sym o.empty)

  new_at : IsNew left (OnStore n.disk) f.journal f.state
  new_at = record {
    images_are = λ c q. f.fresh.images_are c (o.images c q);
    unmarked = f.fresh.unmarked;
    nothing = f.fresh.nothing;
    header = f.fresh.header;
    leads = f.fresh.leads;
    keeps = f.fresh.keeps;
    snaps = f.fresh.snaps;
  }

  kept : IsKept left (record (new_life (signs_in (desk_of o.recorder)) (OnStore n.disk) f.journal f.state) { recording = recording_of f.journal (desk_of o.recorder) })
  kept = subst (λ (r : Recording). IsKept left (record (new_life (signs_in (desk_of o.recorder)) (OnStore n.disk) f.journal f.state) { recording = r })) recording_is (begins left (signs_in (desk_of o.recorder)) (OnStore n.disk) f.journal f.state new_at)

  stands_at : StandsAt n.disk (desk_of o.recorder) f.journal
  stands_at = record {
    disk = subst (λ (j : JournalData). IsDiskOf n.disk (desk_of o.recorder) j) (sym journal_is) o.disk;
    past = record { retiring = None; gone = record { told = []; signed = [] }; released = []; signed = [] };
    kept = kept;
    carried = f.fresh.nothing;
    head = f.head;
    header = f.header;
    marks = subst (λ (ps : List Part). MarksTell f.journal ps (ram_in (desk_of o.recorder).machine)) (sym o.empty) (marks_opened f.journal (ram_in (desk_of o.recorder).machine) (subst (λ (j : JournalData). IsKeptRam j.header (parts j) (ram_in (desk_of o.recorder).machine)) (sym journal_is) o.desk.marks));
  }

  pub new_station : IsStation n (station_of f.journal (desk_of o.recorder))
  new_station = record {
    who = sym o.own;
    own = sym o.own;
    low = subst (λ (x : ℕ). x < 2 ^ 32) (sym (o.own ∙ ap (λ (s : State). s.devices.own) machine_is)) f.own;
    up = subst (λ (x : Option Recorder). StandsIfUp n.disk x (station_of f.journal (desk_of o.recorder))) (sym o.up) (record { journal = f.journal; is = refl; at = stands_at });
  }

  pub new_comer : (m : Network) (nodes : List Node) → AreStations nodes m.stations → place_of_id nodes n.own ≡ None → IsNewcomer m (station_of f.journal (desk_of o.recorder))
  new_comer m nodes a none = record {
    first = record {
      from = f.state;
      header = f.fresh.header;
      leads = subst (λ (s : State). Leads f.state (parts f.journal) s) (sym machine_is) f.fresh.leads;
      keeps = f.fresh.keeps;
      mail = f.mail;
      batch = o.empty;
      rows = subst (λ (s : State). are_unused s.devices.peers ≡ true) (sym machine_is) f.rows;
    };
    other = λ i s e same. other_own nodes m.stations n.own a none i s e (same ∙ sym o.own);
  }
