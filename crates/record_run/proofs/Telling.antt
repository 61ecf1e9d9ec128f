-- A run of turns, on a disk that may tell its content.
use Rattle.std.proofs.Common.{◌≡◌, inl, ℕ, ◌+◌, ◌<◌, ◌≤◌, ◌^◌, ◌-◌, List, [], ◌∷◌, ◌++◌, length, Option, None, Some, refl, ap, subst, ◌∙◌, arith}
use Rattle.std.specs.Prelude.{IfSome, Result, Ok, Err}
use Rattle.avm_model.specs.Keys.{KeyData}
use Rattle.avm_model.specs.Machine.{State}
use Rattle.avm_model.specs.declared.NotTaken.{NotTaken}
use Rattle.avm_outside.proofs.Runs.{started}
use Rattle.avm_outside.specs.Feed.{Agenda}
use Rattle.avm_outside.specs.Outlet.{Piece}
use Rattle.avm_outside.specs.Outside.{BothTold}
use Rattle.journal_model.specs.Journal.{JournalData}
use Rattle.journal_model.specs.Part.{Part}
use Rattle.jrnl_store.proofs.Commits.{shut_stands}
use Rattle.jrnl_store.specs.Kept.{Kept}
use Rattle.record_kept.specs.declared.kept.KeptRow.{KeptRow}
use Rattle.record_model.specs.Recorded.{Drop, HasEnded, Run, running}
use Rattle.record_model.specs.Released.{Sender}
use Rattle.record_ready.specs.Ready.{IsDeskOf}
use Rattle.record_run.proofs.Going.{goes_over, going_on, moments_on, seals, stops}
use Rattle.record_run.specs.Feeds.{sure_agenda}
use Rattle.record_run.specs.declared.feeding.SureFeed.{SureFeed}
use Rattle.record_store.specs.Open.{IsSame}
use Rattle.record_run.specs.Runs.{HasDesk, LeftBy, RunEnds, StandsIn}
use Rattle.record_run.specs.Turned.{Going, HasGone, HasMade, LeftByOne, SealEnds, TurnEnds, drops_by}
use Rattle.record_run.specs.declared.stops.RunStop.{RunStop}
use Rattle.record_run.specs.declared.stops.RunStop.TheVariants.{SinkFault}
use Rattle.record_run.specs.declared.turning.Turned.{Turned}
use Rattle.record_run.specs.declared.turning.Turned.TheVariants.{Went, Dropped, Over}

-- ---- two meanings, one after another

both_then : {A : Type 0} (o p q : Option A) (R S T : A → A → Type 0) → BothTold o p R → BothTold p q S → ((x y z : A) → R x y → S y z → T x z) → BothTold o q T
both_then None None None R S T a b f = tt
both_then None None (Some z) R S T a b f = b
both_then None (Some y) q R S T a b f = absurd a
both_then (Some x) None q R S T a b f = absurd a
both_then (Some x) (Some y) None R S T a b f = b
both_then (Some x) (Some y) (Some z) R S T a b f = f x y z a b

both_is : {A : Type 0} (o : Option A) (R : A → A → Type 0) → ((x : A) → R x x) → BothTold o o R
both_is None R f = tt
both_is (Some x) R f = f x

both_map : {A : Type 0} (o p : Option A) (R S : A → A → Type 0) → BothTold o p R → ((x y : A) → R x y → S x y) → BothTold o p S
both_map None None R S a f = tt
both_map None (Some y) R S a f = a
both_map (Some x) None R S a f = a
both_map (Some x) (Some y) R S a f = f x y a

module _ {D H : Type 0} (seen : D → Option (List ℕ)) (may_leave : D → List ℕ → Type 0) (moment : D → ℕ) (left_since : D → ℕ → List ℕ → Type 0) (adding : Piece → H → H) (tearing : Piece → H → H → Type 0)
    (who : Sender) (first : D) (k0 : Kept) (rows0 : List KeptRow) (b0 : List Part) (p0 : Agenda) (s0 : State) (h0 : H) where
  abbrev run_from : JournalData → Run
  run_from j = running j b0 p0 [] [] s0

  -- what is left where the disk tells its content
  abbrev pub Told : D → Kept → List KeptRow → (Run → JournalData → Type 0) → Type 0
  Told d k rows P = BothTold (seen first) (seen d) (λ was now. (j : JournalData) → IsDeskOf k0 rows0 (may_leave first) was j → LeftBy moment left_since first d k rows (may_leave d) now who (run_from j) (P (run_from j)))

  abbrev pub SoFar : D → Kept → List KeptRow → List Part → State → ℕ → List Drop → H → Agenda → Type 0
  SoFar d k rows b s made drops held p =
      Told d k rows (λ r next. Going adding who r drops h0 held (record { journal = next; batch = b; machine = s }) p × HasMade made r (record { journal = next; batch = b; machine = s }) p)

  abbrev pub Gone : D → Kept → List KeptRow → List Part → State → List Drop → H → Type 0
  Gone d k rows b s drops held = Told d k rows (λ r next. HasGone adding who r drops h0 held (record { journal = next; batch = b; machine = s }))

  -- before the first turn
  pub begins : k0.stop ≡ None → s0.devices.own ≡ who.own → ((c : List ℕ) → left_since first (moment first) c → may_leave first c) → SoFar first k0 rows0 b0 s0 0 [] h0 p0
  begins run own only = both_is (seen first) _ (λ was j desk. record {
    next = j;
    desk = desk;
    moments = started moment left_since first (StandsIn who (run_from j)) (λ c left. record {
      turns = [];
      reached = run_from j;
      are_turns = refl;
      flight = b0;
      in_flight = inl refl;
      stands = inl (shut_stands j desk.own.front c desk.own.stands desk.own.begun (desk.own.left_shut run c (only c left)));
    });
    is = (
      record { turns = []; end = run_from j; are_turns = refl; goes_on = refl; recording = refl; script_is = refl; held = refl; drops_are = refl; own = own },
      record { made = omega arith },
    );
  })

  -- the disk is the recorder's own behind each turn
  pub has_desk : (d : D) (k : Kept) (rows : List KeptRow) (P : Run → JournalData → Type 0) → HasDesk k0 rows0 (may_leave first) (seen first) → Told d k rows P → HasDesk k rows (may_leave d) (seen d)
  has_desk d k rows P own told = go (seen first) (seen d) own told
    where
      go : (o p : Option (List ℕ)) → HasDesk k0 rows0 (may_leave first) o → BothTold o p (λ was now. (j : JournalData) → IsDeskOf k0 rows0 (may_leave first) was j → LeftBy moment left_since first d k rows (may_leave d) now who (run_from j) (P (run_from j)))
          → HasDesk k rows (may_leave d) p
      go None None h t = tt
      go None (Some now) h t = absurd t
      go (Some was) None h t = absurd t
      go (Some was) (Some now) h t = let l = t h.0 h.1 in (l.next, l.desk)

  pub so_far_desk : (d : D) (k : Kept) (rows : List KeptRow) (b : List Part) (s : State) (made : ℕ) (drops : List Drop) (held : H) (p : Agenda) → HasDesk k0 rows0 (may_leave first) (seen first) → SoFar d k rows b s made drops held p → HasDesk k rows (may_leave d) (seen d)
  so_far_desk d k rows b s made drops held p own told =
      has_desk d k rows (λ r next. Going adding who r drops h0 held (record { journal = next; batch = b; machine = s }) p × HasMade made r (record { journal = next; batch = b; machine = s }) p) own told

  pub gone_desk : (d : D) (k : Kept) (rows : List KeptRow) (b : List Part) (s : State) (drops : List Drop) (held : H) → HasDesk k0 rows0 (may_leave first) (seen first) → Gone d k rows b s drops held → HasDesk k rows (may_leave d) (seen d)
  gone_desk d k rows b s drops held own told = has_desk d k rows (λ r next. HasGone adding who r drops h0 held (record { journal = next; batch = b; machine = s })) own told

  -- what holds behind a run of a disk that tells its content holds of the disk before it
  pub gone_back : (d : D) (k : Kept) (rows : List KeptRow) (b : List Part) (s : State) (drops : List Drop) (held : H) (Q : Type 0) → Gone d k rows b s drops held → IfSome (seen d) (λ was. Q) → IfSome (seen first) (λ was. Q)
  gone_back d k rows b s drops held Q told h = back (seen first) (seen d) _ told h
    where
      back : (o p : Option (List ℕ)) (R : List ℕ → List ℕ → Type 0) → BothTold o p R → IfSome p (λ was. Q) → IfSome o (λ was. Q)
      back None p R told h = tt
      back (Some was) None R told h = absurd told
      back (Some was) (Some now) R told h = h

  module _ (d e : D) (k n : Kept) (rows more : List KeptRow) (key : KeyData) (b c : List Part) (s t : State) (before drops : List Drop) (held got : H) (p q : Agenda) (made : ℕ) (key_is : key ≡ who.key) where
    -- what one turn leaves where the disk tells its content
    abbrev pub OneTurn : Result Turned RunStop → Type 0
    OneTurn result = BothTold (seen d) (seen e) (λ was now. (j : JournalData) → IsDeskOf k rows (may_leave d) was j → (m : Run) → m.stop ≡ None → m.recording ≡ record { journal = j; batch = b; machine = s } → m.script ≡ p
        → LeftByOne moment left_since d e n more (may_leave e) now (record { key = key; own = s.devices.own }) m
        (λ next. TurnEnds adding tearing (record { key = key; own = s.devices.own }) m drops result held got (record { journal = next; batch = c; machine = t }) q))

    same_sender : s.devices.own ≡ who.own → record { key = key; own = s.devices.own } ≡ who
    same_sender own = ap (λ (x : KeyData). record { key = x; own = s.devices.own }) key_is ∙ ap (λ (o : ℕ). record { key = who.key; own = o }) own

    then : (result : Result Turned RunStop) (P : Run → JournalData → Type 0) → SoFar d k rows b s made before held p → OneTurn result
        → ((r : Run) (j next : JournalData) → (g : Going adding who r before h0 held (record { journal = j; batch = b; machine = s }) p) → HasMade made r (record { journal = j; batch = b; machine = s }) p
        → TurnEnds adding tearing who g.end drops result held got (record { journal = next; batch = c; machine = t }) q → P r next) → Told e n more P
    then result P so_far one f = both_then (seen first) (seen d) (seen e) _ _ _ so_far one (λ was at now so step j desk. joined_by j was at now (so j desk) step)
      where
        joined_by : (j : JournalData) (was at now : List ℕ)
            → LeftBy moment left_since first d k rows (may_leave d) at who (run_from j) (λ next. Going adding who (run_from j) before h0 held (record { journal = next; batch = b; machine = s }) p × HasMade made (run_from j) (record { journal = next; batch = b; machine = s }) p)
            → ((i : JournalData) → IsDeskOf k rows (may_leave d) at i → (m : Run) → m.stop ≡ None → m.recording ≡ record { journal = i; batch = b; machine = s } → m.script ≡ p
            → LeftByOne moment left_since d e n more (may_leave e) now (record { key = key; own = s.devices.own }) m (λ next. TurnEnds adding tearing (record { key = key; own = s.devices.own }) m drops result held got (record { journal = next; batch = c; machine = t }) q))
            → LeftBy moment left_since first e n more (may_leave e) now who (run_from j) (P (run_from j))
        joined_by j was at now l step =
            let g = l.is.0 in
            let z = subst (λ (w : Sender). LeftByOne moment left_since d e n more (may_leave e) now w g.end (λ next. TurnEnds adding tearing w g.end drops result held got (record { journal = next; batch = c; machine = t }) q)) (same_sender g.own) (step l.next l.desk g.end g.goes_on g.recording g.script_is) in
            record {
              next = z.next;
              desk = z.desk;
              moments = moments_on moment left_since adding tearing who (run_from j) first d e g.turns g.end z.flight g.are_turns z.in_flight l.moments z.moments;
              is = f (run_from j) l.next z.next g l.is.1 z.is;
            }

    -- a turn more
    pub goes_on : SoFar d k rows b s made before held p → OneTurn (Ok Went) → SoFar e n more c t (made + 1) (before ++ drops) got q
    goes_on so_far one = then (Ok Went) _ so_far one (λ r j next g m w. going_on moment left_since adding tearing who r d d e before drops h0 held got (record { journal = j; batch = b; machine = s }) (record { journal = next; batch = c; machine = t }) p q made g m w)

    pub drops_on : (why : NotTaken) → SoFar d k rows b s made before held p → OneTurn (Ok (Dropped why)) → SoFar e n more c t (made + 1) (before ++ drops) got q
    drops_on why so_far one = then (Ok (Dropped why)) _ so_far one (λ r j next g m w. going_on moment left_since adding tearing who r d d e before drops h0 held got (record { journal = j; batch = b; machine = s }) (record { journal = next; batch = c; machine = t }) p q made g m w)

    -- the last
    pub is_over : SoFar d k rows b s made before held p → OneTurn (Ok Over) → drops ≡ [] → Gone e n more c t (before ++ drops) got
    is_over so_far one none = then (Ok Over) _ so_far one (λ r j next g m o. goes_over moment left_since adding tearing who r d d e before drops h0 held got (record { journal = j; batch = b; machine = s }) (record { journal = next; batch = c; machine = t }) p q g o none)

    pub is_stopped : (why : RunStop) → SoFar d k rows b s made before held p → OneTurn (Err why) → ((why ≡ SinkFault → ⊥) → drops ≡ [])
        → Told e n more (λ r next. RunEnds {T = ℕ} adding tearing who r (before ++ drops) h0 got (record { journal = next; batch = c; machine = t }) (Err why))
    is_stopped why so_far one none = then (Err why) _ so_far one (λ r j next g m h. stops moment left_since adding tearing who r d d e before drops h0 held got (record { journal = j; batch = b; machine = s }) (record { journal = next; batch = c; machine = t }) p q why g h none)

    -- the seal
    abbrev pub OneSeal : Result ℕ RunStop → Type 0
    OneSeal result = BothTold (seen d) (seen e) (λ was now. (j : JournalData) → IsDeskOf k rows (may_leave d) was j → (m : Run) → HasEnded m → m.recording ≡ record { journal = j; batch = b; machine = s }
        → LeftByOne moment left_since d e n more (may_leave e) now (record { key = key; own = s.devices.own }) m
        (λ next. SealEnds adding tearing (record { key = key; own = s.devices.own }) m held got (record { journal = next; batch = c; machine = t }) result))

    pub is_sealed : (result : Result ℕ RunStop) → Gone d k rows b s before held → OneSeal result → Told e n more (λ r next. RunEnds adding tearing who r before h0 got (record { journal = next; batch = c; machine = t }) result)
    is_sealed result gone one = both_then (seen first) (seen d) (seen e) _ _ _ gone one (λ was at now so step j desk. joined_by j was at now (so j desk) step)
      where
        joined_by : (j : JournalData) (was at now : List ℕ)
            → LeftBy moment left_since first d k rows (may_leave d) at who (run_from j) (λ next. HasGone adding who (run_from j) before h0 held (record { journal = next; batch = b; machine = s }))
            → ((i : JournalData) → IsDeskOf k rows (may_leave d) at i → (m : Run) → HasEnded m → m.recording ≡ record { journal = i; batch = b; machine = s }
            → LeftByOne moment left_since d e n more (may_leave e) now (record { key = key; own = s.devices.own }) m (λ next. SealEnds adding tearing (record { key = key; own = s.devices.own }) m held got (record { journal = next; batch = c; machine = t }) result))
            → LeftBy moment left_since first e n more (may_leave e) now who (run_from j) (λ next. RunEnds adding tearing who (run_from j) before h0 got (record { journal = next; batch = c; machine = t }) result)
        joined_by j was at now l step =
            let g = l.is in
            let z = subst (λ (w : Sender). LeftByOne moment left_since d e n more (may_leave e) now w g.end (λ next. SealEnds adding tearing w g.end held got (record { journal = next; batch = c; machine = t }) result)) (same_sender g.own) (step l.next l.desk g.end g.ended g.recording) in
            record {
              next = z.next;
              desk = z.desk;
              moments = moments_on moment left_since adding tearing who (run_from j) first d e g.turns g.end z.flight g.are_turns z.in_flight l.moments z.moments;
              is = seals moment left_since adding tearing who (run_from j) d d e before drops h0 held got (record { journal = l.next; batch = b; machine = s }) (record { journal = z.next; batch = c; machine = t }) p q result g z.is;
            }

  -- no script has so many turns
  pub never_used_up : (d : D) (k : Kept) (rows : List KeptRow) (b : List Part) (s : State) (made : ℕ) (drops : List Drop) (held : H) (p : Agenda) → length p0.events < 2 ^ 63 → s.count < 2 ^ 62 → 2 ^ 64 - 1 ≤ made
      → SoFar d k rows b s made drops held p → Gone d k rows b s drops held
  never_used_up d k rows b s made drops held p few low many so_far =
      both_map (seen first) (seen d) _ _ so_far (λ was now so j desk. let m = (so j desk).is.1.made in absurd (omega (arith, few, low, many, m)))

-- the same events
pub feed_told : {D H : Type 0} (seen : D → Option (List ℕ)) (may_leave : D → List ℕ → Type 0) (moment : D → ℕ) (left_since : D → ℕ → List ℕ → Type 0) (adding : Piece → H → H) (tearing : Piece → H → H → Type 0)
    (who : Sender) (first : D) (k0 : Kept) (rows0 : List KeptRow) (b0 : List Part) (s0 : State) (h0 : H) (p q : Agenda) → p ≡ q → (d : D) (k : Kept) (rows : List KeptRow) (b : List Part) (s : State) (drops : List Drop) (got : H) (result : Result ℕ RunStop)
    → Told seen may_leave moment left_since adding tearing who first k0 rows0 b0 p s0 h0 d k rows (λ r next. RunEnds adding tearing who r drops h0 got (record { journal = next; batch = b; machine = s }) result)
    → Told seen may_leave moment left_since adding tearing who first k0 rows0 b0 q s0 h0 d k rows (λ r next. RunEnds adding tearing who r drops h0 got (record { journal = next; batch = b; machine = s }) result)
feed_told seen may_leave moment left_since adding tearing who first k0 rows0 b0 s0 h0 p q e d k rows b s drops got result told =
    subst (λ (x : Agenda). Told seen may_leave moment left_since adding tearing who first k0 rows0 b0 x s0 h0 d k rows (λ r next. RunEnds adding tearing who r drops h0 got (record { journal = next; batch = b; machine = s }) result)) e told

-- ---- one turn, by what it came to

module _ {D H : Type 0} (seen : D → Option (List ℕ)) (may_leave : D → List ℕ → Type 0) (moment : D → ℕ) (left_since : D → ℕ → List ℕ → Type 0) (adding : Piece → H → H) (tearing : Piece → H → H → Type 0) (d e : D) (k n : Kept) (rows more : List KeptRow) (key : KeyData) (b c : List Part) (s t : State) (held got : H) (p q : Agenda) where
  abbrev TurnTold : List Drop → Result Turned RunStop → Type 0
  TurnTold drops result = BothTold (seen d) (seen e) (λ was now. (j : JournalData) → IsDeskOf k rows (may_leave d) was j → (m : Run) → m.stop ≡ None → m.recording ≡ record { journal = j; batch = b; machine = s } → m.script ≡ p
      → LeftByOne moment left_since d e n more (may_leave e) now (record { key = key; own = s.devices.own }) m
      (λ next. TurnEnds adding tearing (record { key = key; own = s.devices.own }) m drops result held got (record { journal = next; batch = c; machine = t }) q))

  pub told_went : (x : Turned) → x ≡ Went → TurnTold (drops_by s.count (Ok x)) (Ok x) → TurnTold [] (Ok Went)
  told_went x is h = subst (λ (y : Turned). TurnTold (drops_by s.count (Ok y)) (Ok y)) is h

  pub told_over : (x : Turned) → x ≡ Over → TurnTold (drops_by s.count (Ok x)) (Ok x) → TurnTold [] (Ok Over)
  told_over x is h = subst (λ (y : Turned). TurnTold (drops_by s.count (Ok y)) (Ok y)) is h

  pub told_dropped : (x : Turned) (why : NotTaken) → x ≡ Dropped why → TurnTold (drops_by s.count (Ok x)) (Ok x) → TurnTold (record { why = why; count = s.count } ∷ []) (Ok (Dropped why))
  told_dropped x why is h = subst (λ (y : Turned). TurnTold (drops_by s.count (Ok y)) (Ok y)) is h

  pub told_cut : (x : Turned) (why : NotTaken) → x ≡ Dropped why → TurnTold (drops_by s.count (Ok x)) (Ok x) → TurnTold (record { why = why; count = s.count } ∷ []) (Err SinkFault)
  told_cut x why is h = told_dropped x why is h

-- a script has so many events
pub few_events : (f : SureFeed) → length (sure_agenda f).events < 2 ^ 63
few_events f = let v = f.feed.list.events in omega (arith, v.ok.0, v.small.0, v.small.1)

pub same_on : (a b c : Kept) → IsSame a b → IsSame b c → IsSame a c
same_on a b c s t = record { key = t.key ∙ s.key; bounds = t.bounds ∙ s.bounds; mark = t.mark ∙ s.mark }
