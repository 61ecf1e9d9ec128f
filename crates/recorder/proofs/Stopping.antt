-- What stops a turn.
use Rattle.std.proofs.Common.{◌≡◌, ℕ, true, false, Option, Some, None, Result, Ok, Err, refl, sym, ap, ◌∙◌}
use Rattle.std.specs.Prelude.{is_some}
use Rattle.avm_model.specs.Machine.{State}
use Rattle.jrnl_store.specs.declared.fault.Stop.{Stop}
use Rattle.jrnl_store.specs.declared.fault.Stop.TheVariants.{LeavesSpent, Full, DiskFault, OutletFault, FeedFault}
use Rattle.record_parts.specs.declared.answers.Sealed.{Sealed}
use Rattle.record_parts.specs.declared.answers.Sealed.TheVariants as sealing
use Rattle.record_parts.specs.declared.answers.Turn.{Turn}
use Rattle.record_parts.specs.declared.answers.Turn.TheVariants as turning
use Rattle.record_ready.specs.Ready.{IsSteady}
use Rattle.record_turn.specs.Leaves.{DiskCounts, IsPlain, IsPlainSeal, OutletCounts}
use Rattle.recorder.specs.Turns.{DiskStops, FeedStops, OutletStops, UnlessFeed, WhereFeed, result_of, seal_result}

-- ---- machines

pub none_steady : (s : State) → s.devices.clock ≡ None → IsSteady s
none_steady s e = record { asks = λ some. absurd (let z : false ≡ true = sym (ap is_some e) ∙ some in cc); room = λ some. absurd (let z : false ≡ true = sym (ap is_some e) ∙ some in cc) }

pub not_pending : (o : Option ℕ) → is_some o ≡ false → o ≡ None
not_pending None e = refl
not_pending (Some x) e = absurd cc

-- ---- what an act's counts say

pub unless_feed : (r : Result Turn Stop) (P : Type 0) → P → UnlessFeed r P
unless_feed (Ok turn) P h = h
unless_feed (Err LeavesSpent) P h = h
unless_feed (Err Full) P h = h
unless_feed (Err DiskFault) P h = h
unless_feed (Err OutletFault) P h = h
unless_feed (Err FeedFault) P h = tt

pub unless_map : (r : Result Turn Stop) (P Q : Type 0) → (P → Q) → UnlessFeed r P → UnlessFeed r Q
unless_map (Ok turn) P Q f h = f h
unless_map (Err LeavesSpent) P Q f h = f h
unless_map (Err Full) P Q f h = f h
unless_map (Err DiskFault) P Q f h = f h
unless_map (Err OutletFault) P Q f h = f h
unless_map (Err FeedFault) P Q f h = tt

-- an act doesn't ask the feed
pub where_feed : (r : Result Turn Stop) (P : Type 0) (before now : ℕ) → DiskCounts before now r → WhereFeed r P
where_feed (Ok turn) P before now h = tt
where_feed (Err LeavesSpent) P before now h = tt
where_feed (Err Full) P before now h = tt
where_feed (Err DiskFault) P before now h = tt
where_feed (Err OutletFault) P before now h = tt
where_feed (Err FeedFault) P before now h = absurd h

pub disk_stops : {T : Type 0} (r : Result T Stop) (before now : ℕ) → DiskCounts before now r → DiskStops r before now
disk_stops (Ok x) before now h = h
disk_stops (Err LeavesSpent) before now h = h
disk_stops (Err Full) before now h = h
disk_stops (Err DiskFault) before now h = h
disk_stops (Err OutletFault) before now h = h
disk_stops (Err FeedFault) before now h = absurd h

pub outlet_stops : {T : Type 0} (r : Result T Stop) (before now : ℕ) → OutletCounts before now r → OutletStops r before now
outlet_stops (Ok x) before now h = h
outlet_stops (Err LeavesSpent) before now h = h
outlet_stops (Err Full) before now h = h
outlet_stops (Err DiskFault) before now h = h
outlet_stops (Err OutletFault) before now h = h
outlet_stops (Err FeedFault) before now h = absurd h

pub feed_stays : {T : Type 0} (r : Result T Stop) (before now count after : ℕ) → after ≡ count → DiskCounts before now r → FeedStops r count after
feed_stays (Ok x) before now count after e h = e
feed_stays (Err LeavesSpent) before now count after e h = e
feed_stays (Err Full) before now count after e h = e
feed_stays (Err DiskFault) before now count after e h = e
feed_stays (Err OutletFault) before now count after e h = e
feed_stays (Err FeedFault) before now count after e h = absurd h

-- ---- answers

pub plain_turn : (t : Turn) → IsPlain t → result_of t ≡ Ok t
plain_turn (turning.Ran n) h = refl
plain_turn turning.Took h = refl
plain_turn turning.Resent h = refl
plain_turn (turning.Dropped why) h = refl
plain_turn turning.Waiting h = refl
plain_turn turning.Halted h = refl
plain_turn turning.End h = refl
plain_turn (turning.Stopped stop) h = absurd h
plain_turn (turning.Ended stop) h = absurd h

pub plain_seal : (s : Sealed) → IsPlainSeal s → seal_result s ≡ Ok s
plain_seal sealing.Done h = refl
plain_seal sealing.Again h = refl
plain_seal (sealing.Stopped stop) h = absurd h
plain_seal (sealing.Ended stop) h = absurd h
