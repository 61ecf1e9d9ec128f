-- What a batch that can't be saved leaves of the disk, where it ends a turn, a seal or a run.
use Rattle.std.proofs.Common.{◌≡◌, ℕ, sym, subst}
use Rattle.std.specs.Prelude.{Result, Err}
use Rattle.jrnl_store.specs.declared.fault.Stop.TheVariants as stop
use Rattle.record_parts.specs.declared.answers.Sealed.{Sealed}
use Rattle.record_parts.specs.declared.answers.Sealed.TheVariants as seal
use Rattle.record_parts.specs.declared.answers.Turn.{Turn}
use Rattle.record_parts.specs.declared.answers.Turn.TheVariants as turn
use Rattle.record_run.specs.Ends.{WhereCut}
use Rattle.record_run.specs.Turned.{sealed_by, turned_by}
use Rattle.record_run.specs.declared.stops.RunStop.{RunStop}
use Rattle.record_run.specs.declared.stops.RunStop.TheVariants.{LeavesSpent, Full, DiskFault, OutletFault, SinkFault}
use Rattle.record_run.specs.declared.turning.Turned.{Turned}
use Rattle.record_store.specs.Saving.{WhereUnsaved}
use Rattle.recorder.specs.Turns.{result_of, seal_result}

turned_cut : (P : Type 0) (t : Turn) → WhereUnsaved (result_of t) P → WhereCut (turned_by t) P
turned_cut P (turn.Ran n) h = tt
turned_cut P turn.Took h = tt
turned_cut P turn.Resent h = tt
turned_cut P (turn.Dropped why) h = tt
turned_cut P turn.Waiting h = tt
turned_cut P turn.Halted h = tt
turned_cut P turn.End h = tt
turned_cut P (turn.Stopped stop.LeavesSpent) h = h
turned_cut P (turn.Stopped stop.Full) h = h
turned_cut P (turn.Stopped stop.DiskFault) h = tt
turned_cut P (turn.Stopped stop.OutletFault) h = tt
turned_cut P (turn.Stopped stop.FeedFault) h = tt
turned_cut P (turn.Ended why) h = tt

-- a turn
pub turn_cut : (P : Type 0) (t : Turn) (result : Result Turned RunStop) → result ≡ turned_by t → WhereUnsaved (result_of t) P → WhereCut result P
turn_cut P t result is h = subst (λ (x : Result Turned RunStop). WhereCut x P) (sym is) (turned_cut P t h)

sealed_cut : (P : Type 0) (drops : ℕ) (s : Sealed) → WhereUnsaved (seal_result s) P → WhereCut (sealed_by drops s) P
sealed_cut P drops seal.Done h = tt
sealed_cut P drops seal.Again h = tt
sealed_cut P drops (seal.Stopped stop.LeavesSpent) h = h
sealed_cut P drops (seal.Stopped stop.Full) h = h
sealed_cut P drops (seal.Stopped stop.DiskFault) h = tt
sealed_cut P drops (seal.Stopped stop.OutletFault) h = tt
sealed_cut P drops (seal.Stopped stop.FeedFault) h = tt
sealed_cut P drops (seal.Ended why) h = tt

-- a seal
pub seal_cut : (P : Type 0) (drops : ℕ) (s : Sealed) (result : Result ℕ RunStop) → result ≡ sealed_by drops s → WhereUnsaved (seal_result s) P → WhereCut result P
seal_cut P drops s result is h = subst (λ (x : Result ℕ RunStop). WhereCut x P) (sym is) (sealed_cut P drops s h)

-- whatever is answered where nothing stops the call
pub cut_alike : (T U : Type 0) (stop : RunStop) (P : Type 0) → WhereCut {T = T} (Err stop) P → WhereCut {T = U} (Err stop) P
cut_alike T U LeavesSpent P h = h
cut_alike T U Full P h = h
cut_alike T U DiskFault P h = h
cut_alike T U OutletFault P h = h
cut_alike T U SinkFault P h = h
