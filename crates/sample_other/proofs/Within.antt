-- How many entries the other node has logged.
use Rattle.std.proofs.Common.{◌≡◌, ℕ, ◌+◌, ◌^◌, ◌<◌, List, Result, Ok, Err, OnOk, sym, subst, arith}
use Rattle.rand_chacha.specs.ChaCha.{ChaCha}
use Rattle.avm_model.proofs.LmsLaw.{length-hash}
use Rattle.avm_model.specs.LmsTypes.{height_of}
use Rattle.sample_model.specs.Other.{Side}
use Rattle.sample_other.specs.Saying.{IsWithin}
use Rattle.sample_parts.specs.PeerLog.{PeerLog, receiving, sending}

pub on_ok : {T E : Type 0} {P : Type 0} (r : Result T E) → P → OnOk r P
on_ok (Ok t) p = p
on_ok (Err e) p = tt

pub fewer : (b : Side) → IsWithin 2 b → IsWithin 1 b
fewer b w = record { lms = w.lms; ots = w.ots; hash = w.hash; last = omega (arith, w.last); answers = w.answers }

pub leaf_left : (b : Side) → IsWithin 1 b → b.log.last < 2 ^ height_of b.log.key.lms
unfolding height_of
leaf_left b w = rw w.lms (omega (arith, w.last, w.answers))

pub sent_within : (b : Side) (log : PeerLog) (words : ChaCha) (number : ℕ) (payload : List ℕ) → log ≡ sending b.log number payload → IsWithin 2 b → IsWithin 1 (record { log = log; words = words; answers = b.answers })
sent_within b log words number payload e w =
    subst (λ (x : PeerLog). IsWithin 1 (record { log = x; words = words; answers = b.answers })) (sym e)
    (record { lms = w.lms; ots = w.ots; hash = length-hash _; last = omega (arith, w.last); answers = w.answers })

pub received_within : (b : Side) (log : PeerLog) (words : ChaCha) (answer : List ℕ) → log ≡ receiving b.log answer → b.answers < 150 → IsWithin 1 b → IsWithin 2 (record { log = log; words = words; answers = b.answers + 1 })
received_within b log words answer e more w =
    subst (λ (x : PeerLog). IsWithin 2 (record { log = x; words = words; answers = b.answers + 1 })) (sym e)
    (record { lms = w.lms; ots = w.ots; hash = length-hash _; last = omega (arith, w.last); answers = omega (arith, more) })
