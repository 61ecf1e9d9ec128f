-- The first entry of a new journal is read again, and fits.
use Rattle.std.proofs.Common.{◌≡◌, ℕ, ◌+◌, ◌≤◌, List, [], ◌∷◌, length, Some, None, option_map, refl, sym, ◌∙◌, ap, arith, append-nil, le-leb, length-append}
use Rattle.std.specs.Int.{w64}
use Rattle.avm_num.specs.Walk.{all_at}
use Rattle.avm_num.specs.Lists.{be}
use Rattle.avm_num.proofs.Lengths.{be64}
use Rattle.avm_model.specs.Content.{boot}
use Rattle.avm_model.specs.Frame.{FrameData, frame_at, frame_bytes, FitsFrame}
use Rattle.log_entry.proofs.FrameLaws.{reads_frame}
use Rattle.journal_model.specs.Part.{entry, part_at, signing}
use Rattle.journal_model.specs.Standing.{StandingData, Bounds, behind, judged, continued}
use Rattle.journal_model.specs.Spelling.{part_bytes}
use Rattle.journal_model.proofs.Parts.{all_some, all_none}
use Rattle.jrnl_part.specs.First.{boot_frame}

boot_fits : (root : List ℕ) → length root ≡ 32 → FitsFrame (boot_frame root)
boot_fits root size = record { seq = record { first = omega arith; below = omega arith }; short = omega (arith, size, length-append (be w64 0) root, be64 0); form = (boot 0 root, (refl, size), refl, refl) }

part_again : (f : FrameData) → FitsFrame f → part_at (part_bytes (entry f)) ≡ Some (entry f, [])
unfolding part_at part_bytes
part_again f fits = rw (ap frame_at (sym (append-nil (frame_bytes f))) ∙ reads_frame.again f [] fits) refl

pub boot_again : (root : List ℕ) → length root ≡ 32 → all_at part_at (part_bytes (entry (boot_frame root))) ≡ Some (entry (boot_frame root) ∷ [])
unfolding part_at
boot_again root size =
    let f = boot_frame root in
    all_some (part_bytes (entry f)) (entry f, []) (part_again f (boot_fits root size)) ∙ ap (option_map (λ ps. entry f ∷ ps)) (all_none [] none)
  where
    none : part_at [] ≡ None
    none = refl

pub boot_judged : (b : Bounds) (s : StandingData) (root : List ℕ) → b.first ≡ 1 → s.next ≡ 1 → s.used ≤ b.most → judged b s None (entry (boot_frame root) ∷ []) ≡ Some (behind s (entry (boot_frame root)))
unfolding signing
boot_judged b s root first next low = rw (first, next, le-leb (s.used + 0) b.most (omega (arith, low))) refl

pub boot_continues : (b : Bounds) (s : StandingData) (root : List ℕ) → length root ≡ 32 → b.first ≡ 1 → s.next ≡ 1 → s.used ≤ b.most → continued b s (part_bytes (entry (boot_frame root))) ≡ Some (behind s (entry (boot_frame root)))
unfolding continued
boot_continues b s root size first next low = rw (boot_again root size) (boot_judged b s root first next low)
