-- The numbers of what is released and signed.
use Rattle.std.proofs.Common.{◌≡◌, inl, inr, ⊎_elim, ℕ, ◌+◌, ◌-◌, ◌<◌, ◌≤◌, ◌==◌, Bool, true, false, List, [], ◌∷◌, ◌++◌, length, refl, sym, ap, subst, ◌∙◌, append_assoc, arith, eqb-true}
use Rattle.std.specs.Prelude.{fold, if◌then◌else◌}
use Rattle.avm_num.proofs.Numbers.{and_true}
use Rattle.avm_model.specs.Entries.{numbered}
use Rattle.avm_model.specs.Frame.{FrameData}
use Rattle.avm_outside.specs.Outlet.{Piece}
use Rattle.journal_model.specs.Header.{CarriedData}
use Rattle.journal_model.specs.Part.{Part, entry, seal, keep, frames_in, is_signed_kind}
use Rattle.journal_model.specs.Standing.{SignedData, StandingData, behind, entry_signed, signed_from, signed_in}
use Rattle.journal_model.proofs.Judging.{next_fold}
use Rattle.record_model.specs.Released.{Sender, part_pieces, signed_frame, signed_frames}
use Rattle.life_model.specs.Life.{Among, Told, signed_as, told, told_again, told_from}
use Rattle.life_model.proofs.Among.{among_either, among_left, among_right}

told_seq : (n : ℕ) (ps : List Piece) (t : Told) → Among t (told n ps) → t.seq ≡ n
told_seq n [] t h = absurd h
told_seq n (p ∷ ps) t (inl e) = ap (λ (x : Told). x.seq) e
told_seq n (p ∷ ps) t (inr h) = told_seq n ps t h

pub numbered_front : (k : ℕ) (a b : List FrameData) → numbered k (a ++ b) ≡ true → numbered k a ≡ true
numbered_front k [] b h = refl
numbered_front k (f ∷ a) b h = let p = and_true (f.seq == k) (numbered (k + 1) (a ++ b)) h in rw (p.0, numbered_front (k + 1) a b p.1) refl

pub numbered_rest : (k : ℕ) (a b : List FrameData) → numbered k (a ++ b) ≡ true → numbered (k + length a) b ≡ true
numbered_rest k [] b h = let z : k ≡ k + 0 = omega arith in subst (λ (n : ℕ). numbered n b ≡ true) z h
numbered_rest k (f ∷ a) b h =
    let p = and_true (f.seq == k) (numbered (k + 1) (a ++ b)) h in
    let z : (k + 1) + length a ≡ k + length (f ∷ a) = omega arith in
    subst (λ (n : ℕ). numbered n b ≡ true) z (numbered_rest (k + 1) a b p.1)

pub frames_append : (a b : List Part) → frames_in (a ++ b) ≡ frames_in a ++ frames_in b
frames_append [] b = refl
frames_append (entry f ∷ a) b = ap (λ (fs : List FrameData). f ∷ fs) (frames_append a b)
frames_append (seal ∷ a) b = frames_append a b
frames_append (keep k ∷ a) b = frames_append a b

-- ---- below the next number

pub told_below : (who : Sender) (s : StandingData) (ps : List Part) (t : Told) → numbered s.next (frames_in ps) ≡ true → 1 ≤ s.next → Among t (told_from who s ps) → t.seq < (fold behind s ps).next
told_below who s [] t num low h = absurd h
told_below who s (entry f ∷ ps) t num low h =
    let p = and_true (f.seq == s.next) (numbered (s.next + 1) (frames_in ps)) num in
    let is = eqb-true f.seq s.next p.0 in
    ⊎_elim (λ here. omega (arith, is, told_seq f.seq (part_pieces who s (entry f)) t here, next_fold (behind s (entry f)) ps))
    (λ later. told_below who (behind s (entry f)) ps t p.1 (omega arith) later)
    (among_either t (told f.seq (part_pieces who s (entry f))) (told_from who (behind s (entry f)) ps) h)
told_below who s (seal ∷ ps) t num low h =
    ⊎_elim (λ here. omega (arith, low, told_seq (s.next - 1) (part_pieces who s seal) t here, next_fold (behind s seal) ps))
    (λ later. told_below who (behind s seal) ps t num low later)
    (among_either t (told (s.next - 1) (part_pieces who s seal)) (told_from who (behind s seal) ps) h)
told_below who s (keep k ∷ ps) t num low h = told_below who s ps t num low h

signed_here : (b : Bool) (x s : SignedData) → Among s (if b then x ∷ [] else []) → s ≡ x
signed_here true x s (inl e) = e
signed_here true x s (inr h) = absurd h
signed_here false x s h = absurd h

pub signed_below : (s : StandingData) (ps : List Part) (x : SignedData) → numbered s.next (frames_in ps) ≡ true → 1 ≤ s.next → Among x (signed_from s ps) → x.seq < (fold behind s ps).next
signed_below s [] x num low h = absurd h
signed_below s (entry f ∷ ps) x num low h =
    let p = and_true (f.seq == s.next) (numbered (s.next + 1) (frames_in ps)) num in
    let is = eqb-true f.seq s.next p.0 in
    ⊎_elim (λ here. omega (arith, is, ap (λ (y : SignedData). y.seq) (signed_here (is_signed_kind f.kind) (entry_signed s f) x here), next_fold (behind s (entry f)) ps))
    (λ later. signed_below (behind s (entry f)) ps x p.1 (omega arith) later)
    (among_either x (signed_in s (entry f)) (signed_from (behind s (entry f)) ps) h)
signed_below s (seal ∷ ps) x num low (inl e) = omega (arith, low, ap (λ (y : SignedData). y.seq) e, next_fold (behind s seal) ps)
signed_below s (seal ∷ ps) x num low (inr later) = signed_below (behind s seal) ps x num low later
signed_below s (keep k ∷ ps) x num low h = signed_below s ps x num low h

-- ---- signed entries

frame_here : (b : Bool) (x e : CarriedData) → Among e (if b then x ∷ [] else []) → (b ≡ true) × (e ≡ x)
frame_here true x e (inl i) = (refl, i)
frame_here true x e (inr h) = absurd h
frame_here false x e h = absurd h

-- a signed entry is one that signs, and what is released again for it is what was released
pub record IsOf (who : Sender) (s : StandingData) (ps : List Part) (e : CarriedData) : Type 0 where
  pub signed : Among (signed_as e) (signed_from s ps)
  pub told : (t : Told) → Among t (told_again who e) → Among t (told_from who s ps)

pub signed_entry : (who : Sender) (s : StandingData) (ps : List Part) (e : CarriedData) → Among e (signed_frames s ps) → IsOf who s ps e
signed_entry who s [] e h = absurd h
signed_entry who s (seal ∷ ps) e h = let m = signed_entry who (behind s seal) ps e h in record { signed = inr m.signed; told = λ t i. among_right t (told (s.next - 1) (part_pieces who s seal)) (told_from who (behind s seal) ps) (m.told t i) }
signed_entry who s (keep k ∷ ps) e h = let m = signed_entry who s ps e h in record { signed = m.signed; told = m.told }
signed_entry who s (entry f ∷ ps) e h = ⊎_elim (λ here. go (frame_here (is_signed_kind f.kind) at e here)) (λ i. more (signed_entry who (behind s (entry f)) ps e i)) (among_either e (signed_frame s (entry f)) (signed_frames (behind s (entry f)) ps) h)
  where
    at : CarriedData
    at = record { leaf = s.used; before = s.hash; frame = f }

    go : (is_signed_kind f.kind ≡ true) × (e ≡ at) → IsOf who s (entry f ∷ ps) e
    go p = subst (IsOf who s (entry f ∷ ps)) (sym p.1) (record {
      signed = among_left (signed_as at) (signed_in s (entry f)) (signed_from (behind s (entry f)) ps) (rw p.0 (inl refl));
      told = λ t i. among_left t (told f.seq (part_pieces who s (entry f))) (told_from who (behind s (entry f)) ps) i;
    })

    more : IsOf who (behind s (entry f)) ps e → IsOf who s (entry f ∷ ps) e
    more m = record {
      signed = among_right (signed_as e) (signed_in s (entry f)) (signed_from (behind s (entry f)) ps) m.signed;
      told = λ t i. among_right t (told f.seq (part_pieces who s (entry f))) (told_from who (behind s (entry f)) ps) (m.told t i);
    }

pub frames_split : (s : StandingData) (a b : List Part) → signed_frames s (a ++ b) ≡ signed_frames s a ++ signed_frames (fold behind s a) b
frames_split s [] b = refl
frames_split s (x ∷ a) b = ap (λ (es : List CarriedData). signed_frame s x ++ es) (frames_split (behind s x) a b) ∙ sym (append_assoc (signed_frame s x) (signed_frames (behind s x) a) (signed_frames (fold behind (behind s x) a) b))

-- the signed entries of numbered parts have their numbers
pub frames_above : (s : StandingData) (ps : List Part) (e : CarriedData) → numbered s.next (frames_in ps) ≡ true → Among e (signed_frames s ps) → s.next ≤ e.frame.seq
frames_above s [] e num h = absurd h
frames_above s (seal ∷ ps) e num h = frames_above (behind s seal) ps e num h
frames_above s (keep k ∷ ps) e num h = frames_above s ps e num h
frames_above s (entry f ∷ ps) e num h =
    let p = and_true (f.seq == s.next) (numbered (s.next + 1) (frames_in ps)) num in
    let is = eqb-true f.seq s.next p.0 in
    ⊎_elim (λ here. omega (arith, is, ap (λ (y : CarriedData). y.frame.seq) (frame_here (is_signed_kind f.kind) (record { leaf = s.used; before = s.hash; frame = f }) e here).1))
    (λ later. let le = frames_above (behind s (entry f)) ps e p.1 later in omega (arith, le))
    (among_either e (signed_frame s (entry f)) (signed_frames (behind s (entry f)) ps) h)
