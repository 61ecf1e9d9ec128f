-- The items behind a front, from the header of the base that begins behind it.
use Rattle.std.proofs.Common.{◌≡◌, ℕ, ◌+◌, Bool, true, false, List, [], ◌∷◌, ◌++◌, length, Option, None, Some, refl, sym, ap, subst, ◌∙◌, append_assoc, arith}
use Rattle.std.specs.Prelude.{fold, if◌then◌else◌}
use Rattle.avm_model.specs.Basics.{flag}
use Rattle.avm_model.specs.Chain.{top_of}
use Rattle.avm_model.specs.Frame.{FrameData}
use Rattle.journal_model.specs.Header.{HeaderData}
use Rattle.journal_model.specs.Part.{Part, entry, seal, keep, frames_in, is_signed_kind, signing}
use Rattle.journal_model.specs.Standing.{LeavesFrom, SignedData, StandingData, behind, entry_signed, signed_from, signed_in, start}
use Rattle.journal_model.proofs.Judging.{next_fold, used_fold}
use Rattle.record_model.specs.Released.{Sender, part_pieces}
use Rattle.base_model.specs.Base.{past_keep, without_keep}
use Rattle.life_model.specs.Life.{Told, number_of, told, told_from}

hash_fold : (s : StandingData) (ps : List Part) → (fold behind s ps).hash ≡ top_of s.hash (frames_in ps)
hash_fold s [] = refl
hash_fold s (entry f ∷ ps) = hash_fold (behind s (entry f)) ps
hash_fold s (seal ∷ ps) = hash_fold (behind s seal) ps
hash_fold s (keep k ∷ ps) = hash_fold s ps

-- a point with another last item
abbrev other : StandingData → Bool → Option SignedData → StandingData
other s sealed signed = record s { sealed = sealed; signed = signed }

told_other : (who : Sender) (s : StandingData) (sealed : Bool) (signed : Option SignedData) (ps : List Part) → told_from who (other s sealed signed) ps ≡ told_from who s ps
told_other who s sealed signed [] = refl
told_other who s sealed signed (entry f ∷ ps) = ap (λ (r : List Told). told f.seq (part_pieces who s (entry f)) ++ r) (told_other who (behind s (entry f)) false (if is_signed_kind f.kind then Some (entry_signed s f) else signed) ps)
told_other who s sealed signed (seal ∷ ps) = refl
told_other who s sealed signed (keep k ∷ ps) = told_other who s sealed signed ps

signed_other : (s : StandingData) (sealed : Bool) (signed : Option SignedData) (ps : List Part) → signed_from (other s sealed signed) ps ≡ signed_from s ps
signed_other s sealed signed [] = refl
signed_other s sealed signed (entry f ∷ ps) = ap (λ (r : List SignedData). signed_in s (entry f) ++ r) (signed_other (behind s (entry f)) false (if is_signed_kind f.kind then Some (entry_signed s f) else signed) ps)
signed_other s sealed signed (seal ∷ ps) = refl
signed_other s sealed signed (keep k ∷ ps) = signed_other s sealed signed ps

-- ---- in front of an entry

-- the point at which a base begins
abbrev base_point : ℕ → List ℕ → ℕ → StandingData
base_point next hash used = record { next = next; hash = hash; prior = hash; used = used; sealed = false; signed = None }

-- the same place
pub record IsAt (s : StandingData) (next : ℕ) (hash : List ℕ) (used : ℕ) : Type 0 where
  pub next_is : s.next ≡ next
  pub hash_is : s.hash ≡ hash
  pub used_is : s.used ≡ used

pub is_at : (h : HeaderData) (front : List Part) (n : ℕ) → n ≡ h.first + length (frames_in front) → IsAt (fold behind (start h) front) n (top_of h.before (frames_in front)) (h.leaves + signing front)
is_at h front n number = record {
  next_is = next_fold (start h) front ∙ sym number;
  hash_is = hash_fold (start h) front;
  used_is = used_fold (start h) front;
}

abbrev placed : StandingData → ℕ → List ℕ → ℕ → StandingData
placed s next hash used = record { next = next; hash = hash; prior = s.prior; used = used; sealed = s.sealed; signed = s.signed }

placed_is : (s : StandingData) (next : ℕ) (hash : List ℕ) (used : ℕ) → IsAt s next hash used → s ≡ placed s next hash used
placed_is s next hash used a =
    ap (λ (n : ℕ). placed s n s.hash s.used) a.next_is ∙ ap (λ (h : List ℕ). placed s next h s.used) a.hash_is ∙ ap (λ (u : ℕ). placed s next hash u) a.used_is

told_here : (who : Sender) (s : StandingData) (next : ℕ) (hash : List ℕ) (used : ℕ) (f : FrameData) (ps : List Part) → told_from who (placed s next hash used) (entry f ∷ ps) ≡ told_from who (base_point next hash used) (entry f ∷ ps)
told_here who s next hash used f ps = ap (λ (r : List Told). told f.seq (part_pieces who (base_point next hash used) (entry f)) ++ r)
    (told_other who (behind (base_point next hash used) (entry f)) false (if is_signed_kind f.kind then Some (entry_signed (base_point next hash used) f) else s.signed) ps)

signed_here : (s : StandingData) (next : ℕ) (hash : List ℕ) (used : ℕ) (f : FrameData) (ps : List Part) → signed_from (placed s next hash used) (entry f ∷ ps) ≡ signed_from (base_point next hash used) (entry f ∷ ps)
signed_here s next hash used f ps = ap (λ (r : List SignedData). signed_in (base_point next hash used) (entry f) ++ r)
    (signed_other (behind (base_point next hash used) (entry f)) false (if is_signed_kind f.kind then Some (entry_signed (base_point next hash used) f) else s.signed) ps)

-- a keep releases and signs nothing
told_past : (who : Sender) (s : StandingData) (ps : List Part) → told_from who s (past_keep ps) ≡ told_from who s ps
told_past who s [] = refl
told_past who s (entry f ∷ ps) = refl
told_past who s (seal ∷ ps) = refl
told_past who s (keep k ∷ ps) = refl

signed_past : (s : StandingData) (ps : List Part) → signed_from s (past_keep ps) ≡ signed_from s ps
signed_past s [] = refl
signed_past s (entry f ∷ ps) = refl
signed_past s (seal ∷ ps) = refl
signed_past s (keep k ∷ ps) = refl

pub told_at : (who : Sender) (s : StandingData) (next : ℕ) (hash : List ℕ) (used : ℕ) (f : FrameData) (ps : List Part) → IsAt s next hash used
    → told_from who s (entry f ∷ ps) ≡ told_from who (base_point next hash used) (without_keep (entry f ∷ ps))
told_at who s next hash used f ps a =
    ap (λ (t : StandingData). told_from who t (entry f ∷ ps)) (placed_is s next hash used a) ∙ told_here who s next hash used f ps
    ∙ sym (ap (λ (r : List Told). told f.seq (part_pieces who (base_point next hash used) (entry f)) ++ r) (told_past who (behind (base_point next hash used) (entry f)) ps))

pub signed_at : (s : StandingData) (next : ℕ) (hash : List ℕ) (used : ℕ) (f : FrameData) (ps : List Part) → IsAt s next hash used
    → signed_from s (entry f ∷ ps) ≡ signed_from (base_point next hash used) (without_keep (entry f ∷ ps))
signed_at s next hash used f ps a =
    ap (λ (t : StandingData). signed_from t (entry f ∷ ps)) (placed_is s next hash used a) ∙ signed_here s next hash used f ps
    ∙ sym (ap (λ (r : List SignedData). signed_in (base_point next hash used) (entry f) ++ r) (signed_past (behind (base_point next hash used) (entry f)) ps))

-- ---- leaves

length_by : (b : Bool) (x : SignedData) (xs : List SignedData) → length ((if b then x ∷ [] else []) ++ xs) ≡ flag b + length xs
length_by true x xs = omega arith
length_by false x xs = omega arith

-- each leaf that was used signed one item
pub leaves_used : (s : StandingData) (ps : List Part) → s.used + length (signed_from s ps) ≡ (fold behind s ps).used
leaves_used s [] = omega arith
leaves_used s (entry f ∷ ps) =
    let more = leaves_used (behind s (entry f)) ps in
    omega (arith, more, length_by (is_signed_kind f.kind) (entry_signed s f) (signed_from (behind s (entry f)) ps))
leaves_used s (seal ∷ ps) = let more = leaves_used (behind s seal) ps in omega (arith, more)
leaves_used s (keep k ∷ ps) = leaves_used s ps

pub leaves_append : (n : ℕ) (a b : List SignedData) → LeavesFrom n a → LeavesFrom (n + length a) b → LeavesFrom n (a ++ b)
leaves_append n [] b x y = let z : n + 0 ≡ n = omega arith in subst (λ (k : ℕ). LeavesFrom k b) z y
leaves_append n (s ∷ a) b x y = let z : n + length (s ∷ a) ≡ (n + 1) + length a = omega arith in (x.0, leaves_append (n + 1) a b x.1 (subst (λ (k : ℕ). LeavesFrom k b) z y))

-- ---- what is released for further parts stands behind what was released before

pub told_append : (who : Sender) (s : StandingData) (a b : List Part) → told_from who s (a ++ b) ≡ told_from who s a ++ told_from who (fold behind s a) b
told_append who s [] b = refl
told_append who s (x ∷ a) b = ap (λ (ps : List Told). told (number_of s x) (part_pieces who s x) ++ ps) (told_append who (behind s x) a b) ∙ sym (append_assoc (told (number_of s x) (part_pieces who s x)) (told_from who (behind s x) a) (told_from who (fold behind (behind s x) a) b))
