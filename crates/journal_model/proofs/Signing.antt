-- The signing items of a journal: their leaves run on, and further parts have further ones.
use Rattle.std.proofs.Common.{◌≡◌, ℕ, zero, suc, ◌+◌, Bool, true, false, List, [], ◌∷◌, ◌++◌, Some, slice_get, refl, sym, ap, subst, ◌∙◌, append_assoc, arith}
use Rattle.std.specs.Prelude.{fold, if◌then◌else◌}
use Rattle.avm_model.specs.Basics.{flag}
use Rattle.journal_model.specs.Part.{Part, entry, seal, keep, is_signed_kind}
use Rattle.journal_model.specs.Journal.{JournalData, parts, with_record}
use Rattle.journal_model.specs.Standing.{SignedData, StandingData, start, behind, standing, entry_signed, signed_in, signed_from, signed_items, LeavesFrom}
use Rattle.journal_model.proofs.Judging.{parts_push}

pub signed_append : (s : StandingData) (a b : List Part) → signed_from s (a ++ b) ≡ signed_from s a ++ signed_from (fold behind s a) b
signed_append s [] b = refl
signed_append s (x ∷ a) b = ap (λ (ps : List SignedData). signed_in s x ++ ps) (signed_append (behind s x) a b) ∙ sym (append_assoc (signed_in s x) (signed_from (behind s x) a) (signed_from (fold behind (behind s x) a) b))

by_sign : (s : StandingData) (b : Bool) (x : SignedData) (ps : List SignedData) → x.leaf ≡ s.used → LeavesFrom (s.used + flag b) ps → LeavesFrom s.used ((if b then x ∷ [] else []) ++ ps)
by_sign s true x ps e h = (e, h)
by_sign s false x ps e h = let z : s.used + 0 ≡ s.used = omega arith in subst (λ (n : ℕ). LeavesFrom n ps) z h

pub leaves_run : (s : StandingData) (parts : List Part) → LeavesFrom s.used (signed_from s parts)
leaves_run s [] = tt
leaves_run s (entry f ∷ ps) = by_sign s (is_signed_kind f.kind) (entry_signed s f) (signed_from (behind s (entry f)) ps) refl (leaves_run (behind s (entry f)) ps)
leaves_run s (seal ∷ ps) = (refl, leaves_run (behind s seal) ps)
leaves_run s (keep k ∷ ps) = leaves_run s ps

-- the leaf at a place
leaf_at : (n : ℕ) (ss : List SignedData) (i : ℕ) (a : SignedData) → LeavesFrom n ss → slice_get ss i ≡ Some a → a.leaf ≡ n + i
leaf_at n [] i a run e = absurd cc
leaf_at n (s ∷ ss) zero a run e = let same : s ≡ a = cc in omega (arith, run.0, ap (λ (x : SignedData). x.leaf) same)
leaf_at n (s ∷ ss) (suc i) a run e = omega (arith, leaf_at (n + 1) ss i a run.1 e)

pub leaves_apart : (n : ℕ) (ss : List SignedData) (i k : ℕ) (a b : SignedData) → LeavesFrom n ss → slice_get ss i ≡ Some a → slice_get ss k ≡ Some b → a.leaf ≡ b.leaf → i ≡ k
leaves_apart n ss i k a b run at_i at_k e = omega (arith, e, leaf_at n ss i a run at_i, leaf_at n ss k b run at_k)

pub items_leaves : (j : JournalData) → LeavesFrom j.header.leaves (signed_items j)
unfolding signed_items
items_leaves j = leaves_run (start j.header) (parts j)

pub items_apart : (j : JournalData) (i k : ℕ) (a b : SignedData) → slice_get (signed_items j) i ≡ Some a → slice_get (signed_items j) k ≡ Some b → a.leaf ≡ b.leaf → i ≡ k
items_apart j i k a b at_i at_k e = leaves_apart j.header.leaves (signed_items j) i k a b (items_leaves j) at_i at_k e

-- with a record more
pub items_more : (j : JournalData) (ps : List Part) → signed_items (with_record j ps) ≡ signed_items j ++ signed_from (standing j) ps
unfolding signed_items standing
items_more j ps = ap (signed_from (start j.header)) (parts_push j ps) ∙ signed_append (start j.header) (parts j) ps
