-- Calls on a roll are the events of its history.
use Rattle.std.proofs.Common.{◌≡◌, ℕ, inl, inr, List, Some, refl, sym, ◌∙◌}
use Rattle.std.specs.Prelude.{Ok}
use Rattle.hss_model.specs.History.{Granted as GrantedLeaf, Cut, Happens}
use Rattle.hss_model.specs.Roll.{RollData, IsEither, with_bottom, roll_of}
use Rattle.lms_hss.specs.Own.{RollState, IsOwn, EnrollAnswers}
use Rattle.lms_hss.specs.declared.granted.Granted.{Granted}

pub granted_event : (images : List ℕ → Type 0) (now bottom : List ℕ) (r : RollData) (old new : RollState) (g : Granted) → EnrollAnswers old new images now r bottom (Ok g) → (s : RollData) × Happens (GrantedLeaf g.leaf bottom) r s × IsOwn new images now s
granted_event images now bottom r old new g (is, inl (bound, own)) = (r, inl (bound, refl), own)
granted_event images now bottom r old new g (is, inr (unbound, leaf, room, own)) = (with_bottom r bottom, inr (unbound, leaf, refl), own)

one_roll : (c : List ℕ) (r s : RollData) → roll_of c ≡ Some r → roll_of c ≡ Some s → s ≡ r
one_roll c r s a b = let e : Some s ≡ Some r = sym b ∙ a in cc

pub cut_event : (c bottom : List ℕ) (r s : RollData) → IsEither r bottom c → roll_of c ≡ Some s → Happens (Cut bottom) r s
cut_event c bottom r s (inl same) is = inl (one_roll c r s same is)
cut_event c bottom r s (inr more) is = inr (one_roll c (with_bottom r bottom) s more is)
