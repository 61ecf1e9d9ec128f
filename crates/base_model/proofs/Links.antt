-- A run of calls on both disks, whole or cut at any moment, as an event of a history.
use Rattle.std.proofs.Common.{◌≤◌, ℕ, List, subst, sym}
use Rattle.base_model.specs.Spare.{IsSafe, TogetherOnly}
use Rattle.base_model.specs.History.{Disks, AreSafe, IsUnused, IsMarkless, Retains, CutAt}

cut_safe : (c e : List ℕ) → IsSafe c e → AreSafe (CutAt c e)
cut_safe c e safe x y is is_2 = subst (λ (z : List ℕ). IsSafe z y) (sym is) (subst (λ (z : List ℕ). IsSafe c z) (sym is_2) safe)

module _ {D E : Type 0} (moment : D → ℕ) (left_since : D → ℕ → List ℕ → Type 0) (may_leave : D → List ℕ → Type 0) (moment_2 : E → ℕ) (left_since_2 : E → ℕ → List ℕ → Type 0) (may_leave_2 : E → List ℕ → Type 0)
    (counts_now_2 : (d : E) (t : ℕ) (c : List ℕ) → t ≤ moment_2 d → may_leave_2 d c → left_since_2 d t c) (store store_new : D) (spare spare_new : E) (old : Disks) (unmarked : IsMarkless old.store)
    (together : IsUnused old → TogetherOnly moment left_since may_leave moment_2 left_since_2 may_leave_2 store store_new spare spare_new IsSafe) where
  -- at the end
  pub whole_retain : Retains old (record { store = may_leave store_new; spare = may_leave_2 spare_new })
  whole_retain = record {
    unmarked = unmarked;
    together = λ unused c e left here. let t = together unused in t.third.each e (counts_now_2 spare_new (moment_2 t.between) e t.third.later here) c left;
  }

  -- cut while the spare is prepared, while the mark is written, while the spare is activated
  pub cut_first : (c e : List ℕ) → ((unused : IsUnused old) → may_leave store c × left_since_2 (together unused).between (moment_2 spare) e) → Retains old (CutAt c e)
  cut_first c e here = record { unmarked = unmarked; together = λ unused. let h = here unused in cut_safe c e ((together unused).first.each e h.1 c h.0) }

  pub cut_second : (c e : List ℕ) → ((unused : IsUnused old) → left_since store_new (moment store) c × may_leave_2 (together unused).between e) → Retains old (CutAt c e)
  cut_second c e here = record { unmarked = unmarked; together = λ unused. let h = here unused in cut_safe c e ((together unused).second.each c h.0 e h.1) }

  pub cut_third : (c e : List ℕ) → ((unused : IsUnused old) → may_leave store_new c × left_since_2 spare_new (moment_2 (together unused).between) e) → Retains old (CutAt c e)
  cut_third c e here = record { unmarked = unmarked; together = λ unused. let h = here unused in cut_safe c e ((together unused).third.each e h.1 c h.0) }
