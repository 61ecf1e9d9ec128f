-- Where a replay begins: in front of the journal's first entry, or behind the SNAP entry of a good keep.
use Rattle.std.proofs.Common.{◌≡◌, ℕ, Bool, true, false, nat_lt, List, [], ◌∷◌, ◌++◌, Option, Some, None, MatchOption, refl, sym, subst, lt-ltb}
use Rattle.avm_model.specs.Audit.{commits_to, is_committed}
use Rattle.avm_model.specs.Content.{content_at}
use Rattle.avm_model.specs.Frame.{FrameData}
use Rattle.avm_model.specs.Machine.{State}
use Rattle.avm_model.specs.Rerun.{start}
use Rattle.honest_model.specs.Honest.{IsFaultFrom}
use Rattle.rebut_judge.specs.Judging.{Goes, JudgedTo, Judging}
use Rattle.rebut_judge.proofs.Judged.{judged_start}
use Rattle.open_replay.specs.Replayed.{Starts}

-- nothing was judged yet
pub record Fresh (s : State) (v : Judging) : Type 0 where
  pub fault : v.fault ≡ None
  pub failed : v.failed ≡ None
  pub begun : v.begun ≡ false
  pub stand : v.stand ≡ start s

fresh : (s : State) (first : ℕ) (v : Judging) → JudgedTo s first [] v → Fresh s v
fresh s first v h = go v.fault refl h.told
  where
    go : (o : Option ℕ) → v.fault ≡ o → MatchOption o ((v.failed ≡ None) × Goes s [] v) (λ n. (rest : List FrameData) → IsFaultFrom first s ([] ++ rest) (Some n)) → Fresh s v
    go None e t = record { fault = e; failed = t.0; begun = t.1.0; stand = t.1.1 }
    go (Some n) e t = absurd (let q : Some n ≡ None = t [] in cc)

committed_is : (s : State) (f : FrameData) → commits_to s (content_at f.kind f.content) ≡ true → is_committed s (f ∷ []) ≡ true
unfolding is_committed
committed_is s f e = e

behind_snap : (s : State) (first : ℕ) (v : Judging) (f : FrameData) → JudgedTo s first [] v → commits_to s (content_at f.kind f.content) ≡ true → JudgedTo s first (f ∷ []) (record v { begun = true })
behind_snap s first v f h e =
    let n = fresh s first v h in
    record {
      root_is = h.root_is;
      count_is = h.count_is;
      first_is = h.first_is;
      told = subst (λ (o : Option ℕ). MatchOption o ((v.failed ≡ None) × Goes s (f ∷ []) (record v { begun = true })) (λ m. (rest : List FrameData) → IsFaultFrom first s ((f ∷ []) ++ rest) (Some m))) (sym n.fault)
          (n.failed, (refl, committed_is s f e, record { replays = tt; is = n.stand }));
    }

none_below : (n : ℕ) → n ≡ 0 → nat_lt 0 n ≡ false
none_below n e = rw e refl

pub starts : (s : State) (first keeps : ℕ) (v new : Judging) → JudgedTo s first [] v → new ≡ record v { begun = nat_lt 0 keeps } → Starts s first keeps new
starts s first keeps v new h same = record {
  header = λ e.
      let n = fresh s first v h in
      subst (λ (j : Judging). JudgedTo s first [] j) (sym same)
      (judged_start s first (record v { begun = nat_lt 0 keeps }) h.root_is h.count_is h.first_is n.fault n.failed (none_below keeps e) n.stand);
  keep = λ lt f e. subst (λ (j : Judging). JudgedTo s first (f ∷ []) j) (sym same) (subst (λ (b : Bool). JudgedTo s first (f ∷ []) (record v { begun = b })) (sym (lt-ltb 0 keeps lt)) (behind_snap s first v f h e));
}
