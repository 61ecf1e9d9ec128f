-- One entry more is judged.
use Rattle.std.proofs.Common.{◌≡◌, ℕ, Bool, true, false, List, [], ◌∷◌, ◌++◌, Option, Some, None, MatchOption, refl, sym, ap, subst, ◌∙◌, append_assoc, append-nil}
use Rattle.std.proofs.lemmas.List.{map-append}
use Rattle.avm_model.specs.Audit.{is_committed, commits_to}
use Rattle.avm_model.specs.Content.{ContentData, boot, snap, conin, clock, recv, acked, out, send, halt, content_at}
use Rattle.avm_model.specs.Frame.{FrameData}
use Rattle.avm_model.specs.Machine.{State}
use Rattle.avm_model.specs.Reference.{Given, Made, timed, entry_of_frame, entries_of, IsFaultNumber}
use Rattle.avm_model.specs.Rerun.{Stands, Replays, start}
use Rattle.avm_model.specs.Root.{root}
use Rattle.avm_model.specs.Timed.{Entry}
use Rattle.honest_model.specs.Honest.{IsFaultFrom, IsFaultByRoot}
use Rattle.rebut_judge.specs.Judging.{Judging, commits_as, Goes, JudgedTo, Judges}
use Rattle.state_replay.proofs.Seen.{fault_here}

commits_same : (s : State) (r : List ℕ) (n : ℕ) (c : Option ContentData) → r ≡ root s → n ≡ s.count → commits_as r n c ≡ commits_to s c
commits_same s r n None a b = refl
commits_same s r n (Some (boot count told)) a b = rw (a, b) refl
commits_same s r n (Some (snap count told)) a b = rw (a, b) refl
commits_same s r n (Some (conin count bytes)) a b = refl
commits_same s r n (Some (clock count value)) a b = refl
commits_same s r n (Some (recv count packet)) a b = refl
commits_same s r n (Some (acked count packet)) a b = refl
commits_same s r n (Some (out count bytes)) a b = refl
commits_same s r n (Some (send count peer number payload)) a b = refl
commits_same s r n (Some (halt count cause value)) a b = refl

-- what is told where there is no fault
going : (s : State) (first : ℕ) (fs : List FrameData) (j : Judging) → j.fault ≡ None → JudgedTo s first fs j → (j.failed ≡ None) × Goes s fs j
going s first fs j none h = subst (λ (o : Option ℕ). MatchOption o ((j.failed ≡ None) × Goes s fs j) (λ n. (rest : List FrameData) → IsFaultFrom first s (fs ++ rest) (Some n))) none h.told

gone : (s : State) (first : ℕ) (fs : List FrameData) (j : Judging) (o : Option ℕ) → o ≡ None → (j.failed ≡ None) × Goes s fs j → MatchOption o ((j.failed ≡ None) × Goes s fs j) (λ n. (rest : List FrameData) → IsFaultFrom first s (fs ++ rest) (Some n))
gone s first fs j o none h = subst (λ (p : Option ℕ). MatchOption p ((j.failed ≡ None) × Goes s fs j) (λ n. (rest : List FrameData) → IsFaultFrom first s (fs ++ rest) (Some n))) (sym none) h

apart : {A : Type 0} → false ≡ true → A
apart e = absurd cc

-- ---- the first entry

first_committed : (s : State) (f : FrameData) (b : Bool) (old : Judging) → old.root_of ≡ root s → old.count ≡ s.count → commits_as old.root_of old.count (content_at f.kind f.content) ≡ b → (fs : List FrameData) → is_committed s (f ∷ fs) ≡ b
unfolding is_committed
first_committed s f b old r n is fs = sym (commits_same s old.root_of old.count (content_at f.kind f.content) r n) ∙ is

pub begin_yes : (old : Judging) (f : FrameData) → old.fault ≡ None → old.begun ≡ false → commits_as old.root_of old.count (content_at f.kind f.content) ≡ true → Judges (f ∷ []) old (record old { begun = true })
begin_yes old f none shut is = λ s first fs h. by s first fs h (going s first fs old none h)
  where
    by : (s : State) (first : ℕ) (fs : List FrameData) → JudgedTo s first fs old → (old.failed ≡ None) × Goes s fs old → JudgedTo s first (fs ++ f ∷ []) (record old { begun = true })
    by s first [] h g = record {
      root_is = h.root_is;
      count_is = h.count_is;
      first_is = h.first_is;
      told = gone s first (f ∷ []) (record old { begun = true }) old.fault none (g.0, (refl, first_committed s f true old h.root_is h.count_is is [], record { replays = tt; is = g.1.1 }));
    }
    by s first (x ∷ xs) h g = apart (sym shut ∙ g.1.0)

pub begin_no : (old : Judging) (f : FrameData) → old.fault ≡ None → old.begun ≡ false → commits_as old.root_of old.count (content_at f.kind f.content) ≡ false → Judges (f ∷ []) old (record old { begun = true; fault = Some old.first })
begin_no old f none shut is = λ s first fs h. by s first fs h (going s first fs old none h)
  where
    by : (s : State) (first : ℕ) (fs : List FrameData) → JudgedTo s first fs old → (old.failed ≡ None) × Goes s fs old → JudgedTo s first (fs ++ f ∷ []) (record old { begun = true; fault = Some old.first })
    by s first [] h g = record {
      root_is = h.root_is;
      count_is = h.count_is;
      first_is = h.first_is;
      told = λ rest. subst (λ (b : Bool). IsFaultByRoot b first s (f ∷ rest) (Some old.first)) (sym (first_committed s f false old h.root_is h.count_is is rest)) (ap (λ (n : ℕ). Some n) h.first_is);
    }
    by s first (x ∷ xs) h g = apart (sym shut ∙ g.1.0)

-- ---- an entry behind the first

still_committed : (s : State) (x : FrameData) (xs ys : List FrameData) → is_committed s (x ∷ xs) ≡ true → is_committed s (x ∷ ys) ≡ true
unfolding is_committed
still_committed s x xs ys e = e

pub follow_yes : (old new : Judging) (f : FrameData) → old.fault ≡ None → old.begun ≡ true → new ≡ record old { stand = new.stand; failed = new.failed } → new.failed ≡ None
    → ((s : State) (es : List (Entry Given Made)) → Stands timed s es old.stand → Stands timed s (es ++ entry_of_frame f ∷ []) new.stand) → Judges (f ∷ []) old new
follow_yes old new f none begun same failed on = λ s first fs h. subst (λ (k : Judging). JudgedTo s first (fs ++ f ∷ []) k) (sym same) (by s first fs h (going s first fs old none h))
  where
    next : Judging
    next = record old { stand = new.stand; failed = new.failed }

    by : (s : State) (first : ℕ) (fs : List FrameData) → JudgedTo s first fs old → (old.failed ≡ None) × Goes s fs old → JudgedTo s first (fs ++ f ∷ []) next
    by s first [] h g = apart (sym g.1.0 ∙ begun)
    by s first (x ∷ xs) h g =
        let one : Stands timed s (entries_of (xs ++ f ∷ [])) new.stand = subst (λ (es : List (Entry Given Made)). Stands timed s es new.stand) (sym (map-append entry_of_frame xs (f ∷ []))) (on s (entries_of xs) g.1.2) in
        record {
          root_is = h.root_is;
          count_is = h.count_is;
          first_is = h.first_is;
          told = gone s first (x ∷ (xs ++ f ∷ [])) next old.fault none (failed, (begun, still_committed s x xs (xs ++ f ∷ []) g.1.1, one));
        }

pub follow_no : (old new : Judging) (f : FrameData) (n : ℕ) → old.fault ≡ None → old.begun ≡ true → new ≡ record old { stand = new.stand; failed = new.failed; fault = Some n } → (old.failed ≡ None → n ≡ f.seq)
    → (old.failed ≡ None → (s : State) (es : List (Entry Given Made)) → Stands timed s es old.stand → Replays timed s (es ++ entry_of_frame f ∷ []) → ⊥) → Judges (f ∷ []) old new
follow_no old new f n none begun same number never = λ s first fs h. subst (λ (k : Judging). JudgedTo s first (fs ++ f ∷ []) k) (sym same) (by s first fs h (going s first fs old none h))
  where
    next : Judging
    next = record old { stand = new.stand; failed = new.failed; fault = Some n }

    by : (s : State) (first : ℕ) (fs : List FrameData) → JudgedTo s first fs old → (old.failed ≡ None) × Goes s fs old → JudgedTo s first (fs ++ f ∷ []) next
    by s first [] h g = apart (sym g.1.0 ∙ begun)
    by s first (x ∷ xs) h g = record {
      root_is = h.root_is;
      count_is = h.count_is;
      first_is = h.first_is;
      told = λ rest.
          let all = (xs ++ f ∷ []) ++ rest in
          let fault : IsFaultNumber s all (Some n) = fault_here s all (f ∷ rest) rest f old.stand n refl (xs, append_assoc xs (f ∷ []) rest, g.1.2) (never g.0 s) (number g.0) in
          subst (λ (b : Bool). IsFaultByRoot b first s (x ∷ all) (Some n)) (sym (still_committed s x xs all g.1.1)) fault;
    }

-- ---- no entry, or one behind a fault

pub judged_skip : (old : Judging) (more : List FrameData) (n : ℕ) → old.fault ≡ Some n → Judges more old old
judged_skip old more n some = λ s first fs h.
    let was = subst (λ (o : Option ℕ). MatchOption o ((old.failed ≡ None) × Goes s fs old) (λ m. (rest : List FrameData) → IsFaultFrom first s (fs ++ rest) (Some m))) some h.told in
    record {
      root_is = h.root_is;
      count_is = h.count_is;
      first_is = h.first_is;
      told = subst (λ (o : Option ℕ). MatchOption o ((old.failed ≡ None) × Goes s (fs ++ more) old) (λ m. (rest : List FrameData) → IsFaultFrom first s ((fs ++ more) ++ rest) (Some m))) (sym some)
          (λ rest. subst (λ (l : List FrameData). IsFaultFrom first s l (Some n)) (sym (append_assoc fs more rest)) (was (more ++ rest)));
    }

pub judged_none : (old : Judging) → Judges [] old old
judged_none old = λ s first fs h. subst (λ (l : List FrameData). JudgedTo s first l old) (sym (append-nil fs)) h

pub judged_more : (a b c : Judging) (xs ys : List FrameData) → Judges xs a b → Judges ys b c → Judges (xs ++ ys) a c
judged_more a b c xs ys f g = λ s first fs h. subst (λ (l : List FrameData). JudgedTo s first l c) (append_assoc fs xs ys) (g s first (fs ++ xs) (f s first fs h))

-- ---- all entries

pub judged_start : (s : State) (first : ℕ) (j : Judging) → j.root_of ≡ root s → j.count ≡ s.count → j.first ≡ first → j.fault ≡ None → j.failed ≡ None → j.begun ≡ false → j.stand ≡ start s → JudgedTo s first [] j
judged_start s first j r c f none failed shut stand = record { root_is = r; count_is = c; first_is = f; told = gone s first [] j j.fault none (failed, (shut, stand)) }

pub judged_end : (s : State) (first : ℕ) (fs : List FrameData) (j : Judging) → JudgedTo s first fs j → IsFaultFrom first s fs j.fault
judged_end s first fs j h = go j.fault h.told
  where
    none : (l : List FrameData) → Goes s l j → IsFaultFrom first s l None
    none [] g = refl
    none (f ∷ l) g = subst (λ (b : Bool). IsFaultByRoot b first s (f ∷ l) None) (sym g.1) g.2.replays

    go : (o : Option ℕ) → MatchOption o ((j.failed ≡ None) × Goes s fs j) (λ n. (rest : List FrameData) → IsFaultFrom first s (fs ++ rest) (Some n)) → IsFaultFrom first s fs o
    go None g = none fs g.1
    go (Some n) g = subst (λ (l : List FrameData). IsFaultFrom first s l (Some n)) (append-nil fs) (g [])

pub judged_stand : (s : State) (first : ℕ) (f : FrameData) (fs : List FrameData) (j : Judging) → j.fault ≡ None → JudgedTo s first (f ∷ fs) j → Stands timed s (entries_of fs) j.stand
judged_stand s first f fs j none h = (going s first (f ∷ fs) j none h).1.2
