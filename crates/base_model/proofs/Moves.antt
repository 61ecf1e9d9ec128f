-- A moved journal ends as the one from which it was moved: same last hash, same next number, same used leaves.
use Rattle.std.proofs.Common.{◌≡◌, ℕ, ◌+◌, ◌==◌, Bool, true, false, cond, Option, None, Some, List, [], ◌∷◌, ◌++◌, length, refl, sym, ◌∙◌, ap, arith, append_assoc, length-append}
use Rattle.std.specs.List.{flat_map}
use Rattle.avm_model.specs.Frame.{FrameData}
use Rattle.avm_model.specs.Chain.{top_of, next_hash}
use Rattle.journal_model.specs.Part.{Part, entry, seal, keep, frames_in}
use Rattle.journal_model.specs.Journal.{JournalData, parts, entries, last_hash, next_number}
use Rattle.journal_model.proofs.Prefixes.{frames_append}
use Rattle.base_model.specs.Base.{before_entry, from_entry, past_keep, without_keep, records_from, MovedState, base_header, moved}

-- one hash behind another
pub top_append : (h : List ℕ) (fs gs : List FrameData) → top_of h (fs ++ gs) ≡ top_of (top_of h fs) gs
top_append h [] gs = refl
top_append h (f ∷ fs) gs = top_append (next_hash h f) fs gs

-- a keep is no entry
frames_past : (ps : List Part) → frames_in (past_keep ps) ≡ frames_in ps
frames_past [] = refl
frames_past (entry f ∷ ps) = refl
frames_past (seal ∷ ps) = refl
frames_past (keep k ∷ ps) = refl

pub frames_without : (ps : List Part) → frames_in (without_keep ps) ≡ frames_in ps
frames_without [] = refl
frames_without (entry f ∷ ps) = ap (λ (fs : List FrameData). f ∷ fs) (frames_past ps)
frames_without (seal ∷ ps) = frames_past ps
frames_without (keep k ∷ ps) = frames_past ps

abbrev pub all_parts : List (List Part) → List Part
all_parts rs = flat_map (λ (r : List Part). r) rs

abbrev or_none : Option (List Part) → List Part
or_none None = []
or_none (Some ps) = ps

-- a part behind another record's
pub before_append : (n : ℕ) (ps qs : List Part) → from_entry n ps ≡ None → before_entry n (ps ++ qs) ≡ ps ++ before_entry n qs
before_append n [] qs e = refl
before_append n (seal ∷ ps) qs e = ap (λ (x : List Part). seal ∷ x) (before_append n ps qs e)
before_append n (keep k ∷ ps) qs e = ap (λ (x : List Part). keep k ∷ x) (before_append n ps qs e)
before_append n (entry f ∷ ps) qs e = go (λ none. before_append n ps qs none) (f.seq == n) refl
  where
    go : (from_entry n ps ≡ None → before_entry n (ps ++ qs) ≡ ps ++ before_entry n qs) → (b : Bool) → (f.seq == n) ≡ b → before_entry n (entry f ∷ ps ++ qs) ≡ entry f ∷ ps ++ before_entry n qs
    go more true t = absurd (none (ap (λ (b : Bool). cond b (Some (entry f ∷ ps)) (from_entry n ps)) (sym t) ∙ e))
      where
        none : Some (entry f ∷ ps) ≡ None → ⊥
        none x = absurd cc
    go more false t = rw t (ap (λ (x : List Part). entry f ∷ x) (more (ap (λ (b : Bool). cond b (Some (entry f ∷ ps)) (from_entry n ps)) (sym t) ∙ e)))

-- a record that holds the entry
pub before_here : (n : ℕ) (ps qs xs : List Part) → from_entry n ps ≡ Some xs → before_entry n (ps ++ qs) ++ xs ≡ ps
before_here n [] qs xs e = absurd cc
before_here n (seal ∷ ps) qs xs e = ap (λ (x : List Part). seal ∷ x) (before_here n ps qs xs e)
before_here n (keep k ∷ ps) qs xs e = ap (λ (x : List Part). keep k ∷ x) (before_here n ps qs xs e)
before_here n (entry f ∷ ps) qs xs e = go (λ some. before_here n ps qs xs some) (f.seq == n) refl
  where
    go : (from_entry n ps ≡ Some xs → before_entry n (ps ++ qs) ++ xs ≡ ps) → (b : Bool) → (f.seq == n) ≡ b → before_entry n (entry f ∷ ps ++ qs) ++ xs ≡ entry f ∷ ps
    go more true t = rw t (sym (inner (ap (λ (b : Bool). cond b (Some (entry f ∷ ps)) (from_entry n ps)) (sym t) ∙ e)))
      where
        inner : Some (entry f ∷ ps) ≡ Some xs → entry f ∷ ps ≡ xs
        inner x = cc
    go more false t = rw t (ap (λ (x : List Part). entry f ∷ x) (more (ap (λ (b : Bool). cond b (Some (entry f ∷ ps)) (from_entry n ps)) (sym t) ∙ e)))

-- the entries before n and those of the records from n on are all
pub split_frames : (n : ℕ) (rs : List (List Part)) → frames_in (before_entry n (all_parts rs)) ++ frames_in (all_parts (records_from n rs)) ≡ frames_in (all_parts rs)
split_frames n [] = refl
split_frames n (r ∷ rs) = go (split_frames n rs) (from_entry n r) refl
  where
    go : frames_in (before_entry n (all_parts rs)) ++ frames_in (all_parts (records_from n rs)) ≡ frames_in (all_parts rs) → (o : Option (List Part)) → from_entry n r ≡ o
        → frames_in (before_entry n (all_parts (r ∷ rs))) ++ frames_in (all_parts (records_from n (r ∷ rs))) ≡ frames_in (all_parts (r ∷ rs))
    go more None e =
        let b : frames_in (before_entry n (r ++ all_parts rs)) ≡ frames_in r ++ frames_in (before_entry n (all_parts rs)) = ap frames_in (before_append n r (all_parts rs) e) ∙ frames_append r (before_entry n (all_parts rs)) in
        rw e (ap (λ (fs : List FrameData). fs ++ frames_in (all_parts (records_from n rs))) b ∙ append_assoc (frames_in r) (frames_in (before_entry n (all_parts rs))) (frames_in (all_parts (records_from n rs)))
        ∙ ap (λ (fs : List FrameData). frames_in r ++ fs) more ∙ sym (frames_append r (all_parts rs)))
    go more (Some ps) e =
        let b = before_entry n (r ++ all_parts rs) in
        let whole : frames_in b ++ frames_in ps ≡ frames_in r = sym (frames_append b ps) ∙ ap frames_in (before_here n r (all_parts rs) ps e) in
        let later : frames_in (without_keep ps ++ all_parts rs) ≡ frames_in ps ++ frames_in (all_parts rs) = frames_append (without_keep ps) (all_parts rs) ∙ ap (λ (fs : List FrameData). fs ++ frames_in (all_parts rs)) (frames_without ps) in
        rw e (ap (λ (fs : List FrameData). frames_in b ++ fs) later ∙ sym (append_assoc (frames_in b) (frames_in ps) (frames_in (all_parts rs))) ∙ ap (λ (fs : List FrameData). fs ++ frames_in (all_parts rs)) whole ∙ sym (frames_append r (all_parts rs)))

-- the last hash is the same
pub moved_hash : (j : JournalData) (n : ℕ) (s : MovedState) → last_hash (moved j n s) ≡ last_hash j
unfolding last_hash entries parts moved base_header
moved_hash j n s = sym (top_append j.header.before (frames_in (before_entry n (all_parts j.records))) (frames_in (all_parts (records_from n j.records)))) ∙ ap (top_of j.header.before) (split_frames n j.records)

-- and the next number, where n is that of the entry there
pub moved_next : (j : JournalData) (n : ℕ) (s : MovedState) → n ≡ j.header.first + length (frames_in (before_entry n (parts j))) → next_number (moved j n s) ≡ next_number j
unfolding next_number entries parts moved base_header
moved_next j n s e = omega (arith, e, ap length (split_frames n j.records), length-append (frames_in (before_entry n (all_parts j.records))) (frames_in (all_parts (records_from n j.records))))
