-- One step of a renewal, its begin and its end.
use Rattle.std.proofs.Common.{drop, ◌++◌, ◌≡◌, ℕ, zero, suc, ◌+◌, ◌-◌, ◌*◌, ◌<◌, ◌≤◌, ◌||◌, Bool, true, false, cond, List, [], ◌∷◌, length, get_or, refl, sym, ap, subst, ◌∙◌, arith, inl, inr, slice_set, replicate, lt-ltb}
use Rattle.std.proofs.lemmas.Bool.{cases_lt}
use Rattle.std.proofs.lemmas.List.{set_at, drop_more, replicate_more, append_assoc, length-set, get_or-set_same, get_or-set_other, set-get_or, length-replicate}
use Rattle.avm_model.specs.Memory.{RamState}
use Rattle.avm_model.specs.declared.Digest.{Digest}
use Rattle.avm_model.specs.Pages.{Hashes}
use Rattle.page_tree.specs.Nodes.{at, blank, due, touched, marked, Renewing, Building}
use Rattle.avm_model.specs.Basics.{flag}

due_set : (h : Hashes) (bytes : List ℕ) (n : ℕ) (nodes : List Digest) (p : ℕ) (x : Digest) (j : ℕ) → (2 * j ≡ p → ⊥) → (2 * j + 1 ≡ p → ⊥) → due h bytes n (slice_set nodes p x) j ≡ due h bytes n nodes j
due_set h bytes n nodes p x j a b = rw (get_or-set_other nodes p (2 * j) x blank a, get_or-set_other nodes p (2 * j + 1) x blank b) refl

touched_set : (dirty marks : List Bool) (p : ℕ) (b : Bool) (j : ℕ) → (2 * j ≡ p → ⊥) → (2 * j + 1 ≡ p → ⊥) → touched dirty (slice_set marks p b) j ≡ touched dirty marks j
touched_set dirty marks p b j u v = rw (get_or-set_other marks p (2 * j) b false u, get_or-set_other marks p (2 * j + 1) b false v) refl

-- nothing to do at place p
quiet_step : (h : Hashes) (ram : RamState) (nodes : List Digest) (marks : List Bool) (p : ℕ) → 0 < p → Renewing h ram nodes marks (p + 1) → touched ram.dirty marks p ≡ false → Renewing h ram nodes marks p
quiet_step h ram nodes marks p pos r t = record {
  len = r.len;
  marks_len = r.marks_len;
  inside = let i = r.inside in omega arith;
  front = r.front;
  done = λ j le lt below. elim (cases_lt p j) [
    | inl past ↦ r.done j (omega arith) lt below
    | inr here ↦ let e : p ≡ j = omega arith in subst (λ (k : ℕ). at nodes k ≡ due h ram.bytes (length ram.dirty) nodes k) e (r.kept p pos (omega arith) t)
  ];
  kept = λ j lt below e. r.kept j lt (omega arith) e;
  set_on = λ j le lt below. elim (cases_lt p j) [
    | inl past ↦ r.set_on j (omega arith) lt below
    | inr here ↦ let e : p ≡ j = omega arith in subst (λ (k : ℕ). get_or marks k false ≡ touched ram.dirty marks k) e (r.unset p (omega arith) ∙ sym t)
  ];
  unset = λ j below. r.unset j (omega arith);
}

or_true : (b : Bool) → (b || true) ≡ true
or_true true = refl
or_true false = refl

-- what has a marked child is touched
left_touched : (dirty marks : List Bool) (p j : ℕ) → p < length marks → j < length dirty → 2 * j ≡ p → touched dirty (slice_set marks p true) j ≡ true
left_touched dirty marks p j inside lt e = rw (lt-ltb j (length dirty) lt, e, get_or-set_same marks p true false inside) refl

right_touched : (dirty marks : List Bool) (p j : ℕ) → p < length marks → j < length dirty → 2 * j + 1 ≡ p → touched dirty (slice_set marks p true) j ≡ true
right_touched dirty marks p j inside lt e = rw (lt-ltb j (length dirty) lt, e, get_or-set_same marks p true false inside) (or_true _)

busy_step : (h : Hashes) (ram : RamState) (nodes : List Digest) (marks : List Bool) (p : ℕ) → 0 < p → Renewing h ram nodes marks (p + 1) → touched ram.dirty marks p ≡ true
    → Renewing h ram (slice_set nodes p (due h ram.bytes (length ram.dirty) nodes p)) (slice_set marks p true) p
busy_step h ram nodes marks p pos r t =
    let n : ℕ = length ram.dirty in
    let x : Digest = due h ram.bytes n nodes p in
    let i : p + 1 ≤ 2 * length ram.dirty = r.inside in
    let pn : p < length nodes = omega (arith, r.len) in
    let pm : p < length marks = omega (arith, r.marks_len) in
    record {
      len = length-set nodes p x ∙ r.len;
      marks_len = length-set marks p true ∙ r.marks_len;
      inside = omega arith;
      front = get_or-set_other nodes p 0 x blank (λ (e : 0 ≡ p). omega (arith, e)) ∙ r.front;
      done = λ j le lt below. elim (cases_lt p j) [
        | inl past ↦ get_or-set_other nodes p j x blank (λ (e : j ≡ p). omega (arith, e)) ∙ r.done j (omega arith) lt below ∙ sym (due_set h ram.bytes n nodes p x j (λ (e : 2 * j ≡ p). omega (arith, e)) (λ (e : 2 * j + 1 ≡ p). omega (arith, e)))
        | inr here ↦ let e : p ≡ j = omega arith in subst (λ (k : ℕ). at (slice_set nodes p x) k ≡ due h ram.bytes n (slice_set nodes p x) k) e
            (get_or-set_same nodes p x blank pn ∙ sym (due_set h ram.bytes n nodes p x p (λ (e : 2 * p ≡ p). omega (arith, e)) (λ (e : 2 * p + 1 ≡ p). omega (arith, e))))
      ];
      kept = λ j lt below e.
          let off : (2 * j ≡ p → ⊥) × (2 * j + 1 ≡ p → ⊥) =
          elim (cases_lt j (length ram.dirty)) as (λ w. (2 * j ≡ p → ⊥) × (2 * j + 1 ≡ p → ⊥)) [
            | inl inner ↦ ((λ (q : 2 * j ≡ p). let y = left_touched ram.dirty marks p j pm inner q in let z : false ≡ true = sym e ∙ y in cc), (λ (q : 2 * j + 1 ≡ p). let y = right_touched ram.dirty marks p j pm inner q in let z : false ≡ true = sym e ∙ y in cc))
            | inr leaf ↦ ((λ (q : 2 * j ≡ p). omega (arith, q)), (λ (q : 2 * j + 1 ≡ p). omega (arith, q)))
          ] in
          get_or-set_other nodes p j x blank (λ (q : j ≡ p). omega (arith, q)) ∙ r.kept j lt (omega arith) (sym (touched_set ram.dirty marks p true j off.0 off.1) ∙ e) ∙ sym (due_set h ram.bytes n nodes p x j off.0 off.1);
      set_on = λ j le lt below. elim (cases_lt p j) [
        | inl past ↦ get_or-set_other marks p j true false (λ (e : j ≡ p). omega (arith, e)) ∙ r.set_on j (omega arith) lt below ∙ sym (touched_set ram.dirty marks p true j (λ (e : 2 * j ≡ p). omega (arith, e)) (λ (e : 2 * j + 1 ≡ p). omega (arith, e)))
        | inr here ↦ let e : p ≡ j = omega arith in subst (λ (k : ℕ). get_or (slice_set marks p true) k false ≡ touched ram.dirty (slice_set marks p true) k) e
            (get_or-set_same marks p true false pm ∙ sym t ∙ sym (touched_set ram.dirty marks p true p (λ (e : 2 * p ≡ p). omega (arith, e)) (λ (e : 2 * p + 1 ≡ p). omega (arith, e))))
      ];
      unset = λ j below. get_or-set_other marks p j true false (λ (e : j ≡ p). omega (arith, e)) ∙ r.unset j (omega arith);
    }

pub step : (h : Hashes) (ram : RamState) (nodes new_nodes : List Digest) (marks new_marks : List Bool) (p q : ℕ) → 0 < p → q ≡ p + 1 → Renewing h ram nodes marks q
    → new_nodes ≡ cond (touched ram.dirty marks p) (slice_set nodes p (due h ram.bytes (length ram.dirty) nodes p)) nodes → new_marks ≡ slice_set marks p (touched ram.dirty marks p) → Renewing h ram new_nodes new_marks p
step h ram nodes new_nodes marks new_marks p q pos is r a b = go (touched ram.dirty marks p) refl a b
  where
    here : Renewing h ram nodes marks (p + 1)
    here = subst (λ (k : ℕ). Renewing h ram nodes marks k) is r

    go : (t : Bool) → touched ram.dirty marks p ≡ t → new_nodes ≡ cond t (slice_set nodes p (due h ram.bytes (length ram.dirty) nodes p)) nodes → new_marks ≡ slice_set marks p t → Renewing h ram new_nodes new_marks p
    go true t a b = rw (a, b) (busy_step h ram nodes marks p pos here t)
    go false t a b =
        let same : slice_set marks p false ≡ marks = ap (λ (v : Bool). slice_set marks p v) (sym (here.unset p (omega arith))) ∙ set-get_or marks p false in
        rw (a, b, same) (quiet_step h ram nodes marks p pos here t)

marked_set : (marks : List Bool) (p : ℕ) (b : Bool) (i k : ℕ) → p < i → marked (slice_set marks p b) i k ≡ marked marks i k
marked_set marks p b i zero lt = refl
marked_set marks p b i (suc k) lt = rw (get_or-set_other marks p i b false (λ (e : i ≡ p). omega (arith, e)), marked_set marks p b (i + 1) k (omega arith)) refl

pub count_step : (marks new_marks : List Bool) (p q whole before now start : ℕ) (t : Bool) → q ≡ p + 1 → p < length marks → p < whole → new_marks ≡ slice_set marks p t → before ≡ start + marked marks q (whole - q) → now ≡ before + flag t → now ≡ start + marked new_marks p (whole - p)
count_step marks new_marks p q whole before now start t is inside low a b c =
    let k : whole - p ≡ suc (whole - q) = omega arith in
    let tail : marked new_marks (p + 1) (whole - q) ≡ marked marks (p + 1) (whole - q) = rw a (marked_set marks p t (p + 1) (whole - q) (omega arith)) in
    let head : get_or new_marks p false ≡ t = rw a (get_or-set_same marks p t false inside) in
    let there : marked marks q (whole - q) ≡ marked marks (p + 1) (whole - q) = ap (λ (m : ℕ). marked marks m (whole - q)) is in
    rw (k, head, tail) (omega (arith, there))

pub cleaned : (xs : List Bool) (i : ℕ) → i < length xs → slice_set (replicate i false ++ drop i xs) i false ≡ replicate (i + 1) false ++ drop (i + 1) xs
cleaned xs i lt =
    let a = ap (λ (ys : List Bool). slice_set (replicate i false ++ ys) i false) (drop_more xs i false lt) in
    let b = set_at (replicate i false) (get_or xs i false) (drop (i + 1) xs) false i (length-replicate i false) in
    let c = append_assoc (replicate i false) (false ∷ []) (drop (i + 1) xs) in
    let d = ap (λ (ys : List Bool). ys ++ drop (i + 1) xs) (replicate_more i false) in
    a ∙ b ∙ sym c ∙ d

pub build_step : (h : Hashes) (bytes : List ℕ) (n : ℕ) (nodes : List Digest) (p q : ℕ) → 0 < p → q ≡ p + 1 → Building h bytes n nodes q → Building h bytes n (slice_set nodes p (due h bytes n nodes p)) p
build_step h bytes n nodes p q pos is r =
    let x : Digest = due h bytes n nodes p in
    let i = r.inside in
    let pn : p < length nodes = omega (arith, r.len) in
    record {
      len = length-set nodes p x ∙ r.len;
      inside = omega arith;
      front = get_or-set_other nodes p 0 x blank (λ (e : 0 ≡ p). omega (arith, e)) ∙ r.front;
      done = λ j le lt below. elim (cases_lt p j) [
        | inl past ↦ get_or-set_other nodes p j x blank (λ (e : j ≡ p). omega (arith, e)) ∙ r.done j (omega arith) lt below ∙ sym (due_set h bytes n nodes p x j (λ (e : 2 * j ≡ p). omega (arith, e)) (λ (e : 2 * j + 1 ≡ p). omega (arith, e)))
        | inr here ↦ let e : p ≡ j = omega arith in subst (λ (k : ℕ). at (slice_set nodes p x) k ≡ due h bytes n (slice_set nodes p x) k) e
            (get_or-set_same nodes p x blank pn ∙ sym (due_set h bytes n nodes p x p (λ (e : 2 * p ≡ p). omega (arith, e)) (λ (e : 2 * p + 1 ≡ p). omega (arith, e))))
      ];
    }
