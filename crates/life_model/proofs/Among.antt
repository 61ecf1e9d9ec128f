-- What is among some.
use Rattle.std.proofs.Common.{◌≡◌, ◌⊎◌, inl, inr, Bool, true, false, cond, List, [], ◌∷◌, ◌++◌, refl, sym, ap, subst, ◌∙◌, append_assoc}
use Rattle.std.specs.List.{filter}
use Rattle.life_model.specs.Life.{Among}

pub among_left : {A : Type 0} (x : A) (a b : List A) → Among x a → Among x (a ++ b)
among_left x [] b h = absurd h
among_left x (y ∷ a) b (inl e) = inl e
among_left x (y ∷ a) b (inr h) = inr (among_left x a b h)

pub among_right : {A : Type 0} (x : A) (a b : List A) → Among x b → Among x (a ++ b)
among_right x [] b h = h
among_right x (y ∷ a) b h = inr (among_right x a b h)

pub among_either : {A : Type 0} (x : A) (a b : List A) → Among x (a ++ b) → Among x a ⊎ Among x b
among_either x [] b h = inr h
among_either x (y ∷ a) b (inl e) = inl (inl e)
among_either x (y ∷ a) b (inr h) = elim (among_either x a b h) [ inl l ↦ inl (inr l) | inr r ↦ inr r ]

-- more behind the second of two lists
pub among_more : {A : Type 0} (x : A) (a b more c : List A) → c ≡ b ++ more → Among x (a ++ b) → Among x (a ++ c)
among_more x a b more c e h = subst (Among x) (append_assoc a b more ∙ ap (λ l. a ++ l) (sym e)) (among_left x (a ++ b) more h)

pub among_last : {A : Type 0} (x : A) (a b more c : List A) → c ≡ b ++ more → Among x more → Among x (a ++ c)
among_last x a b more c e h = among_right x a c (subst (Among x) (sym e) (among_right x b more h))

-- a front of more
pub among_front : {A : Type 0} (x : A) (all ps rest : List A) → all ≡ ps ++ rest → Among x ps → Among x all
among_front x all ps rest e h = subst (Among x) (sym e) (among_left x ps rest h)

-- from the front of a list, or from the rest of it
pub among_parts : {A : Type 0} (x : A) (gone front rest own : List A) → own ≡ front ++ rest → Among x (gone ++ own) → Among x ((gone ++ front) ++ rest)
among_parts x gone front rest own e h = subst (Among x) (ap (λ l. gone ++ l) e ∙ sym (append_assoc gone front rest)) h

-- what passes is among all, and passes
pub among_filter : {A : Type 0} (p : A → Bool) (x : A) (xs : List A) → Among x (filter p xs) → Among x xs × (p x ≡ true)
among_filter p x [] h = absurd h
among_filter p x (y ∷ xs) h = go (λ i. among_filter p x xs i) (p y) refl h
  where
    go : (Among x (filter p xs) → Among x xs × (p x ≡ true)) → (b : Bool) → p y ≡ b → Among x (cond b (y ∷ filter p xs) (filter p xs)) → Among x (y ∷ xs) × (p x ≡ true)
    go more true e (inl i) = (inl i, ap p i ∙ e)
    go more true e (inr i) = let m = more i in (inr m.0, m.1)
    go more false e i = let m = more i in (inr m.0, m.1)
