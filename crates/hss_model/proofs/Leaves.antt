-- A leaf binds one key.
use Rattle.std.proofs.Common.{◌≡◌, inl, inr, ℕ, ◌+◌, ◌<◌, List, [], ◌∷◌, ◌++◌, length, length-append, get_or, refl, sym, ◌∙◌, ap, subst, arith, append_assoc, append-nil}
use Rattle.std.proofs.lemmas.List.{get_or_append_left}
use Rattle.hss_model.specs.Roll.{RollData, with_bottom}
use Rattle.hss_model.specs.History.{Event, Granted, Cut, Happens, Lives, IsAmong}

-- the keys of the second stand behind those of the first
abbrev pub Grows : RollData → RollData → Type 0
Grows r s = (more : List (List ℕ)) × (s.bottoms ≡ r.bottoms ++ more)

grows_same : (r s : RollData) → s ≡ r → Grows r s
grows_same r s e = ([], ap (λ (x : RollData). x.bottoms) e ∙ sym (append-nil r.bottoms))

grows_more : (r s : RollData) (bottom : List ℕ) → s ≡ with_bottom r bottom → Grows r s
grows_more r s bottom e = (bottom ∷ [], ap (λ (x : RollData). x.bottoms) e)

grows : (e : Event) (r s : RollData) → Happens e r s → Grows r s
grows (Granted leaf bottom) r s (inl h) = grows_same r s h.1
grows (Granted leaf bottom) r s (inr h) = grows_more r s bottom h.2
grows (Cut bottom) r s (inl h) = grows_same r s h
grows (Cut bottom) r s (inr h) = grows_more r s bottom h

pub keeps : (es : List Event) (r s : RollData) → Lives es r s → Grows r s
keeps [] r s h = grows_same r s h
keeps (e ∷ es) r s (m, h, rest) =
    let a = grows e r m h in
    let b = keeps es m s rest in (
      a.0 ++ b.0,
      b.1 ∙ ap (λ (l : List (List ℕ)). l ++ b.0) a.1 ∙ append_assoc r.bottoms a.0 b.0,
    )

-- the key stands at the leaf
abbrev Stands : RollData → ℕ → List ℕ → Type 0
Stands s leaf bottom = (leaf < length s.bottoms) × (get_or s.bottoms leaf [] ≡ bottom)

stays : (r s : RollData) (leaf : ℕ) (bottom : List ℕ) → Grows r s → Stands r leaf bottom → Stands s leaf bottom
stays r s leaf bottom g h =
    let size : length s.bottoms ≡ length r.bottoms + length g.0 = ap length g.1 ∙ length-append r.bottoms g.0 in
    (omega (arith, size, h.0), ap (λ (l : List (List ℕ)). get_or l leaf []) g.1 ∙ get_or_append_left r.bottoms g.0 [] leaf h.0 ∙ h.1)

granted : (leaf : ℕ) (bottom : List ℕ) (r s : RollData) → Happens (Granted leaf bottom) r s → Stands s leaf bottom
granted leaf bottom r s (inl h) = subst (λ (x : RollData). Stands x leaf bottom) (sym h.1) (h.0.within, h.0.there)
granted leaf bottom r s (inr h) = subst (λ (x : RollData). Stands x leaf bottom) (sym h.2) (last (r.bottoms) leaf h.1)
  where
    last : (ks : List (List ℕ)) (n : ℕ) → n ≡ length ks → (n < length (ks ++ bottom ∷ [])) × (get_or (ks ++ bottom ∷ []) n [] ≡ bottom)
    last [] n e = subst (λ (i : ℕ). (i < length (bottom ∷ [])) × (get_or (bottom ∷ []) i [] ≡ bottom)) (sym e) (omega arith, refl)
    last (k ∷ ks) n e = subst (λ (i : ℕ). (i < length (k ∷ (ks ++ bottom ∷ []))) × (get_or (k ∷ (ks ++ bottom ∷ [])) i [] ≡ bottom)) (sym e) (let l = last ks (length ks) refl in (omega (arith, l.0), l.1))

there : (es : List Event) (r s : RollData) (leaf : ℕ) (bottom : List ℕ) → Lives es r s → IsAmong (Granted leaf bottom) es → Stands s leaf bottom
there [] r s leaf bottom h among = absurd among
there (e ∷ es) r s leaf bottom (m, h, rest) (inl is) =
    stays m s leaf bottom (keeps es m s rest) (granted leaf bottom r m (subst (λ (x : Event). Happens x r m) is h))
there (e ∷ es) r s leaf bottom (m, h, rest) (inr among) = there es m s leaf bottom rest among

pub binds_once : (es : List Event) (r s : RollData) (leaf : ℕ) (a b : List ℕ) → Lives es r s → IsAmong (Granted leaf a) es → IsAmong (Granted leaf b) es → a ≡ b
binds_once es r s leaf a b h one two = sym (there es r s leaf a h one).1 ∙ (there es r s leaf b h two).1
