-- Lines one after another.
use Rattle.std.proofs.Common.{◌≡◌, ℕ, zero, suc, ◌+◌, List, [], ◌∷◌, ◌++◌, length, take, Option, Some, None, refl, sym, ap, ◌∙◌, subst, append_assoc, append-nil, arith}
use Rattle.std.specs.Prelude.{option_map, Result, Ok, Err, IsErrAnd}
use Rattle.std.specs.List.{concat}
use Rattle.avm_outside.specs.Outside.{Rises, BothTold, AddsFront}
use Rattle.command_parts.specs.Printing.{Prints, PrintsCut, PrintsAll}
use Rattle.command_parts.specs.declared.fault.Fault.{Fault}
use Rattle.command_parts.specs.declared.fault.Fault.TheVariants.{Sink}

concat_more : (said : List (List ℕ)) (line : List ℕ) (rest : List (List ℕ)) → concat (said ++ line ∷ rest) ≡ concat said ++ (line ++ concat rest)
concat_more [] line rest = refl
concat_more (x ∷ said) line rest = ap (λ l. x ++ l) (concat_more said line rest) ∙ sym (append_assoc x (concat said) (line ++ concat rest))

one_more : (said : List (List ℕ)) (line : List ℕ) → concat (said ++ line ∷ []) ≡ concat said ++ line
one_more said line = concat_more said line [] ∙ ap (λ l. concat said ++ l) (append-nil line)

pub written_more : (a b : List ℕ) (old : Option (List ℕ)) → option_map (λ was. was ++ b) (option_map (λ was. was ++ a) old) ≡ option_map (λ was. was ++ (a ++ b)) old
written_more a b None = refl
written_more a b (Some old) = ap (λ l. Some l) (append_assoc old a b)

pub prints_none : (n : ℕ) (old : Option (List ℕ)) → Prints [] n n old old
prints_none n None = (refl, refl)
prints_none n (Some old) = (refl, ap (λ l. Some l) (sym (append-nil old)))

pub prints_more : (said : List (List ℕ)) (line : List ℕ) (before n m : ℕ) (old mid new : Option (List ℕ)) → Prints said before n old mid → m ≡ n → new ≡ option_map (λ was. was ++ line) mid → Prints (said ++ line ∷ []) before m old new
prints_more said line before n m old mid new p same added =
    (same ∙ p.0, added ∙ ap (option_map (λ was. was ++ line)) p.1 ∙ written_more (concat said) line old ∙ ap (λ l. option_map (λ was. was ++ l) old) (sym (one_more said line)))

take_of : (n : ℕ) (line rest : List ℕ) → take (length (take n line)) (line ++ rest) ≡ take n line
take_of zero line rest = refl
take_of (suc n) [] rest = refl
take_of (suc n) (b ∷ line) rest = ap (λ l. b ∷ l) (take_of n line rest)

take_behind : (a line : List ℕ) (n : ℕ) → take (length a + n) (a ++ line) ≡ a ++ take n line
take_behind [] line n = let e : length {A = ℕ} [] + n ≡ n = omega arith in ap (λ k. take k line) e
take_behind (b ∷ a) line n =
    let e : length (b ∷ a) + n ≡ suc (length a + n) = omega arith in
    ap (λ k. take k (b ∷ (a ++ line))) e ∙ ap (λ l. b ∷ l) (take_behind a line n)

pub front : (old a line rest : List ℕ) (n : ℕ) → (old ++ a) ++ take n line ≡ old ++ take (length a + length (take n line)) (a ++ (line ++ rest))
front old a line rest n =
    append_assoc old a (take n line)
    ∙ ap (λ l. old ++ l) (sym (take_behind a (line ++ rest) (length (take n line)) ∙ ap (λ l. a ++ l) (take_of n line rest)))

cut_told : (said : List (List ℕ)) (line : List ℕ) (rest : List (List ℕ)) (old mid new : Option (List ℕ)) → mid ≡ option_map (λ was. was ++ concat said) old → BothTold mid new (AddsFront line) → BothTold old new (AddsFront (concat (said ++ line ∷ rest)))
cut_told said line rest None mid None e b = tt
cut_told said line rest None mid (Some new) e b = absurd (let h : BothTold None (Some new) (AddsFront line) = subst (λ (m : Option (List ℕ)). BothTold m (Some new) (AddsFront line)) e b in h)
cut_told said line rest (Some old) mid None e b = absurd (let h : BothTold (Some (old ++ concat said)) None (AddsFront line) = subst (λ (m : Option (List ℕ)). BothTold m None (AddsFront line)) e b in h)
cut_told said line rest (Some old) mid (Some new) e b =
    let h : BothTold (Some (old ++ concat said)) (Some new) (AddsFront line) = subst (λ (m : Option (List ℕ)). BothTold m (Some new) (AddsFront line)) e b in
    (length (concat said) + length (take h.0 line), h.1 ∙ front old (concat said) line (concat rest) h.0 ∙ ap (λ l. old ++ take (length (concat said) + length (take h.0 line)) l) (sym (concat_more said line rest)))

pub prints_cut : (said : List (List ℕ)) (line : List ℕ) (rest : List (List ℕ)) (before n m : ℕ) (old mid new : Option (List ℕ)) → Prints said before n old mid → Rises n m → BothTold mid new (AddsFront line) → PrintsCut (said ++ line ∷ rest) before m old new
prints_cut said line rest before n m old mid new p rises b = (subst (λ k. Rises k m) p.0 rises, cut_told said line rest old mid new p.1 b)

fault : (lines : List (List ℕ)) (r : Result (Unit {0}) Fault) (before now : ℕ) (old new : Option (List ℕ)) → IsErrAnd r (λ e. e ≡ Sink) → PrintsCut lines before now old new → PrintsAll lines r before now old new
fault lines (Ok done) before now old new is cut = absurd is
fault lines (Err e) before now old new is cut = subst (λ (f : Fault). PrintsAll lines (Err f) before now old new) (sym is) cut

pub prints_fault : (lines said rest : List (List ℕ)) (line : List ℕ) (r : Result (Unit {0}) Fault) (before n now : ℕ) (old mid new : Option (List ℕ))
    → said ++ line ∷ rest ≡ lines → IsErrAnd r (λ e. e ≡ Sink) → Prints said before n old mid → Rises n now → BothTold mid new (AddsFront line) → PrintsAll lines r before now old new
prints_fault lines said rest line r before n now old mid new whole is p rises b =
    fault lines r before now old new is (subst (λ (l : List (List ℕ)). PrintsCut l before now old new) whole (prints_cut said line rest before n now old mid new p rises b))
