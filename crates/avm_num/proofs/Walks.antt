-- Items one after another are read as they are spelled.
use Rattle.std.proofs.Common.{◌≡◌, ℕ, zero, suc, ◌<◌, ◌≤◌, Bool, true, false, List, [], ◌∷◌, ◌++◌, length, Option, Some, None, option_map, refl, sym, ap, subst, ◌∙◌, append_assoc, append-nil, arith, All}
use Rattle.std.specs.List.{AllByRecursion}
use Rattle.std.proofs.lemmas.List.Elements.{All-from_recursion, recursion_from_All}
use Rattle.avm_num.specs.Bytes.{IsBytes, kept}
use Rattle.avm_num.proofs.Numbers.{kept_some}
use Rattle.avm_num.specs.Walk.{Reader, walked, walk, items_of, behind_of, is_nil, all_at}
use Rattle.avm_num.specs.Lists.{list_bytes}
use Rattle.avm_num.proofs.Fields.{Reads}

-- an item has a byte or more
pub record Shortens {X : Type 0} (read : Reader X) : Type 0 where
  pub short : (bytes : List ℕ) (p : X × List ℕ) → read bytes ≡ Some p → length p.1 < length bytes

nothing : {X : Type 0} (read : Reader X) → Shortens read → read [] ≡ None
nothing {X} read s = go (read []) refl
  where
    go : (r : Option (X × List ℕ)) → read [] ≡ r → r ≡ None
    go None e = refl
    go (Some p) e = absurd (let h = s.short [] p e in omega arith)

-- more fuel than bytes changes nothing
enough : {X : Type 0} (read : Reader X) → Shortens read → (n m : ℕ) (bytes : List ℕ) → length bytes ≤ n → length bytes ≤ m → walk read n bytes ≡ walk read m bytes
enough read s zero zero bytes a b = refl
enough read s zero (suc m) [] a b = rw (nothing read s) refl
enough read s zero (suc m) (x ∷ bytes) a b = absurd (omega arith)
enough read s (suc n) zero [] a b = rw (nothing read s) refl
enough read s (suc n) zero (x ∷ bytes) a b = absurd (omega arith)
enough {X} read s (suc n) (suc m) bytes a b = go (λ rest. enough read s n m rest) (read bytes) refl
  where
    go : ((rest : List ℕ) → length rest ≤ n → length rest ≤ m → walk read n rest ≡ walk read m rest) → (r : Option (X × List ℕ)) → read bytes ≡ r → walked r bytes (walk read n) ≡ walked r bytes (walk read m)
    go ih None e = refl
    go ih (Some p) e = let h = s.short bytes p e in ap (λ (q : List X × List ℕ). (p.0 ∷ q.0, q.1)) (ih p.1 (omega arith) (omega arith))

walk_some : {X : Type 0} (read : Reader X) → Shortens read → (bytes : List ℕ) (p : X × List ℕ) → read bytes ≡ Some p → walk read (length bytes) bytes ≡ (p.0 ∷ (walk read (length p.1) p.1).0, (walk read (length p.1) p.1).1)
walk_some {X} read s bytes p e =
    let h = s.short bytes p e in
    let one : walk read (suc (length bytes)) bytes ≡ (p.0 ∷ (walk read (length bytes) p.1).0, (walk read (length bytes) p.1).1) = rw e refl in
    enough read s (length bytes) (suc (length bytes)) bytes (omega arith) (omega arith) ∙ one ∙ ap (λ (q : List X × List ℕ). (p.0 ∷ q.0, q.1)) (enough read s (length bytes) (length p.1) p.1 (omega arith) (omega arith))

walk_none : {X : Type 0} (read : Reader X) → Shortens read → (bytes : List ℕ) → read bytes ≡ None → walk read (length bytes) bytes ≡ ([], bytes)
walk_none read s bytes e = enough read s (length bytes) (suc (length bytes)) bytes (omega arith) (omega arith) ∙ rw e refl

pub items_some : {X : Type 0} (read : Reader X) → Shortens read → (bytes : List ℕ) (p : X × List ℕ) → read bytes ≡ Some p → items_of read bytes ≡ p.0 ∷ items_of read p.1
unfolding items_of
items_some {X} read s bytes p e = ap (λ (q : List X × List ℕ). q.0) (walk_some read s bytes p e)

pub items_none : {X : Type 0} (read : Reader X) → Shortens read → (bytes : List ℕ) → read bytes ≡ None → items_of read bytes ≡ []
unfolding items_of
items_none {X} read s bytes e = ap (λ (q : List X × List ℕ). q.0) (walk_none read s bytes e)

pub behind_some : {X : Type 0} (read : Reader X) → Shortens read → (bytes : List ℕ) (p : X × List ℕ) → read bytes ≡ Some p → behind_of read bytes ≡ behind_of read p.1
unfolding behind_of
behind_some {X} read s bytes p e = ap (λ (q : List X × List ℕ). q.1) (walk_some read s bytes p e)

pub behind_none : {X : Type 0} (read : Reader X) → Shortens read → (bytes : List ℕ) → read bytes ≡ None → behind_of read bytes ≡ bytes
unfolding behind_of
behind_none {X} read s bytes e = ap (λ (q : List X × List ℕ). q.1) (walk_none read s bytes e)

-- there are no more items than bytes
count_upto : {X : Type 0} (read : Reader X) → Shortens read → (n : ℕ) (bytes : List ℕ) → length (walk read n bytes).0 ≤ length bytes
count_upto read s zero bytes = omega arith
count_upto {X} read s (suc n) bytes = go (λ rest. count_upto read s n rest) (read bytes) refl
  where
    go : ((rest : List ℕ) → length (walk read n rest).0 ≤ length rest) → (r : Option (X × List ℕ)) → read bytes ≡ r → length (walked r bytes (walk read n)).0 ≤ length bytes
    go ih None e = omega arith
    go ih (Some p) e = let h = s.short bytes p e in let i = ih p.1 in omega arith

pub items_count : {X : Type 0} (read : Reader X) → Shortens read → (bytes : List ℕ) → length (items_of read bytes) ≤ length bytes
unfolding items_of
items_count read s bytes = count_upto read s (length bytes) bytes

-- ---- the spelling

spelled : {X : Type 0} (read : Reader X) (spell : X → List ℕ) (Fits : X → Type 0) → Reads read spell Fits → Shortens read → (n : ℕ) (bytes : List ℕ) → IsBytes bytes
    → (bytes ≡ list_bytes spell (walk read n bytes).0 ++ (walk read n bytes).1) × AllByRecursion Fits (walk read n bytes).0
spelled read spell Fits r s zero bytes fits = (refl, tt)
spelled {X} read spell Fits r s (suc n) bytes fits = go (λ rest f. spelled read spell Fits r s n rest f) (read bytes) refl
  where
    go : ((rest : List ℕ) → IsBytes rest → (rest ≡ list_bytes spell (walk read n rest).0 ++ (walk read n rest).1) × AllByRecursion Fits (walk read n rest).0) → (o : Option (X × List ℕ)) → read bytes ≡ o
        → (bytes ≡ list_bytes spell (walked o bytes (walk read n)).0 ++ (walked o bytes (walk read n)).1) × AllByRecursion Fits (walked o bytes (walk read n)).0
    go ih None e = (refl, tt)
    go ih (Some p) e =
        let f = r.front bytes p fits e in
        let i = ih p.1 f.0.rest_fits in
        (f.0.parts ∙ ap (λ (t : List ℕ). spell p.0 ++ t) i.0 ∙ sym (append_assoc (spell p.0) _ _), (f.1, i.1))

again_upto : {X : Type 0} (read : Reader X) (spell : X → List ℕ) (Fits : X → Type 0) → Reads read spell Fits → Shortens read → (xs : List X) → AllByRecursion Fits xs → (n : ℕ) → length (list_bytes spell xs) ≤ n → walk read n (list_bytes spell xs) ≡ (xs, [])
again_upto read spell Fits r s [] all zero le = refl
again_upto read spell Fits r s [] all (suc n) le = rw (nothing read s) refl
again_upto {X} read spell Fits r s (x ∷ xs) all zero le = absurd (let e = s.short _ _ (r.again x (list_bytes spell xs) all.0) in omega arith)
again_upto {X} read spell Fits r s (x ∷ xs) all (suc n) le =
    let e = r.again x (list_bytes spell xs) all.0 in
    let h = s.short _ _ e in
    let i = again_upto read spell Fits r s xs all.1 n (omega arith) in
    rw (e, i) refl

nil_is : (bytes : List ℕ) → is_nil bytes ≡ true → bytes ≡ []
nil_is [] e = refl
nil_is (b ∷ bytes) e = absurd cc

pub all_front : {X : Type 0} (read : Reader X) (spell : X → List ℕ) (Fits : X → Type 0) → Reads read spell Fits → Shortens read → (bytes : List ℕ) (xs : List X) → IsBytes bytes → all_at read bytes ≡ Some xs → (bytes ≡ list_bytes spell xs) × All Fits xs
unfolding items_of behind_of
all_front {X} read spell Fits r s bytes xs fits e =
    let k = kept_some (is_nil (walk read (length bytes) bytes).1) (walk read (length bytes) bytes).0 xs e in
    let s = spelled read spell Fits r s (length bytes) bytes fits in
    let whole : bytes ≡ list_bytes spell (walk read (length bytes) bytes).0 = s.0 ∙ ap (λ (t : List ℕ). list_bytes spell (walk read (length bytes) bytes).0 ++ t) (nil_is _ k.0) ∙ append-nil _ in
    subst (λ (ys : List X). (bytes ≡ list_bytes spell ys) × All Fits ys) k.1 (whole, All-from_recursion Fits _ s.1)

pub all_again : {X : Type 0} (read : Reader X) (spell : X → List ℕ) (Fits : X → Type 0) → Reads read spell Fits → Shortens read → (xs : List X) → All Fits xs → all_at read (list_bytes spell xs) ≡ Some xs
unfolding items_of behind_of
all_again {X} read spell Fits r s xs all = ap (λ (q : List X × List ℕ). kept (is_nil q.1) q.0) (again_upto read spell Fits r s xs (recursion_from_All Fits xs all) (length (list_bytes spell xs)) (omega arith))

-- ---- what stands in front of other bytes

-- one item and those behind it
pub all_some : {X : Type 0} (read : Reader X) → Shortens read → (bytes : List ℕ) (p : X × List ℕ) → read bytes ≡ Some p → all_at read bytes ≡ option_map (λ xs. p.0 ∷ xs) (all_at read p.1)
all_some {X} read s bytes p e = rw (items_some read s bytes p e, behind_some read s bytes p e) (go (is_nil (behind_of read p.1)))
  where
    go : (b : Bool) → kept b (p.0 ∷ items_of read p.1) ≡ option_map (λ xs. p.0 ∷ xs) (kept b (items_of read p.1))
    go true = refl
    go false = refl

pub all_none : {X : Type 0} (read : Reader X) → Shortens read → (bytes : List ℕ) → read bytes ≡ None → all_at read bytes ≡ kept (is_nil bytes) []
all_none read s bytes e = rw (items_none read s bytes e, behind_none read s bytes e) refl

-- items that are spelled, and what is read behind them
pub items_go : {X : Type 0} (read : Reader X) (spell : X → List ℕ) (Fits : X → Type 0) → Reads read spell Fits → Shortens read → (xs : List X) (more : List ℕ) → AllByRecursion Fits xs → items_of read (list_bytes spell xs ++ more) ≡ xs ++ items_of read more
items_go read spell Fits r s [] more all = refl
items_go {X} read spell Fits r s (x ∷ xs) more all =
    let e = r.again x (list_bytes spell xs ++ more) all.0 in
    ap (items_of read) (append_assoc (spell x) (list_bytes spell xs) more) ∙ items_some read s _ _ e ∙ ap (λ (t : List X). x ∷ t) (items_go read spell Fits r s xs more all.1)

pub behind_go : {X : Type 0} (read : Reader X) (spell : X → List ℕ) (Fits : X → Type 0) → Reads read spell Fits → Shortens read → (xs : List X) (more : List ℕ) → AllByRecursion Fits xs → behind_of read (list_bytes spell xs ++ more) ≡ behind_of read more
behind_go read spell Fits r s [] more all = refl
behind_go read spell Fits r s (x ∷ xs) more all =
    let e = r.again x (list_bytes spell xs ++ more) all.0 in
    ap (behind_of read) (append_assoc (spell x) (list_bytes spell xs) more) ∙ behind_some read s _ _ e ∙ behind_go read spell Fits r s xs more all.1
