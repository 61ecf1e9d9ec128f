-- A roll's bytes: what is read is what is spelled, with an end behind it.
use Rattle.std.proofs.Common.{◌≡◌, ◌⊎◌, inl, inr, ℕ, zero, suc, ◌+◌, ◌*◌, ◌<◌, ◌≤◌, ◌==◌, true, false, refl, sym, ◌∙◌, ap, ap₂, subst, Option, None, Some, List, [], ◌∷◌, ◌++◌, length, take, drop, get_or, arith, length-append, append_assoc, append-nil, take-append-drop, eqb-true}
use Rattle.std.specs.Str.{bytes_eq}
use Rattle.std.proofs.lemmas.Slice.Eq.{bytes_eq-Decides}
use Rattle.std.proofs.lemmas.List.{take_at, drop_at, drop-drop, length-drop}
use Rattle.avm_num.specs.Bytes.{◌>>=◌, piece_at, kept}
use Rattle.avm_num.specs.Lists.{list_bytes}
use Rattle.avm_num.specs.Walk.{walk, walked}
use Rattle.avm_num.proofs.Numbers.{bind_some, kept_some, and_true, short_some, piece_again}
use Rattle.avm_model.specs.Keys.{public_file}
use Rattle.avm_model.proofs.PartLengths.{piece_rest}
use Rattle.hss_model.specs.Hss.{is_hss_key}
use Rattle.hss_model.specs.Roll.{RollData, roll_mark, bound_at, most_of, roll_of, bound_bytes, roll_bytes, roll_end, with_bottom}

-- each bottom key has 56 bytes
abbrev pub AreKeys : List (List ℕ) → Type 0
AreKeys [] = Unit {0}
AreKeys (k ∷ ks) = (length k ≡ 56) × AreKeys ks

pub bound_front : (bytes : List ℕ) (p : List ℕ × List ℕ) → bound_at bytes ≡ Some p → (bytes ≡ 1 ∷ (p.0 ++ p.1)) × (length p.0 ≡ 56)
bound_front [] p e = absurd cc
bound_front (b ∷ bytes) p e =
    let k = bind_some (piece_at 56 bytes) _ p e in
    let g = kept_some (b == 1) k.0 p k.2 in
    let s = short_some _ (take 56 bytes, drop 56 bytes) k.0 k.1 in
    let is : (take 56 bytes, drop 56 bytes) ≡ p = s.1 ∙ g.1 in
    let first : take 56 bytes ≡ p.0 = ap (λ (q : List ℕ × List ℕ). q.0) is in
    let second : drop 56 bytes ≡ p.1 = ap (λ (q : List ℕ × List ℕ). q.1) is in
    let size : length p.0 + length p.1 ≡ length bytes = sym (length-append p.0 p.1) ∙ ap length (ap₂ (λ (x y : List ℕ). x ++ y) (sym first) (sym second) ∙ take-append-drop 56 bytes) in
    let r = piece_rest 56 bytes k.0 k.1 in
    let same : length k.0.1 ≡ length p.1 = ap (λ (q : List ℕ × List ℕ). length q.1) g.1 in
    let long : length p.0 ≡ 56 = omega (arith, size, r, same) in
    (ap₂ (λ (x : ℕ) (l : List ℕ). x ∷ l) (eqb-true b 1 g.0) (sym (take-append-drop 56 bytes) ∙ ap₂ (λ (x y : List ℕ). x ++ y) first second), long)

pub bound_again : (key rest : List ℕ) → length key ≡ 56 → bound_at (1 ∷ (key ++ rest)) ≡ Some (key, rest)
bound_again key rest e =
    let h : piece_at 56 (key ++ rest) ≡ Some (key, rest) = subst (λ (n : ℕ). piece_at n (key ++ rest) ≡ Some (key, rest)) e (piece_again key rest) in
    ap (λ (o : Option (List ℕ × List ℕ)). o >>= λ k. kept true k) h

-- a closed gate binds nothing
pub shut_none : (gate : ℕ) (rest : List ℕ) → (gate == 1) ≡ false → bound_at (gate ∷ rest) ≡ None
shut_none gate rest e = rw e (go (piece_at 56 rest))
  where
    go : (o : Option (List ℕ × List ℕ)) → (o >>= λ k. kept false k) ≡ None
    go None = refl
    go (Some k) = refl

-- what a walk over records reads, and where it ends
pub record IsWalked (n : ℕ) (bytes : List ℕ) (ks : List (List ℕ)) (rest : List ℕ) : Type 0 where
  pub spelled : bytes ≡ list_bytes bound_bytes ks ++ rest
  pub keys : AreKeys ks
  pub few : length ks ≤ n
  pub ends : (length ks ≡ n) ⊎ (bound_at rest ≡ None)

pub walk_front : (n : ℕ) (bytes : List ℕ) → IsWalked n bytes (walk bound_at n bytes).0 (walk bound_at n bytes).1
walk_front zero bytes = record { spelled = refl; keys = tt; few = omega arith; ends = inl refl }
walk_front (suc n) bytes = go (λ b. walk_front n b) (bound_at bytes) refl
  where
    go : ((b : List ℕ) → IsWalked n b (walk bound_at n b).0 (walk bound_at n b).1) → (o : Option (List ℕ × List ℕ)) → bound_at bytes ≡ o
        → IsWalked (suc n) bytes (walked o bytes (walk bound_at n)).0 (walked o bytes (walk bound_at n)).1
    go ih None e = record { spelled = refl; keys = tt; few = omega arith; ends = inr e }
    go ih (Some p) e =
        let f = bound_front bytes p e in
        let h = ih p.1 in
        record {
          spelled = f.0 ∙ ap (λ (l : List ℕ). 1 ∷ (p.0 ++ l)) h.spelled ∙ ap (λ (l : List ℕ). 1 ∷ l) (sym (append_assoc p.0 (list_bytes bound_bytes (walk bound_at n p.1).0) (walk bound_at n p.1).1));
          keys = (f.1, h.keys);
          few = omega (arith, h.few);
          ends = elim h.ends [ inl x ↦ inl (ap suc x) | inr y ↦ inr y ];
        }

pub walk_again : (n : ℕ) (ks : List (List ℕ)) (rest : List ℕ) → AreKeys ks → length ks ≤ n → (length ks ≡ n) ⊎ (bound_at rest ≡ None) → walk bound_at n (list_bytes bound_bytes ks ++ rest) ≡ (ks, rest)
walk_again zero [] rest keys few ends = refl
walk_again zero (k ∷ ks) rest keys few ends = absurd (omega (arith, few))
walk_again (suc n) [] rest keys few (inl e) = absurd (omega (arith, e))
walk_again (suc n) [] rest keys few (inr e) = ap (λ (o : Option (List ℕ × List ℕ)). walked o rest (walk bound_at n)) e
walk_again (suc n) (k ∷ ks) rest keys few ends =
    let more = list_bytes bound_bytes ks ++ rest in
    let first : bound_at ((1 ∷ (k ++ list_bytes bound_bytes ks)) ++ rest) ≡ Some (k, more) = ap (λ (l : List ℕ). bound_at (1 ∷ l)) (append_assoc k (list_bytes bound_bytes ks) rest) ∙ bound_again k more keys.0 in
    let ih = walk_again n ks rest keys.1 (omega (arith, few)) (elim ends [ inl e ↦ inl (omega (arith, e)) | inr e ↦ inr e ]) in
    ap (λ (o : Option (List ℕ × List ℕ)). walked o ((1 ∷ (k ++ list_bytes bound_bytes ks)) ++ rest) (walk bound_at n)) first ∙ ap (λ (q : List (List ℕ) × List ℕ). (k ∷ q.0, q.1)) ih

-- a roll that its header's key allows
pub record FitsRoll (r : RollData) : Type 0 where
  pub key : is_hss_key r.key ≡ true
  pub keys : AreKeys r.bottoms
  pub few : length r.bottoms ≤ most_of r.key

pub key_long : (key : List ℕ) → is_hss_key key ≡ true → length key ≡ 60
unfolding is_hss_key public_file
key_long key e =
    let p = and_true _ _ e in
    let q = and_true (length (drop 4 key) == 56) _ p.1 in
    let n : length (drop 4 key) ≡ 56 = eqb-true (length (drop 4 key)) 56 q.0 in
    omega (arith, n, length-drop 4 key)

pub list_long : (ks : List (List ℕ)) → AreKeys ks → length (list_bytes bound_bytes ks) ≡ 57 * length ks
list_long [] keys = refl
list_long (k ∷ ks) keys = omega (arith, length-append k (list_bytes bound_bytes ks), keys.0, list_long ks keys.1)

pub roll_long : (r : RollData) → FitsRoll r → length (roll_bytes r) ≡ roll_end (length r.bottoms)
unfolding roll_bytes
roll_long r fits = omega (arith, length-append r.key (list_bytes bound_bytes r.bottoms), key_long r.key fits.key, list_long r.bottoms fits.keys)

-- an image of a roll: its bytes, and an end behind them
pub record Holds (r : RollData) (c rest : List ℕ) : Type 0 where
  pub spelled : c ≡ roll_bytes r ++ rest
  pub fits : FitsRoll r
  pub ends : (length r.bottoms ≡ most_of r.key) ⊎ (bound_at rest ≡ None)

bytes_same : (a b : List ℕ) → bytes_eq a b ≡ true → a ≡ b
bytes_same a b e = (bytes_eq-Decides a b).0 e

pub roll_front : (c : List ℕ) (r : RollData) → roll_of c ≡ Some r → (rest : List ℕ) × Holds r c rest
unfolding roll_of roll_bytes
roll_front c r e =
    let k = kept_some _ _ r e in
    let t = and_true (bytes_eq (take 5 c) roll_mark) _ k.0 in
    let w = walk_front (most_of (take 60 (drop 5 c))) (drop 65 c) in
    let rest = (walk bound_at (most_of (take 60 (drop 5 c))) (drop 65 c)).1 in
    let here : RollData = record { key = take 60 (drop 5 c); bottoms = (walk bound_at (most_of (take 60 (drop 5 c))) (drop 65 c)).0 } in
    let body : drop 5 c ≡ here.key ++ (list_bytes bound_bytes here.bottoms ++ rest) = sym (take-append-drop 60 (drop 5 c)) ∙ ap (λ (l : List ℕ). here.key ++ l) (drop-drop 60 5 c ∙ w.spelled) in
    let is : c ≡ roll_bytes here ++ rest = sym (take-append-drop 5 c) ∙ ap₂ (λ (x y : List ℕ). x ++ y) (bytes_same _ _ t.0) (body ∙ sym (append_assoc here.key (list_bytes bound_bytes here.bottoms) rest)) in
    let held : Holds here c rest = record { spelled = is; fits = record { key = t.1; keys = w.keys; few = w.few }; ends = w.ends } in
    (rest, subst (λ (x : RollData). Holds x c rest) k.1 held)

pub roll_again : (r : RollData) (c rest : List ℕ) → Holds r c rest → roll_of c ≡ Some r
unfolding roll_of roll_bytes
roll_again r c rest held =
    let ks = list_bytes bound_bytes r.bottoms in
    let parts : c ≡ roll_mark ++ (r.key ++ (ks ++ rest)) = held.spelled ∙ ap (λ (l : List ℕ). roll_mark ++ l) (append_assoc r.key ks rest) in
    let mark : take 5 c ≡ roll_mark = ap (λ (l : List ℕ). take 5 l) parts in
    let body : drop 5 c ≡ r.key ++ (ks ++ rest) = ap (λ (l : List ℕ). drop 5 l) parts in
    let key : take 60 (drop 5 c) ≡ r.key = ap (λ (l : List ℕ). take 60 l) body ∙ take_at r.key (ks ++ rest) 60 (key_long r.key held.fits.key) in
    let behind : drop 65 c ≡ ks ++ rest = sym (drop-drop 60 5 c) ∙ ap (λ (l : List ℕ). drop 60 l) body ∙ drop_at r.key (ks ++ rest) 60 (key_long r.key held.fits.key) in
    let walks = walk_again (most_of r.key) r.bottoms rest held.fits.keys held.fits.few held.ends in
    rw (mark, key, behind, walks, held.fits.key) refl

keys_append : (ks : List (List ℕ)) (k : List ℕ) → AreKeys ks → length k ≡ 56 → AreKeys (ks ++ k ∷ [])
keys_append [] k keys e = (e, tt)
keys_append (x ∷ ks) k keys e = (keys.0, keys_append ks k keys.1 e)

list_append : (ks : List (List ℕ)) (k : List ℕ) → list_bytes bound_bytes (ks ++ k ∷ []) ≡ list_bytes bound_bytes ks ++ 1 ∷ k
list_append [] k = append-nil (1 ∷ k)
list_append (x ∷ ks) k = ap (λ (l : List ℕ). 1 ∷ (x ++ l)) (list_append ks k) ∙ ap (λ (l : List ℕ). 1 ∷ l) (sym (append_assoc x (list_bytes bound_bytes ks) (1 ∷ k)))

pub with_bytes_of : (r : RollData) (k : List ℕ) → roll_bytes (with_bottom r k) ≡ roll_bytes r ++ 1 ∷ k
unfolding roll_bytes
with_bytes_of r k = ap (λ (l : List ℕ). roll_mark ++ (r.key ++ l)) (list_append r.bottoms k) ∙ ap (λ (l : List ℕ). roll_mark ++ l) (sym (append_assoc r.key (list_bytes bound_bytes r.bottoms) (1 ∷ k)))

pub fits_with : (r : RollData) (k : List ℕ) → FitsRoll r → length k ≡ 56 → length r.bottoms < most_of r.key → FitsRoll (with_bottom r k)
fits_with r k fits e lt = record { key = fits.key; keys = keys_append r.bottoms k fits.keys e; few = omega (arith, lt, length-append r.bottoms (k ∷ [])) }

-- bottom key i stands behind the gate at its place
pub key_at : (ks : List (List ℕ)) (rest : List ℕ) (i : ℕ) → AreKeys ks → i < length ks → take 56 (drop (57 * i + 1) (list_bytes bound_bytes ks ++ rest)) ≡ get_or ks i []
key_at [] rest i keys lt = absurd (omega (arith, lt))
key_at (k ∷ ks) rest zero keys lt = ap (λ (l : List ℕ). take 56 l) (append_assoc k (list_bytes bound_bytes ks) rest) ∙ take_at k (list_bytes bound_bytes ks ++ rest) 56 keys.0
key_at (k ∷ ks) rest (suc i) keys lt =
    let more = list_bytes bound_bytes ks ++ rest in
    let all = 1 ∷ ((k ++ list_bytes bound_bytes ks) ++ rest) in
    let a : 57 * suc i + 1 ≡ suc (57 * i + 57) = omega arith in
    let b : 57 * i + 57 ≡ 56 + (57 * i + 1) = omega arith in
    let one : drop (57 * suc i + 1) all ≡ drop (57 * i + 57) ((k ++ list_bytes bound_bytes ks) ++ rest) = ap (λ (n : ℕ). drop n all) a in
    let two : drop (57 * i + 57) ((k ++ list_bytes bound_bytes ks) ++ rest) ≡ drop (56 + (57 * i + 1)) (k ++ more) = ap₂ (λ (n : ℕ) (l : List ℕ). drop n l) b (append_assoc k (list_bytes bound_bytes ks) rest) in
    let far : drop (57 * suc i + 1) all ≡ drop (57 * i + 1) (drop 56 (k ++ more)) = one ∙ two ∙ sym (drop-drop (57 * i + 1) 56 (k ++ more)) in
    ap (λ (l : List ℕ). take 56 l) far ∙ ap (λ (l : List ℕ). take 56 (drop (57 * i + 1) l)) (drop_at k more 56 keys.0) ∙ key_at ks rest i keys.1 (omega (arith, lt))
