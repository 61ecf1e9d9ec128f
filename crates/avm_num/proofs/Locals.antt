-- Readers that need no more than so many bytes: what they read in a front is what they read in all.
use Rattle.std.proofs.Common.{◌≡◌, ℕ, zero, suc, ◌+◌, ◌*◌, ◌≤◌, ◌==◌, Bool, true, false, nat_le, ltb, List, [], ◌∷◌, ◌++◌, length, take, drop, Option, Some, None, option_map, refl, sym, ap, subst, ◌∙◌, arith, leb-true, length-append, append_assoc, take-append-drop}
use Rattle.std.specs.Int.{Width, w32, byte_len, from_be_bytes}
use Rattle.std.proofs.lemmas.Bool.{le-ltb, ltb-false}
use Rattle.std.proofs.lemmas.List.{take-append-le, drop-append-le, length-take-le, take_at, drop_at}
use Rattle.avm_num.specs.Bytes.{◌>>=◌, number_at, piece_at, byte_at, kept}
use Rattle.avm_num.specs.Lists.{list_at, exact_at, sized_at, limited_at}
use Rattle.avm_num.proofs.Numbers.{bind_some, kept_some, short_some}
use Rattle.avm_num.proofs.Lengths.{number_rest, piece_rest, byte_rest}

abbrev pub behind_by : {A : Type 0} → List ℕ → Option (A × List ℕ) → Option (A × List ℕ)
behind_by more r = option_map (λ p. (p.0, p.1 ++ more)) r

-- the bytes in front of what is left, from which the value is read again
abbrev pub Taken : {A : Type 0} → (List ℕ → Option (A × List ℕ)) → List ℕ → A × List ℕ → Type 0
Taken at bytes p = (front : List ℕ) × (bytes ≡ front ++ p.1) × ((more : List ℕ) → at (front ++ more) ≡ Some (p.0, more))

pub record Local {A : Type 0} (at : List ℕ → Option (A × List ℕ)) (n : ℕ) : Type 0 where
  pub short : (bytes : List ℕ) (p : A × List ℕ) → at bytes ≡ Some p → length bytes ≤ length p.1 + n
  pub same : (front more : List ℕ) → n ≤ length front → at (front ++ more) ≡ behind_by more (at front)
  -- what was read is read again, whatever stands behind it
  pub again : (bytes : List ℕ) (p : A × List ℕ) → at bytes ≡ Some p → Taken at bytes p

pub local_number : (w : Width) → Local (number_at w) (byte_len w)
local_number w = record {
  short = λ bytes p e. omega (arith, number_rest w bytes p e);
  same = λ front more le.
      let a : ltb (length front) (byte_len w) ≡ false = le-ltb _ _ le in
      let b : ltb (length (front ++ more)) (byte_len w) ≡ false = le-ltb _ _ (omega (arith, le, length-append front more)) in
      rw (a, b, take-append-le (byte_len w) front more le, drop-append-le (byte_len w) front more le) refl;
  again = λ bytes p e.
      let g = short_some (ltb (length bytes) (byte_len w)) (from_be_bytes w (take (byte_len w) bytes), drop (byte_len w) bytes) p e in
      let long : byte_len w ≤ length bytes = ltb-false _ _ g.0 in
      let len = length-take-le (byte_len w) bytes long in
      subst (Taken (number_at w) bytes) g.1 (
        take (byte_len w) bytes,
        sym (take-append-drop (byte_len w) bytes),
        λ more.
            let b : ltb (length (take (byte_len w) bytes ++ more)) (byte_len w) ≡ false = le-ltb _ _ (omega (arith, len, length-append (take (byte_len w) bytes) more)) in
            rw (b, take_at (take (byte_len w) bytes) more (byte_len w) len, drop_at (take (byte_len w) bytes) more (byte_len w) len) refl,
      );
}

pub local_piece : (n : ℕ) → Local (piece_at n) n
local_piece n = record {
  short = λ bytes p e. omega (arith, piece_rest n bytes p e);
  same = λ front more le.
      let a : ltb (length front) n ≡ false = le-ltb _ _ le in
      let b : ltb (length (front ++ more)) n ≡ false = le-ltb _ _ (omega (arith, le, length-append front more)) in
      rw (a, b, take-append-le n front more le, drop-append-le n front more le) refl;
  again = λ bytes p e.
      let g = short_some (ltb (length bytes) n) (take n bytes, drop n bytes) p e in
      let long : n ≤ length bytes = ltb-false _ _ g.0 in
      let len = length-take-le n bytes long in
      subst (Taken (piece_at n) bytes) g.1 (
        take n bytes,
        sym (take-append-drop n bytes),
        λ more.
            let b : ltb (length (take n bytes ++ more)) n ≡ false = le-ltb _ _ (omega (arith, len, length-append (take n bytes) more)) in
            rw (b, take_at (take n bytes) more n len, drop_at (take n bytes) more n len) refl,
      );
}

byte_same : (front more : List ℕ) → 1 ≤ length front → byte_at (front ++ more) ≡ behind_by more (byte_at front)
byte_same [] more le = absurd (omega arith)
byte_same (b ∷ front) more le = refl

byte_again : (bytes : List ℕ) (p : ℕ × List ℕ) → byte_at bytes ≡ Some p → Taken byte_at bytes p
byte_again [] p e = absurd cc
byte_again (b ∷ bytes) p e = let g : (b, bytes) ≡ p = cc in subst (Taken byte_at (b ∷ bytes)) g (b ∷ [], refl, λ more. refl)

pub local_byte : Local byte_at 1
local_byte = record { short = λ bytes p e. omega (arith, byte_rest bytes p e); same = byte_same; again = byte_again }

pub local_kept : {A : Type 0} (b : Bool) (x : A) → Local (λ bytes. kept b (x, bytes)) 0
local_kept {A} true x = record { short = λ bytes p e. (let r : length bytes ≡ length p.1 = ap (λ (q : A × List ℕ). length q.1) (kept_some true (x, bytes) p e).1 in omega (arith, r)); same = λ front more le. refl; again = λ bytes p e. subst (Taken (λ l. kept true (x, l)) bytes) (kept_some true (x, bytes) p e).1 ([], refl, λ more. refl) }
local_kept false x = record { short = λ bytes p e. absurd cc; same = λ front more le. refl; again = λ bytes p e. absurd cc }

-- one after another
pub local_bind : {A B : Type 0} {at : List ℕ → Option (A × List ℕ)} (next : A → List ℕ → Option (B × List ℕ)) (a b : ℕ) → Local at a → ((x : A) → Local (next x) b) → Local (λ bytes. at bytes >>= λ p. next p.0 p.1) (a + b)
local_bind {A} {B} {at} next a b first then = record { short = short; same = λ front more le. go front more le (at front) refl; again = again }
  where
    short : (bytes : List ℕ) (p : B × List ℕ) → (at bytes >>= λ p. next p.0 p.1) ≡ Some p → length bytes ≤ length p.1 + (a + b)
    short bytes p e =
        let x = bind_some (at bytes) _ p e in
        omega (arith, first.short bytes x.0 x.1, (then x.0.0).short x.0.1 p x.2)

    again : (bytes : List ℕ) (p : B × List ℕ) → (at bytes >>= λ p. next p.0 p.1) ≡ Some p → Taken (λ bytes. at bytes >>= λ p. next p.0 p.1) bytes p
    again bytes p e =
        let x = bind_some (at bytes) _ p e in
        let f = first.again bytes x.0 x.1 in
        let t = (then x.0.0).again x.0.1 p x.2 in
        (f.0 ++ t.0, f.1 ∙ ap (λ (l : List ℕ). f.0 ++ l) t.1 ∙ sym (append_assoc f.0 t.0 p.1), λ more. rw (append_assoc f.0 t.0 more, f.2 (t.0 ++ more)) (t.2 more))

    go : (front more : List ℕ) → a + b ≤ length front → (r : Option (A × List ℕ)) → at front ≡ r → (at (front ++ more) >>= λ p. next p.0 p.1) ≡ behind_by more (at front >>= λ p. next p.0 p.1)
    go front more le None e = rw (first.same front more (omega (arith, le)), e) refl
    go front more le (Some p) e =
        let s = first.short front p e in
        rw (first.same front more (omega (arith, le)), e) ((then p.0).same p.1 more (omega (arith, le, s)))

-- a looser bound
pub local_le : {A : Type 0} {at : List ℕ → Option (A × List ℕ)} (n m : ℕ) → n ≤ m → Local at n → Local at m
local_le n m le l = record { short = λ bytes p e. omega (arith, le, l.short bytes p e); same = λ front more long. l.same front more (omega (arith, le, long)); again = l.again }

-- a part whose length or number is judged behind it
pub local_judged : {X : Type 0} (limit size n : ℕ) (read : List ℕ → Option (X × List ℕ)) → (size ≤ limit → Local read n) → Local (λ bytes. read bytes >>= λ p. kept (nat_le size limit) p) n
local_judged {X} limit size n read small = record { short = short; same = λ front more le. go front more le (nat_le size limit) refl; again = again }
  where
    short : (bytes : List ℕ) (p : X × List ℕ) → (read bytes >>= λ p. kept (nat_le size limit) p) ≡ Some p → length bytes ≤ length p.1 + n
    short bytes p e =
        let a = bind_some (read bytes) _ p e in
        let k = kept_some (nat_le size limit) a.0 p a.2 in
        let r : length a.0.1 ≡ length p.1 = ap (λ (q : X × List ℕ). length q.1) k.1 in
        omega (arith, r, (small (leb-true _ _ k.0)).short bytes a.0 a.1)

    again : (bytes : List ℕ) (p : X × List ℕ) → (read bytes >>= λ p. kept (nat_le size limit) p) ≡ Some p → Taken (λ bytes. read bytes >>= λ p. kept (nat_le size limit) p) bytes p
    again bytes p e =
        let a = bind_some (read bytes) _ p e in
        let k = kept_some (nat_le size limit) a.0 p a.2 in
        let t = (small (leb-true _ _ k.0)).again bytes a.0 a.1 in
        subst (Taken (λ bytes. read bytes >>= λ p. kept (nat_le size limit) p) bytes) k.1 (t.0, t.1, λ more. ap (λ (r : Option (X × List ℕ)). r >>= λ p. kept (nat_le size limit) p) (t.2 more) ∙ ap (λ (b : Bool). kept b (a.0.0, more)) k.0)

    never : (r : Option (X × List ℕ)) → (r >>= λ p. kept false p) ≡ None
    never None = refl
    never (Some p) = refl

    always : (r : Option (X × List ℕ)) → (r >>= λ p. kept true p) ≡ r
    always None = refl
    always (Some p) = refl

    go : (front more : List ℕ) → n ≤ length front → (b : Bool) → nat_le size limit ≡ b → (read (front ++ more) >>= λ p. kept b p) ≡ behind_by more (read front >>= λ p. kept b p)
    go front more le false e = rw (never (read (front ++ more)), never (read front)) refl
    go front more le true e = rw (always (read (front ++ more)), always (read front)) ((small (leb-true _ _ e)).same front more le)

-- a value that is worked out first
pub local_value : {F B : Type 0} (n : ℕ) (o : Option F) (next : F → List ℕ → Option (B × List ℕ)) → ((x : F) → o ≡ Some x → Local (next x) n) → Local (λ bytes. o >>= λ x. next x bytes) n
local_value n None next all = record { short = λ bytes p e. absurd cc; same = λ front more le. refl; again = λ bytes p e. absurd cc }
local_value n (Some x) next all = all x refl

pub local_some : {A : Type 0} (x : A) → Local (λ bytes. Some (x, bytes)) 0
local_some {A} x = record { short = λ bytes p e. (let g : (x, bytes) ≡ p = cc in let r : length bytes ≡ length p.1 = ap (λ (q : A × List ℕ). length q.1) g in omega (arith, r)); same = λ front more le. refl; again = λ bytes p e. let g : (x, bytes) ≡ p = cc in subst (Taken (λ l. Some (x, l)) bytes) g ([], refl, λ more. refl) }

pub local_limited : (limit : ℕ) → Local (limited_at limit) (4 + limit)
unfolding limited_at
local_limited limit = local_bind (λ size bytes. piece_at size bytes >>= λ piece. kept (nat_le size limit) piece) 4 limit (local_number w32) (λ size. local_judged limit size limit (piece_at size) (λ le. local_le size limit le (local_piece size)))

pub local_list : {X : Type 0} {item : List ℕ → Option (X × List ℕ)} (n k : ℕ) → Local item n → Local (list_at item k) (k * n)
unfolding list_at
local_list n zero l = local_le 0 (zero * n) (omega arith) (local_some [])
local_list {item = item} n (suc k) l =
    local_le (n + (k * n + 0)) (suc k * n) (omega arith)
    (local_bind (λ x bytes. list_at item k bytes >>= λ xs. Some (x ∷ xs.0, xs.1)) n (k * n + 0) l (λ x. local_bind (λ xs bytes. Some (x ∷ xs, bytes)) (k * n) 0 (local_list n k l) (λ xs. local_some (x ∷ xs))))

pub local_exact : {at : List ℕ → Option (ℕ × List ℕ)} (a n : ℕ) → Local at a → Local (exact_at at n) (a + 0)
local_exact a n l = local_bind (λ x bytes. kept (x == n) (tt, bytes)) a 0 l (λ x. local_kept (x == n) tt)

-- a reader that never reads
abbrev pub nothing_at : {A : Type 0} → List ℕ → Option (A × List ℕ)
nothing_at bytes = None

pub local_never : {A : Type 0} (n : ℕ) → Local (nothing_at {A = A}) n
local_never n = record { short = λ bytes p e. absurd cc; same = λ front more le. refl; again = λ bytes p e. absurd cc }

-- a length and its bytes are read again, however many they are
pub sized_again : (bytes : List ℕ) (p : List ℕ × List ℕ) → sized_at (number_at w32) bytes ≡ Some p → Taken (sized_at (number_at w32)) bytes p
sized_again bytes p e =
    let a = bind_some (number_at w32 bytes) _ p e in
    let f = (local_number w32).again bytes a.0 a.1 in
    let t = (local_piece a.0.0).again a.0.1 p a.2 in (
      f.0 ++ t.0,
      f.1 ∙ ap (λ (l : List ℕ). f.0 ++ l) t.1 ∙ sym (append_assoc f.0 t.0 p.1),
      λ more.
          ap (λ (l : List ℕ). sized_at (number_at w32) l) (append_assoc f.0 t.0 more) ∙ ap (λ (r : Option (ℕ × List ℕ)). r >>= λ n. piece_at n.0 n.1) (f.2 (t.0 ++ more)) ∙ t.2 more,
    )
