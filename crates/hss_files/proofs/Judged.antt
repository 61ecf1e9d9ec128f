-- How the judgements of authenticators under two keys come together.
use Rattle.std.proofs.Common.{◌≡◌, ℕ, ◌≤◌, ◌<◌, ◌^◌, not, Bool, refl, sym, ◌∙◌, ap, subst, List, [], ◌∷◌, length, map, Option, None, Some, arith, le-leb, if◌then◌else◌}
use Rattle.std.specs.Str.{bytes_eq}
use Rattle.std.proofs.lemmas.Bool.{lt-leb}
use Rattle.avm_num.specs.Lists.{list_bytes}
use Rattle.avm_num.specs.Room.{Buffer, with_bytes}
use Rattle.avm_num.specs.Walk.{all_at}
use Rattle.avm_model.specs.Auth.{AuthData, auth_bytes}
use Rattle.avm_model.specs.Basics.{first_at}
use Rattle.hss_model.specs.Hss.{signature_length, bottom_of}
use Rattle.hss_model.specs.HssFile.{hss_auth_at, is_good, first_failing, narrowed, narrow_auths, narrow_of, bad_or, mixed_or, Malformed, Narrows}
use Rattle.hss_files.specs.declared.narrowing.Narrowed.{Narrowed}
use Rattle.hss_files.specs.declared.narrowing.Narrowed.TheVariants as n
use Rattle.hss_auths.specs.Lengths.{size_with}
use Rattle.hss_files.specs.Answers.{NarrowAnswers}
use Rattle.hss_files.proofs.Tests.{first_is, none_fails, parts_under}

pub judged_none : (top : List ℕ) (xs : List AuthData) (b : Buffer) → xs ≡ [] → NarrowAnswers (narrow_auths top (Some xs)) b b n.Malformed
judged_none top xs b e = rw e (refl, refl)

pub judged_bad : (top : List ℕ) (xs rest : List AuthData) (a : AuthData) (b : Buffer) (k : ℕ) → xs ≡ a ∷ rest → Some k ≡ first_at (λ x. not (is_good top x)) 0 xs → NarrowAnswers (narrow_auths top (Some xs)) b b (n.BadAuth k)
judged_bad top xs rest a b k e bad =
    let f : first_failing (is_good top) (a ∷ rest) ≡ Some k = first_is (is_good top) (a ∷ rest) ∙ sym (rw e at bad) in
    rw (e, f) (refl, refl)

-- the judgement of the bottom keys
mixed_of : (top : List ℕ) (a : AuthData) (rest : List AuthData) → Option ℕ
mixed_of top a rest = first_failing (λ b. bytes_eq (bottom_of (signature_length top) b.sig) (bottom_of (signature_length top) a.sig)) (a ∷ rest)

good_then : (top : List ℕ) (rest : List AuthData) (a : AuthData) → None ≡ first_at (λ x. not (is_good top x)) 0 (a ∷ rest) → narrow_auths top (Some (a ∷ rest)) ≡ mixed_or (bottom_of (signature_length top) a.sig) (signature_length top) (a ∷ rest) (mixed_of top a rest)
unfolding mixed_of
good_then top rest a good =
    let f : first_failing (is_good top) (a ∷ rest) ≡ None = first_is (is_good top) (a ∷ rest) ∙ sym good in
    ap (λ (o : Option ℕ). bad_or o (mixed_or (bottom_of (signature_length top) a.sig) (signature_length top) (a ∷ rest) (mixed_of top a rest))) f

mixed_is : (top bottom : List ℕ) (rest : List AuthData) (a : AuthData) (n : ℕ) (o : Option ℕ) → n ≡ signature_length top → bottom ≡ bottom_of n a.sig → o ≡ first_at (λ x. not (bytes_eq (bottom_of n x.sig) bottom)) 0 (a ∷ rest) → mixed_of top a rest ≡ o
unfolding mixed_of
mixed_is top bottom rest a m o size is first =
    let f = first_is (λ (b : AuthData). bytes_eq (bottom_of m b.sig) bottom) (a ∷ rest) ∙ sym first in
    let g : first_failing (λ (b : AuthData). bytes_eq (bottom_of m b.sig) (bottom_of m a.sig)) (a ∷ rest) ≡ o = subst (λ (l : List ℕ). first_failing (λ (b : AuthData). bytes_eq (bottom_of m b.sig) l) (a ∷ rest) ≡ o) is f in
    subst (λ (k : ℕ). first_failing (λ (b : AuthData). bytes_eq (bottom_of k b.sig) (bottom_of k a.sig)) (a ∷ rest) ≡ o) size g

pub judged_mixed : (top bottom : List ℕ) (xs rest : List AuthData) (a : AuthData) (b : Buffer) (m k : ℕ) → xs ≡ a ∷ rest → None ≡ first_at (λ x. not (is_good top x)) 0 xs → m ≡ signature_length top → bottom ≡ bottom_of m a.sig
    → Some k ≡ first_at (λ x. not (bytes_eq (bottom_of m x.sig) bottom)) 0 xs → NarrowAnswers (narrow_auths top (Some xs)) b b (n.Mixed k)
judged_mixed top bottom xs rest a b m k e good size is mixed =
    rw (e, good_then top rest a (rw e at good), mixed_is top bottom rest a m (Some k) size is (rw e at mixed)) (refl, refl)

length_map : (f : AuthData → AuthData) (xs : List AuthData) → length (map f xs) ≡ length xs
length_map f [] = refl
length_map f (x ∷ xs) = let i = length_map f xs in omega (arith, i)

pub judged_done : (top bottom : List ℕ) (xs rest : List AuthData) (a : AuthData) (b c : Buffer) (m count : ℕ) → xs ≡ a ∷ rest → None ≡ first_at (λ x. not (is_good top x)) 0 xs → m ≡ signature_length top → bottom ≡ bottom_of m a.sig
    → None ≡ first_at (λ x. not (bytes_eq (bottom_of m x.sig) bottom)) 0 xs → c ≡ with_bytes b (list_bytes auth_bytes (map (narrowed m) xs)) → count ≡ length xs → NarrowAnswers (narrow_auths top (Some xs)) b c (n.Under bottom count)
judged_done top bottom xs rest a b c m count e good size is mixed written number =
    let whole : narrow_auths top (Some xs) ≡ Narrows bottom (map (narrowed m) xs) =
    ap (λ (ys : List AuthData). narrow_auths top (Some ys)) e ∙ good_then top rest a (rw e at good) ∙ ap (λ (o : Option ℕ). mixed_or (bottom_of (signature_length top) a.sig) (signature_length top) (a ∷ rest) o) (mixed_is top bottom rest a m None size is (rw e at mixed))
    ∙ ap (λ (k : ℕ). Narrows (bottom_of k a.sig) (map (narrowed k) (a ∷ rest))) (sym size) ∙ ap (λ (l : List ℕ). Narrows l (map (narrowed m) (a ∷ rest))) (sym is) ∙ ap (λ (ys : List AuthData). Narrows bottom (map (narrowed m) ys)) (sym e) in
    rw whole (ap (λ (k : ℕ). n.Under bottom k) (number ∙ sym (length_map (narrowed m) xs)), written)

-- the bottom key of a valid authenticator
pub bottom_long : (top : List ℕ) (xs rest : List AuthData) (a : AuthData) (m : ℕ) → xs ≡ a ∷ rest → None ≡ first_at (λ x. not (is_good top x)) 0 xs → m ≡ signature_length top → length (bottom_of m a.sig) ≡ 56
bottom_long top xs rest a m e good size =
    let f : first_failing (is_good top) (a ∷ rest) ≡ None = first_is (is_good top) (a ∷ rest) ∙ sym (rw e at good) in
    let g = none_fails (is_good top) a rest f in
    rw size (parts_under top _ a.sig g.0).exact

-- ---- the bytes

pub too_long : (top bytes : List ℕ) (b : Buffer) → 2 ^ 25 < length bytes → NarrowAnswers (narrow_of top bytes) b b n.Malformed
unfolding narrow_of
too_long top bytes b lt = rw (lt-leb (length bytes) (2 ^ 25) lt) (refl, refl)

pub no_auths : (top bytes : List ℕ) (b : Buffer) → length bytes ≤ 2 ^ 25 → None ≡ all_at hss_auth_at bytes → NarrowAnswers (narrow_of top bytes) b b n.Malformed
unfolding narrow_of
no_auths top bytes b le none = rw (le-leb (length bytes) (2 ^ 25) le, sym none) (refl, refl)

pub some_auths : (top bytes : List ℕ) (xs : List AuthData) (b c : Buffer) (r : Narrowed) → length bytes ≤ 2 ^ 25 → Some xs ≡ all_at hss_auth_at bytes → NarrowAnswers (narrow_auths top (Some xs)) b c r → NarrowAnswers (narrow_of top bytes) b c r
unfolding narrow_of
some_auths top bytes xs b c r le some answers =
    let whole : narrow_of top bytes ≡ narrow_auths top (Some xs) = ap (λ (t : Bool). if t then narrow_auths top (all_at hss_auth_at bytes) else Malformed) (le-leb (length bytes) (2 ^ 25) le) ∙ ap (narrow_auths top) (sym some) in
    rw whole answers

-- no more authenticators than bytes
pub few_auths : (xs : List AuthData) → length xs ≤ size_with 0 xs
few_auths [] = omega arith
few_auths (x ∷ xs) = let i = few_auths xs in omega (arith, i)
