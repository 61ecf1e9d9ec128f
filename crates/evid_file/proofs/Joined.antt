-- Pieces of a file one after another.
use Rattle.std.proofs.Common.{◌≡◌, ℕ, ◌+◌, List, [], ◌∷◌, ◌++◌, ◌≤◌, ◌-◌, Result, Ok, Err, IsErr, true, false, length, get_or, take, drop, Option, Some, None, option_map, refl, sym, ap, subst, ◌∙◌, append_assoc, append-nil, arith, inl, inr}
use Rattle.std.specs.Int.{w32, w64}
use Rattle.std.proofs.lemmas.Bool.{cases_lt}
use Rattle.std.proofs.lemmas.List.{take-append-le, take_all, length-drop}
use Rattle.std.proofs.Math.Seq.{take-append-add, take-append_seam}
use Rattle.avm_num.specs.Lists.{be, one, sized_bytes}
use Rattle.avm_outside.specs.Outside.{BothTold}
use Rattle.avm_outside.specs.declared.files.Failed.{Failed}
use Rattle.avm_outside.specs.Files.{appended, AppendsFront}
use Rattle.avm_model.specs.Auth.{AuthData, auth_bytes}
use Rattle.avm_model.specs.Evidence.{double, fork, replay, evidence_magic, body_bytes, evidence_bytes}
use Rattle.evid_file.specs.Pieces.{joined, Written, LeavesFront, Leaves}
use Rattle.std.specs.Borrow.{Bor}

-- one piece more
pub more : (o f g : Option (Option (List ℕ))) (done piece : List ℕ) → Written done o f → g ≡ option_map (appended piece) f → Written (done ++ piece) o g
more None f g done piece w a = rw (a, w) refl
more (Some x) f g done piece w a = rw (a, w) refl

-- a front of a piece is a front of what goes on
front_of : (n : ℕ) (piece rest : List ℕ) → (m : ℕ) × (take m (piece ++ rest) ≡ take n piece)
front_of n piece rest =
    elim (cases_lt n (length piece)) [
      | inl lt ↦ (n, take-append-le n piece rest (omega arith))
      | inr le ↦ (length piece, take-append_seam piece rest ∙ sym (take_all n piece le))
    ]

-- a piece that was cut
pub broken : (o f g : Option (Option (List ℕ))) (done piece rest all : List ℕ) → Written done o f → BothTold f g (AppendsFront piece) → done ++ (piece ++ rest) ≡ all → LeavesFront all o g
broken None f g done piece rest all w b e = inl (nothing g (subst (λ (x : Option (Option (List ℕ))). BothTold x g (AppendsFront piece)) w b))
  where
    nothing : (g : Option (Option (List ℕ))) → BothTold None g (AppendsFront piece) → g ≡ None
    nothing None t = refl
    nothing (Some y) t = absurd t
broken (Some x) f g done piece rest all w b e = inr (told g (subst (λ (y : Option (Option (List ℕ))). BothTold y g (AppendsFront piece)) w b))
  where
    here : take (length done) all ≡ done
    here = ap (take (length done)) (sym e) ∙ take-append_seam done (piece ++ rest)

    told : (g : Option (Option (List ℕ))) → BothTold (Some (Some done)) g (AppendsFront piece) → (n : ℕ) × Written (take n all) (Some x) g
    told None t = absurd t
    told (Some new) (inl same) = (length done, rw (here, same) refl)
    told (Some new) (inr cut) =
        let m = front_of cut.0 piece rest in
        let is : take (length done + m.0) all ≡ done ++ take cut.0 piece = ap (take (length done + m.0)) (sym e) ∙ take-append-add done (piece ++ rest) m.0 ∙ ap (λ (l : List ℕ). done ++ l) m.1 in
        (length done + m.0, rw (is, cut.1) refl)

-- ---- the pieces of each form

auth_text : (a : AuthData) (rest : List ℕ) → auth_bytes a ++ rest ≡ (be w64 a.seq ++ (a.hash ++ be w32 (length a.sig))) ++ (a.sig ++ rest)
unfolding auth_bytes
auth_text a rest = simp append_assoc

head_text : (key rest : List ℕ) (form : ℕ) → be w32 evidence_magic ++ one 1 ++ key ++ one form ++ rest ≡ (be w32 evidence_magic ++ (one 1 ++ (key ++ one form))) ++ rest
head_text key rest form = simp append_assoc

last_text : (a : AuthData) → auth_bytes a ≡ (be w64 a.seq ++ (a.hash ++ be w32 (length a.sig))) ++ (a.sig ++ [])
last_text a = sym (append-nil (auth_bytes a)) ∙ auth_text a []

pub double_joined : (key : List ℕ) (a b : AuthData)
    → (be w32 evidence_magic ++ (one 1 ++ (key ++ one 1))) ++ ((be w64 a.seq ++ (a.hash ++ be w32 (length a.sig))) ++ (a.sig ++ ((be w64 b.seq ++ (b.hash ++ be w32 (length b.sig))) ++ (b.sig ++ []))))
    ≡ evidence_bytes (double key a b)
unfolding evidence_bytes body_bytes
double_joined key a b = rw (head_text key (auth_bytes a ++ auth_bytes b) 1, auth_text a (auth_bytes b), last_text b) refl

pub fork_joined : (key : List ℕ) (start : ℕ) (before frames : List ℕ) (a b : AuthData)
    → (be w32 evidence_magic ++ (one 1 ++ (key ++ one 2))) ++ ((be w64 start ++ (before ++ be w32 (length frames))) ++ (frames
    ++ ((be w64 a.seq ++ (a.hash ++ be w32 (length a.sig))) ++ (a.sig ++ ((be w64 b.seq ++ (b.hash ++ be w32 (length b.sig))) ++ (b.sig ++ []))))))
    ≡ evidence_bytes (fork key start before frames a b)
unfolding evidence_bytes body_bytes
fork_joined key start before frames a b =
    let regrouped : be w64 start ++ before ++ sized_bytes (be w32) frames ++ auth_bytes a ++ auth_bytes b ≡ (be w64 start ++ (before ++ be w32 (length frames))) ++ (frames ++ (auth_bytes a ++ auth_bytes b)) = simp append_assoc in
    rw (regrouped, head_text key ((be w64 start ++ (before ++ be w32 (length frames))) ++ (frames ++ (auth_bytes a ++ auth_bytes b))) 2, auth_text a (auth_bytes b), last_text b) refl

pub replay_joined : (key segment : List ℕ) (a : AuthData)
    → (be w32 evidence_magic ++ (one 1 ++ (key ++ one 3))) ++ (be w32 (length segment) ++ (segment ++ ((be w64 a.seq ++ (a.hash ++ be w32 (length a.sig))) ++ (a.sig ++ []))))
    ≡ evidence_bytes (replay key segment a)
unfolding evidence_bytes body_bytes
replay_joined key segment a =
    let regrouped : sized_bytes (be w32) segment ++ auth_bytes a ≡ be w32 (length segment) ++ (segment ++ auth_bytes a) = simp append_assoc in
    rw (regrouped, head_text key (be w32 (length segment) ++ (segment ++ auth_bytes a)) 3, last_text a) refl

-- ---- the pieces that are left

split : (left : List (Bor (List ℕ))) (d : Bor (List ℕ)) → 1 ≤ length left → (get_or left 0 d).now ++ joined (drop 1 left) ≡ joined left
split [] d some = absurd (omega arith)
split (p ∷ left) d some = refl

pub grows : (o f g : Option (Option (List ℕ))) (done all : List ℕ) (left : List (Bor (List ℕ))) (d : Bor (List ℕ)) → Written done o f → g ≡ option_map (appended (get_or left 0 d).now) f → 1 ≤ length left → done ++ joined left ≡ all
    → (x : List ℕ) × Written x o g × (x ++ joined (take (length left - 1) (drop 1 left)) ≡ all)
grows o f g done all left d w a some e =
    let rest : take (length left - 1) (drop 1 left) ≡ drop 1 left = take_all (length left - 1) (drop 1 left) (omega (arith, length-drop 1 left)) in (
      done ++ (get_or left 0 d).now,
      more o f g done (get_or left 0 d).now w a,
      ap (λ (l : List (Bor (List ℕ))). (done ++ (get_or left 0 d).now) ++ joined l) rest ∙ append_assoc done (get_or left 0 d).now (joined (drop 1 left)) ∙ ap (λ (l : List ℕ). done ++ l) (split left d some) ∙ e,
    )

pub leaves_err : (r : Result (Unit {0}) Failed) (bytes : List ℕ) (o g : Option (Option (List ℕ))) → IsErr r → LeavesFront bytes o g → Leaves r bytes o g
leaves_err (Ok u) bytes o g is h = absurd (let e : false ≡ true = is in cc)
leaves_err (Err e) bytes o g is h = h

pub breaks : (o f g : Option (Option (List ℕ))) (done all : List ℕ) (left : List (Bor (List ℕ))) (d : Bor (List ℕ)) → Written done o f → BothTold f g (AppendsFront (get_or left 0 d).now) → 1 ≤ length left → done ++ joined left ≡ all → LeavesFront all o g
breaks o f g done all left d w b some e =
    broken o f g done (get_or left 0 d).now (joined (drop 1 left)) all w b (ap (λ (l : List ℕ). done ++ l) (split left d some) ∙ e)
