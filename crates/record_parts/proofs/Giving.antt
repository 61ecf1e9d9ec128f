-- Pieces that an outlet is given, one after another.
use Rattle.std.proofs.Common.{◌≡◌, ℕ, List, [], ◌∷◌, ◌++◌, take, Result, Ok, Err, refl, sym, ap, subst, ◌∙◌, append_assoc, ne_eqb}
use Rattle.std.specs.Prelude.{OnErr}
use Rattle.avm_outside.specs.Outlet.{Piece, all_added, console}
use Rattle.guest_machine.specs.declared.outs.Line.{Line}
use Rattle.record_parts.specs.Ends.{CutsAmong}
use Rattle.record_parts.specs.Outs.{line_pieces}

pub on_err : {T E : Type 0} (r : Result T E) (P Q : Type 0) → (P → Q) → OnErr r P → OnErr r Q
on_err (Ok x) P Q f h = tt
on_err (Err e) P Q f h = f h

pub cuts_one : {H : Type 0} (adding : Piece → H → H) (tearing : Piece → H → H → Type 0) (p : Piece) (ps : List Piece) (old new : H) → ps ≡ p ∷ [] → tearing p old new → CutsAmong adding tearing ps old new
cuts_one adding tearing p ps old new e h = record { before = []; cut = p; behind = []; split = e; new_is = h }

pub some_line : (line : Line) (n : ℕ) → (line.len ≡ 0 → ⊥) → take n line.bytes ≡ take line.len line.bytes → line_pieces line ≡ console (take n line.bytes) ∷ []
some_line line n other e = rw (ne_eqb line.len 0 other, e) refl

pub added-append : {H : Type 0} (adding : Piece → H → H) (g : H) (a b : List Piece) → all_added adding (a ++ b) g ≡ all_added adding b (all_added adding a g)
added-append adding g [] b = refl
added-append adding g (p ∷ a) b = added-append adding (adding p g) a b

-- first some pieces, then more
pub then_given : {H : Type 0} (adding : Piece → H → H) (a b : List Piece) (old mid new : H) → mid ≡ all_added adding a old → new ≡ all_added adding b mid → new ≡ all_added adding (a ++ b) old
then_given {H} adding a b old mid new e f = f ∙ ap (λ (m : H). all_added adding b m) e ∙ sym (added-append adding old a b)

pub then_cut : {H : Type 0} (adding : Piece → H → H) (tearing : Piece → H → H → Type 0) (a b : List Piece) (old mid new : H) → mid ≡ all_added adding a old → CutsAmong adding tearing b mid new → CutsAmong adding tearing (a ++ b) old new
then_cut {H} adding tearing a b old mid new e q = record {
  before = a ++ q.before;
  cut = q.cut;
  behind = q.behind;
  split = ap (λ (ps : List Piece). a ++ ps) q.split ∙ sym (append_assoc a q.before (q.cut ∷ q.behind));
  new_is = subst (λ (y : H). tearing q.cut y new) (ap (λ (m : H). all_added adding q.before m) e ∙ sym (added-append adding old a q.before)) q.new_is;
}

-- a cut in front leaves a cut of all
pub cut_front : {H : Type 0} (adding : Piece → H → H) (tearing : Piece → H → H → Type 0) (a b : List Piece) (old new : H) → CutsAmong adding tearing a old new → CutsAmong adding tearing (a ++ b) old new
cut_front adding tearing a b old new h = record { before = h.before; cut = h.cut; behind = h.behind ++ b; split = ap (λ (ps : List Piece). ps ++ b) h.split ∙ append_assoc h.before (h.cut ∷ h.behind) b; new_is = h.new_is }
