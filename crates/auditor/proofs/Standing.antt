-- Whether bytes are evidence of a key, and hold.
use Rattle.std.proofs.Common.{◌≡◌, ℕ, Bool, true, false, List, Some, None, Result, Ok, Err, IfOk, sym, ap, subst, ◌∙◌, MatchBool}
use Rattle.std.proofs.lemmas.Slice.Eq.{bytes_eq-Decides}
use Rattle.std.specs.Str.{bytes_eq}
use Rattle.avm_model.specs.Evidence.{EvidData, key_of, evidence_at}
use Rattle.avm_model.specs.Holds.{Holds, Stands}

some_is : (x y : EvidData) → Some x ≡ Some y → x ≡ y
some_is x y q = cc

pub no_evidence : (key bytes : List ℕ) → None ≡ evidence_at bytes → Stands key bytes → ⊥
no_evidence key bytes e w = apart w.«data» (e ∙ w.read)
  where
    apart : (x : EvidData) → None ≡ Some x → ⊥
    apart x q = cc

pub other_key : (key bytes : List ℕ) (e : EvidData) → Some e ≡ evidence_at bytes → bytes_eq (key_of e) key ≡ false → Stands key bytes → ⊥
other_key key bytes e is never w =
    let same : e ≡ w.«data» = some_is e w.«data» (is ∙ w.read) in
    let equal : bytes_eq (key_of e) key ≡ true = (bytes_eq-Decides (key_of e) key).1 (ap key_of same ∙ w.key_is) in
    apart (sym never ∙ equal)
  where
    apart : false ≡ true → ⊥
    apart q = cc

decide : (b : Bool) (key bytes : List ℕ) (e : EvidData) → Some e ≡ evidence_at bytes → bytes_eq (key_of e) key ≡ true → MatchBool b (Holds e) (Holds e → ⊥) → MatchBool b (Stands key bytes) (Stands key bytes → ⊥)
decide true key bytes e is own h = record { «data» = e; read = sym is; key_is = (bytes_eq-Decides (key_of e) key).0 own; holds = h }
decide false key bytes e is own h = λ w. h (subst Holds (sym (some_is e w.«data» (is ∙ w.read))) w.holds)

pub stands_by : {E : Type 0} (r : Result Bool E) (key bytes : List ℕ) (e : EvidData) → Some e ≡ evidence_at bytes → bytes_eq (key_of e) key ≡ true → IfOk r (λ b. MatchBool b (Holds e) (Holds e → ⊥)) → IfOk r (λ b. MatchBool b (Stands key bytes) (Stands key bytes → ⊥))
stands_by (Ok b) key bytes e is own h = decide b key bytes e is own h
stands_by (Err x) key bytes e is own h = tt
