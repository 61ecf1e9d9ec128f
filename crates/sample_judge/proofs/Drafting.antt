-- The entries of a cheat, one after another.
use Rattle.std.proofs.Common.{◌≡◌, ℕ, ◌==◌, Bool, true, false, List, [], ◌∷◌, ◌++◌, refl, sym, ap, ◌∙◌, append_assoc, append-nil}
use Rattle.avm_num.specs.Lists.{list_bytes}
use Rattle.avm_model.specs.Audit.{last_number}
use Rattle.avm_model.specs.Chain.{top_of}
use Rattle.avm_model.specs.Frame.{FrameData, frame_bytes}
use Rattle.sample_lines.specs.Judging.{raised, with_raised}
use Rattle.sample_judge.specs.Cheating.{Drafts, IsDraftOf, still}
use Rattle.sample_judge.specs.declared.cheating.Draft.{Draft}

-- so far, with these entries still to come, it is the draft of all of them
pub record IsGoing (h : List ℕ) (all rest : List FrameData) (found : Bool) (d : Draft) : Type 0 where
  pub bytes : d.bytes.items ++ list_bytes frame_bytes (still found rest) ≡ list_bytes frame_bytes (with_raised all)
  pub hash : top_of d.hash.0 (still found rest) ≡ top_of h (with_raised all)
  pub last : last_number d.last rest ≡ last_number 0 all

pub going_first : (h : List ℕ) (all : List FrameData) (d : Draft) → d.bytes.items ≡ [] → d.hash.0 ≡ h → d.last ≡ 0 → IsGoing h all all false d
going_first h all d bytes hash last = record {
  bytes = ap (λ (b : List ℕ). b ++ list_bytes frame_bytes (with_raised all)) bytes;
  hash = ap (λ (x : List ℕ). top_of x (with_raised all)) hash;
  last = ap (λ (n : ℕ). last_number n all) last;
}

-- an entry that is written as `g` is
going_step : (h : List ℕ) (all rest more : List FrameData) (f g : FrameData) (found next : Bool) (d e : Draft) → still found (f ∷ rest) ≡ g ∷ more → still next rest ≡ more → g.seq ≡ f.seq → IsGoing h all (f ∷ rest) found d → Drafts d g e → IsGoing h all rest next e
going_step h all rest more f g found next d e here then seq i s = record {
  bytes = ap (λ (fs : List FrameData). e.bytes.items ++ list_bytes frame_bytes fs) then ∙ ap (λ (b : List ℕ). b ++ list_bytes frame_bytes more) s.bytes ∙ append_assoc d.bytes.items (frame_bytes g) (list_bytes frame_bytes more)
      ∙ ap (λ (fs : List FrameData). d.bytes.items ++ list_bytes frame_bytes fs) (sym here) ∙ i.bytes;
  hash = ap (top_of e.hash.0) then ∙ ap (λ (x : List ℕ). top_of x more) s.hash ∙ ap (top_of d.hash.0) (sym here) ∙ i.hash;
  last = ap (λ (n : ℕ). last_number n rest) (s.last ∙ seq) ∙ i.last;
}

raised_first : (f : FrameData) (rest : List FrameData) → (f.kind == 7) ≡ true → with_raised (f ∷ rest) ≡ raised f ∷ rest
raised_first f rest e = rw e refl

raised_later : (f : FrameData) (rest : List FrameData) → (f.kind == 7) ≡ false → with_raised (f ∷ rest) ≡ f ∷ with_raised rest
raised_later f rest e = rw e refl

-- the first OUT
pub going_raised : (h : List ℕ) (all rest : List FrameData) (f g : FrameData) (found : Bool) (d e : Draft) → (f.kind == 7) ≡ true → found ≡ false → g ≡ raised f → g.seq ≡ f.seq → IsGoing h all (f ∷ rest) found d → Drafts d g e → IsGoing h all rest true e
going_raised h all rest f g found d e kind not is seq i s =
    let here : still found (f ∷ rest) ≡ g ∷ rest = ap (λ (b : Bool). still b (f ∷ rest)) not ∙ raised_first f rest kind ∙ ap (λ (x : FrameData). x ∷ rest) (sym is) in
    going_step h all rest rest f g found true d e here refl seq i s

-- another entry
pub going_same : (h : List ℕ) (all rest : List FrameData) (f : FrameData) (found : Bool) (d e : Draft) → ((f.kind == 7) ≡ true → found ≡ true) → IsGoing h all (f ∷ rest) found d → Drafts d f e → IsGoing h all rest found e
going_same h all rest f true d e out i s = going_step h all rest rest f f true true d e refl refl refl i s
going_same h all rest f false d e out i s = go (f.kind == 7) refl
  where
    go : (b : Bool) → (f.kind == 7) ≡ b → IsGoing h all rest false e
    go true q = absurd (let wrong : false ≡ true = out q in cc wrong)
    go false q = going_step h all rest (with_raised rest) f f false false d e (raised_later f rest q) refl refl i s

pub going_ends : (h : List ℕ) (all rest : List FrameData) (found : Bool) (d : Draft) → rest ≡ [] → IsGoing h all rest found d → IsDraftOf h all d
going_ends h all rest found d none i =
    let still_none : still found rest ≡ [] = ap (still found) none ∙ nothing found in
    record {
      bytes = sym (append-nil d.bytes.items) ∙ ap (λ (fs : List FrameData). d.bytes.items ++ list_bytes frame_bytes fs) (sym still_none) ∙ i.bytes;
      hash = ap (top_of d.hash.0) (sym still_none) ∙ i.hash;
      last = ap (last_number d.last) (sym none) ∙ i.last;
    }
  where
    nothing : (b : Bool) → still b [] ≡ []
    nothing true = refl
    nothing false = refl
