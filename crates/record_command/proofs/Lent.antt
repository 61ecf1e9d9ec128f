-- What the loan of a run's files tells: no other file is changed.
use Rattle.std.proofs.Common.{◌≡◌, ◌≢◌, ℕ, Bool, true, false, List, None, refl, sym, ap, ◌∙◌}
use Rattle.std.specs.Prelude.{if◌then◌else◌}
use Rattle.std.specs.Str.{bytes_eq}
use Rattle.std.proofs.lemmas.Slice.Eq.{bytes_eq-Decides}
use Rattle.file_outlet.specs.FileMap.{FileMap}
use Rattle.file_outlet.specs.RunFiles.{Held, Others, others_of, without}

pub packets_same : {G : Type 0} (a b : G × Others) → a ≡ b → a.1.packets ≡ b.1.packets
packets_same {G} a b e = ap (λ (l : G × Others). l.1.packets) e

pub console_same : {G : Type 0} (a b : G × Others) → a ≡ b → a.1.console ≡ b.1.console
console_same {G} a b e = ap (λ (l : G × Others). l.1.console) e

pub auths_same : {G : Type 0} (a b : G × Others) → a ≡ b → a.1.auths ≡ b.1.auths
auths_same {G} a b e = ap (λ (l : G × Others). l.1.auths) e

shows : (name : List ℕ) (files : FileMap) (n : List ℕ) → n ≢ name → without name files n ≡ files n
shows name files n other = go (bytes_eq n name) refl
  where
    go : (b : Bool) → bytes_eq n name ≡ b → (if b then None else files n) ≡ files n
    go true e = absurd (other ((bytes_eq-Decides n name).0 e))
    go false e = refl

shows_all : (h : Held) (n : List ℕ) → n ≢ h.packets → n ≢ h.console → n ≢ h.auths → (others_of h).files n ≡ h.files n
shows_all h n p c a =
    shows h.packets (without h.console (without h.auths h.files)) n p ∙ shows h.console (without h.auths h.files) n c ∙ shows h.auths h.files n a

pub others_stay : {G : Type 0} (x y : G) (old new : Held) → ◌≡◌ {A = G × Others} (x, others_of new) (y, others_of old) → (n : List ℕ) → n ≢ old.packets → n ≢ old.console → n ≢ old.auths → new.files n ≡ old.files n
others_stay {G} x y old new e n p c a =
    let same : others_of new ≡ others_of old = ap (λ (l : G × Others). l.1) e in
    let ps : new.packets ≡ old.packets = ap (λ (o : Others). o.packets) same in
    let cs : new.console ≡ old.console = ap (λ (o : Others). o.console) same in
    let hs : new.auths ≡ old.auths = ap (λ (o : Others). o.auths) same in
    sym (shows_all new n (λ h. p (h ∙ ps)) (λ h. c (h ∙ cs)) (λ h. a (h ∙ hs))) ∙ ap (λ (o : Others). o.files n) same ∙ shows_all old n p c a
