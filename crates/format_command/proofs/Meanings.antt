-- What the statuses of formatting say.
use Rattle.std.proofs.Common.{◌≡◌, ◌≢◌, inl, inr, ℕ, ◌<◌, List, [], ◌∷◌, length, Option, None, Some, refl, sym, ap, subst, ◌∙◌, arith}
use Rattle.std.specs.Prelude.{IfSome}
use Rattle.avm_model.specs.ImageState.{image, Gives, Refuses}
use Rattle.avm_model.specs.Init.{ConfigData}
use Rattle.avm_model.specs.Keys.{KeyData}
use Rattle.avm_model.specs.Machine.{State}
use Rattle.avm_outside.specs.Outside.{BothTold}
use Rattle.avm_script.specs.Config.{IsConfig, config_of}
use Rattle.command_parts.specs.FileMap.{FileMap}
use Rattle.command_parts.specs.Reading.{Finds}
use Rattle.format_command.specs.FileOf.{key_in, IsConfigIn, IsConfigText}
use Rattle.format_command.specs.Booting.{Boots, IsNoImage}
use Rattle.format_command.specs.First.{StandsFor, first_journal}
use Rattle.format_command.specs.Inputs.{Names, Found, AreFound, RefusesFile, Tells}
use Rattle.format_command.specs.Meaning.{FormatMeans}
use Rattle.format_command.specs.Outcomes.{Ended, NoMemory, FaultFiles, FaultDisk, Counted, FormatEnds}
use Rattle.format_command.specs.declared.ends.End.TheVariants.{StoreMade, RefusedFile, RefusedNotEmpty}
use Rattle.format_command.specs.declared.ends.FileOption.{FileOption}
use Rattle.format_command.specs.declared.ends.FileOption.TheVariants.{Key, Config, Image as image_option}

-- ---- files that are taken aren't refused

same_some : {A : Type 0} (o : Option A) (x y : A) → o ≡ Some x → o ≡ Some y → x ≡ y
same_some o x y p q = let e : Some x ≡ Some y = sym p ∙ q in cc

no_none : {A : Type 0} (o : Option A) (x : A) → o ≡ Some x → o ≡ None → ⊥
no_none o x p q = let e : Some x ≡ None = sym p ∙ q in cc

-- bytes are one configuration at most
one_config : (a b : List ℕ) (c d : ConfigData) → a ≡ b → IsConfig a c → IsConfig b d → c ≡ d
one_config a b c d same x y =
    let y = subst (λ (l : List ℕ). IsConfig l d) (sym same) y in
    let value : x.value ≡ y.value = same_some _ x.value y.value x.reads y.reads in
    same_some (config_of x.value) c d x.says (ap config_of value ∙ y.says)

one_found : (found : Option (List ℕ)) (c d : ConfigData) → IsConfigIn found c → IsConfigIn found d → c ≡ d
one_found found c d x y = one_config x.0 y.0 c d (same_some found x.0 y.0 x.1 y.1) x.2.says y.2.says

not_both : (c : ConfigData) (bytes : List ℕ) (s : State) → Boots c bytes s → IsNoImage c bytes → ⊥
not_both c bytes s b (inl more) = omega (arith, more, b.short)
not_both c bytes s b (inr (fault, refuses)) = let e : Gives b.ram b.entry ≡ Refuses fault = sym b.gives ∙ refuses in cc

at_some : {A : Type 0} (o : Option A) (x : A) (P : A → Type 0) → o ≡ Some x → IfSome o P → P x
at_some {A} o x P e p = subst (λ (t : Option A). IfSome t P) e p

not_refused : (f : Found) (k : KeyData) (s : State) (option : FileOption) → Tells f k s → RefusesFile f option → ⊥
not_refused f k s Key t r = no_none (key_in f.key) k t.key_is r
not_refused f k s Config t (i, is, none) =
    at_some f.config t.config_is.0 (λ bytes. (c : ConfigData) → IsConfigText bytes c → ⊥) t.config_is.1 none t.config t.config_is.2
not_refused f k s image_option t (i, c, is, config, none) =
    let same : t.config ≡ c = one_found f.config t.config c t.config_is config in
    let b : Boots c t.boots.0 s = subst (λ (d : ConfigData). Boots d t.boots.0 s) same t.boots.2 in
    not_both c t.boots.0 s b (at_some f.image t.boots.0 (IsNoImage c) t.boots.1 none)

-- ---- the files are told

told_is : (told : Option (Option (List ℕ))) (was found : Option (List ℕ)) → told ≡ Some was → Finds told found → was ≡ found
told_is told was found e f = at_some told was (λ w. w ≡ found) e f

found_is : (names : Names) (files : FileMap) (f g : Found) → files names.key ≡ Some f.key → files names.config ≡ Some f.config → files names.image ≡ Some f.image → AreFound names files g → f ≡ g
found_is names files f g key config image found =
    let a = told_is (files names.key) f.key g.key key found.0 in
    let b = told_is (files names.config) f.config g.config config found.1 in
    let d = told_is (files names.image) f.image g.image image found.2 in
    let all : ◌≡◌ {A = Found} (record { key = f.key; config = f.config; image = f.image }) (record { key = g.key; config = g.config; image = g.image }) = rw (a, b, d) refl in
    all

-- ---- the three parts

made_zero : (names : Names) (files : FileMap) (old new : Option (List ℕ)) (images : List ℕ → Type 0) (quiet : Type 0) (n : Counted) (before after : Option (List ℕ)) (result : ℕ) → FormatEnds names files old new images quiet n before after result → result ≡ 0
    → (f : Found) × (k : KeyData) × (s : State) × AreFound names files f × Tells f k s × BothTold old new (λ was now. (was ≡ []) × StandsFor (first_journal k s) images now)
made_zero names files old new images quiet n before after result (o, f, found, reach, counts, inr p) z = absurd (let h : 4 ≡ 0 = sym p.0 ∙ z in cc)
made_zero names files old new images quiet n before after result (Ended StoreMade, f, found, reach, counts, inl p) z = (f, reach.0, reach.1, found, reach.2, reach.3)
made_zero names files old new images quiet n before after result (Ended (RefusedFile o), f, found, reach, counts, inl p) z = absurd (let h : 3 ≡ 0 = sym p.0 ∙ z in cc)
made_zero names files old new images quiet n before after result (Ended RefusedNotEmpty, f, found, reach, counts, inl p) z = absurd (let h : 2 ≡ 0 = sym p.0 ∙ z in cc)
made_zero names files old new images quiet n before after result (NoMemory, f, found, reach, counts, inl p) z = absurd (let h : 5 ≡ 0 = sym p.0 ∙ z in cc)
made_zero names files old new images quiet n before after result (FaultFiles, f, found, reach, counts, inl p) z = absurd (let h : 4 ≡ 0 = sym p.0 ∙ z in cc)
made_zero names files old new images quiet n before after result (FaultDisk, f, found, reach, counts, inl p) z = absurd (let h : 4 ≡ 0 = sym p.0 ∙ z in cc)

not_filled : (old : Option (List ℕ)) → old ≡ Some [] → IfSome old (λ was. 0 < length was) → ⊥
not_filled old e more = let h : 0 < length {A = ℕ} [] = at_some old [] (λ was. 0 < length was) e more in omega (arith, h)

makes_zero : (names : Names) (files : FileMap) (old new : Option (List ℕ)) (images : List ℕ → Type 0) (quiet : Type 0) (n : Counted) (before after : Option (List ℕ)) (result : ℕ) → FormatEnds names files old new images quiet n before after result
    → (f : Found) (k : KeyData) (s : State) → files names.key ≡ Some f.key → files names.config ≡ Some f.config → files names.image ≡ Some f.image → Tells f k s → old ≡ Some [] → result ≢ 4 → result ≢ 5 → result ≡ 0
makes_zero names files old new images quiet n before after result (o, g, found, reach, counts, inr p) f k s a b c t e four five = absurd (four p.0)
makes_zero names files old new images quiet n before after result (Ended StoreMade, g, found, reach, counts, inl p) f k s a b c t e four five = p.0
makes_zero names files old new images quiet n before after result (Ended (RefusedFile option), g, found, reach, counts, inl p) f k s a b c t e four five =
    absurd (not_refused f k s option t (subst (λ (x : Found). RefusesFile x option) (sym (found_is names files f g a b c found)) reach.0))
makes_zero names files old new images quiet n before after result (Ended RefusedNotEmpty, g, found, reach, counts, inl p) f k s a b c t e four five = absurd (not_filled old e reach.3.0)
makes_zero names files old new images quiet n before after result (NoMemory, g, found, reach, counts, inl p) f k s a b c t e four five = absurd (five p.0)
makes_zero names files old new images quiet n before after result (FaultFiles, g, found, reach, counts, inl p) f k s a b c t e four five = absurd (four p.0)
makes_zero names files old new images quiet n before after result (FaultDisk, g, found, reach, counts, inl p) f k s a b c t e four five = absurd (four p.0)

never_made : (old new : Option (List ℕ)) (b : ℕ) (was : List ℕ) (P : List ℕ → Type 0) → old ≡ Some (b ∷ was) → BothTold old new (λ was now. (was ≡ []) × P now) → ⊥
never_made old new b was P e both = go new (subst (λ (o : Option (List ℕ)). BothTold o new (λ was now. (was ≡ []) × P now)) e both)
  where
    go : (x : Option (List ℕ)) → BothTold (Some (b ∷ was)) x (λ was now. (was ≡ []) × P now) → ⊥
    go None h = h
    go (Some now) h = let no : b ∷ was ≡ [] = h.0 in cc

keeps : (names : Names) (files : FileMap) (old new : Option (List ℕ)) (images : List ℕ → Type 0) (quiet : Type 0) (n : Counted) (before after : Option (List ℕ)) (result : ℕ) → (quiet → new ≡ old) → FormatEnds names files old new images quiet n before after result
    → (b : ℕ) (was : List ℕ) → old ≡ Some (b ∷ was) → result ≢ 4 → new ≡ old
keeps names files old new images quiet n before after result calm (o, g, found, reach, counts, inr p) b was e four = absurd (four p.0)
keeps names files old new images quiet n before after result calm (Ended StoreMade, g, found, reach, counts, inl p) b was e four = absurd (never_made old new b was (StandsFor (first_journal reach.0 reach.1) images) e reach.3)
keeps names files old new images quiet n before after result calm (Ended (RefusedFile option), g, found, reach, counts, inl p) b was e four = calm reach.1
keeps names files old new images quiet n before after result calm (Ended RefusedNotEmpty, g, found, reach, counts, inl p) b was e four = reach.3.1
keeps names files old new images quiet n before after result calm (NoMemory, g, found, reach, counts, inl p) b was e four = reach
keeps names files old new images quiet n before after result calm (FaultFiles, g, found, reach, counts, inl p) b was e four = absurd (four p.0)
keeps names files old new images quiet n before after result calm (FaultDisk, g, found, reach, counts, inl p) b was e four = absurd (four p.0)

pub means : (names : Names) (files : FileMap) (old new : Option (List ℕ)) (images : List ℕ → Type 0) (quiet : Type 0) (n : Counted) (before after : Option (List ℕ)) (result : ℕ) → (quiet → new ≡ old) → FormatEnds names files old new images quiet n before after result
    → FormatMeans names files old new images result
means names files old new images quiet n before after result calm e = record {
  made = made_zero names files old new images quiet n before after result e;
  makes = makes_zero names files old new images quiet n before after result e;
  refuses = keeps names files old new images quiet n before after result calm e;
}
