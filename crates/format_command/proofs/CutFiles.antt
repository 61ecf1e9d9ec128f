-- Files of which a byte more than the limit was read.
use Rattle.std.proofs.Common.{◌≡◌, inl, inr, ℕ, ◌+◌, ◌<◌, ◌≤◌, ◌^◌, List, length, take, Option, None, Some, refl, ap, subst, ◌∙◌, arith}
use Rattle.std.specs.Prelude.{option_map}
use Rattle.std.proofs.lemmas.Bool.{cases_lt}
use Rattle.std.proofs.lemmas.List.{length-take-le, take_all}
use Rattle.avm_model.specs.ImageState.{image, Refuses}
use Rattle.avm_model.specs.Init.{ConfigData}
use Rattle.avm_model.specs.Machine.{State}
use Rattle.avm_model.specs.declared.loading.LoadFault.{LoadFault}
use Rattle.command_parts.specs.Reading.{Finds, IsReadOf}
use Rattle.format_command.specs.Booting.{Boots, BootsFrom, HasNoImage, IsNoImage}

-- what is within the limit was read whole
pub whole : (limit : ℕ) (got bytes : List ℕ) → got ≡ take (limit + 1) bytes → length got ≤ limit → got ≡ bytes
whole limit got bytes cut few =
    elim (cases_lt limit (length bytes)) [
      | inl more ↦
          let size : length (take (limit + 1) bytes) ≡ limit + 1 = length-take-le (limit + 1) bytes (omega arith) in
          let same : length got ≡ length (take (limit + 1) bytes) = ap length cut in
          absurd (omega (arith, size, same, few))
      | inr less ↦ cut ∙ take_all (limit + 1) bytes (omega arith)
    ]

pub all_read : (limit : ℕ) (got bytes : List ℕ) → got ≡ take (limit + 1) bytes → length bytes ≤ limit → got ≡ bytes
all_read limit got bytes cut few = cut ∙ take_all (limit + 1) bytes (omega (arith, few))

-- ---- an image

abbrev most : ℕ
most = 2 ^ 25

pub image_found : (told : Option (Option (List ℕ))) (got : List ℕ) (c : ConfigData) (s : State) → IsReadOf (2 ^ 25) told (Some got) → Boots c got s → (found : Option (List ℕ)) × Finds told found × BootsFrom c found s
image_found told got c s r b = go r.0 r.1 r.2
  where
    go : (found : Option (List ℕ)) → Finds told found → Some got ≡ option_map (take (2 ^ 25 + 1)) found → (found : Option (List ℕ)) × Finds told found × BootsFrom c found s
    go None f e = absurd cc
    go (Some bytes) f e =
        let cut : got ≡ take (2 ^ 25 + 1) bytes = cc in
        (Some bytes, f, (bytes, refl, subst (λ (l : List ℕ). Boots c l s) (whole most got bytes cut b.short) b))

longer : (limit : ℕ) (got bytes : List ℕ) → got ≡ take (limit + 1) bytes → limit < length got → limit < length bytes
longer limit got bytes cut more =
    elim (cases_lt limit (length bytes)) [
      | inl long ↦ long
      | inr less ↦
          let same : length got ≡ length bytes = ap length (cut ∙ take_all (limit + 1) bytes (omega arith)) in
          omega (arith, same, more)
    ]

refused_by : (c : ConfigData) (got bytes : List ℕ) (fault : LoadFault) → got ≡ take (2 ^ 25 + 1) bytes → image c.pages got ≡ Refuses fault → IsNoImage c bytes
refused_by c got bytes fault cut refuses =
    elim (cases_lt most (length bytes)) [
      | inl long ↦ inl long
      | inr less ↦
          let few : length bytes ≤ most = omega arith in
          inr (fault, subst (λ (l : List ℕ). image c.pages l ≡ Refuses fault) (all_read most got bytes cut few) refuses)
    ]

pub no_image_found : (told : Option (Option (List ℕ))) (got : List ℕ) (c : ConfigData) → IsReadOf (2 ^ 25) told (Some got) → IsNoImage c got → (found : Option (List ℕ)) × Finds told found × HasNoImage c found
no_image_found told got c r b = go r.0 r.1 r.2 b
  where
    go : (found : Option (List ℕ)) → Finds told found → Some got ≡ option_map (take (2 ^ 25 + 1)) found → IsNoImage c got → (found : Option (List ℕ)) × Finds told found × HasNoImage c found
    go None f e b = absurd cc
    go (Some bytes) f e (inl more) = let cut : got ≡ take (2 ^ 25 + 1) bytes = cc in (Some bytes, f, inl (longer most got bytes cut more))
    go (Some bytes) f e (inr refuses) = let cut : got ≡ take (2 ^ 25 + 1) bytes = cc in (Some bytes, f, refused_by c got bytes refuses.0 cut refuses.1)

pub missing_found : (limit : ℕ) (told : Option (Option (List ℕ))) → IsReadOf limit told None → Finds told None
missing_found limit told r = go r.0 r.1 r.2
  where
    go : (found : Option (List ℕ)) → Finds told found → None ≡ option_map (take (limit + 1)) found → Finds told None
    go None f e = f
    go (Some bytes) f e = absurd (let no : None ≡ Some (take (limit + 1) bytes) = e in cc)

-- under a name something is found
pub found_any : (told : Option (Option (List ℕ))) → (found : Option (List ℕ)) × Finds told found
found_any None = (None, tt)
found_any (Some was) = (was, refl)
