-- A roll that is made on an empty disk.
use Rattle.std.proofs.Common.{◌≡◌, inr, ℕ, ◌+◌, false, true, refl, sym, ◌∙◌, ap, subst, Option, None, Some, option_map, IfSome, List, [], ◌∷◌, ◌++◌, length, take, drop, arith, append_assoc, append-nil}
use Rattle.avm_outside.specs.Outside.{BothTold}
use Rattle.avm_outside.specs.Disk.{Only, overwritten}
use Rattle.hss_model.specs.Hss.{is_hss_key}
use Rattle.hss_model.specs.Roll.{RollData, roll_of, roll_mark, roll_bytes, roll_end}
use Rattle.hss_model.proofs.Rolls.{roll_again, shut_none}
use Rattle.lms_hss.specs.Own.{IsOwn}
use Rattle.lms_hss.proofs.Headers.{opened}

abbrev none_in : List ℕ → RollData
none_in key = record { key = key; bottoms = [] }

made : (key header behind : List ℕ) → header ≡ roll_mark ++ (key ++ 0 ∷ []) → is_hss_key key ≡ true → roll_of (header ++ behind) ≡ Some (none_in key)
unfolding roll_bytes
made key header behind is fits =
    let parts : header ++ behind ≡ (roll_mark ++ (key ++ [])) ++ (0 ∷ behind) =
    ap (λ (l : List ℕ). l ++ behind) is ∙ ap (λ (l : List ℕ). roll_mark ++ l) (append_assoc key (0 ∷ []) behind) ∙ ap (λ (l : List ℕ). roll_mark ++ (l ++ 0 ∷ behind)) (sym (append-nil key)) in
    roll_again (none_in key) (header ++ behind) (0 ∷ behind) (record { spelled = parts; fits = record { key = fits; keys = tt; few = omega arith }; ends = inr (shut_none 0 behind refl) })

pub made_own : (told mid now : Option (List ℕ)) (images : List ℕ → Type 0) (key header : List ℕ) (n : ℕ) → n ≡ 0 → IfSome told (λ was. n ≡ length was) → mid ≡ told → now ≡ option_map (overwritten 0 header) mid → IfSome now (λ x. Only x images)
    → header ≡ roll_mark ++ (key ++ 0 ∷ []) → is_hss_key key ≡ true → BothTold told now (λ was x. (length was ≡ 0) × IsOwn (opened key 0) images x (none_in key) × (false ≡ false))
made_own None mid now images key header n z len same written kept is fits = subst (λ (o : Option (List ℕ)). BothTold None o (λ was x. (length was ≡ 0) × IsOwn (opened key 0) images x (none_in key) × (false ≡ false))) (sym (written ∙ ap (option_map (overwritten 0 header)) same)) tt
made_own (Some was) mid now images key header n z len same written kept is fits =
    let e : now ≡ Some (header ++ drop (0 + length header) was) = written ∙ ap (option_map (overwritten 0 header)) same in
    let only : Only (header ++ drop (0 + length header) was) images = subst (λ (o : Option (List ℕ)). IfSome o (λ x. Only x images)) e kept in
    let r = made key header (drop (0 + length header) was) is fits in
    subst (λ (o : Option (List ℕ)). BothTold (Some was) o (λ was x. (length was ≡ 0) × IsOwn (opened key 0) images x (none_in key) × (false ≡ false))) (sym e) (
      sym len ∙ z,
      record {
        key = refl;
        count = refl;
        disk = record { read = r; left = λ c left. ap roll_of (only c left) ∙ r; same = λ c left. ap (λ (l : List ℕ). take 1 (drop (roll_end 0) l)) (only c left) };
      },
      refl,
    )
