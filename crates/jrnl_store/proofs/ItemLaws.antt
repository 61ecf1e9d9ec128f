-- The items of a record, one by one.
use Rattle.std.proofs.Common.{zero, suc, ◌≤◌, ◌&&◌, nat_lt, nat_le, cond, fold, ◌++◌, append-nil, leb-true, ltb-true, IsSome, All, ◌≡◌, ℕ, ◌+◌, ◌<◌, Bool, true, false, refl, sym, ◌∙◌, ap, subst, Option, None, Some, is_some, List, [], ◌∷◌, length, arith, IfSome}
use Rattle.std.specs.Iterator.{YieldsFirstBy, item_count, MakesProgress}
use Rattle.std.specs.List.{AllByRecursion}
use Rattle.std.proofs.lemmas.List.Elements.{All-from_recursion}
use Rattle.avm_num.specs.Bytes.{◌>>=◌, byte_at, kept}
use Rattle.avm_num.specs.Lists.{list_at, read_of}
use Rattle.avm_num.proofs.Fields.{list_zero, list_step, list_stops}
use Rattle.avm_num.proofs.Numbers.{and_true}
use Rattle.avm_model.specs.Basics.{flag}
use Rattle.avm_model.specs.Frame.{FrameData}
use Rattle.journal_model.specs.Header.{CarriedData, carried_at}
use Rattle.journal_model.specs.Journal.{follows}
use Rattle.jrnl_part.specs.Carriage.{carried_signed}
use Rattle.avm_num.specs.Walk.{items_of, behind_of, is_nil}
use Rattle.avm_num.proofs.Walks.{items_some, items_none}
use Rattle.journal_model.specs.Part.{Part, entry, seal, keep, part_at, signing, is_signed_kind}
use Rattle.journal_model.specs.Standing.{StandingData, SignedData, Bounds, IsLow, entry_signed, behind, judged, fits_part, snap_behind}
use Rattle.journal_model.proofs.Parts.{part_shortens, part_seq}
use Rattle.journal_model.proofs.Judging.{rest_judged, rest_goes, rest_stops, rest_ends, behind_low, used_fold}
use Rattle.jrnl_store.specs.Items.{ItemData, carried_item, are_whole, item_of, items_from, item_view, IsLowItem, all_low, read_low, carried_fit, carried_list, carried_items, carriage_fits, carriage_items, is_held}
use Rattle.jrnl_part.specs.Views.{standing_view}
use Rattle.jrnl_store.specs.declared.cursor.Record.{Record}
use Rattle.jrnl_store.specs.declared.items.Item.{Item}

-- a part of whole items fits, and the parts behind it are whole
pub fits_here : (b : Bounds) (s : StandingData) (snap : Option ℕ) (bytes : List ℕ) (p : Part) (rest : List ℕ) → part_at bytes ≡ Some (p, rest) → are_whole b s snap bytes ≡ true → fits_part b s snap p ≡ true
fits_here b s snap bytes p rest e whole = go (fits_part b s snap p) refl
  where
    go : (t : Bool) → fits_part b s snap p ≡ t → t ≡ true
    go true is = refl
    go false is = let none : is_some (rest_judged b s snap bytes) ≡ false = ap is_some (rest_stops b s snap bytes p rest e is) in let both : true ≡ false = sym whole ∙ none in absurd cc

pub whole_behind : (b : Bounds) (s t : StandingData) (snap next : Option ℕ) (bytes : List ℕ) (p : Part) (rest : List ℕ) → part_at bytes ≡ Some (p, rest) → t ≡ behind s p → next ≡ snap_behind p → are_whole b s snap bytes ≡ true → are_whole b t next rest ≡ true
whole_behind b s t snap next bytes p rest e is snap_is whole =
    rw (is, snap_is) (ap is_some (sym (rest_goes b s snap bytes p rest e (fits_here b s snap bytes p rest e whole))) ∙ whole)

pub low_behind : (b : Bounds) (s t : StandingData) (snap : Option ℕ) (bytes : List ℕ) (p : Part) (rest : List ℕ) → part_at bytes ≡ Some (p, rest) → t ≡ behind s p → are_whole b s snap bytes ≡ true → IsLow b s → IsLow b t
low_behind b s t snap bytes p rest e is whole low = rw is (behind_low b s snap p (fits_here b s snap bytes p rest e whole) (part_seq bytes (p, rest) e) low)

-- a call of next
pub none_yields : (s : StandingData) (bytes : List ℕ) → part_at bytes ≡ None → items_from s (items_of part_at bytes) ≡ []
none_yields s bytes e = ap (items_from s) (items_none part_at part_shortens bytes e)

pub some_yields : (s t : StandingData) (bytes rest : List ℕ) (p : Part) (x : ItemData) → part_at bytes ≡ Some (p, rest) → t ≡ behind s p → x ≡ item_of s p → items_from s (items_of part_at bytes) ≡ x ∷ items_from t (items_of part_at rest)
some_yields s t bytes rest p x e is item = rw (is, item) (ap (items_from s) (items_some part_at part_shortens bytes (p, rest) e))

pub progress : (can : List ItemData → Type 0) → ((t : List ItemData) → can t) → (r : Option Item) (old new : List ItemData) → YieldsFirstBy item_view (λ (s : List ItemData). s) old r new → MakesProgress can (item_count (λ (s : List ItemData). s)) old r new
progress can all None old new y = record { on = λ _. tt; keeps = tt; rests = λ _. tt }
progress can all (Some f) old new y =
    let n = ap length y in
    record { on = λ _. (all new, tt, omega arith); keeps = all new; rests = λ _. tt }

-- ---- carried entries

pub none_fit : (most : ℕ) (bytes : List ℕ) → carried_fit most 0 bytes ≡ true
none_fit most bytes = ap (read_low most) (list_zero carried_at bytes)

zero_list : (n : ℕ) (bytes : List ℕ) → n ≡ 0 → carried_list n bytes ≡ []
zero_list n bytes is = ap (λ (m : ℕ). carried_list m bytes) is ∙ ap (λ r. carried_items (read_of r)) (list_zero carried_at bytes)

-- without carried entries
pub zero_front : (n : ℕ) (bytes : List ℕ) (xs : List ItemData) → n ≡ 0 → carried_list n bytes ++ xs ≡ xs
zero_front n bytes xs is = ap (λ (l : List ItemData). l ++ xs) (zero_list n bytes is)

pub new_is : (carried view bytes : List ℕ) (s : StandingData) → view ≡ bytes → carried_list 0 carried ++ items_from s (items_of part_at view) ≡ items_from s (items_of part_at bytes)
new_is carried view bytes s is = zero_front 0 carried _ refl ∙ ap (λ (l : List ℕ). items_from s (items_of part_at l)) is

-- no parts are whole
none_at : part_at [] ≡ None
unfolding part_at
none_at = refl

pub nothing_whole : (b : Bounds) (s : StandingData) (bytes : List ℕ) → bytes ≡ [] → s.used ≤ b.most → are_whole b s None bytes ≡ true
nothing_whole b s bytes is low = ap (λ (l : List ℕ). is_some (rest_judged b s None l)) is ∙ ap is_some (rest_ends b s None [] none_at low)

pub nothing_given : (s : StandingData) → items_from s (items_of part_at []) ≡ []
nothing_given s = none_yields s [] none_at

-- behind the count
pub carriage_none : (most : ℕ) (bytes : List ℕ) → carriage_fits most bytes ≡ true → byte_at bytes ≡ None → ⊥
carriage_none most [] fits e = cc
carriage_none most (n ∷ bytes) fits e = cc

pub carriage_some : (most n : ℕ) (bytes rest : List ℕ) → byte_at bytes ≡ Some (n, rest) → carriage_fits most bytes ≡ true → carried_fit most n rest ≡ true
carriage_some most n [] rest e fits = absurd cc
carriage_some most n (m ∷ bytes) rest e fits = let g : (m, bytes) ≡ (n, rest) = cc in subst (λ (q : ℕ × List ℕ). carried_fit most q.0 q.1 ≡ true) g fits

pub carriage_value : (n : ℕ) (bytes rest view : List ℕ) (s : StandingData) → byte_at bytes ≡ Some (n, rest) → view ≡ [] → carried_list n rest ++ items_from s (items_of part_at view) ≡ carriage_items bytes
carriage_value n [] rest view s e none = absurd cc
carriage_value n (m ∷ bytes) rest view s e none =
    let g : (n, rest) ≡ (m, bytes) = cc in
    let nothing : items_from s (items_of part_at view) ≡ [] = ap (λ (l : List ℕ). items_from s (items_of part_at l)) none ∙ none_yields s [] none_at in
    ap (λ (l : List ItemData). carried_list n rest ++ l) nothing ∙ append-nil (carried_list n rest) ∙ ap (λ (q : ℕ × List ℕ). carried_list q.0 q.1) g

some_of : (most : ℕ) (r : Option (List CarriedData × List ℕ)) → read_low most r ≡ true → IsSome r
some_of most None e = absurd cc
some_of most (Some p) e = refl

-- the next of them
pub carried_none : (most n : ℕ) (bytes : List ℕ) → 0 < n → carried_at bytes ≡ None → carried_fit most n bytes ≡ true → ⊥
carried_none most zero bytes some e fits = omega (arith, some)
carried_none most (suc n) bytes some e fits = list_stops carried_at n bytes e (some_of most (list_at carried_at (suc n) bytes) fits)

low_tail : (most : ℕ) (c : CarriedData) (r : Option (List CarriedData × List ℕ)) (whole : Option (List CarriedData × List ℕ)) → read_of whole ≡ c ∷ read_of r → IsSome r → IsSome whole → read_low most whole ≡ true → (c.leaf < most) × (read_low most r ≡ true)
low_tail most c None whole is some all low = absurd (let no : false ≡ true = some in cc)
low_tail most c (Some p) None is some all low = absurd (let no : false ≡ true = all in cc)
low_tail most c (Some p) (Some q) is some all low = let t = and_true (nat_lt c.leaf most) (all_low most p.0) (ap (all_low most) (sym is) ∙ low) in (ltb-true _ _ t.0, t.1)

pub carried_next : (most n m : ℕ) (bytes rest : List ℕ) (c : CarriedData) → n ≡ suc m → carried_at bytes ≡ Some (c, rest) → carried_fit most n bytes ≡ true → (c.leaf < most) × (carried_fit most m rest ≡ true) × (carried_list n bytes ≡ carried_item c.frame (carried_signed c) ∷ carried_list m rest)
carried_next most n m bytes rest c is e fits =
    let here = ap (λ (k : ℕ). carried_fit most k bytes) (sym is) ∙ fits in
    let some = some_of most (list_at carried_at (suc m) bytes) here in
    let s = list_step carried_at m bytes (c, rest) e some in
    let t = low_tail most c (list_at carried_at m rest) (list_at carried_at (suc m) bytes) s.0 s.1 some here in
    (t.0, t.1, ap (λ (k : ℕ). carried_list k bytes) is ∙ ap carried_items s.0)

pub carried_yields : (most n m : ℕ) (bytes rest : List ℕ) (c : CarriedData) (t : SignedData) (xs : List ItemData) → t ≡ carried_signed c → n ≡ suc m → carried_at bytes ≡ Some (c, rest) → carried_fit most n bytes ≡ true
    → carried_list n bytes ++ xs ≡ carried_item c.frame t ∷ (carried_list m rest ++ xs)
carried_yields most n m bytes rest c t xs ticket is e fits =
    ap (λ (l : List ItemData). l ++ xs) (carried_next most n m bytes rest c is e fits).2 ∙ ap (λ (s : SignedData). carried_item c.frame s ∷ (carried_list m rest ++ xs)) (sym ticket)

-- the next part, behind all of them
pub part_yields : (n : ℕ) (bytes : List ℕ) {x : ItemData} {xs ys : List ItemData} → n ≡ 0 → xs ≡ x ∷ ys → carried_list n bytes ++ xs ≡ x ∷ (carried_list n bytes ++ ys)
part_yields n bytes {x} {xs} {ys} nothing is = zero_front n bytes xs nothing ∙ is ∙ ap (λ (l : List ItemData). x ∷ l) (sym (zero_front n bytes ys nothing))

-- ---- the leaves of items

low_entry : (most used leaf : ℕ) (sign : Bool) (f : FrameData) (x : SignedData) → x.leaf ≡ used → used + flag sign ≤ most → IfSome (cond sign (Some x) None) (λ (s : SignedData). s.leaf < most)
low_entry most used leaf true f x is le = omega (arith, is, le)
low_entry most used leaf false f x is le = tt

items_low : (most : ℕ) (s : StandingData) (ps : List Part) → (fold behind s ps).used ≤ most → AllByRecursion (IsLowItem most) (items_from s ps)
items_low most s [] le = tt
items_low most s (entry f ∷ ps) le =
    let up = used_fold (behind s (entry f)) ps in
    (low_entry most s.used 0 (is_signed_kind f.kind) f (entry_signed s f) refl (omega (arith, up, le)), items_low most (behind s (entry f)) ps le)
items_low most s (seal ∷ ps) le =
    let up = used_fold (behind s seal) ps in
    (omega (arith, up, le), items_low most (behind s seal) ps le)
items_low most s (keep k ∷ ps) le = (tt, items_low most s ps le)

carried_low : (most : ℕ) (cs : List CarriedData) → all_low most cs ≡ true → AllByRecursion (IsLowItem most) (carried_items cs)
carried_low most [] e = tt
carried_low most (c ∷ cs) e = let t = and_true (nat_lt c.leaf most) (all_low most cs) e in (ltb-true _ _ t.0, carried_low most cs t.1)

pub record_low : (b : Bounds) (s : StandingData) (bytes : List ℕ) → are_whole b s None bytes ≡ true → All (IsLowItem b.most) (items_from s (items_of part_at bytes))
record_low b s bytes whole = All-from_recursion (IsLowItem b.most) (items_from s (items_of part_at bytes)) (items_low b.most s (items_of part_at bytes) (go (is_nil (behind_of part_at bytes)) whole))
  where
    inner : (t : Bool) → is_some (kept (t && nat_le (s.used + signing (items_of part_at bytes)) b.most) (fold behind s (items_of part_at bytes))) ≡ true → (fold behind s (items_of part_at bytes)).used ≤ b.most
    inner false e = absurd cc
    inner true e = last (nat_le (s.used + signing (items_of part_at bytes)) b.most) refl e
      where
        last : (t : Bool) → nat_le (s.used + signing (items_of part_at bytes)) b.most ≡ t → is_some (kept t (fold behind s (items_of part_at bytes))) ≡ true → (fold behind s (items_of part_at bytes)).used ≤ b.most
        last true le e = let h = leb-true _ _ le in omega (arith, h, used_fold s (items_of part_at bytes))
        last false le e = absurd cc

    go : (t : Bool) → is_some (kept t (items_of part_at bytes) >>= λ ps. judged b s None ps) ≡ true → (fold behind s (items_of part_at bytes)).used ≤ b.most
    go false e = absurd cc
    go true e = inner (follows b.first b.pages s.next None (items_of part_at bytes)) e

pub carriage_low : (most : ℕ) (bytes : List ℕ) → carriage_fits most bytes ≡ true → All (IsLowItem most) (carriage_items bytes)
carriage_low most [] e = absurd cc
carriage_low most (n ∷ bytes) e = All-from_recursion (IsLowItem most) (carried_list n bytes) (go (list_at carried_at n bytes) e)
  where
    go : (r : Option (List CarriedData × List ℕ)) → read_low most r ≡ true → AllByRecursion (IsLowItem most) (carried_items (read_of r))
    go None e = absurd cc
    go (Some p) e = carried_low most p.0 e

-- what a buffer holds
pub held_carriage : (b : Bounds) (r : Record) (bytes slice : List ℕ) (most : ℕ) (given : List ItemData) → r.carried ≡ true → is_held b r bytes ≡ true → slice ≡ bytes → given ≡ carriage_items slice → b.most ≡ most → All (IsLowItem most) given
held_carriage b r bytes slice most given is whole same value tree =
    let fits : carriage_fits b.most bytes ≡ true = ap (λ (t : Bool). cond t (carriage_fits b.most bytes) (are_whole b (standing_view r.stand) None bytes)) (sym is) ∙ whole in
    rw (value, same, ← tree) (carriage_low b.most bytes fits)

pub held_record : (b : Bounds) (r : Record) (bytes slice : List ℕ) (most : ℕ) (given : List ItemData) → r.carried ≡ false → is_held b r bytes ≡ true → slice ≡ bytes → given ≡ items_from (standing_view r.stand) (items_of part_at slice) → b.most ≡ most → All (IsLowItem most) given
held_record b r bytes slice most given is whole same value tree =
    let fits : are_whole b (standing_view r.stand) None bytes ≡ true = ap (λ (t : Bool). cond t (carriage_fits b.most bytes) (are_whole b (standing_view r.stand) None bytes)) (sym is) ∙ whole in
    rw (value, same, ← tree) (record_low b (standing_view r.stand) bytes fits)
