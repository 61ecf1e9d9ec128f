-- Records, one after another.
use Rattle.std.proofs.Common.{◌≡◌, ℕ, ◌+◌, ◌^◌, ◌≤◌, ◌==◌, Bool, true, false, suc, List, [], ◌∷◌, ◌++◌, length, take, drop, Option, Some, None, is_some, IfSome, refl, sym, ap, subst, ◌∙◌, arith, append_assoc, append-nil}
use Rattle.std.proofs.Math.Seq.{drop-append_seam, take-append_seam}
use Rattle.std.proofs.lemmas.List.{length-append, length-drop, drop-drop}
use Rattle.std.specs.Int.{w32}
use Rattle.avm_num.specs.Lists.{be}
use Rattle.avm_num.proofs.Lengths.{be32, list_append}
use Rattle.base_model.specs.Base.{from_entry, records_from}
use Rattle.journal_model.specs.Part.{Part}
use Rattle.journal_model.specs.Spelling.{mark_bytes, parts_bytes, record_bytes}
use Rattle.journal_spelling.specs.Spelled.{FitsRecord}
use Rattle.journal_spelling.proofs.Gates.{length_record}
use Rattle.base_records.specs.Records.{IsAll, Stand, found_in, record_on, records_bytes, records_on, size_in, tail_in}
use Rattle.base_records.proofs.Gates.{record_size, end_size, shown}

-- ---- reading a record

abbrev pub IsGiven : List ℕ → ℕ → Option ℕ → List ℕ → Type 0
IsGiven room at o was =
    (ps : List Part) (more : List ℕ) → FitsRecord ps → drop at was ≡ record_bytes (parts_bytes ps) ++ more → (o ≡ Some (length (parts_bytes ps))) × (take (length (parts_bytes ps)) room ≡ parts_bytes ps)

abbrev pub IsEnd : ℕ → Option ℕ → List ℕ → Type 0
IsEnd at o was = (mark : Option ℕ) (gate : ℕ) (rest : List ℕ) → (gate == 1) ≡ false → drop at was ≡ mark_bytes mark ++ gate ∷ rest → o ≡ None

never : {X : Type 0} (n : ℕ) → ◌≡◌ {A = Option ℕ} None (Some n) → X
never n e = absurd cc

size_here : (at : ℕ) (was : List ℕ) (o : Option ℕ) (ps : List Part) (more : List ℕ) → o ≡ size_in (take 6 (drop at was)) → FitsRecord ps → drop at was ≡ record_bytes (parts_bytes ps) ++ more → o ≡ Some (length (parts_bytes ps))
size_here at was o ps more size fits is = size ∙ ap (λ (l : List ℕ). size_in (take 6 l)) is ∙ record_size ps more fits

pub none_given : (told : Option (List ℕ)) (at : ℕ) (room : List ℕ) → IfSome told (λ was. None ≡ size_in (take 6 (drop at was))) → IfSome told (IsGiven room at None)
none_given None at room t = tt
none_given (Some was) at room t = λ ps more fits is. never (length (parts_bytes ps)) (size_here at was None ps more t fits is)

items_there : (at : ℕ) (was : List ℕ) (ps : List Part) (more : List ℕ) → drop at was ≡ record_bytes (parts_bytes ps) ++ more → (at + 5 + length (parts_bytes ps) ≤ length was) × (take (length (parts_bytes ps)) (drop (at + 5) was) ≡ parts_bytes ps)
items_there at was ps more is =
    let items = parts_bytes ps in
    let n = be32 (length items) in
    let whole : drop at was ≡ (1 ∷ be w32 (length items)) ++ (items ++ more) = is ∙ ap (λ (l : List ℕ). l ++ more) (shown items) ∙ ap (λ (l : List ℕ). 1 ∷ l) (append_assoc (be w32 (length items)) items more) in
    let long = ap length whole in
    let a = length-drop at was in
    let b = length-append (be w32 (length items)) (items ++ more) in
    let d = length-append items more in
    let five : length (1 ∷ be w32 (length items)) ≡ 5 = ap (λ (k : ℕ). suc k) n in
    let behind : drop (at + 5) was ≡ items ++ more = sym (drop-drop 5 at was) ∙ ap (drop 5) whole ∙ subst (λ (k : ℕ). drop k ((1 ∷ be w32 (length items)) ++ (items ++ more)) ≡ items ++ more) five (drop-append_seam (1 ∷ be w32 (length items)) (items ++ more)) in
    (omega (arith, long, a, b, d, n), ap (take (length items)) behind ∙ take-append_seam items more)

pub some_given : (told mid : Option (List ℕ)) (at size : ℕ) (room : List ℕ) → mid ≡ told → IfSome told (λ was. Some size ≡ size_in (take 6 (drop at was))) → IfSome mid (λ was. at + 5 + size ≤ length was → take size room ≡ take size (drop (at + 5) was)) → IfSome told (IsGiven room at (Some size))
some_given None mid at size room same t filled = tt
some_given (Some was) mid at size room same t filled = λ ps more fits is.
    let e = size_here at was (Some size) ps more t fits is in
    let n : size ≡ length (parts_bytes ps) = inner size _ e in
    let here = items_there at was ps more is in
    let f : at + 5 + size ≤ length was → take size room ≡ take size (drop (at + 5) was) = subst (λ (o : Option (List ℕ)). IfSome o (λ was. at + 5 + size ≤ length was → take size room ≡ take size (drop (at + 5) was))) same filled in
    (e, subst (λ (k : ℕ). take k room ≡ parts_bytes ps) n (f (omega (arith, n, here.0)) ∙ ap (λ (k : ℕ). take k (drop (at + 5) was)) n ∙ here.1))
  where
    inner : (x y : ℕ) → Some x ≡ Some y → x ≡ y
    inner x y h = cc

pub some_end : (told : Option (List ℕ)) (at size : ℕ) → IfSome told (λ was. Some size ≡ size_in (take 6 (drop at was))) → IfSome told (IsEnd at (Some size))
some_end None at size t = tt
some_end (Some was) at size t = λ mark gate rest shut is. t ∙ ap (λ (l : List ℕ). size_in (take 6 l)) is ∙ end_size mark gate rest shut

-- ---- adding a record

pub one_record : (ps : List Part) → records_bytes (ps ∷ []) ≡ record_bytes (parts_bytes ps)
one_record ps = append-nil (record_bytes (parts_bytes ps))

pub found_next : (found : Bool) (n : ℕ) (ps : List Part) (rs : List (List Part)) → records_on found n (ps ∷ rs) ≡ record_on found n ps ++ records_on (found_in found n ps) n rs
found_next true n ps rs = refl
found_next false n ps rs = go (from_entry n ps) refl
  where
    go : (o : Option (List Part)) → from_entry n ps ≡ o → records_from n (ps ∷ rs) ≡ tail_in (from_entry n ps) ++ records_on (is_some (from_entry n ps)) n rs
    go None e = rw e refl
    go (Some qs) e = rw e refl

-- ---- the records that are left

pub stand_on : (at : ℕ) (was : List ℕ) (ps : List Part) (rs : List (List Part)) → Stand at was (ps ∷ rs) → Stand (at + 5 + length (parts_bytes ps)) was rs
stand_on at was ps rs s =
    let front = record_bytes (parts_bytes ps) in
    let n : length front ≡ 5 + length (parts_bytes ps) = length_record (parts_bytes ps) in
    let tail = mark_bytes s.mark ++ s.gate ∷ s.rest in
    let whole : drop at was ≡ front ++ (records_bytes rs ++ tail) = (let w : drop at was ≡ (front ++ records_bytes rs) ++ tail = s.bytes in w ∙ append_assoc front (records_bytes rs) tail) in
    let behind : drop (at + 5 + length (parts_bytes ps)) was ≡ records_bytes rs ++ tail =
    ap (λ (k : ℕ). drop k was) (omega (arith, n)) ∙ sym (drop-drop (length front) at was) ∙ ap (drop (length front)) whole ∙ drop-append_seam front (records_bytes rs ++ tail) in
    record {
      mark = s.mark;
      gate = s.gate;
      rest = s.rest;
      bytes = behind;
      shut = s.shut;
      fit = s.fit.1;
      below = let b = s.below in omega (arith, b, n, length-append front (records_bytes rs));
    }

-- the record that stands there
stand_here : (at : ℕ) (was : List ℕ) (ps : List Part) (rs : List (List Part)) (s : Stand at was (ps ∷ rs)) → drop at was ≡ record_bytes (parts_bytes ps) ++ (records_bytes rs ++ (mark_bytes s.mark ++ s.gate ∷ s.rest))
stand_here at was ps rs s =
    let w : drop at was ≡ (record_bytes (parts_bytes ps) ++ records_bytes rs) ++ (mark_bytes s.mark ++ s.gate ∷ s.rest) = s.bytes in
    w ∙ append_assoc (record_bytes (parts_bytes ps)) (records_bytes rs) (mark_bytes s.mark ++ s.gate ∷ s.rest)

-- what was added, and what the records from this place on add
pub record Rest (n at : ℕ) (rs : List (List Part)) (found : Bool) (bytes was : List ℕ) : Type 0 where
  pub left : List (List Part)
  pub stand : Stand at was left
  pub bytes_are : records_bytes (records_from n rs) ≡ bytes ++ records_bytes (records_on found n left)

abbrev pub Going : ℕ → ℕ → ℕ → Bool → List ℕ → List ℕ → Type 0
Going n first at found bytes was = (rs : List (List Part)) → Stand first was rs → Rest n at rs found bytes was

pub going_first : (told : Option (List ℕ)) (n at : ℕ) (bytes : List ℕ) → bytes ≡ [] → IfSome told (Going n at at false bytes)
going_first None n at bytes none = tt
going_first (Some was) n at bytes none = λ rs stand. record { left = rs; stand = stand; bytes_are = ap (λ (l : List ℕ). l ++ records_bytes (records_from n rs)) (sym none) }

-- one record more
record IsAdded (n : ℕ) (items : List ℕ) (found next : Bool) (bytes more : List ℕ) : Type 0 where
  found_is : (ps : List Part) → FitsRecord ps → items ≡ parts_bytes ps → next ≡ found_in found n ps
  bytes_are : (ps : List Part) → FitsRecord ps → items ≡ parts_bytes ps → more ≡ bytes ++ records_bytes (record_on found n ps)

rest_on : (n at size : ℕ) (was room : List ℕ) (found next : Bool) (bytes more : List ℕ) → IsGiven room at (Some size) was → IsEnd at (Some size) was → IsAdded n (take size room) found next bytes more
    → (rs : List (List Part)) → Rest n at rs found bytes was → Rest n (at + (5 + size)) rs next more was
rest_on n at size was room found next bytes more given end added rs r = go r.left r.stand r.bytes_are
  where
    go : (left : List (List Part)) → Stand at was left → records_bytes (records_from n rs) ≡ bytes ++ records_bytes (records_on found n left) → Rest n (at + (5 + size)) rs next more was
    go [] s e = never size (sym (end s.mark s.gate s.rest s.shut s.bytes))
    go (ps ∷ later) s e =
        let g = given ps (records_bytes later ++ (mark_bytes s.mark ++ s.gate ∷ s.rest)) s.fit.0 (stand_here at was ps later s) in
        let k : size ≡ length (parts_bytes ps) = inner size _ g.0 in
        let items : take size room ≡ parts_bytes ps = ap (λ (m : ℕ). take m room) k ∙ g.1 in
        let f = added.found_is ps s.fit.0 items in
        let b = added.bytes_are ps s.fit.0 items in
        record {
          left = later;
          stand = subst (λ (m : ℕ). Stand m was later) (omega (arith, k)) (stand_on at was ps later s);
          bytes_are = e ∙ ap (λ (l : List (List Part)). bytes ++ records_bytes l) (found_next found n ps later)
              ∙ ap (λ (l : List ℕ). bytes ++ l) (list_append (λ (xs : List Part). record_bytes (parts_bytes xs)) (record_on found n ps) (records_on (found_in found n ps) n later))
              ∙ sym (append_assoc bytes (records_bytes (record_on found n ps)) (records_bytes (records_on (found_in found n ps) n later)))
              ∙ ap (λ (l : List ℕ). l ++ records_bytes (records_on (found_in found n ps) n later)) (sym b)
              ∙ ap (λ (o : Bool). more ++ records_bytes (records_on o n later)) (sym f);
        }
      where
        inner : (x y : ℕ) → Some x ≡ Some y → x ≡ y
        inner x y h = cc

pub going_on : (told mid : Option (List ℕ)) (n first at size : ℕ) (room : List ℕ) (found next : Bool) (bytes more : List ℕ) → mid ≡ told → IfSome mid (IsGiven room at (Some size)) → IfSome mid (IsEnd at (Some size))
    → ((ps : List Part) → FitsRecord ps → take size room ≡ parts_bytes ps → next ≡ found_in found n ps) → ((ps : List Part) → FitsRecord ps → take size room ≡ parts_bytes ps → more ≡ bytes ++ records_bytes (record_on found n ps))
    → IfSome told (Going n first at found bytes) → IfSome told (Going n first (at + (5 + size)) next more)
going_on None mid n first at size room found next bytes more same given end f b going = tt
going_on (Some was) mid n first at size room found next bytes more same given end f b going = λ rs stand.
    rest_on n at size was room found next bytes more (subst (λ (o : Option (List ℕ)). IfSome o (IsGiven room at (Some size))) same given) (subst (λ (o : Option (List ℕ)). IfSome o (IsEnd at (Some size))) same end) (record { found_is = f; bytes_are = b }) rs (going rs stand)

rest_ends : (n at : ℕ) (was room : List ℕ) (found : Bool) (bytes : List ℕ) → IsGiven room at None was → (rs : List (List Part)) → Rest n at rs found bytes was → bytes ≡ records_bytes (records_from n rs)
rest_ends n at was room found bytes given rs r = go r.left r.stand r.bytes_are
  where
    nothing : (b : Bool) → records_on b n [] ≡ []
    nothing true = refl
    nothing false = refl

    go : (left : List (List Part)) → Stand at was left → records_bytes (records_from n rs) ≡ bytes ++ records_bytes (records_on found n left) → bytes ≡ records_bytes (records_from n rs)
    go [] s e = sym (e ∙ ap (λ (l : List (List Part)). bytes ++ records_bytes l) (nothing found) ∙ append-nil bytes)
    go (ps ∷ later) s e = never (length (parts_bytes ps)) (given ps (records_bytes later ++ (mark_bytes s.mark ++ s.gate ∷ s.rest)) s.fit.0 (stand_here at was ps later s)).0

pub going_ends : (told mid : Option (List ℕ)) (n first at : ℕ) (room : List ℕ) (found : Bool) (bytes : List ℕ) → mid ≡ told → IfSome mid (IsGiven room at None) → IfSome told (Going n first at found bytes) → IfSome told (IsAll n first bytes)
going_ends None mid n first at room found bytes same given going = tt
going_ends (Some was) mid n first at room found bytes same given going = λ rs stand. rest_ends n at was room found bytes (subst (λ (o : Option (List ℕ)). IfSome o (IsGiven room at None)) same given) rs (going rs stand)

-- no records stand past the limit
pub going_past : (told : Option (List ℕ)) (n first at : ℕ) (found : Bool) (bytes : List ℕ) → 2 ^ 30 ≤ at → IfSome told (Going n first at found bytes) → IfSome told (IsAll n first bytes)
going_past None n first at found bytes far going = tt
going_past (Some was) n first at found bytes far going = λ rs stand. let r = going rs stand in let b = r.stand.below in absurd (omega (arith, far, b))
