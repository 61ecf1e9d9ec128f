-- What stands at a gate.
use Rattle.std.proofs.Common.{◌≡◌, ℕ, ◌+◌, ◌^◌, ◌<◌, ◌≤◌, ◌==◌, ◌&&◌, not, nat_le, false, List, [], ◌∷◌, ◌++◌, length, take, Option, Some, None, refl, sym, ap, subst, ◌∙◌, arith, append_assoc, le-leb}
use Rattle.std.proofs.Math.Seq.{take-append-add}
use Rattle.std.specs.Int.{w32}
use Rattle.avm_num.specs.Bytes.{◌>>=◌, byte_at, kept, number_at}
use Rattle.avm_num.specs.Lists.{be}
use Rattle.avm_num.proofs.Fields.{reads_32}
use Rattle.avm_num.proofs.Lengths.{be32, be64}
use Rattle.avm_model.specs.Frame.{frame_bytes}
use Rattle.journal_model.specs.Journal.{longest_record}
use Rattle.journal_model.specs.Part.{Part, entry, seal, keep}
use Rattle.journal_model.specs.Spelling.{mark_bytes, mark_items, part_bytes, parts_bytes, record_bytes}
use Rattle.journal_spelling.specs.Spelled.{FitsRecord, Begins}
use Rattle.base_records.specs.Records.{size_in}

pub shown : (items : List ℕ) → record_bytes items ≡ 1 ∷ (be w32 (length items) ++ items)
unfolding record_bytes
shown items = refl

read_front : (b size : ℕ) → size < 2 ^ 32 → size_in (1 ∷ (be w32 size ++ b ∷ [])) ≡ kept (not (b == 4) && nat_le size longest_record) size
unfolding size_in
read_front b size small = rw (reads_32.again size (b ∷ []) small) refl

-- the first six bytes of a record
front_is : (b : ℕ) (items more : List ℕ) → take 6 (record_bytes (b ∷ items) ++ more) ≡ 1 ∷ (be w32 (length (b ∷ items)) ++ b ∷ [])
front_is b items more =
    let n = be32 (length (b ∷ items)) in
    let t : take (length (be w32 (length (b ∷ items))) + 1) (be w32 (length (b ∷ items)) ++ (b ∷ items ++ more)) ≡ be w32 (length (b ∷ items)) ++ b ∷ [] = take-append-add (be w32 (length (b ∷ items))) (b ∷ items ++ more) 1 in
    let u : take 5 (be w32 (length (b ∷ items)) ++ (b ∷ items ++ more)) ≡ be w32 (length (b ∷ items)) ++ b ∷ [] = subst (λ (k : ℕ). take k (be w32 (length (b ∷ items)) ++ (b ∷ items ++ more)) ≡ be w32 (length (b ∷ items)) ++ b ∷ []) (ap (λ (k : ℕ). k + 1) n) t in
    ap (λ (l : List ℕ). take 6 (l ++ more)) (shown (b ∷ items)) ∙ ap (λ (l : List ℕ). 1 ∷ take 5 l) (append_assoc (be w32 (length (b ∷ items))) (b ∷ items) more) ∙ ap (λ (l : List ℕ). 1 ∷ l) u

-- a record's items don't begin as a mark
record First (items : List ℕ) : Type 0 where
  head : ℕ
  tail : List ℕ
  is : items ≡ head ∷ tail
  other : (head == 4) ≡ false

first_of : (ps : List Part) → Begins ps → First (parts_bytes ps)
unfolding part_bytes
first_of [] begins = absurd begins
first_of (entry f ∷ ps) begins = record { head = 1; tail = frame_bytes f ++ parts_bytes ps; is = refl; other = refl }
first_of (seal ∷ ps) begins = record { head = 2; tail = parts_bytes ps; is = refl; other = refl }
first_of (keep k ∷ ps) begins = absurd begins

pub record_size : (ps : List Part) (more : List ℕ) → FitsRecord ps → size_in (take 6 (record_bytes (parts_bytes ps) ++ more)) ≡ Some (length (parts_bytes ps))
record_size ps more fits =
    let f = first_of ps fits.begins in
    go (parts_bytes ps) f fits.short
  where
    go : (items : List ℕ) (f : First items) → length items ≤ longest_record → size_in (take 6 (record_bytes items ++ more)) ≡ Some (length items)
    go items f short =
        subst (λ (l : List ℕ). length l ≤ longest_record → size_in (take 6 (record_bytes l ++ more)) ≡ Some (length l)) (sym f.is)
        (λ s. ap size_in (front_is f.head f.tail more) ∙ read_front f.head (length (f.head ∷ f.tail)) (omega (arith, s)) ∙ rw (f.other, le-leb (length (f.head ∷ f.tail)) longest_record s) refl) short

mark_none : (m : ℕ) (more : List ℕ) → size_in (take 6 (record_bytes (mark_items m) ++ more)) ≡ None
mark_none m more = ap size_in (front_is 4 _ more) ∙ read_front 4 (length (mark_items m)) (rw (be64_of m) (omega arith))
  where
    be64_of : (n : ℕ) → length (mark_items n) ≡ 9
    be64_of n = omega (arith, be64 n)

shut_size : (gate : ℕ) (more : List ℕ) → (gate == 1) ≡ false → (size_in (gate ∷ more)) ≡ None
unfolding size_in
shut_size gate more shut = sized (number_at w32 more)
  where
    tagged : (size : ℕ) (o : Option (ℕ × List ℕ)) → (o >>= λ t. kept (gate == 1 && not (t.0 == 4) && nat_le size longest_record) size) ≡ None
    tagged size None = refl
    tagged size (Some t) = rw shut refl

    sized : (o : Option (ℕ × List ℕ)) → (o >>= λ s. byte_at s.1 >>= λ t. kept (gate == 1 && not (t.0 == 4) && nat_le s.0 longest_record) s.0) ≡ None
    sized None = refl
    sized (Some s) = tagged s.0 (byte_at s.1)

pub end_size : (mark : Option ℕ) (gate : ℕ) (rest : List ℕ) → (gate == 1) ≡ false → size_in (take 6 (mark_bytes mark ++ gate ∷ rest)) ≡ None
end_size None gate rest shut = shut_size gate (take 5 rest) shut
end_size (Some m) gate rest shut = mark_none m (gate ∷ rest)
