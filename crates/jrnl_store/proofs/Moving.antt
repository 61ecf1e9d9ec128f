-- A cursor over the journal's own disk.
use Rattle.std.proofs.Common.{◌≡◌, ℕ, ◌+◌, ◌<◌, ◌≤◌, false, refl, sym, ◌∙◌, ap, subst, Option, None, Some, IfSome, List, [], ◌∷◌, ◌++◌, length, take, drop, get_or, Ok, arith, length-append, append_assoc}
use Rattle.std.specs.Int.{w32}
use Rattle.std.proofs.lemmas.List.{drop_at}
use Rattle.avm_num.specs.Lists.{be, sized_bytes}
use Rattle.journal_model.specs.Journal.{JournalData, is_open, items_at, HasRoom, joined, ended, Is}
use Rattle.journal_model.proofs.Gates.{front_goes, length_sized}
use Rattle.journal_model.proofs.Cursors.{cursor_end, cursor_next, cursor_some, cursor_shut}
use Rattle.jrnl_store.specs.Kept.{Kept}
use Rattle.jrnl_store.specs.Reading.{IsFound}
use Rattle.jrnl_store.specs.declared.reading.Found.{Found}
use Rattle.jrnl_store.specs.declared.reading.Found.TheVariants as found
use Rattle.jrnl_store.specs.Own.{IsAt, IsCursor, NextAnswers}

abbrev pub Moves : Kept → List ℕ → ℕ → ((i j : JournalData) → List ℕ → Type 0) → Type 0
Moves k was place P = (i j : JournalData) → (o : IsAt k was j) → ended j ≡ Is j → IsCursor place o.front i → P i j o.front

module _ (k : Kept) (was : List ℕ) (place : ℕ) (i j : JournalData) (o : IsAt k was j) (begun : ended j ≡ Is j) (c : IsCursor place o.front i) where
  tail_length : length c.tail + place ≡ k.gate
  tail_length = let l : length o.front ≡ length (c.front ++ c.tail) = ap length c.read in omega (arith, l, length-append c.front c.tail, c.at, o.place)

  whole : k.gate ≤ place → i ≡ j
  whole past = cursor_end i j c.front c.tail o.front c.stands o.stands c.read (empty c.tail (omega (arith, past, tail_length))) begun
    where
      empty : (l : List ℕ) → length l ≡ 0 → l ≡ []
      empty [] e = refl
      empty (b ∷ l) e = absurd (omega (arith, e))

  -- the gate at the cursor
  split : place < k.gate → (b : ℕ) × (ts : List ℕ) × (o.front ≡ c.front ++ b ∷ ts) × (drop place was ≡ b ∷ (ts ++ o.read.0 ∷ o.read.1))
  split lt = go c.tail c.read (omega (arith, lt, tail_length))
    where
      go : (tail : List ℕ) → o.front ≡ c.front ++ tail → 1 ≤ length tail → (b : ℕ) × (ts : List ℕ) × (o.front ≡ c.front ++ b ∷ ts) × (drop place was ≡ b ∷ (ts ++ o.read.0 ∷ o.read.1))
      go [] e some = absurd (omega (arith, some))
      go (b ∷ ts) e some =
          let bytes : was ≡ c.front ++ b ∷ (ts ++ o.read.0 ∷ o.read.1) = o.read.2 ∙ ap (λ (l : List ℕ). l ++ o.read.0 ∷ o.read.1) e ∙ append_assoc c.front (b ∷ ts) (o.read.0 ∷ o.read.1) in
          (b, ts, e, ap (drop place) bytes ∙ drop_at c.front (b ∷ (ts ++ o.read.0 ∷ o.read.1)) place c.at)

  shut : place < k.gate → is_open (drop place was) ≡ false → i ≡ j
  shut lt e = let s = split lt in cursor_shut i j c.front s.0 s.1 o.front c.stands o.stands s.2 begun (ap is_open (sym s.3) ∙ e)

  lacking : place < k.gate → (rest : List ℕ) → drop place was ≡ 1 ∷ rest → items_at place rest ≡ None → ⊥
  lacking lt rest e none =
      let s = split lt in
      let both : s.0 ∷ (s.1 ++ o.read.0 ∷ o.read.1) ≡ 1 ∷ rest = sym s.3 ∙ e in
      let one : s.0 ≡ 1 = ap (λ (l : List ℕ). get_or l 0 0) both in
      let behind : s.1 ++ o.read.0 ∷ o.read.1 ≡ rest = ap (drop 1) both in
      cursor_some i j c.front s.1 o.front o.read.0 o.read.1 c.stands o.stands (s.2 ∙ ap (λ (b : ℕ). c.front ++ b ∷ s.1) one) begun (ap (λ (l : List ℕ). items_at (length c.front) l) behind ∙ ap (λ (n : ℕ). items_at n rest) c.at ∙ none)

  moves : place < k.gate → (items : List ℕ) (b : ℕ) (rest : List ℕ) → drop place was ≡ 1 ∷ (sized_bytes (be w32) items ++ b ∷ rest) → HasRoom place items → (next : JournalData) × (joined i items ≡ Some next) × IsCursor (place + 5 + length items) o.front next
  moves lt items b rest e room =
      let s = split lt in
      let here : HasRoom (length c.front) items = subst (λ (n : ℕ). HasRoom n items) (sym c.at) room in
      let n = cursor_next i j c.front s.0 s.1 o.front (o.read.0 ∷ o.read.1) items b rest c.stands o.stands s.2 begun (sym s.3 ∙ e) here in (
        n.next,
        n.joins,
        record {
          front = c.front ++ 1 ∷ sized_bytes (be w32) items;
          tail = n.tail;
          at = omega (arith, length-append c.front (1 ∷ sized_bytes (be w32) items), length_sized items, c.at);
          stands = front_goes i n.next c.front items c.stands n.joins n.unmarked here;
          read = n.read;
        },
      )

pub at_end : (told : Option (List ℕ)) (k : Kept) (place : ℕ) → k.gate ≤ place → IfSome told (λ was. Moves k was place (λ i j whole. i ≡ j))
at_end None k place past = tt
at_end (Some was) k place past = λ i j o begun c. whole k was place i j o begun c past

pub at_shut : (told mid : Option (List ℕ)) (k : Kept) (place : ℕ) (buffer : List ℕ) (f : Found) → f ≡ found.Closed → mid ≡ told → place < k.gate → IfSome mid (λ was. IsFound f place buffer (drop place was)) → IfSome told (λ was. Moves k was place (λ i j whole. i ≡ j))
at_shut None mid k place buffer f is same lt h = tt
at_shut (Some was) mid k place buffer f is same lt h =
    let e : IsFound f place buffer (drop place was) = subst (λ (t : Option (List ℕ)). IfSome t (λ was. IsFound f place buffer (drop place was))) same h in
    λ i j o begun c. shut k was place i j o begun c lt (subst (λ (x : Found). IsFound x place buffer (drop place was)) is e)

pub at_lack : (told mid : Option (List ℕ)) (k : Kept) (place : ℕ) (buffer : List ℕ) (f : Found) → f ≡ found.Lacking → mid ≡ told → place < k.gate → IfSome mid (λ was. IsFound f place buffer (drop place was)) → IfSome told (λ was. Moves k was place (λ i j whole. i ≡ j))
at_lack None mid k place buffer f is same lt h = tt
at_lack (Some was) mid k place buffer f is same lt h =
    let e : IsFound f place buffer (drop place was) = subst (λ (t : Option (List ℕ)). IfSome t (λ was. IsFound f place buffer (drop place was))) same h in
    let l : IsFound found.Lacking place buffer (drop place was) = subst (λ (x : Found). IsFound x place buffer (drop place was)) is e in
    λ i j o begun c. absurd (lacking k was place i j o begun c lt l.0 l.1 l.2)

pub at_record : (told mid : Option (List ℕ)) (k : Kept) (place : ℕ) (buffer : List ℕ) (f : Found) (size : ℕ) → f ≡ found.Items size → mid ≡ told → place < k.gate → IfSome mid (λ was. IsFound f place buffer (drop place was))
    → IfSome told (λ was. Moves k was place (λ i j whole. NextAnswers place whole i j buffer (Ok (Some size))))
at_record None mid k place buffer f size is same lt h = tt
at_record (Some was) mid k place buffer f size is same lt h =
    let e : IsFound f place buffer (drop place was) = subst (λ (t : Option (List ℕ)). IfSome t (λ was. IsFound f place buffer (drop place was))) same h in
    let l : IsFound (found.Items size) place buffer (drop place was) = subst (λ (x : Found). IsFound x place buffer (drop place was)) is e in
    λ i j o begun c.
    let m = moves k was place i j o begun c lt (take size buffer) l.0 l.1 l.2 l.3 in
    (m.0, m.1, subst (λ (n : ℕ). IsCursor (place + 5 + n) o.front m.0) l.4 m.2)
