-- What the second reading puts together.
use Rattle.std.proofs.Common.{◌≡◌, ℕ, ◌+◌, ◌≤◌, ◌<◌, Bool, true, false, cond, nat_lt, ◌&&◌, List, [], ◌∷◌, ◌++◌, length, refl, sym, ap, subst, ◌∙◌, arith, append_assoc, append-nil}
use Rattle.std.specs.Prelude.{◌==◌, filter, flat_map, min, ◌⊎◌, OnOk, Result, Ok, Err}
use Rattle.std.specs.List.{AllByRecursion, list_any}
use Rattle.std.proofs.lemmas.Bool.{cases_lt}
use Rattle.std.proofs.lemmas.List.Elements.{filter-append}
use Rattle.std.proofs.Common.{inl, inr}
use Rattle.std.proofs.Math.Nat.{min-eq_left, min-eq_right}
use Rattle.std.specs.Int.{w32, w64}
use Rattle.avm_num.specs.Lists.{be, list_bytes}
use Rattle.avm_num.proofs.Lengths.{list_append}
use Rattle.avm_model.specs.Frame.{FrameData, frame_bytes}
use Rattle.avm_model.specs.Machine.{State}
use Rattle.avm_model.specs.declared.Peer.{Peer}
use Rattle.base_model.specs.Base.{carried_of, earlier, row_numbers}
use Rattle.journal_model.specs.Header.{CarriedData}
use Rattle.journal_model.specs.Journal.{JournalData}
use Rattle.journal_model.specs.Part.{KeepData}
use Rattle.journal_model.specs.Spelling.{carried_bytes}
use Rattle.journal_model.specs.Standing.{SignedData}
use Rattle.journal_spelling.specs.Spelled.{HasSpelling}
use Rattle.jrnl_part.specs.Carriage.{carried_signed}
use Rattle.jrnl_store.specs.Items.{ItemData, items_in, keep_item, seal_item}
use Rattle.open_pass.specs.Tickets.{AreSignedBy, IsOne, IsSignedBy}
use Rattle.open_pass.proofs.SignedItems.{signed_are}
use Rattle.rebut_pass.specs.Passing.{Takes}
use Rattle.record_model.specs.Released.{signed_entries}
use Rattle.base_carried.specs.Rows.{is_chosen}
use Rattle.base_carried.specs.Passes.{IsCarried, IsFound, IsShort, Picks, TakesAll, counted, one_more, picked}
use Rattle.base_carried.specs.declared.picking.Picking.{Picking}
use Rattle.base_carried.specs.declared.reading.Carried.{Carried}
use Rattle.base_carried.specs.declared.row.Row.{Row}
use Rattle.carried_laws.proofs.SignedFit.{frame_length}
use Rattle.base_carried.proofs.Shorts.{signed_short}

-- ---- counts

most_twice : (a b m : ℕ) → min (min a m + b) m ≡ min (a + b) m
most_twice a b m = go (cases_lt m a)
  where
    go : (m < a) ⊎ (a ≤ m) → min (min a m + b) m ≡ min (a + b) m
    go (inl lt) = ap (λ (n : ℕ). min (n + b) m) (min-eq_right (omega (arith, lt))) ∙ min-eq_right (omega arith) ∙ sym (min-eq_right (omega (arith, lt)))
    go (inr le) = ap (λ (n : ℕ). min (n + b) m) (min-eq_left le)

-- ---- one entry's bytes

pub entry_bytes : (old mid new : List ℕ) (leaf size : ℕ) (before : List ℕ) (f : FrameData) → size ≡ 13 + length f.content → mid ≡ old ++ (be w64 leaf ++ before ++ be w32 size) → new ≡ mid ++ frame_bytes f → new ≡ old ++ carried_bytes (record { leaf = leaf; before = before; frame = f })
unfolding carried_bytes
entry_bytes old mid new leaf size before f long a b =
    b ∙ ap (λ (l : List ℕ). l ++ frame_bytes f) a ∙ append_assoc old (be w64 leaf ++ before ++ be w32 size) (frame_bytes f)
    ∙ ap (λ (l : List ℕ). old ++ l) (regroup (be w64 leaf) before (be w32 size) (frame_bytes f) ∙ ap (λ (n : ℕ). be w64 leaf ++ before ++ (be w32 n ++ frame_bytes f)) (long ∙ sym (frame_length f)))
  where
    regroup : (x y z w : List ℕ) → (x ++ y ++ z) ++ w ≡ x ++ y ++ (z ++ w)
    regroup x y z w = simp append_assoc

abbrev made : ℕ → List ℕ → FrameData → CarriedData
made leaf before f = record { leaf = leaf; before = before; frame = f }

-- the one entry that a frame and a ticket tell
pub entry_is : (e : CarriedData) (f : FrameData) (s : SignedData) → e.frame ≡ f → carried_signed e ≡ s → made s.leaf s.before f ≡ e
entry_is e f s is signed =
    ap (λ (l : ℕ). made l s.before f) (sym (ap (λ (x : SignedData). x.leaf) signed))
    ∙ ap (λ (b : List ℕ). made e.leaf b f) (sym (ap (λ (x : SignedData). x.before) signed))
    ∙ ap (λ (g : FrameData). made e.leaf e.before g) (sym is)

-- ---- one item

-- an entry that isn't chosen
pub passes_one : (p : Picking) (f : FrameData) (s : SignedData) (es : List CarriedData) → is_chosen p.number p.rows.items f.seq ≡ false → IsOne f s es → TakesAll p p es
passes_one p f s es not o =
    let e = o.entry in
    let none : is_chosen p.number p.rows.items e.frame.seq ≡ false = ap (λ (g : FrameData). is_chosen p.number p.rows.items g.seq) o.frame ∙ not in
    record {
      bytes = sym (ap (λ (l : List CarriedData). p.bytes.items ++ list_bytes carried_bytes (picked p.number p.rows.items l)) o.only ∙ ap (λ (b : Bool). p.bytes.items ++ list_bytes carried_bytes (cond b (e ∷ []) [])) none ∙ append-nil p.bytes.items);
      count = sym (ap (λ (l : List CarriedData). counted p.number p.rows.items l p.count) o.only ∙ ap (λ (b : Bool). cond b (min (p.count + 1) 255) p.count) none);
    }

-- an entry whose content passes the limit isn't one
pub never_one : (old new : Picking) (f : FrameData) (s : SignedData) (es : List CarriedData) → 32768 < length f.content → IsOne f s es → AllByRecursion IsShort es → TakesAll old new es
never_one old new f s es long o short =
    let q : AllByRecursion IsShort (o.entry ∷ []) = subst (AllByRecursion IsShort) o.only short in
    let few = q.0 in
    let same : length o.entry.frame.content ≡ length f.content = ap (λ (g : FrameData). length g.content) o.frame in
    absurd (omega (arith, same, long, few))

-- an entry that is chosen
pub takes_one : (old new : Picking) (f : FrameData) (s : SignedData) (es : List CarriedData) → is_chosen old.number old.rows.items f.seq ≡ true → new.bytes.items ≡ old.bytes.items ++ carried_bytes (made s.leaf s.before f) → new.count ≡ min (old.count + 1) 255 → IsOne f s es → TakesAll old new es
takes_one old new f s es chosen bytes count o =
    let e = o.entry in
    let some : is_chosen old.number old.rows.items e.frame.seq ≡ true = ap (λ (g : FrameData). is_chosen old.number old.rows.items g.seq) o.frame ∙ chosen in
    record {
      bytes =
          bytes ∙ ap (λ (x : CarriedData). old.bytes.items ++ carried_bytes x) (entry_is e f s o.frame o.ticket)
          ∙ ap (λ (l : List ℕ). old.bytes.items ++ l) (sym (append-nil (carried_bytes e)))
          ∙ sym (ap (λ (l : List CarriedData). old.bytes.items ++ list_bytes carried_bytes (picked old.number old.rows.items l)) o.only ∙ ap (λ (b : Bool). old.bytes.items ++ list_bytes carried_bytes (cond b (e ∷ []) [])) some);
      count = count ∙ sym (ap (λ (l : List CarriedData). counted old.number old.rows.items l old.count) o.only ∙ ap (λ (b : Bool). cond b (min (old.count + 1) 255) old.count) some);
    }

pub takes_none : (old : Picking) (es : List CarriedData) → es ≡ [] → TakesAll old old es
takes_none old es e = record {
  bytes = sym (ap (λ (l : List CarriedData). old.bytes.items ++ list_bytes carried_bytes (picked old.number old.rows.items l)) e ∙ append-nil old.bytes.items);
  count = sym (ap (λ (l : List CarriedData). counted old.number old.rows.items l old.count) e);
}

on_ok : {T E P Q : Type 0} (r : Result T E) → (P → Q) → OnOk r P → OnOk r Q
on_ok (Ok t) f h = f h
on_ok (Err e) f h = tt

abbrev pub TakesBy : Picking → Picking → (List CarriedData → Type 0) → Type 0
TakesBy old new Signed = (es : List CarriedData) → Signed es → AllByRecursion IsShort es → TakesAll old new es

pub picks_as : {T E : Type 0} (r : Result T E) (old new : Picking) (x y : ItemData) → x ≡ y → new.number ≡ old.number → new.rows.items ≡ old.rows.items → OnOk r (TakesBy old new (IsSignedBy y)) → OnOk r (Picks old x new)
picks_as r old new x y e number rows h = on_ok r (λ (takes : TakesBy old new (IsSignedBy y)). record { number = number; rows = rows; takes = λ es o. takes es (subst (λ (z : ItemData). IsSignedBy z es) e o) }) h

pub picks_seal : (old : Picking) (x : ItemData) (s : SignedData) → x ≡ seal_item s → Picks old x old
picks_seal old x s e = record { number = refl; rows = refl; takes = λ es o short. takes_none old es (subst (λ (y : ItemData). IsSignedBy y es) e o) }

pub picks_keep : (old : Picking) (x : ItemData) (k : KeepData) → x ≡ keep_item k → Picks old x old
picks_keep old x k e = record { number = refl; rows = refl; takes = λ es o short. takes_none old es (subst (λ (y : ItemData). IsSignedBy y es) e o) }

-- ---- all items

record Picked (a b : Picking) (es : List CarriedData) : Type 0 where
  number : b.number ≡ a.number
  rows : b.rows.items ≡ a.rows.items
  bytes : b.bytes.items ≡ a.bytes.items ++ list_bytes carried_bytes (picked a.number a.rows.items es)
  count : b.count ≡ counted a.number a.rows.items es a.count

short_both : (a b : List CarriedData) → AllByRecursion IsShort (a ++ b) → AllByRecursion IsShort a × AllByRecursion IsShort b
short_both [] b h = (tt, h)
short_both (e ∷ a) b h = let t = short_both a b h.1 in ((h.0, t.0), t.1)

counted_both : (n : ℕ) (rows : List Row) (a b : List CarriedData) (c : ℕ) → counted n rows b (counted n rows a c) ≡ counted n rows (a ++ b) c
counted_both n rows [] b c = refl
counted_both n rows (e ∷ a) b c = counted_both n rows a b (one_more n rows e.frame.seq c)

picked_all : (xs : List ItemData) (a b : Picking) (es : List CarriedData) → Takes Picks a xs b → AreSignedBy xs es → AllByRecursion IsShort es → Picked a b es
picked_all [] a b es t q short = record {
  number = ap (λ (p : Picking). p.number) (sym t);
  rows = ap (λ (p : Picking). p.rows.items) (sym t);
  bytes = ap (λ (p : Picking). p.bytes.items) (sym t) ∙ sym (ap (λ (l : List CarriedData). a.bytes.items ++ list_bytes carried_bytes (picked a.number a.rows.items l)) q ∙ append-nil a.bytes.items);
  count = ap (λ (p : Picking). p.count) (sym t) ∙ sym (ap (λ (l : List CarriedData). counted a.number a.rows.items l a.count) q);
}
picked_all (x ∷ xs) a b es t q short =
    let u : Picking = t.0 in
    let first : Picks a x u = t.1 in
    let p : List CarriedData = q.0 in
    let r : List CarriedData = q.1 in
    let both = short_both p r (subst (AllByRecursion IsShort) q.2 short) in
    let h = picked_all xs u b r t.2 q.4 both.1 in
    let all : picked a.number a.rows.items es ≡ picked a.number a.rows.items p ++ picked a.number a.rows.items r = ap (picked a.number a.rows.items) q.2 ∙ filter-append (λ e. is_chosen a.number a.rows.items e.frame.seq) p r in
    let same : picked u.number u.rows.items r ≡ picked a.number a.rows.items r = ap (λ (n : ℕ). picked n u.rows.items r) first.number ∙ ap (λ (rows : List Row). picked a.number rows r) first.rows in
    record {
      number = h.number ∙ first.number;
      rows = h.rows ∙ first.rows;
      bytes =
          h.bytes
          ∙ ap (λ (l : List CarriedData). u.bytes.items ++ list_bytes carried_bytes l) same
          ∙ ap (λ (l : List ℕ). l ++ list_bytes carried_bytes (picked a.number a.rows.items r)) (first.takes p q.3 both.0).bytes
          ∙ append_assoc a.bytes.items (list_bytes carried_bytes (picked a.number a.rows.items p)) (list_bytes carried_bytes (picked a.number a.rows.items r))
          ∙ ap (λ (l : List ℕ). a.bytes.items ++ l) (sym (list_append carried_bytes (picked a.number a.rows.items p) (picked a.number a.rows.items r)))
          ∙ ap (λ (l : List CarriedData). a.bytes.items ++ list_bytes carried_bytes l) (sym all);
      count =
          h.count
          ∙ ap (λ (n : ℕ). counted n u.rows.items r u.count) first.number
          ∙ ap (λ (rows : List Row). counted a.number rows r u.count) first.rows
          ∙ ap (counted a.number a.rows.items r) (first.takes p q.3 both.0).count
          ∙ counted_both a.number a.rows.items p r a.count
          ∙ ap (λ (l : List CarriedData). counted a.number a.rows.items l a.count) (sym q.2);
    }

counted_is : (n : ℕ) (rows : List Row) (es : List CarriedData) (c : ℕ) → c ≤ 255 → counted n rows es c ≡ min (c + length (picked n rows es)) 255
counted_is n rows [] c le = sym (ap (λ (m : ℕ). min m 255) (omega arith) ∙ min-eq_left le)
counted_is n rows (e ∷ es) c le = go (is_chosen n rows e.frame.seq) (counted_is n rows es (min (c + 1) 255) (least (c + 1) 255)) (counted_is n rows es c le)
  where
    least : (a m : ℕ) → min a m ≤ m
    least a m = by (cases_lt m a)
      where
        by : (m < a) ⊎ (a ≤ m) → min a m ≤ m
        by (inl lt) = let e : min a m ≡ m = min-eq_right (omega (arith, lt)) in omega (arith, e)
        by (inr le) = let e : min a m ≡ a = min-eq_left le in omega (arith, e, le)

    go : (b : Bool) → counted n rows es (min (c + 1) 255) ≡ min (min (c + 1) 255 + length (picked n rows es)) 255 → counted n rows es c ≡ min (c + length (picked n rows es)) 255
        → counted n rows es (cond b (min (c + 1) 255) c) ≡ min (c + length (cond b (e ∷ picked n rows es) (picked n rows es))) 255
    go true more less = more ∙ most_twice (c + 1) (length (picked n rows es)) 255 ∙ ap (λ (m : ℕ). min m 255) (omega arith)
    go false more less = less

-- ---- in the definition's words

filter_both : (p q r : CarriedData → Bool) (xs : List CarriedData) → ((x : CarriedData) → (q x && p x) ≡ r x) → filter p (filter q xs) ≡ filter r xs
filter_both p q r [] h = refl
filter_both p q r (x ∷ xs) h = go (filter_both p q r xs h) (q x) refl
  where
    go : filter p (filter q xs) ≡ filter r xs → (b : Bool) → q x ≡ b → filter p (cond b (x ∷ filter q xs) (filter q xs)) ≡ cond (r x) (x ∷ filter r xs) (filter r xs)
    go more true e = let s : p x ≡ r x = ap (λ (c : Bool). c && p x) (sym e) ∙ h x in ap (λ (c : Bool). cond c (x ∷ filter p (filter q xs)) (filter p (filter q xs))) s ∙ ap (λ (l : List CarriedData). cond (r x) (x ∷ l) l) more
    go more false e = let s : false ≡ r x = ap (λ (c : Bool). c && p x) (sym e) ∙ h x in more ∙ ap (λ (c : Bool). cond c (x ∷ filter r xs) (filter r xs)) s

carried_is : (j : JournalData) (n : ℕ) (s : State) (rows : List Row) → IsFound j n s.devices.peers rows → carried_of j n s ≡ picked n rows (signed_entries j)
unfolding carried_of
carried_is j n s rows f =
    filter_both (λ e. list_any (λ m. m == e.frame.seq) (flat_map (row_numbers (earlier n j)) s.devices.peers)) (λ e. nat_lt e.frame.seq n) (λ e. is_chosen n rows e.frame.seq) (signed_entries j)
    (λ e. ap (λ (b : Bool). nat_lt e.frame.seq n && b) (sym (f e.frame.seq)))

pub is_carried : (j : JournalData) (n : ℕ) (ps : List Peer) (rows : List Row) (a b : Picking) (c : Carried) → HasSpelling j → IsFound j n ps rows → a.number ≡ n → a.rows.items ≡ rows → a.count ≡ 0 → a.bytes.items ≡ [] → Takes Picks a (items_in j) b → c.bytes.items ≡ b.bytes.items → c.count ≡ b.count → IsCarried j n ps c
is_carried j n ps rows a b c spelled f number is_rows none empty t bytes count =
    let h = picked_all (items_in j) a b (signed_entries j) t (signed_are j) (signed_short j spelled) in
    let at : picked a.number a.rows.items (signed_entries j) ≡ picked n rows (signed_entries j) = ap (λ (m : ℕ). picked m a.rows.items (signed_entries j)) number ∙ ap (λ (rs : List Row). picked n rs (signed_entries j)) is_rows in
    let few : counted a.number a.rows.items (signed_entries j) a.count ≡ min (0 + length (picked a.number a.rows.items (signed_entries j))) 255 = ap (counted a.number a.rows.items (signed_entries j)) none ∙ counted_is a.number a.rows.items (signed_entries j) 0 (omega arith) in
    record {
      bytes = λ s same.
          bytes ∙ h.bytes ∙ ap (λ (l : List ℕ). l ++ list_bytes carried_bytes (picked a.number a.rows.items (signed_entries j))) empty
          ∙ ap (list_bytes carried_bytes) (at ∙ sym (carried_is j n s rows (subst (λ (q : List Peer). IsFound j n q rows) (sym same) f)));
      count = λ s same.
          count ∙ h.count ∙ few
          ∙ ap (λ (m : ℕ). min m 255) (omega arith)
          ∙ ap (λ (l : List CarriedData). min (length l) 255) (at ∙ sym (carried_is j n s rows (subst (λ (q : List Peer). IsFound j n q rows) (sym same) f)));
    }
