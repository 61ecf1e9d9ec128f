-- What acts add to a batch: it goes on from the journal, signs at most once, and has few entries.
use Rattle.std.proofs.Common.{◌≡◌, ℕ, ◌+◌, ◌≤◌, ◌<◌, Bool, true, false, List, [], ◌∷◌, ◌++◌, length, map, take, Some, None, Option, ◌⊎◌, inl, inr, refl, sym, ap, subst, ◌∙◌, arith, ne_eqb, lt-ltb}
use Rattle.std.specs.Prelude.{◌==◌, ◌&&◌, fold}
use Rattle.std.proofs.lemmas.Bool.{and_from, eq-eqb, ltb-false}
use Rattle.std.proofs.lemmas.List.{length-append}
use Rattle.avm_num.specs.Walk.{items_of}
use Rattle.avm_model.specs.Content.{kind_of, out, send}
use Rattle.avm_model.specs.Machine.{State, out_send}
use Rattle.avm_model.specs.Offer.{Offer, OfferConsole, OfferClock, OfferData, OfferAck}
use Rattle.avm_model.specs.Reference.{Made, OutAt, SendAt, HaltAt, SnapAt, NothingAt, made_of}
use Rattle.avm_model.specs.declared.Sent.{Sent}
use Rattle.guest_machine.specs.Outs.{halt_list, snap_list}
use Rattle.guest_machine.specs.declared.outs.Outs.{Outs}
use Rattle.avm_model.specs.Frame.{FrameData}
use Rattle.journal_model.specs.Journal.{follows, may_stand, pages_ascend}
use Rattle.journal_model.specs.Part.{Part, entry, seal, keep, frames_in, page_at, signing}
use Rattle.journal_model.specs.Standing.{StandingData, behind}
use Rattle.journal_model.specs.Spelling.{parts_bytes, part_bytes}
use Rattle.journal_model.proofs.Fitting.{follows_append}
use Rattle.journal_model.proofs.Judging.{next_fold, signing_append}
use Rattle.jrnl_store.specs.Kept.{Kept}
use Rattle.record_batch.specs.Batch.{BatchData, batch_size, with_part}
use Rattle.record_batch.specs.Spelled.{content_size, numbered}
use Rattle.record_batch.proofs.Adding.{grows}
use Rattle.record_batch.proofs.Spells.{entry_long, part_some}
use Rattle.record_model.specs.Recording.{frame_of, is_large, is_none, made_parts, offer_content}
use Rattle.record_model.specs.Standing.{FitAll}
use Rattle.record_parts.specs.Outs.{AreQuiet, outs_made, with_made}
use Rattle.record_parts.proofs.Outs.{made_next, made_none, fold-append}
use Rattle.record_store.specs.Open.{IsOpen}

-- ---- the batch goes on

other : (first n kind : ℕ) → first < n → (kind == 1) ≡ false → may_stand first n kind ≡ true
other first n kind lt e = rw (ne_eqb n first (λ (q : n ≡ first). omega (arith, lt, q)), e) refl

one_more : (first n kind : ℕ) → first < n → (kind == 1) ≡ false → (n == n && may_stand first n kind) ≡ true
one_more first n kind lt e = and_from _ _ (eq-eqb n n refl) (other first n kind lt e)

made_goes : (os : List Made) (first most n : ℕ) (s : State) (pages : List ℕ) → first < n → pages_ascend 0 most (items_of page_at pages) ≡ true → FitAll os → follows first most n None (made_parts n s pages os) ≡ true
made_goes [] first most n s pages lt up fits = refl
made_goes (OutAt count bytes ∷ os) first most n s pages lt up fits = and_from _ _ (one_more first n 7 lt refl) (made_goes os first most (n + 1) s pages (omega (arith, lt)) up fits.1)
made_goes (SendAt count peer number payload ∷ os) first most n s pages lt up fits = and_from _ _ (one_more first n 8 lt refl) (made_goes os first most (n + 1) s pages (omega (arith, lt)) up fits.1)
made_goes (HaltAt count cause value ∷ os) first most n s pages lt up fits = and_from _ _ (one_more first n 9 lt refl) (made_goes os first most (n + 1) s pages (omega (arith, lt)) up fits.1)
made_goes (SnapAt count r ∷ os) first most n s pages lt up fits = and_from _ _ (one_more first n 2 lt refl) (and_from _ _ (and_from _ _ (eq-eqb n n refl) up) (made_goes os first most (n + 1) s pages (omega (arith, lt)) up fits.1))
made_goes (NothingAt count ∷ os) first most n s pages lt up fits = absurd (let e : 0 ≡ 32 = fits.0.1 in omega (arith, e))

other_kind : (count : ℕ) (o : Offer) → (kind_of (offer_content count o) == 1) ≡ false
other_kind count (OfferConsole bytes) = refl
other_kind count (OfferClock value) = refl
other_kind count (OfferData inner) = refl
other_kind count (OfferAck inner) = refl

-- the batch's number, counted from where the journal stands
next_is : (k : Kept) (b : BatchData) → IsOpen k b → b.next ≡ k.standing.next + length (frames_in b.parts)
next_is k b o = o.next ∙ next_fold k.standing b.parts

more_goes : (k : Kept) (b : BatchData) (c : List Part) → IsOpen k b → follows k.bounds.first k.bounds.pages b.next None c ≡ true → follows k.bounds.first k.bounds.pages k.standing.next None (b.parts ++ c) ≡ true
more_goes k b c o g = follows_append k.bounds.first k.bounds.pages k.standing.next None b.parts c o.goes (subst (λ (n : ℕ). follows k.bounds.first k.bounds.pages n None c ≡ true) (next_is k b o) g)

begun : (k : Kept) (b : BatchData) → IsOpen k b → k.bounds.first < b.next
begun k b o = let l = o.begun in omega (arith, l, next_is k b o)

-- outputs keep a batch open
pub made_open : (k : Kept) (b c : BatchData) (s : State) (pages : List ℕ) (os : List Made) → IsOpen k b → c ≡ with_made b s pages os → pages_ascend 0 k.bounds.pages (items_of page_at pages) ≡ true → FitAll os → IsOpen k c
made_open k b c s pages os o e up fits = subst (λ (x : BatchData). IsOpen k x) (sym e) (record {
  run = o.run;
  mark = o.mark;
  begun = o.begun;
  goes = more_goes k b (made_parts b.next s pages os) o (made_goes os k.bounds.first k.bounds.pages b.next s pages (begun k b o) up fits);
  next = let f = fold-append k.standing b.parts (made_parts b.next s pages os) in let m = made_next (fold behind k.standing b.parts) b.next s pages os in let n = o.next in sym (ap (λ (x : StandingData). x.next) f ∙ m ∙ omega (arith, n));
})

-- so does an input
pub input_open : (k : Kept) (b c : BatchData) (count : ℕ) (i : Offer) → IsOpen k b → c ≡ with_part b (numbered b.next (offer_content count i)) 1 → IsOpen k c
input_open k b c count i o e = subst (λ (x : BatchData). IsOpen k x) (sym e) (record {
  run = o.run;
  mark = o.mark;
  begun = o.begun;
  goes = more_goes k b (numbered b.next (offer_content count i) ∷ []) o (and_from _ _ (one_more k.bounds.first b.next (kind_of (offer_content count i)) (begun k b o) (other_kind count i)) refl);
  next = let f = fold-append k.standing b.parts (numbered b.next (offer_content count i) ∷ []) in let n = o.next in sym (ap (λ (x : StandingData). x.next) f ∙ omega (arith, n));
})

-- and a seal
pub seal_open : (k : Kept) (b c : BatchData) → IsOpen k b → c ≡ with_part b seal 0 → IsOpen k c
seal_open k b c o e = subst (λ (x : BatchData). IsOpen k x) (sym e) (record {
  run = o.run;
  mark = o.mark;
  begun = o.begun;
  goes = more_goes k b (seal ∷ []) o (and_from _ _ (lt-ltb k.bounds.first b.next (begun k b o)) refl);
  next = let f = fold-append k.standing b.parts (seal ∷ []) in let n = o.next in sym (ap (λ (x : StandingData). x.next) f ∙ omega (arith, n));
})

-- ---- few entries

frames_few : (ps : List Part) → length (frames_in ps) ≤ length (parts_bytes ps)
frames_few [] = omega arith
frames_few (entry f ∷ ps) = let ih = frames_few ps in let l = length-append (part_bytes (entry f)) (parts_bytes ps) in let one = some f in omega (arith, ih, l, one)
  where
    some : (f : FrameData) → 1 ≤ length (part_bytes (entry f))
    some f = part_some (entry f)
frames_few (seal ∷ ps) = let ih = frames_few ps in let l = length-append (part_bytes seal) (parts_bytes ps) in omega (arith, ih, l)
frames_few (keep k ∷ ps) = let ih = frames_few ps in let l = length-append (part_bytes (keep k)) (parts_bytes ps) in omega (arith, ih, l)

-- the number of a batch that isn't long
pub next_low : (k : Kept) (b : BatchData) → IsOpen k b → (b.next ≤ k.standing.next + batch_size b) × (k.bounds.first < b.next)
unfolding batch_size
next_low k b o = let f = frames_few b.parts in (omega (arith, f, next_is k b o), begun k b o)

-- ---- how many sign

signing_cons : (p : Part) (ps : List Part) → signing (p ∷ ps) ≡ signing (p ∷ []) + signing ps
signing_cons p ps = signing_append (p ∷ []) ps

pub quiet_signs : (b : List Part) → AreQuiet b → signing b ≡ 0
unfolding signing
quiet_signs [] h = refl
quiet_signs (entry f ∷ b) h = let ih = quiet_signs b h.4 in rw h.0 ih
quiet_signs (seal ∷ b) h = absurd h
quiet_signs (keep k ∷ b) h = quiet_signs b h

-- outputs without a message
tail_signs : (n : ℕ) (s : State) (pages : List ℕ) (h : Option (ℕ × ℕ)) (b : Bool) → signing (made_parts n s pages (map (made_of s) (halt_list h ++ snap_list b))) ≡ 0
unfolding signing
tail_signs n s pages None false = refl
tail_signs n s pages None true = refl
tail_signs n s pages (Some h) false = refl
tail_signs n s pages (Some h) true = refl

sent_signs : (n : ℕ) (s : State) (pages : List ℕ) (x : Option Sent) (h : Option (ℕ × ℕ)) (b : Bool) → signing (made_parts n s pages (map (made_of s) (out_send x s.devices.window ++ halt_list h ++ snap_list b))) ≤ 1
unfolding signing
sent_signs n s pages None h b = omega (arith, tail_signs n s pages h b)
sent_signs n s pages (Some x) h b =
    let p : Part = entry (frame_of n (send s.count x.peer x.number (take x.len s.devices.window))) in
    let rest : List Part = made_parts (n + 1) s pages (map (made_of s) (halt_list h ++ snap_list b)) in
    let one : signing (p ∷ []) ≡ 1 = refl in
    let all : signing (p ∷ rest) ≡ signing (p ∷ []) + signing rest = signing_append (p ∷ []) rest in
    let none = tail_signs (n + 1) s pages h b in
    let few : signing (p ∷ rest) ≤ 1 = omega (arith, one, all, none) in
    few

outs_sign : (n : ℕ) (s : State) (pages : List ℕ) (o : Outs) → signing (made_parts n s pages (outs_made s o)) ≤ 1
unfolding signing
outs_sign n s pages o = go (o.line.len == 0) refl
  where
    go : (e : Bool) → (o.line.len == 0) ≡ e → signing (made_parts n s pages (outs_made s o)) ≤ 1
    go true e = rw e (sent_signs n s pages o.sent o.halt o.snap)
    go false e = rw e behind_line
      where
        line : Part
        line = entry (frame_of n (out s.count (take o.line.len o.line.bytes)))

        rest : List Part
        rest = made_parts (n + 1) s pages (map (made_of s) (out_send o.sent s.devices.window ++ halt_list o.halt ++ snap_list o.snap))

        behind_line : signing (line ∷ rest) ≤ 1
        behind_line =
            let none : signing (line ∷ []) ≡ 0 = refl in
            let all : signing (line ∷ rest) ≡ signing (line ∷ []) + signing rest = signing_append (line ∷ []) rest in
            let most = sent_signs (n + 1) s pages o.sent o.halt o.snap in
            omega (arith, none, all, most)

pub made_sign : (b c : BatchData) (s : State) (pages : List ℕ) (o : Outs) → AreQuiet b.parts → c ≡ with_made b s pages (outs_made s o) → signing c.parts ≤ 1
made_sign b c s pages o quiet e =
    let a = signing_append b.parts (made_parts b.next s pages (outs_made s o)) in
    let one = outs_sign b.next s pages o in
    let none = quiet_signs b.parts quiet in
    let is : signing c.parts ≡ signing (b.parts ++ made_parts b.next s pages (outs_made s o)) = ap (λ (x : BatchData). signing x.parts) e in
    omega (arith, a, one, none, is)

-- ---- without outputs

pub none_made : (b c : BatchData) (s : State) (pages : List ℕ) (os : List Made) → c ≡ with_made b s pages os → os ≡ [] → c ≡ b
none_made b c s pages os e none = e ∙ ap (λ (x : List Made). with_made b s pages x) none ∙ made_none b s pages

-- ---- a batch that isn't large

pub small_size : (b : BatchData) → is_large b.parts ≡ false → batch_size b ≤ 32768
unfolding batch_size
small_size b e = ltb-false 32768 (length (parts_bytes b.parts)) e

pub none_large : (ps : List Part) → ps ≡ [] → is_large ps ≡ false
none_large ps e = ap is_large e

pub none_quiet : (ps : List Part) → ps ≡ [] → AreQuiet ps
none_quiet ps e = subst AreQuiet (sym e) tt

-- how much an input adds
pub input_size : (b c : BatchData) (count : ℕ) (o : Offer) → c ≡ with_part b (numbered b.next (offer_content count o)) 1 → batch_size c ≤ batch_size b + (14 + content_size (offer_content count o))
input_size b c count o e =
    let long = entry_long b.next (offer_content count o) in
    let g = grows b c.parts (numbered b.next (offer_content count o)) c.next (14 + content_size (offer_content count o)) (ap (λ (x : BatchData). x.parts) e) (omega (arith, long)) in
    g

pub some_large : (ps : List Part) → is_large ps ≡ true → is_none ps ≡ false
some_large [] e = absurd cc
some_large (p ∷ ps) e = refl

pub none_signs : (ps : List Part) → AreQuiet ps → signing ps ≤ 1
none_signs ps quiet = omega (arith, quiet_signs ps quiet)

-- a batch that closes has a part
some_made : (p : StandingData) (b c : BatchData) (s : State) (pages : List ℕ) (os : List Made) → c ≡ with_made b s pages os → (os ≡ [] → ⊥) → is_none c.parts ≡ false
some_made p b c s pages os e loud = go c.parts (ap (λ (x : BatchData). x.parts) e)
  where
    behind_none : (bs ms : List Part) → [] ≡ bs ++ ms → ms ≡ []
    behind_none [] ms q = sym q
    behind_none (x ∷ bs) ms q = absurd cc

    no_more : (os : List Made) → length os ≡ 0 → os ≡ []
    no_more [] q = refl
    no_more (o ∷ os) q = absurd (omega (arith, q))

    go : (ps : List Part) → ps ≡ b.parts ++ made_parts b.next s pages os → is_none ps ≡ false
    go (x ∷ ps) q = refl
    go [] q =
        let none = behind_none b.parts (made_parts b.next s pages os) q in
        let same : (fold behind p (made_parts b.next s pages os)).next ≡ p.next = ap (λ (ms : List Part). (fold behind p ms).next) none in
        let more = made_next p b.next s pages os in
        absurd (loud (no_more os (omega (arith, same, more))))

pub closing_some : (p : StandingData) (b c : BatchData) (s : State) (pages : List ℕ) (os : List Made) → c ≡ with_made b s pages os → (os ≡ [] → ⊥) ⊎ (is_large c.parts ≡ true) → is_none c.parts ≡ false
closing_some p b c s pages os e (inl h) = some_made p b c s pages os e h
closing_some p b c s pages os e (inr h) = some_large c.parts h
