-- A head that is read is spelled so and fits; what fits and is spelled is read again.
use Rattle.std.proofs.Common.{is_some, IsTrue, ◌≡◌, ℕ, Bool, true, false, ◌==◌, ◌||◌, cond, List, [], ◌++◌, Option, Some, None, refl, sym, ap, subst, ◌∙◌, append_assoc, append-nil, eqb-true}
use Rattle.std.specs.Int.{w16, w32, w64}
use Rattle.std.proofs.lemmas.List.{nil_from_length}
use Rattle.avm_num.specs.Bytes.{IsBytes, ◌>>=◌}
use Rattle.avm_num.proofs.Numbers.{Front, bind_some, kept_some, and_true}
use Rattle.avm_num.specs.Lists.{list_bytes, be, one, sized_bytes, many_bytes}
use Rattle.avm_num.proofs.Fields.{Reads, start, next, ends, goes, reads_16, reads_32, reads_64, reads_byte, reads_piece, reads_list, reads_sized, reads_many}
use Rattle.avm_model.specs.declared.Status.{Status}
use Rattle.avm_model.specs.declared.Status.TheVariants.{Running, Waiting, Halted}
use Rattle.avm_model.specs.Head.{HeadData, status_code, peer_bytes, FitsPeer, message_bytes, FitsMessage, front_bytes, FitsFront, hart_bytes, FitsHart, queues_bytes, FitsQueues, transmit_bytes, FitsTransmit, words_bytes, FitsWords, bell_bytes, FitsBell, head_bytes, FitsHead}
use Rattle.avm_model.specs.Bounds.{is_head}
use Rattle.avm_model.specs.Bell.{version_of}
use Rattle.avm_model.specs.declared.Bell.{Bell}
use Rattle.avm_model.specs.HeadReading.{peer_at, message_at, status_of, status_at, front_at, hart_at, queues_at, transmit_at, version_at, words_at, bell_at, parts_at, head_of}

pub reads_peer : Reads peer_at peer_bytes FitsPeer
unfolding peer_at
reads_peer = record {
  front = λ bytes p fits e.
      let a = next reads_byte bytes _ _ (start bytes fits) _ p e in
      let b = next (reads_piece 56) bytes _ _ a.1 _ p a.3 in
      let c = next reads_64 bytes _ _ b.1 _ p b.3 in
      let d = next reads_64 bytes _ _ c.1 _ p c.3 in
      let f = next reads_64 bytes _ _ d.1 _ p d.3 in
      ends peer_bytes FitsPeer bytes _ p f.3 f.1 (record { key = b.2; sent = c.2; acked = d.2; received = f.2 });
  again = λ x rest fits.
      let regrouped : peer_bytes x ++ rest ≡ one x.id ++ (x.key ++ (be w64 x.sent ++ (be w64 x.acked ++ (be w64 x.received ++ rest)))) = simp append_assoc in
      ap peer_at regrouped ∙ goes reads_byte x.id _ _ tt ∙ goes (reads_piece 56) x.key _ _ fits.key ∙ goes reads_64 x.sent _ _ fits.sent ∙ goes reads_64 x.acked _ _ fits.acked ∙ goes reads_64 x.received _ _ fits.received;
}

pub reads_message : Reads message_at message_bytes FitsMessage
unfolding message_at
reads_message = record {
  front = λ bytes p fits e.
      let a = next reads_byte bytes _ _ (start bytes fits) _ p e in
      let b = next (reads_sized reads_16) bytes _ _ a.1 _ p a.3 in
      ends message_bytes FitsMessage bytes _ p b.3 b.1 b.2;
  again = λ x rest fits.
      let regrouped : message_bytes x ++ rest ≡ one x.peer ++ (sized_bytes (be w16) x.payload ++ rest) = simp append_assoc in
      ap message_at regrouped ∙ goes reads_byte x.peer _ _ tt ∙ goes (reads_sized reads_16) x.payload _ _ fits;
}

status_is : (n : ℕ) (s : Status) → status_of n ≡ Some s → n ≡ status_code s
status_is n s e = go (n == 0) refl (n == 1) refl (n == 2) refl e
  where
    go : (a : Bool) → (n == 0) ≡ a → (b : Bool) → (n == 1) ≡ b → (c : Bool) → (n == 2) ≡ c → cond a (Some Running) (cond b (Some Waiting) (cond c (Some Halted) None)) ≡ Some s → n ≡ status_code s
    go true p b q c r h = let i : Running ≡ s = cc in subst (λ (t : Status). n ≡ status_code t) i (eqb-true n 0 p)
    go false p true q c r h = let i : Waiting ≡ s = cc in subst (λ (t : Status). n ≡ status_code t) i (eqb-true n 1 q)
    go false p false q true r h = let i : Halted ≡ s = cc in subst (λ (t : Status). n ≡ status_code t) i (eqb-true n 2 r)
    go false p false q false r h = absurd cc

pub reads_status : Reads status_at (λ s. one (status_code s)) (λ s. Unit {0})
unfolding one
reads_status = record {
  front = λ bytes p fits e.
      let a = next reads_byte bytes _ _ (start bytes fits) _ p e in
      let b = bind_some (status_of a.0.0) _ p a.3 in
      let front = subst (λ (n : ℕ). Front bytes (one n) a.0.1) (status_is a.0.0 b.0 b.1) a.1 in
      ends (λ s. one (status_code s)) (λ s. Unit {0}) bytes _ p b.2 front tt;
  again = λ s rest fits. elim s as (λ t. status_at (one (status_code t) ++ rest) ≡ Some (t, rest)) [ Running ↦ refl | Waiting ↦ refl | Halted ↦ refl ];
}

pub reads_front : Reads front_at front_bytes FitsFront
unfolding front_at front_bytes
reads_front = record {
  front = λ bytes p fits e.
      let b = next reads_byte bytes _ _ (start bytes fits) _ p e in
      let c = next reads_32 bytes _ _ b.1 _ p b.3 in
      let d = next reads_32 bytes _ _ c.1 _ p c.3 in
      let f = next (reads_many reads_byte reads_peer) bytes _ _ d.1 _ p d.3 in
      ends front_bytes FitsFront bytes _ p f.3 f.1 (record { snap = c.2; pages = d.2; peers = f.2.1 });
  again = λ x rest fits.
      let regrouped : front_bytes x ++ rest ≡ one x.own ++ (be w32 x.snap ++ (be w32 x.pages ++ (many_bytes one peer_bytes x.peers ++ rest))) = simp append_assoc in
      ap front_at regrouped ∙ goes reads_byte x.own _ _ tt ∙ goes reads_32 x.snap _ _ fits.snap ∙ goes reads_32 x.pages _ _ fits.pages ∙ goes (reads_many reads_byte reads_peer) x.peers _ _ (tt, fits.peers);
}

pub reads_hart : Reads hart_at hart_bytes FitsHart
unfolding hart_at hart_bytes
reads_hart = record {
  front = λ bytes p fits e.
      let a = next (reads_list reads_32 31) bytes _ _ (start bytes fits) _ p e in
      let b = next reads_32 bytes _ _ a.1 _ p a.3 in
      let c = next reads_64 bytes _ _ b.1 _ p b.3 in
      let d = next reads_status bytes _ _ c.1 _ p c.3 in
      ends hart_bytes FitsHart bytes _ p d.3 d.1 (record { registers = a.2.0; words = a.2.1; pc = b.2; count = c.2 });
  again = λ x rest fits.
      let regrouped : hart_bytes x ++ rest ≡ list_bytes (be w32) x.x ++ (be w32 x.pc ++ (be w64 x.count ++ (one (status_code x.status) ++ rest))) = simp append_assoc in
      ap hart_at regrouped ∙ goes (reads_list reads_32 31) x.x _ _ (fits.registers, fits.words) ∙ goes reads_32 x.pc _ _ fits.pc ∙ goes reads_64 x.count _ _ fits.count ∙ goes reads_status x.status _ _ tt;
}

pub reads_queues : Reads queues_at queues_bytes FitsQueues
unfolding queues_at queues_bytes
reads_queues = record {
  front = λ bytes p fits e.
      let a = next reads_32 bytes _ _ (start bytes fits) _ p e in
      let b = next (reads_sized reads_byte) bytes _ _ a.1 _ p a.3 in
      let c = next (reads_sized reads_16) bytes _ _ b.1 _ p b.3 in
      let d = next (reads_many reads_byte reads_message) bytes _ _ c.1 _ p c.3 in
      ends queues_bytes FitsQueues bytes _ p d.3 d.1 (record { latch = a.2; console = c.2; messages = d.2.1 });
  again = λ x rest fits.
      let regrouped : queues_bytes x ++ rest ≡ be w32 x.latch ++ (sized_bytes one x.line ++ (sized_bytes (be w16) x.console ++ (many_bytes one message_bytes x.messages ++ rest))) = simp append_assoc in
      ap queues_at regrouped ∙ goes reads_32 x.latch _ _ fits.latch ∙ goes (reads_sized reads_byte) x.line _ _ tt ∙ goes (reads_sized reads_16) x.console _ _ fits.console ∙ goes (reads_many reads_byte reads_message) x.messages _ _ (tt, fits.messages);
}

pub reads_transmit : Reads transmit_at transmit_bytes FitsTransmit
unfolding transmit_at transmit_bytes
reads_transmit = record {
  front = λ bytes p fits e.
      let a = next reads_32 bytes _ _ (start bytes fits) _ p e in
      let b = next reads_32 bytes _ _ a.1 _ p a.3 in
      let c = next reads_32 bytes _ _ b.1 _ p b.3 in
      let d = next (reads_piece 1024) bytes _ _ c.1 _ p c.3 in
      ends transmit_bytes FitsTransmit bytes _ p d.3 d.1 (record { peer = a.2; len = b.2; result = c.2; window = d.2 });
  again = λ x rest fits.
      let regrouped : transmit_bytes x ++ rest ≡ be w32 x.peer ++ (be w32 x.len ++ (be w32 x.result ++ (x.window ++ rest))) = simp append_assoc in
      ap transmit_at regrouped ∙ goes reads_32 x.peer _ _ fits.peer ∙ goes reads_32 x.len _ _ fits.len ∙ goes reads_32 x.result _ _ fits.result ∙ goes (reads_piece 1024) x.window _ _ fits.window;
}

IsVersion : ℕ → Type 0
IsVersion n = (n == 1 || n == 2) ≡ true

reads_version : Reads version_at one IsVersion
unfolding version_at IsVersion
reads_version = record {
  front = λ bytes p fits e.
      let a = next reads_byte bytes _ _ (start bytes fits) _ p e in
      let k = kept_some (a.0.0 == 1 || a.0.0 == 2) a.0 p a.3 in
      subst (λ (q : ℕ × List ℕ). Front bytes (one q.0) q.1 × IsVersion q.0) k.1 (a.1, k.0);
  again = λ n rest is. goes reads_byte n rest _ tt ∙ rw is refl;
}

reads_words : Reads words_at words_bytes FitsWords
unfolding words_at words_bytes
reads_words = record {
  front = λ bytes p fits e.
      let a = next reads_32 bytes _ _ (start bytes fits) _ p e in
      let b = next reads_32 bytes _ _ a.1 _ p a.3 in
      let c = next reads_byte bytes _ _ b.1 _ p b.3 in
      ends words_bytes FitsWords bytes _ p c.3 c.1 (record { vector = a.2; saved = b.2 });
  again = λ x rest fits.
      let regrouped : words_bytes x ++ rest ≡ be w32 x.vector ++ (be w32 x.saved ++ (one x.state ++ rest)) = simp append_assoc in
      ap words_at regrouped ∙ goes reads_32 x.vector _ _ fits.vector ∙ goes reads_32 x.saved _ _ fits.saved ∙ goes reads_byte x.state _ _ tt;
}

first_of : (a b : Bool) → (a || b) ≡ true → b ≡ false → a ≡ true
first_of true b e f = refl
first_of false b e f = absurd cc

-- the bell of a version is read exactly where there is one
FitsAt : ℕ → Option Bell → Type 0
FitsAt version o = FitsBell o × (version ≡ version_of o)

bell_front : (version : ℕ) → IsVersion version → (bytes : List ℕ) (p : Option Bell × List ℕ) → IsBytes bytes → bell_at version bytes ≡ Some p → Front bytes (bell_bytes p.0) p.1 × FitsAt version p.0
unfolding bell_at bell_bytes IsVersion FitsAt
bell_front version is bytes p fits e = go (version == 2) refl e
  where
    go : (b : Bool) → (version == 2) ≡ b → cond b (words_at bytes >>= λ b. Some (Some b.0, b.1)) (Some (None, bytes)) ≡ Some p → Front bytes (bell_bytes p.0) p.1 × FitsAt version p.0
    go true two h =
        let a = next reads_words bytes _ _ (start bytes fits) _ p h in
        ends bell_bytes (FitsAt version) bytes (Some a.0.0, a.0.1) p a.3 a.1 (a.2, eqb-true version 2 two)
    go false two h =
        let one : (version == 1) ≡ true = first_of (version == 1) (version == 2) is two in
        ends bell_bytes (FitsAt version) bytes (None, bytes) p h (start bytes fits) (tt, eqb-true version 1 one)

bell_again : (o : Option Bell) (rest : List ℕ) → FitsBell o → bell_at (version_of o) (bell_bytes o ++ rest) ≡ Some (o, rest)
unfolding bell_at bell_bytes
bell_again None rest fits = refl
bell_again (Some b) rest fits = goes reads_words b rest _ fits

reads_bell : (version : ℕ) → IsVersion version → Reads (bell_at version) bell_bytes (FitsAt version)
unfolding FitsAt
reads_bell version is = record {
  front = bell_front version is;
  again = λ o rest fits. ap (λ (n : ℕ). bell_at n (bell_bytes o ++ rest)) fits.1 ∙ bell_again o rest fits.0;
}

version_is : (o : Option Bell) → IsVersion (version_of o)
unfolding IsVersion
version_is None = refl
version_is (Some b) = refl

pub reads_parts : Reads parts_at head_bytes FitsHead
unfolding parts_at head_bytes FitsAt
reads_parts = record {
  front = λ bytes p fits e.
      let v = next reads_version bytes _ _ (start bytes fits) _ p e in
      let a = next reads_front bytes _ _ v.1 _ p v.3 in
      let b = next reads_hart bytes _ _ a.1 _ p a.3 in
      let c = next reads_queues bytes _ _ b.1 _ p b.3 in
      let d = next reads_transmit bytes _ _ c.1 _ p c.3 in
      let f = next (reads_bell v.0.0 v.2) bytes _ _ d.1 _ p d.3 in
      let whole = subst (λ (n : ℕ). Front bytes (one n ++ front_bytes a.0.0 ++ hart_bytes b.0.0 ++ queues_bytes c.0.0 ++ transmit_bytes d.0.0 ++ bell_bytes f.0.0) f.0.1) f.2.1 f.1 in
      ends head_bytes FitsHead bytes _ p f.3 whole (record { front = a.2; hart = b.2; queues = c.2; transmit = d.2; bell = f.2.0 });
  again = λ x rest fits.
      let regrouped : head_bytes x ++ rest ≡ one (version_of x.bell) ++ (front_bytes x.front ++ (hart_bytes x.hart ++ (queues_bytes x.queues ++ (transmit_bytes x.transmit ++ (bell_bytes x.bell ++ rest))))) = simp append_assoc in
      let is = version_is x.bell in
      ap parts_at regrouped ∙ goes reads_version (version_of x.bell) _ _ is ∙ goes reads_front x.front _ _ fits.front ∙ goes reads_hart x.hart _ _ fits.hart ∙ goes reads_queues x.queues _ _ fits.queues ∙ goes reads_transmit x.transmit _ _ fits.transmit ∙ goes (reads_bell (version_of x.bell) is) x.bell _ _ (fits.bell, refl);
}

-- ---- the whole head

pub head_read : (bytes : List ℕ) (h : HeadData) → IsBytes bytes → head_of bytes ≡ Some h → (bytes ≡ head_bytes h) × FitsHead h × (is_head h ≡ true)
unfolding head_of
head_read bytes h fits e =
    let a = next reads_parts bytes _ _ (start bytes fits) _ h e in
    let k = kept_some _ a.0.0 h a.3 in
    let b = and_true _ _ k.0 in
    let nothing : a.0.1 ≡ [] = nil_from_length a.0.1 (eqb-true _ _ b.0) in
    let whole : bytes ≡ head_bytes a.0.0 = a.1.parts ∙ ap (λ (t : List ℕ). head_bytes a.0.0 ++ t) nothing ∙ append-nil (head_bytes a.0.0) in
    subst (λ (q : HeadData). (bytes ≡ head_bytes q) × FitsHead q × (is_head q ≡ true)) k.1 (whole, a.2, b.1)

pub head_again : (h : HeadData) → FitsHead h → is_head h ≡ true → head_of (head_bytes h) ≡ Some h
unfolding head_of
head_again h fits bounds = ap head_of (sym (append-nil (head_bytes h))) ∙ goes reads_parts h [] _ fits ∙ rw bounds refl

pub found : (r : Bool) (bytes : List ℕ) → IsBytes bytes → r ≡ is_some (head_of bytes) → IsTrue r → (h : HeadData) × FitsHead h × (is_head h ≡ true) × (bytes ≡ head_bytes h)
found r bytes fits e t = go (head_of bytes) refl (sym e ∙ t)
  where
    go : (o : Option HeadData) → head_of bytes ≡ o → is_some o ≡ true → (h : HeadData) × FitsHead h × (is_head h ≡ true) × (bytes ≡ head_bytes h)
    go None e u = absurd cc
    go (Some h) e u = let a = head_read bytes h fits e in (h, a.1, a.2, a.0)

pub only : (r : Bool) (bytes : List ℕ) → r ≡ is_some (head_of bytes) → (h : HeadData) → FitsHead h → is_head h ≡ true → bytes ≡ head_bytes h → IsTrue r
only r bytes e h fits bounds is = e ∙ ap is_some (ap head_of is ∙ head_again h fits bounds)
