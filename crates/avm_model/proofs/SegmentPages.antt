-- The pages of a segment are as many as its head says.
use Rattle.std.proofs.Common.{◌≡◌, ℕ, ◌*◌, ◌&&◌, ltb, nat_le, List, [], ◌∷◌, length, take, drop, Some, ap, sym, subst, ◌∙◌}
use Rattle.std.specs.Prelude.{◌==◌, ◌||◌, ◌^◌}
use Rattle.std.specs.Int.{w32, from_be_bytes}
use Rattle.std.proofs.lemmas.List.{drop-drop}
use Rattle.avm_num.specs.Bytes.{number_at, byte_at, piece_at}
use Rattle.avm_num.specs.Lists.{many_at}
use Rattle.avm_num.proofs.Numbers.{bind_some, kept_some, short_some}
use Rattle.avm_num.proofs.Lengths.{piece_length}
use Rattle.avm_model.specs.Entries.{are_entries}
use Rattle.avm_model.specs.Head.{FrontData, HeadData}
use Rattle.avm_model.specs.HeadReading.{version_at, peer_at, front_at, hart_at, queues_at, transmit_at, bell_at, parts_at, head_of}
use Rattle.avm_model.specs.Segment.{SegmentData, page_count, segment_front_at, segment_of, whole_segment_of}
use Rattle.avm_model.specs.SegmentPages.{HasPages}
use Rattle.avm_model.proofs.HeadBounds as bounds

byte_drop : (bytes : List ℕ) (p : ℕ × List ℕ) → byte_at bytes ≡ Some p → p.1 ≡ drop 1 bytes
byte_drop [] p e = absurd cc
byte_drop (b ∷ bytes) p e = let g : (b, bytes) ≡ p = cc in ap (λ (q : ℕ × List ℕ). q.1) (sym g)

number_drop : (bytes : List ℕ) (p : ℕ × List ℕ) → number_at w32 bytes ≡ Some p → p.1 ≡ drop 4 bytes
number_drop bytes p e = ap (λ (q : ℕ × List ℕ). q.1) (sym (short_some (ltb (length bytes) 4) (from_be_bytes w32 (take 4 bytes), drop 4 bytes) p e).1)

version_drop : (bytes : List ℕ) (p : ℕ × List ℕ) → version_at bytes ≡ Some p → p.1 ≡ drop 1 bytes
unfolding version_at
version_drop bytes p e =
    let a = bind_some (byte_at bytes) _ p e in
    let k = kept_some (a.0.0 == 1 || a.0.0 == 2) a.0 p a.2 in
    ap (λ (q : ℕ × List ℕ). q.1) (sym k.1) ∙ byte_drop bytes a.0 a.1

some_is : {A : Type 0} (x y : A) → Some x ≡ Some y → x ≡ y
some_is x y e = cc

record Counts (bytes : List ℕ) (n : ℕ) : Type 0 where
  pub rest : List ℕ
  pub there : number_at w32 bytes ≡ Some (n, rest)

-- the number behind the id and K
front_pages : (bytes : List ℕ) (h : HeadData) (rest : List ℕ) → front_at bytes ≡ Some (h.front, rest) → Counts (drop 5 bytes) h.front.pages
unfolding front_at
front_pages bytes h rest e =
    let own = bind_some (byte_at bytes) _ (h.front, rest) e in
    let snap = bind_some (number_at w32 own.0.1) _ (h.front, rest) own.2 in
    let pages = bind_some (number_at w32 snap.0.1) _ (h.front, rest) snap.2 in
    let peers = bind_some (many_at byte_at peer_at pages.0.1) _ (h.front, rest) pages.2 in
    let five : snap.0.1 ≡ drop 5 bytes = number_drop own.0.1 snap.0 snap.1 ∙ ap (drop 4) (byte_drop bytes own.0 own.1) ∙ drop-drop 4 1 bytes in
    let is : pages.0.0 ≡ h.front.pages = ap (λ (q : FrontData × List ℕ). q.0.pages) (some_is _ _ peers.2) in
    record { rest = pages.0.1; there = subst (λ (b : List ℕ). number_at w32 b ≡ Some (h.front.pages, pages.0.1)) five (pages.1 ∙ ap (λ (n : ℕ). Some (n, pages.0.1)) is) }

parts_pages : (bytes : List ℕ) (p : HeadData × List ℕ) → parts_at bytes ≡ Some p → Counts (drop 6 bytes) p.0.front.pages
unfolding parts_at
parts_pages bytes p e =
    let version = bind_some (version_at bytes) _ p e in
    let front = bind_some (front_at version.0.1) _ p version.2 in
    let hart = bind_some (hart_at front.0.1) _ p front.2 in
    let queues = bind_some (queues_at hart.0.1) _ p hart.2 in
    let transmit = bind_some (transmit_at queues.0.1) _ p queues.2 in
    let bell = bind_some (bell_at version.0.0 transmit.0.1) _ p transmit.2 in
    let is : front.0.0 ≡ p.0.front = ap (λ (q : HeadData × List ℕ). q.0.front) (some_is _ _ bell.2) in
    let c = front_pages version.0.1 p.0 front.0.1 (front.1 ∙ ap (λ f. Some (f, front.0.1)) is) in
    let six : drop 5 version.0.1 ≡ drop 6 bytes = ap (drop 5) (version_drop bytes version.0 version.1) ∙ drop-drop 5 1 bytes in
    subst (λ (b : List ℕ). Counts b p.0.front.pages) six c

-- the number at place 6 of a head is its page count
pub head_pages : (head : List ℕ) (h : HeadData) → head_of head ≡ Some h → (rest : List ℕ) × (page_count head ≡ Some (h.front.pages, rest))
unfolding head_of
head_pages head h e =
    let a = bind_some (parts_at head) _ h e in
    let k = kept_some _ a.0.0 h a.2 in
    let c = parts_pages head a.0 a.1 in
    (c.rest, c.there ∙ ap (λ (d : HeadData). Some (d.front.pages, c.rest)) k.1)

-- as many as the number at place 6 says
counted : (bytes : List ℕ) (s : SegmentData) → segment_of bytes ≡ Some s → (p : ℕ × List ℕ) × (page_count s.front.head ≡ Some p) × (length s.pages ≡ 4096 * p.0)
unfolding segment_of
counted bytes s e =
    let front = bind_some (segment_front_at bytes) _ s e in
    let count = bind_some (page_count front.0.0.head) _ s front.2 in
    let pages = bind_some (piece_at (4096 * count.0.0) front.0.1) _ s count.2 in
    let k = kept_some (nat_le (length bytes) (2 ^ 26) && are_entries front.0.0.start front.0.0.before pages.0.1) (record { front = front.0.0; pages = pages.0.0; frames = pages.0.1 }) s pages.2 in
    (count.0, ap (λ (x : SegmentData). page_count x.front.head) (sym k.1) ∙ count.1, ap (λ (x : SegmentData). length x.pages) (sym k.1) ∙ piece_length (4096 * count.0.0) front.0.1 pages.0 pages.1)

first_is : (p q : ℕ × List ℕ) → Some p ≡ Some q → p.0 ≡ q.0
first_is p q e = let r : p ≡ q = cc in ap (λ (z : ℕ × List ℕ). z.0) r

pub has_pages : (bytes : List ℕ) (s : SegmentData) (h : HeadData) → whole_segment_of bytes ≡ Some (s, h) → HasPages s h
unfolding whole_segment_of
has_pages bytes s h e =
    let a = bind_some (segment_of bytes) _ (s, h) e in
    let b = bind_some (head_of a.0.front.head) _ (s, h) a.2 in
    let pair : (a.0, b.0) ≡ (s, h) = some_is _ _ b.2 in
    let is : a.0 ≡ s = ap (λ (q : SegmentData × HeadData). q.0) pair in
    let head : b.0 ≡ h = ap (λ (q : SegmentData × HeadData). q.1) pair in
    let read : head_of s.front.head ≡ Some h = ap (λ (x : SegmentData). head_of x.front.head) (sym is) ∙ b.1 ∙ ap (λ (x : HeadData). Some x) head in
    let c = counted bytes a.0 a.1 in
    let d = head_pages s.front.head h read in
    let n : c.0.0 ≡ h.front.pages = first_is c.0 (h.front.pages, d.0) (sym (ap (λ (x : SegmentData). page_count x.front.head) (sym is) ∙ c.1) ∙ d.1) in
    record {
      size = ap (λ (x : SegmentData). length x.pages) (sym is) ∙ c.2 ∙ ap (λ (k : ℕ). 4096 * k) n;
      count = (bounds.bounded h (bounds.head_bounded s.front.head h read)).pages;
    }
