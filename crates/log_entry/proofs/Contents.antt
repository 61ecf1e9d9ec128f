-- A content that is read is spelled so, and what is spelled so is read.
use Rattle.std.proofs.Common.{◌≡◌, ℕ, ◌^◌, ◌<◌, Bool, true, false, cond, nat_eq, nat_le, is_some, ◌&&◌, List, [], ◌++◌, length, Option, Some, None, option_map, IfSome, IfNone, refl, sym, ap, subst, ◌∙◌, append-nil, arith, eqb-true, leb-true, le-leb, eq-eqb}
use Rattle.std.specs.Int.{w32, w64}
use Rattle.avm_num.specs.Bytes.{IsBytes, ◌>>=◌, number_at}
use Rattle.avm_num.specs.Lists.{be}
use Rattle.avm_num.specs.Walk.{is_nil}
use Rattle.avm_num.proofs.Numbers.{kept_some, and_true}
use Rattle.avm_num.proofs.Fields.{start, next, goes, reads_32, reads_64}
use Rattle.avm_model.specs.Parts.{count_at}
use Rattle.avm_model.specs.Packet.{send_behind, send_at, recv_behind, recv_at, ack_at}
use Rattle.avm_model.specs.Content.{ContentData, boot, snap, conin, clock, recv, acked, out, send, halt, kind_of, send_data, recv_data, content_bytes, FitsContent, boot_form, snap_form, conin_form, clock_form, recv_form, acked_form, out_form, send_form, halt_form, form_of_kind, content_at}
use Rattle.avm_model.proofs.PartLaws.{reads_count}
use Rattle.log_entry.specs.declared.kinds.Content.{Content}
use Rattle.log_entry.specs.Views.{content_view}
use Rattle.log_entry.proofs.Options.{map_some, nil_is}
use Rattle.log_entry.proofs.PacketLaws.{send_read, send_again, send_parts, recv_read, recv_again, recv_parts, is_ack_is, ack_is_some}

-- what a content says of its kind, its count and the bytes behind the count
pub record Read (kind count : ℕ) (rest : List ℕ) (c : ContentData) : Type 0 where
  pub fits : FitsContent c
  pub kind_is : kind_of c ≡ kind
  pub spelled : be w64 count ++ rest ≡ content_bytes c

boot_read : (count : ℕ) (rest : List ℕ) (c : ContentData) → boot_form count rest ≡ Some c → Read 1 count rest c
boot_read count rest c e =
    let k = kept_some (nat_eq count 0 && nat_eq (length rest) 32) (boot count rest) c e in
    let b = and_true _ _ k.0 in
    let zero_is : count ≡ 0 = eqb-true _ _ b.0 in
    let len : length rest ≡ 32 = eqb-true _ _ b.1 in
    subst (λ (x : ContentData). Read 1 count rest x) k.1 (record { fits = (zero_is, len); kind_is = refl; spelled = refl })

snap_read : (count : ℕ) (rest : List ℕ) (c : ContentData) → count < 2 ^ 62 → snap_form count rest ≡ Some c → Read 2 count rest c
snap_read count rest c lt e =
    let k = kept_some (nat_eq (length rest) 32) (snap count rest) c e in
    let len : length rest ≡ 32 = eqb-true _ _ k.0 in
    subst (λ (x : ContentData). Read 2 count rest x) k.1 (record { fits = (lt, len); kind_is = refl; spelled = refl })

conin_read : (count : ℕ) (rest : List ℕ) (c : ContentData) → count < 2 ^ 62 → conin_form count rest ≡ Some c → Read 3 count rest c
conin_read count rest c lt e =
    let k = kept_some (nat_le 1 (length rest) && nat_le (length rest) 256) (conin count rest) c e in
    let b = and_true _ _ k.0 in
    subst (λ (x : ContentData). Read 3 count rest x) k.1 (record { fits = (lt, leb-true _ _ b.0, leb-true _ _ b.1); kind_is = refl; spelled = refl })

clock_read : (count : ℕ) (rest : List ℕ) (c : ContentData) → count < 2 ^ 62 → IsBytes rest → clock_form count rest ≡ Some c → Read 4 count rest c
clock_read count rest c lt fits e =
    let a = next reads_64 rest [] rest (start rest fits) _ c e in
    let k = kept_some (is_nil a.0.1) (clock count a.0.0) c a.3 in
    let whole : rest ≡ be w64 a.0.0 = a.1.parts ∙ ap (λ (x : List ℕ). be w64 a.0.0 ++ x) (nil_is a.0.1 k.0) ∙ append-nil _ in
    subst (λ (x : ContentData). Read 4 count rest x) k.1 (record { fits = (lt, a.2); kind_is = refl; spelled = ap (λ (x : List ℕ). be w64 count ++ x) whole })

recv_kind : (count : ℕ) (rest : List ℕ) (c : ContentData) → count < 2 ^ 62 → IsBytes rest → recv_form count rest ≡ Some c → Read 5 count rest c
recv_kind count rest c lt fits e =
    let m = map_some _ (recv_behind count rest) c e in
    let r = recv_read count rest m.0 fits m.1 in
    subst (λ (x : ContentData). Read 5 count rest x) m.2 (record { fits = r.fits lt; kind_is = refl; spelled = r.spelled })

acked_read : (count : ℕ) (rest : List ℕ) (c : ContentData) → count < 2 ^ 62 → IsBytes rest → acked_form count rest ≡ Some c → Read 6 count rest c
acked_read count rest c lt fits e =
    let k = kept_some (is_some (ack_at rest)) (acked count rest) c e in
    subst (λ (x : ContentData). Read 6 count rest x) k.1 (record { fits = (lt, is_ack_is rest fits k.0); kind_is = refl; spelled = refl })

out_read : (count : ℕ) (rest : List ℕ) (c : ContentData) → count < 2 ^ 62 → out_form count rest ≡ Some c → Read 7 count rest c
out_read count rest c lt e =
    let k = kept_some (nat_le 1 (length rest) && nat_le (length rest) 128) (out count rest) c e in
    let b = and_true _ _ k.0 in
    subst (λ (x : ContentData). Read 7 count rest x) k.1 (record { fits = (lt, leb-true _ _ b.0, leb-true _ _ b.1); kind_is = refl; spelled = refl })

send_kind : (count : ℕ) (rest : List ℕ) (c : ContentData) → count < 2 ^ 62 → IsBytes rest → send_form count rest ≡ Some c → Read 8 count rest c
send_kind count rest c lt fits e =
    let m = map_some _ (send_behind count rest) c e in
    let r = send_read count rest m.0 fits m.1 in
    subst (λ (x : ContentData). Read 8 count rest x) m.2 (record { fits = r.fits lt; kind_is = refl; spelled = r.spelled })

halt_read : (count : ℕ) (rest : List ℕ) (c : ContentData) → count < 2 ^ 62 → IsBytes rest → halt_form count rest ≡ Some c → Read 9 count rest c
halt_read count rest c lt fits e =
    let a = next reads_32 rest [] rest (start rest fits) _ c e in
    let b = next reads_32 rest _ _ a.1 _ c a.3 in
    let k = kept_some (is_nil b.0.1) (halt count a.0.0 b.0.0) c b.3 in
    let whole : rest ≡ be w32 a.0.0 ++ be w32 b.0.0 = b.1.parts ∙ ap (λ (x : List ℕ). be w32 a.0.0 ++ be w32 b.0.0 ++ x) (nil_is b.0.1 k.0) ∙ append-nil _ in
    subst (λ (x : ContentData). Read 9 count rest x) k.1 (record { fits = (lt, a.2, b.2); kind_is = refl; spelled = ap (λ (x : List ℕ). be w64 count ++ x) whole })

-- the kind that is asked for, or a later one
pick : {A : Type 0} (kind k : ℕ) (a b : Option A) (c : A) (P : Type 0) → cond (nat_eq kind k) a b ≡ Some c → (kind ≡ k → a ≡ Some c → P) → (b ≡ Some c → P) → P
pick {A} kind k a b c P e hit miss = go (nat_eq kind k) refl e
  where
    go : (t : Bool) → nat_eq kind k ≡ t → cond t a b ≡ Some c → P
    go true h f = hit (eqb-true kind k h) f
    go false h f = miss f

kind_read : (kind count : ℕ) (rest : List ℕ) (c : ContentData) → count < 2 ^ 62 → IsBytes rest → form_of_kind kind count rest ≡ Some c → Read kind count rest c
kind_read kind count rest c lt fits e =
    pick kind 1 _ _ c (Read kind count rest c) e (λ k h. rw k (boot_read count rest c h)) λ e.
    pick kind 2 _ _ c (Read kind count rest c) e (λ k h. rw k (snap_read count rest c lt h)) λ e.
    pick kind 3 _ _ c (Read kind count rest c) e (λ k h. rw k (conin_read count rest c lt h)) λ e.
    pick kind 4 _ _ c (Read kind count rest c) e (λ k h. rw k (clock_read count rest c lt fits h)) λ e.
    pick kind 5 _ _ c (Read kind count rest c) e (λ k h. rw k (recv_kind count rest c lt fits h)) λ e.
    pick kind 6 _ _ c (Read kind count rest c) e (λ k h. rw k (acked_read count rest c lt fits h)) λ e.
    pick kind 7 _ _ c (Read kind count rest c) e (λ k h. rw k (out_read count rest c lt h)) λ e.
    pick kind 8 _ _ c (Read kind count rest c) e (λ k h. rw k (send_kind count rest c lt fits h)) λ e.
    pick kind 9 _ _ c (Read kind count rest c) e (λ k h. rw k (halt_read count rest c lt fits h)) λ e.
    absurd cc

pub content_read : (kind : ℕ) (bytes : List ℕ) (c : ContentData) → IsBytes bytes → content_at kind bytes ≡ Some c → FitsContent c × (kind_of c ≡ kind) × (content_bytes c ≡ bytes)
unfolding content_at
content_read kind bytes c fits e =
    let a = next reads_count bytes [] bytes (start bytes fits) _ c e in
    let r = kind_read kind a.0.0 a.0.1 c a.2 a.1.rest_fits a.3 in
    (r.fits, r.kind_is, sym r.spelled ∙ sym a.1.parts)

count_again : (kind count : ℕ) (rest : List ℕ) → count < 2 ^ 62 → content_at kind (be w64 count ++ rest) ≡ form_of_kind kind count rest
unfolding content_at
count_again kind count rest lt = goes reads_count count rest _ lt

pub content_again : (c : ContentData) → FitsContent c → content_at (kind_of c) (content_bytes c) ≡ Some c
content_again (boot count root) h = count_again 1 count root (omega (arith, h.0)) ∙ rw (eq-eqb _ _ h.0, eq-eqb _ _ h.1) refl
content_again (snap count root) h = count_again 2 count root h.0 ∙ rw (eq-eqb _ _ h.1) refl
content_again (conin count bytes) h = count_again 3 count bytes h.0 ∙ rw (le-leb _ _ h.1, le-leb _ _ h.2) refl
content_again (clock count value) h =
    let last : number_at w64 (be w64 value) ≡ Some (value, []) = ap (number_at w64) (sym (append-nil (be w64 value))) ∙ reads_64.again value [] h.1 in
    count_again 4 count (be w64 value) h.0 ∙ rw last refl
content_again (recv count packet) h =
    ap (content_at 5) (recv_parts (recv_data count packet)) ∙ count_again 5 count packet h.count ∙ rw (recv_again (recv_data count packet) h) refl
content_again (acked count packet) h = count_again 6 count packet h.0 ∙ rw (ack_is_some packet h.1) refl
content_again (out count bytes) h = count_again 7 count bytes h.0 ∙ rw (le-leb _ _ h.1, le-leb _ _ h.2) refl
content_again (send count peer number payload) h =
    ap (content_at 8) (send_parts (send_data count peer number payload)) ∙ count_again 8 count _ h.count ∙ rw (send_again (send_data count peer number payload) h) refl
content_again (halt count cause value) h =
    let last : number_at w32 (be w32 value) ≡ Some (value, []) = ap (number_at w32) (sym (append-nil (be w32 value))) ∙ reads_32.again value [] h.2 in
    count_again 9 count (be w32 cause ++ be w32 value) h.0 ∙ halt_again count cause value (be w32 value) h.1 last
  where
    halt_again : (count cause value : ℕ) (last : List ℕ) → cause < 2 ^ 32 → number_at w32 last ≡ Some (value, []) → halt_form count (be w32 cause ++ last) ≡ Some (halt count cause value)
    halt_again count cause value last lt h = goes reads_32 cause last _ lt ∙ rw h refl

-- the contents that stand in packets
pub send_content : (bytes : List ℕ) → content_at 8 bytes ≡ option_map (λ s. send s.count s.peer s.number s.payload) (send_at bytes)
unfolding content_at send_at
send_content bytes = go (count_at bytes)
  where
    go : (o : Option (ℕ × List ℕ)) → (o >>= λ x. form_of_kind 8 x.0 x.1) ≡ option_map (λ s. send s.count s.peer s.number s.payload) (o >>= λ x. send_behind x.0 x.1)
    go None = refl
    go (Some x) = refl

pub recv_content : (bytes : List ℕ) → content_at 5 bytes ≡ option_map (λ r. recv r.count r.packet) (recv_at bytes)
unfolding content_at recv_at
recv_content bytes = go (count_at bytes)
  where
    go : (o : Option (ℕ × List ℕ)) → (o >>= λ x. form_of_kind 5 x.0 x.1) ≡ option_map (λ r. recv r.count r.packet) (o >>= λ x. recv_behind x.0 x.1)
    go None = refl
    go (Some x) = refl

-- ---- the clauses of the reader

pub found : (r : Option Content) (kind : ℕ) (bytes : List ℕ) → IsBytes bytes → option_map content_view r ≡ content_at kind bytes → IfSome r (λ c. FitsContent (content_view c) × (kind_of (content_view c) ≡ kind) × (content_bytes (content_view c) ≡ bytes))
found None kind bytes fits e = tt
found (Some c) kind bytes fits e = content_read kind bytes (content_view c) fits (sym e)

pub none : (r : Option Content) (kind : ℕ) (bytes : List ℕ) → option_map content_view r ≡ content_at kind bytes → IfNone r ((c : ContentData) → FitsContent c → kind_of c ≡ kind → content_bytes c ≡ bytes → ⊥)
none (Some c) kind bytes e = tt
none None kind bytes e = λ c fits k is.
    let again = content_again c fits in
    let same : content_at (kind_of c) (content_bytes c) ≡ content_at kind bytes = rw (k, is) refl in
    cc

pub only : (r : Option Content) (kind : ℕ) (bytes : List ℕ) → option_map content_view r ≡ content_at kind bytes → (c : ContentData) → FitsContent c → kind_of c ≡ kind → content_bytes c ≡ bytes → option_map content_view r ≡ Some c
only r kind bytes e c fits k is =
    let same : content_at (kind_of c) (content_bytes c) ≡ content_at kind bytes = rw (k, is) refl in
    e ∙ sym same ∙ content_again c fits
