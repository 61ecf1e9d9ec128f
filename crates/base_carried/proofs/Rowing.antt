-- What a row has found behind entries.
use Rattle.std.proofs.Common.{◌≡◌, ℕ, ◌<◌, ◌≤◌, arith, lt-ltb, ltb-true, Bool, true, false, cond, nat_lt, ◌&&◌, ◌||◌, List, [], ◌∷◌, ◌++◌, Option, Some, None, refl, sym, ap, subst, ◌∙◌}
use Rattle.std.specs.Prelude.{◌==◌, filter, flat_map, map, not}
use Rattle.std.specs.List.{list_any}
use Rattle.std.proofs.lemmas.List.Folds.{list_any-append}
use Rattle.avm_model.specs.Content.{ContentData, boot, snap, conin, clock, recv, acked, out, send, halt, content_at}
use Rattle.avm_model.specs.Frame.{FrameData}
use Rattle.avm_model.specs.Packet.{data_at}
use Rattle.avm_model.specs.declared.Peer.{Peer}
use Rattle.base_model.specs.Base.{is_send_of, number_of, row_numbers}
use Rattle.journal_model.specs.Header.{CarriedData}
use Rattle.journal_model.specs.Journal.{is_number}
use Rattle.record_model.specs.Released.{is_recv_from, is_send_to, last_that, number_in, read, sender_of}
use Rattle.base_carried.specs.Rows.{has_number, is_wanted, noted, noted_by, noted_entry, row_for}
use Rattle.base_carried.specs.Passes.{row_over}
use Rattle.base_carried.specs.declared.row.Row.{Row}

-- ---- lists

pub map_same : {A : Type 0} (f : A → A) (xs : List A) → ((x : A) → f x ≡ x) → map f xs ≡ xs
map_same f [] h = refl
map_same f (x ∷ xs) h = rw (h x, map_same f xs h) refl

pub map_as : {A B : Type 0} (f g : A → B) (xs : List A) → ((x : A) → f x ≡ g x) → map f xs ≡ map g xs
map_as f g [] h = refl
map_as f g (x ∷ xs) h = rw (h x, map_as f g xs h) refl

pub map_both : {A B C : Type 0} (f : A → B) (g : B → C) (xs : List A) → map g (map f xs) ≡ map (λ x. g (f x)) xs
map_both f g [] = refl
map_both f g (x ∷ xs) = ap (λ l. g (f x) ∷ l) (map_both f g xs)

or_false : (b : Bool) → (b || false) ≡ b
or_false true = refl
or_false false = refl

-- ---- one entry

pub late_row : (n : ℕ) (f : FrameData) (r : Row) → nat_lt f.seq n ≡ false → noted_entry n f r ≡ r
late_row n f r e = rw e refl

not_early : (a b : ℕ) → b ≤ a → nat_lt a b ≡ false
not_early a b le = go (nat_lt a b) refl
  where
    go : (x : Bool) → nat_lt a b ≡ x → nat_lt a b ≡ false
    go true e = let lt = ltb-true a b e in absurd (omega (arith, lt, le))
    go false e = e

pub late_rows : (n : ℕ) (f : FrameData) (rs : List Row) → n ≤ f.seq → rs ≡ map (noted_entry n f) rs
late_rows n f rs le = sym (map_same (noted_entry n f) rs (λ r. late_row n f r (not_early f.seq n le)))

pub none_rows : (n : ℕ) (f : FrameData) (rs : List Row) → content_at f.kind f.content ≡ None → rs ≡ map (noted_entry n f) rs
none_rows n f rs e = sym (map_same (noted_entry n f) rs (λ r. go r (nat_lt f.seq n)))
  where
    go : (r : Row) (b : Bool) → cond b (noted_by f.seq (content_at f.kind f.content) r) r ≡ r
    go r true = rw e refl
    go r false = refl

pub early_rows : (n : ℕ) (f : FrameData) (c : ContentData) (rs : List Row) → f.seq < n → content_at f.kind f.content ≡ Some c → map (noted f.seq c) rs ≡ map (noted_entry n f) rs
early_rows n f c rs lt q = let e : nat_lt f.seq n ≡ true = lt-ltb f.seq n lt in map_as (noted f.seq c) (noted_entry n f) rs (λ r. sym (rw (e, q) refl))

-- it asks for the same behind an entry
record Asks (r w : Row) : Type 0 where
  peer : w.peer ≡ r.peer
  number : w.number ≡ r.number
  received : w.received ≡ r.received

asks_same : (r : Row) → Asks r r
asks_same r = record { peer = refl; number = refl; received = refl }

asks_noted : (seq : ℕ) (c : ContentData) (r : Row) → Asks r (noted seq c r)
asks_noted seq (boot count root) r = asks_same r
asks_noted seq (snap count root) r = asks_same r
asks_noted seq (conin count bytes) r = asks_same r
asks_noted seq (clock count value) r = asks_same r
asks_noted seq (recv count packet) r = go (r.received && sender_of (data_at packet) == r.peer)
  where
    go : (b : Bool) → Asks r (cond b (record r { recv = Some seq }) r)
    go true = record { peer = refl; number = refl; received = refl }
    go false = asks_same r
asks_noted seq (acked count packet) r = asks_same r
asks_noted seq (out count bytes) r = asks_same r
asks_noted seq (send count peer number payload) r = go (peer == r.peer && is_wanted r.number number)
  where
    go : (b : Bool) → Asks r (cond b (record r { send = Some seq }) r)
    go true = record { peer = refl; number = refl; received = refl }
    go false = asks_same r
asks_noted seq (halt count cause value) r = asks_same r

asks_by : (seq : ℕ) (o : Option ContentData) (r : Row) → Asks r (noted_by seq o r)
asks_by seq None r = asks_same r
asks_by seq (Some c) r = asks_noted seq c r

asks_on : (n : ℕ) (f : FrameData) (r : Row) → Asks r (noted_entry n f r)
asks_on n f r = go (nat_lt f.seq n)
  where
    go : (b : Bool) → Asks r (cond b (noted_by f.seq (content_at f.kind f.content) r) r)
    go true = asks_by f.seq (content_at f.kind f.content) r
    go false = asks_same r

-- ---- all entries

pub over_both : (n : ℕ) (a b : List CarriedData) (r : Row) → row_over n b (row_over n a r) ≡ row_over n (a ++ b) r
over_both n [] b r = refl
over_both n (e ∷ a) b r = over_both n a b (noted_entry n e.frame r)

abbrev pub or_else : Option ℕ → Option ℕ → Option ℕ
or_else None o = o
or_else (Some n) o = Some n

abbrev pub or_entry : Option CarriedData → Option CarriedData → Option CarriedData
or_entry None o = o
or_entry (Some e) o = Some e

abbrev pub seq_of : Option CarriedData → Option ℕ
seq_of None = None
seq_of (Some e) = Some e.frame.seq

last_first : (p : CarriedData → Bool) (x : CarriedData) (xs : List CarriedData) → last_that p (x ∷ xs) ≡ or_entry (last_that p xs) (cond (p x) (Some x) None)
last_first p x xs = go (last_that p xs) refl
  where
    go : (o : Option CarriedData) → last_that p xs ≡ o → last_that p (x ∷ xs) ≡ or_entry (last_that p xs) (cond (p x) (Some x) None)
    go None e = rw e refl
    go (Some y) e = rw e refl

abbrev is_early : ℕ → CarriedData → Bool
is_early n e = nat_lt e.frame.seq n

-- what one entry changes of what is found
kept_one : (l : Option CarriedData) (old : Option ℕ) → or_else (seq_of l) old ≡ or_else (seq_of (or_entry l None)) old
kept_one None old = refl
kept_one (Some d) old = refl

found_one : (l : Option CarriedData) (e : CarriedData) (old : Option ℕ) (b : Bool) → or_else (seq_of l) (cond b (Some e.frame.seq) old) ≡ or_else (seq_of (or_entry l (cond b (Some e) None))) old
found_one None e old true = refl
found_one None e old false = refl
found_one (Some d) e old true = refl
found_one (Some d) e old false = refl

send_by : (m : ℕ) (e : CarriedData) (l : Option CarriedData) (r : Row) → r.number ≡ Some m → (o : Option ContentData)
    → or_else (seq_of l) (noted_by e.frame.seq o r).send ≡ or_else (seq_of (or_entry l (cond (is_send_to r.peer o && is_number (number_in o) m) (Some e) None))) r.send
send_by m e l r q None = kept_one l r.send
send_by m e l r q (Some (boot count root)) = kept_one l r.send
send_by m e l r q (Some (snap count root)) = kept_one l r.send
send_by m e l r q (Some (conin count bytes)) = kept_one l r.send
send_by m e l r q (Some (clock count value)) = kept_one l r.send
send_by m e l r q (Some (recv count packet)) = go (r.received && sender_of (data_at packet) == r.peer)
  where
    go : (b : Bool) → or_else (seq_of l) (cond b (record r { recv = Some e.frame.seq }) r).send ≡ or_else (seq_of (or_entry l None)) r.send
    go true = kept_one l r.send
    go false = kept_one l r.send
send_by m e l r q (Some (acked count packet)) = kept_one l r.send
send_by m e l r q (Some (out count bytes)) = kept_one l r.send
send_by m e l r q (Some (send count peer number payload)) =
    subst (λ (o : Option ℕ). or_else (seq_of l) (cond (peer == r.peer && is_wanted o number) (record r { send = Some e.frame.seq }) r).send ≡ or_else (seq_of (or_entry l (cond (peer == r.peer && m == number) (Some e) None))) r.send) (sym q) (go (peer == r.peer && m == number))
  where
    go : (b : Bool) → or_else (seq_of l) (cond b (record r { send = Some e.frame.seq }) r).send ≡ or_else (seq_of (or_entry l (cond b (Some e) None))) r.send
    go true = found_one l e r.send true
    go false = found_one l e r.send false
send_by m e l r q (Some (halt count cause value)) = kept_one l r.send

pub over_send : (n m : ℕ) (es : List CarriedData) (r : Row) → r.number ≡ Some m → (row_over n es r).send ≡ or_else (seq_of (last_that (is_send_of r.peer m) (filter (is_early n) es))) r.send
over_send n m [] r q = refl
over_send n m (e ∷ es) r q =
    let a = asks_on n e.frame r in
    over_send n m es (noted_entry n e.frame r) (a.number ∙ q)
    ∙ ap (λ (peer : ℕ). or_else (seq_of (last_that (is_send_of peer m) (filter (is_early n) es))) (noted_entry n e.frame r).send) a.peer
    ∙ go (nat_lt e.frame.seq n)
  where
    behind : List CarriedData
    behind = filter (is_early n) es

    test : CarriedData → Bool
    test = is_send_of r.peer m

    go : (b : Bool) → or_else (seq_of (last_that (is_send_of r.peer m) (filter (is_early n) es))) (cond b (noted_by e.frame.seq (content_at e.frame.kind e.frame.content) r) r).send ≡ or_else (seq_of (last_that (is_send_of r.peer m) (cond b (e ∷ filter (is_early n) es) (filter (is_early n) es)))) r.send
    go true = send_by m e (last_that (is_send_of r.peer m) (filter (is_early n) es)) r q (read e) ∙ ap (λ (o : Option CarriedData). or_else (seq_of o) r.send) (sym (last_first (is_send_of r.peer m) e (filter (is_early n) es)))
    go false = refl

no_send_by : (seq : ℕ) (r : Row) → r.number ≡ None → (o : Option ContentData) → (noted_by seq o r).send ≡ r.send
no_send_by seq r q None = refl
no_send_by seq r q (Some (boot count root)) = refl
no_send_by seq r q (Some (snap count root)) = refl
no_send_by seq r q (Some (conin count bytes)) = refl
no_send_by seq r q (Some (clock count value)) = refl
no_send_by seq r q (Some (recv count packet)) = go (r.received && sender_of (data_at packet) == r.peer)
  where
    go : (b : Bool) → (cond b (record r { recv = Some seq }) r).send ≡ r.send
    go true = refl
    go false = refl
no_send_by seq r q (Some (acked count packet)) = refl
no_send_by seq r q (Some (out count bytes)) = refl
no_send_by seq r q (Some (send count peer number payload)) = subst (λ (o : Option ℕ). (cond (peer == r.peer && is_wanted o number) (record r { send = Some seq }) r).send ≡ r.send) (sym q) (go (peer == r.peer))
  where
    go : (b : Bool) → (cond (b && false) (record r { send = Some seq }) r).send ≡ r.send
    go true = refl
    go false = refl
no_send_by seq r q (Some (halt count cause value)) = refl

pub over_no_send : (n : ℕ) (es : List CarriedData) (r : Row) → r.number ≡ None → (row_over n es r).send ≡ r.send
over_no_send n [] r q = refl
over_no_send n (e ∷ es) r q = over_no_send n es (noted_entry n e.frame r) ((asks_on n e.frame r).number ∙ q) ∙ go (nat_lt e.frame.seq n)
  where
    go : (b : Bool) → (cond b (noted_by e.frame.seq (content_at e.frame.kind e.frame.content) r) r).send ≡ r.send
    go true = no_send_by e.frame.seq r q (content_at e.frame.kind e.frame.content)
    go false = refl

recv_by : (e : CarriedData) (l : Option CarriedData) (r : Row) → r.received ≡ true → (o : Option ContentData)
    → or_else (seq_of l) (noted_by e.frame.seq o r).recv ≡ or_else (seq_of (or_entry l (cond (is_recv_from r.peer o) (Some e) None))) r.recv
recv_by e l r q None = kept_one l r.recv
recv_by e l r q (Some (boot count root)) = kept_one l r.recv
recv_by e l r q (Some (snap count root)) = kept_one l r.recv
recv_by e l r q (Some (conin count bytes)) = kept_one l r.recv
recv_by e l r q (Some (clock count value)) = kept_one l r.recv
recv_by e l r q (Some (recv count packet)) =
    subst (λ (b : Bool). or_else (seq_of l) (cond (b && sender_of (data_at packet) == r.peer) (record r { recv = Some e.frame.seq }) r).recv ≡ or_else (seq_of (or_entry l (cond (sender_of (data_at packet) == r.peer) (Some e) None))) r.recv) (sym q) (go (sender_of (data_at packet) == r.peer))
  where
    go : (b : Bool) → or_else (seq_of l) (cond b (record r { recv = Some e.frame.seq }) r).recv ≡ or_else (seq_of (or_entry l (cond b (Some e) None))) r.recv
    go true = found_one l e r.recv true
    go false = found_one l e r.recv false
recv_by e l r q (Some (acked count packet)) = kept_one l r.recv
recv_by e l r q (Some (out count bytes)) = kept_one l r.recv
recv_by e l r q (Some (send count peer number payload)) = go (peer == r.peer && is_wanted r.number number)
  where
    go : (b : Bool) → or_else (seq_of l) (cond b (record r { send = Some e.frame.seq }) r).recv ≡ or_else (seq_of (or_entry l None)) r.recv
    go true = kept_one l r.recv
    go false = kept_one l r.recv
recv_by e l r q (Some (halt count cause value)) = kept_one l r.recv

pub over_recv : (n : ℕ) (es : List CarriedData) (r : Row) → r.received ≡ true → (row_over n es r).recv ≡ or_else (seq_of (last_that (λ e. is_recv_from r.peer (read e)) (filter (is_early n) es))) r.recv
over_recv n [] r q = refl
over_recv n (e ∷ es) r q =
    let a = asks_on n e.frame r in
    over_recv n es (noted_entry n e.frame r) (a.received ∙ q)
    ∙ ap (λ (peer : ℕ). or_else (seq_of (last_that (λ d. is_recv_from peer (read d)) (filter (is_early n) es))) (noted_entry n e.frame r).recv) a.peer
    ∙ go (nat_lt e.frame.seq n)
  where
    go : (b : Bool) → or_else (seq_of (last_that (λ d. is_recv_from r.peer (read d)) (filter (is_early n) es))) (cond b (noted_by e.frame.seq (content_at e.frame.kind e.frame.content) r) r).recv ≡ or_else (seq_of (last_that (λ d. is_recv_from r.peer (read d)) (cond b (e ∷ filter (is_early n) es) (filter (is_early n) es)))) r.recv
    go true = recv_by e (last_that (λ d. is_recv_from r.peer (read d)) (filter (is_early n) es)) r q (read e) ∙ ap (λ (o : Option CarriedData). or_else (seq_of o) r.recv) (sym (last_first (λ d. is_recv_from r.peer (read d)) e (filter (is_early n) es)))
    go false = refl

no_recv_by : (seq : ℕ) (r : Row) → r.received ≡ false → (o : Option ContentData) → (noted_by seq o r).recv ≡ r.recv
no_recv_by seq r q None = refl
no_recv_by seq r q (Some (boot count root)) = refl
no_recv_by seq r q (Some (snap count root)) = refl
no_recv_by seq r q (Some (conin count bytes)) = refl
no_recv_by seq r q (Some (clock count value)) = refl
no_recv_by seq r q (Some (recv count packet)) = rw q refl
no_recv_by seq r q (Some (acked count packet)) = refl
no_recv_by seq r q (Some (out count bytes)) = refl
no_recv_by seq r q (Some (send count peer number payload)) = go (peer == r.peer && is_wanted r.number number)
  where
    go : (b : Bool) → (cond b (record r { send = Some seq }) r).recv ≡ r.recv
    go true = refl
    go false = refl
no_recv_by seq r q (Some (halt count cause value)) = refl

pub over_no_recv : (n : ℕ) (es : List CarriedData) (r : Row) → r.received ≡ false → (row_over n es r).recv ≡ r.recv
over_no_recv n [] r q = refl
over_no_recv n (e ∷ es) r q = over_no_recv n es (noted_entry n e.frame r) ((asks_on n e.frame r).received ∙ q) ∙ go (nat_lt e.frame.seq n)
  where
    go : (b : Bool) → (cond b (noted_by e.frame.seq (content_at e.frame.kind e.frame.content) r) r).recv ≡ r.recv
    go true = no_recv_by e.frame.seq r q (content_at e.frame.kind e.frame.content)
    go false = refl

-- ---- in the definition's words

found_number : (seq : ℕ) (o : Option CarriedData) → is_wanted (or_else (seq_of o) None) seq ≡ list_any (λ m. m == seq) (number_of o)
found_number seq None = refl
found_number seq (Some e) = sym (or_false (e.frame.seq == seq))

row_has : (n seq : ℕ) (es : List CarriedData) (p : Peer) → has_number seq (row_over n es (row_for p)) ≡ list_any (λ m. m == seq) (row_numbers (filter (is_early n) es) p)
row_has n seq es p =
    ap (λ (b : Bool). b || is_wanted (row_over n es (row_for p)).recv seq) (sends (p.sent == p.acked) refl)
    ∙ ap (λ (b : Bool). list_any (λ m. m == seq) (cond (p.sent == p.acked) [] (number_of (last_that (is_send_of p.id p.sent) (filter (is_early n) es)))) || b) (recvs (p.received == 0) refl)
    ∙ sym (list_any-append (λ m. m == seq) (cond (p.sent == p.acked) [] (number_of (last_that (is_send_of p.id p.sent) (filter (is_early n) es)))) (cond (p.received == 0) [] (number_of (last_that (λ e. is_recv_from p.id (read e)) (filter (is_early n) es)))))
  where
    sends : (b : Bool) → (p.sent == p.acked) ≡ b → is_wanted (row_over n es (row_for p)).send seq ≡ list_any (λ m. m == seq) (cond b [] (number_of (last_that (is_send_of p.id p.sent) (filter (is_early n) es))))
    sends true e = ap (λ (o : Option ℕ). is_wanted o seq) (over_no_send n es (row_for p) (ap (λ (b : Bool). cond b None (Some p.sent)) e))
    sends false e = ap (λ (o : Option ℕ). is_wanted o seq) (over_send n p.sent es (row_for p) (ap (λ (b : Bool). cond b None (Some p.sent)) e)) ∙ found_number seq (last_that (is_send_of p.id p.sent) (filter (is_early n) es))

    recvs : (b : Bool) → (p.received == 0) ≡ b → is_wanted (row_over n es (row_for p)).recv seq ≡ list_any (λ m. m == seq) (cond b [] (number_of (last_that (λ e. is_recv_from p.id (read e)) (filter (is_early n) es))))
    recvs true e = ap (λ (o : Option ℕ). is_wanted o seq) (over_no_recv n es (row_for p) (ap not e))
    recvs false e = ap (λ (o : Option ℕ). is_wanted o seq) (over_recv n es (row_for p) (ap not e)) ∙ found_number seq (last_that (λ d. is_recv_from p.id (read d)) (filter (is_early n) es))

pub rows_have : (n seq : ℕ) (es : List CarriedData) (ps : List Peer) → list_any (has_number seq) (map (row_over n es) (map row_for ps)) ≡ list_any (λ m. m == seq) (flat_map (row_numbers (filter (is_early n) es)) ps)
rows_have n seq es [] = refl
rows_have n seq es (p ∷ ps) =
    ap (λ (b : Bool). b || list_any (has_number seq) (map (row_over n es) (map row_for ps))) (row_has n seq es p)
    ∙ ap (λ (b : Bool). list_any (λ m. m == seq) (row_numbers (filter (is_early n) es) p) || b) (rows_have n seq es ps)
    ∙ sym (list_any-append (λ m. m == seq) (row_numbers (filter (is_early n) es) p) (flat_map (row_numbers (filter (is_early n) es)) ps))
