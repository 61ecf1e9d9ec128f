-- Contents and entries: their sizes, and how they are spelled.
use Rattle.std.proofs.Common.{◌≡◌, ℕ, ◌+◌, ◌≤◌, List, [], ◌∷◌, ◌++◌, length, sym, ap, ◌∙◌, append_assoc, length-append, arith}
use Rattle.std.specs.Int.{w32, w64}
use Rattle.avm_num.specs.Lists.{be, one, sized_bytes}
use Rattle.avm_num.specs.Room.{Buffer, with_bytes}
use Rattle.avm_num.proofs.Lengths.{be32, be64, one1}
use Rattle.avm_model.specs.Content.{ContentData, boot, snap, conin, clock, recv, acked, out, send, halt, kind_of, content_bytes, send_data, recv_data, FitsContent}
use Rattle.avm_model.specs.Frame.{frame_bytes}
use Rattle.journal_model.specs.Part.{Part, entry, keep, seal}
use Rattle.journal_model.specs.Spelling.{part_bytes}
use Rattle.log_entry.proofs.Lengths.{send_length, content_limit}
use Rattle.log_entry.proofs.PacketLaws.{send_parts, recv_parts}
use Rattle.record_batch.specs.Spelled.{content_size, entry_front, numbered}

behind_count : (count : ℕ) (rest : List ℕ) → length (be w64 count ++ rest) ≡ 8 + length rest
behind_count count rest = omega (arith, length-append (be w64 count) rest, be64 count)

pub content_long : (c : ContentData) → length (content_bytes c) ≡ content_size c
content_long (boot count root) = behind_count count root
content_long (snap count root) = behind_count count root
content_long (conin count bytes) = behind_count count bytes
content_long (clock count value) = omega (arith, behind_count count (be w64 value), be64 value)
content_long (recv count packet) = ap length (recv_parts (recv_data count packet)) ∙ behind_count count packet
content_long (acked count packet) = behind_count count packet
content_long (out count bytes) = behind_count count bytes
content_long (send count peer number payload) = send_length (send_data count peer number payload)
content_long (halt count cause value) = omega (arith, behind_count count (be w32 cause ++ be w32 value), length-append (be w32 cause) (be w32 value), be32 cause, be32 value)

pub size_limit : (c : ContentData) → FitsContent c → content_size c ≤ 19814
size_limit c fits = omega (arith, content_limit c fits, content_long c)

pub send_spells : (b : Buffer) (count peer number : ℕ) (payload : List ℕ) → with_bytes (with_bytes (with_bytes (with_bytes b (be w64 count)) (be w32 peer)) (be w64 number)) payload ≡ with_bytes b (content_bytes (send count peer number payload))
send_spells b count peer number payload =
    let e : ((b.bytes ++ be w64 count) ++ be w32 peer) ++ be w64 number ++ payload ≡ b.bytes ++ (be w64 count ++ (be w32 peer ++ (be w64 number ++ payload))) = simp append_assoc in
    ap (λ (x : List ℕ). record b { bytes = x }) (e ∙ ap (λ (x : List ℕ). b.bytes ++ x) (sym (send_parts (send_data count peer number payload))))

pub entry_spells : (b : Buffer) (seq : ℕ) (c : ContentData) (size : ℕ) → size ≡ content_size c
    → with_bytes (with_bytes b (entry_front seq (kind_of c) size)) (content_bytes c) ≡ with_bytes b (part_bytes (numbered seq c))
unfolding part_bytes frame_bytes one
entry_spells b seq c size same =
    let e : size ≡ length (content_bytes c) = same ∙ sym (content_long c) in
    let front : List ℕ = be w64 seq ++ (kind_of c ∷ []) ++ be w32 size in
    let tail : front ++ content_bytes c ≡ be w64 seq ++ (kind_of c ∷ []) ++ (be w32 (length (content_bytes c)) ++ content_bytes c) = rw e (append_assoc (be w64 seq ++ (kind_of c ∷ [])) (be w32 (length (content_bytes c))) (content_bytes c)) in
    let all : (b.bytes ++ entry_front seq (kind_of c) size) ++ content_bytes c ≡ b.bytes ++ (1 ∷ (front ++ content_bytes c)) = append_assoc b.bytes (entry_front seq (kind_of c) size) (content_bytes c) in
    ap (λ (x : List ℕ). record b { bytes = x }) (all ∙ ap (λ (x : List ℕ). b.bytes ++ (1 ∷ x)) tail)

-- how many bytes an entry has
pub entry_long : (seq : ℕ) (c : ContentData) → length (part_bytes (numbered seq c)) ≡ 14 + content_size c
unfolding part_bytes frame_bytes
entry_long seq c =
    omega (arith, content_long c, length-append (be w64 seq ++ one (kind_of c)) (sized_bytes (be w32) (content_bytes c)), length-append (be w64 seq) (one (kind_of c)), be64 seq, one1 (kind_of c), length-append (be w32 (length (content_bytes c))) (content_bytes c), be32 (length (content_bytes c)))

pub recv_whole : (b : Buffer) (count : ℕ) (packet : List ℕ) → with_bytes b (be w64 count ++ packet) ≡ with_bytes b (content_bytes (recv count packet))
recv_whole b count packet = ap (λ (x : List ℕ). with_bytes b x) (sym (recv_parts (recv_data count packet)))

-- a part has a byte or more
pub part_some : (p : Part) → 1 ≤ length (part_bytes p)
unfolding part_bytes
part_some (entry f) = omega arith
part_some seal = omega arith
part_some (keep k) = omega arith
