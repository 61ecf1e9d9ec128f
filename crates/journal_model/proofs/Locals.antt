-- A header needs no more than so many bytes: what is read of it in a front is what is read in all.
use Rattle.avm_num.proofs.Locals.{behind_by, Local, local_number, local_piece, local_byte, local_kept, local_bind, local_le, local_judged, local_value, local_limited, local_list}
use Rattle.std.proofs.Common.{◌≡◌, ℕ, ◌+◌, ◌*◌, ◌-◌, ◌^◌, ◌≤◌, ◌==◌, Bool, true, false, ◌&&◌, cond, nat_le, ltb, List, [], ◌∷◌, ◌++◌, length, take, drop, Option, Some, None, is_some, refl, sym, ap, subst, ◌∙◌, arith, leb-true, length-append, append-nil, take-append-drop}
use Rattle.std.specs.Int.{w32, w64}
use Rattle.std.proofs.lemmas.Bool.{ltb-false, leb-false}
use Rattle.std.proofs.lemmas.List.{length-take-le, take_all, drop_all}
use Rattle.avm_num.specs.Bytes.{◌>>=◌, number_at, piece_at, byte_at, kept}
use Rattle.std.specs.Str.{bytes_eq}
use Rattle.avm_num.specs.Lists.{list_at, limited_at}
use Rattle.avm_num.specs.Walk.{is_nil}
use Rattle.avm_model.specs.Frame.{frame_at}
use Rattle.avm_model.specs.Memory.{is_page_count}
use Rattle.avm_model.specs.Segment.{page_count}
use Rattle.avm_num.proofs.Numbers.{bind_some, kept_some, short_some, and_true}
use Rattle.avm_model.proofs.PageCounts.{few_pages}
use Rattle.journal_model.specs.Journal.{IsFront, journal_of, journal_from, behind_header, NoStore}
use Rattle.journal_model.proofs.Gates.{from_closed}
use Rattle.journal_model.specs.Part.{longest_head, is_signed_kind}
use Rattle.journal_model.specs.Header.{HeaderData, few_carried_at, judged_carried, is_first, is_base, ascend, journal_magic, magic_at, pages_in, is_store_key, most_leaves, carried_at, main_at, base_at, version_at, header_at, longest_carried}

local_magic : Local magic_at (4 + 0)
unfolding magic_at
local_magic = local_bind (λ x bytes. kept (bytes_eq x journal_magic) (tt, bytes)) 4 0 (local_piece 4) (λ x. local_kept (bytes_eq x journal_magic) tt)

abbrev carried_bound : ℕ
carried_bound = 8 + (32 + (4 + longest_carried + 0))

local_carried : Local carried_at carried_bound
unfolding carried_at
local_carried =
    local_bind (λ leaf bytes. piece_at 32 bytes >>= λ before. limited_at longest_carried before.1 >>= λ raw. frame_at raw.0 >>= λ frame. kept (is_nil frame.1 && is_signed_kind frame.0.kind) (record { leaf = leaf; before = before.0; frame = frame.0 }, raw.1)) 8 (32 + (4 + longest_carried + 0)) (local_number w64) (λ leaf.
    local_bind (λ before bytes. limited_at longest_carried bytes >>= λ raw. frame_at raw.0 >>= λ frame. kept (is_nil frame.1 && is_signed_kind frame.0.kind) (record { leaf = leaf; before = before; frame = frame.0 }, raw.1)) 32 (4 + longest_carried + 0) (local_piece 32) (λ before.
    local_bind (λ raw bytes. frame_at raw >>= λ frame. kept (is_nil frame.1 && is_signed_kind frame.0.kind) (record { leaf = leaf; before = before; frame = frame.0 }, bytes)) (4 + longest_carried) 0 (local_limited longest_carried) (λ raw.
    local_value 0 (frame_at raw) (λ frame bytes. kept (is_nil frame.1 && is_signed_kind frame.0.kind) (record { leaf = leaf; before = before; frame = frame.0 }, bytes)) (λ frame e. local_kept (is_nil frame.1 && is_signed_kind frame.0.kind) (record { leaf = leaf; before = before; frame = frame.0 })))))

local_few : Local few_carried_at (1 + 30 * carried_bound)
unfolding few_carried_at
local_few = local_bind (λ count bytes. list_at carried_at count bytes >>= λ cs. kept (nat_le count 30) cs) 1 (30 * carried_bound) local_byte (λ count. local_judged 30 count (30 * carried_bound) (list_at carried_at count) (λ le.
    local_le (count * carried_bound) (30 * carried_bound) (omega (arith, le)) (local_list carried_bound count local_carried)))

local_ascending : (first leaves : ℕ) → Local (judged_carried first leaves) (1 + 30 * carried_bound + 0)
unfolding judged_carried
local_ascending first leaves = local_bind (λ cs bytes. kept (ascend 0 0 first leaves cs) (cs, bytes)) (1 + 30 * carried_bound) 0 local_few (λ cs. local_kept (ascend 0 0 first leaves cs) cs)

local_base : (h : HeaderData) → Local (base_at h) (1 + 30 * carried_bound + 0 + 0)
unfolding base_at
local_base h = local_bind (λ cs bytes. kept (is_base h) (record h { carried = cs }, bytes)) (1 + 30 * carried_bound + 0) 0 (local_ascending h.first h.leaves) (λ cs. local_kept (is_base h) (record h { carried = cs }))

local_version : (version : ℕ) (h : HeaderData) → Local (version_at version h) (1 + 30 * carried_bound + 0 + 0)
unfolding version_at
local_version version h = go (version == 1) (version == 2)
  where
    go : (a b : Bool) → Local (λ bytes. cond a (kept (is_first h) (h, bytes)) (cond b (base_at h bytes) None)) (1 + 30 * carried_bound + 0 + 0)
    go true b = local_le 0 (1 + 30 * carried_bound + 0 + 0) (omega arith) (local_kept (is_first h) h)
    go false true = local_base h
    go false false = record { short = λ bytes p e. absurd cc; same = λ front more le. refl; again = λ bytes p e. absurd cc }

few_in : (head : List ℕ) (n : ℕ) → pages_in head ≡ Some n → n ≤ 4096
unfolding pages_in
few_in head n e =
    let a = bind_some (page_count head) _ n e in
    let k = kept_some (is_page_count a.0.0) a.0.0 n a.2 in
    subst (λ (m : ℕ). m ≤ 4096) k.1 (few_pages a.0.0 k.0)

abbrev pages_bound : ℕ
pages_bound = 4096 * 4096

abbrev main_bound : ℕ
main_bound = 56 + (8 + (32 + (8 + (4 + longest_head + (pages_bound + 0)))))

-- what stands behind each field
abbrev made : List ℕ → ℕ → List ℕ → ℕ → List ℕ → List ℕ → HeaderData
made key first before leaves head pages = record { key = key; first = first; before = before; leaves = leaves; head = head; pages = pages; carried = [] }

abbrev may_be : List ℕ → ℕ → Bool
may_be key leaves = is_store_key key && nat_le leaves (most_leaves key)

abbrev behind_count : List ℕ → ℕ → List ℕ → ℕ → List ℕ → ℕ → List ℕ → Option (HeaderData × List ℕ)
behind_count key first before leaves head count bytes = piece_at (4096 * count) bytes >>= λ pages. kept (may_be key leaves) (made key first before leaves head pages.0, pages.1)

abbrev behind_head : List ℕ → ℕ → List ℕ → ℕ → List ℕ → List ℕ → Option (HeaderData × List ℕ)
behind_head key first before leaves head bytes = pages_in head >>= λ count. behind_count key first before leaves head count bytes

abbrev behind_leaves : List ℕ → ℕ → List ℕ → ℕ → List ℕ → Option (HeaderData × List ℕ)
behind_leaves key first before leaves bytes = limited_at longest_head bytes >>= λ head. behind_head key first before leaves head.0 head.1

abbrev behind_before : List ℕ → ℕ → List ℕ → List ℕ → Option (HeaderData × List ℕ)
behind_before key first before bytes = number_at w64 bytes >>= λ leaves. behind_leaves key first before leaves.0 leaves.1

abbrev behind_first : List ℕ → ℕ → List ℕ → Option (HeaderData × List ℕ)
behind_first key first bytes = piece_at 32 bytes >>= λ before. behind_before key first before.0 before.1

abbrev behind_key : List ℕ → List ℕ → Option (HeaderData × List ℕ)
behind_key key bytes = number_at w64 bytes >>= λ first. behind_first key first.0 first.1

local_count : (key : List ℕ) (first : ℕ) (before : List ℕ) (leaves : ℕ) (head : List ℕ) (count : ℕ) → count ≤ 4096 → Local (behind_count key first before leaves head count) (pages_bound + 0)
local_count key first before leaves head count few =
    local_bind (λ pages bytes. kept (may_be key leaves) (made key first before leaves head pages, bytes)) pages_bound 0 (local_le (4096 * count) pages_bound (omega (arith, few)) (local_piece (4096 * count))) (λ pages. local_kept (may_be key leaves) (made key first before leaves head pages))

local_head : (key : List ℕ) (first : ℕ) (before : List ℕ) (leaves : ℕ) (head : List ℕ) → Local (behind_head key first before leaves head) (pages_bound + 0)
local_head key first before leaves head = local_value (pages_bound + 0) (pages_in head) (behind_count key first before leaves head) (λ count e. local_count key first before leaves head count (few_in head count e))

local_main : Local main_at main_bound
unfolding main_at
local_main =
    local_bind behind_key 56 (8 + (32 + (8 + (4 + longest_head + (pages_bound + 0))))) (local_piece 56) (λ key.
    local_bind (behind_first key) 8 (32 + (8 + (4 + longest_head + (pages_bound + 0)))) (local_number w64) (λ first.
    local_bind (behind_before key first) 32 (8 + (4 + longest_head + (pages_bound + 0))) (local_piece 32) (λ before.
    local_bind (behind_leaves key first before) 8 (4 + longest_head + (pages_bound + 0)) (local_number w64) (λ leaves.
    local_bind (behind_head key first before leaves) (4 + longest_head) (pages_bound + 0) (local_limited longest_head) (λ head. local_head key first before leaves head)))))

pub header_bound : ℕ
header_bound = 4 + 0 + (1 + (main_bound + (1 + 30 * carried_bound + 0 + 0)))

pub local_header : Local header_at header_bound
unfolding header_at header_bound
local_header =
    local_bind (λ word bytes. byte_at bytes >>= λ version. main_at version.1 >>= λ main. version_at version.0 main.0 main.1) (4 + 0) (1 + (main_bound + (1 + 30 * carried_bound + 0 + 0))) local_magic (λ word.
    local_bind (λ version bytes. main_at bytes >>= λ main. version_at version main.0 main.1) 1 (main_bound + (1 + 30 * carried_bound + 0 + 0)) local_byte (λ version.
    local_bind (λ main bytes. version_at version main bytes) main_bound (1 + 30 * carried_bound + 0 + 0) local_main (λ main. local_version version main)))

pub header_small : header_bound ≤ 2 ^ 25
unfolding header_bound
header_small = omega arith

-- a header is read from the front of the bytes as from all
pub header_front : (bytes : List ℕ) (n : ℕ) → header_bound ≤ n → header_at bytes ≡ behind_by (drop n bytes) (header_at (take n bytes))
header_front bytes n le = go (nat_le n (length bytes)) refl
  where
    nothing_behind : {A : Type 0} (r : Option (A × List ℕ)) → r ≡ behind_by [] r
    nothing_behind None = refl
    nothing_behind (Some p) = ap (λ (l : List ℕ). Some (p.0, l)) (sym (append-nil p.1))

    go : (b : Bool) → nat_le n (length bytes) ≡ b → header_at bytes ≡ behind_by (drop n bytes) (header_at (take n bytes))
    go true e =
        let long = leb-true _ _ e in
        ap header_at (sym (take-append-drop n bytes)) ∙ local_header.same (take n bytes) (drop n bytes) (omega (arith, le, length-take-le n bytes long))
    go false e =
        let few = leb-false _ _ e in
        rw (take_all n bytes (omega (arith, few)), drop_all n bytes (omega (arith, few))) (nothing_behind (header_at bytes))

-- the header's bytes are a front of the journal that has no record yet
pub header_stands : (bytes : List ℕ) (p : HeaderData × List ℕ) → header_at bytes ≡ Some p → (front : List ℕ) × (bytes ≡ front ++ p.1) × IsFront (record { header = p.0; records = []; mark = None }) front
unfolding journal_of
header_stands bytes p e =
    let t = local_header.again bytes p e in (
      t.0,
      t.1,
      λ gate rest.
          let len : length (t.0 ++ gate ∷ rest) - length (gate ∷ rest) ≡ length t.0 = omega (arith, length-append t.0 (gate ∷ rest)) in
          ap (behind_header (length (t.0 ++ gate ∷ rest))) (t.2 (gate ∷ rest)) ∙ ap (λ (n : ℕ). journal_from (record { journal = record { header = p.0; records = []; mark = None }; place = n; bytes = gate ∷ rest })) len,
    )

-- no header, or nothing behind it
pub header_lacking : (bytes : List ℕ) → header_at bytes ≡ None → journal_of bytes ≡ NoStore
unfolding journal_of
header_lacking bytes e = rw e refl

pub header_alone : (bytes : List ℕ) (h : HeaderData) → header_at bytes ≡ Some (h, []) → journal_of bytes ≡ NoStore
unfolding journal_of
header_alone bytes h e = ap (behind_header (length bytes)) e ∙ from_closed (record { journal = record { header = h; records = []; mark = None }; place = length bytes - 0; bytes = [] }) refl

-- ---- what a header's fields hold

limited_short : (limit : ℕ) (bytes : List ℕ) (p : List ℕ × List ℕ) → limited_at limit bytes ≡ Some p → length p.0 ≤ limit
unfolding limited_at
limited_short limit bytes p e =
    let a = bind_some (number_at w32 bytes) _ p e in
    let b = bind_some (piece_at a.0.0 a.0.1) _ p a.2 in
    let k = kept_some (nat_le a.0.0 limit) b.0 p b.2 in
    let g = short_some (ltb (length a.0.1) a.0.0) (take a.0.0 a.0.1, drop a.0.0 a.0.1) b.0 b.1 in
    let r : length (take a.0.0 a.0.1) ≡ length p.0 = ap (λ (q : List ℕ × List ℕ). length q.0) (g.1 ∙ k.1) in
    omega (arith, r, leb-true _ _ k.0, length-take-le a.0.0 a.0.1 (ltb-false _ _ g.0))

pub record HasFields (h : HeaderData) : Type 0 where
  pub head : length h.head ≤ longest_head
  pub pages : is_some (pages_in h.head) ≡ true
  pub key : is_store_key h.key ≡ true
  pub leaves : h.leaves ≤ most_leaves h.key

pub main_fields : (bytes : List ℕ) (p : HeaderData × List ℕ) → main_at bytes ≡ Some p → HasFields p.0
unfolding main_at
main_fields bytes p e =
    let a = bind_some (piece_at 56 bytes) _ p e in
    let b = bind_some (number_at w64 a.0.1) _ p a.2 in
    let c = bind_some (piece_at 32 b.0.1) _ p b.2 in
    let d = bind_some (number_at w64 c.0.1) _ p c.2 in
    let f = bind_some (limited_at longest_head d.0.1) _ p d.2 in
    let g = bind_some (pages_in f.0.0) _ p f.2 in
    let i = bind_some (piece_at (4096 * g.0) f.0.1) _ p g.2 in
    let k = kept_some (may_be a.0.0 d.0.0) (made a.0.0 b.0.0 c.0.0 d.0.0 f.0.0 i.0.0, i.0.1) p i.2 in
    let t = and_true (is_store_key a.0.0) (nat_le d.0.0 (most_leaves a.0.0)) k.0 in
    let fields : HasFields (made a.0.0 b.0.0 c.0.0 d.0.0 f.0.0 i.0.0) = record { head = limited_short longest_head d.0.1 f.0 f.1; pages = ap is_some g.1; key = t.0; leaves = leb-true _ _ t.1 } in
    subst (λ (q : HeaderData × List ℕ). HasFields q.0) k.1 fields

pub main_shorter : (bytes : List ℕ) (p : HeaderData × List ℕ) → main_at bytes ≡ Some p → length p.1 ≤ length bytes
main_shorter bytes p e = let t = local_main.again bytes p e in let l : length bytes ≡ length (t.0 ++ p.1) = ap length t.1 in omega (arith, l, length-append t.0 p.1)

pub header_shorter : (bytes : List ℕ) (p : HeaderData × List ℕ) → header_at bytes ≡ Some p → length p.1 ≤ length bytes
header_shorter bytes p e = let t = local_header.again bytes p e in let l : length bytes ≡ length (t.0 ++ p.1) = ap length t.1 in omega (arith, l, length-append t.0 p.1)
