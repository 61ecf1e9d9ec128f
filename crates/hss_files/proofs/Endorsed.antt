-- Endorsements are read as they are written.
use Rattle.std.proofs.Common.{◌≡◌, ℕ, ◌≤◌, ◌&&◌, refl, ◌∙◌, ap, List, [], ◌++◌, length, Option, Some, append_assoc, append-nil}
use Rattle.std.specs.Int.{w32}
use Rattle.std.specs.Str.{bytes_eq}
use Rattle.avm_num.specs.Bytes.{◌>>=◌, kept, piece_at}
use Rattle.avm_num.specs.Lists.{be, sized_bytes}
use Rattle.avm_num.specs.Room.{Buffer, with_bytes}
use Rattle.avm_num.specs.Walk.{is_nil}
use Rattle.avm_num.proofs.Fields.{goes, reads_piece}
use Rattle.avm_model.specs.Parts.{signature_at}
use Rattle.avm_model.proofs.PartLaws.{reads_signature}
use Rattle.hss_model.specs.HssFile.{EndorsementData, endorsement_mark, endorsement_bytes, endorsement_of}

pub endorsed_again : (e : EndorsementData) → length e.upper ≤ 9324 → length e.bottom ≡ 56 → endorsement_of (endorsement_bytes e) ≡ Some e
unfolding endorsement_bytes endorsement_of
endorsed_again e short long =
    let regrouped : endorsement_bytes e ≡ endorsement_mark ++ (sized_bytes (be w32) e.upper ++ (e.bottom ++ [])) = rw (append-nil e.bottom) refl in
    let last : List ℕ → List ℕ × List ℕ → Option EndorsementData = λ upper bottom. kept (bytes_eq endorsement_mark endorsement_mark && is_nil bottom.1) (record { upper = upper; bottom = bottom.0 }) in
    let middle : List ℕ × List ℕ → Option EndorsementData = λ upper. piece_at 56 upper.1 >>= λ bottom. kept (bytes_eq endorsement_mark endorsement_mark && is_nil bottom.1) (record { upper = upper.0; bottom = bottom.0 }) in
    let first : List ℕ × List ℕ → Option EndorsementData = λ mark. signature_at mark.1 >>= λ upper. piece_at 56 upper.1 >>= λ bottom. kept (bytes_eq mark.0 endorsement_mark && is_nil bottom.1) (record { upper = upper.0; bottom = bottom.0 }) in
    ap endorsement_of regrouped ∙ goes (reads_piece 4) endorsement_mark (sized_bytes (be w32) e.upper ++ (e.bottom ++ [])) first refl ∙ goes reads_signature e.upper (e.bottom ++ []) middle short ∙ goes (reads_piece 56) e.bottom [] (last e.upper) long

-- its parts one after another
pub endorsed_written : (b : Buffer) (e : EndorsementData) (n : ℕ) → n ≡ length e.upper → with_bytes (with_bytes (with_bytes (with_bytes b endorsement_mark) (be w32 n)) e.upper) e.bottom ≡ with_bytes b (endorsement_bytes e)
unfolding endorsement_bytes
endorsed_written b e n len =
    let lists : ((b.bytes ++ endorsement_mark) ++ be w32 n) ++ e.upper ++ e.bottom ≡ b.bytes ++ endorsement_bytes e = rw len (simp append_assoc) in
    ap (λ (l : List ℕ). record b { bytes = l }) lists
