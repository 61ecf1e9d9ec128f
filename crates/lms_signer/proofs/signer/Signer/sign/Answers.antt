use Rattle.std.proofs.Common.{◌≡◌, ℕ, ◌≤◌, ◌+◌, length, arith, subst}
use Rattle.avm_model.proofs.KeyLaws.{sig_of-length}
use Rattle.avm_model.specs.Auth.{signed_text_of}
use Rattle.avm_model.specs.Keys.{KeyData}
use Rattle.jrnl_store.specs.Kept.{ticket_view}
use Rattle.lms_signer.specs.Signing.{ticket_signature}
use Rattle.lms_signer.proofs.signer.Signer.sign.Goals as goal

pub returns-clause-short : goal.returns-clause-short
returns-clause-short c =
    subst (λ (k : KeyData). length (ticket_signature k (ticket_view c.args.ticket.now)) ≤ 9324) c.self.view_is
    (fits (length (ticket_signature c.self.inside.key (ticket_view c.args.ticket.now))) c.signature_len.result _ _ (sig_of-length c.self.inside.key (ticket_view c.args.ticket.now).leaf (signed_text_of (ticket_view c.args.ticket.now).seq (ticket_view c.args.ticket.now).hash)) c.signature_len.ensures.value c.signature_len.ensures.small)
  where
    fits : (n len a b : ℕ) → n ≡ 44 + a + b → len ≡ 44 + a + b → len ≤ 9324 → n ≤ 9324
    fits n len a b e f le = omega (arith, e, f, le)
