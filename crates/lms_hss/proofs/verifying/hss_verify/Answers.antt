use Rattle.std.proofs.Common.{◌∙◌, sym, ap, subst, rules, List, ℕ, IsTrue, ◌↔◌}
use Rattle.avm_model.specs.Keys.{public_file}
use Rattle.avm_model.specs.LmsValid.{Valid}
use Rattle.hss_model.specs.Hss.{signature_length, bottom_of, upper_of, lower_of}
use Rattle.lms_hss.proofs.HssLaws.{no_key_length, no_key, no_length, no_mark, by_parts, behind_four, top_public}
use Rattle.lms_hss.proofs.verifying.hss_verify.Goals as goal

pub returns-then-key-ne60 : goal.returns-then-key-ne60
returns-then-key-ne60 c = no_key_length c.args.key.now c.args.text.now c.args.sig.now c.if-key-ne60.true

pub returns-then-not-is_key : goal.returns-then-not-is_key
returns-then-not-is_key c = no_key c.args.key.now c.args.text.now c.args.sig.now (sym c.is_key.ensures ∙ c.if-not-is_key.true)

pub signature_len-n-requires : goal.signature_len-n-requires
signature_len-n-requires c = ap public_file (behind_four c.args.key.now) ∙ top_public c.args.key.now (sym c.is_key.ensures ∙ c.if-not-is_key.false)

pub returns-then-sig-n : goal.returns-then-sig-n
returns-then-sig-n c = no_length c.args.key.now c.args.text.now c.args.sig.now c.signature_len-n.result (c.signature_len-n.ensures.value ∙ ap signature_length (behind_four c.args.key.now)) c.if-sig-n.true

pub returns-then-ne : goal.returns-then-ne
returns-then-ne c = no_mark c.args.key.now c.args.text.now c.args.sig.now (search rules)

pub returns : goal.returns
returns c =
    by_parts c.args.key.now c.args.text.now c.args.sig.now c.signature_len-n.result c.has_valid_parts.result (sym c.is_key.ensures ∙ c.if-not-is_key.false) (c.signature_len-n.ensures.value ∙ ap signature_length (behind_four c.args.key.now)) (search rules)
    (subst (λ (l : List ℕ). IsTrue c.has_valid_parts.result ↔ (Valid l (bottom_of c.signature_len-n.result c.args.sig.now) (upper_of c.signature_len-n.result c.args.sig.now) × Valid (bottom_of c.signature_len-n.result c.args.sig.now) c.args.text.now (lower_of c.signature_len-n.result c.args.sig.now))) (behind_four c.args.key.now) c.has_valid_parts.ensures)
