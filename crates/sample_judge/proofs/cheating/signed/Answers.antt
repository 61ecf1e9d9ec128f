use Rattle.std.proofs.Common.{◌≡◌, ◌<◌, ◌^◌, ◌++◌, List, ℕ, length, ap, ◌∙◌, arith}
use Rattle.avm_model.proofs.KeyLaws.{sig_of-length}
use Rattle.avm_model.specs.Keys.{sig_of}
use Rattle.avm_model.specs.LmsTypes.{height_of}
use Rattle.avm_num.specs.Room.{Buffer}
use Rattle.sample_judge.proofs.cheating.signed.Goals as goal

pub returns-clause-short : goal.returns-clause-short
returns-clause-short c =
    let sig : List ℕ = sig_of c.args.key.now 1023 c.signed_text-text.result in
    let is : c.sign.new.out.bytes ≡ sig = ap (λ (b : Buffer). b.bytes) c.sign.ensures.value ∙ ap (λ (b : Buffer). b.bytes ++ sig) c.in_ok-signature.ensures in
    omega (arith, ap length is, sig_of-length c.args.key.now 1023 c.signed_text-text.result, c.signature_len.ensures.value, c.signature_len.ensures.small)

low : (lms : ℕ) → lms ≡ 6 → 1023 < 2 ^ height_of lms
unfolding height_of
low lms is = rw is (omega arith)

pub sign-requires-clause-leaf : goal.sign-requires-clause-leaf
sign-requires-clause-leaf c = low c.args.key.now.lms c.requires
