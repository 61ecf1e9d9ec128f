use Rattle.std.proofs.Common.{List, ℕ, ap, ◌∙◌}
use Rattle.hss_model.specs.Hss.{hss_key, hss_valid}
use Rattle.hss_files.proofs.Tests.{hss_test}
use Rattle.hss_files.proofs.judging.is_valid.Goals as goal

pub returns : goal.returns
returns c =
    hss_test c.hss_verify.result c.key_of.result c.signed_text.result c.args.auth.now.sig.now c.hss_verify.ensures
    ∙ ap (λ (k : List ℕ). hss_valid k c.signed_text.result c.args.auth.now.sig.now) c.key_of.ensures
    ∙ ap (λ (t : List ℕ). hss_valid (hss_key c.args.top.now) t c.args.auth.now.sig.now) c.signed_text.ensures
