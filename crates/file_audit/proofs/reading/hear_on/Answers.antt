use Rattle.std.proofs.Common.{◌≡◌, ◌∙◌, sym, ap, true, false, length, nat_le}
use Rattle.file_audit.proofs.Pieces.{short_file, on_front}
use Rattle.file_audit.proofs.reading.hear_on.Goals as goal

pub returns-then-not-takes_more-clause-heard : goal.returns-then-not-takes_more-clause-heard
returns-then-not-takes_more-clause-heard g c =
    λ key auths image bytes len hears read.
    let few : nat_le 16384 (length bytes) ≡ false = ap (nat_le 16384) len ∙ sym c.requires.begun ∙ sym c.takes_more.ensures ∙ c.if-not-takes_more.true in
    short_file _ key auths image bytes c.args.hearing.now few hears read

pub returns-clause-heard : goal.returns-clause-heard
returns-clause-heard g c =
    let many : nat_le 16384 c.args.front ≡ true = sym c.requires.begun ∙ sym c.takes_more.ensures ∙ c.if-not-takes_more.false in
    on_front c.hear_rest.result _ c.args.front c.args.hearing.now c.hear_rest.new.hearing many c.hear_rest.ensures.heard
