use Rattle.std.proofs.Common.{◌≡◌, true, sym, ◌∙◌, ap}
use Rattle.avm_script.specs.Plain.{plain}
use Rattle.avm_script.proofs.Spelled.{plain_no, plain_parsed}
use Rattle.world_schedule.proofs.values.number.Goals as goal

pub returns-then-not-is_plain : goal.returns-then-not-is_plain
returns-then-not-is_plain c = sym (plain_no c.args.text.now (ap plain (sym c.as_bytes.ensures.value) ∙ sym c.is_plain.ensures ∙ c.if-not-is_plain.true))

pub returns : goal.returns
returns c =
    let p : plain c.args.text.now ≡ true = ap plain (sym c.as_bytes.ensures.value) ∙ sym c.is_plain.ensures ∙ c.if-not-is_plain.false in
    c.ok.ensures.value ∙ plain_parsed c.args.text.now c.parse.result c.parse.ensures.value.0 p
