use Rattle.std.proofs.Common.{◌≡◌, length, ap, ◌∙◌, arith}
use Rattle.avm_model.specs.HeadState.{data_of}
use Rattle.avm_model.specs.Sizes.{head_size}
use Rattle.avm_model.proofs.HeadBounds.{size_most}
use Rattle.avm_model.proofs.HeadLength.{head_length}
use Rattle.snap_state.proofs.writing.head_len.Goals as goal

pub returns-clause-most : goal.returns-clause-most
returns-clause-most c =
    let h = data_of c.args.machine.now.state in
    let most = size_most h c.bounds.ensures.head in
    let size : length c.bytes.result.now ≡ head_size h = ap length (c.bytes.ensures.value ∙ c.draft_of.ensures) ∙ head_length h c.head_fits.ensures in
    omega (arith, most, size)
