-- What a step of the plain program says in the words of the definitions.
use Rattle.std.specs.Prelude.{map}
use Rattle.avm_model.specs.Machine.{Output as OutputOf, Out as OutOf, Send as SendOf, Halt as HaltOf, Snap as SnapOf, Stepped as SteppedOf}
use Rattle.avm_plain.specs.declared.state.Output.{Output}
use Rattle.avm_plain.specs.declared.state.Output.TheVariants.{Out, Send, Halt, Snap}
use Rattle.avm_plain.specs.declared.state.Stepped.{Stepped}

abbrev pub output_of : Output → OutputOf
output_of (Out bytes) = OutOf bytes.items
output_of (Send peer number payload) = SendOf peer number payload.items
output_of (Halt cause value) = HaltOf cause value
output_of Snap = SnapOf

abbrev pub stepped_of : Stepped → SteppedOf
stepped_of r = record { state = r.state; outs = map output_of r.outs.items }
