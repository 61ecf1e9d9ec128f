-- What an input of the plain program says in the words of the definitions.
use Rattle.avm_model.specs.Input.{InputState, Console as ConsoleOf, Clock as ClockOf, Message as MessageOf, Acked as AckedOf}
use Rattle.avm_plain.specs.declared.taking.Input.{Input}
use Rattle.avm_plain.specs.declared.taking.Input.TheVariants.{Console, Clock, Message, Acked}

abbrev pub input_of : Input → InputState
input_of (Console bytes) = ConsoleOf bytes.items
input_of (Clock value) = ClockOf value
input_of (Message number message) = MessageOf message.peer number message.payload
input_of (Acked peer number) = AckedOf peer number
