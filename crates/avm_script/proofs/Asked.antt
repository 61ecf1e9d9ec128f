-- A command's words, by whether they are pairs of its options and values.
use Rattle.std.proofs.Common.{◌≡◌, true, false, List, ℕ, None}
use Rattle.avm_model.specs.Words.{are_pairs}
use Rattle.avm_script.specs.Job.{Command, asked_of}

pub refused : (command : Command) (words : List (List ℕ)) → are_pairs command.options words ≡ false → asked_of command words ≡ None
unfolding asked_of
refused command words e = rw e

pub asked : (command : Command) (words : List (List ℕ)) → are_pairs command.options words ≡ true → asked_of command words ≡ command.job words
unfolding asked_of
asked command words e = rw e
