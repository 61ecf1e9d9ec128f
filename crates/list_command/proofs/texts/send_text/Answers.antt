use Rattle.std.proofs.Common.{◌≡◌, ◌++◌, ◌∷◌, IfOk, List, ℕ, string_bytes, sym, subst}
use Rattle.std.specs.Fmt.{decimal}
use Rattle.list_model.specs.Lines.{some_hex}
use Rattle.list_command.proofs.WordEnds.{words_on}
use Rattle.list_command.proofs.texts.send_text.Goals as goal

pub returns : goal.returns
returns c =
    let here : IfOk c.format.result (λ t. string_bytes t ≡ 32 ∷ (decimal c.args.peer ++ (32 ∷ (decimal c.args.number ++ some_hex c.args.payload.now)))) = rw c.in_ok-payload.ensures at c.format.ensures.ok in
    subst (λ (l : List ℕ). IfOk c.format.result (λ t. string_bytes t ≡ l)) (sym (words_on (decimal c.args.peer) (decimal c.args.number) (some_hex c.args.payload.now))) here
