use Rattle.std.proofs.Common.{◌≡◌, List, [], ◌∷◌, map, Some, ap, sym, subst, ◌∙◌, refl}
use Rattle.avm_model.specs.Timed.{takes, given}
use Rattle.avm_plain.specs.Part.{Advances}
use Rattle.avm_plain.specs.Replay.{GivenOf, plain, given_of, entry_of}
use Rattle.avm_plain.specs.declared.entries.Given.{Given}
use Rattle.avm_plain.specs.declared.replaying.Part.{Part}
use Rattle.avm_plain.proofs.Running.{advances_by_input}
use Rattle.avm_plain.proofs.replaying.advance.Goals as goal

pub returns : goal.returns
returns c =
    let i : GivenOf = given_of c.in-Some.first.now in
    let p : Part = record { entries = c.in_ok-one_entry.field-0; state = c.in-Some-2.next; took = 1 } in
    let all : c.args.inputs.now ≡ c.in-Some.first.now ∷ c.in-Some.field-0-1.now = c.in-Some.ensures.cases.0 in
    let took : takes plain c.args.state.now i ≡ Some c.in-Some-2.next = sym c.in_ok-next.ensures ∙ c.in-Some-2.is in
    let same : given_of c.in_ok-copy.field-0 ≡ i = c.in_ok-copy.ensures in
    let entries : map entry_of c.in_ok-one_entry.field-0.items ≡ given i ∷ [] =
    ap (map entry_of) c.in_ok-one_entry.ensures ∙ ap (λ (g : GivenOf). given g ∷ []) same in
    subst (λ (gs : List Given). Advances c.args.state.now (map given_of gs) c.args.end p) (sym all)
    (advances_by_input c.args.state.now i (map given_of c.in-Some.field-0-1.now) c.args.end p took entries refl)
