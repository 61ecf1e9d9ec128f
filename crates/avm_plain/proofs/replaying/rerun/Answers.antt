use Rattle.std.proofs.Common.{◌≡◌, ◌-◌, ◌++◌, map, length, Option, ap, subst, ◌∙◌, arith, rules}
use Rattle.std.proofs.lemmas.List.{length-map, length-drop}
use Rattle.avm_plain.specs.Part.{Advances, Advancing}
use Rattle.avm_plain.specs.Replay.{given_of}
use Rattle.avm_plain.specs.declared.replaying.Part.{Part}
use Rattle.avm_plain.proofs.Running.{goes_on}
use Rattle.avm_plain.proofs.replaying.rerun.Goals as goal

pub behind-rest-requires : goal.behind-rest-requires
behind-rest-requires c =
    let adv : Advances c.loop-entries.state (map given_of c.loop-entries.rest.now) c.args.end c.in-Some.part =
    subst (λ (o : Option Part). Advancing c.loop-entries.state (map given_of c.loop-entries.rest.now) c.args.end o) c.in-Some.is c.in_ok-part.ensures in
    record { inside = omega (arith, adv.took, length-map c.loop-entries.rest.now given_of); few = adv.few }

pub loop-entries-preserved : goal.loop-entries-preserved
loop-entries-preserved c =
    let adv : Advances c.loop-entries.state (map given_of c.loop-entries.rest.now) c.args.end c.in-Some.part =
    subst (λ (o : Option Part). Advancing c.loop-entries.state (map given_of c.loop-entries.rest.now) c.args.end o) c.in-Some.is c.in_ok-part.ensures in
    let joined : c.append.new.self.items ≡ c.loop-entries.entries.items ++ c.in-Some.part.entries.items = search rules in
    goes_on c.loop-entries.entries.items c.in-Some.part.entries.items c.append.new.self.items c.loop-entries.state c.in-Some.part.state
    c.loop-entries.rest.now c.behind-rest.result.now c.in-Some.part.took c.args.end _ joined c.behind-rest.ensures adv.run c.loop-entries.invariant

pub loop-entries-smaller : goal.loop-entries-smaller
loop-entries-smaller c =
    let adv : Advances c.loop-entries.state (map given_of c.loop-entries.rest.now) c.args.end c.in-Some.part =
    subst (λ (o : Option Part). Advancing c.loop-entries.state (map given_of c.loop-entries.rest.now) c.args.end o) c.in-Some.is c.in_ok-part.ensures in
    let all = length-map c.loop-entries.rest.now given_of in
    let left : length c.behind-rest.result.now ≡ length c.loop-entries.rest.now - c.in-Some.part.took =
    ap length c.behind-rest.ensures ∙ length-drop c.in-Some.part.took c.loop-entries.rest.now in
    omega (arith, adv.less, all, left)
