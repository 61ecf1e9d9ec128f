use Rattle.std.proofs.Common.{◌≡◌, ℕ, List, ap, subst, ◌∙◌}
use Rattle.std.specs.Prelude.{OnErr, OnOk}
use Rattle.avm_outside.specs.Outlet.{auth}
use Rattle.record_press.specs.Press.{PressData}
use Rattle.record_turn.proofs.sealing.release_auth.Goals as goal

pub returns-clause-released : goal.returns-clause-released
returns-clause-released g c =
    let is = c.bytes.ensures ∙ ap (λ (p : PressData). p.bytes) (c.make_auth.ensures 0) in
    subst (λ (x : List ℕ). OnOk c.authenticator.result (g.O.Outlet.held c.authenticator.new.self ≡ g.O.Outlet.adding (auth x) (g.O.Outlet.held c.args.outlet.now))) is c.authenticator.ensures.added

pub returns-clause-failed : goal.returns-clause-failed
returns-clause-failed g c =
    let is = c.bytes.ensures ∙ ap (λ (p : PressData). p.bytes) (c.make_auth.ensures 0) in
    subst (λ (x : List ℕ). OnErr c.authenticator.result (g.O.Outlet.tearing (auth x) (g.O.Outlet.held c.args.outlet.now) (g.O.Outlet.held c.authenticator.new.self))) is c.authenticator.ensures.failed

pub returns-clause-key : goal.returns-clause-key
returns-clause-key g c = ap (λ (p : PressData). p.key) (c.make_auth.ensures 0)
