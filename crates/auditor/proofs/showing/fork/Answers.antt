use Rattle.std.proofs.Common.{◌≡◌, ℕ, List, [], Some, slice_get, refl, sym}
use Rattle.avm_model.specs.Frame.{FrameData}
use Rattle.avm_model.specs.Auth.{AuthData}
use Rattle.avm_model.specs.Evidence as evid
use Rattle.avm_model.specs.Holds.{upto, with_two}
use Rattle.auditor.proofs.Walking.{spell}
use Rattle.auditor.proofs.showing.fork.Goals as goal

made : (key before cut : List ℕ) (start : ℕ) (fs : List FrameData) (auths : List AuthData) (i j : ℕ) (top other : AuthData) → slice_get auths j ≡ Some top → slice_get auths i ≡ Some other → cut ≡ spell (upto top.seq fs)
    → Some (evid.fork key start before cut top other) ≡ with_two (λ (t o : AuthData). evid.fork key start before (spell (upto t.seq fs)) t o) (slice_get auths j) (slice_get auths i)
made key before cut start fs auths i j top other p q e = rw (p, q, e) refl

pub returns : goal.returns
returns c = λ fs fits e. made c.args.key.now c.args.before.now.0 _ c.args.start fs c.args.auths c.args.i c.args.j _ _ (sym (rw c.again.ensures at c.in_ok-top.ensures)) (sym c.in_ok-other.ensures) (c.cut_after.ensures [] fs fits e e)
