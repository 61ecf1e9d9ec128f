use Rattle.std.proofs.Common.{◌≡◌, ◌≤◌, ◌+◌, ◌^◌, not, length}
use Rattle.std.specs.Str.{bytes_eq}
use Rattle.avm_model.specs.Basics.{first_at}
use Rattle.hss_model.specs.Hss.{bottom_of}
use Rattle.hss_auths.proofs.narrowing.first_mixed.Given as goal

abbrev pub invariant-loop-auth : goal.invariant-loop-auth
invariant-loop-auth l =
    (first_at (λ a. not (bytes_eq (bottom_of l.n a.sig) l.bottom)) l.i l.auth-iterator ≡ first_at (λ a. not (bytes_eq (bottom_of l.n a.sig) l.bottom)) 0 l.fn.auths)
    × (l.i + length l.auth-iterator ≤ 2 ^ 25)
