use Rattle.std.proofs.Common.{◌≡◌, ◌≤◌, ◌+◌, ◌^◌, length, map}
use Rattle.avm_num.specs.Lists.{list_bytes}
use Rattle.avm_num.specs.Room.{with_bytes, left}
use Rattle.avm_model.specs.Auth.{auth_bytes}
use Rattle.hss_model.specs.HssFile.{narrowed}
use Rattle.hss_auths.specs.Lengths.{size_with}
use Rattle.hss_auths.proofs.narrowing.put_narrowed.Given as goal

abbrev pub invariant-loop-auth : goal.invariant-loop-auth
invariant-loop-auth l =
    (with_bytes l.out (list_bytes auth_bytes (map (narrowed l.n) l.auth-iterator)) ≡ with_bytes l.fn.out (list_bytes auth_bytes (map (narrowed l.n) l.fn.auths)))
    × (size_with 0 l.auth-iterator ≤ left l.out)
    × (size_with 0 l.auth-iterator ≤ 2 ^ 25)
    × (l.count + length l.auth-iterator ≡ length l.fn.auths)
