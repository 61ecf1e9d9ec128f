-- What a spare is, as its value tells.
use Rattle.std.specs.Prelude.{◌≡◌, ℕ, ◌≤◌, ◌<◌, List, length, slice_index}
use Rattle.base_model.specs.Spare.{SpareKind, Free, Prepared, Active, Other}
use Rattle.spare_base.specs.declared.kind.Spare.{Spare}
use Rattle.spare_base.specs.declared.kind.Spare.TheVariants as spare

abbrev pub kind_view : Spare → SpareKind
kind_view spare.Free = Free
kind_view spare.Prepared = Prepared
kind_view spare.Active = Active
kind_view spare.Other = Other

-- only 00 stands from a place up to another, as far as the bytes go
abbrev pub HasZeros : ℕ → ℕ → List ℕ → Type 0
HasZeros from end c = (p : ℕ) → from ≤ p → p < end → p < length c → slice_index c p ≡ 0
