-- The bytes of the part that is coming, and those of the part that ended last.
use Rattle.std.specs.Prelude.{◌≡◌, ℕ, ◌≤◌, List, take, length}
use Rattle.seg_file.specs.declared.store.Store.TheInside.{Inside}

pub record Held : Type 0 where
  pub part : List ℕ
  pub last : List ℕ

abbrev pub held_by : Inside → Held
held_by s = record { part = take s.len s.bytes.items; last = take s.last s.bytes.items }

pub record IsStore (s : Inside) : Type 0 where
  pub size : length s.bytes.items ≡ 24589
  pub len : s.len ≤ 24589
  pub last : s.last ≤ 24589
