-- Marks of authenticators, as entries come.
use Rattle.std.specs.Prelude.{ℕ, ◌==◌, ◌&&◌, Bool, true, false, List, [], ◌∷◌, Some, if◌then◌else◌}
use Rattle.avm_model.specs.Marks.{mark_at}
use Rattle.avm_model.specs.declared.judged.Mark.{Mark}
use Rattle.avm_model.specs.declared.judged.Mark.TheVariants.{Outside, Same, Other}
use Rattle.avm_model.specs.declared.judged.Marked.{Marked}
use Rattle.avm_auth.specs.declared.auth.Auth.{Auth}

-- before any entry
abbrev pub outside_of : Auth → Marked
outside_of a = record { seq = a.seq; mark = Outside }

abbrev pub is_outside : Mark → Bool
is_outside Outside = true
is_outside Same = false
is_outside Other = false

-- a mark once the chain has a hash at a number
abbrev pub remark_one : ℕ → List ℕ → Auth → Marked → Marked
remark_one n g a m = if n == a.seq && is_outside m.mark then record { seq = m.seq; mark = mark_at a.hash.0 (Some g) } else m

abbrev pub remarked : ℕ → List ℕ → List Auth → List Marked → List Marked
remarked n g [] marks = marks
remarked n g (a ∷ auths) [] = []
remarked n g (a ∷ auths) (m ∷ marks) = remark_one n g a m ∷ remarked n g auths marks
