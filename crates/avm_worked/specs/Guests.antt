-- A guest with a handler, and a machine that runs it.
use Rattle.std.specs.Prelude.{ℕ, zero, suc, List, [], ◌∷◌}
use Rattle.avm_model.specs.Bell.{bell_of}
use Rattle.avm_model.specs.Device.{fresh_with}
use Rattle.avm_model.specs.Input.{Console, Take}
use Rattle.avm_model.specs.Machine.{State, Step, initial}

-- LUI, AUIPC, ADDI, SW to BELL_VEC and a jump to itself; the handler from the sixth word on: LW from CON_IN, SW to CON_OUT, SW to
-- BELL_RET
abbrev pub bell_words : List ℕ
bell_words =
    183 ∷ 2 ∷ 0 ∷ 16 ∷ 23 ∷ 3 ∷ 0 ∷ 0 ∷ 19 ∷ 3 ∷ 3 ∷ 1 ∷ 35 ∷ 168 ∷ 98 ∷ 2 ∷ 111 ∷ 0 ∷ 0 ∷ 0
    ∷ 3 ∷ 164 ∷ 66 ∷ 0 ∷ 35 ∷ 160 ∷ 130 ∷ 0 ∷ 35 ∷ 172 ∷ 2 ∷ 2 ∷ []

-- a machine of a version that boots with it
abbrev pub bell_guest : ℕ → State
bell_guest version = initial (fresh_with (bell_of version) 0 []) bell_words 1024 0x80000000

-- the state so many steps later
abbrev pub later : ℕ → State → State
later zero s = s
later (suc n) s = later n (Step s).state

-- and with a line end typed in
abbrev pub typed : State → State
typed s = Take s (Console (10 ∷ []))
