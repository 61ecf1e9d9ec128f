-- The lines of a script, one after another.
use Rattle.std.proofs.Common.{◌≡◌, ℕ, ◌+◌, ◌==◌, ◌<◌, Bool, true, false, List, [], ◌∷◌, ◌++◌, length, Option, Some, None, refl, sym, ap, ◌∙◌, append_assoc, append-nil, arith, ltb, length-drop}
use Rattle.std.specs.Prelude.{nat_le, option_map}
use Rattle.std.specs.List.{position_or_len, before_first, after_first}
use Rattle.std.proofs.lemmas.Bool.{ltb-true}
use Rattle.std.proofs.lemmas.Bool.Decides.{nat_tests}
use Rattle.avm_num.specs.Bytes.{◌>>=◌, kept}
use Rattle.avm_num.specs.Walk.{items_of, behind_of, is_nil, all_at}
use Rattle.avm_num.proofs.Numbers.{kept_some, bind_some}
use Rattle.avm_num.proofs.Walks.{Shortens, items_some, items_none, behind_some, behind_none}
use Rattle.avm_outside.specs.Feed.{Event, Timed, timed}
use Rattle.avm_script.specs.Script.{Line, passed, clock, event, end, cut_at, line_of, line_at, ScriptData, script_of, are_passed, next_count, with_event, with_clock, script_at}
use Rattle.avm_script.specs.Sofar.{Sofar, step, joined, whole}

-- ---- one line more

joined_event : (a b : ScriptData) (at : ℕ) (e : Event) → joined a (with_event at e b) ≡ joined (record a { events = a.events ++ timed at e ∷ [] }) b
joined_event a b at e = ap (λ (l : List Timed). record { events = l; clocks = a.clocks ++ b.clocks; ending = b.ending }) (sym (append_assoc a.events (timed at e ∷ []) b.events))

joined_clock : (a b : ScriptData) (v : ℕ) → joined a (with_clock v b) ≡ joined (record a { clocks = a.clocks ++ v ∷ [] }) b
joined_clock a b v = ap (λ (l : List ℕ). record { events = a.events ++ b.events; clocks = l; ending = b.ending }) (sym (append_assoc a.clocks (v ∷ []) b.clocks))

joined_end : (a : ScriptData) (c : ℕ) → joined a (record { events = []; clocks = []; ending = c }) ≡ record a { ending = c }
joined_end a c =
    let events : a.events ++ [] ≡ a.events = append-nil a.events in
    let clocks : a.clocks ++ [] ≡ a.clocks = append-nil a.clocks in
    rw (events, clocks) refl

clock_more : (a : ScriptData) (last v : ℕ) (r : Option ScriptData)
    → (option_map (with_clock v) r >>= λ b. kept (nat_le last (next_count b)) (joined a b)) ≡ (r >>= λ b. kept (nat_le last (next_count b)) (joined (record a { clocks = a.clocks ++ v ∷ [] }) b))
clock_more a last v None = refl
clock_more a last v (Some b) = ap (kept (nat_le last (next_count b))) (joined_clock a b v)

abbrev ended_at : ℕ → ScriptData
ended_at c = record { events = []; clocks = []; ending = c }

abbrev sofar_of : ScriptData → ℕ → Bool → Sofar
sofar_of a last ended = record { script = a; last = last; ended = ended }

abbrev with_end : ℕ → ScriptData → ScriptData
with_end c a = record a { ending = c }

-- nothing comes of what is none
nothing : {A B : Type 0} (x : A) (y : Bool) → None ≡ ◌>>=◌ {B = B} (kept y x) (λ t. None)
nothing x true = refl
nothing x false = refl

one_event : (a b : ScriptData) (at : ℕ) (e : Event) (y : Bool) → kept y (joined a (with_event at e b)) ≡ (kept y (record a { events = a.events ++ timed at e ∷ [] }) >>= λ t. Some (joined t b))
one_event a b at e true = ap Some (joined_event a b at e)
one_event a b at e false = refl

event_kept : (a b : ScriptData) (last at : ℕ) (e : Event) (x : Bool) → (kept x (with_event at e b) >>= λ d. kept (nat_le last (next_count d)) (joined a d))
    ≡ (kept (nat_le last at) (record a { events = a.events ++ timed at e ∷ [] }) >>= λ t. kept x (joined t b))
event_kept a b last at e true = one_event a b at e (nat_le last at)
event_kept a b last at e false = nothing (record a { events = a.events ++ timed at e ∷ [] }) (nat_le last at)

event_more : (a : ScriptData) (last at : ℕ) (e : Event) (r : Option ScriptData) → ((r >>= λ b. kept (nat_le at (next_count b)) (with_event at e b)) >>= λ d. kept (nat_le last (next_count d)) (joined a d))
    ≡ (kept (nat_le last at) (record a { events = a.events ++ timed at e ∷ [] }) >>= λ t. r >>= λ b. kept (nat_le at (next_count b)) (joined t b))
event_more a last at e None = nothing (record a { events = a.events ++ timed at e ∷ [] }) (nat_le last at)
event_more a last at e (Some b) = event_kept a b last at e (nat_le at (next_count b))

event_after : (a : ScriptData) (at : ℕ) (lines : List Line) (y : Bool) → (kept y a >>= λ t. script_of lines >>= λ b. kept (nat_le at (next_count b)) (joined t b))
    ≡ (kept y (sofar_of a at false) >>= λ t. whole t lines)
event_after a at lines true = refl
event_after a at lines false = refl

end_more : (a : ScriptData) (last c : ℕ) (x y : Bool) → nat_le last c ≡ y → (kept x (ended_at c) >>= λ b. kept (nat_le last (next_count b)) (joined a b))
    ≡ (kept y (sofar_of (with_end c a) last true) >>= λ t. kept x (t.script))
end_more a last c true true e = rw e (ap Some (joined_end a c))
end_more a last c true false e = rw e refl
end_more a last c false true e = refl
end_more a last c false false e = refl

end_after : (a : ScriptData) (last : ℕ) (lines : List Line) (y : Bool) → (kept y (sofar_of a last true) >>= λ t. kept (are_passed lines) (t.script))
    ≡ (kept y (sofar_of a last true) >>= λ t. whole t lines)
end_after a last lines true = refl
end_after a last lines false = refl

step_by : (ended : Bool) (a : ScriptData) (last : ℕ) (line : Line) (lines : List Line)
    → whole (record { script = a; last = last; ended = ended }) (line ∷ lines) ≡ (step (record { script = a; last = last; ended = ended }) line >>= λ t. whole t lines)
step_by true a last passed lines = refl
step_by true a last (clock v) lines = refl
step_by true a last (event at e) lines = refl
step_by true a last (end c) lines = refl
step_by false a last passed lines = refl
step_by false a last (clock v) lines = clock_more a last v (script_of lines)
step_by false a last (event at e) lines = event_more a last at e (script_of lines) ∙ event_after (record a { events = a.events ++ timed at e ∷ [] }) at lines (nat_le last at)
step_by false a last (end c) lines = end_more a last c (are_passed lines) (nat_le last c) refl ∙ end_after (record a { ending = c }) last lines (nat_le last c)

pub all_step : (s : Sofar) (line : Line) (lines : List Line) → whole s (line ∷ lines) ≡ (step s line >>= λ t. whole t lines)
all_step s line lines = step_by s.ended s.script s.last line lines

-- at the start nothing was read
first_of : (r : Option ScriptData) → (r >>= λ b. kept (nat_le 0 (next_count b)) (joined (record { events = []; clocks = []; ending = 0 }) b)) ≡ r
first_of None = refl
first_of (Some b) = let z : nat_le 0 (next_count b) ≡ true = grind (arith, nat_tests) in rw z refl

-- ---- the lines in bytes

-- the script of what was read, and of the lines in the bytes behind it
abbrev pub rest_of : Sofar → List ℕ → Option ScriptData
rest_of s bytes = all_at line_at bytes >>= whole s

cut_short : (c : ℕ) (bytes : List ℕ) (p : List ℕ × List ℕ) → cut_at c bytes ≡ Some p → length p.1 < length bytes
unfolding cut_at
cut_short c bytes p e =
    let k = kept_some (ltb (position_or_len (λ b. b == c) bytes) (length bytes)) (before_first (λ b. b == c) bytes, after_first (λ b. b == c) bytes) p e in
    let lt : position_or_len (λ b. b == c) bytes < length bytes = ltb-true (position_or_len (λ b. b == c) bytes) (length bytes) k.0 in
    let rest : length p.1 ≡ length (after_first (λ b. b == c) bytes) = sym (ap (λ (q : List ℕ × List ℕ). length q.1) k.1) in
    omega (arith, rest, length-drop (position_or_len (λ b. b == c) bytes + 1) bytes)

shortens : Shortens line_at
unfolding line_at
shortens = record {
  short = λ bytes p e.
      let a = bind_some (cut_at 10 bytes) _ p e in
      let b = bind_some (line_of a.0.0) _ p a.2 in
      let rest : a.0.1 ≡ p.1 = ap (λ (q : Line × List ℕ). q.1) (some_is _ _ b.2) in
      let h = cut_short 10 bytes a.0 a.1 in
      omega (arith, h, ap length rest);
}
  where
    some_is : (x y : Line × List ℕ) → Some x ≡ Some y → x ≡ y
    some_is x y e = cc

kept_front : (b : Bool) (line : Line) (lines : List Line) (f : List Line → Option ScriptData) → (kept b (line ∷ lines) >>= f) ≡ (kept b lines >>= λ l. f (line ∷ l))
kept_front true line lines f = refl
kept_front false line lines f = refl

same_after : (b : Bool) (lines : List Line) (f g : List Line → Option ScriptData) → ((l : List Line) → f l ≡ g l) → (kept b lines >>= f) ≡ (kept b lines >>= g)
same_after true lines f g h = h lines
same_after false lines f g h = refl

line_more : (s : Sofar) (bytes text behind : List ℕ) (line : Line) → cut_at 10 bytes ≡ Some (text, behind) → line_of text ≡ Some line
    → rest_of s bytes ≡ (all_at line_at behind >>= λ lines. whole s (line ∷ lines))
unfolding line_at
line_more s bytes text behind line cut read =
    let at : line_at bytes ≡ Some (line, behind) = rw (cut, read) refl in
    let items = items_some line_at shortens bytes (line, behind) at in
    let rest = behind_some line_at shortens bytes (line, behind) at in
    rw (items, rest) (kept_front (is_nil (behind_of line_at behind)) line (items_of line_at behind) (whole s))

pub goes : (s t : Sofar) (bytes text behind : List ℕ) (line : Line) → Some (text, behind) ≡ cut_at 10 bytes → Some line ≡ line_of text → step s line ≡ Some t → rest_of s bytes ≡ rest_of t behind
goes s t bytes text behind line cut read taken =
    line_more s bytes text behind line (sym cut) (sym read)
    ∙ same_after (is_nil (behind_of line_at behind)) (items_of line_at behind) (λ lines. whole s (line ∷ lines)) (whole t) (λ lines. all_step s line lines ∙ ap (λ (r : Option Sofar). r >>= λ u. whole u lines) taken)

pub stops : (s : Sofar) (bytes text behind : List ℕ) (line : Line) → Some (text, behind) ≡ cut_at 10 bytes → Some line ≡ line_of text → step s line ≡ None → rest_of s bytes ≡ None
stops s bytes text behind line cut read taken =
    line_more s bytes text behind line (sym cut) (sym read)
    ∙ same_after (is_nil (behind_of line_at behind)) (items_of line_at behind) (λ lines. whole s (line ∷ lines)) (λ lines. None) (λ lines. all_step s line lines ∙ ap (λ (r : Option Sofar). r >>= λ u. whole u lines) taken)
    ∙ sym (nothing (items_of line_at behind) (is_nil (behind_of line_at behind)))

not_nil : (bytes : List ℕ) (f : List Line → Option ScriptData) → 0 < length bytes → (kept (is_nil bytes) [] >>= f) ≡ None
not_nil [] f some = absurd (omega arith)
not_nil (b ∷ bytes) f some = refl

no_line : (s : Sofar) (bytes : List ℕ) → line_at bytes ≡ None → rest_of s bytes ≡ (kept (is_nil bytes) [] >>= whole s)
no_line s bytes e =
    let items = items_none line_at shortens bytes e in
    let rest = behind_none line_at shortens bytes e in
    rw (items, rest) refl

-- a line that says nothing
pub bad_line : (s : Sofar) (bytes text behind : List ℕ) → Some (text, behind) ≡ cut_at 10 bytes → None ≡ line_of text → rest_of s bytes ≡ None
unfolding line_at
bad_line s bytes text behind cut read =
    let c = sym cut in
    let r = sym read in
    let at : line_at bytes ≡ None = rw (c, r) refl in
    let h = cut_short 10 bytes (text, behind) c in
    no_line s bytes at ∙ not_nil bytes (whole s) (omega arith)

-- no line is left
no_more : (s : Sofar) (bytes : List ℕ) → None ≡ cut_at 10 bytes → rest_of s bytes ≡ (kept (is_nil bytes) [] >>= whole s)
unfolding line_at
no_more s bytes cut = let c = sym cut in let at : line_at bytes ≡ None = rw c refl in no_line s bytes at

pub ends_with_bytes : (s : Sofar) (bytes : List ℕ) → None ≡ cut_at 10 bytes → (length bytes == 0) ≡ false → rest_of s bytes ≡ None
ends_with_bytes s [] cut some = absurd cc
ends_with_bytes s (b ∷ bytes) cut some = no_more s (b ∷ bytes) cut

pub ends_open : (s : Sofar) (bytes : List ℕ) → None ≡ cut_at 10 bytes → (length bytes == 0) ≡ true → s.ended ≡ false → rest_of s bytes ≡ None
ends_open s [] cut none shut = no_more s [] cut ∙ rw shut refl
ends_open s (b ∷ bytes) cut none shut = absurd (grind arith)

pub ends_whole : (s : Sofar) (bytes : List ℕ) → None ≡ cut_at 10 bytes → (length bytes == 0) ≡ true → s.ended ≡ true → rest_of s bytes ≡ Some s.script
ends_whole s [] cut none shut = no_more s [] cut ∙ rw shut refl
ends_whole s (b ∷ bytes) cut none shut = absurd (grind arith)

pub begins : (bytes : List ℕ) → rest_of (record { script = record { events = []; clocks = []; ending = 0 }; last = 0; ended = false }) bytes ≡ script_at bytes
unfolding script_at
begins bytes = same_after (is_nil (behind_of line_at bytes)) (items_of line_at bytes) _ script_of (λ lines. first_of (script_of lines))
