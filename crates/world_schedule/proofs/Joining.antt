-- The lines of a schedule, one after another.
use Rattle.std.proofs.Common.{◌≡◌, ℕ, ◌+◌, ◌==◌, ◌<◌, Bool, true, false, List, [], ◌∷◌, ◌++◌, length, Option, Some, None, refl, sym, ap, ◌∙◌, append_assoc, append-nil, arith, ltb, length-drop}
use Rattle.std.specs.Prelude.{option_map}
use Rattle.std.specs.List.{position_or_len, before_first, after_first}
use Rattle.std.proofs.lemmas.Bool.{ltb-true}
use Rattle.avm_num.specs.Bytes.{◌>>=◌, kept}
use Rattle.avm_num.specs.Walk.{items_of, behind_of, is_nil, all_at}
use Rattle.avm_num.proofs.Numbers.{kept_some, bind_some}
use Rattle.avm_num.proofs.Walks.{Shortens, items_some, items_none, behind_some, behind_none}
use Rattle.avm_script.specs.Script.{cut_at}
use Rattle.world_model.specs.Deeds.{EventData, NodeData, ScheduleData}
use Rattle.world_schedule.specs.Schedule.{Line, passed, node, event, events_of, line_at, line_of, lines_at, schedule_of, with_node}
use Rattle.world_schedule.specs.Sofar.{Sofar, joined, step, whole}

-- ---- one line more

abbrev data_of : List NodeData → List EventData → ScheduleData
data_of ns es = record { nodes = ns; events = es }

more_events : (a : ScheduleData) (e : EventData) (r : Option (List EventData)) → option_map (λ es. record a { events = a.events ++ es }) (option_map (λ es. e ∷ es) r) ≡ option_map (λ es. record a { events = (a.events ++ e ∷ []) ++ es }) r
more_events a e None = refl
more_events a e (Some es) = ap (λ (l : List EventData). Some (data_of a.nodes l)) (sym (append_assoc a.events (e ∷ []) es))

more_nodes : (a : ScheduleData) (n : NodeData) (r : Option ScheduleData) → option_map (joined a) (option_map (with_node n) r) ≡ option_map (joined (record a { nodes = a.nodes ++ n ∷ [] })) r
more_nodes a n None = refl
more_nodes a n (Some b) = ap (λ (l : List NodeData). Some (data_of l (a.events ++ b.events))) (sym (append_assoc a.nodes (n ∷ []) b.nodes))

first_event : (a : ScheduleData) (e : EventData) (r : Option (List EventData)) → option_map (joined a) (option_map (λ es. data_of [] (e ∷ es)) r) ≡ option_map (λ es. record a { events = (a.events ++ e ∷ []) ++ es }) r
first_event a e None = refl
first_event a e (Some es) =
    ap (λ (l : List NodeData). Some (data_of l (a.events ++ e ∷ es))) (append-nil a.nodes)
    ∙ ap (λ (l : List EventData). Some (data_of a.nodes l)) (sym (append_assoc a.events (e ∷ []) es))

step_by : (begun : Bool) (a : ScheduleData) (line : Line) (lines : List Line) → whole (record { schedule = a; begun = begun }) (line ∷ lines) ≡ (step (record { schedule = a; begun = begun }) line >>= λ t. whole t lines)
step_by true a passed lines = refl
step_by true a (node n) lines = refl
step_by true a (event e) lines = more_events a e (events_of lines)
step_by false a passed lines = refl
step_by false a (node n) lines = more_nodes a n (schedule_of lines)
step_by false a (event e) lines = first_event a e (events_of lines)

pub all_step : (s : Sofar) (line : Line) (lines : List Line) → whole s (line ∷ lines) ≡ (step s line >>= λ t. whole t lines)
all_step s line lines = step_by s.begun s.schedule line lines

first_of : (r : Option ScheduleData) → option_map (joined (data_of [] [])) r ≡ r
first_of None = refl
first_of (Some b) = refl

no_lines : (begun : Bool) (a : ScheduleData) → whole (record { schedule = a; begun = begun }) [] ≡ Some a
no_lines true a = ap (λ (l : List EventData). Some (data_of a.nodes l)) (append-nil a.events)
no_lines false a = ap (λ (l : List NodeData). Some (data_of l (a.events ++ []))) (append-nil a.nodes) ∙ ap (λ (l : List EventData). Some (data_of a.nodes l)) (append-nil a.events)

-- ---- the lines in bytes

-- the schedule of what was read, and of the lines in the bytes behind it
abbrev pub rest_of : Sofar → List ℕ → Option ScheduleData
rest_of s bytes = all_at line_at bytes >>= whole s

nothing : {A B : Type 0} (x : A) (y : Bool) → None ≡ ◌>>=◌ {B = B} (kept y x) (λ t. None)
nothing x true = refl
nothing x false = refl

cut_short : (c : ℕ) (bytes : List ℕ) (p : List ℕ × List ℕ) → cut_at c bytes ≡ Some p → length p.1 < length bytes
unfolding cut_at
cut_short c bytes p e =
    let k = kept_some (ltb (position_or_len (λ b. b == c) bytes) (length bytes)) (before_first (λ b. b == c) bytes, after_first (λ b. b == c) bytes) p e in
    let lt : position_or_len (λ b. b == c) bytes < length bytes = ltb-true (position_or_len (λ b. b == c) bytes) (length bytes) k.0 in
    let rest : length p.1 ≡ length (after_first (λ b. b == c) bytes) = sym (ap (λ (q : List ℕ × List ℕ). length q.1) k.1) in
    omega (arith, rest, length-drop (position_or_len (λ b. b == c) bytes + 1) bytes)

shortens : Shortens line_at
unfolding line_at
shortens = record {
  short = λ bytes p e.
      let a = bind_some (cut_at 10 bytes) _ p e in
      let b = bind_some (line_of a.0.0) _ p a.2 in
      let rest : a.0.1 ≡ p.1 = ap (λ (q : Line × List ℕ). q.1) (some_is _ _ b.2) in
      let h = cut_short 10 bytes a.0 a.1 in
      omega (arith, h, ap length rest);
}
  where
    some_is : (x y : Line × List ℕ) → Some x ≡ Some y → x ≡ y
    some_is x y e = cc

kept_front : (b : Bool) (line : Line) (lines : List Line) (f : List Line → Option ScheduleData) → (kept b (line ∷ lines) >>= f) ≡ (kept b lines >>= λ l. f (line ∷ l))
kept_front true line lines f = refl
kept_front false line lines f = refl

same_after : (b : Bool) (lines : List Line) (f g : List Line → Option ScheduleData) → ((l : List Line) → f l ≡ g l) → (kept b lines >>= f) ≡ (kept b lines >>= g)
same_after true lines f g h = h lines
same_after false lines f g h = refl

line_more : (s : Sofar) (bytes text behind : List ℕ) (line : Line) → cut_at 10 bytes ≡ Some (text, behind) → line_of text ≡ Some line
    → rest_of s bytes ≡ (all_at line_at behind >>= λ lines. whole s (line ∷ lines))
unfolding line_at
line_more s bytes text behind line cut read =
    let at : line_at bytes ≡ Some (line, behind) = rw (cut, read) refl in
    let items = items_some line_at shortens bytes (line, behind) at in
    let rest = behind_some line_at shortens bytes (line, behind) at in
    rw (items, rest) (kept_front (is_nil (behind_of line_at behind)) line (items_of line_at behind) (whole s))

pub goes : (s t : Sofar) (bytes text behind : List ℕ) (line : Line) → Some (text, behind) ≡ cut_at 10 bytes → Some line ≡ line_of text → step s line ≡ Some t → rest_of s bytes ≡ rest_of t behind
goes s t bytes text behind line cut read taken =
    line_more s bytes text behind line (sym cut) (sym read)
    ∙ same_after (is_nil (behind_of line_at behind)) (items_of line_at behind) (λ lines. whole s (line ∷ lines)) (whole t) (λ lines. all_step s line lines ∙ ap (λ (r : Option Sofar). r >>= λ u. whole u lines) taken)

pub stops : (s : Sofar) (bytes text behind : List ℕ) (line : Line) → Some (text, behind) ≡ cut_at 10 bytes → Some line ≡ line_of text → step s line ≡ None → rest_of s bytes ≡ None
stops s bytes text behind line cut read taken =
    line_more s bytes text behind line (sym cut) (sym read)
    ∙ same_after (is_nil (behind_of line_at behind)) (items_of line_at behind) (λ lines. whole s (line ∷ lines)) (λ lines. None) (λ lines. all_step s line lines ∙ ap (λ (r : Option Sofar). r >>= λ u. whole u lines) taken)
    ∙ sym (nothing (items_of line_at behind) (is_nil (behind_of line_at behind)))

not_nil : (bytes : List ℕ) (f : List Line → Option ScheduleData) → 0 < length bytes → (kept (is_nil bytes) [] >>= f) ≡ None
not_nil [] f some = absurd (omega arith)
not_nil (b ∷ bytes) f some = refl

no_line : (s : Sofar) (bytes : List ℕ) → line_at bytes ≡ None → rest_of s bytes ≡ (kept (is_nil bytes) [] >>= whole s)
no_line s bytes e =
    let items = items_none line_at shortens bytes e in
    let rest = behind_none line_at shortens bytes e in
    rw (items, rest) refl

-- a line that says nothing
pub bad_line : (s : Sofar) (bytes text behind : List ℕ) → Some (text, behind) ≡ cut_at 10 bytes → None ≡ line_of text → rest_of s bytes ≡ None
unfolding line_at
bad_line s bytes text behind cut read =
    let c = sym cut in
    let r = sym read in
    let at : line_at bytes ≡ None = rw (c, r) refl in
    let h = cut_short 10 bytes (text, behind) c in
    no_line s bytes at ∙ not_nil bytes (whole s) (omega arith)

-- no line is left
no_more : (s : Sofar) (bytes : List ℕ) → None ≡ cut_at 10 bytes → rest_of s bytes ≡ (kept (is_nil bytes) [] >>= whole s)
unfolding line_at
no_more s bytes cut = let c = sym cut in let at : line_at bytes ≡ None = rw c refl in no_line s bytes at

pub ends_with_bytes : (s : Sofar) (bytes : List ℕ) → None ≡ cut_at 10 bytes → (length bytes == 0) ≡ false → rest_of s bytes ≡ None
ends_with_bytes s [] cut some = absurd cc
ends_with_bytes s (b ∷ bytes) cut some = no_more s (b ∷ bytes) cut

pub ends_whole : (s : Sofar) (bytes : List ℕ) → None ≡ cut_at 10 bytes → (length bytes == 0) ≡ true → rest_of s bytes ≡ Some s.schedule
ends_whole s [] cut none = no_more s [] cut ∙ no_lines s.begun s.schedule
ends_whole s (b ∷ bytes) cut none = absurd (grind arith)

pub begins : (bytes : List ℕ) → rest_of (record { schedule = data_of [] []; begun = false }) bytes ≡ lines_at bytes
begins bytes = same_after (is_nil (behind_of line_at bytes)) (items_of line_at bytes) _ schedule_of (λ lines. first_of (schedule_of lines))
