-- An exchange of the two nodes.
use Rattle.std.proofs.Common.{◌≡◌, ℕ, ◌+◌, ◌*◌, ◌≤◌, List, [], ◌∷◌, ◌++◌, drop, length, refl, sym, ap, subst, ◌∙◌, length-append, arith}
use Rattle.avm_outside.specs.Feed.{Agenda}
use Rattle.avm_outside.specs.MemFeed.{feed_agenda}
use Rattle.avm_outside.specs.MemOutlets.{outlet_released}
use Rattle.avm_outside.specs.Outlet.{Piece, Released, all_added, auth, console, packet, released}
use Rattle.record_laws.specs.Turns.{IsTurn}
use Rattle.record_model.specs.Recorded.{Run}
use Rattle.record_parts.proofs.Giving.{added-append}
use Rattle.record_model.specs.Released.{Sender}
use Rattle.sample_model.specs.Other.{Said, Side, hear_all}
use Rattle.sample_model.specs.Talk.{Talk as TalkOf, joined, nothing, released_by, said_behind}
use Rattle.sample_node.specs.Node.{IsNode, Stops, Turned}
use Rattle.sample_node.specs.declared.node.Node.{Node}
use Rattle.sample_talk.specs.Talking.{Answered, Exchanged, IsTalk, StopsTalk, unheard}
use Rattle.sample_talk.specs.declared.talk.Talk.{Talk}
use Rattle.sample_talk.proofs.Times.{time_told, times_on}

-- what is released doesn't get less
packets_grow : (ps : List Piece) (x : Released) → length x.packets ≤ length (all_added released ps x).packets
packets_grow [] x = omega arith
packets_grow (packet peer bytes ∷ ps) x = let more = packets_grow ps (released (packet peer bytes) x) in omega (arith, more, length-append x.packets ((peer, bytes) ∷ []))
packets_grow (console bytes ∷ ps) x = packets_grow ps (released (console bytes) x)
packets_grow (auth bytes ∷ ps) x = packets_grow ps (released (auth bytes) x)

turn_packets : (who : Sender) (r u : Run) → IsTurn who r u → length (released_by r).packets ≤ length (released_by u).packets
turn_packets who r u t =
    let all : released_by u ≡ all_added released t.done.pieces (released_by r) = ap (λ (x : Run). released_by x) t.behind ∙ added-append released nothing r.released t.done.pieces in
    subst (λ (x : Released). length (released_by r).packets ≤ length x.packets) (sym all) (packets_grow t.done.pieces (released_by r))

pub heard_low : (who : Sender) (k : ℕ) (o : Talk) (node : Node) (m : TalkOf) → IsTalk k o m → Turned who node m.run → o.heard ≤ length (outlet_released node.outlet).packets
heard_low who k o node m h t =
    subst (λ (n : ℕ). n ≤ length (outlet_released node.outlet).packets) (sym h.heard)
    (subst (λ (x : Released). length (released_by m.run).packets ≤ length x.packets) (sym t.node.held) (turn_packets who m.run t.run t.turn_is))

-- the talk behind a turn, before the other node has heard of it
abbrev pub turned_to : Talk → Node → Talk
turned_to o node = record { node = node; other = o.other; heard = o.heard }

pub exchanged : (who : Sender) (k next : ℕ) (o n : Talk) (node : Node) (m : TalkOf) → next ≡ k + 1 → IsTalk k o m → Turned who node m.run → Answered next (turned_to o node) n → Exchanged next who n m
exchanged who k next o n node m is h t a =
    let all : unheard (turned_to o node) ≡ said_behind m t.run =
    ap (λ (x : Side). hear_all x (drop o.heard (outlet_released node.outlet).packets)) h.side
    ∙ ap (λ (i : ℕ). hear_all m.side (drop i (outlet_released node.outlet).packets)) h.heard
    ∙ ap (λ (x : Released). hear_all m.side (drop (length (released_by m.run).packets) x.packets)) t.node.held in
    let clocks = t.run.script.clocks ++ 1000 * next ∷ [] in
    let script : feed_agenda n.node.feed ≡ joined t.run.script (said_behind m t.run).events clocks =
    a.script ∙ ap (λ (x : Agenda). joined x (unheard (turned_to o node)).events (x.clocks ++ 1000 * next ∷ [])) t.node.script
    ∙ ap (λ (x : Said). joined t.run.script x.events clocks) all in
    let after : TalkOf = record { run = record t.run { script = joined t.run.script (said_behind m t.run).events clocks }; side = (said_behind m t.run).side } in
    record {
      after = after;
      exchange = record { time = time_told k m.run.script h.times; run = t.run; turn_is = t.turn_is; clocks = clocks; behind = refl };
      talk = record {
        node = moved (record { recorder = n.node.recorder; disk = n.node.disk; feed = n.node.feed; outlet = n.node.outlet }) refl a.recorder a.disk a.outlet script;
        side = a.side ∙ ap (λ (x : Said). x.side) all;
        within = a.within;
        heard = a.heard ∙ ap (λ (x : Released). length x.packets) t.node.held;
        times = times_on who k next m.run t.run (said_behind m t.run).events is t.turn_is h.times;
      };
    }
  where
    moved : (x : Node) → x ≡ n.node → x.recorder ≡ node.recorder → x.disk ≡ node.disk → x.outlet ≡ node.outlet → feed_agenda x.feed ≡ joined t.run.script (said_behind m t.run).events (t.run.script.clocks ++ 1000 * next ∷ [])
        → IsNode n.node (record t.run { script = joined t.run.script (said_behind m t.run).events (t.run.script.clocks ++ 1000 * next ∷ []) })
    moved x whole p q r s =
        let node_is : record { recorder = node.recorder; disk = node.disk; feed = x.feed; outlet = node.outlet } ≡ x =
        ap (λ y. record { recorder = y; disk = node.disk; feed = x.feed; outlet = node.outlet }) (sym p)
        ∙ ap (λ y. record { recorder = x.recorder; disk = y; feed = x.feed; outlet = node.outlet }) (sym q)
        ∙ ap (λ y. record { recorder = x.recorder; disk = x.disk; feed = x.feed; outlet = y }) (sym r) in
        subst (λ (y : Node). IsNode y (record t.run { script = joined t.run.script (said_behind m t.run).events (t.run.script.clocks ++ 1000 * next ∷ []) })) (node_is ∙ whole) (record {
          running = t.node.running;
          goes = t.node.goes;
          disk = t.node.disk;
          batch = t.node.batch;
          machine = t.node.machine;
          script = s;
          held = t.node.held;
        })

pub stopped : (who : Sender) (k : ℕ) (o : Talk) (node : Node) (m : TalkOf) → IsTalk k o m → Stops who node m.run → StopsTalk who (turned_to o node) m
stopped who k o node m h s = record {
  after = record { run = record s.run { script = joined s.run.script (said_behind m s.run).events s.run.script.clocks }; side = (said_behind m s.run).side };
  exchange = record { time = time_told k m.run.script h.times; run = s.run; turn_is = s.turn_is; clocks = s.run.script.clocks; behind = refl };
  why = s.why;
  stop = s.stop;
  left = record { own = s.left.own; machine = s.left.machine; held = s.left.held };
}
