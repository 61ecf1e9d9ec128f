-- The lines that `world` prints: how many events and packets there were, and for each node and each other how many messages it has
-- received, of how many that the other has sent to it. Nodes are counted from 0.
use Rattle.std.specs.Prelude.{ℕ, ◌+◌, ◌==◌, List, [], ◌∷◌, ◌++◌, codes, Option, Some, None, if◌then◌else◌}
use Rattle.std.specs.Fmt.{decimal}
use Rattle.avm_model.specs.Device.{row_of}
use Rattle.avm_model.specs.declared.Peer.{Peer}

-- what a row counts; 0 where there is none
abbrev pub received_by : Option Peer → ℕ
received_by None = 0
received_by (Some row) = row.received

abbrev pub sent_by : Option Peer → ℕ
sent_by None = 0
sent_by (Some row) = row.sent

unfoldable pub first_line : ℕ → ℕ → List ℕ
first_line events packets = codes "events " ++ decimal events ++ codes " packets " ++ decimal packets

-- node i with these rows, of node j with those
unfoldable pub pair_line : ℕ → List Peer → ℕ → List Peer → List ℕ
pair_line i mine j other = decimal i ++ codes " from " ++ decimal j ++ codes " received " ++ decimal (received_by (row_of mine j)) ++ codes " of " ++ decimal (sent_by (row_of other i))

-- the lines of node i for each other, from node j on
abbrev pub lines_from : ℕ → List Peer → ℕ → List (List Peer) → List (List ℕ)
lines_from i mine j [] = []
lines_from i mine j (other ∷ others) = if i == j then lines_from i mine (j + 1) others else pair_line i mine j other ∷ lines_from i mine (j + 1) others

-- the lines of each node from node i on, where these are the rows of all
abbrev pub lines_by : List (List Peer) → ℕ → List (List Peer) → List (List ℕ)
lines_by all i [] = []
lines_by all i (mine ∷ nodes) = lines_from i mine 0 all ++ lines_by all (i + 1) nodes

-- all lines of a world: its events, its packets, and the rows of its nodes
abbrev pub lines_of : ℕ → ℕ → List (List Peer) → List (List ℕ)
lines_of events packets rows = first_line events packets ∷ lines_by rows 0 rows
