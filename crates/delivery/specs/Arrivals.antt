-- Packets of a run as they arrive: which are timely, and how far out of order they may be (D3, W18, L7).
-- An arrival is told by the place of its packet in the run, counted from 0; a packet may arrive never, once or more often.
use Rattle.std.specs.Prelude.{ℕ, zero, suc, ◌+◌, ◌%◌, ◌≤◌, ◌<◌, max, List, [], ◌∷◌, ◌++◌, Bool, false, cond, not, ◌&&◌, ◌||◌, ltb, eqb}
use Rattle.base.specs.Numbers.{packet_numbers}
use Rattle.receiver.specs.Joining.{furthest_ahead}

-- L7: the number of packet k, where the first packet of the run has the number `first`
abbrev pub number : ℕ → ℕ → ℕ
number first k = (first + k) % packet_numbers

-- W18: packet k comes, and before every later packet of the run. Earlier packets are passed over; the first other arrival is k
unfoldable pub timely : List ℕ → ℕ → Bool
timely [] k = false
timely (a ∷ rest) k = cond (ltb a k) (timely rest k) (eqb a k)

-- whether packet k is among these arrivals
unfoldable pub came : List ℕ → ℕ → Bool
came [] k = false
came (a ∷ rest) k = eqb a k || came rest k

-- of each arrival, whether it is the first coming of a timely packet; `before` are the arrivals before
unfoldable pub first_timely : List ℕ → List ℕ → List Bool
first_timely before [] = []
first_timely before (a ∷ rest) = (not (came before a) && timely (before ++ a ∷ rest) a) ∷ first_timely (before ++ (a ∷ [])) rest

-- D3: how far behind the furthest packet an arrival may be
abbrev pub furthest_behind : ℕ
furthest_behind = 32768

-- each arrival is of the run of `size` packets, and not too far from the furthest one that came before it, which is `furthest`
abbrev pub NearTo : ℕ → ℕ → List ℕ → Type 0
NearTo size furthest [] = Unit {0}
NearTo size furthest (a ∷ rest) =
    (a < size) × (a ≤ furthest + furthest_ahead) × (furthest ≤ a + furthest_behind) × NearTo size (max furthest a) rest

-- the first arrival may be any packet of the run
abbrev pub Near : ℕ → List ℕ → Type 0
Near size [] = Unit {0}
Near size (a ∷ rest) = (a < size) × NearTo size a rest

-- no loss: so many packets, from packet k on, each once and in order
unfoldable pub in_order : ℕ → ℕ → List ℕ
in_order k zero = []
in_order k (suc n) = k ∷ in_order (suc k) n
