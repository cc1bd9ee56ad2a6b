-- What the code keeps: the neighbours of each part, sets of parts as flags, a stack of parts. Assumes nothing.
use Rattle.std.specs.Prelude.{ℕ, zero, suc, ◌+◌, ◌-◌, ◌<◌, ◌≤◌, ◌≡◌, Bool, true, false, cond, not, map, length, get_or, take, set, Option, Some}
use Rattle.std.specs.Bool.{beq}
use mathlib.Core.List.{List, [], ◌∷◌, ◌++◌, Memᴰ}
use Rattle.words.specs.Rooms.{stack_places}
use Rattle.words.specs.Limits.{most_degree, most_parts}
use Rattle.words.specs.declared.Part.{Part}
use Rattle.lists.specs.Search.{is_found}
use Rattle.lists.specs.Select.{range, filter, any}
use Rattle.station.specs.Station.{station_of}
use Rattle.station.specs.Code.{Wired}
use Rattle.order.specs.Reach.{neighbours, Path, connected}
use Rattle.reachability.specs.declared.adjacency.Neighbours.{Neighbours}

-- Neighbours

-- the numbers of parts, and the number of the part at a place
unfoldable pub numbers : List Part → List ℕ
numbers parts = map (λ (p : Part). p.0) parts

abbrev pub number_at : List Part → ℕ → ℕ
number_at parts i = (get_or parts i (record { 0 = 0 })).0

-- of a part's places, those that are counted
unfoldable pub counted : Neighbours → List ℕ
counted n = numbers (take n.count n.parts)

-- the places of part p in a table by part
abbrev pub at_part : List Neighbours → ℕ → Neighbours
at_part table p = get_or table p (record { parts = []; count = 0 })

-- part p's neighbours
abbrev pub neighbours_in : List Neighbours → ℕ → List ℕ
neighbours_in table p = counted (at_part table p)

-- a table of all parts with at most `most_degree` neighbours each, which are parts
pub record TableFits (table : List Neighbours) : Type 0 where
  pub places : length table ≡ most_parts
  pub room : (p : ℕ) → p < most_parts → length (at_part table p).parts ≡ most_degree
  pub few : (p : ℕ) → (at_part table p).count ≤ most_degree
  pub inside : (p q : ℕ) → Memᴰ q (neighbours_in table p) → q < most_parts

-- part w has a neighbour with this flag
unfoldable pub has_neighbour : List Neighbours → List Bool → ℕ → Bool → Bool
has_neighbour table flags w flag = any (λ q. beq (get_or flags q false) flag) (neighbours_in table w)

-- the table of a list's cables: each part's neighbours by line
pub record Adjacent (list : List ℕ) (table : List Neighbours) : Type 0 where
  pub wired : Wired (station_of list)
  pub formed : TableFits table
  pub by_line : (p : ℕ) → neighbours_in table p ≡ neighbours (station_of list).cables p

-- part p has room for one more neighbour q
pub record Appendable (table : List Neighbours) (p q : ℕ) : Type 0 where
  pub formed : TableFits table
  pub part : p < most_parts
  pub neighbour : q < most_parts
  pub few : (at_part table p).count < most_degree

-- q put behind part p's neighbours: those of the other parts stay
pub record Appended (table table' : List Neighbours) (p q : ℕ) : Type 0 where
  pub formed : TableFits table'
  pub own : neighbours_in table' p ≡ neighbours_in table p ++ (q ∷ [])
  pub rest : (x : ℕ) → (x ≡ p → ⊥) → neighbours_in table' x ≡ neighbours_in table x

-- Sets

-- the parts whose flag is set, by rising number
unfoldable pub flagged : ℕ → List Bool → List ℕ
flagged n flags = filter (λ p. get_or flags p false) (range n)

-- the parts of a list's station whose flag is set
abbrev pub set_of : List ℕ → List Bool → List ℕ
set_of list flags = flagged (station_of list).parts flags

-- Walks

-- the lowest k entries of a stack, from the top down
unfoldable pub from_top : List Part → ℕ → List ℕ
from_top stack zero = []
from_top stack (suc k) = number_at stack k ∷ from_top stack k

-- parts put on a stack, the first on top
abbrev pub Pushed : List ℕ → List Part → ℕ → List Part → ℕ → Type 0
Pushed new stack top stack' top' = from_top stack' top' ≡ new ++ from_top stack top

-- a stack that holds the parts that a walk starts from, at most two
pub record Starting (list : List ℕ) (stack : List Part) (top : ℕ) : Type 0 where
  pub few : top ≤ 2
  pub inside : (q : ℕ) → Memᴰ q (from_top stack top) → q < (station_of list).parts

-- a stack of height top that a walk can take a step with
pub record Steppable (stack : List Part) (top : ℕ) : Type 0 where
  pub some : 0 < top
  pub room : top + 3 ≤ stack_places
  pub part : number_at stack (top - 1) < most_parts

-- one step of a walk: the part on top of the stack is taken off; if it is left, it is taken out there, and its neighbours are put on the
-- stack
pub record Stepped (table : List Neighbours) (left : List Bool) (stack : List Part) (top : ℕ) (left' : List Bool) (stack' : List Part) (top' : ℕ) : Type 0
  where
    pub content :
        from_top stack' top'
        ≡ cond (get_or left (number_at stack (top - 1)) false)
        (neighbours_in table (number_at stack (top - 1)) ++ from_top stack (top - 1)) (from_top stack (top - 1))
    pub flags : left' ≡ cond (get_or left (number_at stack (top - 1)) false) (set left (number_at stack (top - 1)) false) left

-- A part of a set that a walk through the set divides from t: the walk left one of the two, and reached the other.
pub record Across (list : List ℕ) (among left : List Bool) (q : ℕ) : Type 0 where
  pub inside : q < (station_of list).parts
  pub member : get_or among q false ≡ true
  pub across : get_or left q false ≡ not (get_or left (station_of list).analyser false)

-- A part of a set that has no path to t inside the set, or nothing where the set's parts are joined to each other.
pub record CutOff (list among : List ℕ) (found : Option ℕ) : Type 0 where
  pub test : is_found found ≡ not (connected (station_of list).cables among)
  pub inside : (q : ℕ) → found ≡ Some q → Memᴰ q among
  pub apart : (q : ℕ) → found ≡ Some q → Path (station_of list).cables (λ x. Memᴰ x among) (station_of list).analyser q → ⊥
