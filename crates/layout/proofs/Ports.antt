-- What the drawings of figures 2 and 3 have in common, for all counts of cables that four ports leave: every cable has a port, the outgoing
-- ones stand side by side from left to right, and which places can be left or right of the part. Assumes nothing.
use Prim.Native.Nat.{ℕ, zero, suc, ◌+◌, ◌-◌, ◌/◌, ◌<◌, ◌≤◌}
use native.Mathlib.Omega.{arith}
use mathlib.Core.Path.{◌≡◌, refl, sym, ap, ◌∙◌}
use mathlib.Core.List.{List, [], ◌∷◌, map}
use lib.ListN.{length, get_or, length-map}
use Rattle.lists.specs.Select.{up_from, range}
use Rattle.lists.proofs.Select.{get_d_map, get_d_up_from, length_up_from, length_range}
use Rattle.layout.specs.Ports.{Port, left, below, right, above, in_ports, out_ports, place_below, new_left, new_right, port_column}

-- ins and outs: the cables that come in and go out; a and b: the new columns left and right
pub record Ports (ins outs a b : ℕ) : Type 0 where
  pub one_left : a ≤ 1
  pub two_right : b ≤ 2
  -- where cables go out, there is one column for each of them: the one that was taken and the new ones
  pub all : 0 < outs → a + b + 1 ≡ outs
  pub none : outs ≡ 0 → (a ≡ 0) × (b ≡ 0)
  -- a new left column: at most two came in
  pub new_left_lem : 0 < a → ins ≤ 2
  -- an outgoing place right of the part, not the bottom connection's: it is the next one, and at most one came in
  pub new_right_lem : (s : ℕ) → s < outs → s < 3 → a < s → (ins ≤ 1) × (s ≡ a + 1)
  -- a second new right column, the bottom connection's: there is a left one
  pub last_right : 1 < b → a ≡ 1

-- a number for each port, rising with the places of incoming cables
abbrev pub port_number : Port → ℕ
port_number left = 0
port_number below = 1
port_number right = 2
port_number above = 3

pub record Shown (ins outs : ℕ) : Type 0 where
  -- the incoming cables, from left to right: from the left, from below, from the right, over the top, or without the first of these
  pub comes : map port_number (in_ports ins) ≡ up_from (1 - (ins - 1) / 2) ins
  pub taken : place_below (in_ports ins) ≡ (ins - 1) / 2
  -- the outgoing cables are in columns that follow each other
  pub goes : map (port_column 0 (new_left (out_ports ins outs))) (out_ports ins outs) ≡ range outs
  pub columns : Ports ins outs (new_left (out_ports ins outs)) (new_right (out_ports ins outs))

pub shown : (ins outs : ℕ) → ins + outs ≤ 4 → Shown ins outs
unfolding up_from range
shown zero zero h = record { comes = refl; taken = refl; goes = refl; columns = omega arith }
shown zero (suc zero) h = record { comes = refl; taken = refl; goes = refl; columns = omega arith }
shown zero (suc (suc zero)) h = record { comes = refl; taken = refl; goes = refl; columns = omega arith }
shown zero (suc (suc (suc zero))) h = record { comes = refl; taken = refl; goes = refl; columns = omega arith }
shown zero (suc (suc (suc (suc zero)))) h = record { comes = refl; taken = refl; goes = refl; columns = omega arith }
shown zero (suc (suc (suc (suc (suc outs))))) h = absurd (omega arith)
shown (suc zero) zero h = record { comes = refl; taken = refl; goes = refl; columns = omega arith }
shown (suc zero) (suc zero) h = record { comes = refl; taken = refl; goes = refl; columns = omega arith }
shown (suc zero) (suc (suc zero)) h = record { comes = refl; taken = refl; goes = refl; columns = omega arith }
shown (suc zero) (suc (suc (suc zero))) h = record { comes = refl; taken = refl; goes = refl; columns = omega arith }
shown (suc zero) (suc (suc (suc (suc outs)))) h = absurd (omega arith)
shown (suc (suc zero)) zero h = record { comes = refl; taken = refl; goes = refl; columns = omega arith }
shown (suc (suc zero)) (suc zero) h = record { comes = refl; taken = refl; goes = refl; columns = omega arith }
shown (suc (suc zero)) (suc (suc zero)) h = record { comes = refl; taken = refl; goes = refl; columns = omega arith }
shown (suc (suc zero)) (suc (suc (suc outs))) h = absurd (omega arith)
shown (suc (suc (suc zero))) zero h = record { comes = refl; taken = refl; goes = refl; columns = omega arith }
shown (suc (suc (suc zero))) (suc zero) h = record { comes = refl; taken = refl; goes = refl; columns = omega arith }
shown (suc (suc (suc zero))) (suc (suc outs)) h = absurd (omega arith)
shown (suc (suc (suc (suc zero)))) zero h = record { comes = refl; taken = refl; goes = refl; columns = omega arith }
shown (suc (suc (suc (suc zero)))) (suc outs) h = absurd (omega arith)
shown (suc (suc (suc (suc (suc ins))))) outs h = absurd (omega arith)

port_column_from : (p a : ℕ) (q : Port) → port_column p a q ≡ p + port_column 0 a q
port_column_from p a left = omega arith
port_column_from p a below = omega arith
port_column_from p a right = omega arith
port_column_from p a above = omega arith

module _ (ins outs : ℕ) (four : ins + outs ≤ 4) where
  -- every cable has a port
  pub all_in : length (in_ports ins) ≡ ins
  all_in = sym (length-map (in_ports ins) port_number) ∙ ap length (shown ins outs four).comes ∙ length_up_from _ ins

  pub all_out : length (out_ports ins outs) ≡ outs
  all_out = sym (length-map (out_ports ins outs) (port_column 0 (new_left (out_ports ins outs)))) ∙ ap length (shown ins outs four).goes ∙ length_range outs

  -- the outgoing cable at place j is in the column j right of the first
  pub port_column_lem : (p j : ℕ) → j < outs → get_or (map (port_column p (new_left (out_ports ins outs))) (out_ports ins outs)) j 0 ≡ p + j
  unfolding range
  port_column_lem p j h =
      let a = new_left (out_ports ins outs) in
      let ps = out_ports ins outs in
      let b : j < length ps = omega (arith, all_out) in
      omega (
        arith,
        get_d_map (port_column p a) ps j above 0 b,
        port_column_from p a (get_or ps j above),
        get_d_map (port_column 0 a) ps j above 0 b,
        ap (λ (l : List ℕ). get_or l j 0) (shown ins outs four).goes,
        get_d_up_from 0 outs j 0 h,
      )

  -- the port of the outgoing cable at place j tells its place
  pub out_place_lem : (j : ℕ) → j < outs → port_column 0 (new_left (out_ports ins outs)) (get_or (out_ports ins outs) j above) ≡ j
  out_place_lem j h =
      let b : j < length (out_ports ins outs) = omega (arith, all_out) in
      omega (arith, get_d_map (port_column 0 (new_left (out_ports ins outs))) (out_ports ins outs) j above 0 b, port_column_lem 0 j h)

  -- and so does that of the incoming cable at place q
  pub in_place_lem : (q : ℕ) → q < ins → port_number (get_or (in_ports ins) q below) ≡ 1 - (ins - 1) / 2 + q
  in_place_lem q h =
      let b : q < length (in_ports ins) = omega (arith, all_in) in
      sym (get_d_map port_number (in_ports ins) q below 0 b) ∙ ap (λ (l : List ℕ). get_or l q 0) (shown ins outs four).comes ∙ get_d_up_from _ ins q 0 h

-- a port to the left is a new left column
pub left_new : (ps : List Port) (j : ℕ) → get_or ps j above ≡ left → 0 < new_left ps
left_new [] j e = absurd (omega (arith, ap port_number e))
left_new (left ∷ ps) j e = omega arith
left_new (above ∷ ps) zero e = absurd (omega (arith, ap port_number e))
left_new (above ∷ ps) (suc j) e = left_new ps j e
left_new (right ∷ ps) zero e = absurd (omega (arith, ap port_number e))
left_new (right ∷ ps) (suc j) e = left_new ps j e
left_new (below ∷ ps) zero e = absurd (omega (arith, ap port_number e))
left_new (below ∷ ps) (suc j) e = left_new ps j e

-- the place taken, (ins - 1) / 2: an incoming place left of it is the first of three or four, one of the first three right of it the next
-- of two or more
pub in_left : (ins q : ℕ) → ins ≤ 4 → q < (ins - 1) / 2 → (q ≡ 0) × (3 ≤ ins)
in_left ins q h g = omega arith

pub in_right : (ins q : ℕ) → ins ≤ 4 → q < ins → q < 3 → (ins - 1) / 2 < q → (q ≡ (ins - 1) / 2 + 1) × (2 ≤ ins)
in_right ins q h g f l = omega arith
