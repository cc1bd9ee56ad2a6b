-- Document 01: 'A list is one head, one ends word, then m cables.' The station that a list describes. Assumes nothing.
use Rattle.std.specs.Prelude.{ℕ, Bool, ◌||◌, List, map, get_or, drop, eqb}
use Rattle.lists.specs.Select.{count}
use Rattle.words.specs.Words.{parts_of, first_of, second_of}

-- 'A cable joins the two parts that its list word names.'
pub record Cable : Type 0 where
  pub one : ℕ
  pub other : ℕ

-- what is read at a line beyond the last
abbrev pub no_cable : Cable
no_cable = record { one = 0; other = 0 }

-- s is the source, t the analyser; the parts are 'numbered 0 to n - 1', the cables stand by line
pub record Station : Type 0 where
  pub parts : ℕ
  pub source : ℕ
  pub analyser : ℕ
  pub cables : List Cable

-- the cable of a word of kind 3
unfoldable pub cable_of : ℕ → Cable
cable_of w = record { one = first_of w; other = second_of w }

-- 'Cable line 0 is the first kind 3 word.'
unfoldable pub station_of : List ℕ → Station
station_of list = record {
  parts = parts_of (get_or list 0 0);
  source = first_of (get_or list 1 0);
  analyser = second_of (get_or list 1 0);
  cables = map cable_of (drop 2 list);
}

-- a cable joins part p
unfoldable pub joins : ℕ → Cable → Bool
joins p c = eqb c.one p || eqb c.other p

-- the cables of part p, counted: its degree
unfoldable pub degree : List Cable → ℕ → ℕ
degree cs p = count (joins p) cs
