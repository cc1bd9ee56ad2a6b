-- Searching: the first number from a place on that passes a test. Assumes nothing.
use Rattle.std.specs.Prelude.{ℕ, zero, suc, ◌+◌, Bool, true, false, cond, Option, Some, None}

-- the first of the k numbers i, i + 1, .. that passes the test
unfoldable pub seek : (ℕ → Bool) → ℕ → ℕ → Option ℕ
seek p i zero = None
seek p i (suc k) = cond (p i) (Some i) (seek p (i + 1) k)

-- something was found
abbrev pub is_found : Option ℕ → Bool
is_found (Some i) = true
is_found None = false

-- the place of what was found, or d where nothing was
abbrev pub place_or : ℕ → Option ℕ → ℕ
place_or d (Some i) = i
place_or d None = d
