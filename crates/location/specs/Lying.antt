-- Request 2026-10: what lies at a spot of a drawing, as a claim in the words of document 01. Assumes nothing.
use Rattle.std.specs.Prelude.{ℕ, ◌<◌, ◌≡◌, ◌⊎◌, length}
use Rattle.geometry.specs.Spots.{Spot}
use Rattle.geometry.specs.Lines.{OnLine, CrossingAt}
use Rattle.drawing.specs.Drawing.{Drawing, spot_of, points_at}
use Rattle.location.specs.declared.Hit.{Hit}
use Rattle.location.specs.declared.Hit.TheVariants.{Blank, Part, Cable, Crossing}

-- it is no part's spot
abbrev pub NoPart : Drawing → Spot → Type 0
NoPart d s = (p : ℕ) → p < length d.parts → spot_of d p ≡ s → ⊥

-- it is on the line of the cable at line i
abbrev pub OnCable : Drawing → Spot → ℕ → Type 0
OnCable d s i = (i < length d.routes) × OnLine (points_at d i) s

-- no part and no cable is there
pub record IsBlank (d : Drawing) (s : Spot) : Type 0 where
  pub no_part : NoPart d s
  pub no_cable_lem : (i : ℕ) → OnCable d s i → ⊥

-- the part is there
pub record IsPart (d : Drawing) (s : Spot) (p : ℕ) : Type 0 where
  pub is_part : p < length d.parts
  pub its_spot : spot_of d p ≡ s

-- the cable is there, and no other, and no part
pub record IsCable (d : Drawing) (s : Spot) (i : ℕ) : Type 0 where
  pub no_part : NoPart d s
  pub on_line : OnCable d s i
  pub alone : (j : ℕ) → OnCable d s j → j ≡ i

-- the two cables cross there, the first has the lower line, and there is no other and no part
pub record IsCrossing (d : Drawing) (s : Spot) (i j : ℕ) : Type 0 where
  pub no_part : NoPart d s
  pub lower : i < j
  pub on_lines : OnCable d s i × OnCable d s j
  pub crossing : CrossingAt (points_at d i) (points_at d j) s
  pub alone : (k : ℕ) → OnCable d s k → (k ≡ i) ⊎ (k ≡ j)

-- what each answer says
abbrev pub Lies : Drawing → Spot → Hit → Type 0
Lies d s Blank = IsBlank d s
Lies d s (Part p) = IsPart d s p.0
Lies d s (Cable i) = IsCable d s i
Lies d s (Crossing i j) = IsCrossing d s i j
