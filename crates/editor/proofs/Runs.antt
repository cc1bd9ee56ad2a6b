-- The theorem over runs of operations: 'that list followed by the cables of the successful lays, in their sequence', which passes checks 1
-- to 8 again. Assumes nothing.
use Rattle.std.specs.Prelude.{Ok, Err}
use Prim.Native.Nat.{ℕ, suc, ◌+◌, ◌<◌}
use native.Mathlib.Omega.{arith}
use mathlib.Core.Path.{◌≡◌, refl, sym, ap, ◌∙◌}
use mathlib.Core.List.{List, [], ◌∷◌, ◌++◌, map}
use lib.ListN.{length, get_or, set, take, drop, length-set}
use lib.Seq.{take-set-lt, take-suc-set, set-append_left, get_or-set_same, drop-set-lt, length-take-le}
use Rattle.words.specs.Words.{cables_of, cable_word}
use Rattle.station.specs.Station.{cable_of, station_of}
use Rattle.checks.specs.declared.Fault.TheVariants as faults
use Rattle.checks.specs.Checks.{Clear, first_refusal, passed, Verdict, refused}
use Rattle.station.specs.Checks.{list_checks}
use Rattle.editor.specs.declared.Proposal.{Proposal}
use Rattle.editor.specs.Rows.{present, list_in, raised_by, followed_by, longer}
use Rattle.editor.specs.Checks.{commit_checks}
use Rattle.editor.specs.Operations.{Operation, Propose, Commit, stored, leaves, Effect, effect}
use Rattle.editor.specs.Runs.{run, laid_by, laid, Grown}
use Rattle.editor.proofs.Rows.{head_is, length_due}
use Rattle.editor.proofs.Followed.{raised_cables, length_followed, cables_followed, followed_none, followed_again}
use Rattle.editor.proofs.Longer.{two, few, kind}
use Rattle.editor.proofs.Commits.{Fit, commit_fits, stale_refused}
use Rattle.editor.proofs.Effects.{commit_refused, commit_stored}

-- ---- a cable stored
module _ (p : Proposal) (row : List ℕ) (C : Clear list_checks (list_in row)) (room : present row + 2 < length row) where
  fits : cables_of (get_or row 0 0) + 1 < 65536
  fits = rw (← head_is row) (few (list_in row) C)

  head_stored : get_or (stored p row) 0 0 ≡ raised_by 1 (get_or row 0 0)
  unfolding stored
  head_stored = get_or-set_same (set row (present row + 2) (cable_word p.one p.other)) 0 _ 0 (simp length-set (omega arith))

  present_stored : present (stored p row) ≡ present row + 1
  unfolding present
  present_stored = ap cables_of head_stored ∙ raised_cables (get_or row 0 0) 1 fits

  -- the list with one more cable
  list_stored : list_in (stored p row) ≡ longer p.one p.other (list_in row)
  unfolding list_in stored longer followed_by
  list_stored =
      let m = present row in
      let w = cable_word p.one p.other in
      let head = raised_by 1 (get_or row 0 0) in
      let e : present (stored p row) + 2 ≡ suc (m + 2) = omega (arith, present_stored) in
      ap (λ (k : ℕ). take k (stored p row)) e
      ∙ take-set-lt (suc (m + 2)) (set row (m + 2) w) 0 head (omega arith)
      ∙ ap (λ (l : List ℕ). set l 0 head) (take-suc-set row (m + 2) w room)
      ∙ set-append_left (take (m + 2) row) (w ∷ []) 0 head (omega (arith, length-take-le (m + 2) row (omega arith)))
      ∙ ap (λ (h : ℕ). set (take (m + 2) row) 0 (raised_by 1 h) ++ (w ∷ [])) (sym (head_is row))

  length_stored : length (stored p row) ≡ length row
  unfolding stored
  length_stored = simp length-set refl

  -- no word behind it is touched
  behind_stored : (k : ℕ) → present row + 2 < k → drop k (stored p row) ≡ drop k row
  unfolding stored
  behind_stored k h = drop-set-lt k _ 0 _ (omega arith) ∙ drop-set-lt k row (present row + 2) _ h

-- ---- one operation more in front of a run
module _ (operation : Operation) (operations : List Operation) (row : List ℕ) where
  -- one that lays no cable
  pub grown_kept : (effect operation row).row ≡ row → laid_by operation (effect operation row).verdict ≡ [] → Grown operations row → Grown (operation ∷ operations) row
  unfolding run laid
  grown_kept same none G = record {
    list = rw (same, none) G.list;
    passes = rw same G.passes;
    length_kept = rw same G.length_kept;
    behind = rw same G.behind;
  }

-- one that lays a cable
module _ (p : Proposal) (operations : List Operation) (row : List ℕ) (F : Fit p row) (G : Grown operations (stored p row)) where
  words : List ℕ
  words = laid operations (stored p row)

  longer_list : list_in (run operations (stored p row)) ≡ followed_by (list_in row) (cable_word p.one p.other ∷ words)
  unfolding words longer
  longer_list =
      G.list
      ∙ ap (λ (l : List ℕ). followed_by l words) (list_stored p row F.passed F.room)
      ∙ followed_again (list_in row) (cable_word p.one p.other ∷ []) words (omega (arith, two (list_in row) F.passed)) (few (list_in row) F.passed)

  long : present row + 2 < length (list_in (run operations (stored p row)))
  long =
      omega (
        arith,
        ap length longer_list,
        length_followed (list_in row) (cable_word p.one p.other ∷ words) (omega (arith, two (list_in row) F.passed)),
        length_due row F.passed,
      )

  grown_laid : (effect (Commit p) row).verdict ≡ passed → (effect (Commit p) row).row ≡ stored p row → Grown (Commit p ∷ operations) row
  unfolding run laid laid_by words
  grown_laid passed same = record {
    list = rw (same, passed) longer_list;
    passes = rw same G.passes;
    length_kept = rw same (G.length_kept ∙ length_stored p row F.passed F.room);
    behind = rw same (G.behind ∙ behind_stored p row F.passed F.room _ long);
  }

grown_commit : (p : Proposal) (operations : List Operation) (row : List ℕ) → Clear list_checks (list_in row) → ((r : List ℕ) → Clear list_checks (list_in r) → Grown operations r)
    → (verdict : Verdict) → first_refusal (commit_checks p) row ≡ verdict → Grown (Commit p ∷ operations) row
unfolding laid_by
grown_commit p operations row C rest (Ok u) e =
    let F = commit_fits p row e in
    let f = commit_stored p row e in
    grown_laid p operations row F (rest (stored p row) (rw (list_stored p row F.passed F.room) F.passes)) (ap (λ (x : Effect). x.verdict) f) (ap (λ (x : Effect). x.row) f)
grown_commit p operations row C rest (Err r) e =
    let f = commit_refused p row r.fault r.place e in
    grown_kept (Commit p) operations row (ap (λ (x : Effect). x.row) f) (ap (λ (x : Effect). laid_by (Commit p) x.verdict) f) (rest row C)

-- 'From a row whose list passes checks 1 to 8, with nothing else writing to it, any run of tries and lays leaves that list followed by the
-- cables of the successful lays, in their sequence.'
pub grown : (operations : List Operation) (row : List ℕ) → Clear list_checks (list_in row) → Grown operations row
unfolding run laid effect leaves laid_by
grown [] row C = record {
  list = sym (followed_none (list_in row) (kind (list_in row) C));
  passes = C;
  length_kept = refl;
  behind = refl;
}
grown (Propose one other ∷ operations) row C = grown_kept (Propose one other) operations row refl refl (grown operations row C)
grown (Commit p ∷ operations) row C = grown_commit p operations row C (λ r D. grown operations r D) (first_refusal (commit_checks p) row) refl

-- the station's cables, by line
pub grown_cables : (operations : List Operation) (row : List ℕ) → Clear list_checks (list_in row)
    → (station_of (list_in (run operations row))).cables ≡ (station_of (list_in row)).cables ++ map cable_of (laid operations row)
grown_cables operations row C = ap (λ (l : List ℕ). (station_of l).cables) (grown operations row C).list ∙ cables_followed (list_in row) (laid operations row) (two (list_in row) C)

-- ---- versions
module _ (operations : List Operation) (row : List ℕ) (C : Clear list_checks (list_in row)) where
  -- m grows by the cables laid
  pub present_grown : present (run operations row) ≡ present row + length (laid operations row)
  present_grown =
      let G = grown operations row C in
      omega (
        arith,
        length_due (run operations row) G.passes,
        ap length G.list,
        length_followed (list_in row) (laid operations row) (omega (arith, two (list_in row) C)),
        length_due row C,
      )

  -- so that a slip of a version gone by gets 15 ever after
  pub stale_for_good : (p : Proposal) → p.version < present row → first_refusal (commit_checks p) (run operations row) ≡ refused faults.StaleProposal (present (run operations row))
  stale_for_good p h = stale_refused p (run operations row) (grown operations row C).passes (λ e. omega (arith, present_grown))

-- as do all slips of the version of one that was laid
pub laid_once : (p q : Proposal) (operations : List Operation) (row : List ℕ) → first_refusal (commit_checks p) row ≡ passed → q.version ≡ p.version
    → first_refusal (commit_checks q) (run operations (stored p row)) ≡ refused faults.StaleProposal (present (run operations (stored p row)))
laid_once p q operations row e same =
    let F = commit_fits p row e in
    stale_for_good operations (stored p row) (rw (list_stored p row F.passed F.room) F.passes) q
    (omega (arith, same, F.version, present_stored p row F.passed F.room))
