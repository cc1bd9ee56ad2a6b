-- An answer told, where it is a success and where it is a refusal. Assumes nothing.
use Rattle.std.specs.Prelude.{ℕ, ◌≡◌, Result, Ok, Err}
use mathlib.Core.Path.{refl, sym, subst}
use Rattle.checks.specs.declared.Refusal.{Refusal}
use Rattle.checks.specs.Checks.{number_of}
use Rattle.exports.specs.Told.{Told}

module _ {A : Type 0} (Stored : A → Type 0) (Refused : Type 0) (place : ℕ) {answer : Result A Refusal} where
  pub told_ok : {x : A} → answer ≡ Ok x → Stored x → Told Stored Refused answer place place 0
  unfolding Told
  told_ok e s = subst (λ (a : Result A Refusal). Told Stored Refused a place place 0) (sym e) (refl, refl, s)

  pub told_err : {r : Refusal} → answer ≡ Err r → Refused → Told Stored Refused answer place r.place (number_of r.fault)
  unfolding Told
  told_err {r} e k = subst (λ (a : Result A Refusal). Told Stored Refused a place r.place (number_of r.fault)) (sym e) (refl, refl, k)
