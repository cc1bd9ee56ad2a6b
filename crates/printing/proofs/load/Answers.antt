-- `printing::load` meets its contract. Assumes nothing.
use mathlib.Core.Path.{refl, sym, ◌∙◌, ap}
use native.Mathlib.Omega.{arith}
use Rattle.std.specs.Prelude.{Ok}
use Rattle.printing.proofs.FileLaws.{loaded_large, loaded_broken, loaded_words}
use Rattle.printing.proofs.load.Goals as goal

pub returns-then-bytes-gt-MOST_BYTES : goal.returns-then-bytes-gt-MOST_BYTES
returns-then-bytes-gt-MOST_BYTES c = record {
  answer = sym (loaded_large _ (omega arith));
  stored = refl;
}

pub returns-then-bytes-ne0 : goal.returns-then-bytes-ne0
returns-then-bytes-ne0 c = record {
  answer = sym (loaded_broken _ (omega arith) (λ e. omega arith));
  stored = refl;
}

pub returns : goal.returns
returns c = record {
  answer = ap Ok c.read_words.ensures.count ∙ sym (loaded_words _ (omega arith) (omega arith));
  stored = c.read_words.ensures.stored ∙ simp c.read_words.ensures.count;
}
