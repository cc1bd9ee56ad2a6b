use mathlib.Core.List.{List}
use mathlib.Core.Path.{◌∙◌, ap}
use native.Mathlib.Omega.{arith}
use lib.ListN.{length, get_or}
use Prim.Native.Nat.{ℕ, ◌/◌}
use Rattle.std.specs.Int.{w32, from_be_bytes}
use Rattle.lists.proofs.Fill.{filled_more, filled_end}
use Rattle.text.specs.Bytes.{words_in}
use Rattle.text.proofs.ByteLaws.{chunk_word}
use Rattle.text.proofs.bytes.read_words.Goals as goal

pub loop-i-preserved : goal.loop-i-preserved
loop-i-preserved c =
    filled_more _ 0 _ (omega arith) (
    c.from_be_bytes.ensures
    ∙ ap (λ (chunks : List (List ℕ)). from_be_bytes w32 (get_or chunks c.loop-i.i _)) c.as_chunks.ensures.front
    ∙ chunk_word (length c.args.bytes.now / 4) c.loop-i.i c.args.bytes.now _ (omega (arith, c.as_chunks.ensures.front_len))
    ) c.loop-i.invariant

pub returns-clause-stored : goal.returns-clause-stored
unfolding words_in
returns-clause-stored c = filled_end _ 0 _ (omega arith) c.requires c.loop-i.invariant
