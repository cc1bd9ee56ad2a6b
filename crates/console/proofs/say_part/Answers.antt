use Rattle.std.proofs.Common.{◌≤◌, length}
use Rattle.std.proofs.lemmas.List.{length-take-le}
use mathlib.Core.Path.{sym}
use native.Mathlib.Omega.{arith}
use Rattle.lists.proofs.Stores.{stored_kept}
use Rattle.text.proofs.LineLaws.{length_hex_lines}
use Rattle.console.proofs.say_part.Goals as goal

-- what is stored is no longer than the buffer
pub slice_bounds-lines-end : goal.slice_bounds-lines-end
slice_bounds-lines-end g c =
    let p = c.put_hex_lines-end in
    let stored : p.result ≤ length p.new.out = omega (arith, p.ensures.place, stored_kept p.ensures, length_hex_lines c.args.words.now, c.requires) in
    sym (length-take-le p.result p.new.out stored)
