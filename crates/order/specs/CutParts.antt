-- Document 01's check 10, which request 2026-14 replaces by one that refuses fewer lists. Only laws cite it. Assumes nothing.
use Rattle.std.specs.Prelude.{not, Option, ℕ}
use Rattle.lists.specs.Search.{seek}
use Rattle.lists.specs.Select.{range, without}
use Rattle.station.specs.Station.{Station}
use Rattle.order.specs.Reach.{connected}

-- 'a part whose removal leaves two others without a path', 'lowest such part': a cut vertex
unfoldable pub cut_part : Station → Option ℕ
cut_part st = seek (λ v. not (connected st.cables (without v (range st.parts)))) 0 st.parts
