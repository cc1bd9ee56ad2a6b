-- The definitions that worked examples compute with, opened together: an example names `lists_computing` on its unfolding line. Assumes
-- nothing.
use Rattle.lists.specs.Search.{seek}
use Rattle.lists.specs.Select.{up_from, range, tabulate, member, any, filter, count, sum, without, lastly, index_of, insert_by, sort_by}

unfoldable pub lists_computing : Unit {0}
unfolding seek up_from range tabulate member any filter count sum without lastly index_of insert_by sort_by
lists_computing = tt
