-- `build::count_edge` meets its contract: the entry read is stored with one edge more.
use Rattle.build.specs.Counted.{counted_at}
use Rattle.build.proofs.Turning.{next_down}
use Rattle.build.proofs.count_edge.Goals as goal

pub one_more-r-requires : goal.one_more-r-requires
one_more-r-requires c = rw (c.entry_at.ensures, next_down) c.requires.1

pub returns : goal.returns
unfolding counted_at
returns c = rw (c.one_more-r.ensures, c.entry_at.ensures, next_down) at c.put_entry.ensures
