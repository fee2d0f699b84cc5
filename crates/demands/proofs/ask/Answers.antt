-- `demands::ask` meets its contract: every demand follows from what the calls ensure.
-- Assumes nothing.
use Rattle.progress.specs.Lent.{lent_of}
use Rattle.demands.proofs.Demands.{demands}
use Rattle.demands.proofs.ask.Goals as goal

pub returns : goal.returns
unfolding lent_of
returns c =
    demands c.read_as-reading.ensures c.at_most_eight-few.ensures.0 c.at_most_eight-few.ensures.1 (record {
      total = c.sheet_total-total.ensures;
      item = c.sheet_item-item.ensures;
      first_room = _;
      first = c.sheet_run-one.ensures;
      second_room = _;
      second = c.sheet_run-two.ensures;
      whole_room = _;
      whole = c.sheet_run-both.ensures;
      list = c.run_of-list.ensures;
      rest = c.run_of-rest.ensures;
      all = c.run_of-all.ensures;
      address = c.address_of-number.ensures;
      named = c.item_of-named.ensures;
    })
