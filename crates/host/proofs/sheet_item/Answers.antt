-- `host::sheet_item` meets its contract: a run of one slot is the item, and has its number.
use mathlib.Core.Path.{◌≡◌, ◌∙◌, ap}
use lib.ListN.{length}
use Rattle.place.specs.Item.{item_width}
use Rattle.descend.specs.Slots.{fetch_number, fetched}
use Rattle.host.proofs.One.{one_item, one_number}
use borrow.Author.Rules.{rules}
use Rattle.host.proofs.sheet_item.Goals as goal

pub returns : goal.returns
returns c =
    let long : length c.args.item.now ≡ item_width = search rules in (
      c.fetch_number.ensures ∙ ap fetch_number c.sheet_run-f.ensures.0 ∙ one_number _ _ _ _,
      c.sheet_run-f.ensures.1 ∙ ap (fetched _ _ _ _) long ∙ one_item _ _ _ _,
    )
