-- `noting::hear` meets its contract: each text by its name.
-- Assumes nothing.
use Rattle.noting.proofs.Hearing.{all_heard}
use Rattle.noting.proofs.hear.Goals as goal

pub returns : goal.returns
returns c =
    all_heard _ _ c.designators-both.ensures c.number_of-number.ensures c.text_of-rotation.ensures c.text_of-value.ensures c.text_of-footprint.ensures c.text_of-mount.ensures
