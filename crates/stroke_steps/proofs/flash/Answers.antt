-- `stroke_steps::flash` meets its contract: the first rule that is broken decides, and where none is, what the D03 draws is put.
use mathlib.Core.Path.{refl}
use Rattle.faults.proofs.Rules.{broken, kept}
use Rattle.stroke_steps.proofs.Known.{known_fits}
use Rattle.stroke_steps.proofs.Flashed.{flash_refused, may_flash, flash_goes}
use Rattle.stroke_steps.proofs.flash.Goals as goal

pub entries_left-left-requires : goal.entries_left-left-requires
entries_left-left-requires c = known_fits _ _ c.requires

pub returns-in-Err : goal.returns-in-Err
returns-in-Err c = (refl, flash_refused _ _ _ _ _ c.level_of.ensures c.entries_left-left.ensures c.flash_fault.ensures _ _ (broken c.in-Err.is))

pub flash_block-requires : goal.flash_block-requires
flash_block-requires c =
    record {
      may_flash = may_flash _ _ c.args.place _ _ c.level_of.ensures c.entries_left-left.ensures c.flash_fault.ensures c.requires (kept c.in_default.is);
      block_value = c.if-g.true;
    }

pub returns-then-g : goal.returns-then-g
returns-then-g c =
    (c.flash_block.auto.e, flash_goes _ _ _ _ _ c.level_of.ensures c.entries_left-left.ensures c.flash_fault.ensures _ _ (kept c.in_default.is) c.flash_block.ensures)

pub flash_item-requires : goal.flash_item-requires
flash_item-requires c =
    record {
      may_flash = may_flash _ _ c.args.place _ _ c.level_of.ensures c.entries_left-left.ensures c.flash_fault.ensures c.requires (kept c.in_default.is);
      block_value = c.if-g.false;
    }

pub returns : goal.returns
returns c =
    (c.flash_item.auto.e, flash_goes _ _ _ _ _ c.level_of.ensures c.entries_left-left.ensures c.flash_fault.ensures _ _ (kept c.in_default.is) c.flash_item.ensures)
