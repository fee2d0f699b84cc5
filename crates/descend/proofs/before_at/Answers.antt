-- `descend::before_at` meets its contract: the word read is that of the record.
use Rattle.sheet.specs.Records.{entry_width, entry_in, entry_of}
use lib.Seq.{get_or-drop}
use mathlib.Core.Path.{sym}
use Prim.Native.Nat.{◌*◌}
use Rattle.descend.proofs.before_at.Goals as goal

pub returns : goal.returns
unfolding entry_of entry_in
returns c = sym (get_or-drop (c.args.i * entry_width) c.args.e.now 1 0)
