-- `attribute_commands::attribute_of` meets its contract: each row is one of `attribute_of`.
-- Assumes nothing.
use Rattle.attribute_commands.specs.Attributes.{attribute_of}
use Rattle.attribute_commands.proofs.attribute_of.Goals as goal

pub returns : goal.returns
unfolding attribute_of
returns c =
    simp (
      c.pick.ensures,
      c.is_name.ensures,
      c.part.ensures,
      c.pick-tf.ensures,
      c.begins-3.ensures,
      c.pick-ta.ensures,
      c.begins-2.ensures,
      c.pick-to.ensures,
      c.begins.ensures,
      c.value_of-value.ensures,
      c.find-comma.ensures,
    )
