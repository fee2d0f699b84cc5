-- `address::seek_in` meets its contract, role by role.
use Rattle.address.proofs.Tops.{top_down, top_known, top_copied, in_draws, in_uses, not_draws, not_uses, in_repeats, in_defines, in_unknown}
use mathlib.Core.Path.{sym, ◌∙◌}
use Rattle.address.proofs.seek_in.Goals as goal

pub returns-then-copy-eq0 : goal.returns-then-copy-eq0
returns-then-copy-eq0 c =
    c.drawn_at.ensures ∙ in_draws _ _ _ _ _ _ (sym c.role_of.ensures ∙ c.in-Draws.is) c.if-copy-eq0.true

pub block_at-requires : goal.block_at-requires
block_at-requires c =
    rw c.index.ensures (top_known _ _ _ c.requires.0 (sym c.role_of.ensures ∙ c.in-Uses.is))

pub seek_use-requires : goal.seek_use-requires
seek_use-requires c =
    rw (c.block_at.ensures, c.index.ensures, c.requires.1)
    (top_down _ _ _ c.requires.0 (sym c.role_of.ensures ∙ c.in-Uses.is))

pub returns-then-copy-eq0-2 : goal.returns-then-copy-eq0-2
returns-then-copy-eq0-2 c =
    rw (c.block_at.ensures, c.index.ensures) at c.seek_use.ensures
    ∙ in_uses _ _ _ _ _ _ (sym c.role_of.ensures ∙ c.in-Uses.is) c.if-copy-eq0-2.true c.requires.1

pub seek_copy-requires : goal.seek_copy-requires
seek_copy-requires c =
    rw c.requires.1 (top_copied _ _ _ c.requires.0 (sym c.role_of.ensures ∙ c.in-Repeats.is))

pub returns-else-copy-eq0 : goal.returns-else-copy-eq0
returns-else-copy-eq0 c =
    not_draws _ _ _ _ _ _ (sym c.role_of.ensures ∙ c.in-Draws.is) c.if-copy-eq0.false

pub returns-else-copy-eq0-2 : goal.returns-else-copy-eq0-2
returns-else-copy-eq0-2 c =
    not_uses _ _ _ _ _ _ (sym c.role_of.ensures ∙ c.in-Uses.is) c.if-copy-eq0-2.false

pub returns-in-Repeats : goal.returns-in-Repeats
returns-in-Repeats c =
    c.seek_copy.ensures ∙ in_repeats _ _ _ _ _ _ (sym c.role_of.ensures ∙ c.in-Repeats.is)

pub returns-in-Defines : goal.returns-in-Defines
returns-in-Defines c =
    in_defines _ _ _ _ _ _ (sym c.role_of.ensures ∙ c.in-Defines.is)

pub returns-in-Unknown : goal.returns-in-Unknown
returns-in-Unknown c =
    in_unknown _ _ _ _ _ _ (sym c.role_of.ensures ∙ c.in-Unknown.is)
