-- Outlines: "lines and arcs are joined when consecutive and meeting, and must close" (02, [4]; decision 588).
use Rattle.std.specs.Prelude.{ℕ, zero, suc, Bool, cond, not, List, get_or}
use Rattle.base.specs.And.{◌and◌}
use Rattle.points.specs.declared.Point.{Point}
use Rattle.points.specs.Points.{same_point}
use Rattle.law_components.specs.Parts.{Part, nothing, is_outline}

-- item k
abbrev pub at : List Part → ℕ → Part
at ps k = get_or ps k nothing

-- two consecutive items: both outline items, the end of one the start of the next; nothing else is asked
unfoldable pub joins : Part → Part → Bool
joins p q = is_outline p.role and (is_outline q.role and same_point p.end q.start)

-- where the outline that item k belongs to begins
unfoldable pub began : List Part → ℕ → Point
began ps zero = (at ps 0).start
began ps (suc k) = cond (joins (at ps k) (at ps (suc k))) (began ps k) (at ps (suc k)).start

-- item k is the last of its outline, and does not come back to where this began
unfoldable pub ends_open : List Part → ℕ → Bool
ends_open ps k =
    (is_outline (at ps k).role and not (same_point (at ps k).end (began ps k)))
    and not (joins (at ps k) (at ps (suc k)))
