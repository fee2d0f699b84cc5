-- Positions in a container, counted from 1 (02, request [12]; decision 331).
use Rattle.std.specs.Prelude.{ℕ, zero, suc, ◌+◌, ◌-◌, ◌≤◌, ◌<◌, ◌≡◌, cond, List, leb}
use Rattle.base.specs.Run.{sums}
use Rattle.sheet.specs.Records.{entry_of, role_of, entry_room}
use Rattle.sheet.specs.declared.Entry.{Entry}
use Rattle.sheet.specs.declared.Role.{Role}
use Rattle.sheet.specs.declared.Role.TheVariants.{Draws, Uses, Repeats, Defines, Unknown}
use Rattle.law_addresses.specs.declared.Spot.{Spot}

-- an item and a flash of a block stand at one position, the definition of a block at none
unfoldable pub stands : Role → ℕ
stands Draws = 1
stands Uses = 1
stands Repeats = 0
stands Defines = 0
stands Unknown = 0

abbrev pub stands_at : List ℕ → ℕ → ℕ
stands_at e i = stands (role_of (entry_of e i).kind)

-- how many positions an entry takes: a repeat those of its body, which is written once
unfoldable pub span_as : Role → List ℕ → Entry → ℕ
span_as Draws e r = 1
span_as Uses e r = 1
span_as Repeats e r = sums (stands_at e) r.who r.scale
span_as Defines e r = 0
span_as Unknown e r = 0

unfoldable pub span_of : List ℕ → Entry → ℕ
span_of e r = span_as (role_of r.kind) e r

abbrev pub span_at : List ℕ → ℕ → ℕ
span_at e i = span_of e (entry_of e i)

-- the first of n entries from p on that holds position m, where each takes F of them, and which of its own that is
unfoldable pub spot : (ℕ → ℕ) → ℕ → ℕ → ℕ → Spot
spot F p zero m = record { entry = p; left = m }
spot F p (suc n) m = cond (leb m (F p)) (record { entry = p; left = m }) (spot F (suc p) n (m - F p))

-- the body of an entry that repeats lies in the room
abbrev pub Reaches : List ℕ → Entry → Type 0
Reaches e r = role_of r.kind ≡ Repeats → r.who + r.scale ≤ entry_room e

-- n entries from p on lie in the room, with the bodies of their repeats, and take no more positions than it has entries
pub record Spans (e : List ℕ) (p n : ℕ) : Type 0 where
  pub inside : p + n ≤ entry_room e
  pub bodies : (i : ℕ) → i < n → Reaches e (entry_of e (p + i))
  pub fits : sums (span_at e) p n ≤ entry_room e
