-- The containers of a valid sheet: what holds of one, and of the bodies of its repeats.
use Rattle.std.specs.Prelude.{ℕ, ◌+◌, ◌≤◌, ◌<◌, ◌≡◌, true, List}
use Rattle.base.specs.Run.{sums}
use Rattle.sheet.specs.Records.{entry_of, role_of}
use Rattle.sheet.specs.Valid.{most, ok_entry, size_at, ok_container}
use Rattle.sheet.specs.declared.Container.{Container}
use Rattle.sheet.specs.Containers.{entries_used, apertures_used, body_of}
use Rattle.sheet.specs.declared.Role.TheVariants.{Repeats}

-- a container whose entries are in order
pub record ContainerOk (e a : List ℕ) (used n : ℕ) (k : Container) : Type 0 where
  pub inside : k.first + k.len ≤ used
  pub small : k.items ≤ most
  pub each_ok : (i : ℕ) → i < k.len → ok_entry a n k.height (entry_of e (k.first + i)) ≡ true
  pub before_is : (i : ℕ) → i < k.len → (entry_of e (k.first + i)).before ≡ sums (size_at e a) k.first i
  pub items_are : sums (size_at e a) k.first k.len ≡ k.items

-- a container of the sheet, and the bodies of its repeats
pub record Sound (head e a : List ℕ) (k : Container) : Type 0 where
  pub ok : ContainerOk e a (entries_used head) (apertures_used head) k
  pub low : 1 ≤ k.height
  pub high : k.height ≤ 10
  pub bodies : (i : ℕ) → i < k.len → role_of (entry_of e (k.first + i)).kind ≡ Repeats →
      ok_container e a (entries_used head) (apertures_used head) (body_of (entry_of e (k.first + i))) ≡ true
