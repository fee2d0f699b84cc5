-- What each step of the descent says: the entry that holds item n of a container, and the item itself or what lies under it.
use Rattle.std.specs.Prelude.{ℕ, suc, ◌+◌, ◌*◌, ◌/◌, ◌%◌, ◌≤◌, ◌<◌, ◌^◌, ◌≡◌, true, cond, List, leb, get_or}
use Rattle.place.specs.declared.Item.{Item}
use Rattle.place.specs.declared.Pose.{Pose}
use Rattle.place.specs.Item.{zero_item}
use Rattle.place.specs.Placing.{placed, PoseWithin, ItemWithin}
use Rattle.place.specs.Outer.{flashed_by}
use Rattle.place.specs.Copies.{step}
use Rattle.sheet.specs.Records.{entry_of, entry_room}
use Rattle.sheet.specs.Containers.{body_of}
use Rattle.sheet.specs.Meaning.{repeat_of, items}
use Rattle.sheet.specs.Valid.{most, far, valid}
use Rattle.sheet.specs.declared.Entry.{Entry}
use Rattle.sheet.specs.declared.Container.{Container}
use Rattle.sheet.specs.Sound.{Sound}
use Rattle.descend.specs.declared.Step.{Step}
use Rattle.descend.specs.declared.Step.TheVariants.{Here, Copied, Flashed}

-- a search among a container's entries: these are there, the first begins with item n or before it, and none begins before the one
-- in front of it
pub record Searched (e : List ℕ) (k : Container) (n : ℕ) : Type 0 where
  pub inside : k.first + k.len ≤ entry_room e
  pub some : 0 < k.len
  pub begins : (entry_of e k.first).before ≤ n
  pub rises : (q : ℕ) → k.first ≤ q → q + 1 < k.first + k.len → (entry_of e q).before ≤ (entry_of e (q + 1)).before

-- where it ends: the last that has at most n items before it
pub record Found (e : List ℕ) (k : Container) (n q : ℕ) : Type 0 where
  pub low : k.first ≤ q
  pub high : q < k.first + k.len
  pub begins : (entry_of e q).before ≤ n
  pub next : q + 1 < k.first + k.len → n < (entry_of e (q + 1)).before

-- k is a container of a sheet, and has an item n
pub record Held (e a : List ℕ) (k : Container) (n : ℕ) : Type 0 where
  pub head : List ℕ
  pub ok : valid head e a ≡ true
  pub sound : Sound head e a k
  pub inside : n < k.items

-- item j of the copies of a repeat can be worked out
pub record Split (r : Entry) (j : ℕ) : Type 0 where
  pub some : 0 < r.count
  pub column_some : 0 < r.sy * r.count
  pub column_in : r.sy * r.count ≤ most
  pub step_x : j / (r.sy * r.count) * r.cx ≤ 10 ^ 16
  pub step_y : j % (r.sy * r.count) / r.count * r.cy ≤ 10 ^ 16

-- in column j / (ny · m), row q / m: item q % m of the body, which has m items
unfoldable pub copy_of : Entry → ℕ → Step
copy_of r j = Copied
    (body_of r)
    (j % (r.sy * r.count) % r.count)
    (step (repeat_of r) (j / (r.sy * r.count)) (j % (r.sy * r.count) / r.count))

-- how far the items of a container of height h lie: a flash adds 2·10^12 at most, a repeat 10^16
unfoldable pub spread : ℕ → ℕ
spread h = cond (leb h 9) (h * far) (2 * 10 ^ 16)

-- the item is drawn here
pub record HereIs (e a : List ℕ) (k : Container) (n : ℕ) (t : Item) : Type 0 where
  pub near : ItemWithin (spread k.height) t
  pub is : (h : ℕ) → k.height ≤ suc h → t ≡ get_or (items e a (suc h) k) n zero_item

-- it is item j of the container under k, as `out` puts it out, in the pose m
pub record BelowIs (e a : List ℕ) (k : Container) (n : ℕ) (under : Container) (j : ℕ) (m : Pose) (out : Item → Item) : Type 0 where
  pub held : Held e a under j
  pub lower : under.height < k.height
  pub pose_in : PoseWithin (10 ^ 16) m
  pub near : (t : Item) → ItemWithin (spread under.height) t → ItemWithin (spread k.height) (out t)
  pub is : (h : ℕ) → k.height ≤ suc h → out (get_or (items e a h under) j zero_item) ≡ get_or (items e a (suc h) k) n zero_item

abbrev pub Descends : List ℕ → List ℕ → Container → ℕ → Step → Type 0
Descends e a k n (Here t) = HereIs e a k n t
Descends e a k n (Copied under j m) = BelowIs e a k n under j m (placed m)
Descends e a k n (Flashed under j m place) = BelowIs e a k n under j m (flashed_by place m)

-- the descent, with the height left
pub record Asked (e a : List ℕ) (left : ℕ) (k : Container) (n : ℕ) : Type 0 where
  pub held : Held e a k n
  pub high : k.height ≤ left

pub record Answered (e a : List ℕ) (left : ℕ) (k : Container) (n : ℕ) (t : Item) : Type 0 where
  pub is : t ≡ get_or (items e a left k) n zero_item
  pub near : ItemWithin (spread k.height) t

-- the items of k from n on are asked for, one after the other
pub record Whole (e a : List ℕ) (k : Container) (n : ℕ) : Type 0 where
  pub head : List ℕ
  pub ok : valid head e a ≡ true
  pub sound : Sound head e a k
  pub starts : n ≤ k.items
