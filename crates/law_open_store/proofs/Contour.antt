-- A contour that is drawn keeps what holds: it begins, an edge more is counted and drawn, and what is drawn is on the sheet.
-- Assumes nothing.
use Prim.Native.Nat.{ℕ, suc, ◌+◌, ◌-◌, ◌≤◌, ◌<◌}
use mathlib.Core.Path.{◌≡◌, refl, ◌∙◌}
use mathlib.Core.List.{List, [], ◌∷◌, ◌++◌}
use native.Mathlib.Nat.{le_refl, add-zero}
use native.Mathlib.Omega.{arith}
use lib.ListN.{length, length-append}
use Rattle.place.specs.Parts.{◌then◌}
use Rattle.place.specs.declared.Item.{Item}
use Rattle.place.specs.Mark.{Sheet, with_count, put}
use Rattle.place.proofs.Parts.{in_row, then_none, then_assoc}
use Rattle.sheet.specs.Records.{entry_of, entry_room}
use Rattle.law_open_store.specs.Open.{Built}
use Rattle.law_open_store.specs.OpenContour.{Draw, DrawAll, Drawing}
use Rattle.law_open_store.proofs.Steps.{built_same, item_grow}

-- all that is drawn is on the sheet
pub all_drawn : (xs : List Item) (s : Sheet) (e a : List ℕ) (room n closed high start h t : ℕ) → Built s e a room n closed high start h t →
    closed + (high + length xs) ≤ room → DrawAll e a room n h high t xs → Built (put (in_row xs) s) e a room n closed (high + length xs) start h (t + length xs)
unfolding DrawAll put in_row ◌then◌
all_drawn [] s e a room n closed high start h t b fits d = rw (then_none, add-zero, add-zero) b
all_drawn (x ∷ xs) s e a room n closed high start h t b fits d =
    let p : suc high + length xs ≡ high + suc (length xs) = omega arith in
    let q : t + 1 + length xs ≡ t + suc (length xs) = omega arith in
    let more = rw d.0.shows at (item_grow s e a room n closed high start h t b _ refl (omega arith) d.0.role d.0.before_is d.0.ok) in
    rw (then_assoc, p, q) at (all_drawn xs _ e a room n closed (suc high) start h (t + 1) more (omega arith) d.1)

pub drawn_built : (s : Sheet) (c : Item) (es : List Item) (e a : List ℕ) (room n closed high start h t : ℕ) → Drawing s c es e a room n closed high start h t →
    Built (put (in_row (with_count (length es) c ∷ es)) s) e a room n closed (high + suc (length es)) start h (t + suc (length es))
drawn_built s c es e a room n closed high start h t d =
    all_drawn (with_count (length es) c ∷ es) s e a room n closed high start h t d.base d.fits d.all

-- the same entries elsewhere draw the same
all_same : (xs : List Item) (e e' a : List ℕ) (room n h p t : ℕ) → ((q : ℕ) → p ≤ q → q < p + length xs → entry_of e (room - suc q) ≡ entry_of e' (room - suc q)) →
    DrawAll e a room n h p t xs → DrawAll e' a room n h p t xs
unfolding DrawAll
all_same [] e e' a room n h p t same d = d
all_same (x ∷ xs) e e' a room n h p t same d =
    (rw (← same p (le_refl _) (omega arith)) d.0, all_same xs e e' a room n h (suc p) (t + 1) (λ q l m. same q (omega arith) (omega arith)) d.1)

-- one more
all_more : (xs : List Item) (y : Item) (e a : List ℕ) (room n h p t : ℕ) → DrawAll e a room n h p t xs →
    Draw a n h (t + length xs) (entry_of e (room - suc (p + length xs))) y → DrawAll e a room n h p t (xs ++ y ∷ [])
unfolding DrawAll
all_more [] y e a room n h p t d m = (rw (add-zero, add-zero) at m, tt)
all_more (x ∷ xs) y e a room n h p t d m =
    let i : p + suc (length xs) ≡ suc p + length xs = omega arith in
    let j : t + suc (length xs) ≡ t + 1 + length xs = omega arith in
    (d.0, all_more xs y e a room n h (suc p) (t + 1) d.1 (rw (i, j) at m))

-- the stack and what is closed stay, after them anything may change
pub record Above (e e' : List ℕ) (room closed high : ℕ) : Type 0 where
  pub as_long : entry_room e' ≡ entry_room e
  pub same_closed : (i : ℕ) → i < closed → entry_of e i ≡ entry_of e' i
  pub same_stack : (p : ℕ) → p < high → entry_of e (room - suc p) ≡ entry_of e' (room - suc p)

pub built_above : (s : Sheet) (e e' a : List ℕ) (room n closed high start h t : ℕ) → Above e e' room closed high → Built s e a room n closed high start h t →
    Built s e' a room n closed high start h t
built_above s e e' a room n closed high start h t above b =
    built_same s e a room n closed high start h t b n e' a
    (record { same_closed = above.same_closed; same_stack = above.same_stack; same_blocks = λ b l q. refl; same_open = λ b l. refl })
    (above.as_long ∙ b.as_long) (le_refl _) (λ b l m. absurd (omega arith)) b.distinct refl

-- a contour begins, with no edge yet
pub contour_begins : (s : Sheet) (c : Item) (e e' a : List ℕ) (room n closed high start h t : ℕ) → Built s e a room n closed high start h t →
    closed + high < room → Above e e' room closed high → Draw a n h t (entry_of e' (room - suc high)) (with_count 0 c) →
    Drawing s c [] e' a room n closed high start h t
unfolding DrawAll
contour_begins s c e e' a room n closed high start h t b left above d = record {
  base = built_above s e e' a room n closed high start h t above b;
  fits = omega arith;
  all = (d, tt);
}

-- an edge more: the contour counts it, and it lies after the others
pub contour_edge : (s : Sheet) (c y : Item) (es : List Item) (e e' a : List ℕ) (room n closed high start h t : ℕ) → Drawing s c es e a room n closed high start h t →
    closed + (high + suc (length es)) < room → Above e e' room closed high →
    Draw a n h t (entry_of e' (room - suc high)) (with_count (suc (length es)) c) →
    ((q : ℕ) → suc high ≤ q → q < suc high + length es → entry_of e (room - suc q) ≡ entry_of e' (room - suc q)) →
    Draw a n h (t + 1 + length es) (entry_of e' (room - suc (suc high + length es))) y →
    Drawing s c (es ++ y ∷ []) e' a room n closed high start h t
unfolding DrawAll
contour_edge s c y es e e' a room n closed high start h t d left above counted same more =
    let long : length (es ++ y ∷ []) ≡ suc (length es) = length-append es (y ∷ []) ∙ omega arith in
    record {
      base = built_above s e e' a room n closed high start h t above d.base;
      fits = omega arith;
      all = (rw long counted, all_more es y e' a room n h (suc high) (t + 1) (all_same es e e' a room n h (suc high) (t + 1) same d.all.1) more);
    }
