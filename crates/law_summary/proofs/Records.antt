-- The records of the apertures in a store that a reading left are the apertures that it knows: as many have a number.
-- Assumes nothing.
use Prim.Native.Nat.{ℕ, zero, suc, ◌+◌, ◌≤◌, ◌<◌}
use mathlib.Core.Path.{◌≡◌, refl, sym, ap, ◌∙◌}
use mathlib.Core.Bool.{Bool, true, false, cond, not}
use mathlib.Core.List.{List, [], ◌∷◌}
use native.Mathlib.Nat.{zero-add}
use native.Mathlib.Omega.{arith}
use lib.Dec.{eqb}
use borrow.Author.Tests.{eq-eqb, ne_eqb}
use Rattle.base.specs.And.{◌and◌}
use Rattle.base.specs.Or.{◌or◌}
use Rattle.base.specs.Run.{run, sums}
use Rattle.base.proofs.And.{true_and, false_and}
use Rattle.base.proofs.Run.{sums_cong, sums_snoc}
use Rattle.place.specs.Item.{is_oriented}
use Rattle.place.specs.declared.Item.{Item}
use Rattle.sheet.specs.Records.{aperture_of}
use Rattle.sheet.specs.Valid.{is_block}
use Rattle.sheet.specs.declared.Aperture as store
use Rattle.sheet.proofs.Every.{sums_grow}
use Rattle.summary_rows.specs.Rows.{row, no_row}
use Rattle.summary_rows.specs.Summed.{asks, points_of, extent_of, item_row, row_of}
use Rattle.summary_rows.specs.declared.Asked.TheVariants.{Aperture}
use Rattle.summary_rows.proofs.Rows.{none_merged}
use Rattle.summary_rows.proofs.Totals as totals
use Rattle.summary_rows.proofs.Totals.{records, Named}
use Rattle.law_reading.specs.State as state
use Rattle.law_reading.specs.Apertures.{block, block_of}
use Rattle.progress.specs.Tables.{as_stored, as_read}
use Rattle.law_summary.specs.Tools.{how_many, of_block, numbered, tools, blocks, Tooled, AllTooled, none, more}
use Rattle.law_summary.proofs.Tools.{tools_blocks}

read_number : (r : store.Aperture) → (as_read r).number ≡ r.number
unfolding as_read as_stored block_of
read_number r = go (eqb r.kind block)
  where
    go : (t : Bool) → (cond t (block_of r.number r.items r.height) (as_stored r)).number ≡ r.number
    go true = refl
    go false = refl

many_run : (is : state.Aperture → Bool) (f : ℕ → state.Aperture) (p n : ℕ) → how_many is (run (λ i. f i ∷ []) p n) ≡ sums (λ b. cond (is (f b)) 1 0) p n
unfolding run how_many sums
many_run is f p zero = refl
many_run is f p (suc n) = ap (λ (k : ℕ). cond (is (f p)) 1 0 + k) (many_run is f (suc p) n)

-- no item has a number that is no tool's
module _ {known : List state.Aperture} (n : ℕ) (untooled : tools n known ≡ 0) where
  no_item : (t : Item) → Tooled known t → item_row (Aperture n) t ≡ no_row
  unfolding item_row asks
  no_item t w = go (is_oriented t.kind) refl
    where
      go : (b : Bool) → is_oriented t.kind ≡ b → cond (b and eqb t.aperture n) (row 1 (extent_of (points_of t))) no_row ≡ no_row
      go true e =
          let one = w.drawn e in
          let other : t.aperture ≡ n → ⊥ = λ (q : t.aperture ≡ n). let z = ap (λ (k : ℕ). tools k known) q in omega arith in
          rw (true_and (eqb t.aperture n), ne_eqb _ _ other)
      go false e = rw (false_and (eqb t.aperture n))

  pub no_row_lem : {ts : List Item} → AllTooled known ts → row_of (Aperture n) ts ≡ no_row
  unfolding row_of
  no_row_lem none = refl
  no_row_lem (more {t = t} w ws) = rw (no_item t w, no_row_lem ws) (none_merged no_row)

module _ (a : List ℕ) (n : ℕ) (known : List state.Aperture) (is : run (λ i. as_read (aperture_of a i) ∷ []) 0 n ≡ known) where
  numbers_are : (k : ℕ) → numbered k known ≡ records (λ b. (aperture_of a b).number) 0 n k
  numbers_are k =
      ap (numbered k) (sym is)
      ∙ many_run (λ r. eqb k r.number) (λ i. as_read (aperture_of a i)) 0 n
      ∙ sums_cong _ _ 0 n (λ i l. rw (read_number (aperture_of a (0 + i))))

  pub named : ((k : ℕ) → numbered k known ≤ 1) → {ts : List Item} → AllTooled known ts → Named (λ b. (aperture_of a b).number) 0 n ts
  named distinct none = totals.none
  named distinct (more {t = t} w ws) =
      totals.more {t = t}
      (λ o.
      let one = w.drawn o in
      let all = tools_blocks t.aperture known in
      let few = distinct t.aperture in
      let here = numbers_are t.aperture in
      omega arith)
      (named distinct ws)

  -- the record of a block is no tool's
  module _ (b : ℕ) (l : b < n) (z : is_block a b ≡ true) where
    block_here : (eqb (aperture_of a b).number (as_read (aperture_of a b)).number and of_block (as_read (aperture_of a b))) ≡ true
    unfolding as_read block_of of_block is_block ◌and◌ ◌or◌
    block_here = rw (z, eq-eqb (aperture_of a b).number (aperture_of a b).number refl)

    block_some : 1 ≤ blocks (aperture_of a b).number known
    block_some =
        let F : ℕ → ℕ = λ i. cond (eqb (aperture_of a b).number (as_read (aperture_of a i)).number and of_block (as_read (aperture_of a i))) 1 0 in
        let all : blocks (aperture_of a b).number known ≡ sums F 0 n =
        ap (blocks (aperture_of a b).number) (sym is) ∙ many_run (λ r. eqb (aperture_of a b).number r.number and of_block r) (λ i. as_read (aperture_of a i)) 0 n in
        let grow = sums_grow F 0 (suc b) n l in
        let last : sums F 0 (suc b) ≡ sums F 0 b + F b = sums_snoc F 0 b ∙ ap (λ (i : ℕ). sums F 0 b + F i) (zero-add b) in
        let one : F b ≡ 1 = rw block_here in
        omega arith

    pub block_untooled : ((k : ℕ) → numbered k known ≤ 1) → tools (aperture_of a b).number known ≡ 0
    block_untooled distinct =
        let some = block_some in
        let all = tools_blocks (aperture_of a b).number known in
        let few = distinct (aperture_of a b).number in
        omega arith
